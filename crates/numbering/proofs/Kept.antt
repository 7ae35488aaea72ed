-- What the words of a table under numbering still show.
use Rattle.std.proofs.Common.{◌≡◌, ℕ, ◌+◌, ◌<◌, ◌≤◌, cond, ltb, List, length, get_or, Some, Option, sym, ap, ◌∙◌, subst, arith}
use mathlib.Core.Path.{fun_ext}
use Rattle.std.proofs.lemmas.Bool.Decides.{nat_tests}
use Rattle.machine.specs.State.{Slot, cell, landing, State}
use Rattle.machine.specs.Sequence.{nth}
use Rattle.machine.proofs.Numbering.{Fine, fine_short, nth_some}
use Rattle.rows.specs.Layout.{Raw, Fits, Within, spot, word, shown, kind_of, forward_of}
use Rattle.rows.specs.Writes.{over}
use Rattle.rows.proofs.Places.{landing_low}
use Rattle.rows.proofs.Shown.{held_kept}
use Rattle.rows.proofs.Keeps.{fits_with}
use Rattle.numbering.specs.Marked.{Met, Kept, row}

abbrev pub Lives : State → ℕ → Type 0
Lives s e = (e < s.given) × (s.forward e ≡ e)

pub fine : (s : State) (xs : List ℕ) → Met s xs → Fine (Lives s) xs
fine s xs m = record { once = m.once; all = m.all }

pub short : (s : State) (xs : List ℕ) → Fine (Lives s) xs → length xs ≤ s.given
short s xs f = fine_short s.given (Lives s) xs (λ e h. h.0) f

-- the forward of a living entry
pub forward_row : (r : Raw) (e : ℕ) → Lives (shown r) e → row r e 1 ≡ e
unfolding forward_of
forward_row r e h = let f = h.1 in let l = h.0 in grind (arith, nat_tests)

module _ (a : Raw) (xs : List ℕ) where
  over_kinds : (b : Raw) → Kept a (over a b.ws) xs → (shown (over a b.ws)).kind ≡ (shown a).kind
  unfolding kind_of
  over_kinds b k = fun_ext (λ e. ap (λ n. cond (ltb e a.given) n 0) (k.rest e 0 (omega arith) (λ q. omega arith) (λ q. omega arith)))

  over_held : (b : Raw) → Kept a (over a b.ws) xs → (shown (over a b.ws)).held ≡ (shown a).held
  unfolding word
  over_held b k = fun_ext (λ t. held_kept a b.ws a.waits t (at t))
    where
      at : (t : Slot) → Within a.shape a.given t → get_or b.ws (spot a.shape t) 0 ≡ get_or a.ws (spot a.shape t) 0
      at (cell e l) w = k.rest e (3 + l) (omega arith) (λ q. omega arith) (λ q. omega arith)
      at (landing j q) w = let h = landing_low a k.from.tidy.fits j q w in k.low _ (omega (arith, k.from.tidy.fits.below))

  module _ (b : Raw) (k : Kept a b xs) where
    over_kept : Kept a (over a b.ws) xs
    over_kept = subst (λ (r : Raw). Kept a r xs) k.numbers k

    pub fits : Fits b
    fits = subst Fits (sym k.numbers) (fits_with a b.ws a.given a.waits k.from.tidy.fits k.size k.from.tidy.fits.few)

    pub same_given : b.given ≡ a.given
    same_given = ap (λ (r : Raw). r.given) k.numbers

    pub same_kinds : (shown b).kind ≡ (shown a).kind
    same_kinds = ap (λ (r : Raw). (shown r).kind) k.numbers ∙ over_kinds b over_kept

    pub same_held : (shown b).held ≡ (shown a).held
    same_held = ap (λ (r : Raw). (shown r).held) k.numbers ∙ over_held b over_kept

    -- who is held lives
    pub held_lives : (t : Slot) (e : ℕ) → (shown b).held t ≡ Some e → Lives (shown a) e
    held_lives t e h =
        let q : (shown a).held t ≡ Some e = sym (ap (λ (f : Slot → Option ℕ). f t) same_held) ∙ h in
        (k.from.tidy.given t e q, k.from.live t e q)

    -- the i-th of xs
    pub nth_row : (i : ℕ) → i < length xs → nth xs i ≡ Some (row b i 2)
    nth_row i h = let w = nth_some xs i h in w.1 ∙ ap Some (sym (k.slots i w.0 w.1))

    pub met_short : length xs ≤ b.given
    met_short = omega (arith, short (shown a) xs (fine (shown a) xs k.met), same_given)
