-- From the machine's laws to the words and back.
use Rattle.std.proofs.Common.{◌≡◌, ℕ, ◌+◌, ◌-◌, ◌<◌, min, false, List, [], ◌∷◌, length, get_or, take, None, sym, refl, ap, ◌∙◌, subst, inl, inr, arith, length-take}
use Rattle.std.proofs.lemmas.List.{ext_get_or, get_or-take}
use Rattle.std.proofs.lemmas.Bool.{cases_lt, cases_Bool}
use Rattle.std.proofs.lemmas.Bool.Decides.{nat_tests}
use Rattle.machine.specs.Loaded.{Loaded}
use Rattle.machine.specs.State.{Slot, cell, landing, start}
use Rattle.machine.specs.Sweeping.{rank}
use Rattle.machine.specs.Sound.{Mem, Sound}
use Rattle.machine.proofs.Fill.{some_none}
use Rattle.rows.specs.Layout.{Raw, Fits, Tidy, Same, Carries, inside, spot, decode, shown, kind_of, forward_of, waiting_of}
use Rattle.rows.proofs.Places.{inside_true, landing_low}
use Rattle.rows.proofs.Shown.{same_state, held_in, held_out, waits_are}
use Rattle.rows.proofs.Keeps.{tidy_by}

-- a sound state in words that fit is tidy, if as many have waited as are dead
pub tidy_of : (L : Loaded) (r : Raw) → Fits r → Sound L (shown r) → r.front + r.waits + rank (shown r).forward r.given ≡ r.given → Tidy r
tidy_of L r f ok q = record { fits = f; lower = ok.lower; given = λ t w e. (ok.used t w e).0.below; queued = q }

-- who waits was given
first_in : (l : List ℕ) → 0 < length l → Mem (get_or l 0 0) l
first_in [] h = absurd (omega arith)
first_in (x ∷ xs) h = inl refl

pub first_given : (L : Loaded) (r : Raw) → Sound L (shown r) → 0 < r.waits → get_or (shown r).waiting 0 0 < r.given
first_given L r ok h = elim (cases_lt (get_or (shown r).waiting 0 0) r.given) [
  | inl l ↦ l
  | inr l ↦ absurd (ok.dead (get_or (shown r).waiting 0 0) (first_in (shown r).waiting (omega (arith, h, waits_are r))) (ok.fresh (get_or (shown r).waiting 0 0) l))
]

-- where none waits
pub none_waiting : (r : Raw) → r.waits ≡ 0 → (shown r).waiting ≡ []
unfolding waiting_of
none_waiting r h = rw h refl

-- what is the same: the problem's words, and what load took
pub same_problem : (a b : Raw) → Same a b → take a.shape.lands b.ws ≡ take a.shape.lands a.ws
same_problem a b e = ext_get_or 0 (take a.shape.lands b.ws) (take a.shape.lands a.ws)
    (length-take a.shape.lands b.ws ∙ ap (min a.shape.lands) e.size ∙ sym (length-take a.shape.lands a.ws))
    (λ i h. let l : i < a.shape.lands = omega (arith, h, length-take a.shape.lands b.ws) in
    get_or-take a.shape.lands b.ws i 0 l ∙ e.copies i (inl l) ∙ sym (get_or-take a.shape.lands a.ws i 0 l))

pub same_carries : (L : Loaded) (a b : Raw) → Same a b → Carries L a.shape → Carries L b.shape
same_carries L a b e = subst (Carries L) (sym e.shape)

-- a table with nothing given and empty landings shows the start
module _ (r : Raw) (fits : Fits r) (none : r.given ≡ 0) (quiet : r.waits ≡ 0) (empty : (i : ℕ) → i < r.shape.records → get_or r.ws (r.shape.lands + i) 0 ≡ 0) where
  nothing_held : (t : Slot) → (shown r).held t ≡ None
  nothing_held (cell e l) = let b : inside r.shape r.given (cell e l) ≡ false = grind (arith, nat_tests) in sym (held_out r (cell e l) b)
  nothing_held (landing k q) = elim (cases_Bool (inside r.shape r.given (landing k q))) [
    | inl b ↦ (
        let h = landing_low r fits k q (inside_true r.shape r.given (landing k q) b) in
        let p : spot r.shape (landing k q) ≡ r.shape.lands + (spot r.shape (landing k q) - r.shape.lands) = omega arith in
        held_in r (landing k q) b ∙ ap decode (ap (λ (i : ℕ). get_or r.ws i 0) p ∙ empty (spot r.shape (landing k q) - r.shape.lands) (omega arith)))
    | inr b ↦ sym (held_out r (landing k q) b)
  ]

  pub shown_start : shown r ≡ start
  unfolding kind_of forward_of
  shown_start = same_state (shown r) start none (λ x. grind (arith, nat_tests)) (λ x. grind (arith, nat_tests)) nothing_held (none_waiting r quiet)

  pub tidy_start : r.front ≡ 0 → Tidy r
  unfolding rank
  tidy_start f = tidy_by r start fits shown_start (λ x. omega arith) (λ t w e. absurd (some_none w None e refl)) (omega (arith, f, quiet))
