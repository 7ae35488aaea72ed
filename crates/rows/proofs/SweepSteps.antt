-- The first steps of sweeping, in the words: a number is written, and a content is renamed.
use Rattle.std.proofs.Common.{◌≡◌, ℕ, ◌+◌, ◌<◌, Bool, true, false, cond, ltb, List, length, get_or, set, Some, Option, sym, refl, ap, ◌∙◌, inl, inr, arith}
use Rattle.std.proofs.lemmas.List.{length-set, get_or-set_other}
use Rattle.std.proofs.lemmas.Bool.Decides.{nat_tests, eqb_tells}
use Rattle.machine.specs.State.{Slot, State, same, put, hold, lives}
use Rattle.machine.specs.Sweeping.{rank, renamed}
use Rattle.machine.proofs.Base.{put_cases}
use Rattle.machine.proofs.Fill.{put_here, put_there}
use Rattle.machine.proofs.Ranks.{rank_small}
use Rattle.machine.proofs.Sweep.{renamed_held}
use Rattle.rows.specs.Layout.{Raw, Copied, Within, spot, place, word, shown, kind_of, forward_of}
use Rattle.rows.specs.Sweeps.{renames, Still, Goes, Ranked}
use Rattle.rows.proofs.Places.{place_fits, word_set, word_column, copied_low, spot_apart, spot_copied}
use Rattle.rows.proofs.Shown.{with, same_state, held_kept, shown_hold, decode_more}
use Rattle.rows.proofs.Keeps.{fits_with, same_then}
use Rattle.rows.proofs.Bridge.{none_waiting}
use Rattle.rows.proofs.SweepStates.{rank_more}

-- one step after another
pub goes_none : (a : Raw) (f : State → State) → Still a → shown a ≡ f (shown a) → Goes a f a
goes_none a f s e = record { still = s; state = e; same = record { shape = refl; size = refl; copies = λ i h. refl } }

pub goes_then : (a b c : Raw) (f g h : State → State) → Goes a f b → Goes b g c → g (f (shown a)) ≡ h (shown a) → Goes a h c
goes_then a b c f g h p q e = record { still = q.still; state = q.state ∙ ap g p.state ∙ e; same = same_then a b c p.same q.same }

-- words that are changed
pub goes_by : (r : Raw) (ws : List ℕ) (f : State → State) → Still r → length ws ≡ length r.ws → ((i : ℕ) → Copied r.shape i → get_or ws i 0 ≡ get_or r.ws i 0) →
    shown (with r ws r.given r.waits) ≡ f (shown r) → ((t : Slot) (w : ℕ) → (f (shown r)).held t ≡ Some w → w < r.given) → Goes r f (with r ws r.given r.waits)
goes_by r ws f s l c e h = record {
  still = record {
    fits = fits_with r ws r.given r.waits s.fits l s.fits.few;
    quiet = s.quiet;
    given = λ t w p. h t w (sym (ap (λ (z : State). z.held t) e) ∙ p);
  };
  state = e;
  same = record { shape = refl; size = l; copies = c };
}

-- a number is written into the slot of an entry
module _ (r : Raw) (s : Still r) (e k : ℕ) (he : e < r.given) where
  abbrev numbered : List ℕ
  numbered = set r.ws (place r.shape.base r.shape.links e 2) k

  shown_numbered : shown (with r numbered r.given r.waits) ≡ shown r
  unfolding kind_of forward_of
  shown_numbered =
      let column = λ (x y : ℕ). word_column r.ws r.shape.base r.shape.links e 2 k x y (omega arith) in
      same_state _ _ refl
      (λ x. ap (λ n. cond (ltb x r.given) n 0) (column x 0 (omega arith) (λ q. omega arith)))
      (λ x. ap (λ n. cond (ltb x r.given) n x) (column x 1 (omega arith) (λ q. omega arith)))
      (λ t. held_kept r numbered r.waits t (λ w. get_or-set_other r.ws (place r.shape.base r.shape.links e 2) _ k 0 (spot_apart r s.fits t w e 2 (omega arith))))
      (none_waiting (with r numbered r.given r.waits) s.quiet ∙ sym (none_waiting r s.quiet))

  goes_number : (at : ℕ) → at ≡ place r.shape.base r.shape.links e 2 → Goes r (λ s. s) (with r (set r.ws at k) r.given r.waits)
  goes_number at p = rw p (goes_by r numbered (λ s. s) s (length-set r.ws _ k)
      (λ i c. get_or-set_other r.ws (place r.shape.base r.shape.links e 2) i k 0 (λ q. let l = copied_low r s.fits i c in omega arith))
      shown_numbered s.given)

  ranked_number : (at : ℕ) → at ≡ place r.shape.base r.shape.links e 2 → k ≡ rank (shown r).forward e → Ranked r e → Ranked (with r (set r.ws at k) r.given r.waits) (e + 1)
  ranked_number at p hk old = rw p (λ x hx.
      let h = place_fits r.shape.base r.shape.links r.shape.capacity (length r.ws) e 2 s.fits.room (omega (arith, s.fits.few)) (omega arith) in
      let w = word_set r.ws r.shape.base r.shape.links e 2 k x 2 h (omega arith) (omega arith) in
      let t = ap (λ (t : State). rank t.forward x) (sym shown_numbered) in
      elim (eqb_tells x e) [
        | inl a ↦ (let z : word numbered r.shape.base r.shape.links x 2 ≡ k = w ∙ rw a.0 refl in z ∙ hk ∙ ap (rank (shown r).forward) (sym a.1) ∙ t)
        | inr a ↦ (let z : word numbered r.shape.base r.shape.links x 2 ≡ word r.ws r.shape.base r.shape.links x 2 = w ∙ rw a.0 refl in
            z ∙ old x (omega (arith, hx, a.1)) ∙ t)
      ])

  pub numbers : (at : ℕ) → at ≡ place r.shape.base r.shape.links e 2 → k ≡ rank (shown r).forward e → Ranked r e →
      Goes r (λ s. s) (with r (set r.ws at k) r.given r.waits) × Ranked (with r (set r.ws at k) r.given r.waits) (e + 1)
  numbers at p hk old = (goes_number at p, ranked_number at p hk old)

pub rank_room : (r : Raw) → Still r → (e k : ℕ) → e < r.given → k ≡ rank (shown r).forward e → k < 65536
rank_room r s e k he hk = let h = rank_small (shown r).forward e in omega (arith, s.fits.few, s.fits.small)

-- the given are still given, by their new numbers
renamed_given : (f : ℕ → ℕ) (o : Option ℕ) (n : ℕ) → ((w : ℕ) → o ≡ Some w → w < n) → (b : Bool) (w : ℕ) → cond b (renamed (rank f) o) o ≡ Some w → w < n
renamed_given f o n h true w e = let q = renamed_held (rank f) o w e in omega (arith, h q.0 q.1, rank_small f q.0, q.2)
renamed_given f o n h false w e = h w e

-- one slot renamed
renames_one : (s : State) (t : Slot) (h : Slot → Option ℕ) → h t ≡ renamed (rank s.forward) (s.held t) → ((u : Slot) → (u ≡ t → ⊥) → h u ≡ s.held u) →
    record { given = s.given; kind = s.kind; forward = s.forward; held = h; waiting = s.waiting } ≡ renames (λ u. same u t) s
renames_one s t h here others = same_state _ _ refl (λ _. refl) (λ _. refl)
    (λ u. elim (put_cases t u (renamed (rank s.forward) (s.held u)) s.held) [
      | inl q ↦ ap h q.0 ∙ here ∙ ap (λ (z : Slot). renamed (rank s.forward) (s.held z)) (sym q.0) ∙ sym q.1
      | inr q ↦ others u q.0 ∙ sym q.1
    ])
    refl

-- what a slot holds is renamed by the number in the slot of that entry
module _ (r : Raw) (s : Still r) (ranked : Ranked r r.given) (t : Slot) (in_t : Within r.shape r.given t) where
  pub new_number : (w n : ℕ) → (shown r).held t ≡ Some w → n ≡ word r.ws r.shape.base r.shape.links w 2 → (w < r.given) × (n ≡ rank (shown r).forward w) × (n + 1 < 65537)
  new_number w n e hn =
      let h = s.given t w e in
      let k : n ≡ rank (shown r).forward w = hn ∙ ranked w h in
      (h, k, let l = rank_room r s w n h k in omega arith)

  module _ (w n at : ℕ) (is : (shown r).held t ≡ Some w) (hn : n ≡ word r.ws r.shape.base r.shape.links w 2) (p : at ≡ spot r.shape t) where
    shown_renamed : shown (with r (set r.ws at (n + 1)) r.given r.waits) ≡ renames (λ u. same u t) (shown r)
    shown_renamed = rw p (shown_hold r s.fits t (n + 1) in_t ∙ ap (λ (o : Option ℕ). hold t o (shown r)) (decode_more n)
        ∙ renames_one (shown r) t (put t (Some n) (shown r).held)
        (put_here t (Some n) (shown r).held ∙ ap Some (new_number w n is hn).1 ∙ ap (renamed (rank (shown r).forward)) (sym is))
        (put_there t (Some n) (shown r).held))

    goes_rename : Goes r (renames (λ u. same u t)) (with r (set r.ws at (n + 1)) r.given r.waits)
    goes_rename = goes_by r (set r.ws at (n + 1)) (renames (λ u. same u t)) s (length-set r.ws at (n + 1))
        (λ i c. get_or-set_other r.ws at i (n + 1) 0 (λ q. spot_copied r s.fits t in_t i c (q ∙ p)))
        shown_renamed
        (λ u v e. renamed_given (shown r).forward ((shown r).held u) r.given (s.given u) (same u t) v e)

    ranked_rename : Ranked (with r (set r.ws at (n + 1)) r.given r.waits) r.given
    unfolding word
    ranked_rename x hx = get_or-set_other r.ws at (place r.shape.base r.shape.links x 2) (n + 1) 0 (λ q. spot_apart r s.fits t in_t x 2 (omega arith) (sym (q ∙ p)))
        ∙ ranked x hx ∙ ap (λ (z : State). rank z.forward x) (sym shown_renamed)

    pub renames_slot : Goes r (renames (λ u. same u t)) (with r (set r.ws at (n + 1)) r.given r.waits) × Ranked (with r (set r.ws at (n + 1)) r.given r.waits) r.given
    renames_slot = (goes_rename, ranked_rename)

-- the next number, by the test
pub next_live : (s t : State) → t ≡ s → (e k : ℕ) → true ≡ lives t e → k ≡ rank s.forward e → k + 1 ≡ rank s.forward (e + 1)
next_live s t q e k h hk =
    let l : lives s e ≡ true = sym (h ∙ ap (λ (z : State). lives z e) q) in
    let m = rank_more s.forward e in grind (arith, nat_tests)

pub next_dead : (s t : State) → t ≡ s → (e k : ℕ) → e < s.given → false ≡ lives t e → k ≡ rank s.forward e → k ≡ rank s.forward (e + 1)
next_dead s t q e k he h hk =
    let l : lives s e ≡ false = sym (h ∙ ap (λ (z : State). lives z e) q) in
    let m = rank_more s.forward e in grind (arith, nat_tests)
