-- Each write makes a tidy table of a tidy one, and leaves the copies.
use Rattle.std.proofs.Common.{◌≡◌, ℕ, ◌+◌, ◌<◌, ◌≤◌, List, length, get_or, set, Some, None, Option, sym, refl, ap, ◌∙◌, subst, inl, inr, arith}
use Rattle.std.proofs.lemmas.List.{length-set, get_or-set_other}
use Rattle.std.proofs.lemmas.Bool.Decides.{nat_tests}
use Rattle.machine.specs.State.{Slot, State, hold}
use Rattle.machine.specs.Merging.{die}
use Rattle.machine.specs.Settling.{pop}
use Rattle.machine.specs.Sweeping.{rank}
use Rattle.machine.proofs.Fill.{some_same, some_none, put_held}
use Rattle.machine.proofs.Merge.{turned_cases}
use Rattle.machine.proofs.Ranks.{rank_live, rank_after}
use Rattle.rows.specs.Layout.{Raw, Shape, Fits, Tidy, Same, Becomes, Copied, Within, spot, place, shown, forward_of, decode}
use Rattle.rows.specs.Writes.{changed, emptied, added}
use Rattle.rows.proofs.Places.{spot_copied, copied_low}
use Rattle.rows.proofs.Shown.{with, decode_more, shown_hold, grown, length_grown, grown_low, shown_grown, dead, dead_low, shown_dead, popped, shown_popped}

-- what a held entry is below
abbrev pub AllGiven : State → Type 0
AllGiven s = (t : Slot) (w : ℕ) → s.held t ≡ Some w → w < s.given

pub tidy_by : (r : Raw) (s : State) → Fits r → shown r ≡ s → ((x : ℕ) → s.forward x ≤ x) → AllGiven s → r.front + r.waits + rank s.forward s.given ≡ s.given → Tidy r
tidy_by r s f e l h q = record {
  fits = f;
  lower = subst (λ (z : State). (x : ℕ) → z.forward x ≤ x) (sym e) l;
  given = subst AllGiven (sym e) h;
  queued = subst (λ (z : State). r.front + r.waits + rank z.forward z.given ≡ z.given) (sym e) q;
}

pub fits_with : (r : Raw) (ws : List ℕ) (given waits : ℕ) → Fits r → length ws ≡ length r.ws → given ≤ r.shape.capacity → Fits (with r ws given waits)
fits_with r ws given waits f l few = record {
  below = f.below;
  room = rw l f.room;
  few = few;
  small = f.small;
  narrow = f.narrow;
  lot = f.lot;
  sorts = f.sorts;
  stacked = f.stacked;
  total = f.total;
}

-- words that differ from the entries on only
pub same_low : (r : Raw) (ws : List ℕ) (given waits : ℕ) → Fits r → length ws ≡ length r.ws → ((i : ℕ) → i < r.shape.base → get_or ws i 0 ≡ get_or r.ws i 0) → Same r (with r ws given waits)
same_low r ws given waits f l e = record { shape = refl; size = l; copies = λ i c. e i (copied_low r f i c) }

-- one after another
pub same_then : (a b c : Raw) → Same a b → Same b c → Same a c
same_then a b c p q = record {
  shape = q.shape ∙ p.shape;
  size = q.size ∙ p.size;
  copies = λ i h. q.copies i (subst (λ (z : Shape). Copied z i) (sym p.shape) h) ∙ p.copies i h;
}

pub becomes_none : (a : Raw) → Tidy a → Becomes a (λ s. s) a
becomes_none a t = record { tidy = t; state = refl; same = record { shape = refl; size = refl; copies = λ i c. refl } }

pub becomes_then : (a b c : Raw) (f g : State → State) → Becomes a f b → Becomes b g c → Becomes a (λ s. g (f s)) c
becomes_then a b c f g p q = record { tidy = q.tidy; state = q.state ∙ ap g p.state; same = same_then a b c p.same q.same }

pub becomes_as : (a b : Raw) (f g : State → State) → Becomes a f b → f (shown a) ≡ g (shown a) → Becomes a g b
becomes_as a b f g p e = record { tidy = p.tidy; state = p.state ∙ e; same = p.same }

-- a slot is written
module _ (r : Raw) (ok : Tidy r) (t : Slot) (in_t : Within r.shape r.given t) where
  becomes_held : (w : ℕ) (o : Option ℕ) → decode w ≡ o → ((v : ℕ) → o ≡ Some v → v < r.given) → Becomes r (hold t o) (with r (set r.ws (spot r.shape t) w) r.given r.waits)
  becomes_held w o d h =
      let l = length-set r.ws (spot r.shape t) w in
      let q = shown_hold r ok.fits t w in_t ∙ ap (λ (z : Option ℕ). hold t z (shown r)) d in
      record {
        tidy = tidy_by _ (hold t o (shown r)) (fits_with r (set r.ws (spot r.shape t) w) r.given r.waits ok.fits l ok.fits.few) q ok.lower
            (λ u v e. elim (put_held t o (shown r).held u v e) [ inl p ↦ h v p.1 | inr p ↦ ok.given u v p.1 ])
            ok.queued;
        state = q;
        same = record { shape = refl; size = l; copies = λ i c. get_or-set_other r.ws (spot r.shape t) i w 0 (spot_copied r ok.fits t in_t i c) };
      }

  pub becomes_filled : (at v : ℕ) → at ≡ spot r.shape t → v < r.given → Becomes r (hold t (Some v)) (with r (set r.ws at (v + 1)) r.given r.waits)
  becomes_filled at v p h = rw p (becomes_held (v + 1) (Some v) (decode_more v) (λ w e. let z = some_same v w (Some v) refl e in omega arith))

  pub becomes_empty : (at : ℕ) → at ≡ spot r.shape t → Becomes r (hold t None) (with r (set r.ws at 0) r.given r.waits)
  becomes_empty at p = rw p (becomes_held 0 None refl (λ w e. absurd (some_none w None e refl)))

-- an entry that is not given is its own forward
pub forward_fresh : (r : Raw) → (shown r).forward r.given ≡ r.given
unfolding forward_of
forward_fresh r = grind (arith, nat_tests)

-- an entry is given
pub becomes_added : (r : Raw) → Tidy r → (k at : ℕ) (ws : List ℕ) → r.given < r.shape.capacity → at ≡ place r.shape.base r.shape.links r.given 0 →
    ws ≡ changed emptied (set (set r.ws at k) (at + 1) r.given) (at + 3) r.shape.links → Becomes r (added k) (with r ws (r.given + 1) r.waits)
becomes_added r ok k at ws free e0 e =
    let e1 : at + 1 ≡ place r.shape.base r.shape.links r.given 1 = omega arith in
    let e3 : at + 3 ≡ place r.shape.base r.shape.links r.given 3 = omega arith in
    let p : ws ≡ grown r ok.fits k free = rw (← e1, ← e3, ← e0) e in
    let l = length_grown r ok.fits k free in
    let q = shown_grown r ok.fits k free in
    let n = rank_live (shown r).forward r.given (forward_fresh r) in
    rw p (record {
      tidy = tidy_by _ (added k (shown r)) (fits_with r (grown r ok.fits k free) (r.given + 1) r.waits ok.fits l (omega arith)) q ok.lower
          (λ t w h. omega (arith, ok.given t w h))
          (omega (arith, n, ok.queued));
      state = q;
      same = same_low r (grown r ok.fits k free) (r.given + 1) r.waits ok.fits l (grown_low r ok.fits k free);
    })

-- where an entry lives, the waiting list has room
module _ (r : Raw) (ok : Tidy r) (v u : ℕ) (here : v < r.given) (less : u < v) (lives : (shown r).forward v ≡ v) where
  pub wait_room : r.front + r.waits < r.shape.capacity
  wait_room = omega (arith, rank_after (shown r).forward v u lives less r.given here, ok.queued, ok.fits.few)

  pub becomes_dead : (at last : ℕ) → at ≡ place r.shape.base r.shape.links v 1 → last ≡ place r.shape.base r.shape.links (r.front + r.waits) 2 →
      Becomes r (die v u) (with r (set (set r.ws at u) last v) r.given (r.waits + 1))
  becomes_dead at last p p2 =
      let l : length (dead r ok.fits v u here wait_room) ≡ length r.ws = simp length-set in
      let q = shown_dead r ok.fits v u here wait_room in
      rw (p, p2) (record {
        tidy = tidy_by _ (die v u (shown r)) (fits_with r (dead r ok.fits v u here wait_room) r.given (r.waits + 1) ok.fits l ok.fits.few) q
            (λ x. elim (turned_cases (shown r).forward v u x) [ inl e ↦ omega (arith, e.0, e.1) | inr e ↦ omega (arith, e.1, ok.lower x) ])
            ok.given
            (omega (arith, rank_after (shown r).forward v u lives less r.given here, ok.queued));
        state = q;
        same = same_low r (dead r ok.fits v u here wait_room) r.given (r.waits + 1) ok.fits l (dead_low r ok.fits v u here wait_room);
      })

-- the first that waits is taken from the list
pub becomes_popped : (r : Raw) → Tidy r → 0 < r.waits → Becomes r pop (popped r)
becomes_popped r ok h =
    let q = shown_popped r h in
    record {
      tidy = tidy_by (popped r) (pop (shown r)) (record {
        below = ok.fits.below;
        room = ok.fits.room;
        few = ok.fits.few;
        small = ok.fits.small;
        narrow = ok.fits.narrow;
        lot = ok.fits.lot;
        sorts = ok.fits.sorts;
        stacked = ok.fits.stacked;
        total = ok.fits.total;
      }) q ok.lower ok.given (omega (arith, ok.queued));
      state = q;
      same = record { shape = refl; size = refl; copies = λ i c. refl };
    }
