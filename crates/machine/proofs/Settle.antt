-- Settling keeps a table good.
use Rattle.std.proofs.Common.{◌≡◌, ℕ, zero, suc, ◌<◌, ◌≤◌, eqb, ◌⊎◌, List, [], ◌∷◌, length, Some, None, Option, sym, refl, ap, ◌∙◌, subst, inl, inr, arith}
use Rattle.std.proofs.lemmas.Bool.{cases_eq, eq-eqb, ne_eqb, cond-true, cond-false}
use Rattle.machine.specs.Loaded.{Loaded}
use Rattle.machine.specs.State.{Slot, cell, landing, State, hold}
use Rattle.machine.specs.Merging.{end, merge}
use Rattle.machine.specs.Settling.{swap, rehold, take_over, pull, drain, tail, pop, settled_first, settled}
use Rattle.machine.specs.Sound.{Mem, InUse, Owner, Sound, Reach}
use Rattle.machine.proofs.Base.{put_cases}
use Rattle.machine.proofs.Closed.{Closed, Before, closed_all, closed_reach, end_goes, end_comes, end_read}
use Rattle.machine.proofs.Merge.{end_lives, end_in_use, merge_sound, merge_closed, merge_joins, merge_read, merge_given, merge_held, merge_dead, merge_front}
use Rattle.machine.proofs.Fill.{some_same, some_none, put_held, put_here, put_there, hold_in_use, empty_sound, empty_read, fill_sound, fill_read, fill_closed, fill_fits}
use Rattle.machine.proofs.Kept.{Kept, place, still, kept_none, kept_then, end_end, merge_one_end, merge_kept, fill_kept}
use Rattle.machine.proofs.Check.{on_cases}
use Rattle.machine.proofs.Ranks.{merge_room}
use Rattle.machine.specs.Shift.{Room}
use Rattle.machine.proofs.Wide.{Receiver, Placing, Reading, Good}

-- v is the first that waits, no slot holds it, and its cells before the link n are empty
pub record Draining (L : Loaded) (v n : ℕ) (s : State) : Type 0 where
  pub sound : Sound L s
  pub dead : s.forward v ≡ v → ⊥
  pub numbered : v < s.given
  pub front : (ws : List ℕ) × (s.waiting ≡ v ∷ ws)
  pub unheld : (t : Slot) → s.held t ≡ Some v → ⊥
  pub emptied : (l : ℕ) → l < n → s.held (cell v l) ≡ None

-- what the steps of settling keep
pub record Moved (L : Loaded) (s z : State) : Type 0 where
  pub given : z.given ≡ s.given
  pub read : (R : Receiver L) (P : Placing L R) (ρ : ℕ → ℕ) → Reading L R P s ρ → Reading L R P z ρ
  pub reach : (x : ℕ) → Reach s x → Reach z x
  pub room : Room s → Room z
  pub kept : Kept s z (λ x. x)

moved_none : (L : Loaded) (s : State) → Moved L s s
moved_none L s = record { given = refl; read = λ R P ρ d. d; reach = λ x q. q; room = λ r. r; kept = kept_none s }

moved_then : (L : Loaded) (s y z : State) → Moved L s y → Moved L y z → Moved L s z
moved_then L s y z a b = record { given = b.given ∙ a.given; read = λ R P ρ d. b.read R P ρ (a.read R P ρ d); reach = λ x q. b.reach x (a.reach x q); room = λ r. b.room (a.room r); kept = kept_then s y z (λ x. x) (λ x. x) a.kept b.kept }

cell_entry : (e d l k : ℕ) → cell e l ≡ cell d k → e ≡ d
cell_entry e d l k q = cc

fill_draining : (L : Loaded) (v n : ℕ) (s : State) → Draining L v n s → (u l w : ℕ) → InUse s u → l < L.links → (u ≡ v → ⊥) → InUse s w → (w ≡ v → ⊥) → Draining L v n (hold (cell u l) (Some w) s)
fill_draining L v n s d u l w iu hl nu iw nw = record {
  sound = fill_sound L s (cell u l) w d.sound iw (iu, hl);
  dead = d.dead;
  numbered = d.numbered;
  front = d.front;
  unheld = λ t e. elim (put_held (cell u l) (Some w) s.held t v e) [ inl q ↦ nw (some_same w v (Some w) refl q.1) | inr q ↦ d.unheld t q.1 ];
  emptied = λ k h. put_there (cell u l) (Some w) s.held (cell v k) (λ q. nu (sym (cell_entry v u k l q))) ∙ d.emptied k h;
}

merge_draining : (L : Loaded) (v n : ℕ) (s : State) → Draining L v n s → (a b : ℕ) → a < s.given → b < s.given → Draining L v n (merge a b s)
merge_draining L v n s d a b ha hb =
    let h = merge_held L s d.sound a b ha hb in
    record {
      sound = merge_sound L s d.sound a b ha hb;
      dead = merge_dead L s d.sound a b ha hb v d.dead;
      numbered = subst (λ m. v < m) (sym (merge_given L s d.sound a b ha hb)) d.numbered;
      front = merge_front L s d.sound a b ha hb v d.front;
      unheld = λ t e. d.unheld t (ap (λ f. f t) (sym h) ∙ e);
      emptied = λ k q. ap (λ f. f (cell v k)) h ∙ d.emptied k q;
    }

empty_draining : (L : Loaded) (v n : ℕ) (s : State) → Draining L v n s → Draining L v (suc n) (hold (cell v n) None s)
empty_draining L v n s d = record {
  sound = empty_sound L s (cell v n) d.sound;
  dead = d.dead;
  numbered = d.numbered;
  front = d.front;
  unheld = λ t e. elim (put_held (cell v n) None s.held t v e) [ inl q ↦ cc q.1 | inr q ↦ d.unheld t q.1 ];
  emptied = λ k h. elim (put_cases (cell v n) (cell v k) None s.held) [
    | inl q ↦ q.1
    | inr q ↦ q.1 ∙ d.emptied k (omega (arith, h, λ (e : k ≡ n). q.0 (ap (cell v) e)))
  ];
}

empty_closed : (s : State) (t : Slot) (c : ℕ) → s.held t ≡ Some c → (Q : ℕ → Type 0) → Closed Q (hold t None s) → (Before Q t → Q c) → Closed Q s
empty_closed s t c held Q k f = record {
  goes = k.goes;
  comes = k.comes;
  fits = λ u w e b. elim (put_cases t u None s.held) [
    | inl q ↦ subst Q (some_same c w (s.held t) held (ap s.held (sym q.0) ∙ e)) (f (subst (Before Q) q.0 b))
    | inr q ↦ k.fits u w (q.1 ∙ e) b
  ];
}

-- one link of v
module _ (L : Loaded) (v n : ℕ) (s : State) (hn : n < L.links) (d : Draining L v n s) where
  Pulled : State → Type 0
  Pulled z = Draining L v (suc n) z × Moved L s z

  module _ (c : ℕ) (held : s.held (cell v n) ≡ Some c) where
    abbrev bare : State
    bare = hold (cell v n) None s

    abbrev u : ℕ
    u = end s v

    abbrev w : ℕ
    w = end s c

    bare_ok : Draining L v (suc n) bare
    bare_ok = empty_draining L v n s d

    c_in : c < s.given
    c_in = (d.sound.used (cell v n) c held).0.below

    u_not : u ≡ v → ⊥
    u_not e = d.dead (subst (λ x. s.forward x ≡ x) e (end_lives L s d.sound v))

    w_not : w ≡ v → ⊥
    w_not e = d.dead (subst (λ x. s.forward x ≡ x) e (end_lives L s d.sound c))

    u_use : InUse bare u
    u_use = hold_in_use L s (cell v n) None u (end_in_use L s d.sound v d.numbered)

    w_use : InUse bare w
    w_use = hold_in_use L s (cell v n) None w (end_in_use L s d.sound c c_in)

    w_worth : (R : Receiver L) (P : Placing L R) (ρ : ℕ → ℕ) → Reading L R P s ρ → ρ w ≡ R.lead n (ρ u)
    w_worth R P ρ r = end_read L R P s ρ r c ∙ (r.agrees (cell v n) c held ∙ ap (R.lead n) (sym (end_read L R P s ρ r v)))

    back : (Q : ℕ → Type 0) → Closed Q bare → (Q u → Q w) → Closed Q s
    back Q k f = empty_closed s (cell v n) c held Q k (λ q. end_comes Q bare k c (f (end_goes Q bare k v q)))

    -- the content of v's cell is found at the living end of v, and the other slots as in bare
    handed : (z : State) → Kept bare z (λ x. x) → (y : ℕ) → z.held (cell u n) ≡ Some y → end z y ≡ end z w → Kept s z (λ x. x)
    handed z k y here one = record {
      numbered = k.numbered;
      together = k.together;
      found = λ t x e. elim (put_cases (cell v n) t None s.held) [
        | inl q ↦ (
          cell u n,
          y,
          here,
          ap (λ b. cell b n) (k.together u v (end_end s d.sound.lower v)) ∙ ap (place z (λ b. b)) (sym q.0),
          one ∙ k.together w x (end_end s d.sound.lower c ∙ ap (end s) (some_same c x (s.held t) (ap s.held q.0 ∙ held) e)),
        )
        | inr q ↦ k.found t x (q.1 ∙ e)
      ];
    }

    when_empty : bare.held (cell u n) ≡ None → Pulled (hold (cell u n) (Some w) bare)
    unfolding Pulled
    when_empty none = (
      fill_draining L v (suc n) bare bare_ok u n w u_use hn u_not w_use w_not,
      record {
        given = refl;
        room = λ r. r;
        read = λ R P ρ r. fill_read L bare (cell u n) w R P ρ (empty_read L s (cell v n) R P ρ r) (w_worth R P ρ r);
        reach = λ x q.
            let z : State = hold (cell u n) (Some w) bare in
            let k = closed_reach z in
            closed_all (back (Reach z) (fill_closed L bare (cell u n) w none (Reach z) k) (fill_fits L bare (cell u n) w (Reach z) k)) q;
        kept = handed (hold (cell u n) (Some w) bare) (fill_kept bare (cell u n) none w) w (put_here (cell u n) (Some w) bare.held) refl;
      },
    )

    when_full : (e : ℕ) → bare.held (cell u n) ≡ Some e → Pulled (merge e w bare)
    unfolding Pulled
    when_full e full =
        let he : e < s.given = (bare_ok.sound.used (cell u n) e full).0.below in
        let hw : w < s.given = w_use.below in (
          merge_draining L v (suc n) bare bare_ok e w he hw,
          record {
            given = merge_given L bare bare_ok.sound e w he hw;
            room = merge_room L bare bare_ok.sound e w he hw;
            read = λ R P ρ r.
                let b = empty_read L s (cell v n) R P ρ r in
                merge_read L bare bare_ok.sound e w he hw R P ρ b (b.agrees (cell u n) e full ∙ sym (w_worth R P ρ r));
            reach = λ x q.
                let z : State = merge e w bare in
                let k = closed_reach z in
                let m = merge_closed L bare bare_ok.sound e w he hw (Reach z) k in
                closed_all (back (Reach z) m (λ y. (merge_joins L bare bare_ok.sound e w he hw (Reach z) k).0 (m.fits (cell u n) e full y))) q;
            kept = handed (merge e w bare) (merge_kept bare d.sound.lower e w) e (ap (λ h. h (cell u n)) (merge_held L bare bare_ok.sound e w he hw) ∙ full) (merge_one_end bare d.sound.lower e w);
          },
        )

    taken : Pulled (take_over u n w bare)
    unfolding take_over
    taken = on_cases Pulled (bare.held (cell u n)) (hold (cell u n) (Some w) bare) (λ e. merge e w bare) when_empty when_full

  nothing_there : s.held (cell v n) ≡ None → Pulled s
  unfolding Pulled
  nothing_there none = (
    record {
      sound = d.sound;
      dead = d.dead;
      numbered = d.numbered;
      front = d.front;
      unheld = d.unheld;
      emptied = λ k h. elim (cases_eq k n) [ inl e ↦ subst (λ j. s.held (cell v j) ≡ None) (sym e) none | inr e ↦ d.emptied k (omega (arith, h, e)) ];
    },
    moved_none L s,
  )

  pub pulled : Draining L v (suc n) (pull v n s) × Moved L s (pull v n s)
  unfolding pull Pulled
  pulled = on_cases Pulled (s.held (cell v n)) s (λ c. take_over (end s v) n (end s c) (hold (cell v n) None s)) nothing_there taken

pub drained : (L : Loaded) (v n : ℕ) (s : State) → n ≤ L.links → Draining L v 0 s → Draining L v n (drain v n s) × Moved L s (drain v n s)
unfolding drain
drained L v zero s h d = (d, moved_none L s)
drained L v (suc n) s h d =
    let a = drained L v n s (omega arith) d in
    let b = pulled L v n (drain v n s) h a.0 in
    (b.0, moved_then L s (drain v n s) (pull v n (drain v n s)) a.1 b.1)

-- holding the living end in place of v
pub swap_held : (v u : ℕ) (o : Option ℕ) (y : ℕ) → swap v u o ≡ Some y → ((o ≡ Some v) × (y ≡ u)) ⊎ ((o ≡ Some y) × (y ≡ v → ⊥))
swap_held v u None y e = absurd (cc)
swap_held v u (Some x) y e = elim (cases_eq x v) [
  | inl q ↦ (let k = cond-true (eqb x v) u x (eq-eqb x v q) in inl (ap Some q, (cc)))
  | inr q ↦ (let k = cond-false (eqb x v) u x (ne_eqb x v q) in let z : x ≡ y = cc in inr (ap Some z, λ p. q (z ∙ p)))
]

swap_here : (v u : ℕ) → swap v u (Some v) ≡ Some u
swap_here v u = ap Some (cond-true (eqb v v) u v (eq-eqb v v refl))

swap_there : (v u x : ℕ) → (x ≡ v → ⊥) → swap v u (Some x) ≡ Some x
swap_there v u x q = ap Some (cond-false (eqb x v) u x (ne_eqb x v q))

module _ (L : Loaded) (s : State) (v : ℕ) (ok : Sound L s) (hv : v < s.given) where
  abbrev moved : State
  moved = rehold v (end s v) s

  re_use : (x : ℕ) → InUse s x → InUse moved x
  re_use x q = record { below = q.below; if_dead = q.if_dead }

  re_owner : (t : Slot) → Owner L s t → Owner L moved t
  re_owner (cell e l) q = (re_use e q.0, q.1)
  re_owner (landing k r) q = q

  rehold_sound : Sound L moved
  rehold_sound = record {
    lower = ok.lower;
    fresh = ok.fresh;
    dead = ok.dead;
    used = λ t w e. elim (swap_held v (end s v) (s.held t) w e) [
      | inl q ↦ (subst (InUse moved) (sym q.1) (re_use (end s v) (end_in_use L s ok v hv)), re_owner t (ok.used t v q.0).1)
      | inr q ↦ (re_use w (ok.used t w q.0).0, re_owner t (ok.used t w q.0).1)
    ];
  }

  rehold_moved : Moved L s moved
  rehold_moved = record {
    given = refl;
    room = λ r. r;
    read = λ R P ρ d. record {
      counted = d.counted;
      forwards = d.forwards;
      agrees = λ t w e. elim (swap_held v (end s v) (s.held t) w e) [
        | inl q ↦ ap ρ q.1 ∙ (end_read L R P s ρ d v ∙ d.agrees t v q.0)
        | inr q ↦ d.agrees t w q.0
      ];
    };
    reach = λ x q.
        let k = closed_reach moved in
        let c : Closed (Reach moved) s = record {
          goes = k.goes;
          comes = k.comes;
          fits = λ t w e b. elim (cases_eq w v) [
            | inl p ↦ subst (Reach moved) (sym p) (end_comes (Reach moved) moved k v (k.fits t (end s v) (ap (swap v (end s v)) (e ∙ ap Some p) ∙ swap_here v (end s v)) b))
            | inr p ↦ k.fits t w (ap (swap v (end s v)) e ∙ swap_there v (end s v) w p) b
          ];
        } in
        closed_all c q;
    kept = record {
      numbered = λ x h. h;
      together = λ x y q. q;
      found = λ t w e. elim (cases_eq w v) [
        | inl p ↦ (t, end s v, ap (swap v (end s v)) (e ∙ ap Some p) ∙ swap_here v (end s v), refl, end_end s ok.lower v ∙ ap (end s) (sym p))
        | inr p ↦ still moved t w (ap (swap v (end s v)) e ∙ swap_there v (end s v) w p)
      ];
    };
  }

  pub rehold_draining : (s.forward v ≡ v → ⊥) → ((ws : List ℕ) × (s.waiting ≡ v ∷ ws)) → Draining L v 0 moved
  rehold_draining dead front = record {
    sound = rehold_sound;
    dead = dead;
    numbered = hv;
    front = front;
    unheld = λ t e. elim (swap_held v (end s v) (s.held t) v e) [
      | inl q ↦ dead (subst (λ x. s.forward x ≡ x) (sym q.1) (end_lives L s ok v))
      | inr q ↦ q.1 refl
    ];
    emptied = λ l h. absurd (omega (arith, h));
  }

tail_length : (l : List ℕ) → length (tail l) ≤ length l
tail_length [] = omega arith
tail_length (x ∷ xs) = omega arith

-- v waits no more
module _ (L : Loaded) (v : ℕ) (s : State) (d : Draining L v L.links s) where
  pop_use : (x : ℕ) → (x ≡ v → ⊥) → InUse s x → InUse (pop s) x
  pop_use x n q = record {
    below = q.below;
    if_dead = λ dead.
        let m : Mem x (v ∷ d.front.0) = subst (Mem x) d.front.1 (q.if_dead dead) in
        elim m [ inl e ↦ absurd (n e) | inr k ↦ subst (Mem x) (sym (ap tail d.front.1)) k ];
  }

  pop_owner : (t : Slot) (w : ℕ) → s.held t ≡ Some w → Owner L s t → Owner L (pop s) t
  pop_owner (cell e l) w q o = (pop_use e (λ p. some_none w (s.held (cell e l)) q (ap (λ y. s.held (cell y l)) p ∙ d.emptied l o.1)) o.0, o.1)
  pop_owner (landing k r) w q o = o

  pub pop_sound : Sound L (pop s)
  pop_sound = record {
    lower = d.sound.lower;
    fresh = d.sound.fresh;
    dead = λ x m. d.sound.dead x (subst (Mem x) (sym d.front.1) (inr (subst (Mem x) (ap tail d.front.1) m)));
    used = λ t w e. (pop_use w (λ p. d.unheld t (e ∙ ap Some p)) (d.sound.used t w e).0, pop_owner t w e (d.sound.used t w e).1);
  }

  pub pop_moved : Moved L s (pop s)
  pop_moved = record {
    given = refl;
    room = λ r. omega (arith, r, tail_length s.waiting);
    read = λ R P ρ r. record { counted = r.counted; forwards = r.forwards; agrees = r.agrees };
    reach = λ x q.
        let k = closed_reach (pop s) in
        let c : Closed (Reach (pop s)) s = record { goes = k.goes; comes = k.comes; fits = k.fits } in
        closed_all c q;
    kept = record { numbered = λ x h. h; together = λ x y q. q; found = still (pop s) };
  }

moved_good : (L : Loaded) (s z : State) → Good L s → Sound L z → Moved L s z → Good L z
moved_good L s z g ok m = record {
  sound = ok;
  read = λ R P. let r = g.read R P in (r.0, m.read R P r.0 r.1);
  reached = λ e h. m.reach e (g.reached e (subst (λ n. e < n) m.given h));
}

pub settled_moved : (L : Loaded) (s : State) → Sound L s → Sound L (settled L s) × Moved L s (settled L s)
settled_moved L s ok = go s.waiting refl
  where
    go : (l : List ℕ) → s.waiting ≡ l → Sound L (settled_first L s l) × Moved L s (settled_first L s l)
    go [] e = (ok, moved_none L s)
    go (v ∷ vs) e =
        let here : Mem v s.waiting = subst (Mem v) (sym e) (inl refl) in
        let dead = ok.dead v here in
        let hv : v < s.given = elim (Rattle.std.proofs.lemmas.Bool.cases_lt v s.given) [ inl y ↦ y | inr y ↦ absurd (dead (ok.fresh v y)) ] in
        let r = rehold v (end s v) s in
        let a = drained L v L.links r (omega arith) (rehold_draining L s v ok hv dead (vs, e)) in
        let z = drain v L.links r in
        (pop_sound L v z a.0, moved_then L s z (pop z) (moved_then L s r z (rehold_moved L s v ok hv) a.1) (pop_moved L v z a.0))

pub settled_good : (L : Loaded) (s : State) → Good L s → Good L (settled L s)
settled_good L s g = let m = settled_moved L s g.sound in moved_good L s (settled L s) g m.0 m.1
