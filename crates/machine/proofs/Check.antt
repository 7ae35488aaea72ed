-- Checks, landing and defining keep a table good.
use Rattle.std.proofs.Common.{◌≡◌, ℕ, zero, suc, ◌<◌, Bool, true, false, cond, eqb, List, [], ◌∷◌, length, Some, None, Option, sym, refl, ◌∙◌, subst, arith}
use Rattle.machine.specs.Loaded.{Loaded}
use Rattle.machine.specs.State.{Slot, cell, landing, State, on, hold, born}
use Rattle.machine.specs.Merging.{merge}
use Rattle.machine.specs.Walking.{Walked, ended, stopped, walk, walk_in}
use Rattle.machine.specs.Checking.{closed, merges, sides, effect, rule_effect, link_effect}
use Rattle.machine.specs.Readings.{worth, along, Accepted, Joins}
use Rattle.machine.specs.Sound.{InUse, Owner, Sound, Reach}
use Rattle.machine.proofs.Wide.{Receiver, Placing, Reading, Good}
use Rattle.machine.proofs.Closed.{closed_all, closed_reach}
use Rattle.machine.proofs.Merge.{merge_sound, merge_closed, merge_read, merge_given}
use Rattle.machine.proofs.Fill.{fill_sound, fill_closed, fill_read, born_good}

pub on_cases {ℓ} : {A : Type ℓ} (P : A → Type 0) (o : Option ℕ) (n : A) (f : ℕ → A) → (o ≡ None → P n) → ((w : ℕ) → o ≡ Some w → P (f w)) → P (on o n f)
on_cases P None n f a b = a refl
on_cases P (Some w) n f a b = b w refl

pub merge_good : (L : Loaded) (s : State) → Good L s → (a b : ℕ) → a < s.given → b < s.given → ((R : Receiver L) (P : Placing L R) (ρ : ℕ → ℕ) → Reading L R P s ρ → ρ a ≡ ρ b) → Good L (merge a b s)
merge_good L s g a b ha hb same = record {
  sound = merge_sound L s g.sound a b ha hb;
  read = λ R P. let r = g.read R P in (r.0, merge_read L s g.sound a b ha hb R P r.0 r.1 (same R P r.0 r.1));
  reached = λ e h. closed_all (merge_closed L s g.sound a b ha hb (Reach (merge a b s)) (closed_reach (merge a b s))) (g.reached e (subst (λ n. e < n) (merge_given L s g.sound a b ha hb) h));
}

pub fill_good : (L : Loaded) (s : State) → Good L s → (t : Slot) (a : ℕ) → s.held t ≡ None → InUse s a → Owner L s t → ((R : Receiver L) (P : Placing L R) (ρ : ℕ → ℕ) → Reading L R P s ρ → ρ a ≡ worth R.lead P.at ρ t) → Good L (hold t (Some a) s)
fill_good L s g t a none ua ot same = record {
  sound = fill_sound L s t a g.sound ua ot;
  read = λ R P. let r = g.read R P in (r.0, fill_read L s t a R P r.0 r.1 (same R P r.0 r.1));
  reached = λ e h. closed_all (fill_closed L s t a none (Reach (hold t (Some a) s)) (closed_reach (hold t (Some a) s))) (g.reached e h);
}

-- where a walk comes to
abbrev pub Valid : Loaded → State → Walked → Type 0
Valid L s (ended a) = InUse s a
Valid L s (stopped t n) = Owner L s t × (s.held t ≡ None)

abbrev pub Means : (ℕ → ℕ → ℕ) → (ℕ → ℕ → ℕ) → (ℕ → ℕ) → ℕ → Walked → Type 0
Means lead at ρ m (ended a) = ρ a ≡ m
Means lead at ρ m (stopped t n) = n ≡ 0 → worth lead at ρ t ≡ m

abbrev pub StepsBelow : ℕ → List ℕ → Type 0
StepsBelow n [] = Unit {0}
StepsBelow n (l ∷ ls) = (l < n) × StepsBelow n ls

pub steps : (L : Loaded) (k : ℕ) (ls : List ℕ) → Joins L k ls → StepsBelow L.links ls
steps L k [] j = tt
steps L k (l ∷ ls) j = (j.0, steps L (L.to l) ls j.2)

module _ (L : Loaded) (s : State) (ok : Sound L s) where
  pub walk_valid : (ls : List ℕ) (e : ℕ) → InUse s e → StepsBelow L.links ls → Valid L s (walk s.held e ls)
  unfolding walk
  walk_valid [] e u b = u
  walk_valid (l ∷ ls) e u b = on_cases (Valid L s) (s.held (cell e l)) (stopped (cell e l) (length ls)) (λ w. walk s.held w ls)
      (λ q. ((u, b.0), q))
      (λ w q. walk_valid ls w (ok.used (cell e l) w q).0 b.1)

  pub walk_in_valid : (ls : List ℕ) (t : Slot) → Owner L s t → StepsBelow L.links ls → Valid L s (walk_in s.held t ls)
  walk_in_valid ls t o b = on_cases (Valid L s) (s.held t) (stopped t (length ls)) (λ w. walk s.held w ls)
      (λ q. (o, q))
      (λ w q. walk_valid ls w (ok.used t w q).0 b)

module _ (L : Loaded) (s : State) (R : Receiver L) (P : Placing L R) (ρ : ℕ → ℕ) (d : Reading L R P s ρ) where
  no_steps : (ls : List ℕ) (x : ℕ) → length ls ≡ 0 → x ≡ along R.lead x ls
  no_steps [] x h = refl
  no_steps (l ∷ ls) x h = absurd (omega (arith, h))

  pub walk_means : (ls : List ℕ) (e : ℕ) → Means R.lead P.at ρ (along R.lead (ρ e) ls) (walk s.held e ls)
  unfolding walk
  walk_means [] e = refl
  walk_means (l ∷ ls) e = on_cases (Means R.lead P.at ρ (along R.lead (R.lead l (ρ e)) ls)) (s.held (cell e l)) (stopped (cell e l) (length ls)) (λ w. walk s.held w ls)
      (λ q h. no_steps ls (R.lead l (ρ e)) h)
      (λ w q. subst (λ x. Means R.lead P.at ρ (along R.lead x ls) (walk s.held w ls)) (d.agrees (cell e l) w q) (walk_means ls w))

  pub walk_in_means : (ls : List ℕ) (t : Slot) → Means R.lead P.at ρ (along R.lead (worth R.lead P.at ρ t) ls) (walk_in s.held t ls)
  walk_in_means ls t = on_cases (Means R.lead P.at ρ (along R.lead (worth R.lead P.at ρ t) ls)) (s.held t) (stopped t (length ls)) (λ w. walk s.held w ls)
      (λ q h. no_steps ls (worth R.lead P.at ρ t) h)
      (λ w q. subst (λ x. Means R.lead P.at ρ (along R.lead x ls) (walk s.held w ls)) (d.agrees t w q) (walk_means ls w))

-- in every reading the two walks come to one record
abbrev pub Level : (L : Loaded) → State → Walked → Walked → Type 0
Level L s p q = (R : Receiver L) (P : Placing L R) (ρ : ℕ → ℕ) → Reading L R P s ρ → (m : ℕ) × Means R.lead P.at ρ m p × Means R.lead P.at ρ m q

module _ (L : Loaded) (s : State) (g : Good L s) where
  pub sides_good : (p q : Walked) → Valid L s p → Valid L s q → Level L s p q → Good L (effect (sides p q) s)
  sides_good (ended a) (ended b) u v level = go (eqb a b)
    where
      go : (t : Bool) → Good L (effect (cond t closed (merges a b)) s)
      go true = g
      go false = merge_good L s g a b u.below v.below (λ R P ρ d. let z = level R P ρ d in z.1 ∙ sym z.2)
  sides_good (ended a) (stopped t zero) u v level = fill_good L s g t a v.1 u v.0 (λ R P ρ d. let z = level R P ρ d in z.1 ∙ sym (z.2 refl))
  sides_good (ended a) (stopped t (suc n)) u v level = g
  sides_good (stopped t zero) (ended b) u v level = fill_good L s g t b u.1 v u.0 (λ R P ρ d. let z = level R P ρ d in z.2 ∙ sym (z.1 refl))
  sides_good (stopped t (suc n)) (ended b) u v level = g
  sides_good (stopped t n) (stopped r m) u v level = g

  pub rule_good : Accepted L → (e i : ℕ) → InUse s e → i < L.rules → s.kind e ≡ L.first i → Good L (effect (rule_effect L s e i) s)
  rule_good acc e i u hi k = sides_good (walk s.held e (L.left i)) (walk s.held e (L.right i))
      (walk_valid L s g.sound (L.left i) e u (steps L (L.first i) (L.left i) (acc.left_in i hi)))
      (walk_valid L s g.sound (L.right i) e u (steps L (L.first i) (L.right i) (acc.right_in i hi)))
      (λ R P ρ d. (
        along R.lead (ρ e) (L.right i),
        subst (λ m. Means R.lead P.at ρ m (walk s.held e (L.left i))) (R.keeps i (ρ e) hi (subst (λ j. R.has j (ρ e) ≡ true) k (d.counted e u.below))) (walk_means L s R P ρ d (L.left i) e),
        walk_means L s R P ρ d (L.right i) e,
      ))

  pub link_good : Accepted L → (i r : ℕ) → i < L.source_links → r < L.count (L.source_from i) → Good L (effect (link_effect L s i r) s)
  link_good acc i r hi hr =
      let t : Slot = landing (L.source_to i) (L.lead i r) in
      let f : Slot = landing (L.source_from i) r in
      sides_good (walk_in s.held t []) (walk_in s.held f (L.link_map i))
      (walk_in_valid L s g.sound [] t (acc.to_in i hi, acc.lead_in i r hi hr) tt)
      (walk_in_valid L s g.sound (L.link_map i) f (acc.from_in i hi, hr) (steps L (L.kind_map (L.source_from i)) (L.link_map i) (acc.map_in i hi)))
      (λ R P ρ d. (
        P.at (L.source_to i) (L.lead i r),
        walk_in_means L s R P ρ d [] t,
        subst (λ m. Means R.lead P.at ρ m (walk_in s.held f (L.link_map i))) (P.in_step i r hi hr) (walk_in_means L s R P ρ d (L.link_map i) f),
      ))

  pub land_good : (k r : ℕ) → k < L.source_kinds → r < L.count k → s.held (landing k r) ≡ None → Good L (born (L.kind_map k) (landing k r) s)
  land_good k r hk hr none = born_good L s (landing k r) (L.kind_map k) g.sound (hk, hr) none g (λ R P ρ d. P.counted k r hk hr)

  pub define_good : (e l : ℕ) → InUse s e → l < L.links → s.kind e ≡ L.from l → s.held (cell e l) ≡ None → Good L (born (L.to l) (cell e l) s)
  define_good e l u hl k none = born_good L s (cell e l) (L.to l) g.sound (u, hl) none g
      (λ R P ρ d. R.inside l (ρ e) hl (subst (λ j. R.has j (ρ e) ≡ true) k (d.counted e u.below)))
