-- Lists made by count.
use Rattle.std.proofs.Common.{◌≡◌, ℕ, suc, ◌+◌, ◌<◌, Bool, true, false, cond, ltb, List, [], ◌∷◌, length, get_or, None, Option, sym, refl, ap, ◌∙◌, subst, zero-add, arith}
use Rattle.std.proofs.lemmas.List.{ext_get_or}
use Rattle.std.proofs.lemmas.Bool.{ltb-true}
use Rattle.words.specs.Numbered.{Each}
use Rattle.registers.specs.Writing.{upto}
use Rattle.registers.proofs.WrittenLists.{upto_length, upto_at}

-- alike at each number below the end
pub upto_same : {X : Type 0} (f g : ℕ → X) (n : ℕ) → ((i : ℕ) → i < n → f i ≡ g i) → upto f n ≡ upto g n
upto_same f g n h =
    let p = upto_length f n in
    ext_get_or (f 0) (upto f n) (upto g n) (p ∙ sym (upto_length g n)) (λ i l. let b : i < n = omega arith in upto_at f n i (f 0) b ∙ (h i b ∙ sym (upto_at g n i (f 0) b)))

-- a fact of each by its number
each_from : {X : Type 0} (P : ℕ → X → Type 0) (d : X) (m : ℕ) (xs : List X) → ((i : ℕ) → i < length xs → P (m + i) (get_or xs i d)) → Each P m xs
each_from P d m [] h = tt
each_from P d m (x ∷ xs) h = (
  subst (λ n. P n x) (omega arith) (h 0 (omega arith)),
  each_from P d (m + 1) xs (λ i l. subst (λ n. P n (get_or xs i d)) (omega arith) (h (suc i) (omega arith))),
)

pub upto_each : {X : Type 0} (f : ℕ → X) (P : ℕ → X → Type 0) (n : ℕ) → ((i : ℕ) → i < n → P i (f i)) → Each P 0 (upto f n)
upto_each f P n h =
    let p = upto_length f n in
    each_from P (f 0) 0 (upto f n) (λ i l. let b : i < n = omega arith in rw (zero-add, upto_at f n i (f 0) b) (h i b))

pub cond_same : {X : Type 0} (b : Bool) (x y z : X) → (b ≡ true → x ≡ y) → cond b x z ≡ cond b y z
cond_same true x y z h = h refl
cond_same false x y z h = refl

-- a look-up
pub upto_told : {X Y : Type 0} (f : ℕ → X) (n i : ℕ) (d : X) (g : X → Option Y) → cond (ltb i (length (upto f n))) (g (get_or (upto f n) i d)) None ≡ cond (ltb i n) (g (f i)) None
upto_told f n i d g =
    ap (λ j. cond (ltb i j) (g (get_or (upto f n) i d)) None) (upto_length f n)
    ∙ cond_same (ltb i n) (g (get_or (upto f n) i d)) (g (f i)) None (λ h. ap g (upto_at f n i d (ltb-true i n h)))
