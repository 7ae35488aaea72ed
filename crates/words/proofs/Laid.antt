-- Items stand in the words as they are laid out, and are read where they stand.
use Rattle.std.proofs.Common.{◌≡◌, ℕ, zero, suc, ◌+◌, ◌-◌, ◌<◌, ◌≤◌, Bool, true, false, cond, ltb, List, [], ◌∷◌, ◌++◌, length, Ok, Result, sym, refl, ap, ◌∙◌, add-zero, arith, length-append}
use Rattle.std.proofs.lemmas.Bool.Decides.{nat_tests}
use Rattle.std.specs.List.{flat_map, AllByRecursion}
use Rattle.words.specs.declared.faults.SchemaFault.{SchemaFault}
use Rattle.words.specs.Words.{then, end}
use Rattle.words.specs.Items.{items, sizes}
use Rattle.words.specs.Numbered.{numbered, Each}
use Rattle.words.proofs.Items.{items_zero, items_split, items_none}
use Rattle.words.proofs.Single.{Stood, word_read}
use Rattle.words.proofs.Standing.{Stands, none, join, front, back}
use Rattle.words.specs.declared.tags.Tag.TheVariants as tag

pub ok_same : {A E : Type 0} {x y : A} → ◌≡◌ {A = Result A E} (Ok x) (Ok y) → y ≡ x
ok_same {A} {E} {x} {y} e = cc

pub more_some : (m : ℕ) → 0 < m → ltb 0 m ≡ true
more_some m h = grind (arith, nat_tests)

-- where no item's words tell its number
module _ {X : Type 0} where
  pub joined_numbered : (lay : X → List ℕ) (n : ℕ) (xs : List X) → flat_map lay xs ≡ numbered (λ _. lay) n xs
  joined_numbered lay n [] = refl
  joined_numbered lay n (x ∷ xs) = ap (λ ws. lay x ++ ws) (joined_numbered lay (n + 1) xs)

  pub each_all : (P : X → Type 0) (n : ℕ) (xs : List X) → Each (λ _. P) n xs → AllByRecursion P xs
  each_all P n [] a = tt
  each_all P n (x ∷ xs) a = (a.0, each_all P (n + 1) xs a.1)

  pub all_each : (P : X → Type 0) (n : ℕ) (xs : List X) → AllByRecursion P xs → Each (λ _. P) n xs
  all_each P n [] a = tt
  all_each P n (x ∷ xs) a = (a.0, all_each P (n + 1) xs a.1)

  pub numbered_length : (size : X → ℕ) (lay : ℕ → X → List ℕ) → ((n : ℕ) (x : X) → length (lay n x) ≡ size x) → (n : ℕ) (xs : List X) → length (numbered lay n xs) ≡ sizes size xs
  numbered_length size lay len n [] = refl
  numbered_length size lay len n (x ∷ xs) =
      let h = len n x in let k = numbered_length size lay len (n + 1) xs in let q = length-append (lay n x) (numbered lay (n + 1) xs) in omega arith

-- the number of an item and the room that it has make up the total
module _ {X : Type 0} (size : X → ℕ) (more : ℕ → ℕ → Bool) (f : ℕ → ℕ → Result X SchemaFault) (ws : List ℕ) (total : ℕ) (lay : ℕ → X → List ℕ) (P : ℕ → X → Type 0) where
  pub items_stand : ((n room at : ℕ) (x : X) → n + room ≡ total → f room at ≡ Ok x → Stands ws at (lay n x) (at + size x)) → (m n at : ℕ) (xs : List X) → n + m ≡ total → items size more f m at ≡ Ok xs
      → Stands ws at (numbered lay n xs) (at + sizes size xs)
  items_stand each zero n at xs h e = rw (items_zero size more f at xs e, add-zero) (none ws at)
  items_stand each (suc m) n at [] h e = rw add-zero (none ws at)
  items_stand each (suc m) n at (x ∷ xs) h e =
      let s = items_split size more f m at x xs e in
      let q : at + size x + sizes size xs ≡ at + (size x + sizes size xs) = omega arith in
      rw (← q) (join ws at (at + size x) (at + size x + sizes size xs) (lay n x) (numbered lay (n + 1) xs) (each n (suc m) at x h s.1) (items_stand each m (n + 1) (at + size x) xs (omega arith) s.2))

  pub items_each : ((n room at : ℕ) (x : X) → n + room ≡ total → f room at ≡ Ok x → P n x) → (m n at : ℕ) (xs : List X) → n + m ≡ total → items size more f m at ≡ Ok xs → Each P n xs
  items_each each zero n at xs h e = rw (items_zero size more f at xs e) tt
  items_each each (suc m) n at [] h e = tt
  items_each each (suc m) n at (x ∷ xs) h e =
      let s = items_split size more f m at x xs e in (each n (suc m) at x h s.1, items_each each m (n + 1) (at + size x) xs (omega arith) s.2)

  -- items are read where they stand, up to a place at which there are no more
  pub items_read : ((n : ℕ) (x : X) → length (lay n x) ≡ size x)
      → ((n room at b : ℕ) (x : X) → n + room ≡ total → 0 < room → P n x → Stands ws at (lay n x) b → (f room at ≡ Ok x) × (more room at ≡ true))
      → (m n at b : ℕ) (xs : List X) → n + m ≡ total → length xs ≤ m → Each P n xs → Stands ws at (numbered lay n xs) b → more (m - length xs) b ≡ false → items size more f m at ≡ Ok xs
  unfolding items
  items_read len each m n at b [] t h a s z =
      let q : b ≡ at = omega (arith, s.far) in let r : m - 0 ≡ m = omega arith in
      items_none size more f m at (ap (λ k. more k at) (sym r) ∙ ap (more (m - 0)) (sym q) ∙ z)
  items_read len each zero n at b (x ∷ xs) t h a s z = absurd (omega arith)
  items_read len each (suc m) n at b (x ∷ xs) t h a s z =
      let y = each n (suc m) at (at + length (lay n x)) x t (omega arith) a.0 (front ws at b (lay n x) (numbered lay (n + 1) xs) s) in
      let k : Stands ws (at + size x) (numbered lay (n + 1) xs) b = rw (len n x) at (back ws at b (lay n x) (numbered lay (n + 1) xs) s) in
      let r : suc m - suc (length xs) ≡ m - length xs = omega arith in
      ap (λ c. cond c (then (f (suc m) at) (λ x. then (items size more f m (at + size x)) (λ xs. Ok (x ∷ xs)))) (Ok [])) y.1
      ∙ ap (λ c. then c (λ x. then (items size more f m (at + size x)) (λ xs. Ok (x ∷ xs)))) y.0
      ∙ ap (λ c. then c (λ xs. Ok (x ∷ xs))) (items_read len each m (n + 1) (at + size x) b xs (omega arith) (omega arith) a.1 k (ap (λ j. more j b) (sym r) ∙ z))

-- the end
pub end_told : (ws : List ℕ) (at p : ℕ) → end ws at ≡ Ok p → Stood tag.End ws at at × (length ws ≡ at + 1)
end_told ws at p e = (record { inside = grind (arith, nat_tests); same = grind (arith, nat_tests); small = grind (arith, nat_tests) }, grind (arith, nat_tests))

pub end_read : (ws : List ℕ) (at : ℕ) → Stood tag.End ws at at → length ws ≡ at + 1 → end ws at ≡ Ok at
end_read ws at s h = let q = word_read tag.End ws at at s in grind (arith, nat_tests)
