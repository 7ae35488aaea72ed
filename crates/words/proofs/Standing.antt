-- Words that stand in a list from one place to another.
use Rattle.std.proofs.Common.{◌≡◌, ℕ, ◌+◌, ◌/◌, ◌<◌, true, false, List, [], ◌∷◌, ◌++◌, length, get_or, drop, sym, refl, ap, ◌∙◌, append_assoc, append-nil, add-zero, zero-add, arith, length-append, length-drop}
use Rattle.std.proofs.lemmas.List.{drop_more, drop_all, drop-drop, drop_at, get_or-drop}
use Rattle.std.proofs.lemmas.Bool.Decides.{nat_tests}
use Rattle.words.specs.Words.{starts}
use Rattle.words.specs.declared.tags.Tag.{Tag}
use Rattle.words.specs.Tags.{tagged, number, size}
use Rattle.words.proofs.Single.{Stood}

pub record Stands (ws : List ℕ) (a : ℕ) (xs : List ℕ) (b : ℕ) : Type 0 where
  pub here : drop a ws ≡ xs ++ drop b ws
  pub far : a + length xs ≡ b

pub none : (ws : List ℕ) (a : ℕ) → Stands ws a [] a
none ws a = record { here = refl; far = add-zero a }

pub join : (ws : List ℕ) (a b c : ℕ) (xs ys : List ℕ) → Stands ws a xs b → Stands ws b ys c → Stands ws a (xs ++ ys) c
join ws a b c xs ys s t = record {
  here = s.here ∙ ap (λ r. xs ++ r) t.here ∙ sym (append_assoc xs ys (drop c ws));
  far = let h = length-append xs ys in omega (arith, s.far, t.far);
}

pub front : (ws : List ℕ) (a c : ℕ) (xs ys : List ℕ) → Stands ws a (xs ++ ys) c → Stands ws a xs (a + length xs)
front ws a c xs ys s = record {
  here = s.here ∙ append_assoc xs ys (drop c ws)
      ∙ ap (λ r. xs ++ r) (sym (drop_at xs (ys ++ drop c ws) (length xs) refl) ∙ ap (drop (length xs)) (sym (append_assoc xs ys (drop c ws)) ∙ sym s.here) ∙ drop-drop (length xs) a ws);
  far = refl;
}

pub back : (ws : List ℕ) (a c : ℕ) (xs ys : List ℕ) → Stands ws a (xs ++ ys) c → Stands ws (a + length xs) ys c
back ws a c xs ys s = record {
  here = sym (drop-drop (length xs) a ws) ∙ ap (drop (length xs)) (s.here ∙ append_assoc xs ys (drop c ws)) ∙ drop_at xs (ys ++ drop c ws) (length xs) refl;
  far = let h = length-append xs ys in omega (arith, s.far);
}

-- one word
pub one : (ws : List ℕ) (a w : ℕ) → a < length ws → get_or ws a 0 ≡ w → Stands ws a (w ∷ []) (a + 1)
one ws a w h e = record { here = drop_more ws a 0 h ∙ ap (λ x. x ∷ drop (a + 1) ws) e; far = refl }

pub one_inside : (ws : List ℕ) (a b w : ℕ) (xs : List ℕ) → Stands ws a (w ∷ xs) b → a < length ws
one_inside ws a b w xs s = let h = ap length s.here in let k = length-drop a ws in omega arith

pub one_is : (ws : List ℕ) (a b w : ℕ) (xs : List ℕ) → Stands ws a (w ∷ xs) b → get_or ws a 0 ≡ w
one_is ws a b w xs s = ap (λ i. get_or ws i 0) (sym (add-zero a)) ∙ sym (get_or-drop a ws 0 0) ∙ ap (λ t. get_or t 0 0) s.here

pub stood_stands : (t : Tag) (ws : List ℕ) (at v : ℕ) → Stood t ws at v → Stands ws at (tagged t v ∷ []) (at + 1)
stood_stands t ws at v s = one ws at (tagged t v) s.inside s.same

pub stands_stood : (t : Tag) (ws : List ℕ) (at b v : ℕ) (xs : List ℕ) → v < size t → Stands ws at (tagged t v ∷ xs) b → Stood t ws at v
stands_stood t ws at b v xs h s = record { inside = one_inside ws at b (tagged t v) xs s; same = one_is ws at b (tagged t v) xs s; small = h }

pub stands_starts : (t : Tag) (ws : List ℕ) (at b v : ℕ) (xs : List ℕ) → v < 268435456 → Stands ws at (tagged t v ∷ xs) b → starts t ws at ≡ true
stands_starts t ws at b v xs h s =
    let i = one_inside ws at b (tagged t v) xs s in let e = one_is ws at b (tagged t v) xs s in
    let q : get_or ws at 0 / 268435456 ≡ number t = omega arith in
    grind (arith, nat_tests)

pub stands_other : (u t : Tag) (ws : List ℕ) (at b v : ℕ) (xs : List ℕ) → v < 268435456 → (number t ≡ number u → ⊥) → Stands ws at (tagged t v ∷ xs) b → starts u ws at ≡ false
stands_other u t ws at b v xs h n s =
    let i = one_inside ws at b (tagged t v) xs s in let e = one_is ws at b (tagged t v) xs s in
    let q : get_or ws at 0 / 268435456 ≡ number t = omega arith in
    grind (arith, nat_tests)

-- all of a list
pub whole : (ws xs : List ℕ) (b : ℕ) → Stands ws 0 xs b → length ws ≡ b → ws ≡ xs
whole ws xs b s e = s.here ∙ ap (λ r. xs ++ r) (drop_all b ws (omega arith)) ∙ append-nil xs

pub itself : (xs : List ℕ) → Stands xs 0 xs (length xs)
itself xs = record { here = sym (ap (λ r. xs ++ r) (drop_all (length xs) xs (omega arith)) ∙ append-nil xs); far = zero-add (length xs) }
