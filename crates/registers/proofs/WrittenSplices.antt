-- Words written one behind another are one list.
use Rattle.std.proofs.Common.{◌≡◌, ℕ, ◌+◌, ◌<◌, ◌≤◌, List, [], ◌∷◌, ◌++◌, length, take, drop, set, sym, ap, ◌∙◌, zero-add, add-one, arith, length-append}
use Rattle.std.proofs.lemmas.List.{append_assoc, length-take-le, take-append-drop, take_at, drop_at, drop-drop, set_split}
use Rattle.registers.specs.Splices.{spliced}

pub splice_none : (at : ℕ) (old : List ℕ) → old ≡ spliced at [] old
unfolding spliced
splice_none at old = let z : at + 0 ≡ at = omega arith in sym (ap (λ k. take at old ++ drop k old) z ∙ take-append-drop at old)

pub splice_one : (at w : ℕ) (old : List ℕ) → at < length old → set old at w ≡ spliced at (w ∷ []) old
unfolding spliced
splice_one at w old h = set_split old at w h ∙ ap (λ k. take at old ++ (w ∷ drop k old)) (sym (add-one at))

pub splice_front : (ws old : List ℕ) → spliced 0 ws old ≡ ws ++ drop (length ws) old
unfolding spliced
splice_front ws old = ap (λ k. ws ++ drop k old) (zero-add (length ws))

-- two splices, one behind the other, are one
pub splice_join : (at b : ℕ) (xs ys old : List ℕ) → at ≤ length old → at + length xs ≡ b → spliced b ys (spliced at xs old) ≡ spliced at (xs ++ ys) old
unfolding spliced
splice_join at b xs ys old h e =
    let front : List ℕ = take at old ++ xs in
    let n : length front ≡ b = length-append (take at old) xs ∙ ap (λ k. k + length xs) (length-take-le at old h) ∙ e in
    let whole : take at old ++ (xs ++ drop (at + length xs) old) ≡ front ++ drop b old = sym (append_assoc (take at old) xs (drop (at + length xs) old)) ∙ ap (λ k. front ++ drop k old) e in
    let last : drop (b + length ys) (front ++ drop b old) ≡ drop (at + length (xs ++ ys)) old =
    sym (drop-drop (length ys) b (front ++ drop b old)) ∙ ap (drop (length ys)) (drop_at front (drop b old) b n) ∙ drop-drop (length ys) b old
    ∙ ap (λ k. drop k old) (let q = length-append xs ys in omega arith) in
    ap (λ l. take b l ++ (ys ++ drop (b + length ys) l)) whole
    ∙ ap (λ l. l ++ (ys ++ drop (b + length ys) (front ++ drop b old))) (take_at front (drop b old) b n)
    ∙ ap (λ l. front ++ (ys ++ l)) last
    ∙ append_assoc (take at old) xs (ys ++ drop (at + length (xs ++ ys)) old)
    ∙ ap (λ l. take at old ++ l) (sym (append_assoc xs ys (drop (at + length (xs ++ ys)) old)))

-- the same, where each is what a call left
pub splice_then : (at b : ℕ) (xs ys old mid new : List ℕ) → at ≤ length old → at + length xs ≡ b → mid ≡ spliced at xs old → new ≡ spliced b ys mid → new ≡ spliced at (xs ++ ys) old
splice_then at b xs ys old mid new h e p q = q ∙ ap (spliced b ys) p ∙ splice_join at b xs ys old h e
