-- A path is read exactly if its steps stand there and it walks.
use Rattle.std.proofs.Common.{◌≡◌, ℕ, zero, suc, ◌+◌, ◌<◌, ◌≤◌, true, cond, eqb, ltb, List, [], ◌∷◌, map, length, get_or, Ok, Err, refl, ap, ◌∙◌, add-zero, arith}
use Rattle.std.proofs.lemmas.Bool.Decides.{nat_tests}
use Rattle.words.specs.declared.faults.SchemaFault.TheVariants.{Unknown, Unjoined}
use Rattle.words.specs.Words.{worded, then}
use Rattle.words.specs.Tags.{tagged}
use Rattle.words.proofs.Single.{word_told, word_read}
use Rattle.words.proofs.Standing.{Stands, none, join, back, stood_stands, stands_stood}
use Rattle.problems.specs.Problem.{Link, no_link, step_of, step, path}
use Rattle.problems.specs.Layout.{Walks}
use Rattle.problems.proofs.Paths.{path_split, step_told}
use Rattle.words.specs.declared.tags.Tag.TheVariants as tag

module _ (ts : List Link) (ws : List ℕ) where
  pub path_stands : (n kind p : ℕ) (x : List ℕ × ℕ) → path ts ws n kind p ≡ Ok x → Stands ws p (map (tagged tag.Step) x.0) (p + n)
  path_stands zero kind p x e = let h : x ≡ ([], kind) = cc in rw (h, add-zero) (none ws p)
  path_stands (suc n) kind p x e =
      let s = path_split ts ws n kind p x e in
      let q : p + 1 + n ≡ p + suc n = omega arith in
      rw (s.4, ← q) (join ws p (p + 1) (p + 1 + n) (tagged tag.Step s.0 ∷ []) (map (tagged tag.Step) s.1.0)
      (stood_stands tag.Step ws p s.0 (word_told tag.Step ws p s.0 (step_told ts ws kind p s.0 s.2).0))
      (path_stands n (get_or ts s.0 no_link).to (p + 1) s.1 s.3))

  pub path_walks : (n kind p : ℕ) (x : List ℕ × ℕ) → path ts ws n kind p ≡ Ok x → Walks ts kind x.0 x.1
  path_walks zero kind p x e = let h : x ≡ ([], kind) = cc in rw h refl
  path_walks (suc n) kind p x e =
      let s = path_split ts ws n kind p x e in
      let t = step_told ts ws kind p s.0 s.2 in
      rw s.4 (t.1, t.2, path_walks n (get_or ts s.0 no_link).to (p + 1) s.1 s.3)

  step_made : (kind p b g : ℕ) (xs : List ℕ) → length ts ≤ 256 → g < length ts → (get_or ts g no_link).from ≡ kind → Stands ws p (tagged tag.Step g ∷ xs) b → step ts ws kind p ≡ Ok g
  step_made kind p b g xs few h k s =
      let w : g < 256 = omega arith in
      let t : ltb g (length ts) ≡ true = grind (arith, nat_tests) in
      let u : eqb (get_or ts g no_link).from kind ≡ true = grind (arith, nat_tests) in
      ap (λ r. then (worded r) (step_of ts kind p)) (word_read tag.Step ws p g (stands_stood tag.Step ws p b g xs w s))
      ∙ ap (λ c. cond c (cond (eqb (get_or ts g no_link).from kind) (Ok g) (Err (Unjoined p))) (Err (Unknown p))) t
      ∙ ap (λ c. cond c (Ok g) (Err (Unjoined p))) u

  pub path_made : (gs : List ℕ) (kind e p b : ℕ) → length ts ≤ 256 → Walks ts kind gs e → Stands ws p (map (tagged tag.Step) gs) b → path ts ws (length gs) kind p ≡ Ok (gs, e)
  path_made [] kind e p b few w s = ap (λ k. Ok ([], k)) w
  path_made (g ∷ gs) kind e p b few w s =
      ap (λ r. then r (λ g. then (path ts ws (length gs) (get_or ts g no_link).to (p + 1)) (λ x. Ok (g ∷ x.0, x.1)))) (step_made kind p b g (map (tagged tag.Step) gs) few w.0 w.1 s)
      ∙ ap (λ r. then r (λ x. Ok (g ∷ x.0, x.1))) (path_made gs (get_or ts g no_link).to e (p + 1) b few w.2 (back ws p b (tagged tag.Step g ∷ []) (map (tagged tag.Step) gs) s))
