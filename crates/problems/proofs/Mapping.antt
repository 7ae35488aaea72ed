-- Kind maps and link maps, as the code reads them.
use Rattle.std.proofs.Common.{◌≡◌, ℕ, ◌+◌, ◌-◌, ◌/◌, ◌%◌, ◌<◌, ◌≤◌, true, cond, ◌&&◌, eqb, ltb, List, length, get_or, Ok, Err, sym, ap, ◌∙◌, arith}
use Rattle.std.proofs.lemmas.Bool.{and_parts}
use Rattle.std.proofs.lemmas.Bool.Decides.{nat_tests}
use Rattle.words.specs.declared.faults.SchemaFault.TheVariants.{Unknown, Unjoined}
use Rattle.words.specs.Words.{word, worded, then}
use Rattle.words.proofs.Inverse.{then_ok, worded_ok, if_ok}
use Rattle.words.proofs.Single.{word_told}
use Rattle.words.specs.Items.{behind, one_word}
use Rattle.problems.specs.Problem.{Link, path, kind_of, kind_mapped, kind_maps, begins, stops, arriving, map_of, link_mapped, path_size}
use Rattle.problems.specs.Seen.{reached, Mapped, kinds_got}
use Rattle.words.proofs.Items.{items_at, items_full, more_one, places_one}
use Rattle.problems.proofs.Paths.{path_length, reached_ok}
use Rattle.words.specs.declared.tags.Tag.TheVariants as tag

pub record KindRead (n kinds : ℕ) (ws : List ℕ) (left at k : ℕ) : Type 0 where
  pub fields : ℕ
  pub head : word tag.KindMap ws at ≡ Ok fields
  pub numbered : fields / 256 + left ≡ n
  pub is : fields % 256 ≡ k
  pub known : k < kinds

pub kind_told : (n kinds : ℕ) (ws : List ℕ) (left at k : ℕ) → kind_mapped n kinds ws left at ≡ Ok k → KindRead n kinds ws left at k
kind_told n kinds ws left at k e =
    let x = then_ok (worded (word tag.KindMap ws at)) (kind_of n kinds left at) k e in
    let v = x.0 in
    let z = if_ok (eqb (v / 256 + left) n && ltb (v % 256) kinds) (Ok (v % 256)) (Unknown at) k x.2 in
    let b = and_parts (eqb (v / 256 + left) n) (ltb (v % 256) kinds) z.0 in
    let q : v % 256 ≡ k = let r = z.1 in cc in
    let c : v % 256 < kinds = grind (arith, nat_tests) in
    record { fields = v; head = worded_ok (word tag.KindMap ws at) v x.1; numbered = grind (arith, nat_tests); is = q; known = omega arith }

pub maps_length : (n kinds : ℕ) (ws : List ℕ) (at : ℕ) (km : List ℕ) → kind_maps n kinds ws at ≡ Ok km → length km ≡ n
maps_length n kinds ws at km e = items_full one_word (λ left p. ltb 0 left) (kind_mapped n kinds ws) (λ m p. more_one m) n at km e

pub map_at : (n kinds : ℕ) (ws : List ℕ) (at k : ℕ) → Mapped n kinds ws at → k < n → KindRead n kinds ws (n - k) (at + k) (get_or (kinds_got n kinds ws at) k 0)
map_at n kinds ws at k m h =
    let l = maps_length n kinds ws at (kinds_got n kinds ws at) m in
    let q = places_one (kinds_got n kinds ws at) at k (omega arith) in
    kind_told n kinds ws (n - k) (at + k) (get_or (kinds_got n kinds ws at) k 0)
    (ap (kind_mapped n kinds ws (n - k)) (sym q) ∙ items_at one_word (λ left p. ltb 0 left) (kind_mapped n kinds ws) n at k (kinds_got n kinds ws at) 0 m (omega arith))

pub map_inside : (n kinds : ℕ) (ws : List ℕ) (at k : ℕ) → Mapped n kinds ws at → k < n → at + k < length ws
map_inside n kinds ws at k m h = let r = map_at n kinds ws at k m h in (word_told tag.KindMap ws (at + k) r.fields r.head).inside

pub map_is : (n kinds : ℕ) (ws : List ℕ) (at k v : ℕ) → Mapped n kinds ws at → k < n → v ≡ get_or ws (at + k) 0 % 268435456 → v % 256 ≡ get_or (kinds_got n kinds ws at) k 0
map_is n kinds ws at k v m h e =
    let r = map_at n kinds ws at k m h in
    let s = word_told tag.KindMap ws (at + k) r.fields r.head in
    let q : v ≡ r.fields = omega (arith, s.same, s.small) in
    ap (λ x. x % 256) q ∙ r.is

-- a link map, where its word and its path are known
pub map_is_path : (ss : List Link) (km : List ℕ) (ts : List Link) (ws : List ℕ) (left at v : ℕ) → word tag.LinkMap ws at ≡ Ok v → v % 256 ≤ 64 → v / 256 + left ≡ length ss
    → link_mapped ss km ts ws left at ≡ then (path ts ws (v % 256) (begins ss km (v / 256)) (at + 1)) (arriving (stops ss km (v / 256)) (at + v % 256))
map_is_path ss km ts ws left at v e h n = ap (λ r. then (worded r) (map_of ss km ts ws left at)) e ∙ grind (arith, nat_tests)

pub map_code : (ss : List Link) (km : List ℕ) (ts : List Link) (ws : List ℕ) (left at v begin end last links : ℕ) → word tag.LinkMap ws at ≡ Ok v → v % 256 ≤ 64 → v / 256 + left ≡ links → length ss ≡ links
    → begin ≡ begins ss km (v / 256) → end ≡ stops ss km (v / 256)
    → reached (path ts ws (v % 256) begin (at + 1)) ≡ Ok last → last ≡ end
    → Ok (at + 1 + v % 256) ≡ behind path_size at (link_mapped ss km ts ws left at)
map_code ss km ts ws left at v begin end last links e h n ln a b r d =
    let x = reached_ok ts ws (path ts ws (v % 256) begin (at + 1)) last r in
    let l = path_length ts ws (v % 256) begin (at + 1) x.0 x.1 in
    let z : eqb x.0.1 (stops ss km (v / 256)) ≡ true = let s : x.0.1 ≡ stops ss km (v / 256) = x.2 ∙ d ∙ b in grind (arith, nat_tests) in
    sym (
    ap (behind path_size at) (map_is_path ss km ts ws left at v e h (n ∙ sym ln))
    ∙ ap (λ r. behind path_size at (then r (arriving (stops ss km (v / 256)) (at + v % 256)))) (ap (λ s. path ts ws (v % 256) s (at + 1)) (sym a) ∙ x.1)
    ∙ ap (λ c. behind path_size at (cond c (Ok x.0.0) (Err (Unjoined (at + v % 256))))) z
    ∙ ap Ok (omega arith))
