-- A schema that was read.
use Rattle.std.proofs.Common.{◌≡◌, ℕ, ◌+◌, ◌*◌, ◌/◌, ◌%◌, ◌<◌, ◌≤◌, cond, ◌&&◌, eqb, ltb, leb, List, length, Ok, Err, Result, sym, refl, ap, ◌∙◌, arith}
use Rattle.std.proofs.lemmas.Bool.{and_parts}
use Rattle.std.proofs.lemmas.Bool.Decides.{nat_tests}
use Rattle.words.specs.declared.faults.WordFault.TheVariants.{Wrong, Limit}
use Rattle.words.specs.declared.faults.SchemaFault.{SchemaFault}
use Rattle.words.specs.declared.faults.SchemaFault.TheVariants.{Words}
use Rattle.words.specs.Words.{word, worded, then, starts}
use Rattle.words.proofs.Inverse.{err_ok, then_ok, worded_ok, if_ok}
use Rattle.problems.specs.declared.Schema.{Schema}
use Rattle.words.specs.Items.{sized, one_word}
use Rattle.problems.specs.Problem.{Link, schema_of, schema, link, links, whole_schema}
use Rattle.problems.specs.Seen.{Linked, seen}
use Rattle.words.proofs.Items.{items_length}
use Rattle.words.specs.declared.tags.Tag.TheVariants as tag

pub record KindsRead (side : ℕ) (ws : List ℕ) (at k : ℕ) : Type 0 where
  pub head : word tag.Schema ws at ≡ Ok (side * 256 + k)
  pub some : 0 < k
  pub few : k ≤ 32

pub schema_told : (side : ℕ) (ws : List ℕ) (at k : ℕ) → schema side ws at ≡ Ok k → KindsRead side ws at k
schema_told side ws at k e =
    let x = then_ok (worded (word tag.Schema ws at)) (schema_of side at) k e in
    let v = x.0 in
    let y = if_ok (eqb (v / 256) side) (cond (ltb 0 (v % 256) && leb (v % 256) 32) (Ok (v % 256)) (Err (Words (Limit at)))) (Words (Wrong at)) k x.2 in
    let z = if_ok (ltb 0 (v % 256) && leb (v % 256) 32) (Ok (v % 256)) (Words (Limit at)) k y.1 in
    let b = and_parts (ltb 0 (v % 256)) (leb (v % 256) 32) z.0 in
    let q : v % 256 ≡ k = let r = z.1 in cc in
    let s : v / 256 ≡ side = grind (arith, nat_tests) in
    let t : 0 < v % 256 = grind (arith, nat_tests) in
    let u : v % 256 ≤ 32 = grind (arith, nat_tests) in
    let w : v ≡ side * 256 + k = omega arith in
    record { head = worded_ok (word tag.Schema ws at) v x.1 ∙ ap Ok w; some = omega arith; few = omega arith }

pub record SchemaRead (ws : List ℕ) (at : ℕ) (s : Schema) : Type 0 where
  pub linked : Linked s.kinds ws s.place s.links
  pub few_links : s.links ≤ 64
  pub placed : s.place ≡ at + 1

seen_ok : (at : ℕ) (r : Result (ℕ × List Link) SchemaFault) (s : Schema) → seen at r ≡ Ok s → (x : ℕ × List Link) × (r ≡ Ok x) × (s ≡ record { kinds = x.0; links = length x.1; place = at + 1 })
seen_ok at (Ok x) s e = (x, refl, cc)
seen_ok at (Err y) s e = absurd (err_ok e)

pub schema_seen : (side : ℕ) (ws : List ℕ) (at : ℕ) (s : Schema) → seen at (whole_schema side ws at) ≡ Ok s → SchemaRead ws at s
schema_seen side ws at s e =
    let x = seen_ok at (whole_schema side ws at) s e in
    let a = then_ok (schema side ws at) (λ k. then (links k ws (at + 1)) (λ ls. Ok (k, ls))) x.0 x.1 in
    let b = then_ok (links a.0 ws (at + 1)) (λ ls. Ok (a.0, ls)) x.0 a.2 in
    let h : (a.0, b.0) ≡ x.0 = let q = b.2 in cc in
    let p : x.0.0 ≡ a.0 = ap (λ t. t.0) (sym h) in
    let q : x.0.1 ≡ b.0 = ap (λ t. t.1) (sym h) in
    rw x.2 (record {
      linked = ap (λ k. sized (links k ws (at + 1))) p ∙ ap sized b.1 ∙ ap (λ l. Ok (length l)) (sym q);
      few_links = rw q (items_length one_word (λ room p. starts tag.Link ws p) (link a.0 ws) 64 (at + 1) b.0 b.1);
      placed = refl;
    })
