-- A problem file is accepted exactly if it is the layout of a well-formed problem.
use Rattle.std.proofs.Common.{◌≡◌, ℕ, ◌+◌, ◌-◌, ◌*◌, ◌/◌, ◌%◌, ◌<◌, ◌≤◌, Bool, false, ltb, List, [], ◌∷◌, ◌++◌, map, length, Ok, sym, refl, ap, ◌∙◌, zero-add, arith, length-append}
use Rattle.std.proofs.lemmas.List.{length-map}
use Rattle.std.proofs.lemmas.Bool.Decides.{nat_tests}
use Rattle.std.specs.List.{flat_map, AllByRecursion}
use Rattle.words.specs.declared.tags.Tag.{Tag}
use Rattle.words.specs.Words.{worded, then, starts}
use Rattle.words.specs.Tags.{tagged, number}
use Rattle.words.specs.Items.{sizes, one_word}
use Rattle.words.specs.Numbered.{numbered, Each}
use Rattle.words.proofs.Inverse.{then_ok}
use Rattle.words.proofs.Items.{items_length, items_full, more_one, sizes_one}
use Rattle.words.proofs.Laid.{ok_same, joined_numbered, each_all, all_each, numbered_length, items_stand, items_each, items_read, end_told, end_read}
use Rattle.words.proofs.Single.{word_told, word_read}
use Rattle.words.proofs.Standing.{Stands, join, front, back, stood_stands, stands_stood, stands_other, whole, itself}
use Rattle.problems.specs.Problem.{Link, Rule, Problem, schema_of, schema, link, links, rule, rule_size, path_size, whole_schema, kind_mapped, link_mapped, read}
use Rattle.problems.specs.Layout.{link_words, rule_words, kind_words, map_words, schema_words, before_end, layout, GoodLink, GoodSchema, GoodRule, GoodMap, WellFormed, ReadsLayouts, ReadsOnce}
use Rattle.problems.proofs.SchemaReads.{schema_told}
use Rattle.problems.proofs.Mapping.{kind_told, maps_length}
use Rattle.problems.proofs.Laying.{link_stands, link_good, link_read, rule_told, rule_read, kind_stands, kind_read, map_told, map_read}
use Rattle.problems.proofs.Problems.{ProblemRead, problem_told, problem_made}
use Rattle.words.specs.declared.tags.Tag.TheVariants as tag

-- a schema
module _ (side : ℕ) (ws : List ℕ) (at k : ℕ) (ls : List Link) where
  schema_laid : whole_schema side ws at ≡ Ok (k, ls) → Stands ws at (schema_words side k ls) (at + 1 + length ls) × GoodSchema k ls
  schema_laid e =
      let a = then_ok (schema side ws at) (λ k. then (links k ws (at + 1)) (λ ls. Ok (k, ls))) (k, ls) e in
      let b = then_ok (links a.0 ws (at + 1)) (λ ls. Ok (a.0, ls)) (k, ls) a.2 in
      let h : (k, ls) ≡ (a.0, b.0) = ok_same b.2 in
      let p : a.0 ≡ k = ap (λ t. t.0) (sym h) in
      let q : b.0 ≡ ls = ap (λ t. t.1) (sym h) in
      let l : links k ws (at + 1) ≡ Ok ls = ap (λ j. links j ws (at + 1)) (sym p) ∙ b.1 ∙ ap Ok q in
      let r = schema_told side ws at k (a.1 ∙ ap Ok p) in
      let more : ℕ → ℕ → Bool = λ room p. starts tag.Link ws p in
      let z = items_stand one_word more (link k ws) ws 64 (λ _. link_words) (λ _. GoodLink k) (link_stands k ws) 64 0 (at + 1) ls refl l in
      let c : at + 1 + sizes one_word ls ≡ at + 1 + length ls = ap (λ j. at + 1 + j) (sizes_one ls) in (
        rw (← c, joined_numbered link_words 0 ls) (join ws at (at + 1) (at + 1 + sizes one_word ls) (tagged tag.Schema (side * 256 + k) ∷ []) (numbered (λ _. link_words) 0 ls)
            (stood_stands tag.Schema ws at (side * 256 + k) (word_told tag.Schema ws at (side * 256 + k) r.head)) z),
        record {
          some = r.some;
          few = r.few;
          few_links = items_length one_word more (link k ws) 64 (at + 1) ls l;
          known = each_all (GoodLink k) 0 ls (items_each one_word more (link k ws) ws 64 (λ _. link_words) (λ _. GoodLink k) (link_good k ws) 64 0 (at + 1) ls refl l);
        },
      )

  kinds_pass : (v : ℕ) → v / 256 ≡ side → 0 < v % 256 → v % 256 ≤ 32 → schema_of side at v ≡ Ok (v % 256)
  kinds_pass v a b d = grind (arith, nat_tests)

  schema_read : side < 256 → GoodSchema k ls → Stands ws at (schema_words side k ls) (at + 1 + length ls) → starts tag.Link ws (at + 1 + length ls) ≡ false → whole_schema side ws at ≡ Ok (k, ls)
  schema_read h g s z =
      let v = side * 256 + k in
      let w : v < 65536 = omega (arith, g.few) in
      let d : v / 256 ≡ side = omega (arith, g.few) in
      let m : v % 256 ≡ k = omega (arith, g.few) in
      let b = at + 1 + length ls in
      let l : Stands ws (at + 1) (numbered (λ _. link_words) 0 ls) b = rw (joined_numbered link_words 0 ls) at (back ws at b (tagged tag.Schema v ∷ []) (flat_map link_words ls) s) in
      ap (λ r. then (then (worded r) (schema_of side at)) (λ k. then (links k ws (at + 1)) (λ ls. Ok (k, ls)))) (word_read tag.Schema ws at v (stands_stood tag.Schema ws at b v (flat_map link_words ls) w s))
      ∙ ap (λ r. then r (λ k. then (links k ws (at + 1)) (λ ls. Ok (k, ls)))) (kinds_pass v d (omega (arith, g.some)) (omega (arith, g.few)) ∙ ap Ok m)
      ∙ ap (λ r. then r (λ ls. Ok (k, ls))) (items_read one_word (λ room p. starts tag.Link ws p) (link k ws) ws 64 (λ _. link_words) (λ _. GoodLink k) (λ n x. refl) (link_read k ws g.few)
      64 0 (at + 1) b ls refl g.few_links (all_each (GoodLink k) 0 ls g.known) l z)

pub read_layout : (ws : List ℕ) (p : Problem) → read ws ≡ Ok p → (ws ≡ layout p) × WellFormed p
read_layout ws p e =
    let r = problem_told ws p e in
    let sk = p.source_kinds in
    let ss = p.source_links in
    let tk = p.target_kinds in
    let ts = p.target_links in
    let km = p.kind_map in
    let p1 = 1 + length ss in
    let p2 = p1 + 1 + length ts in
    let p3 = p2 + sizes rule_size p.rules in
    let p4 = p3 + sizes one_word km in
    let p5 = p4 + sizes path_size p.link_map in
    let starting : ℕ → ℕ → Bool = λ room q. starts tag.Rule ws q in
    let left : ℕ → ℕ → Bool = λ room q. ltb 0 room in
    let a = schema_laid 0 ws 0 sk ss r.sourced in
    let b = schema_laid 1 ws p1 tk ts r.targeted in
    let c : Stands ws p2 (flat_map rule_words p.rules) p3 = rw (joined_numbered rule_words 0 p.rules)
    (items_stand rule_size starting (rule tk ts ws) ws 128 (λ _. rule_words) (λ _. GoodRule tk ts) (λ n room q x t h. (rule_told tk ts ws room q x h).laid) 128 0 p2 p.rules refl r.ruled) in
    let d = items_stand one_word left (kind_mapped sk tk ws) ws sk kind_words (λ _ k. k < tk) (kind_stands sk tk ws) sk 0 p3 km (zero-add sk) r.kinded in
    let f = items_stand path_size left (link_mapped ss km ts ws) ws (length ss) map_words (GoodMap ss km ts) (λ n room q x t h. (map_told ss km ts ws n room q x t h).laid) (length ss) 0 p4 p.link_map (zero-add (length ss)) r.linked in
    let A = schema_words 0 sk ss in
    let B = schema_words 1 tk ts in
    let C = flat_map rule_words p.rules in
    let D = numbered kind_words 0 km in
    let F = numbered map_words 0 p.link_map in
    let s : Stands ws 0 (before_end p) p5 =
    join ws 0 p1 p5 A (B ++ (C ++ (D ++ F))) a.0 (join ws p1 p2 p5 B (C ++ (D ++ F)) b.0 (join ws p2 p3 p5 C (D ++ F) c (join ws p3 p4 p5 D F d f))) in
    let z = end_told ws p5 p5 r.closed in
    let m : length (before_end p) ≡ p5 = let h = s.far in omega arith in
    let y : Stands ws p5 (tagged tag.End (length (before_end p)) ∷ []) (p5 + 1) = rw m (stood_stands tag.End ws p5 p5 z.0) in (
      whole ws (layout p) (p5 + 1) (join ws 0 p5 (p5 + 1) (before_end p) (tagged tag.End (length (before_end p)) ∷ []) s y) z.1,
      record {
        source = a.1;
        target = b.1;
        few_rules = items_length rule_size starting (rule tk ts ws) 128 p2 p.rules r.ruled;
        rules = each_all (GoodRule tk ts) 0 p.rules (items_each rule_size starting (rule tk ts ws) ws 128 (λ _. rule_words) (λ _. GoodRule tk ts) (λ n room q x t h. (rule_told tk ts ws room q x h).good) 128 0 p2 p.rules refl r.ruled);
        kinds_full = maps_length sk tk ws p3 km r.kinded;
        kinds = each_all (λ k. k < tk) 0 km (items_each one_word left (kind_mapped sk tk ws) ws sk kind_words (λ _ k. k < tk) (λ n room q k t h. (kind_told sk tk ws room q k h).known) sk 0 p3 km (zero-add sk) r.kinded);
        maps_full = items_full path_size left (link_mapped ss km ts ws) (λ j q. more_one j) (length ss) p4 p.link_map r.linked;
        maps = items_each path_size left (link_mapped ss km ts ws) ws (length ss) map_words (GoodMap ss km ts) (λ n room q x t h. (map_told ss km ts ws n room q x t h).good) (length ss) 0 p4 p.link_map (zero-add (length ss)) r.linked;
      },
    )

-- what comes first behind the links, and behind the rules
kinds_other : (u : Tag) (ws : List ℕ) (at b n kinds : ℕ) (km xs : List ℕ) → (number tag.KindMap ≡ number u → ⊥) → kinds ≤ 32 → n ≤ 32 → 0 < length km → AllByRecursion (λ k. k < kinds) km
    → Stands ws at (numbered kind_words n km ++ xs) b → starts u ws at ≡ false
kinds_other u ws at b n kinds [] xs ne few small h a s = absurd (omega arith)
kinds_other u ws at b n kinds (k ∷ km) xs ne few small h a s = let w : n * 256 + k < 268435456 = omega (arith, a.0) in stands_other u tag.KindMap ws at b (n * 256 + k) _ w ne s

rules_no_link : (ws : List ℕ) (at b kinds : ℕ) (ts : List Link) (rs : List Rule) (km xs : List ℕ) → kinds ≤ 32 → AllByRecursion (GoodRule kinds ts) rs → 0 < length km → AllByRecursion (λ k. k < kinds) km
    → Stands ws at (flat_map rule_words rs ++ (numbered kind_words 0 km ++ xs)) b → starts tag.Link ws at ≡ false
rules_no_link ws at b kinds ts [] km xs few g h a s = kinds_other tag.Link ws at b 0 kinds km xs (λ q. omega arith) few (omega arith) h a s
rules_no_link ws at b kinds ts (r ∷ rs) km xs few g h a s =
    let v = r.first * 65536 + length r.left * 256 + length r.right in
    let w : v < 268435456 = omega (arith, g.0.known, g.0.left_short, g.0.right_short) in
    stands_other tag.Link tag.Rule ws at b v _ w (λ q. omega arith) s

-- how long a well-formed problem can be
rules_short : (kinds : ℕ) (ts : List Link) (rs : List Rule) → AllByRecursion (GoodRule kinds ts) rs → sizes rule_size rs ≤ length rs * 129
rules_short kinds ts [] a = omega arith
rules_short kinds ts (r ∷ rs) a = let h = rules_short kinds ts rs a.1 in omega (arith, a.0.left_short, a.0.right_short)

maps_short : (ss : List Link) (km : List ℕ) (ts : List Link) (n : ℕ) (qs : List (List ℕ)) → Each (GoodMap ss km ts) n qs → sizes path_size qs ≤ length qs * 65
maps_short ss km ts n [] a = omega arith
maps_short ss km ts n (q ∷ qs) a = let h = maps_short ss km ts (n + 1) qs a.1 in omega (arith, a.0.short)

rule_long : (n : ℕ) (r : Rule) → length (rule_words r) ≡ rule_size r
rule_long n r =
    let h = length-map r.left (tagged tag.Step) in let k = length-map r.right (tagged tag.Step) in
    let q = length-append (map (tagged tag.Step) r.left) (map (tagged tag.Step) r.right) in omega arith

map_long : (n : ℕ) (q : List ℕ) → length (map_words n q) ≡ path_size q
map_long n q = let h = length-map q (tagged tag.Step) in omega arith

joined_long : {X : Type 0} (size : X → ℕ) (lay : X → List ℕ) → ((n : ℕ) (x : X) → length (lay x) ≡ size x) → (xs : List X) → length (flat_map lay xs) ≡ sizes size xs
joined_long size lay len xs = ap length (joined_numbered lay 0 xs) ∙ numbered_length size (λ _. lay) len 0 xs

module _ (ws : List ℕ) (p : Problem) (w : WellFormed p) (all : Stands ws 0 (layout p) (length ws)) where
  layout_parts : ProblemRead ws p
  layout_parts =
      let sk = p.source_kinds in
      let ss = p.source_links in
      let tk = p.target_kinds in
      let ts = p.target_links in
      let rs = p.rules in
      let km = p.kind_map in
      let lm = p.link_map in
      let p1 = 1 + length ss in
      let p2 = p1 + 1 + length ts in
      let p3 = p2 + sizes rule_size rs in
      let p4 = p3 + sizes one_word km in
      let p5 = p4 + sizes path_size lm in
      let A = schema_words 0 sk ss in
      let B = schema_words 1 tk ts in
      let C = flat_map rule_words rs in
      let D = numbered kind_words 0 km in
      let F = numbered map_words 0 lm in
      let la : length A ≡ p1 = let h = joined_long one_word link_words (λ n x. refl) ss in let k = sizes_one ss in omega arith in
      let lb : length B ≡ 1 + length ts = let h = joined_long one_word link_words (λ n x. refl) ts in let k = sizes_one ts in omega arith in
      let lc : length C ≡ sizes rule_size rs = joined_long rule_size rule_words rule_long rs in
      let ld : length D ≡ sizes one_word km = numbered_length one_word kind_words (λ n x. refl) 0 km in
      let lf : length F ≡ sizes path_size lm = numbered_length path_size map_words map_long 0 lm in
      let le : length (before_end p) ≡ p5 =
      let h = length-append A (B ++ (C ++ (D ++ F))) in let i = length-append B (C ++ (D ++ F)) in let j = length-append C (D ++ F) in let k = length-append D F in omega arith in
      let short : p5 < 268435456 =
      let h = rules_short tk ts rs w.rules in let k = maps_short ss km ts 0 lm w.maps in let o = sizes_one km in
      omega (arith, w.source.few, w.source.few_links, w.target.few_links, w.few_rules, w.kinds_full, w.maps_full) in
      let E = tagged tag.End (length (before_end p)) ∷ [] in
      let s0 : Stands ws 0 (before_end p) p5 = rw (zero-add (length (before_end p)), le) at (front ws 0 (length ws) (before_end p) E all) in
      let s1 : Stands ws p5 (tagged tag.End p5 ∷ []) (length ws) = rw (zero-add (length (before_end p)), le) at (back ws 0 (length ws) (before_end p) E all) in
      let a0 : Stands ws 0 A p1 = rw (zero-add (length A), la) at (front ws 0 p5 A (B ++ (C ++ (D ++ F))) s0) in
      let a1 : Stands ws p1 (B ++ (C ++ (D ++ F))) p5 = rw (zero-add (length A), la) at (back ws 0 p5 A (B ++ (C ++ (D ++ F))) s0) in
      let q2 : p1 + (1 + length ts) ≡ p2 = omega arith in
      let b0 : Stands ws p1 B p2 = rw (lb, q2) at (front ws p1 p5 B (C ++ (D ++ F)) a1) in
      let b1 : Stands ws p2 (C ++ (D ++ F)) p5 = rw (lb, q2) at (back ws p1 p5 B (C ++ (D ++ F)) a1) in
      let c0 : Stands ws p2 C p3 = rw lc at (front ws p2 p5 C (D ++ F) b1) in
      let c1 : Stands ws p3 (D ++ F) p5 = rw lc at (back ws p2 p5 C (D ++ F) b1) in
      let d0 : Stands ws p3 D p4 = rw ld at (front ws p3 p5 D F c1) in
      let f0 : Stands ws p4 F p5 = rw ld at (back ws p3 p5 D F c1) in
      let some : 0 < length km = omega (arith, w.source.some, w.kinds_full) in
      let no : (m : ℕ) → m ≡ 0 → ltb 0 m ≡ false = λ m h. grind (arith, nat_tests) in
      record {
        sourced = schema_read 0 ws 0 sk ss (omega arith) w.source a0 (stands_other tag.Link tag.Schema ws p1 p5 (1 * 256 + tk) _ (omega (arith, w.target.few)) (λ q. omega arith) a1);
        targeted = schema_read 1 ws p1 tk ts (omega arith) w.target b0 (rules_no_link ws p2 p5 tk ts rs km F w.target.few w.rules some w.kinds b1);
        ruled = items_read rule_size (λ room q. starts tag.Rule ws q) (rule tk ts ws) ws 128 (λ _. rule_words) (λ _. GoodRule tk ts) rule_long (rule_read tk ts ws w.target.few w.target.few_links)
            128 0 p2 p3 rs refl w.few_rules (all_each (GoodRule tk ts) 0 rs w.rules) (rw (joined_numbered rule_words 0 rs) at c0)
            (kinds_other tag.Rule ws p3 p5 0 tk km F (λ q. omega arith) w.target.few (omega arith) some w.kinds c1);
        kinded = items_read one_word (λ left q. ltb 0 left) (kind_mapped sk tk ws) ws sk kind_words (λ _ k. k < tk) (λ n x. refl) (kind_read sk tk ws w.source.few w.target.few)
            sk 0 p3 p4 km (zero-add sk) (omega (arith, w.kinds_full)) (all_each (λ k. k < tk) 0 km w.kinds) d0 (no (sk - length km) (omega (arith, w.kinds_full)));
        linked = items_read path_size (λ left q. ltb 0 left) (link_mapped ss km ts ws) ws (length ss) map_words (GoodMap ss km ts) map_long (map_read ss km ts ws w.source.few_links w.target.few_links)
            (length ss) 0 p4 p5 lm (zero-add (length ss)) (omega (arith, w.maps_full)) w.maps f0 (no (length ss - length lm) (omega (arith, w.maps_full)));
        closed = end_read ws p5 (stands_stood tag.End ws p5 (length ws) p5 [] short s1) (let q = s1.far in omega arith);
      }

pub reads_layouts : ReadsLayouts
reads_layouts ws p = (
  read_layout ws p,
  λ h. let s : Stands ws 0 (layout p) (length ws) = rw h.0 (itself (layout p)) in problem_made ws p (layout_parts ws p h.1 s),
)

pub reads_once : ReadsOnce
reads_once ws vs p a b = (read_layout ws p a).0 ∙ sym (read_layout vs p b).0
