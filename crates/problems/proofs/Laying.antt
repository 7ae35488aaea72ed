-- Each item stands in the words as it is laid out, and is read where it stands.
use Rattle.std.proofs.Common.{◌≡◌, ℕ, ◌+◌, ◌*◌, ◌/◌, ◌%◌, ◌<◌, ◌≤◌, true, cond, ◌||◌, eqb, ltb, List, [], ◌∷◌, ◌++◌, map, length, Ok, Err, ap, ◌∙◌, subst, arith}
use Rattle.std.proofs.lemmas.List.{length-map}
use Rattle.std.proofs.lemmas.Bool.{or_parts}
use Rattle.std.proofs.lemmas.Bool.Decides.{nat_tests}
use Rattle.words.specs.declared.faults.SchemaFault.TheVariants.{Words, Unknown, Unjoined}
use Rattle.words.specs.declared.faults.WordFault.TheVariants.{Limit}
use Rattle.words.specs.Words.{word, worded, then, starts}
use Rattle.words.specs.Tags.{tagged}
use Rattle.words.proofs.Inverse.{then_ok, worded_ok, if_ok, else_ok}
use Rattle.words.proofs.Single.{word_told, word_read}
use Rattle.words.proofs.Standing.{Stands, join, front, back, stood_stands, stands_stood, stands_starts}
use Rattle.words.proofs.Laid.{ok_same, more_some}
use Rattle.problems.specs.Problem.{Link, Rule, link_of, link, path, meeting, paths, rule_of, rule, rule_size, path_size, kind_of, kind_mapped, begins, stops, arriving, map_of, link_mapped}
use Rattle.problems.specs.Layout.{link_words, rule_words, kind_words, map_words, Walks, GoodLink, GoodRule, GoodMap}
use Rattle.problems.proofs.Paths.{link_told, path_length}
use Rattle.problems.proofs.Ruling.{rule_is}
use Rattle.problems.proofs.Mapping.{kind_told, map_is_path}
use Rattle.problems.proofs.Walking.{path_stands, path_walks, path_made}
use Rattle.words.specs.declared.tags.Tag.TheVariants as tag

-- links
module _ (kinds : ℕ) (ws : List ℕ) where
  pub link_stands : (n room at : ℕ) (l : Link) → n + room ≡ 64 → link kinds ws room at ≡ Ok l → Stands ws at (link_words l) (at + 1)
  link_stands n room at l t e = stood_stands tag.Link ws at (l.from * 256 + l.to) (word_told tag.Link ws at (l.from * 256 + l.to) (link_told kinds ws room at l e).head)

  pub link_good : (n room at : ℕ) (l : Link) → n + room ≡ 64 → link kinds ws room at ≡ Ok l → GoodLink kinds l
  link_good n room at l t e = let r = link_told kinds ws room at l e in record { from_known = r.from_known; to_known = r.to_known }

  pub link_read : kinds ≤ 32 → (n room at b : ℕ) (l : Link) → n + room ≡ 64 → 0 < room → GoodLink kinds l → Stands ws at (link_words l) b → (link kinds ws room at ≡ Ok l) × (starts tag.Link ws at ≡ true)
  link_read few n room at b l t h g s =
      let v = l.from * 256 + l.to in
      let w : v < 65536 = omega (arith, g.from_known, g.to_known) in
      let f : v / 256 ≡ l.from = omega (arith, g.to_known) in
      let o : v % 256 ≡ l.to = omega (arith, g.to_known) in
      let x : v / 256 < kinds = rw f g.from_known in
      let y : v % 256 < kinds = rw o g.to_known in (
        ap (λ r. then (worded r) (link_of kinds room at)) (word_read tag.Link ws at v (stands_stood tag.Link ws at b v [] w s))
            ∙ pass room at v h x y
            ∙ ap (λ a. Ok (record { from = a; to = v % 256 })) f ∙ ap (λ a. Ok (record { from = l.from; to = a })) o,
        stands_starts tag.Link ws at b v [] (omega arith) s,
      )
    where
      pass : (room at v : ℕ) → 0 < room → v / 256 < kinds → v % 256 < kinds → link_of kinds room at v ≡ Ok (record { from = v / 256; to = v % 256 })
      pass room at v h x y = grind (arith, nat_tests)

-- rules
pub record RuleRead (kinds : ℕ) (ts : List Link) (ws : List ℕ) (at : ℕ) (r : Rule) : Type 0 where
  pub laid : Stands ws at (rule_words r) (at + rule_size r)
  pub good : GoodRule kinds ts r

module _ (kinds : ℕ) (ts : List Link) (ws : List ℕ) where
  pub rule_told : (room at : ℕ) (r : Rule) → rule kinds ts ws room at ≡ Ok r → RuleRead kinds ts ws at r
  rule_told room at r e =
      let x = then_ok (worded (word tag.Rule ws at)) (rule_of kinds ts ws room at) r e in
      let v = x.0 in
      let f = v / 65536 in
      let n = v / 256 % 256 in
      let m = v % 256 in
      let y = else_ok (eqb room 0 || (ltb 64 n || ltb 64 m)) (cond (ltb f kinds) (paths ts ws at f n m) (Err (Unknown at))) (Words (Limit at)) r x.2 in
      let z = if_ok (ltb f kinds) (paths ts ws at f n m) (Unknown at) r y.1 in
      let l = then_ok (path ts ws n f (at + 1)) (λ l. then (path ts ws m f (at + 1 + n)) (meeting f (at + n + m) l)) r z.1 in
      let q = then_ok (path ts ws m f (at + 1 + n)) (meeting f (at + n + m) l.0) r l.2 in
      let d = if_ok (eqb l.0.1 q.0.1) (Ok (record { first = f; left = l.0.0; right = q.0.0 })) (Unjoined (at + n + m)) r q.2 in
      let same : r ≡ record { first = f; left = l.0.0; right = q.0.0 } = ok_same d.1 in
      let s = word_told tag.Rule ws at v (worded_ok (word tag.Rule ws at) v x.1) in
      let nl = path_length ts ws n f (at + 1) l.0 l.1 in
      let nr = path_length ts ws m f (at + 1 + n) q.0 q.1 in
      let b0 = or_parts (eqb room 0) (ltb 64 n || ltb 64 m) y.0 in
      let b1 = or_parts (ltb 64 n) (ltb 64 m) b0.1 in
      let n64 : n ≤ 64 = let t = b1.0 in grind (arith, nat_tests) in
      let m64 : m ≤ 64 = let t = b1.1 in grind (arith, nat_tests) in
      let meet : q.0.1 ≡ l.0.1 = let t = d.0 in grind (arith, nat_tests) in
      let vf : v ≡ f * 65536 + length l.0.0 * 256 + length q.0.0 = omega arith in
      let far : at + 1 + n + m ≡ at + (1 + length l.0.0 + length q.0.0) = omega arith in
      rw same (record {
        laid = rw (← vf, ← far) (join ws at (at + 1) (at + 1 + n + m) (tagged tag.Rule v ∷ []) (map (tagged tag.Step) l.0.0 ++ map (tagged tag.Step) q.0.0)
            (stood_stands tag.Rule ws at v s)
            (join ws (at + 1) (at + 1 + n) (at + 1 + n + m) (map (tagged tag.Step) l.0.0) (map (tagged tag.Step) q.0.0)
            (path_stands ts ws n f (at + 1) l.0 l.1) (path_stands ts ws m f (at + 1 + n) q.0 q.1)));
        good = record {
          known = let t = z.0 in grind (arith, nat_tests);
          left_short = omega arith;
          right_short = omega arith;
          end = l.0.1;
          left_walks = path_walks ts ws n f (at + 1) l.0 l.1;
          right_walks = rw meet at (path_walks ts ws m f (at + 1 + n) q.0 q.1);
        };
      })

  paths_made : (at e : ℕ) (r : Rule) → path ts ws (length r.left) r.first (at + 1) ≡ Ok (r.left, e) → path ts ws (length r.right) r.first (at + 1 + length r.left) ≡ Ok (r.right, e)
      → paths ts ws at r.first (length r.left) (length r.right) ≡ Ok r
  paths_made at e r a b =
      let n = length r.left in
      let m = length r.right in
      let z : eqb e e ≡ true = grind (arith, nat_tests) in
      ap (λ x. then x (λ l. then (path ts ws m r.first (at + 1 + n)) (meeting r.first (at + n + m) l))) a
      ∙ ap (λ x. then x (meeting r.first (at + n + m) (r.left, e))) b
      ∙ ap (λ c. cond c (Ok r) (Err (Unjoined (at + n + m)))) z

  pub rule_read : kinds ≤ 32 → length ts ≤ 64 → (n room at b : ℕ) (r : Rule) → n + room ≡ 128 → 0 < room → GoodRule kinds ts r → Stands ws at (rule_words r) b → (rule kinds ts ws room at ≡ Ok r) × (starts tag.Rule ws at ≡ true)
  rule_read few short n room at b r t h g s =
      let nl = length r.left in
      let nr = length r.right in
      let v = r.first * 65536 + nl * 256 + nr in
      let w : v < 16777216 = omega (arith, g.known, g.left_short, g.right_short) in
      let vf : v / 65536 ≡ r.first = omega (arith, g.left_short, g.right_short) in
      let vl : v / 256 % 256 ≡ nl = omega (arith, g.left_short, g.right_short) in
      let vr : v % 256 ≡ nr = omega (arith, g.right_short) in
      let xs = map (tagged tag.Step) r.left in
      let ys = map (tagged tag.Step) r.right in
      let k = back ws at b (tagged tag.Rule v ∷ []) (xs ++ ys) s in
      let right : Stands ws (at + 1 + nl) ys b = rw (length-map r.left (tagged tag.Step)) at (back ws (at + 1) b xs ys k) in (
        rule_is kinds ts ws room at v (word_read tag.Rule ws at v (stands_stood tag.Rule ws at b v (xs ++ ys) w s)) h (rw vl g.left_short) (rw vr g.right_short) (rw vf g.known)
            ∙ ap (λ a. paths ts ws at a (v / 256 % 256) (v % 256)) vf
            ∙ ap (λ a. paths ts ws at r.first a (v % 256)) vl
            ∙ ap (λ a. paths ts ws at r.first nl a) vr
            ∙ paths_made at g.end r
            (path_made ts ws r.left r.first g.end (at + 1) (at + 1 + length xs) (omega arith) g.left_walks (front ws (at + 1) b xs ys k))
            (path_made ts ws r.right r.first g.end (at + 1 + nl) b (omega arith) g.right_walks right),
        stands_starts tag.Rule ws at b v (xs ++ ys) (omega arith) s,
      )

-- kind maps
module _ (total kinds : ℕ) (ws : List ℕ) where
  pub kind_stands : (n room at k : ℕ) → n + room ≡ total → kind_mapped total kinds ws room at ≡ Ok k → Stands ws at (kind_words n k) (at + 1)
  kind_stands n room at k h e =
      let r = kind_told total kinds ws room at k e in
      let q : r.fields ≡ n * 256 + k = omega (arith, r.numbered, r.is) in
      stood_stands tag.KindMap ws at (n * 256 + k) (word_told tag.KindMap ws at (n * 256 + k) (r.head ∙ ap Ok q))

  pub kind_read : total ≤ 32 → kinds ≤ 32 → (n room at b k : ℕ) → n + room ≡ total → 0 < room → k < kinds → Stands ws at (kind_words n k) b → (kind_mapped total kinds ws room at ≡ Ok k) × (ltb 0 room ≡ true)
  kind_read few small n room at b k t h g s =
      let v = n * 256 + k in
      let w : v < 65536 = omega arith in
      let o : v % 256 ≡ k = omega arith in
      let d : v / 256 + room ≡ total = omega arith in
      let y : v % 256 < kinds = omega arith in (
        ap (λ r. then (worded r) (kind_of total kinds room at)) (word_read tag.KindMap ws at v (stands_stood tag.KindMap ws at b v [] w s)) ∙ pass room at v d y ∙ ap Ok o,
        more_some room h,
      )
    where
      pass : (room at v : ℕ) → v / 256 + room ≡ total → v % 256 < kinds → kind_of total kinds room at v ≡ Ok (v % 256)
      pass room at v d y = grind (arith, nat_tests)

-- link maps
pub record MapRead (ss : List Link) (km : List ℕ) (ts : List Link) (ws : List ℕ) (n at : ℕ) (q : List ℕ) : Type 0 where
  pub laid : Stands ws at (map_words n q) (at + path_size q)
  pub good : GoodMap ss km ts n q

module _ (ss : List Link) (km : List ℕ) (ts : List Link) (ws : List ℕ) where
  pub map_told : (n room at : ℕ) (q : List ℕ) → n + room ≡ length ss → link_mapped ss km ts ws room at ≡ Ok q → MapRead ss km ts ws n at q
  map_told n room at q h e =
      let x = then_ok (worded (word tag.LinkMap ws at)) (map_of ss km ts ws room at) q e in
      let v = x.0 in
      let m = v % 256 in
      let begin = begins ss km (v / 256) in
      let stop = stops ss km (v / 256) in
      let walked = then (path ts ws m begin (at + 1)) (arriving stop (at + m)) in
      let y = else_ok (ltb 64 m) (cond (eqb (v / 256 + room) (length ss)) walked (Err (Unknown at))) (Words (Limit at)) q x.2 in
      let z = if_ok (eqb (v / 256 + room) (length ss)) walked (Unknown at) q y.1 in
      let w = then_ok (path ts ws m begin (at + 1)) (arriving stop (at + m)) q z.1 in
      let d = if_ok (eqb w.0.1 stop) (Ok w.0.0) (Unjoined (at + m)) q w.2 in
      let same : q ≡ w.0.0 = ok_same d.1 in
      let len : length w.0.0 ≡ m = path_length ts ws m begin (at + 1) w.0 w.1 in
      let short : m ≤ 64 = let t = y.0 in grind (arith, nat_tests) in
      let num : v / 256 ≡ n = let t = z.0 in grind (arith, nat_tests) in
      let meet : w.0.1 ≡ stop = let t = d.0 in grind (arith, nat_tests) in
      let fields : v ≡ n * 256 + length w.0.0 = omega arith in
      let far : at + 1 + m ≡ at + (1 + length w.0.0) = omega arith in
      rw same (record {
        laid = rw (← fields, ← far) (join ws at (at + 1) (at + 1 + m) (tagged tag.LinkMap v ∷ []) (map (tagged tag.Step) w.0.0)
            (stood_stands tag.LinkMap ws at v (word_told tag.LinkMap ws at v (worded_ok (word tag.LinkMap ws at) v x.1)))
            (path_stands ts ws m begin (at + 1) w.0 w.1));
        good = record {
          short = omega arith;
          walks = subst (λ k. Walks ts (begins ss km k) w.0.0 (stops ss km k)) num (subst (λ t. Walks ts begin w.0.0 t) meet (path_walks ts ws m begin (at + 1) w.0 w.1));
        };
      })

  pub map_read : length ss ≤ 64 → length ts ≤ 64 → (n room at b : ℕ) (q : List ℕ) → n + room ≡ length ss → 0 < room → GoodMap ss km ts n q → Stands ws at (map_words n q) b → (link_mapped ss km ts ws room at ≡ Ok q) × (ltb 0 room ≡ true)
  map_read few small n room at b q t h g s =
      let m = length q in
      let v = n * 256 + m in
      let w : v < 65536 = omega (arith, g.short) in
      let o : v % 256 ≡ m = omega (arith, g.short) in
      let d : v / 256 ≡ n = omega (arith, g.short) in
      let xs = map (tagged tag.Step) q in
      let z : eqb (stops ss km n) (stops ss km n) ≡ true = grind (arith, nat_tests) in (
        map_is_path ss km ts ws room at v (word_read tag.LinkMap ws at v (stands_stood tag.LinkMap ws at b v xs w s)) (rw o g.short) (rw d t)
            ∙ ap (λ a. then (path ts ws (v % 256) (begins ss km a) (at + 1)) (arriving (stops ss km a) (at + v % 256))) d
            ∙ ap (λ a. then (path ts ws a (begins ss km n) (at + 1)) (arriving (stops ss km n) (at + a))) o
            ∙ ap (λ x. then x (arriving (stops ss km n) (at + m))) (path_made ts ws q (begins ss km n) (stops ss km n) (at + 1) b (omega arith) g.walks (back ws at b (tagged tag.LinkMap v ∷ []) xs s))
            ∙ ap (λ c. cond c (Ok q) (Err (Unjoined (at + m)))) z,
        more_some room h,
      )
