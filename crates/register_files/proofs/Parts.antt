-- The parts of a register file.
use Rattle.std.proofs.Common.{◌≡◌, ℕ, zero, suc, ◌+◌, ◌*◌, ◌/◌, ◌%◌, ◌<◌, ◌≤◌, Bool, true, false, cond, ◌&&◌, eqb, ltb, List, length, get_or, Ok, Err, Result, sym, refl, ap, ◌∙◌, arith}
use Rattle.std.proofs.lemmas.Bool.Decides.{nat_tests}
use Rattle.words.specs.declared.faults.WordFault.TheVariants.{Limit}
use Rattle.words.specs.declared.faults.SchemaFault.{SchemaFault}
use Rattle.words.specs.declared.faults.SchemaFault.TheVariants.{Words, Unknown}
use Rattle.words.specs.Words.{word, worded, then}
use Rattle.words.specs.Items.{one_word, run, sized, got, behind, ended}
use Rattle.register_files.specs.Register.{Row, count, counted, row, link, landing, span, counts_of}
use Rattle.register_files.specs.Outline.{Counted, counts_got}
use Rattle.words.proofs.Inverse.{then_ok, worded_ok, if_ok, else_ok, err_ok}
use Rattle.words.proofs.Single.{Stood, word_told}
use Rattle.words.proofs.Items.{run_length, run_at, sizes_one}
use Rattle.words.specs.declared.tags.Tag.TheVariants as tag

-- one count, and one record
pub count_told : (ws : List ℕ) (at v : ℕ) → count ws at ≡ Ok v → Stood tag.Count ws at v
count_told ws at v e = record { inside = grind (arith, nat_tests); same = grind (arith, nat_tests); small = grind (arith, nat_tests) }

pub counted_told : (m : ℕ) (ws : List ℕ) (at v : ℕ) → counted m ws at ≡ Ok v → Stood tag.Record ws at v × (v < m)
counted_told m ws at v e = (record { inside = grind (arith, nat_tests); same = grind (arith, nat_tests); small = grind (arith, nat_tests) }, grind (arith, nat_tests))

-- the counts that were read
got_known : {A E : Type 0} (r : Result (List A) E) (n : ℕ) → sized r ≡ Ok n → (r ≡ Ok (got r)) × (length (got r) ≡ n)
got_known (Ok xs) n e = (refl, cc)
got_known (Err e) n p = absurd (err_ok p)

pub record KindsRead (ws cs : List ℕ) : Type 0 where
  pub first : word tag.Register ws 0 ≡ Ok (length cs)
  pub few : length cs ≤ 32
  pub each : run (count ws) (length cs) 1 ≡ Ok cs

pub counts_told : (ws cs : List ℕ) → counts_of ws ≡ Ok cs → KindsRead ws cs
counts_told ws cs e =
    let a = then_ok (worded (word tag.Register ws 0)) (λ n. cond (ltb 32 n) (Err (Words (Limit 0))) (run (count ws) n 1)) cs e in
    let b = else_ok (ltb 32 a.0) (run (count ws) a.0 1) (Words (Limit 0)) cs a.2 in
    let n : length cs ≡ a.0 = run_length (count ws) a.0 1 cs b.1 in
    record {
      first = worded_ok (word tag.Register ws 0) a.0 a.1 ∙ ap Ok (sym n);
      few = grind (arith, nat_tests);
      each = ap (λ m. run (count ws) m 1) n ∙ b.1;
    }

pub counts_read : (ws cs : List ℕ) → KindsRead ws cs → counts_of ws ≡ Ok cs
counts_read ws cs k =
    ap (λ r. then (worded r) (λ n. cond (ltb 32 n) (Err (Words (Limit 0))) (run (count ws) n 1))) k.first
    ∙ let z : ltb 32 (length cs) ≡ false = grind (arith, nat_tests) in
    ap (λ b. cond b (Err (Words (Limit 0))) (run (count ws) (length cs) 1)) z ∙ k.each

pub count_stood : (ws cs : List ℕ) (k : ℕ) → counts_of ws ≡ Ok cs → k < length cs → Stood tag.Count ws (1 + k) (get_or cs k 0)
count_stood ws cs k e h = count_told ws (1 + k) (get_or cs k 0) (run_at (count ws) (length cs) 1 k cs 0 (counts_told ws cs e).each h)

pub known_stood : (ws : List ℕ) (n k : ℕ) → Counted ws n → k < n → Stood tag.Count ws (1 + k) (get_or (counts_got ws) k 0)
known_stood ws n k e h = let g = got_known (counts_of ws) n e in count_stood ws (counts_got ws) k g.0 (omega arith)

pub known_read : (ws : List ℕ) (n : ℕ) → Counted ws n → counts_of ws ≡ Ok (counts_got ws)
known_read ws n e = (got_known (counts_of ws) n e).0

pub known_length : (ws : List ℕ) (n : ℕ) → Counted ws n → length (counts_got ws) ≡ n
known_length ws n e = (got_known (counts_of ws) n e).1

-- the records of a row
behind_row : (at from to : ℕ) (r : Result (List ℕ) SchemaFault) → behind span at (then r (λ rs. Ok (record { from = from; to = to; leads = rs }))) ≡ ended one_word (at + 1) r
behind_row at from to (Ok xs) = let h = sizes_one xs in ap Ok (omega arith)
behind_row at from to (Err e) = refl

pub link_is : (cs ws : List ℕ) (room at v : ℕ) → word tag.RegisterLink ws at ≡ Ok v → 0 < room → v / 256 < length cs → v % 256 < length cs
    → link cs ws room at ≡ row cs ws at (get_or cs (v / 256) 0) (v / 256) (v % 256)
link_is cs ws room at v e h a b =
    ap (λ r. then (worded r) (λ v. cond (eqb room 0) (Err (Words (Limit at))) (cond (ltb (v / 256) (length cs) && ltb (v % 256) (length cs)) (row cs ws at (get_or cs (v / 256) 0) (v / 256) (v % 256)) (Err (Unknown at))))) e
    ∙ grind (arith, nat_tests)

pub landing_is : (cs ws : List ℕ) (room at v : ℕ) → word tag.Landings ws at ≡ Ok v → 0 < room → v / 256 % 256 + room ≡ 32 → v % 256 < length cs
    → landing cs ws room at ≡ row cs ws at (v / 65536) (v / 256 % 256) (v % 256)
landing_is cs ws room at v e h a b =
    ap (λ r. then (worded r) (λ v. cond (eqb room 0) (Err (Words (Limit at))) (cond (eqb (v / 256 % 256 + room) 32 && ltb (v % 256) (length cs)) (row cs ws at (v / 65536) (v / 256 % 256) (v % 256)) (Err (Unknown at))))) e
    ∙ grind (arith, nat_tests)

-- the same, as the code finds them
pub link_code : (ws : List ℕ) (kinds room at v n size : ℕ) → Counted ws kinds → word tag.RegisterLink ws at ≡ Ok v → 0 < room → v / 256 < kinds → v % 256 < kinds
    → n ≡ get_or (counts_got ws) (v / 256) 0 → size ≡ get_or (counts_got ws) (v % 256) 0
    → ended one_word (at + 1) (run (counted size ws) n (at + 1)) ≡ behind span at (link (counts_got ws) ws room at)
link_code ws kinds room at v n size k e h a b p q =
    let g = known_length ws kinds k in
    ap (λ s. ended one_word (at + 1) (run (counted s ws) n (at + 1))) q
    ∙ ap (λ m. ended one_word (at + 1) (run (counted (get_or (counts_got ws) (v % 256) 0) ws) m (at + 1))) p
    ∙ sym (behind_row at (v / 256) (v % 256) (run (counted (get_or (counts_got ws) (v % 256) 0) ws) (get_or (counts_got ws) (v / 256) 0) (at + 1)))
    ∙ ap (behind span at) (sym (link_is (counts_got ws) ws room at v e h (omega arith) (omega arith)))

pub landing_code : (ws : List ℕ) (kinds room at v size : ℕ) → Counted ws kinds → word tag.Landings ws at ≡ Ok v → 0 < room → v / 256 % 256 + room ≡ 32 → v % 256 < kinds
    → size ≡ get_or (counts_got ws) (v % 256) 0
    → ended one_word (at + 1) (run (counted size ws) (v / 65536) (at + 1)) ≡ behind span at (landing (counts_got ws) ws room at)
landing_code ws kinds room at v size k e h a b q =
    let g = known_length ws kinds k in
    ap (λ s. ended one_word (at + 1) (run (counted s ws) (v / 65536) (at + 1))) q
    ∙ sym (behind_row at (v / 256 % 256) (v % 256) (run (counted (get_or (counts_got ws) (v % 256) 0) ws) (v / 65536) (at + 1)))
    ∙ ap (behind span at) (sym (landing_is (counts_got ws) ws room at v e h a (omega arith)))

pub kinds_code : (ws : List ℕ) (n m : ℕ) → word tag.Register ws 0 ≡ Ok n → n ≤ 32 → ended one_word 1 (run (count ws) n 1) ≡ Ok m → Ok n ≡ sized (counts_of ws)
kinds_code ws n m e h p =
    let z : ltb 32 n ≡ false = grind (arith, nat_tests) in
    sym (ap (λ r. sized (then (worded r) (λ n. cond (ltb 32 n) (Err (Words (Limit 0))) (run (count ws) n 1)))) e
    ∙ ap (λ b. sized (cond b (Err (Words (Limit 0))) (run (count ws) n 1))) z
    ∙ counted_so (run (count ws) n 1) refl p)
  where
    counted_so : (r : Result (List ℕ) SchemaFault) → run (count ws) n 1 ≡ r → ended one_word 1 r ≡ Ok m → sized r ≡ Ok n
    counted_so (Ok xs) q p = ap Ok (run_length (count ws) n 1 xs q)
    counted_so (Err e) q p = absurd (err_ok p)

-- without room there is none
pub link_room : (cs ws : List ℕ) (room at : ℕ) (l : Row) → link cs ws room at ≡ Ok l → 0 < room
link_room cs ws zero at l e = absurd (err_ok (then_ok (worded (word tag.RegisterLink ws at)) (λ v. Err (Words (Limit at))) l e).2)
link_room cs ws (suc n) at l e = omega arith

pub landing_room : (cs ws : List ℕ) (room at : ℕ) (l : Row) → landing cs ws room at ≡ Ok l → 0 < room
landing_room cs ws zero at l e = absurd (err_ok (then_ok (worded (word tag.Landings ws at)) (λ v. Err (Words (Limit at))) l e).2)
landing_room cs ws (suc n) at l e = omega arith

-- what an accepted link says
pub record LinkRead (cs ws : List ℕ) (room at : ℕ) (l : Row) : Type 0 where
  pub roomy : 0 < room
  pub head : word tag.RegisterLink ws at ≡ Ok (l.from * 256 + l.to)
  pub from_known : l.from < length cs
  pub to_known : l.to < length cs
  pub each : run (counted (get_or cs l.to 0) ws) (get_or cs l.from 0) (at + 1) ≡ Ok l.leads

both : (a b : Bool) → (a && b) ≡ true → (a ≡ true) × (b ≡ true)
both true b e = (refl, e)
both false b e = absurd (let z : ◌≡◌ {A = Bool} true false = sym e in let y : ◌≡◌ {A = ℕ} 0 1 = cc in omega arith)

row_told : (cs ws : List ℕ) (at n from to : ℕ) (l : Row) → row cs ws at n from to ≡ Ok l
    → (run (counted (get_or cs to 0) ws) n (at + 1) ≡ Ok l.leads) × (l.from ≡ from) × (l.to ≡ to)
row_told cs ws at n from to l e =
    let x = then_ok (run (counted (get_or cs to 0) ws) n (at + 1)) (λ rs. Ok (record { from = from; to = to; leads = rs })) l e in
    let h : l ≡ record { from = from; to = to; leads = x.0 } = cc in
    (x.1 ∙ ap (λ r. Ok r.leads) (sym h), ap (λ r. r.from) h, ap (λ r. r.to) h)

pub link_told : (cs ws : List ℕ) (room at : ℕ) (l : Row) → link cs ws room at ≡ Ok l → LinkRead cs ws room at l
link_told cs ws room at l e =
    let x = then_ok (worded (word tag.RegisterLink ws at)) (λ v. cond (eqb room 0) (Err (Words (Limit at))) (cond (ltb (v / 256) (length cs) && ltb (v % 256) (length cs)) (row cs ws at (get_or cs (v / 256) 0) (v / 256) (v % 256)) (Err (Unknown at)))) l e in
    let v = x.0 in
    let y = else_ok (eqb room 0) (cond (ltb (v / 256) (length cs) && ltb (v % 256) (length cs)) (row cs ws at (get_or cs (v / 256) 0) (v / 256) (v % 256)) (Err (Unknown at))) (Words (Limit at)) l x.2 in
    let z = if_ok (ltb (v / 256) (length cs) && ltb (v % 256) (length cs)) (row cs ws at (get_or cs (v / 256) 0) (v / 256) (v % 256)) (Unknown at) l y.1 in
    let b = both (ltb (v / 256) (length cs)) (ltb (v % 256) (length cs)) z.0 in
    let r = row_told cs ws at (get_or cs (v / 256) 0) (v / 256) (v % 256) l z.1 in
    let w = worded_ok (word tag.RegisterLink ws at) v x.1 in
    let q : v ≡ l.from * 256 + l.to = omega (arith, r.1, r.2) in
    record {
      roomy = link_room cs ws room at l e;
      head = w ∙ ap Ok q;
      from_known = rw r.1 (grind (arith, nat_tests));
      to_known = rw r.2 (grind (arith, nat_tests));
      each = ap (λ t. run (counted (get_or cs t 0) ws) (get_or cs l.from 0) (at + 1)) r.2 ∙ ap (λ t. run (counted (get_or cs (v % 256) 0) ws) (get_or cs t 0) (at + 1)) r.1 ∙ r.0;
    }

pub link_made : (cs ws : List ℕ) (room at : ℕ) (l : Row) → length cs ≤ 256 → LinkRead cs ws room at l → link cs ws room at ≡ Ok l
link_made cs ws room at l h r =
    let v = l.from * 256 + l.to in
    let a : v / 256 ≡ l.from = omega (arith, r.to_known) in
    let b : v % 256 ≡ l.to = omega (arith, r.to_known) in
    link_is cs ws room at v r.head r.roomy (rw a r.from_known) (rw b r.to_known)
    ∙ ap (λ t. row cs ws at (get_or cs t 0) t (v % 256)) a
    ∙ ap (λ t. row cs ws at (get_or cs l.from 0) l.from t) b
    ∙ ap (λ q. then q (λ rs. Ok (record { from = l.from; to = l.to; leads = rs }))) r.each

-- what accepted landings say
pub record LandingRead (cs ws : List ℕ) (room at : ℕ) (l : Row) : Type 0 where
  pub roomy : 0 < room
  pub head : word tag.Landings ws at ≡ Ok (length l.leads * 65536 + l.from * 256 + l.to)
  pub numbered : l.from + room ≡ 32
  pub to_known : l.to < length cs
  pub short : length l.leads < 4096
  pub each : run (counted (get_or cs l.to 0) ws) (length l.leads) (at + 1) ≡ Ok l.leads

pub landing_told : (cs ws : List ℕ) (room at : ℕ) (l : Row) → landing cs ws room at ≡ Ok l → LandingRead cs ws room at l
landing_told cs ws room at l e =
    let x = then_ok (worded (word tag.Landings ws at)) (λ v. cond (eqb room 0) (Err (Words (Limit at))) (cond (eqb (v / 256 % 256 + room) 32 && ltb (v % 256) (length cs)) (row cs ws at (v / 65536) (v / 256 % 256) (v % 256)) (Err (Unknown at)))) l e in
    let v = x.0 in
    let y = else_ok (eqb room 0) (cond (eqb (v / 256 % 256 + room) 32 && ltb (v % 256) (length cs)) (row cs ws at (v / 65536) (v / 256 % 256) (v % 256)) (Err (Unknown at))) (Words (Limit at)) l x.2 in
    let z = if_ok (eqb (v / 256 % 256 + room) 32 && ltb (v % 256) (length cs)) (row cs ws at (v / 65536) (v / 256 % 256) (v % 256)) (Unknown at) l y.1 in
    let b = both (eqb (v / 256 % 256 + room) 32) (ltb (v % 256) (length cs)) z.0 in
    let r = row_told cs ws at (v / 65536) (v / 256 % 256) (v % 256) l z.1 in
    let w = worded_ok (word tag.Landings ws at) v x.1 in
    let m : length l.leads ≡ v / 65536 = run_length (counted (get_or cs (v % 256) 0) ws) (v / 65536) (at + 1) l.leads r.0 in
    let s = word_told tag.Landings ws at v w in
    let q : v ≡ length l.leads * 65536 + l.from * 256 + l.to = omega (arith, r.1, r.2, s.small) in
    record {
      roomy = landing_room cs ws room at l e;
      head = w ∙ ap Ok q;
      numbered = rw r.1 (grind (arith, nat_tests));
      to_known = rw r.2 (grind (arith, nat_tests));
      short = omega (arith, s.small);
      each = ap (λ t. run (counted (get_or cs t 0) ws) (length l.leads) (at + 1)) r.2 ∙ ap (λ t. run (counted (get_or cs (v % 256) 0) ws) t (at + 1)) m ∙ r.0;
    }

pub landing_made : (cs ws : List ℕ) (room at : ℕ) (l : Row) → length cs ≤ 256 → LandingRead cs ws room at l → landing cs ws room at ≡ Ok l
landing_made cs ws room at l h r =
    let v = length l.leads * 65536 + l.from * 256 + l.to in
    let a : v / 65536 ≡ length l.leads = omega (arith, r.to_known, r.numbered) in
    let b : v / 256 % 256 ≡ l.from = omega (arith, r.to_known, r.numbered) in
    let d : v % 256 ≡ l.to = omega (arith, r.to_known) in
    landing_is cs ws room at v r.head r.roomy (rw b r.numbered) (rw d r.to_known)
    ∙ ap (λ t. row cs ws at t (v / 256 % 256) (v % 256)) a
    ∙ ap (λ t. row cs ws at (length l.leads) t (v % 256)) b
    ∙ ap (λ t. row cs ws at (length l.leads) l.from t) d
    ∙ ap (λ q. then q (λ rs. Ok (record { from = l.from; to = l.to; leads = rs }))) r.each
