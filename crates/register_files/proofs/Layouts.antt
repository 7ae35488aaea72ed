-- A register file is accepted exactly if it is the layout of a well-formed one.
use Rattle.std.proofs.Common.{◌≡◌, ℕ, ◌+◌, ◌*◌, ◌<◌, ◌≤◌, true, false, ltb, List, [], ◌∷◌, ◌++◌, map, length, get_or, Ok, Result, sym, refl, ap, ◌∙◌, zero-add, arith, length-append}
use Rattle.std.proofs.ByRecursion.{All-get_or}
use Rattle.std.proofs.lemmas.List.{length-map}
use Rattle.std.proofs.lemmas.Bool.Decides.{nat_tests}
use Rattle.std.specs.List.{flat_map, AllByRecursion}
use Rattle.words.specs.declared.faults.SchemaFault.{SchemaFault}
use Rattle.words.specs.Words.{worded, starts, end}
use Rattle.words.specs.Items.{items, one_word, run, sizes}
use Rattle.words.specs.Numbered.{numbered, Each}
use Rattle.register_files.specs.Register.{Row, File, count, counted, link, landing, span, read}
use Rattle.words.specs.Tags.{tagged}
use Rattle.register_files.specs.Layout.{link_words, landing_words, before_end, layout, GoodLink, GoodLanding, WellFormed, ReadsLayouts}
use Rattle.words.proofs.Single.{word_told, word_read}
use Rattle.register_files.proofs.Parts.{link_told, link_made, landing_told, landing_made, counts_told, counts_read, count_told, counted_told}
use Rattle.words.proofs.Items.{run_length, sizes_one, items_length, none_left}
use Rattle.words.proofs.Laid.{joined_numbered, each_all, all_each, numbered_length, items_stand, items_each, items_read, end_told, end_read}
use Rattle.register_files.proofs.Files.{FileRead, read_told, read_made}
use Rattle.words.proofs.Standing.{Stands, join, front, back, stood_stands, stands_stood, stands_starts, stands_other, whole, itself}
use Rattle.words.specs.declared.tags.Tag.{Tag}
use Rattle.words.specs.declared.tags.Tag.TheVariants as tag

-- a run of words with one tag
run_words : Tag → ℕ → ℕ → List ℕ
run_words t n v = tagged t v ∷ []

map_numbered : (t : Tag) (n : ℕ) (vs : List ℕ) → map (tagged t) vs ≡ numbered (run_words t) n vs
unfolding run_words
map_numbered t n [] = refl
map_numbered t n (v ∷ vs) = ap (λ ws. tagged t v ∷ ws) (map_numbered t (n + 1) vs)

module _ (ws : List ℕ) (t : Tag) (f : ℕ → Result ℕ SchemaFault) (P : ℕ → Type 0) where
  run_stands : ((p v : ℕ) → f p ≡ Ok v → Stands ws p (tagged t v ∷ []) (p + 1)) → (n p : ℕ) (vs : List ℕ) → run f n p ≡ Ok vs → Stands ws p (map (tagged t) vs) (p + n)
  unfolding run_words
  run_stands each n p vs e =
      let q : sizes one_word vs ≡ n = sizes_one vs ∙ run_length f n p vs e in
      rw (map_numbered t 0 vs, ← q) (items_stand one_word (λ left p. ltb 0 left) (λ left p. f p) ws n (run_words t) (λ _. P) (λ k room p v h. each p v) n 0 p vs (zero-add n) e)

  run_all : ((p v : ℕ) → f p ≡ Ok v → P v) → (n p : ℕ) (vs : List ℕ) → run f n p ≡ Ok vs → AllByRecursion P vs
  run_all each n p vs e = each_all P 0 vs (items_each one_word (λ left p. ltb 0 left) (λ left p. f p) ws n (run_words t) (λ _. P) (λ k room p v h. each p v) n 0 p vs (zero-add n) e)

  run_read : ((p v : ℕ) → P v → Stands ws p (tagged t v ∷ []) (p + 1) → f p ≡ Ok v) → (vs : List ℕ) (p b : ℕ) → AllByRecursion P vs → Stands ws p (map (tagged t) vs) b → run f (length vs) p ≡ Ok vs
  unfolding run_words
  run_read each vs p b a s =
      items_read one_word (λ left p. ltb 0 left) (λ left p. f p) ws (length vs) (run_words t) (λ _. P) (λ k v. refl)
      (λ k room p b v h r q u. (each p v q (one_more p b v u), let z : 0 < room = r in grind (arith, nat_tests)))
      (length vs) 0 p b vs (zero-add (length vs)) (omega arith) (all_each P 0 vs a) (rw (map_numbered t 0 vs) at s) (none_left (length vs) (length vs) (omega arith))
    where
      one_more : (p b v : ℕ) → Stands ws p (tagged t v ∷ []) b → Stands ws p (tagged t v ∷ []) (p + 1)
      one_more p b v u = let q : b ≡ p + 1 = omega (arith, u.far) in rw q at u

-- the records of a row
module _ (ws : List ℕ) (m : ℕ) where
  leads_stand : (n p : ℕ) (rs : List ℕ) → run (counted m ws) n p ≡ Ok rs → Stands ws p (map (tagged tag.Record) rs) (p + n)
  leads_stand = run_stands ws tag.Record (counted m ws) (λ r. r < m) (λ p v e. stood_stands tag.Record ws p v (counted_told m ws p v e).0)

  leads_good : (n p : ℕ) (rs : List ℕ) → run (counted m ws) n p ≡ Ok rs → AllByRecursion (λ r. r < m) rs
  leads_good = run_all ws tag.Record (counted m ws) (λ r. r < m) (λ p v e. (counted_told m ws p v e).1)

  lead_read : m ≤ 65536 → (p v : ℕ) → v < m → Stands ws p (tagged tag.Record v ∷ []) (p + 1) → counted m ws p ≡ Ok v
  lead_read h p v k s = let q = word_read tag.Record ws p v (stands_stood tag.Record ws p (p + 1) v [] (omega arith) s) in grind (arith, nat_tests)

  leads_read : m ≤ 65536 → (rs : List ℕ) (p b : ℕ) → AllByRecursion (λ r. r < m) rs → Stands ws p (map (tagged tag.Record) rs) b → run (counted m ws) (length rs) p ≡ Ok rs
  leads_read h = run_read ws tag.Record (counted m ws) (λ r. r < m) (lead_read h)

-- rows that begin with a tag
module _ (ws : List ℕ) (t : Tag) (f : ℕ → ℕ → Result Row SchemaFault) (total : ℕ) (lay : Row → List ℕ) (P : ℕ → Row → Type 0) where
  rows_stand : ((room at : ℕ) (l : Row) → f room at ≡ Ok l → Stands ws at (lay l) (at + span l)) → (at : ℕ) (ls : List Row) → items span (λ room p. starts t ws p) f total at ≡ Ok ls
      → Stands ws at (flat_map lay ls) (at + sizes span ls)
  rows_stand each at ls e = rw (joined_numbered lay 0 ls) (items_stand span (λ room p. starts t ws p) f ws total (λ _. lay) P (λ n room at l h. each room at l) total 0 at ls (zero-add total) e)

  rows_each : ((n room at : ℕ) (l : Row) → n + room ≡ total → f room at ≡ Ok l → P n l) → (at : ℕ) (ls : List Row) → items span (λ room p. starts t ws p) f total at ≡ Ok ls → Each P 0 ls
  rows_each each at ls e = items_each span (λ room p. starts t ws p) f ws total (λ _. lay) P each total 0 at ls (zero-add total) e

  rows_read : ((l : Row) → length (lay l) ≡ span l)
      → ((n room at b : ℕ) (l : Row) → n + room ≡ total → 0 < room → P n l → Stands ws at (lay l) b → (f room at ≡ Ok l) × (starts t ws at ≡ true))
      → (at b : ℕ) (ls : List Row) → length ls ≤ total → Each P 0 ls → Stands ws at (flat_map lay ls) b → starts t ws b ≡ false → items span (λ room p. starts t ws p) f total at ≡ Ok ls
  rows_read len each at b ls h a s z =
      items_read span (λ room p. starts t ws p) f ws total (λ _. lay) P (λ _. len) each total 0 at b ls (zero-add total) h a (rw (joined_numbered lay 0 ls) at s) z

-- links and landings
module _ (cs ws : List ℕ) where
  link_stands : (room at : ℕ) (l : Row) → link cs ws room at ≡ Ok l → Stands ws at (link_words l) (at + span l)
  link_stands room at l e =
      let r = link_told cs ws room at l e in
      let n = run_length (counted (get_or cs l.to 0) ws) (get_or cs l.from 0) (at + 1) l.leads r.each in
      let q : at + 1 + get_or cs l.from 0 ≡ at + span l = omega arith in
      rw (← q) (join ws at (at + 1) (at + 1 + get_or cs l.from 0) (tagged tag.RegisterLink (l.from * 256 + l.to) ∷ []) (map (tagged tag.Record) l.leads)
      (stood_stands tag.RegisterLink ws at (l.from * 256 + l.to) (word_told tag.RegisterLink ws at (l.from * 256 + l.to) r.head))
      (leads_stand ws (get_or cs l.to 0) (get_or cs l.from 0) (at + 1) l.leads r.each))

  link_good : (room at : ℕ) (l : Row) → link cs ws room at ≡ Ok l → GoodLink cs l
  link_good room at l e =
      let r = link_told cs ws room at l e in
      record {
        from_known = r.from_known;
        to_known = r.to_known;
        full = run_length (counted (get_or cs l.to 0) ws) (get_or cs l.from 0) (at + 1) l.leads r.each;
        counted = leads_good ws (get_or cs l.to 0) (get_or cs l.from 0) (at + 1) l.leads r.each;
      }

  landing_stands : (room at : ℕ) (l : Row) → landing cs ws room at ≡ Ok l → Stands ws at (landing_words l) (at + span l)
  landing_stands room at l e =
      let r = landing_told cs ws room at l e in
      let q : at + 1 + length l.leads ≡ at + span l = omega arith in
      let v = length l.leads * 65536 + l.from * 256 + l.to in
      rw (← q) (join ws at (at + 1) (at + 1 + length l.leads) (tagged tag.Landings v ∷ []) (map (tagged tag.Record) l.leads)
      (stood_stands tag.Landings ws at v (word_told tag.Landings ws at v r.head))
      (leads_stand ws (get_or cs l.to 0) (length l.leads) (at + 1) l.leads r.each))

  landing_good : (n room at : ℕ) (l : Row) → n + room ≡ 32 → landing cs ws room at ≡ Ok l → GoodLanding cs n l
  landing_good n room at l h e =
      let r = landing_told cs ws room at l e in
      record {
        numbered = omega (arith, r.numbered);
        to_known = r.to_known;
        short = r.short;
        counted = leads_good ws (get_or cs l.to 0) (length l.leads) (at + 1) l.leads r.each;
      }

  module _ (few : length cs ≤ 32) (small : AllByRecursion (λ c. c < 65536) cs) where
    count_small : (k : ℕ) → k < length cs → get_or cs k 0 ≤ 65536
    count_small k h = let s = All-get_or (λ c. c < 65536) cs k 0 h small in omega arith

    link_read : (n room at b : ℕ) (l : Row) → n + room ≡ 64 → 0 < room → GoodLink cs l → Stands ws at (link_words l) b → (link cs ws room at ≡ Ok l) × (starts tag.RegisterLink ws at ≡ true)
    link_read n room at b l t h g s =
        let v = l.from * 256 + l.to in
        let w : v < 65536 = omega (arith, g.from_known, g.to_known) in (
          link_made cs ws room at l (omega arith) (record {
            roomy = h;
            head = word_read tag.RegisterLink ws at v (stands_stood tag.RegisterLink ws at b v (map (tagged tag.Record) l.leads) w s);
            from_known = g.from_known;
            to_known = g.to_known;
            each = ap (λ n. run (counted (get_or cs l.to 0) ws) n (at + 1)) (sym g.full)
                ∙ leads_read ws (get_or cs l.to 0) (count_small l.to g.to_known) l.leads (at + 1) b g.counted (back ws at b (tagged tag.RegisterLink v ∷ []) (map (tagged tag.Record) l.leads) s);
          }),
          stands_starts tag.RegisterLink ws at b v (map (tagged tag.Record) l.leads) (omega arith) s,
        )

    landing_read : (n room at b : ℕ) (l : Row) → n + room ≡ 32 → 0 < room → GoodLanding cs n l → Stands ws at (landing_words l) b → (landing cs ws room at ≡ Ok l) × (starts tag.Landings ws at ≡ true)
    landing_read n room at b l t h g s =
        let v = length l.leads * 65536 + l.from * 256 + l.to in
        let w : v < 268435456 = omega (arith, g.numbered, g.to_known, g.short) in (
          landing_made cs ws room at l (omega arith) (record {
            roomy = h;
            head = word_read tag.Landings ws at v (stands_stood tag.Landings ws at b v (map (tagged tag.Record) l.leads) w s);
            numbered = omega (arith, g.numbered);
            to_known = g.to_known;
            short = g.short;
            each = leads_read ws (get_or cs l.to 0) (count_small l.to g.to_known) l.leads (at + 1) b g.counted (back ws at b (tagged tag.Landings v ∷ []) (map (tagged tag.Record) l.leads) s);
          }),
          stands_starts tag.Landings ws at b v (map (tagged tag.Record) l.leads) w s,
        )

-- how long a well-formed file can be
links_short : (cs : List ℕ) (ls : List Row) → AllByRecursion (λ c. c < 65536) cs → AllByRecursion (GoodLink cs) ls → sizes span ls ≤ length ls * 65536
links_short cs [] s a = omega arith
links_short cs (l ∷ ls) s a =
    let h = links_short cs ls s a.1 in
    let c = All-get_or (λ c. c < 65536) cs l.from 0 a.0.from_known s in
    omega (arith, a.0.full)

landings_short : (cs : List ℕ) (ls : List Row) (n : ℕ) → Each (GoodLanding cs) n ls → sizes span ls ≤ length ls * 4096
landings_short cs [] n a = omega arith
landings_short cs (l ∷ ls) n a = let h = landings_short cs ls (n + 1) a.1 in omega (arith, a.0.short)

-- the words of each part, up to the end
before : (ws : List ℕ) (f : File) → FileRead ws f → Stands ws 0 (before_end f) (1 + length f.counts + sizes span f.links + sizes span f.landings)
before ws f r =
    let k = counts_told ws f.counts r.counted in
    let n = length f.counts in
    let b = 1 + n + sizes span f.links in
    let e = b + sizes span f.landings in
    join ws 0 (1 + n) e (tagged tag.Register n ∷ map (tagged tag.Count) f.counts) (flat_map link_words f.links ++ flat_map landing_words f.landings)
    (join ws 0 1 (1 + n) (tagged tag.Register n ∷ []) (map (tagged tag.Count) f.counts)
    (stood_stands tag.Register ws 0 n (word_told tag.Register ws 0 n k.first))
    (run_stands ws tag.Count (count ws) (λ c. c < 65536) (λ p v q. stood_stands tag.Count ws p v (count_told ws p v q)) n 1 f.counts k.each))
    (join ws (1 + n) b e (flat_map link_words f.links) (flat_map landing_words f.landings)
    (rows_stand ws tag.RegisterLink (link f.counts ws) 64 link_words (λ _. GoodLink f.counts) (link_stands f.counts ws) (1 + n) f.links r.linked)
    (rows_stand ws tag.Landings (landing f.counts ws) 32 landing_words (GoodLanding f.counts) (landing_stands f.counts ws) b f.landings r.landed))

pub read_layout : (ws : List ℕ) (f : File) → read ws ≡ Ok f → (ws ≡ layout f) × WellFormed f
read_layout ws f p =
    let r = read_told ws f p in
    let k = counts_told ws f.counts r.counted in
    let n = length f.counts in
    let b = 1 + n + sizes span f.links in
    let e = b + sizes span f.landings in
    let s = before ws f r in
    let z = end_told ws e e r.closed in
    let m : length (before_end f) ≡ e = let h = s.far in omega arith in
    let y : Stands ws e (tagged tag.End (length (before_end f)) ∷ []) (e + 1) = rw m (stood_stands tag.End ws e e z.0) in (
      whole ws (layout f) (e + 1) (join ws 0 e (e + 1) (before_end f) (tagged tag.End (length (before_end f)) ∷ []) s y) z.1,
      record {
        few_kinds = k.few;
        small = run_all ws tag.Count (count ws) (λ c. c < 65536) (λ q v h. (count_told ws q v h).small) n 1 f.counts k.each;
        few_links = items_length span (λ room p. starts tag.RegisterLink ws p) (link f.counts ws) 64 (1 + n) f.links r.linked;
        links = each_all (GoodLink f.counts) 0 f.links
            (rows_each ws tag.RegisterLink (link f.counts ws) 64 link_words (λ _. GoodLink f.counts) (λ k room p l h. link_good f.counts ws room p l) (1 + n) f.links r.linked);
        few_landings = items_length span (λ room p. starts tag.Landings ws p) (landing f.counts ws) 32 b f.landings r.landed;
        landings = rows_each ws tag.Landings (landing f.counts ws) 32 landing_words (GoodLanding f.counts) (landing_good f.counts ws) b f.landings r.landed;
      },
    )

link_span : (l : Row) → length (link_words l) ≡ span l
link_span l = let h = length-map l.leads (tagged tag.Record) in omega arith

landing_span : (l : Row) → length (landing_words l) ≡ span l
landing_span l = let h = length-map l.leads (tagged tag.Record) in omega arith

joined_length : (lay : Row → List ℕ) → ((l : Row) → length (lay l) ≡ span l) → (ls : List Row) → length (flat_map lay ls) ≡ sizes span ls
joined_length lay len ls = ap length (joined_numbered lay 0 ls) ∙ numbered_length span (λ _. lay) (λ _. len) 0 ls

count_read : (ws : List ℕ) (p v : ℕ) → v < 65536 → Stands ws p (tagged tag.Count v ∷ []) (p + 1) → count ws p ≡ Ok v
count_read ws p v h s = ap worded (word_read tag.Count ws p v (stands_stood tag.Count ws p (p + 1) v [] h s))

-- no link begins at the landings or at the end
landings_no_link : (cs ws : List ℕ) (at b n e : ℕ) (ls : List Row) → length cs ≤ 32 → length ls + n ≤ 32 → e < 268435456 → Each (GoodLanding cs) n ls
    → Stands ws at (flat_map landing_words ls ++ tagged tag.End e ∷ []) b → starts tag.RegisterLink ws at ≡ false
landings_no_link cs ws at b n e [] few room h a s = stands_other tag.RegisterLink tag.End ws at b e [] h (λ q. omega arith) s
landings_no_link cs ws at b n e (l ∷ ls) few room h a s =
    let v = length l.leads * 65536 + l.from * 256 + l.to in
    let w : v < 268435456 = omega (arith, a.0.numbered, a.0.to_known, a.0.short) in
    stands_other tag.RegisterLink tag.Landings ws at b v ((map (tagged tag.Record) l.leads ++ flat_map landing_words ls) ++ tagged tag.End e ∷ []) w (λ q. omega arith) s

module _ (ws : List ℕ) (f : File) (w : WellFormed f) (all : Stands ws 0 (layout f) (length ws)) where
  n : ℕ
  n = length f.counts

  pub layout_file : FileRead ws f
  unfolding n
  layout_file =
      let cs = f.counts in
      let hs : List ℕ = tagged tag.Register n ∷ map (tagged tag.Count) cs in
      let ls = flat_map link_words f.links in
      let ms = flat_map landing_words f.landings in
      let e = length (before_end f) in
      let hn : length hs ≡ 1 + n = let q = length-map cs (tagged tag.Count) in omega arith in
      let ln = joined_length link_words link_span f.links in
      let mn = joined_length landing_words landing_span f.landings in
      let en : e ≡ 1 + n + sizes span f.links + sizes span f.landings = let a = length-append hs (ls ++ ms) in let b = length-append ls ms in omega arith in
      let short : e < 268435456 = let a = links_short cs f.links w.small w.links in let b = landings_short cs f.landings 0 w.landings in omega (arith, w.few_kinds, w.few_links, w.few_landings) in
      let s0 : Stands ws 0 (before_end f) e = rw zero-add at (front ws 0 (length ws) (before_end f) (tagged tag.End e ∷ []) all) in
      let s7 : Stands ws e (tagged tag.End e ∷ []) (length ws) = rw zero-add at (back ws 0 (length ws) (before_end f) (tagged tag.End e ∷ []) all) in
      let h0 : Stands ws 0 hs (1 + n) = rw (zero-add, hn) at (front ws 0 e hs (ls ++ ms) s0) in
      let b0 : Stands ws (1 + n) (ls ++ ms) e = rw (zero-add, hn) at (back ws 0 e hs (ls ++ ms) s0) in
      let l0 : Stands ws (1 + n) ls (1 + n + sizes span f.links) = rw ln at (front ws (1 + n) e ls ms b0) in
      let m0 : Stands ws (1 + n + sizes span f.links) ms e = rw ln at (back ws (1 + n) e ls ms b0) in
      let last : end ws e ≡ Ok e = let q = s7.far in end_read ws e (stands_stood tag.End ws e (length ws) e [] short s7) (omega arith) in
      record {
        counted = counts_read ws cs (record {
          first = let v : n < 256 = omega (arith, w.few_kinds) in word_read tag.Register ws 0 n (stands_stood tag.Register ws 0 (1 + n) n (map (tagged tag.Count) cs) v h0);
          few = w.few_kinds;
          each = run_read ws tag.Count (count ws) (λ c. c < 65536) (count_read ws) cs 1 (1 + n) w.small (back ws 0 (1 + n) (tagged tag.Register n ∷ []) (map (tagged tag.Count) cs) h0);
        });
        linked = rows_read ws tag.RegisterLink (link cs ws) 64 link_words (λ _. GoodLink cs) link_span (link_read cs ws w.few_kinds w.small) (1 + n) (1 + n + sizes span f.links) f.links
            w.few_links (all_each (GoodLink cs) 0 f.links w.links) l0
            (landings_no_link cs ws (1 + n + sizes span f.links) (length ws) 0 e f.landings w.few_kinds (omega (arith, w.few_landings)) short w.landings
            (join ws (1 + n + sizes span f.links) e (length ws) ms (tagged tag.End e ∷ []) m0 s7));
        landed = rows_read ws tag.Landings (landing cs ws) 32 landing_words (GoodLanding cs) landing_span (landing_read cs ws w.few_kinds w.small) (1 + n + sizes span f.links) e f.landings
            w.few_landings w.landings m0
            (stands_other tag.Landings tag.End ws e (length ws) e [] short (λ q. omega arith) s7);
        closed = rw (← en) last;
      }

pub layout_read : (ws : List ℕ) (f : File) → (ws ≡ layout f) × WellFormed f → read ws ≡ Ok f
layout_read ws f h =
    let s : Stands ws 0 (layout f) (length ws) = rw h.0 (itself (layout f)) in
    read_made ws f (layout_file ws f h.1 s)

pub reads_layouts : ReadsLayouts
reads_layouts ws f = (read_layout ws f, layout_read ws f)
