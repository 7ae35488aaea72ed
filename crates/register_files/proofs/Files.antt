-- A register file as a whole, and as the code reads it.
use Rattle.std.proofs.Common.{◌≡◌, ℕ, suc, ◌+◌, ◌-◌, List, [], ◌∷◌, length, Ok, Err, Result, sym, refl, ap, ◌∙◌, arith}
use Rattle.std.proofs.lemmas.Bool.Decides.{nat_tests}
use Rattle.words.specs.declared.faults.SchemaFault.{SchemaFault}
use Rattle.words.specs.Words.{worded, then, starts, end}
use Rattle.words.specs.declared.tags.Tag.TheVariants as tag
use Rattle.words.specs.Items.{items, sizes, outlined, ended, places, prepended}
use Rattle.register_files.specs.Register.{Row, File, link, span, counts_of, links_of, landings_of, behind_landings, behind_links, behind_counts, read}
use Rattle.register_files.specs.Outline.{Counted, counts_got, outline_of}
use Rattle.words.proofs.Items.{prepended_none}
use Rattle.words.proofs.Inverse.{then_ok, worded_ok, err_ok}
use Rattle.register_files.proofs.Parts.{known_read, known_length}

pub record FileRead (ws : List ℕ) (f : File) : Type 0 where
  pub counted : counts_of ws ≡ Ok f.counts
  pub linked : links_of f.counts ws ≡ Ok f.links
  pub landed : landings_of f.counts ws (1 + length f.counts + sizes span f.links) ≡ Ok f.landings
  pub closed : end ws (1 + length f.counts + sizes span f.links + sizes span f.landings) ≡ Ok (1 + length f.counts + sizes span f.links + sizes span f.landings)

end_same : (ws : List ℕ) (at p : ℕ) → end ws at ≡ Ok p → p ≡ at
end_same ws at p e = grind (arith, nat_tests)

pub read_told : (ws : List ℕ) (f : File) → read ws ≡ Ok f → FileRead ws f
read_told ws f e =
    let a = then_ok (counts_of ws) (behind_counts ws) f e in
    let b = then_ok (links_of a.0 ws) (behind_links ws a.0) f a.2 in
    let m = then_ok (landings_of a.0 ws (1 + length a.0 + sizes span b.0)) (behind_landings ws a.0 b.0) f b.2 in
    let d = then_ok (worded (end ws (1 + length a.0 + sizes span b.0 + sizes span m.0))) (λ _. Ok (record { counts = a.0; links = b.0; landings = m.0 })) f m.2 in
    let same : f ≡ record { counts = a.0; links = b.0; landings = m.0 } = cc in
    rw same (record {
      counted = a.1;
      linked = b.1;
      landed = m.1;
      closed = let w = worded_ok (end ws (1 + length a.0 + sizes span b.0 + sizes span m.0)) d.0 d.1 in w ∙ ap Ok (end_same ws (1 + length a.0 + sizes span b.0 + sizes span m.0) d.0 w);
    })

pub read_made : (ws : List ℕ) (f : File) → FileRead ws f → read ws ≡ Ok f
read_made ws f r =
    ap (λ x. then x (behind_counts ws)) r.counted
    ∙ ap (λ x. then x (behind_links ws f.counts)) r.linked
    ∙ ap (λ x. then x (behind_landings ws f.counts f.links)) r.landed
    ∙ ap (λ x. then (worded x) (λ _. Ok (record { counts = f.counts; links = f.links; landings = f.landings }))) r.closed

pub places_length : (ls : List Row) (at : ℕ) → length (places span at ls) ≡ length ls
places_length [] at = refl
places_length (l ∷ ls) at = ap suc (places_length ls (at + span l))

triple : {a b c d : ℕ} {ps qs : List ℕ} → a ≡ b → c ≡ d → ps ≡ qs → ◌≡◌ {A = ℕ × ℕ × List ℕ} (a, c, ps) (b, d, qs)
triple {a} {b} {c} {d} {ps} {qs} u v w = cc

-- the parts, as the code reads them
module _ (ws : List ℕ) where
  counts_passed : (kinds : ℕ) → Counted ws kinds → behind_counts ws (counts_got ws) ≡ read ws
  counts_passed kinds k = sym (ap (λ x. then x (behind_counts ws)) (known_read ws kinds k))

  outlined_ok : (at : ℕ) (r : Result (List Row) SchemaFault) (ps : List ℕ) (next : ℕ) → outlined span at r ≡ Ok (ps, next) → (ls : List Row) × (r ≡ Ok ls) × (places span at ls ≡ ps) × (at + sizes span ls ≡ next)
  outlined_ok at (Ok ls) ps next e =
      let h : ◌≡◌ {A = List ℕ × ℕ} (places span at ls, at + sizes span ls) (ps, next) = cc in
      (ls, refl, ap (λ t. t.0) h, ap (λ t. t.1) h)
  outlined_ok at (Err z) ps next e = absurd (err_ok e)

  links_passed : (kinds next : ℕ) (ps : List ℕ) → Counted ws kinds → outlined span (1 + kinds) (links_of (counts_got ws) ws) ≡ Ok (ps, next)
      → (ls : List Row) × (links_of (counts_got ws) ws ≡ Ok ls) × (places span (1 + kinds) ls ≡ ps) × (1 + length (counts_got ws) + sizes span ls ≡ next)
  links_passed kinds next ps k e =
      let x = outlined_ok (1 + kinds) (links_of (counts_got ws) ws) ps next e in
      (x.0, x.1, x.2, ap (λ n. 1 + n + sizes span x.0) (known_length ws kinds k) ∙ x.3)

  ended_ok : (at : ℕ) (r : Result (List Row) SchemaFault) (next : ℕ) → ended span at r ≡ Ok next → (ls : List Row) × (r ≡ Ok ls) × (at + sizes span ls ≡ next)
  ended_ok at (Ok ls) next e = (ls, refl, cc)
  ended_ok at (Err z) next e = absurd (err_ok e)

  past_links : (kinds next : ℕ) (ps : List ℕ) (k : Counted ws kinds) (e : outlined span (1 + kinds) (links_of (counts_got ws) ws) ≡ Ok (ps, next))
      → then (landings_of (counts_got ws) ws next) (behind_landings ws (counts_got ws) (links_passed kinds next ps k e).0) ≡ read ws
  past_links kinds next ps k e =
      let x = links_passed kinds next ps k e in
      ap (λ p. then (landings_of (counts_got ws) ws p) (behind_landings ws (counts_got ws) x.0)) (sym x.3)
      ∙ sym (ap (λ r. then r (behind_links ws (counts_got ws))) x.1)
      ∙ counts_passed kinds k

  -- behind the landings only the end is left
  past_landings : (kinds next last : ℕ) (ps : List ℕ) (k : Counted ws kinds) (e : outlined span (1 + kinds) (links_of (counts_got ws) ws) ≡ Ok (ps, next))
      (b : ended span next (landings_of (counts_got ws) ws next) ≡ Ok last)
      → then (worded (end ws last)) (λ _. Ok (record { counts = counts_got ws; links = (links_passed kinds next ps k e).0; landings = (ended_ok next (landings_of (counts_got ws) ws next) last b).0 })) ≡ read ws
  past_landings kinds next last ps k e b =
      let x = links_passed kinds next ps k e in
      let y = ended_ok next (landings_of (counts_got ws) ws next) last b in
      ap (λ p. then (worded (end ws p)) (λ _. Ok (record { counts = counts_got ws; links = x.0; landings = y.0 }))) (sym (ap (λ q. q + sizes span y.0) x.3 ∙ y.2))
      ∙ sym (ap (λ r. then r (behind_landings ws (counts_got ws) x.0)) y.1)
      ∙ past_links kinds next ps k e

  pub all_read : (kinds next last p n : ℕ) (ps : List ℕ) → Counted ws kinds → outlined span (1 + kinds) (links_of (counts_got ws) ws) ≡ Ok (ps, next)
      → ended span next (landings_of (counts_got ws) ws next) ≡ Ok last → end ws last ≡ Ok p → length ps ≡ n → Ok (kinds, n, ps) ≡ outline_of (read ws)
  all_read kinds next last p n ps k e b d l =
      let x = links_passed kinds next ps k e in
      let g = known_length ws kinds k in
      let m : length x.0 ≡ n = sym (places_length x.0 (1 + kinds)) ∙ ap length x.2 ∙ l in
      let q : places span (1 + length (counts_got ws)) x.0 ≡ ps = ap (λ j. places span (1 + j) x.0) g ∙ x.2 in
      sym (ap (λ t. Ok (t.0, t.1, t.2)) (triple g m q))
      ∙ sym (ap (λ r. outline_of (then (worded r) (λ _. Ok (record { counts = counts_got ws; links = x.0; landings = (ended_ok next (landings_of (counts_got ws) ws next) last b).0 })))) d)
      ∙ ap outline_of (past_landings kinds next last ps k e b)

pub links_start : (ws : List ℕ) (kinds : ℕ) (ps : List ℕ) → Counted ws kinds → ps ≡ []
    → prepended ps (outlined span (1 + kinds) (items span (λ room p. starts tag.RegisterLink ws p) (link (counts_got ws) ws) (64 - length ps) (1 + kinds))) ≡ outlined span (1 + kinds) (links_of (counts_got ws) ws)
links_start ws kinds ps k e =
    ap (λ qs. prepended qs (outlined span (1 + kinds) (items span (λ room p. starts tag.RegisterLink ws p) (link (counts_got ws) ws) (64 - length qs) (1 + kinds)))) e
    ∙ prepended_none (outlined span (1 + kinds) (items span (λ room p. starts tag.RegisterLink ws p) (link (counts_got ws) ws) 64 (1 + kinds)))
    ∙ ap (λ n. outlined span (1 + kinds) (items span (λ room p. starts tag.RegisterLink ws p) (link (counts_got ws) ws) 64 (1 + n))) (sym (known_length ws kinds k))
