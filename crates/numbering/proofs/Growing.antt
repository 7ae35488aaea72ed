-- From entry to entry: the lists of those met, as the loops make them.
use Rattle.std.proofs.Common.{◌≡◌, ℕ, zero, suc, ◌+◌, ◌-◌, ◌<◌, ◌≤◌, List, [], ◌∷◌, length, None, sym, refl, ap, ◌∙◌, subst, add-zero, add-one, arith}
use mathlib.Core.List.{is_set}
use mathlib.Core.Logic.{∥∥₁_elim}
use native.Mathlib.Nat.{ℕ_set}
use native.Mathlib.Bridge.{le_prop}
use Rattle.machine.specs.State.{cell, landing}
use Rattle.machine.specs.Sequence.{nth, met_in, of_kind, of_cells}
use Rattle.rows.specs.Layout.{Raw, Shape, count, shown}
use Rattle.numbering.specs.Marked.{Kept, Numbered, Counting, visited, of_kinds, of_rows, row}
use Rattle.numbering.specs.Count.{Seen, Meets}
use Rattle.numbering.proofs.Kept.{same_given, nth_row, met_short}

-- one after another
pub meets_then : {n o p : Seen} (f g h : Raw → List ℕ → List ℕ) → Meets f n o → Meets g o p → ((a : Raw) (xs : List ℕ) → h a xs ≡ g a (f a xs)) → Meets h n p
meets_then {n} {o} {p} f g h u v e = record {
  same = v.same ∙ u.same;
  grows = λ a xs m. subst (λ (ys : List ℕ). Numbered a p.rows ys p.numbering.met p.numbering.counts) (sym (e a xs)) (v.grows a (f a xs) (u.grows a xs m));
}

-- to the end of a loop
pub meets_to : {n o : Seen} (f : Raw → ℕ → List ℕ → List ℕ) (i : ℕ) (j : Shape → ℕ) → i ≡ j n.rows.shape → Meets (λ a xs. f a i xs) n o → Meets (λ a xs. f a (j a.shape) xs) n o
meets_to {n} {o} f i j e u = record {
  same = u.same;
  grows = λ a xs m. subst (λ (k : ℕ). Numbered a o.rows (f a k xs) o.numbering.met o.numbering.counts) (e ∙ ap (λ (r : Raw). j r.shape) m.marked.kept.numbers) (u.grows a xs m);
}

-- one more cell, landing, kind or row
pub cells_more : (e l : ℕ) (a : Raw) (xs : List ℕ) → of_cells (shown a) e (l + 1) xs ≡ met_in ((shown a).held (cell e l)) (of_cells (shown a) e l xs)
unfolding of_cells
cells_more e l a xs = rw add-one refl

pub kind_more : (k q : ℕ) (a : Raw) (xs : List ℕ) → of_kind (shown a) k (q + 1) xs ≡ met_in ((shown a).held (landing k q)) (of_kind (shown a) k q xs)
unfolding of_kind
kind_more k q a xs = rw add-one refl

pub kinds_more : (k : ℕ) (a : Raw) (xs : List ℕ) → of_kinds a (k + 1) xs ≡ of_kind (shown a) k (count a.shape k) (of_kinds a k xs)
unfolding of_kinds
kinds_more k a xs = rw add-one refl

pub rows_more : (i : ℕ) (a : Raw) (xs : List ℕ) → of_rows a (i + 1) xs ≡ visited a i (of_rows a i xs)
unfolding of_rows
rows_more i a xs = rw add-one refl

module _ (n : Seen) where
  pub cells_none : (e : ℕ) → Meets (λ a xs. of_cells (shown a) e 0 xs) n n
  unfolding of_cells
  cells_none e = record { same = refl; grows = λ a xs m. m }

  pub kind_none : (k : ℕ) → Meets (λ a xs. of_kind (shown a) k 0 xs) n n
  unfolding of_kind
  kind_none k = record { same = refl; grows = λ a xs m. m }

  pub kinds_none : Meets (λ a xs. of_kinds a 0 xs) n n
  unfolding of_kinds
  kinds_none = record { same = refl; grows = λ a xs m. m }

  pub rows_none : Meets (λ a xs. of_rows a 0 xs) n n
  unfolding of_rows
  rows_none = record { same = refl; grows = λ a xs m. m }

  pub met_below : Counting n.rows n.numbering → (i : ℕ) → i < n.numbering.met → i < n.rows.given
  met_below c i h = ∥∥₁_elim c le_prop (λ x. omega (arith, met_short x.0 x.1 n.rows x.2.marked.kept, x.2.tallied.size))

-- what no meeting changes
module _ {n o : Seen} {f : Raw → List ℕ → List ℕ} (u : Meets f n o) (c : Counting n.rows n.numbering) where
  same_part : {A : Type 0} → IsSet A → (j : Raw → A) → ((a : Raw) (xs : List ℕ) (b : Raw) → Kept a b xs → j b ≡ j a) → j o.rows ≡ j n.rows
  same_part set j same = ∥∥₁_elim c (set _ _) (λ x. same x.0 (f x.0 x.1) o.rows (u.grows x.0 x.1 x.2).marked.kept ∙ sym (same x.0 x.1 n.rows x.2.marked.kept))

  pub meets_given : o.rows.given ≡ n.rows.given
  meets_given = same_part ℕ_set (λ r. r.given) same_given

  in_shape : {A : Type 0} → IsSet A → (g : Shape → A) → g o.rows.shape ≡ g n.rows.shape
  in_shape set g = same_part set (λ r. g r.shape) (λ a xs b k. ap (λ (r : Raw). g r.shape) k.numbers)

  pub meets_shape : o.rows.shape ≡ n.rows.shape
  meets_shape =
      let number = in_shape ℕ_set in
      let list = in_shape (is_set ℕ_set) in
      λ j. record {
        kinds = number (λ s. s.kinds) j;
        counts = list (λ s. s.counts) j;
        starts = list (λ s. s.starts) j;
        lands = number (λ s. s.lands) j;
        records = number (λ s. s.records) j;
        base = number (λ s. s.base) j;
        links = number (λ s. s.links) j;
        capacity = number (λ s. s.capacity) j;
      }

pub visits : {n o : Seen} (i e : ℕ) → i < n.numbering.met → e ≡ row n.rows i 2 → Meets (λ a xs. of_cells (shown a) e a.shape.links xs) n o → Meets (λ a xs. visited a i xs) n o
visits {n} i e h q u = record {
  same = u.same;
  grows = λ a xs m. rw (nth_row a xs n.rows m.marked.kept i (omega (arith, m.tallied.size)), ← q) (u.grows a xs m);
}

-- past the last of those met, visiting changes nothing
nth_past : (xs : List ℕ) (i : ℕ) → length xs ≤ i → nth xs i ≡ None
unfolding nth
nth_past [] i h = refl
nth_past (x ∷ xs) zero h = absurd (omega arith)
nth_past (x ∷ xs) (suc i) h = nth_past xs i (omega arith)

rows_stay : (a : Raw) (xs : List ℕ) (i d : ℕ) → length (of_rows a i xs) ≤ i → of_rows a (i + d) xs ≡ of_rows a i xs
rows_stay a xs i zero h = rw add-zero refl
rows_stay a xs i (suc d) h =
    let s = rows_stay a xs i d h in
    let p : i + suc d ≡ i + d + 1 = omega arith in
    let z : nth (of_rows a i xs) (i + d) ≡ None = nth_past (of_rows a i xs) (i + d) (omega arith) in
    rw (p, rows_more (i + d) a xs, s, z) refl

pub rows_end : {n o : Seen} (i : ℕ) → Meets (λ a xs. of_rows a i xs) n o → o.numbering.met ≤ i → i ≤ o.rows.given → Meets (λ a xs. of_rows a a.given xs) n o
rows_end {n} {o} i u h l = record {
  same = u.same;
  grows = λ a xs m.
      let g = u.grows a xs m in
      let e : i + (a.given - i) ≡ a.given = omega (arith, same_given a (of_rows a i xs) o.rows g.marked.kept) in
      let z : of_rows a i xs ≡ of_rows a a.given xs = sym (rows_stay a xs i (a.given - i) (omega (arith, g.tallied.size))) ∙ ap (λ (j : ℕ). of_rows a j xs) e in
      subst (λ (ys : List ℕ). Numbered a o.rows ys o.numbering.met o.numbering.counts) z g;
}
