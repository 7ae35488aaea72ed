-- What the problem in the words says of the kinds and links of a load.
use Rattle.std.proofs.Common.{◌≡◌, ℕ, ◌+◌, ◌*◌, ◌<◌, ◌≤◌, take, sym, ap, ◌∙◌, subst, arith}
use Rattle.std.proofs.ByRecursion.{All-get_or}
use Rattle.words.proofs.Laid.{ok_same}
use Rattle.problems.specs.declared.Found.{Found}
use Rattle.problems.specs.Layout.{GoodLink, WellFormed}
use Rattle.problems.specs.Problem.{no_link}
use Rattle.problems.specs.Shown.{Seen}
use Rattle.problems.proofs.Layouts.{read_layout}
use Rattle.machine.specs.Loaded.{Loaded}
use Rattle.machine.specs.Loading.{taken}
use Rattle.rows.specs.Layout.{Raw, Fits, count}
use Rattle.rows.specs.Standing.{Stands}
use Rattle.rows.proofs.Places.{sum_more}

module _ (L : Loaded) (b : Raw) (f : Found) (st : Stands L b f) where
  well : WellFormed st.problem
  well = (read_layout (take b.shape.lands b.ws) st.problem st.reads).1

  pub kinds_are : L.target_kinds ≡ f.target.kinds
  kinds_are = ap (λ (M : Loaded). M.target_kinds) st.takes ∙ ap (λ (x : Seen). x.target.kinds) (ok_same st.told)

  by_problem : (P : Loaded → Type 0) → P (taken st.problem st.source b.shape.capacity) → P L
  by_problem P = subst P (sym st.takes)

  pub few_kinds : L.target_kinds ≤ 32
  few_kinds = by_problem (λ M. M.target_kinds ≤ 32) well.target.few

  pub ends_known : (l : ℕ) → l < L.links → (L.from l < L.target_kinds) × (L.to l < L.target_kinds)
  ends_known = by_problem (λ M. (l : ℕ) → l < M.links → (M.from l < M.target_kinds) × (M.to l < M.target_kinds))
      (λ l h. let g = All-get_or (GoodLink st.problem.target_kinds) st.problem.target_links l no_link h well.target.known in (g.from_known, g.to_known))

  pub map_known : (k : ℕ) → k < L.source_kinds → L.kind_map k < L.target_kinds
  map_known = by_problem (λ M. (k : ℕ) → k < M.source_kinds → M.kind_map k < M.target_kinds)
      (λ k h. All-get_or (λ t. t < st.problem.target_kinds) st.problem.kind_map k 0 (omega (arith, h, well.kinds_full)) well.kinds)

  -- so the fields of the words of landings are small
  pub landing_small : Fits b → L.source_kinds ≡ b.shape.kinds → {k : ℕ} → k < b.shape.kinds → (to : ℕ) → (k < L.source_kinds → L.kind_map k ≡ to) →
      count b.shape k * 65536 + k * 256 + to < 268435456
  landing_small x kinds {k} h to is =
      let j : k < L.source_kinds = omega arith in
      let m = sum_more (count b.shape) b.shape.kinds k h in
      omega (arith, m, is j, map_known k j, few_kinds, x.total, x.lot, x.sorts)
