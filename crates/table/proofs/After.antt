-- What calls keep of a loaded table.
use Rattle.std.proofs.Common.{◌≡◌, ℕ, ◌<◌, List, [], ◌∷◌, ◌++◌, length, get_or, Some, Ok, Option, Result, sym, refl, ap, ◌∙◌, subst, arith}
use mathlib.Core.Logic.{∥∥₁_map}
use Rattle.std.specs.Option.{ForSome}
use Rattle.bounded.specs.Listed.{listed}
use Rattle.words.specs.declared.faults.Refusal.{Refusal}
use Rattle.problems.specs.Problem.{read}
use Rattle.problems.specs.Shown.{outline_of}
use Rattle.machine.specs.Loaded.{Loaded}
use Rattle.machine.specs.Loading.{load}
use Rattle.machine.specs.State.{State, start}
use Rattle.machine.specs.Calls.{Op, apply}
use Rattle.machine.specs.Shift.{Call, plain, calls}
use Rattle.machine.specs.Tables.{Table, calling, holding}
use Rattle.rows.specs.declared.problem.Load.{Load}
use Rattle.rows.specs.Layout.{Tidy, Becomes, Carries, Raw}
use Rattle.rows.specs.Sources.{kinds_of}
use Rattle.rows.specs.Sweeps.{HeldLive}
use Rattle.rows.specs.Standing.{Stands, Holds}
use Rattle.rows.specs.View.{raw, view}
use Rattle.loading.specs.LoadedWords.{Placed, taken_shown}
use Rattle.table.specs.Reached.{Reached}
use Rattle.table.specs.Tabled.{leads_of, seen, view_of, origin, origin_of}
use Rattle.table.specs.Promises.{PromiseOf}
use Rattle.table.specs.declared.table.Table as code
use Rattle.rows.proofs.Bridge.{same_carries}
use Rattle.loading.proofs.LoadKept.{words_same, copy_same, taken_same, placed_same}
use Rattle.table.proofs.Held as held
use Rattle.table.proofs.Promises.{promised_by}

-- more calls
calls_more : (L : Loaded) (cs ds : List Call) (s : State) → calls L (cs ++ ds) s ≡ calls L ds (calls L cs s)
unfolding calls
calls_more L [] ds s = refl
calls_more L (c ∷ cs) ds s = calls_more L cs ds _

-- what holds of the load
pub of_some : (P : Load → Type 0) (o : Option Load) (l : Load) → o ≡ Some l → P l → ForSome o P
of_some P o l is p m e = let q : l ≡ m = cc in subst P q p

-- what the rows of a table keep
abbrev pub Kept : Option Load → Raw → Type 0
Kept o r = record { tidy : Tidy r; reached : ForSome o (λ l. ∥ Reached l r ∥₁) }

-- what is known of a loaded table, and what a call leaves of it
module _ (t : code.Table) (l : Load) (is : t.load ≡ Some l) where
  abbrev pub taken : Loaded
  taken = taken_shown (listed l.leads) (raw t.rows)

  pub holds : Holds taken (raw t.rows) l.found (listed l.leads)
  holds = held.holds l (raw t.rows) (t.reached l is) t.tidy.fits

  pub first_known : 0 < t.rows.waits → get_or (view t.rows).waiting 0 0 < t.rows.given
  first_known = held.first_known l (raw t.rows) (t.reached l is)

  pub held_live : t.rows.waits ≡ 0 → HeldLive (view t.rows)
  held_live = held.held_live l (raw t.rows) (t.reached l is)

  -- what the problem's words say, by the numbers of the rows
  pub ends : (i : ℕ) (e : ℕ × ℕ) → ((L : Loaded) → Stands L (raw t.rows) l.found → i < L.links → (L.from i ≡ e.0) × (L.to i ≡ e.1)) →
      i < t.rows.links → (taken.from i ≡ e.0) × (taken.to i ≡ e.1)
  ends i e f h = f taken holds.stands (omega (arith, h, holds.carries.links))

  pub mapped : (k n : ℕ) → ((L : Loaded) → Stands L (raw t.rows) l.found → k < L.source_kinds → L.kind_map k ≡ n) → k < kinds_of t.rows.source → taken.kind_map k ≡ n
  mapped k n f h = f taken holds.stands (omega (arith, h, holds.carries.kinds))

  placed : ∥ Placed (listed l.leads) (raw t.rows) ∥₁
  placed = ∥∥₁_map (t.reached l is) (λ (x : Reached l (raw t.rows)). x.placed)

  -- what becomes of the rows by calls
  module _ (b : Raw) (f : State → State) (after : Becomes (raw t.rows) f b) where
    took_same : taken_shown (listed l.leads) b ≡ taken
    took_same = taken_same (listed l.leads) (raw t.rows) b after.same placed

    pub origin_same : origin (leads_of t.load) b ≡ origin_of t
    origin_same =
        subst (λ (o : Option Load). origin (leads_of o) b ≡ origin (leads_of o) (raw t.rows)) (sym is)
        (λ j. (words_same (listed l.leads) (raw t.rows) b after.same j, copy_same (listed l.leads) (raw t.rows) b after.same placed j))

    reached : (cs : List Call) → f (view t.rows) ≡ calls taken cs (view t.rows) → Reached l (raw t.rows) → Reached l b
    reached cs by r =
        let w = words_same (listed l.leads) (raw t.rows) b after.same in
        record {
          loads = (λ j. load (after.same.size j) (w j) (copy_same (listed l.leads) (raw t.rows) b after.same placed j)) ∙ r.loads ∙ ap Ok (sym took_same);
          outline = r.outline ∙ ap (λ ws. outline_of (read ws)) (sym w);
          placed = placed_same (listed l.leads) (raw t.rows) b after.same r.placed;
          carries = subst (λ L. Carries L b.shape) (sym took_same) (same_carries taken (raw t.rows) b after.same r.carries);
          made = r.made ++ cs;
          state = after.state ∙ by ∙ ap (calls taken cs) r.state ∙ sym (calls_more taken r.made cs start) ∙ ap (λ L. calls L (r.made ++ cs) start) (sym took_same);
        }

    module _ (cs : List Call) (by : f (view t.rows) ≡ calls taken cs (view t.rows)) where
      kept_by : Kept t.load b
      kept_by = record { tidy = after.tidy; reached = of_some (λ m. ∥ Reached m b ∥₁) t.load l is (∥∥₁_map (t.reached l is) (reached cs by)) }

      seen_by : seen t.load b ≡ holding (length (raw t.rows).ws) taken (f (view t.rows))
      seen_by = ap (λ o. seen o b) is ∙ (λ j. holding (after.same.size j) (took_same j) (after.state j))

  pub view_is : view_of t ≡ holding (length (raw t.rows).ws) taken (view t.rows)
  view_is = ap (λ o. seen o (raw t.rows)) is

  -- by none
  module _ (b : Raw) (after : Becomes (raw t.rows) (λ s. s) b) where
    pub unchanged : Kept t.load b
    unfolding calls
    unchanged = kept_by b (λ s. s) after [] refl

    pub view_same : seen t.load b ≡ view_of t
    unfolding calls
    view_same = seen_by b (λ s. s) after [] refl ∙ sym view_is

  -- by one
  module _ (o : Op) (b : Raw) (after : Becomes (raw t.rows) (apply taken o) b) where
    pub still : Kept t.load b
    unfolding calls
    still = kept_by b (apply taken o) after (plain o ∷ []) refl

    pub called : {X : Type 0} (told : Loaded → State → Result X Refusal) (r : Result X Refusal) → r ≡ told taken (view t.rows) → record {
      after : ◌≡◌ {A = Table × Result X Refusal} (seen t.load b, r) (calling o told (view_of t));
      kept : origin (leads_of t.load) b ≡ origin_of t;
      promise : PromiseOf t.load b;
    }
    unfolding calls
    called {X} told r e =
        let v = seen_by b (apply taken o) after (plain o ∷ []) refl in
        record {
          after = (λ j. (v j, e j)) ∙ sym (ap (calling o told) view_is);
          kept = origin_same b (apply taken o) after;
          promise = promised_by t.load b still.reached;
        }
