-- Finishing a table: what is refused, what is ready, and what is read back.
use Rattle.std.proofs.Common.{◌≡◌, ℕ, ◌<◌, true, false, cond, List, length, take, is_some, Some, None, Err, Option, Result, sym, refl, ap, ◌∙◌, subst, arith}
use mathlib.Core.Logic.{∥∥₁_map}
use Rattle.std.proofs.lemmas.Bool.{lt-ltb, le-ltb}
use Rattle.bounded.specs.Listed.{listed}
use Rattle.words.specs.declared.faults.Refusal.{Refusal}
use Rattle.words.specs.declared.faults.Refusal.TheVariants as refusal
use Rattle.register_files.specs.Register.{read}
use Rattle.machine.specs.Loaded.{Loaded}
use Rattle.machine.specs.State.{State}
use Rattle.machine.specs.Shift.{next}
use Rattle.machine.specs.Finish.{finish_words, unfinished, finish_fault, put_words}
use Rattle.machine.specs.Progress.{finish_call}
use Rattle.machine.specs.ReadBack.{ReadsBack}
use Rattle.machine.proofs.Promised.{put_told}
use Rattle.machine.proofs.ReadBack.{finish_reads_back}
use Rattle.rows.specs.declared.problem.Load.{Load}
use Rattle.rows.specs.View.{raw, view}
use Rattle.rows.proofs.Faults.{waits_told}
use Rattle.searching.specs.declared.Task.{Task}
use Rattle.searching.specs.Tasks.{shown_task}
use Rattle.numbering.specs.Marked.{Countable}
use Rattle.numbering.proofs.Ready.{ready, countable, countable_in}
use Rattle.finishing.specs.Written.{Finishes}
use Rattle.loading.specs.LoadedWords.{copy}
use Rattle.table.specs.Reached.{Reached, problem_words}
use Rattle.table.specs.Tabled.{view_of, origin_of}
use Rattle.table.specs.Promises.{KeepsPromise, IsReadBack}
use Rattle.table.specs.declared.table.Table.{Table}
use Rattle.table.proofs.After.{taken, holds, view_is}
use Rattle.table.proofs.Promises.{promised}

-- a refusal leaves the table, and nothing is read back
pub refused : (t : Table) (f : Refusal) (out : List ℕ) → ◌≡◌ {A = Result ℕ Refusal × List ℕ} (Err f, out) (finish_call out (view_of t)) → record {
  answer : ◌≡◌ {A = Result ℕ Refusal × List ℕ} (Err f, out) (finish_call out (view_of t));
  same : view_of t ≡ view_of t;
  kept : origin_of t ≡ origin_of t;
  promise : KeepsPromise t;
  back : IsReadBack t (Err f) out;
}
refused t f out answer = record { answer = answer; same = refl; kept = refl; promise = promised t; back = λ n e. cc }

unfinished_by : (o : Option Task) → is_some o ≡ true → unfinished (shown_task o) ≡ Some refusal.Incomplete
unfinished_by (Some k) e = refl
unfinished_by None e = cc

finished_by : (o : Option Task) → is_some o ≡ false → unfinished (shown_task o) ≡ None
finished_by (Some k) e = cc
finished_by None e = refl

module _ (t : Table) (l : Load) (is : t.load ≡ Some l) where
  abbrev L : Loaded
  L = taken t l is

  -- the answer, by what finish is refused for
  answer_by : (f : Option Refusal) → finish_fault L (view t.rows) ≡ f → (out : List ℕ) → put_words f (finish_words L (view t.rows)) out ≡ finish_call out (view_of t)
  answer_by f e out = ap (λ x. put_words x (finish_words L (view t.rows)) out) (sym e) ∙ sym (ap (finish_call out) (view_is t l is))

  pub while_waiting : 0 < t.rows.waits → (out : List ℕ) → ◌≡◌ {A = Result ℕ Refusal × List ℕ} (Err refusal.Waiting, out) (finish_call out (view_of t))
  while_waiting h out =
      answer_by (Some refusal.Waiting) (ap (λ b. cond b (Some refusal.Waiting) (unfinished (next L (view t.rows)))) (waits_told (raw t.rows) ∙ lt-ltb 0 t.rows.waits h)) out

  module _ (quiet : t.rows.waits ≡ 0) (o : Option Task) (what : shown_task o ≡ next L (view t.rows)) where
    fault_is : finish_fault L (view t.rows) ≡ unfinished (shown_task o)
    fault_is = ap (λ b. cond b (Some refusal.Waiting) (unfinished (next L (view t.rows)))) (waits_told (raw t.rows) ∙ le-ltb 0 t.rows.waits (omega (arith, quiet))) ∙ ap unfinished (sym what)

    pub incomplete : is_some o ≡ true → (out : List ℕ) → ◌≡◌ {A = Result ℕ Refusal × List ℕ} (Err refusal.Incomplete, out) (finish_call out (view_of t))
    incomplete some out = answer_by (Some refusal.Incomplete) (fault_is ∙ unfinished_by o some) out

    module _ (none : is_some o ≡ false) where
      free : finish_fault L (view t.rows) ≡ None
      free = fault_is ∙ finished_by o none

      pub may_count : Countable (raw t.rows)
      may_count = countable_in (t.reached l is) (raw t.rows) t.tidy
          (λ (r : Reached l (raw t.rows)). countable (length (raw t.rows).ws) (problem_words (raw t.rows)) (copy (listed l.leads) (raw t.rows)) L r.loads r.made (raw t.rows) r.state free t.tidy)

      pub may_finish : Finishes L (raw t.rows) l.found
      may_finish = let h = holds t l is in record {
        stands = h.stands;
        carries = h.carries;
        ready = ∥∥₁_map (t.reached l is) (λ (r : Reached l (raw t.rows)).
            ready (length (raw t.rows).ws) (problem_words (raw t.rows)) (copy (listed l.leads) (raw t.rows)) L r.loads r.made (raw t.rows) r.state free h.carries);
      }

      module _ (r : Result ℕ Refusal) (out after : List ℕ) (put : ◌≡◌ {A = Result ℕ Refusal × List ℕ} (r, after) (put_words None (finish_words L (view t.rows)) out)) where
        pub accepted : ◌≡◌ {A = Result ℕ Refusal × List ℕ} (r, after) (finish_call out (view_of t))
        accepted = put ∙ answer_by None free out

        pub back : IsReadBack t r after
        back = rw is (λ n e. ∥∥₁_map (t.reached l is) (λ (x : Reached l (raw t.rows)).
            let b = subst (ReadsBack L) (sym x.state) (finish_reads_back (length (raw t.rows).ws) (problem_words (raw t.rows)) (copy (listed l.leads) (raw t.rows)) L x.loads x.made
            (subst (λ (s : State). finish_fault L s ≡ None) x.state free)) in
            let w = (put_told None (finish_words L (view t.rows)) out n (sym (ap (λ p. p.0) put) ∙ e)).1 in
            (ap (λ p. read (take n p.1)) put ∙ ap read w ∙ b.accepted, b)))
