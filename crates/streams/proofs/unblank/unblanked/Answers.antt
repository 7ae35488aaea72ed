use Rattle.std.proofs.Common.{◌≡◌, Ok, sym, refl, ap, ◌∙◌, rules}
use Rattle.std.proofs.lemmas.Result.{IfOk-from_err}
use Rattle.register_files.specs.Register.{read}
use Rattle.registers.specs.Meaning.{file}
use Rattle.registers.specs.WriteFaults.{write_fault}
use Rattle.streams.specs.Sending.{faulted, whole}
use Rattle.streams.specs.Unblank.{answer}
use Rattle.streams.proofs.Sending.{carried}
use Rattle.streams.proofs.Unblanking.{read_refused, read_done, answer_file, write_refused, write_done}
use Rattle.streams.proofs.unblank.unblanked.Goals as goal
use Rattle.streams.proofs.unblank.unblanked.Goals.{After-write, at-returns, at-returns-in_err-count}

pub returns-then-input-gt-BYTES : goal.returns-then-input-gt-BYTES
unfolding answer
returns-then-input-gt-BYTES c = search rules

pub returns-in_err-take : goal.returns-in_err-take
returns-in_err-take c =
    let a = read_refused _ _ _ _ c.to_words-count.ensures.count c.to_words-count.ensures.words c.told-words c.if-input-gt-BYTES.false _
    (sym c.in_err-take.ensures.answer) in
    record {
      room = IfOk-from_err _ _ c.from_residual.ensures.0;
      answer = carried c.from_residual.result _ (answer c.args.input.now) _ c.from_residual.ensures.1 a;
      files = IfOk-from_err _ _ c.from_residual.ensures.0;
    }

-- the register that is written is the one in the input
file_read : (c : After-write) → read (whole c.args.input.now) ≡ Ok (file c.over.result.below.words.now)
file_read c =
    read_done _ _ _ _ c.to_words-count.ensures.count c.to_words-count.ensures.words c.told-words c.if-input-gt-BYTES.false _ _
    (sym c.in_ok-take.ensures.answer) (ap (λ h. file h.words.now) c.over.ensures ∙ c.in_ok-take.ensures.after)

pub returns-in_err-count : goal.returns-in_err-count
returns-in_err-count c =
    let w = write_refused _ _ _ _ c.told-kept c.in_err-count.ensures.answer in
    let a = answer_file _ _ c.if-input-gt-BYTES.false (file_read (at-returns-in_err-count c).After-write) in
    record {
      room = IfOk-from_err _ _ c.from_residual-in_err-count.ensures.0;
      answer = carried c.from_residual-in_err-count.result _ (answer c.args.input.now) _ c.from_residual-in_err-count.ensures.1 (a ∙ ap (faulted write_fault) w);
      files = IfOk-from_err _ _ c.from_residual-in_err-count.ensures.0;
    }

pub returns : goal.returns
returns c =
    let w = write_done _ _ _ _ c.told-kept c.in_ok-count.ensures.answer in
    let f = file_read (at-returns c).After-write in
    let g = c.in_ok-count.ensures.back _ refl in
    record {
      room = w.0;
      answer = sym (answer_file _ _ c.if-input-gt-BYTES.false f ∙ ap (faulted write_fault) w.1);
      files = (_, g.0, f, g.1, g.2, g.3);
    }
