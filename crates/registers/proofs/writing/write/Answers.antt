use Rattle.std.proofs.Common.{◌≡◌, ℕ, List, Result, sym, arith}
use Rattle.registers.specs.declared.writing.WriteFault.{WriteFault}
use Rattle.registers.specs.Meaning.{Meaning, Lawful}
use Rattle.registers.specs.Writing.{written, ReadBack, SameWords}
use Rattle.registers.proofs.WrittenFiles.{writable}
use Rattle.registers.proofs.WrittenBack.{answer_large, answer_leads, answer_memory, answer_words, read_back, same_words}
use Rattle.registers.proofs.writing.write.Goals as goal

pub size-requires : goal.size-requires
size-requires g c = (writable _ (sym c.if-is_large.ensures.answer) (sym c.in_default.ensures)).few_links

pub invariant_of-put_file : goal.invariant_of-put_file
invariant_of-put_file g c = record { writable = writable _ (sym c.if-is_large.ensures.answer) (sym c.in_default.ensures) }

-- all that is promised follows from the answer
answered : (m : Meaning) (r : Result ℕ WriteFault) (old new : List ℕ) → Lawful m → (r, new) ≡ written m old → record { answer : (r, new) ≡ written m old; back : ReadBack m r new; again : SameWords m r new }
answered m r old new w e = record { answer = e; back = read_back _ _ _ _ w e; again = same_words _ _ _ _ e }

pub returns-then-is_large : goal.returns-then-is_large
returns-then-is_large g c =
    let m = g.R.Register.meaning c.args.register.now in
    answered m _ _ _ c.if-is_large.ensures.lawful (answer_large m c.args.out.now (sym c.if-is_large.ensures.answer))

pub returns-in-Some : goal.returns-in-Some
returns-in-Some g c =
    let m = g.R.Register.meaning c.args.register.now in
    answered m _ _ _ c.if-is_large.ensures.lawful (answer_leads m c.args.out.now c.in-Some.link (sym c.if-is_large.ensures.answer) (sym c.in-Some.ensures))

pub returns-then-size-out : goal.returns-then-size-out
returns-then-size-out g c =
    let m = g.R.Register.meaning c.args.register.now in
    answered m _ _ _ c.if-is_large.ensures.lawful (answer_memory m c.args.out.now (sym c.if-is_large.ensures.answer) (sym c.in_default.ensures) (omega arith))

pub returns : goal.returns
returns g c =
    let m = g.R.Register.meaning c.args.register.now in
    answered m _ _ _ c.if-is_large.ensures.lawful
    (answer_words m c.args.out.now c.put_file.result c.put_file.new.out (sym c.if-is_large.ensures.answer) (sym c.in_default.ensures) c.put_file.ensures.size c.put_file.ensures.words (omega arith))
