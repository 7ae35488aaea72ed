use Rattle.std.proofs.Common.{sym, ap}
use Rattle.words.specs.Words.{giving}
use Rattle.registers.specs.Holding.{kept, held_file}
use Rattle.registers.proofs.Answering.{file_made, held_lawful}
use Rattle.registers.proofs.held.Held.take.Goals as goal

pub invariant_of-self : goal.invariant_of-self
invariant_of-self c =
    let f = file_made _ _ _ _ (sym c.in_ok-outline.ensures.told) in
    record { kinded = f.1; placed = f.2; lawful = held_lawful _ _ _ f.1 f.2 }

pub returns : goal.returns
returns c =
    let f = file_made _ _ _ _ (sym c.in_ok-outline.ensures.told) in
    record { answer = sym (ap (giving tt) f.0); after = sym (ap (kept (held_file c.args.self.now)) f.0) }
