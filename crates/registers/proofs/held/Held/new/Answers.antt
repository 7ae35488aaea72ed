use Rattle.std.proofs.Common.{[], length, sym, ap, ◌∙◌}
use Rattle.words.specs.Items.{places}
use Rattle.register_files.specs.Register.{span}
use Rattle.registers.proofs.Answering.{file_none, held_lawful}
use Rattle.registers.proofs.held.Held.new.Goals as goal

pub invariant_of-result : goal.invariant_of-result
invariant_of-result c =
    let kinds = ap (λ f. length f.counts) (sym file_none) in
    let placed = ap (λ f. places span 1 f.links) (sym file_none) in
    record { kinded = kinds; placed = c.new.ensures ∙ placed; lawful = held_lawful [] 0 [] kinds placed }

pub returns : goal.returns
returns c = file_none
