use Rattle.std.proofs.Common.{rules}
use Rattle.registers.specs.Writing.{lead}
use Rattle.registers.specs.Parts.{record_words}
use Rattle.registers.proofs.writing.parts.put_records.Goals as goal

pub returns : goal.returns
unfolding record_words
returns g c = c.put_each.ensures (lead (g.R.Register.meaning c.args.register.now) c.args.link) (λ r v h p. search rules)
