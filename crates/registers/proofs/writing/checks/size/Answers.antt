use Rattle.std.proofs.Common.{arith}
use Rattle.registers.proofs.WrittenParts.{file_length}
use Rattle.registers.proofs.writing.checks.size.Goals as goal

pub returns : goal.returns
returns g c = let n = file_length (g.R.Register.meaning c.args.register.now) in omega arith
