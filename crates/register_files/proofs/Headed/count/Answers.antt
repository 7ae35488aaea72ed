use Rattle.std.proofs.Common.{arith}
use Rattle.register_files.proofs.Parts.{known_stood}
use Rattle.register_files.proofs.Headed.count.Goals as goal

pub returns : goal.returns
returns c =
    let h = c.args.self.now in
    let s = known_stood h.words.now h.kinds c.args.kind h.counted c.requires in
    omega (arith, c.fields_at.ensures, s.same, s.small)
