use Rattle.std.proofs.Common.{◌+◌, ◌*◌, set, ap, ◌∙◌}
use Rattle.registers.proofs.WrittenSplices.{splice_one}
use Rattle.registers.proofs.writing.parts.put.Goals as goal

pub returns : goal.returns
returns c =
    ap (λ n. set c.args.out.now c.args.at (n * 268435456 + c.args.fields)) c.number.ensures
    ∙ splice_one c.args.at _ c.args.out.now c.requires.room
