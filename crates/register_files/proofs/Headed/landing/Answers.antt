use Rattle.std.proofs.Common.{◌-◌, sym, ◌∙◌, arith}
use Rattle.register_files.proofs.Parts.{landing_code}
use Rattle.register_files.proofs.Headed.landing.Goals as goal

pub returns : goal.returns
returns c =
    let h = c.args.self.now in
    c.records.ensures
    ∙ landing_code h.words.now h.kinds (32 - c.args.source) c.args.at c.in_ok-v.v c.count-size.result
    h.counted (sym c.word.ensures ∙ c.in_ok-v.was) (omega arith) (omega arith) (omega arith) c.count-size.ensures
