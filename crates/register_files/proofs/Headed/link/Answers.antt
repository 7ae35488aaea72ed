use Rattle.std.proofs.Common.{sym, ◌∙◌, arith}
use Rattle.register_files.proofs.Parts.{link_code}
use Rattle.register_files.proofs.Headed.link.Goals as goal

pub returns : goal.returns
returns c =
    let h = c.args.self.now in
    c.records.ensures
    ∙ link_code h.words.now h.kinds c.args.room c.args.at c.in_ok-v.v c.count-n.result c.count-size.result
    h.counted (sym c.word.ensures ∙ c.in_ok-v.was) (omega arith) (omega arith) (omega arith) c.count-n.ensures c.count-size.ensures
