use Rattle.std.proofs.Common.{◌≡◌, ◌+◌, ◌∙◌, rules, tests}
use Rattle.std.specs.Option.{option_map_or}
use Rattle.registers.proofs.WrittenParts.{row_size}
use Rattle.registers.proofs.writing.checks.link_size.Goals as goal

pub returns-clause-words : goal.returns-clause-words
returns-clause-words g c =
    let m = g.R.Register.meaning c.args.register.now in
    let s : c.map_or.result ≡ option_map_or (λ e. 1 + m.count e.0) c.ends.result 1 = search (rules, tests) in
    s ∙ row_size m c.args.link c.ends.result c.ends.ensures
