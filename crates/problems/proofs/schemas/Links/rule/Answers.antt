use Rattle.std.proofs.Common.{◌+◌, ◌<◌, ◌≤◌, length, sym, ◌∙◌, arith}
use Rattle.words.proofs.Single.{word_told}
use Rattle.problems.specs.Held.{links_in}
use Rattle.problems.proofs.Ruling.{path_past, rule_code}
use Rattle.problems.proofs.schemas.Links.rule.Goals as goal
use Rattle.words.specs.declared.tags.Tag.TheVariants as tag

pub path-requires-2 : goal.path-requires-2
path-requires-2 c =
    let s = c.args.self.now in
    let w : c.args.at < length s.words.now = (word_told tag.Rule s.words.now c.args.at c.in_ok-v.v (sym c.word.ensures ∙ c.in_ok-v.was)).inside in
    let h : c.args.at + 1 ≤ length s.words.now = omega arith in
    path_past s.schema.kinds (links_in s) s.words.now _ _ _ _ h (sym c.in_ok-one.ensures)

pub returns : goal.returns
returns c =
    let s = c.args.self.now in
    rule_code s.schema.kinds (links_in s) s.words.now c.args.room c.args.at c.in_ok-v.v c.in_ok-one.one c.in_ok-other.other
    (sym c.word.ensures ∙ c.in_ok-v.was) (omega arith) (omega arith) (omega arith) (omega arith)
    (sym c.in_ok-one.ensures) (sym c.in_ok-other.ensures) c.if-one-other.false
