use Rattle.std.proofs.Common.{◌≡◌, map, ap, ◌∙◌, rules}
use Rattle.words.specs.declared.tags.Tag.TheVariants as tag
use Rattle.words.specs.Tags.{tagged}
use Rattle.registers.specs.Splices.{spliced}
use Rattle.registers.specs.Writing.{upto}
use Rattle.registers.specs.Parts.{count_words}
use Rattle.registers.proofs.writing.parts.Tested.put_counts.Goals as goal

pub returns : goal.returns
unfolding count_words
returns g c =
    let m = g.R.Register.meaning c.args.self.now.register.now in
    let e : c.kinds.result ≡ m.kinds = search rules in
    c.put_each.ensures m.count (λ k v h p. search rules) ∙ ap (λ n. spliced 1 (map (tagged tag.Count) (upto m.count n)) c.args.out.now) e
