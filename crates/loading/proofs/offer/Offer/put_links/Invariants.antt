use Rattle.std.proofs.Common.{◌≡◌, ◌+◌}
use Rattle.registers.specs.Splices.{spliced}
use Rattle.machine.specs.Loading.{sum}
use Rattle.loading.specs.LoadedWords.{problem_in, leaving, lead_words}
use Rattle.loading.proofs.offer.Offer.put_links.Given as goal

abbrev pub invariant-loop-link : goal.invariant-loop-link
invariant-loop-link g l =
    (l.next ≡ l.at + sum (leaving (problem_in l.self.problem.now) (g.R.Register.meaning l.self.source.now).count) l.link)
    × (l.out ≡ spliced l.at (lead_words (problem_in l.self.problem.now) (g.R.Register.meaning l.self.source.now) l.link) l.initial.out)
