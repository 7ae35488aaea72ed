use Rattle.problems.proofs.Layouts.{reads_layouts, reads_once}
use Rattle.problems.proofs.Accepting.{answer_laid}
use Rattle.problems.proofs.read_problem.Goals as goal

pub returns : goal.returns
returns c =
    record {
      told = c.read.ensures;
      laid = answer_laid c.args.words.now c.read.result c.read.ensures;
      layouts = reads_layouts;
      once = reads_once;
    }
