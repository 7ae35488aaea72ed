use Rattle.std.proofs.Common.{arith}
use Rattle.rows.specs.View.{raw}
use Rattle.finishing.proofs.FileParts.{file_length}
use Rattle.finishing.proofs.Listing.size.Goals as goal

pub returns : goal.returns
returns c L s w =
    let n = file_length L s (raw c.args.self.now.rows.now) c.args.self.now.found.now c.args.self.now.numbering.now.met c.args.self.now.numbering.now.counts w in
    let e = c.links_size.ensures.words L s w in
    omega arith
