use Rattle.finishing.proofs.Known.{found_ends, small_ends}
use Rattle.finishing.proofs.Listing.ends.Goals as goal

pub returns : goal.returns
returns c =
    let w = c.args.self.now.writing in
    let known = found_ends w c.requires c.link_ends.result c.link_ends.ensures in
    record { known = known; small = small_ends w c.requires c.link_ends.result known }
