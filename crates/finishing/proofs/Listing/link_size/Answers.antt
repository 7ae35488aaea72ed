use Rattle.std.proofs.Common.{sym}
use Rattle.finishing.proofs.Known.{size_is}
use Rattle.finishing.proofs.Listing.link_size.Goals as goal

pub returns-clause-words : goal.returns-clause-words
returns-clause-words c L s w = sym (size_is c.args.self.now.writing c.requires c.ends-from.result.0 (λ L s w. (c.ends-from.ensures.known L s w).0) L s w)
