use Rattle.std.proofs.Common.{rules}
use Rattle.searching.proofs.Records.{from_counted}
use Rattle.searching.proofs.search.Search.link.Goals as goal

pub returns : goal.returns
returns c L h here = let n = from_counted _ _ _ _ h _ here _ (c.source_ends-from.ensures L h.stands here).0 in search rules
