use Rattle.loading.proofs.LoadWords.{taken_in}
use Rattle.loading.proofs.load.Goals as goal

pub returns : goal.returns
returns g c = taken_in _ _ _ _ c.in_ok-loading.ensures _ _ _ c.put_words.ensures c.clear.ensures c.put_links.ensures
