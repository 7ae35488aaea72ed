use Rattle.std.proofs.Common.{unwrap_or, ap, ◌∙◌, arith}
use Rattle.loading.proofs.LoadLists.{none_kept, take_upto}
use Rattle.loading.proofs.copies.put_link.Goals as goal

pub loop-r-init : goal.loop-r-init
loop-r-init g c = none_kept _

pub loop-r-preserved : goal.loop-r-preserved
loop-r-preserved g c = take_upto _ _ _ _ (omega arith) (c.unwrap_or.ensures ∙ ap (λ o. unwrap_or o 0) c.follow.ensures) c.loop-r.invariant
