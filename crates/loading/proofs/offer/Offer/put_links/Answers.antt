use Rattle.std.proofs.Common.{arith, rules}
use Rattle.registers.specs.Writing.{upto, lead}
use Rattle.registers.proofs.WrittenLists.{upto_length}
use Rattle.loading.specs.LoadedWords.{problem_in, leaving}
use Rattle.rows.proofs.Places.{sum_more}
use Rattle.loading.proofs.LoadLists.{sum_none, sum_next, put_part}
use Rattle.loading.proofs.LoadCopies.{leads_none, leads_more}
use Rattle.loading.proofs.offer.Offer.put_links.Goals as goal

pub loop-link-init : goal.loop-link-init
loop-link-init g c =
    let m = g.R.Register.meaning c.args.self.now.source.now in
    (omega (arith, sum_none (leaving (problem_in c.args.self.now.problem.now) m.count)), leads_none _ m c.args.at _)

pub overflow_add-next : goal.overflow_add-next
overflow_add-next g c =
    let f = leaving (problem_in c.args.self.now.problem.now) (g.R.Register.meaning c.args.self.now.source.now).count in
    let s = sum_more f c.args.self.now.schema.links c.loop-link.link (omega arith) in
    omega arith

pub offset_bounds-out-next : goal.offset_bounds-out-next
offset_bounds-out-next g c =
    let f = leaving (problem_in c.args.self.now.problem.now) (g.R.Register.meaning c.args.self.now.source.now).count in
    let s = sum_more f c.args.self.now.schema.links c.loop-link.link (omega arith) in
    search rules

pub slice_bounds-put_link-end : goal.slice_bounds-put_link-end
slice_bounds-put_link-end g c =
    let f = leaving (problem_in c.args.self.now.problem.now) (g.R.Register.meaning c.args.self.now.source.now).count in
    let s = sum_more f c.args.self.now.schema.links c.loop-link.link (omega arith) in
    search rules

pub loop-link-preserved : goal.loop-link-preserved
loop-link-preserved g c =
    let m = g.R.Register.meaning c.args.self.now.source.now in
    let p = problem_in c.args.self.now.problem.now in
    let s = sum_next (leaving p m.count) c.loop-link.link in
    let t = sum_more (leaving p m.count) c.args.self.now.schema.links c.loop-link.link (omega arith) in
    let n = c.leaving-n.ensures (omega arith) in (
      omega arith,
      leads_more p m c.args.at c.loop-link.next c.loop-link.link _ _ _ _ (omega arith) c.loop-link.invariant.0 n c.loop-link.invariant.1
          (put_part c.loop-link.next _ _ _ (upto (lead m c.loop-link.link)) (omega arith) (upto_length _ _) c.put_link.ensures),
    )
