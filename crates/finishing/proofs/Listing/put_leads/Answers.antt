use Rattle.std.proofs.Common.{arith}
use Rattle.rows.specs.View.{raw}
use Rattle.finishing.specs.Records.{lead_word}
use Rattle.finishing.proofs.Appended.{appended_none, appended_start, appended_length, appended_put, appended_room}
use Rattle.finishing.proofs.Leads.{led_first}
use Rattle.finishing.proofs.Listing.put_leads.Goals as goal

pub loop-i-init : goal.loop-i-init
loop-i-init c = let f = lead_word (raw c.args.self.now.rows.now) c.args.from c.args.link in (omega (arith, appended_none f), appended_start f c.args.at c.args.out.now)

pub put_lead-next-requires : goal.put_lead-next-requires
put_lead-next-requires c =
    let f = lead_word (raw c.args.self.now.rows.now) c.args.from c.args.link in
    let n = appended_room f c.loop-i.i c.args.self.now.numbering.now.met (omega arith) in
    record { led = led_first _ _ _ _ _ (omega arith) c.requires.led; i_in_bounds = omega arith }

pub loop-i-preserved : goal.loop-i-preserved
loop-i-preserved c =
    let f = lead_word (raw c.args.self.now.rows.now) c.args.from c.args.link in
    let n = appended_length f c.loop-i.i in
    (omega arith, appended_put f c.args.at c.loop-i.next c.loop-i.i _ _ _ (omega arith) c.loop-i.invariant.0 c.loop-i.invariant.1 c.put_lead-next.ensures.words)
