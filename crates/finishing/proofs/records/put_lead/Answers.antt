use Rattle.std.proofs.Common.{◌≡◌, ◌+◌, [], ◌∷◌, length, sym, ap, ◌∙◌, arith}
use Rattle.words.specs.declared.tags.Tag.TheVariants as tag
use Rattle.words.specs.Tags.{tagged}
use Rattle.registers.specs.Splices.{spliced}
use Rattle.registers.proofs.WrittenSplices.{splice_none}
use Rattle.machine.specs.State.{cell}
use Rattle.rows.specs.View.{raw}
use Rattle.finishing.specs.Records.{number_in, lead_word}
use Rattle.finishing.proofs.Leads.{lead_none, lead_some, lead_numbered}
use Rattle.finishing.proofs.records.put_lead.Goals.{Else-kind-from}
use Rattle.finishing.proofs.records.put_lead.Goals as goal

pub returns-then-kind-from : goal.returns-then-kind-from
returns-then-kind-from c =
    let e = lead_none (raw c.args.rows.now) c.args.from c.args.link c.args.i c.read-e.result c.read-e.ensures (λ k. c.if-kind-from.true (c.kind.ensures ∙ k)) in
    record { next = omega (arith, ap length e); words = splice_none c.args.at c.args.out.now ∙ ap (λ x. spliced c.args.at x c.args.out.now) (sym e) }

-- the entry has the kind, so its record word is the one that is put
is_record : (c : Else-kind-from) → lead_word (raw c.args.rows.now) c.args.from c.args.link c.args.i ≡ tagged tag.Record (number_in (raw c.args.rows.now) (cell c.read-e.result c.args.link)) ∷ []
is_record c = lead_some (raw c.args.rows.now) c.args.from c.args.link c.args.i c.read-e.result c.read-e.ensures (sym c.kind.ensures ∙ c.if-kind-from.false)

pub number_in-n-requires : goal.number_in-n-requires
number_in-n-requires c = lead_numbered (raw c.args.rows.now) c.args.from c.args.link c.args.i c.read-e.result c.read-e.ensures (c.args.i + 1) c.requires.led (omega arith) (sym c.kind.ensures ∙ c.if-kind-from.false)

pub put-requires : goal.put-requires
put-requires c = record { room = omega (arith, ap length (is_record (goal.at.put-requires c).Else-kind-from)); small = omega (arith, c.number_in-n.ensures.fits) }

pub returns : goal.returns
returns c =
    let e = is_record (goal.at.returns c).Else-kind-from in
    record {
      next = omega (arith, ap length e);
      words = c.put.ensures ∙ ap (λ n. spliced c.args.at (tagged tag.Record n ∷ []) c.args.out.now) c.number_in-n.ensures.is ∙ ap (λ x. spliced c.args.at x c.args.out.now) (sym e);
    }
