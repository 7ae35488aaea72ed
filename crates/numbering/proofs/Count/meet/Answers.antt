use Rattle.std.proofs.Common.{refl, sym, ◌∙◌, arith}
use mathlib.Core.Logic.{∥∥₁_map}
use Rattle.machine.specs.Sequence.{met_in}
use Rattle.rows.specs.Layout.{shown}
use Rattle.rows.specs.View.{raw, slot}
use Rattle.numbering.specs.Marked.{Grows}
use Rattle.numbering.proofs.Meeting.{meets_none, meets_met, meets_new, held_below, held_next}
use Rattle.numbering.proofs.Count.meet.Goals.{After-mark}
use Rattle.numbering.proofs.Count.meet.Goals as goal

pub read-requires-clause-e_lt_capacity : goal.read-requires-clause-e_lt_capacity
read-requires-clause-e_lt_capacity c =
    let s = c.args.self.now in omega (arith, held_below (raw s.rows.now) s.numbering s.counting (slot c.args.t) c.in-Some.e (sym c.held.ensures ∙ c.in-Some.is), s.rows.now.fits.few)

pub mark-requires : goal.mark-requires
mark-requires c =
    let s = c.args.self.now in
    held_next (raw s.rows.now) s.numbering s.counting (slot c.args.t) c.in-Some.e (sym c.held.ensures ∙ c.in-Some.is) (omega (arith, c.if-read-lt-MARK.true, c.read.ensures))

new : (c : After-mark) → Grows (λ a xs. met_in ((shown a).held (slot c.args.t)) xs) (raw c.args.self.now.rows.now) c.args.self.now.numbering (raw c.mark.new.rows) c.mark.new.numbering
new c a xs m =
    meets_new a (raw c.args.self.now.rows.now) xs _ _ m (slot c.args.t) c.in-Some.e (sym c.held.ensures ∙ c.in-Some.is) (omega (arith, c.if-read-lt-MARK.true, c.read.ensures)) _ _ _
    (c.mark.ensures a xs m)

pub invariant_of-self-then-read-lt-MARK : goal.invariant_of-self-then-read-lt-MARK
invariant_of-self-then-read-lt-MARK c = record { counting = ∥∥₁_map c.args.self.now.counting (λ x. (x.0, _, new (goal.at.invariant_of-self-then-read-lt-MARK c).After-mark x.0 x.1 x.2)) }

pub returns-then-read-lt-MARK : goal.returns-then-read-lt-MARK
returns-then-read-lt-MARK c = record { same = refl; grows = new (goal.at.returns-then-read-lt-MARK c).After-mark }

pub returns-else-read-lt-MARK : goal.returns-else-read-lt-MARK
returns-else-read-lt-MARK c = record {
  same = refl;
  grows = λ a xs m.
      meets_met a (raw c.args.self.now.rows.now) xs _ _ m (slot c.args.t) c.in-Some.e (sym c.held.ensures ∙ c.in-Some.is) (omega (arith, c.if-read-lt-MARK.false, c.read.ensures));
}

pub returns-in_default : goal.returns-in_default
returns-in_default c = record {
  same = refl;
  grows = λ a xs m. meets_none a (raw c.args.self.now.rows.now) xs _ _ m (slot c.args.t) (sym c.held.ensures ∙ c.in_default.is);
}
