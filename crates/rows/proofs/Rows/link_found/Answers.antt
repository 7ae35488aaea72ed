use Rattle.std.proofs.Common.{◌≡◌, false, true, ltb, refl, sym, ◌∙◌, arith}
use Rattle.std.proofs.lemmas.Bool.Decides.{nat_tests}
use Rattle.rows.specs.View.{raw}
use Rattle.rows.proofs.Checks.{link_waiting, link_lost, link_found}
use Rattle.rows.proofs.Leads.{same_test, leads_there}
use Rattle.rows.proofs.Rows.link_found.Goals as goal
use Rattle.rows.proofs.Rows.link_found.Goals.{then-i-found-via-then-i-found, then-i-found-via-else-i-found+then-not-has}

pub returns-then-self-gt0 : goal.returns-then-self-gt0
returns-then-self-gt0 c L l = link_waiting L (raw c.args.self.now) c.args.i c.args.lead.q c.if-self-gt0.true

pub returns-then-i-found : goal.returns-then-i-found
returns-then-i-found c L l = link_lost L (raw c.args.self.now) c.args.i c.args.lead.q c.if-self-gt0.false
    (sym (same_test L (raw c.args.self.now) c.args.found.now c.args.i c.args.lead l) ∙ elim c.then-i-found.branch [
      | then-i-found-via-then-i-found w ↦ (let t : ltb c.args.i c.args.found.now.source.links ≡ false = grind (arith, nat_tests) in rw t refl)
      | then-i-found-via-else-i-found+then-not-has w ↦ (let t : ltb c.args.i c.args.found.now.source.links ≡ true = grind (arith, nat_tests) in rw t (sym w.if-not-has.ensures))
    ])

pub returns : goal.returns
returns c L l =
    let t : ltb c.args.i c.args.found.now.source.links ≡ true = grind (arith, nat_tests) in
    let y = leads_there L (raw c.args.self.now) c.args.found.now c.args.i c.args.lead l (sym (same_test L (raw c.args.self.now) c.args.found.now c.args.i c.args.lead l) ∙ rw t (sym c.if-not-has.ensures)) in
    link_found L (raw c.args.self.now) c.args.i c.args.lead.q c.if-self-gt0.false c.args.lead y _ (c.link_path-path.ensures L l.stands) _ c.link_effect.ensures
