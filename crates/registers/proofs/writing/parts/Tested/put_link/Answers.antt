use Rattle.std.proofs.Common.{arith}
use Rattle.registers.proofs.WrittenParts.{row_length, link_put}
use Rattle.registers.proofs.WrittenFiles.{ends_fit, leads_fit}
use Rattle.registers.proofs.writing.parts.Tested.put_link.Goals as goal

pub put-requires : goal.put-requires
put-requires g c =
    let m = g.R.Register.meaning c.args.self.now.register.now in
    let n = row_length m c.args.link c.in-Some.from c.in-Some.to c.in-Some.ensures in
    let s = ends_fit m c.args.self.now.writable c.args.link c.in-Some.from c.in-Some.to c.requires.known c.in-Some.ensures in
    record { room = omega arith; small = omega (arith, s.0, s.1) }

pub put_records-requires : goal.put_records-requires
put_records-requires g c =
    let m = g.R.Register.meaning c.args.self.now.register.now in
    let n = row_length m c.args.link c.in-Some.from c.in-Some.to c.in-Some.ensures in
    record {
      fit = λ r h. leads_fit m c.args.self.now.writable c.args.link c.in-Some.from c.in-Some.to c.requires.known c.in-Some.ensures r (omega arith);
      room = omega arith;
    }

pub returns : goal.returns
returns g c =
    let m = g.R.Register.meaning c.args.self.now.register.now in
    let n = row_length m c.args.link c.in-Some.from c.in-Some.to c.in-Some.ensures in
    record {
      next = omega arith;
      words = link_put m c.args.link c.args.at c.in-Some.from c.in-Some.to _ _ _ _ (omega arith) c.in-Some.ensures c.count-n.ensures c.put.ensures c.put_records.ensures;
    }
