use Rattle.std.proofs.Common.{arith}
use Rattle.registers.proofs.WrittenParts.{file_length, file_put}
use Rattle.registers.proofs.WrittenFiles.{file_fits}
use Rattle.registers.proofs.writing.parts.Tested.put_file.Goals as goal

pub put-requires : goal.put-requires
put-requires g c = let n = file_length (g.R.Register.meaning c.args.self.now.register.now) in record { room = omega arith; small = omega (arith, c.args.self.now.writable.few_kinds) }

pub put_counts-requires : goal.put_counts-requires
put_counts-requires g c = let n = file_length (g.R.Register.meaning c.args.self.now.register.now) in omega arith

pub put_links-next-requires : goal.put_links-next-requires
put_links-next-requires g c = let n = file_length (g.R.Register.meaning c.args.self.now.register.now) in omega arith

pub overflow_cast-next : goal.overflow_cast-next
overflow_cast-next g c = let s = file_fits _ c.args.self.now.writable in omega arith

pub put-requires-2 : goal.put-requires-2
put-requires-2 g c =
    let n = file_length (g.R.Register.meaning c.args.self.now.register.now) in
    let s = file_fits _ c.args.self.now.writable in
    record { room = omega arith; small = omega arith }

pub overflow_add-result : goal.overflow_add-result
overflow_add-result g c = let s = file_fits _ c.args.self.now.writable in omega arith

pub returns : goal.returns
returns g c =
    let n = file_length (g.R.Register.meaning c.args.self.now.register.now) in
    record {
      size = omega arith;
      words = file_put _ _ _ _ _ _ _ _ c.kinds-kinds.ensures.answer c.put.ensures c.put_counts.ensures c.put_links-next.ensures.words c.put_links-next.ensures.next c.put-2.ensures;
    }
