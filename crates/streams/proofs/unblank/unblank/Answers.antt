use Rattle.std.proofs.Common.{◌≤◌, [], ◌∷◌, length, take, sym, ap, ◌∙◌, subst, arith, lit≤, length-take}
use Rattle.streams.specs.Sending.{sent}
use Rattle.streams.specs.Unblank.{answer, Rewritten}
use Rattle.streams.proofs.Sending.{delivered, fault_first}
use Rattle.streams.proofs.unblank.unblank.Goals as goal

pub returns-in-Ok : goal.returns-in-Ok
returns-in-Ok c =
    let few : length (take c.in-Ok.count c.unblanked.new.kept) ≤ 8192 = simp length-take (let h = c.in-Ok.ensures.room in omega arith) in
    let e = c.to_bytes.ensures in
    let d = delivered _ _ _ _ (answer c.args.input.now) (ap sent c.in-Ok.ensures.answer) few c.told-output c.to_bytes.auto.bytes e.count e.bytes e.back in
    record { room = d.0; count = d.1; bytes = d.2; files = λ _. subst (Rewritten c.args.input.now) (sym d.3) c.in-Ok.ensures.files }

pub returns-in-Err : goal.returns-in-Err
returns-in-Err c =
    let e = c.to_bytes-in-Err.ensures in
    let is = ap (λ w. w ∷ []) c.word.ensures ∙ ap sent c.in-Err.ensures.answer in
    let d = delivered (c.word.result ∷ []) _ _ _ (answer c.args.input.now) is (lit≤ tt) c.told-output c.to_bytes-in-Err.auto.bytes e.count e.bytes e.back in
    record { room = d.0; count = d.1; bytes = d.2; files = λ no. absurd (no (fault_first _ _ _ d.3 c.word.ensures c.word.type_inv)) }
