use Rattle.std.proofs.Common.{◌≡◌, length, rules, tests}
use Rattle.std.proofs.lemmas.Iterator.{IsFirst-from_position, YieldsList-from_slice}
use Rattle.words.specs.Words.{tag}
use Rattle.extending.proofs.Parting.{size_told, parted_told, behind, First}
use Rattle.extending.proofs.problem_size.Goals as goal

pub returns : goal.returns
returns c =
    let ws = c.args.words.now in
    let first : First ws c.position.result =
    IsFirst-from_position _ _ _ (λ w. tag w ≡ 7) (λ w. tag w ≡ 7 → ⊥) c.position.ensures.ran (YieldsList-from_slice ws (cc)) (λ x q k. search (rules, tests)) (λ x q k. search (rules, tests)) in
    let e : c.map_or.result ≡ behind (length ws) c.position.result = search (rules, tests) in
    rw e (record { size = size_told ws c.position.result first; parted = parted_told ws c.position.result first })
