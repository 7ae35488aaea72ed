-- What an answer of the reader says of the words.
use Rattle.std.proofs.Common.{◌≡◌, ℕ, List, Ok, Err, Result, sym, refl, ap, ◌∙◌}
use Rattle.words.specs.declared.faults.SchemaFault.{SchemaFault}
use Rattle.words.proofs.Inverse.{err_ok}
use Rattle.problems.specs.declared.Found.{Found}
use Rattle.problems.specs.Problem.{Problem, read}
use Rattle.problems.specs.Shown.{Seen, told, outline_of}
use Rattle.problems.specs.Accepts.{Laid}
use Rattle.problems.proofs.Layouts.{reads_layouts}

pub outline_ok : (r : Result Problem SchemaFault) (s : Seen) → Ok s ≡ outline_of r → (p : Problem) × (r ≡ Ok p)
outline_ok (Ok p) s e = (p, refl)
outline_ok (Err y) s e = absurd (err_ok (sym e))

pub answer_laid : (ws : List ℕ) (r : Result Found SchemaFault) → told r ≡ outline_of (read ws) → Laid ws r
answer_laid ws (Ok f) e =
    let x = outline_ok (read ws) _ e in
    let l = (reads_layouts ws x.0).0 x.1 in
    (x.0, l.0, l.1, e ∙ ap outline_of x.1)
answer_laid ws (Err y) e = λ p h w. err_ok (e ∙ ap outline_of ((reads_layouts ws p).1 (h, w)))
