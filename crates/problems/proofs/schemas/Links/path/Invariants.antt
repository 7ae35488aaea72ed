use Rattle.std.proofs.Common.{◌≡◌, ◌-◌, ◌≤◌, length}
use Rattle.problems.specs.Problem.{path}
use Rattle.problems.specs.Seen.{reached}
use Rattle.problems.specs.Held.{links_in}
use Rattle.problems.proofs.schemas.Links.path.Given as goal

abbrev pub invariant-loop-place : goal.invariant-loop-place
invariant-loop-place l =
    (l.place ≤ length l.self.words.now)
    × (reached (path (links_in l.self) l.self.words.now (l.place-end - l.place) l.here l.place)
    ≡ reached (path (links_in l.self) l.self.words.now l.n l.kind l.at))
