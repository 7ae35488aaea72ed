use Rattle.std.proofs.Common.{ap, ◌∙◌}
use Rattle.problems.specs.Tokens.{shown_token}
use Rattle.rows.specs.View.{raw}
use Rattle.rows.specs.Standing.{linked, path_in}
use Rattle.rows.proofs.Standing.{map_stands}
use Rattle.rows.proofs.Rows.link_path.Goals as goal

pub returns-in-Some : goal.returns-in-Some
returns-in-Some c L st =
    ap (λ o. path_in (linked o)) c.in-Some.ensures ∙ map_stands L (raw c.args.self.now) c.args.found.now st c.args.i (shown_token c.link_map_at.result) c.link_map_at.ensures.known
