use Rattle.std.proofs.Common.{rules}
use Rattle.rows.specs.View.{raw, view}
use Rattle.rows.proofs.SweepSteps.{numbers, rank_room, next_live, next_dead}
use Rattle.rows.proofs.Rows.number_one.Goals as goal

pub overflow_cast-self : goal.overflow_cast-self
overflow_cast-self c = let h = rank_room (raw c.args.self.now) c.requires.still c.args.e c.args.k c.requires.e_lt_given c.requires.k_ranks in search rules

pub overflow_add-result : goal.overflow_add-result
overflow_add-result c = let h = rank_room (raw c.args.self.now) c.requires.still c.args.e c.args.k c.requires.e_lt_given c.requires.k_ranks in search rules

pub returns-then-lives : goal.returns-then-lives
returns-then-lives c =
    let n = numbers (raw c.args.self.now) c.requires.still c.args.e c.args.k c.requires.e_lt_given c.at-at.result c.at-at.ensures.is c.requires.k_ranks c.requires.forward_ranked in
    record { goes = n.0; ranked = n.1; is = next_live (view c.args.self.now) _ n.0.state c.args.e c.args.k c.if-lives.ensures c.requires.k_ranks }

pub returns-else-lives : goal.returns-else-lives
returns-else-lives c =
    let n = numbers (raw c.args.self.now) c.requires.still c.args.e c.args.k c.requires.e_lt_given c.at-at.result c.at-at.ensures.is c.requires.k_ranks c.requires.forward_ranked in
    record { goes = n.0; ranked = n.1; is = next_dead (view c.args.self.now) _ n.0.state c.args.e c.args.k c.requires.e_lt_given c.if-lives.ensures c.requires.k_ranks }
