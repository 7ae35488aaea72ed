use Rattle.std.proofs.Common.{sym, rules}
use Rattle.problems.proofs.SchemaReads.{schema_seen}
use Rattle.problems.proofs.read.Goals as goal

pub overflow_add-source : goal.overflow_add-source
overflow_add-source c =
    let s = schema_seen 0 c.args.words.now 0 c.in_ok-source.source (sym c.in_ok-source.ensures) in
    search rules

pub invariant_of-sides : goal.invariant_of-sides
invariant_of-sides c =
    let s = schema_seen 0 c.args.words.now 0 c.in_ok-source.source (sym c.in_ok-source.ensures) in
    record { read = s.linked; few = s.few_links }

pub invariant_of-sides-2 : goal.invariant_of-sides-2
invariant_of-sides-2 c =
    let t = schema_seen 1 c.args.words.now _ c.in_ok-target.target (sym c.in_ok-target.ensures) in
    record { read = t.linked; few = t.few_links }
