use Rattle.std.proofs.Common.{ℕ, ◌-◌, ap, ◌∙◌}
use Rattle.rows.specs.View.{raw}
use Rattle.rows.proofs.SweepMoves.{done}
use Rattle.rows.proofs.Rows.sweep.Goals as goal

pub returns : goal.returns
returns c =
    let d = done (raw c.args.self.now) (raw c.number.new.self) (raw c.rename_cells.new.self) (raw c.rename_landings.new.self) (raw c.pack-k.new.self)
    c.requires.tidy c.requires.live c.number.ensures.goes c.rename_cells.ensures.goes c.rename_landings.ensures c.pack-k.ensures.goes c.pack-k.result c.pack-k.ensures.is in
    record { becomes = d.becomes; dropped = ap (λ (n : ℕ). n - c.pack-k.result) d.given ∙ ap (λ (n : ℕ). c.args.self.now.given - n) d.many }
