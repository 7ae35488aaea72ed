-- Sweeping: the living are numbered anew and the dead are dropped.
use Rattle.std.specs.Prelude.{ℕ, zero, suc, cond, ◌&&◌, [], Some, None, Option, ◌==◌, nat_lt}
use Rattle.machine.specs.State.{Slot, cell, landing, State}

-- Sweeping: the number of the living below e, and the n-th of the living below g.
unfoldable pub rank : (ℕ → ℕ) → ℕ → ℕ
rank f zero = 0
rank f (suc e) = cond (f e == e) (suc (rank f e)) (rank f e)

unfoldable pub pick : (ℕ → ℕ) → ℕ → ℕ → ℕ
pick f zero n = 0
pick f (suc g) n = cond (f g == g && rank f g == n) g (pick f g n)

abbrev pub renamed : (ℕ → ℕ) → Option ℕ → Option ℕ
renamed f None = None
renamed f (Some w) = Some (f w)

abbrev pub swept_held : State → Slot → Option ℕ
swept_held s (cell n l) = cond (nat_lt n (rank s.forward s.given)) (renamed (rank s.forward) (s.held (cell (pick s.forward s.given n) l))) None
swept_held s (landing k r) = renamed (rank s.forward) (s.held (landing k r))

abbrev pub swept : State → State
swept s = record {
  given = rank s.forward s.given;
  kind = λ n. cond (nat_lt n (rank s.forward s.given)) (s.kind (pick s.forward s.given n)) 0;
  forward = λ x. x;
  held = swept_held s;
  waiting = [];
}
