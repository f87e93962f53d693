use Rattle.std.proofs.Common.{◌≡◌, ℕ, ◌+◌, ◌∙◌, ap, arith}
use Rattle.recovery_world.specs.Many.{Chooses, begins}
use Rattle.several_events.proofs.strategy.begin.Goals as goal

from_none : (n : ℕ) → n ≡ 0 + n
from_none n = omega arith

pub returns-in-Auto-clause-several : goal.returns-in-Auto-clause-several
returns-in-Auto-clause-several g c = λ s w st. (
  Chooses c.in-Auto.seed 0 c.in-Auto.n,
  ap (begins s w) c.in-Auto.is,
  (c.in-Auto.seed, 0, ap (Chooses c.in-Auto.seed 0) (from_none c.in-Auto.n), c.generator.ensures.fresh),
)
