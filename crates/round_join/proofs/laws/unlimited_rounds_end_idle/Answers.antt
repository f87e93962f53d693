use Rattle.round_join.proofs.IdleThreads.{ends_idle}
use Rattle.round_join.proofs.laws.unlimited_rounds_end_idle.Goals as goal

pub returns : goal.returns
returns g c = record { idle = λ s w made sound up stopped. ends_idle s w made sound up stopped }
