use Rattle.recovery_laws.proofs.ReleasedOutputs.{any_grows, stops_grow}
use Rattle.recovery_laws.proofs.released_outputs_stay.Goals as goal

pub returns-clause-performed : goal.returns-clause-performed
returns-clause-performed g c = any_grows

pub returns-clause-stopped : goal.returns-clause-stopped
returns-clause-stopped g c = stops_grow
