use Rattle.recovery_laws.proofs.ScriptFiles.{leaves_ends, leaves_accepted}
use Rattle.recovery_laws.proofs.scripts_end_well.Goals as goal

pub returns-clause-ends : goal.returns-clause-ends
returns-clause-ends g c = leaves_ends

pub returns-clause-accepted : goal.returns-clause-accepted
returns-clause-accepted g c = leaves_accepted
