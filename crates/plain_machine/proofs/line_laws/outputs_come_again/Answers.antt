use Rattle.plain_machine.proofs.QuietMoves.{sends_next}
use Rattle.plain_machine.proofs.line_laws.outputs_come_again.Goals as goal

pub returns : goal.returns
returns g c = sends_next
