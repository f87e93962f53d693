use Rattle.hand_command.proofs.Resuming.{one_run}
use Rattle.hand_command.proofs.laws.hand_and_resume_are_one_run.Goals as goal

pub returns : goal.returns
returns g c = λ seal s names others events rest from to first last h goes_on.
    one_run s others events rest first last h.hand (goes_on h.hand.world h.hand.handed)
