use Rattle.recovery_core.proofs.PartingLemmas.{joined_for_some}
use Rattle.recovery_core.proofs.system.System.rejoin.Goals as goal

pub invariant_of-result : goal.invariant_of-result
invariant_of-result g c = λ runs.
    joined_for_some g.P.Program.meaning c.args.rest c.join.result c.args.master c.join.ensures.program
    c.join.ensures.stands c.requires.some
