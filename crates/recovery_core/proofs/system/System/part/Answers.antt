use Rattle.std.proofs.Common.{ap, ◌∙◌}
use Rattle.recovery_core.proofs.PartingLemmas.{parted_from, parted_for_some}
use Rattle.recovery_core.proofs.system.System.part.Goals as goal

pub returns-clause-rest : goal.returns-clause-rest
returns-clause-rest g c =
    parted_from g.P.Program.meaning c.in_ok-parted.parted.rest c.in_ok-parted.parted.master
    (ap (λ q. q.parts) c.self.view_is) c.in_ok-parted.ensures.rest

pub returns-clause-some : goal.returns-clause-some
returns-clause-some g c =
    parted_for_some g.P.Program.meaning c.in_ok-parted.parted.rest c.in_ok-parted.parted.master
    (ap (λ q. q.parts) c.self.view_is) c.in_ok-parted.ensures.rest
    (c.self.invariant (ap (λ q. q.stopped) c.self.view_is ∙ c.requires.runs))
