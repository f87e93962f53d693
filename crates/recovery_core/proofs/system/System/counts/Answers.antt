use Rattle.std.proofs.Common.{ap, ◌∙◌}
use Rattle.system_parts.proofs.ReadLemmas.{counts_stand}
use Rattle.recovery_core.proofs.system.System.counts.Goals as goal

pub returns : goal.returns
returns g c = counts_stand (g.P.Program.meaning c.args.self.now.parts.program) c.args.thread c.counts.result
    (ap (λ i. i.core) c.self-inside.view_is ∙ ap (λ q. q.parts) c.self.view_is) c.requires c.counts.ensures
