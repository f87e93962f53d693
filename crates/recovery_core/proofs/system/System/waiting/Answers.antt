use Rattle.std.proofs.Common.{sym, ap, ◌∙◌, subst}
use Rattle.system_parts.specs.SystemStanding.{StandsFor}
use Rattle.recovery_core.proofs.WaitingLemmas.{as_many_wait}
use Rattle.recovery_core.proofs.system.System.waiting.Goals as goal

pub returns : goal.returns
returns g c = λ s w st.
    let m = g.P.Program.meaning c.args.self.now.parts.program in
    as_many_wait m s w _ c.waiting.result
    (subst (λ q. StandsFor m s w q)
    (sym (ap (λ i. i.core) c.self-inside.view_is ∙ ap (λ q. q.parts) c.self.view_is)) st) c.waiting.ensures
