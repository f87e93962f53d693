use Rattle.std.proofs.Common.{sym, ap, ◌∙◌, subst}
use Rattle.system_parts.specs.SystemStanding.{StandsFor}
use Rattle.recovery_core.proofs.FinishLemmas.{finishes}
use Rattle.recovery_core.proofs.system.System.finish.Goals as goal

pub returns : goal.returns
returns g c = λ s w st.
    let m = g.P.Program.meaning c.args.self.parts.program in
    finishes m s w _
    (subst (λ q. StandsFor m s w q)
    (sym (ap (λ i. i.core) c.self-inside.view_is ∙ ap (λ q. q.parts) c.self.view_is)) st) _
    (c.in_ok-end.ensures s w
    (subst (λ q. StandsFor (g.P.Program.meaning q.program) s w q) (sym (ap (λ q. q.parts) c.self.view_is)) st))
    c.fed-fed.ensures c.epoch-epoch.ensures c.len-released.ensures
