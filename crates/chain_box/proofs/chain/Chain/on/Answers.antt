use Rattle.std.proofs.Common.{subst}
use Rattle.system_parts.specs.Performing.{Appends}
use Rattle.chain_box.specs.Chains.{both}
use Rattle.chain_box.proofs.ChainLemmas.{moves_from}
use Rattle.chain_box.proofs.chain.Chain.on.Goals as goal

pub returns-else-is_err-clause-on : goal.returns-else-is_err-clause-on
returns-else-is_err-clause-on g c =
    moves_from g.P.Program.meaning g.Q.Program.meaning c.args.event.now c.perform-done.result
    (both c.perform-done.new.first c.perform-done.new.second) c.self.view_is c.perform-done.ensures.on

pub returns-else-is_err-clause-released : goal.returns-else-is_err-clause-released
returns-else-is_err-clause-released g c =
    subst (λ q. Appends q.second.fresh c.perform-done.new.second.fresh) c.self.view_is
    c.perform-done.ensures.second_appends
