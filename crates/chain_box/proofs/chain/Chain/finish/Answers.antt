use Rattle.chain_box.proofs.TakenLemmas.{both_finish}
use Rattle.chain_box.proofs.chain.Chain.finish.Goals as goal

pub returns-in_ok-finish-in-Ok : goal.returns-in_ok-finish-in-Ok
returns-in_ok-finish-in-Ok g c =
    both_finish g.P.Program.meaning g.Q.Program.meaning c.in-Ok.first c.in_ok-finish-in-Ok.field-0 c.self.view_is
    c.in-Ok.ensures c.in_ok-finish-in-Ok.ensures
