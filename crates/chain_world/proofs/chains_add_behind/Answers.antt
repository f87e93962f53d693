use Rattle.chain_world.proofs.ChainLemmas.{middle_grows, released_grow}
use Rattle.chain_world.proofs.chains_add_behind.Goals as goal

pub returns-clause-middle : goal.returns-clause-middle
returns-clause-middle g c = λ s r pair ev to freed new on. middle_grows s r pair ev to freed new on

pub returns-clause-released : goal.returns-clause-released
returns-clause-released g c = λ s r pair ev to freed new on. released_grow s r pair ev to freed new on
