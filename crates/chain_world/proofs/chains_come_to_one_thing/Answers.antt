use Rattle.chain_world.proofs.ChainLemmas.{stands}
use Rattle.chain_world.proofs.OneChain.{on_one, chain_stops_one, chain_stops_not, chain_comes, files_one}
use Rattle.chain_world.proofs.chains_come_to_one_thing.Goals as goal

pub returns-clause-something : goal.returns-clause-something
returns-clause-something g c = λ s r events lines pair ev p low few which.
    chain_comes s r pair (stands s r events lines pair p) ev low few which

pub returns-clause-performed : goal.returns-clause-performed
returns-clause-performed g c = λ s r events lines pair ev to other freed rest new next p a b.
    let q = on_one s r pair (stands s r events lines pair p) ev to other freed rest new next a b in
    (q.outcome_is, q.freed_is, q.new_is)

pub returns-clause-stopped : goal.returns-clause-stopped
returns-clause-stopped g c = λ s r events lines pair ev limit other new next p a b.
    chain_stops_one s r pair (stands s r events lines pair p) ev limit other new next a b

pub returns-clause-not_both : goal.returns-clause-not_both
returns-clause-not_both g c = λ s r events lines pair ev limit to freed new next p a b.
    chain_stops_not s r pair (stands s r events lines pair p) ev limit to freed new next a b

pub returns-clause-files : goal.returns-clause-files
returns-clause-files g c = λ s r events report other middle mid released rest first moves second steps a b.
    files_one s r events report other middle mid released rest first moves second steps a b
