use Rattle.recovery_laws.proofs.Finishes.{finish_there}
use Rattle.chain_world.specs.Chain.{behind}
use Rattle.chain_world.proofs.ChainLemmas.{stands, second_sound, first_alone, keeps_both}
use Rattle.chain_world.proofs.chains_keep_both_promises.Goals as goal

pub returns-clause-sound : goal.returns-clause-sound
returns-clause-sound g c = λ s r events lines new p.
    let h = stands s r events lines new p in (h.sound, second_sound s r new h)

pub returns-clause-first : goal.returns-clause-first
returns-clause-first g c = λ s r events lines new p. first_alone s r events lines new p

pub returns-clause-second : goal.returns-clause-second
returns-clause-second g c = λ s r events lines new p. (stands s r events lines new p).performed

pub returns-clause-ends : goal.returns-clause-ends
returns-clause-ends g c = λ s r events lines new p.
    let h = stands s r events lines new p in
    (finish_there s new.first h.sound, finish_there (behind r new.first) new.second (second_sound s r new h))

pub returns-clause-promise : goal.returns-clause-promise
returns-clause-promise g c = λ s r events report middle released first_moves second_moves l.
    keeps_both s r events report middle released first_moves second_moves l
