use Rattle.replay_guide.proofs.WorldTurns.{held_follows}
use Rattle.replay_guide.proofs.laws.guides_follow_the_world.Goals as goal

pub returns-clause-begins : goal.returns-clause-begins
returns-clause-begins c = λ log stored followed held guide holds same among e new.
    let follows = held_follows log stored held guide e holds same in
    let is = among e new in
    (λ h. follows.0 (is.0 h), λ h. is.1 (follows.1 h))

pub returns-clause-goes_on : goal.returns-clause-goes_on
returns-clause-goes_on c = λ followed past next guide guides grows e new. guides e (λ h. new (grows e h))
