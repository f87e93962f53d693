use Rattle.replay_guide.proofs.WorldAnswers.{tells_clock, tells_draw, tells_free_clock, tells_free_draw}
use Rattle.replay_guide.proofs.laws.answers_are_those_of_the_world.Goals as goal

pub returns-clause-clock : goal.returns-clause-clock
returns-clause-clock g c =
    λ s w guide t a h given clock sound guides. tells_clock s w guide sound guides t a h given clock

pub returns-clause-draw : goal.returns-clause-draw
returns-clause-draw g c =
    λ s w guide t a h given words drawn sound guides. tells_draw s w guide sound guides t a h given words drawn

pub returns-clause-free_clock : goal.returns-clause-free_clock
returns-clause-free_clock g c =
    λ s w guide t a given clock sound guides. tells_free_clock s w guide sound guides t a given clock

pub returns-clause-free_draw : goal.returns-clause-free_draw
returns-clause-free_draw g c =
    λ s w guide t a given words drawn now sound guides. tells_free_draw s w guide sound guides t a given words drawn now
