use Rattle.held_steps.proofs.HeldSteps.{held_goes, held_stops, steps_held, steps_stop}
use Rattle.held_steps.proofs.stepping.step_held.Goals as goal

pub returns-then-thread-from-clause-on : goal.returns-then-thread-from-clause-on
returns-then-thread-from-clause-on g c =
    steps_held _ c.args.thread c.args.out.now c.args.core.now c.step.new.core c.step.result c.step.ensures.on

pub returns-then-thread-from-clause-limit : goal.returns-then-thread-from-clause-limit
returns-then-thread-from-clause-limit g c = λ limit is.
    steps_stop (g.P.Program.meaning c.args.core.now.program) c.args.thread c.args.out.now c.args.core.now
    c.step.new.core limit (c.step.ensures.limit limit is)

pub returns-clause-on : goal.returns-clause-on
returns-clause-on g c =
    held_goes _ _ _ _ _ _ c.make_move-answer.ensures.made c.args.out.now c.note_held.new.out c.note_held.result
    c.note_held.new.core c.note_held.ensures.notes

pub returns-clause-limit : goal.returns-clause-limit
returns-clause-limit g c = λ limit is.
    held_stops _ _ _ _ _ _ c.make_move-answer.ensures.made c.args.out.now c.note_held.new.out c.note_held.result
    c.note_held.new.core c.note_held.ensures.notes limit is
