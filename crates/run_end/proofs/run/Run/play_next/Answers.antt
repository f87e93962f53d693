use Rattle.std.proofs.Common.{option_copied}
use Rattle.run_end.proofs.NextMoves.{busy_next, plays_next, room_next}
use Rattle.run_end.proofs.run.Run.play_next.Goals as goal

pub input_of-input-requires-clause-room : goal.input_of-input-requires-clause-room
input_of-input-requires-clause-room g c = λ κs within.
    room_next (g.P.Program.meaning c.args.program.now) (g.P.Program.fits c.args.program.now)
    (g.met.P.Program.lawful c.args.program.now) c.args.inputs.now c.args.thread c.args.answer c.args.self.now.master
    c.args.self.now.schedule c.requires.few c.requires.next

pub step-stepped-requires-clause-room : goal.step-stepped-requires-clause-room
step-stepped-requires-clause-room g c = λ κs within.
    room_next (g.P.Program.meaning c.args.program.now) (g.P.Program.fits c.args.program.now)
    (g.met.P.Program.lawful c.args.program.now) c.args.inputs.now c.args.thread c.args.answer c.args.self.now.master
    c.args.self.now.schedule c.requires.few c.requires.next

pub told_by-requires : goal.told_by-requires
told_by-requires g c =
    busy_next (g.P.Program.meaning c.args.program.now) c.args.inputs.now c.args.thread c.args.answer
    c.args.self.now.master c.args.self.now.schedule (option_copied c.input_of-input.result) c.step-stepped.result
    c.requires.next c.input_of-input.ensures (λ e. c.step-stepped.ensures.idle.0 e)
    (λ u n e. let k = ((c.step-stepped.ensures.not_turn u n).0 e).1 in absurd (cc))

pub returns-clause-plays : goal.returns-clause-plays
returns-clause-plays g c =
    plays_next (g.P.Program.meaning c.args.program.now) c.args.inputs.now c.args.thread c.args.answer
    c.args.self.now.master c.step-stepped.new.self c.args.self.now.schedule c.push.new.self
    (option_copied c.input_of-input.result) c.step-stepped.result c.in_ok-told.told c.input_of-input.ensures
    c.step-stepped.ensures.follows c.in_ok-told.ensures.told.0 c.in_ok-told.ensures.told.1 c.in_ok-push.ensures.ok
