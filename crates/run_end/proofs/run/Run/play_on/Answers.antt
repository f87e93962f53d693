use Rattle.run_end.specs.Playing.{SendsUpTo}
use Rattle.run_end.proofs.NextMoves.{fall_next}
use Rattle.run_end.proofs.Loops.{one_stands, one_on, out_goes, out_over}
use Rattle.run_end.proofs.run.Run.play_on.Goals as goal

pub play_next-requires-clause-next : goal.play_next-requires-clause-next
play_next-requires-clause-next g c = λ κs within.
    one_stands (g.P.Program.meaning c.args.program.now) c.args.inputs.now c.args.thread 0
    (SendsUpTo (g.P.Program.meaning c.args.program.now) c.args.inputs.now c.args.thread c.args.number)
    (SendsUpTo (g.P.Program.meaning c.args.program.now) c.args.inputs.now c.args.thread c.args.number)
    c.args.self.now.master c.moves.self.master c.args.self.now.schedule c.moves.self.schedule c.moves.invariant.sends
    (out_goes (g.P.Program.meaning c.args.program.now) c.args.inputs.now c.args.thread c.args.number c.moves.self.master
    c.moves.self.schedule c.counts.result c.counts.ensures c.moves-test.true) c.requires.sends

pub moves-smaller : goal.moves-smaller
moves-smaller g c =
    fall_next (g.P.Program.meaning c.args.program.now) (g.P.Program.fits c.args.program.now)
    (g.met.P.Program.lawful c.args.program.now) c.args.inputs.now c.args.thread 0 c.moves.self.master
    c.play_next.new.self.master c.moves.self.schedule c.play_next.new.self.schedule c.requires.few
    (one_stands (g.P.Program.meaning c.args.program.now) c.args.inputs.now c.args.thread 0
    (SendsUpTo (g.P.Program.meaning c.args.program.now) c.args.inputs.now c.args.thread c.args.number)
    (SendsUpTo (g.P.Program.meaning c.args.program.now) c.args.inputs.now c.args.thread c.args.number)
    c.args.self.now.master c.moves.self.master c.args.self.now.schedule c.moves.self.schedule c.moves.invariant.sends
    (out_goes (g.P.Program.meaning c.args.program.now) c.args.inputs.now c.args.thread c.args.number c.moves.self.master
    c.moves.self.schedule c.counts.result c.counts.ensures c.moves-test.true) c.requires.sends)
    c.in_ok-play_next.ensures.plays

pub moves-preserved : goal.moves-preserved
moves-preserved g c = record {
  fits = c.play_next.ensures.fits;
  sends =
      one_on (g.P.Program.meaning c.args.program.now) c.args.inputs.now c.args.thread 0
      (SendsUpTo (g.P.Program.meaning c.args.program.now) c.args.inputs.now c.args.thread c.args.number)
      (SendsUpTo (g.P.Program.meaning c.args.program.now) c.args.inputs.now c.args.thread c.args.number)
      c.args.self.now.master c.moves.self.master c.args.self.now.schedule c.moves.self.schedule c.moves.invariant.sends
      (out_goes (g.P.Program.meaning c.args.program.now) c.args.inputs.now c.args.thread c.args.number
      c.moves.self.master c.moves.self.schedule c.counts.result c.counts.ensures c.moves-test.true)
      c.play_next.new.self.master c.play_next.new.self.schedule c.in_ok-play_next.ensures.plays;
}

pub returns-clause-plays : goal.returns-clause-plays
returns-clause-plays g c =
    out_over (g.P.Program.meaning c.args.program.now) c.args.inputs.now c.args.thread c.args.number c.moves.self.master
    c.moves.self.schedule c.counts.result c.counts.ensures c.moves-test.false c.args.self.now.master
    c.args.self.now.schedule c.moves.invariant.sends
