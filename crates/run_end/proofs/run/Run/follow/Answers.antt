use Rattle.run_end.proofs.Loops.{entry_stands, entry_on}
use Rattle.run_end.proofs.run.Run.follow.Goals as goal

pub play_to-requires-clause-led : goal.play_to-requires-clause-led
play_to-requires-clause-led g c = λ κs within.
    entry_stands (g.P.Program.meaning c.args.program.now) c.args.inputs.now c.args.order.now c.entries.entry-index
    c.entry-item.result c.entry-item.is c.entries-test.true c.args.self.now.master c.entries.self.master
    c.args.self.now.schedule c.entries.self.schedule c.entries.invariant.leads c.requires.led

pub entries-preserved : goal.entries-preserved
entries-preserved g c = record {
  fits = c.play_to.ensures.fits;
  leads =
      entry_on (g.P.Program.meaning c.args.program.now) c.args.inputs.now c.args.order.now c.entries.entry-index
      c.entry-item.result c.entry-item.is c.entries-test.true c.args.self.now.master c.entries.self.master
      c.args.self.now.schedule c.entries.self.schedule c.entries.invariant.leads c.play_to.new.self.master
      c.play_to.new.self.schedule c.in_ok-play_to.ensures.plays;
}
