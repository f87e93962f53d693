use Rattle.round_join.proofs.RacedRounds.{raced_are_light, raced_in_order}
use Rattle.round_join.proofs.laws.rounds_are_in_order.Goals as goal

pub returns-clause-light : goal.returns-clause-light
returns-clause-light g c = λ s w p round seats q marks moves y raced. raced_are_light
    (g.P.Program.meaning c.args.program.now) (g.P.Program.fits c.args.program.now) s w p round seats q marks moves y
    raced

pub returns-clause-in_order : goal.returns-clause-in_order
returns-clause-in_order g c = λ s w p round seats q marks moves turns y parts raced are. raced_in_order
    (g.P.Program.meaning c.args.program.now) (g.P.Program.fits c.args.program.now) s w p round seats q marks moves turns
    y (g.met.P.Program.lawful c.args.program.now) parts raced are
