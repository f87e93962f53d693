use Rattle.noted_runs.proofs.MovesNoted.{made_known}
use Rattle.noted_runs.proofs.picture.noting.made_all.Goals as goal

pub returns : goal.returns
returns g c =
    made_known (g.P.Program.meaning c.args.program.now) c.args.inputs.now c.args.moves.now c.made_moves.result
    c.made_moves.ensures
