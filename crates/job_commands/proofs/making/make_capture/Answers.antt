use Rattle.job_commands.specs.Words.{made_of}
use Rattle.job_commands.proofs.Makes.{made_answers}
use Rattle.job_commands.proofs.making.make_capture.Goals as goal

pub returns : goal.returns
returns g c =
    let makes = c.write_made.ensures in
    rw c.outcome.ensures
    (made_answers (made_of c.args.words) _ g.W.World.shows g.W.World.ledger g.W.World.healthy c.args.world.now
    c.write_made.new.world makes.writes_files c.write_made.result makes.cause makes.shows makes.before)
