use Rattle.plain_player.specs.Schedules.{schedule_form}
use Rattle.input_files.proofs.Verdicts.{file_judged}
use Rattle.input_files.proofs.schedule_file.read_schedule_file.Goals as goal

pub returns-clause-judged : goal.returns-clause-judged
returns-clause-judged g c = λ p h.
    let read = c.in_ok-front.ensures.judged p h in
    file_judged schedule_form (g.W.World.healthy c.args.world.now) c.args.name.now
    (g.W.World.shows p c.args.world.now)
    c.judge_front.result (read.0, read.1, c.judge_front.ensures.says read.0 read.2)
