use Rattle.input_files.specs.Answers.{SaysBox}
use Rattle.input_files.proofs.Fronts.{told_judged}
use Rattle.input_files.proofs.box_file.read_box_file.Goals as goal

pub returns-clause-judged : goal.returns-clause-judged
returns-clause-judged g c = λ p h.
    let read = c.in_ok-front.ensures.judged p h in
    told_judged SaysBox (g.W.World.healthy c.args.world.now) c.args.name.now (g.W.World.shows p c.args.world.now)
    c.judge_box.result c.judge_box.ensures.quiet (read.0, read.1, c.judge_box.ensures.says read.0 read.2)
