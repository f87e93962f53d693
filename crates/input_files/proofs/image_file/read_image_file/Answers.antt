use Rattle.std.proofs.Common.{◌∙◌, ap, subst}
use Rattle.world_io.specs.declared.beginning.Front.{Front}
use Rattle.input_files.specs.Texts.{IsFrontOf, whole_lines}
use Rattle.input_files.specs.Answers.{SaysImage}
use Rattle.input_files.proofs.Fronts.{told_judged}
use Rattle.input_files.proofs.ImageVerdicts.{error_judged}
use Rattle.input_files.proofs.image_file.read_image_file.Goals as goal

pub returns-in-More-clause-judged : goal.returns-in-More-clause-judged
returns-in-More-clause-judged g c = λ p h.
    let read = c.in_ok-text.ensures.judged p h in
    let cut = subst (λ (front : Front). IsFrontOf front read.0) c.in-More.is read.2 in
    error_judged (g.W.World.healthy c.args.world.now) c.args.name.now (g.W.World.shows p c.args.world.now)
    c.judge_cut.result (
      read.0,
      read.1,
      c.judge_cut.ensures.says c.in-More.front read.0 (c.whole_lines.ensures ∙ ap whole_lines c.as_slice.ensures) cut,
    )

pub returns-in-All-clause-judged : goal.returns-in-All-clause-judged
returns-in-All-clause-judged g c = λ p h.
    let read = c.in_ok-text.ensures.judged p h in
    let all = subst (λ (front : Front). IsFrontOf front read.0) c.in-All.is read.2 in
    told_judged SaysImage (g.W.World.healthy c.args.world.now) c.args.name.now (g.W.World.shows p c.args.world.now)
    c.judge_all.result c.judge_all.ensures.quiet (read.0, read.1, c.judge_all.ensures.says read.0 all)
