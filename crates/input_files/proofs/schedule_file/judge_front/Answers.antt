use Rattle.std.proofs.Common.{◌≡◌, ◌∙◌, List, ℕ, ap, subst, Ok, Err}
use Rattle.world_io.specs.declared.beginning.Front.{Front}
use Rattle.plain_player.specs.Schedules.{schedule_form}
use Rattle.plain_player.proofs.OneMove.{moves_are_decisive}
use Rattle.input_files.specs.Answers.{SaysLines}
use Rattle.input_files.specs.Texts.{IsFrontOf, whole_lines}
use Rattle.input_files.proofs.Verdicts.{whole_file, cut_file, cut_file_refused}
use Rattle.input_files.proofs.schedule_file.judge_front.Goals as goal

pub returns-in-All-clause-says : goal.returns-in-All-clause-says
returns-in-All-clause-says c = λ bytes is.
    whole_file schedule_form c.in-All.bytes bytes c.judge_lines.result
    (subst (λ (text : List ℕ). SaysLines schedule_form text c.judge_lines.result)
    c.as_slice.ensures c.judge_lines.ensures.says)
    (subst (λ (front : Front). IsFrontOf front bytes) c.in-All.is is)

pub returns-in-Ok-clause-says : goal.returns-in-Ok-clause-says
returns-in-Ok-clause-says c = λ bytes is.
    let lines : c.whole_lines.result.now ≡ whole_lines c.in-More.bytes =
    c.whole_lines.ensures ∙ ap whole_lines c.as_slice-in-More.ensures in
    cut_file schedule_form moves_are_decisive c.in-More.bytes bytes c.in-Ok._moves
    (subst (λ (text : List ℕ). SaysLines schedule_form text (Ok c.in-Ok._moves)) lines c.in-Ok.ensures.says)
    (subst (λ (front : Front). IsFrontOf front bytes) c.in-More.is is)

pub returns-in-Err-clause-says : goal.returns-in-Err-clause-says
returns-in-Err-clause-says c = λ bytes is.
    let lines : c.whole_lines.result.now ≡ whole_lines c.in-More.bytes =
    c.whole_lines.ensures ∙ ap whole_lines c.as_slice-in-More.ensures in
    cut_file_refused schedule_form c.in-More.bytes bytes c.in-Err.error
    (subst (λ (text : List ℕ). SaysLines schedule_form text (Err c.in-Err.error)) lines c.in-Err.ensures.says)
    (subst (λ (front : Front). IsFrontOf front bytes) c.in-More.is is)
