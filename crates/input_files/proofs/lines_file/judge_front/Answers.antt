use Rattle.std.proofs.Common.{◌≡◌, ◌∙◌, List, ℕ, ap, subst, Ok, Err}
use Rattle.world_io.specs.declared.beginning.Front.{Front}
use Rattle.input_files.specs.Answers.{SaysLines}
use Rattle.input_files.specs.Texts.{IsFrontOf, whole_lines}
use Rattle.input_files.proofs.Verdicts.{whole_file, cut_file, cut_file_refused, lines_of_text}
use Rattle.input_files.proofs.lines_file.judge_front.Goals as goal

pub returns-in-All-clause-says : goal.returns-in-All-clause-says
returns-in-All-clause-says g c = λ bytes is.
    whole_file g.F.LineFile.form c.in-All.bytes bytes c.judge_lines.result
    (subst (λ (text : List ℕ). SaysLines g.F.LineFile.form text c.judge_lines.result)
    c.as_slice.ensures c.judge_lines.ensures.says)
    (subst (λ (front : Front). IsFrontOf front bytes) c.in-All.is is)

pub returns-in-Ok-clause-says : goal.returns-in-Ok-clause-says
returns-in-Ok-clause-says g c = λ bytes is.
    let lines : c.whole_lines.result.now ≡ whole_lines c.in-More.bytes =
    c.whole_lines.ensures ∙ ap whole_lines c.as_slice-in-More.ensures in
    cut_file g.F.LineFile.form c.requires.decisive c.in-More.bytes bytes c.in-Ok._things
    (subst (λ (text : List ℕ). SaysLines g.F.LineFile.form text (Ok c.in-Ok._things)) lines c.in-Ok.ensures.says)
    (subst (λ (front : Front). IsFrontOf front bytes) c.in-More.is is)

pub returns-in-Err-clause-says : goal.returns-in-Err-clause-says
returns-in-Err-clause-says g c = λ bytes is.
    let lines : c.whole_lines.result.now ≡ whole_lines c.in-More.bytes =
    c.whole_lines.ensures ∙ ap whole_lines c.as_slice-in-More.ensures in
    cut_file_refused g.F.LineFile.form c.in-More.bytes bytes c.in-Err.error
    (subst (λ (text : List ℕ). SaysLines g.F.LineFile.form text (Err c.in-Err.error)) lines c.in-Err.ensures.says)
    (subst (λ (front : Front). IsFrontOf front bytes) c.in-More.is is)

pub returns-in-All-clause-of_text : goal.returns-in-All-clause-of_text
returns-in-All-clause-of_text g c =
    lines_of_text g.F.LineFile.form c.in-All.bytes c.judge_lines.result
    (subst (λ (text : List ℕ). SaysLines g.F.LineFile.form text c.judge_lines.result)
    c.as_slice.ensures c.judge_lines.ensures.says)
