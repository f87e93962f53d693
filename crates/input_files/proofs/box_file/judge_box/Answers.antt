use Rattle.std.proofs.Common.{rules, ◌≡◌, ◌∙◌, List, ℕ, ap, subst}
use Rattle.plain_text.specs.declared.fault.LineCause.{LineCause}
use Rattle.box_conf.specs.BoxFile.{IsBoxFile, FirstFault}
use Rattle.world_io.specs.declared.beginning.Front.{Front}
use Rattle.input_files.specs.Texts.{IsFrontOf, whole_lines}
use Rattle.input_files.proofs.Verdicts.{box_accepted, box_faulty, cut_box_faulty, cut_box_whole, cut_box_missing}
use Rattle.input_files.proofs.box_file.judge_box.Goals as goal

pub returns-in-Ok-clause-says : goal.returns-in-Ok-clause-says
returns-in-Ok-clause-says c = λ bytes is.
    box_accepted c.in-All.bytes bytes c.in-Ok.conf
    (subst (λ (text : List ℕ). IsBoxFile text c.in-Ok.conf) c.as_slice.ensures c.in-Ok.ensures.value)
    (subst (λ (front : Front). IsFrontOf front bytes) c.in-All.is is)

pub returns-in-Err-clause-says : goal.returns-in-Err-clause-says
returns-in-Err-clause-says c = λ bytes is.
    box_faulty c.in-All.bytes bytes c.in-Err.fault
    (subst (λ (text : List ℕ). FirstFault text c.in-Err.fault.line c.in-Err.fault.cause) c.as_slice.ensures
    c.in-Err.ensures.fault) (subst (λ (front : Front). IsFrontOf front bytes) c.in-All.is is)

pub returns-in-Ok-read_box-clause-says : goal.returns-in-Ok-read_box-clause-says
returns-in-Ok-read_box-clause-says c = λ bytes is.
    let lines : c.whole_lines.result.now ≡ whole_lines c.in-More.bytes =
    c.whole_lines.ensures ∙ ap whole_lines c.as_slice-in-More.ensures in
    cut_box_whole c.in-More.bytes bytes c.in-Ok-read_box.field-0
    (subst (λ (text : List ℕ). IsBoxFile text c.in-Ok-read_box.field-0) lines c.in-Ok-read_box.ensures.value)
    (subst (λ (front : Front). IsFrontOf front bytes) c.in-More.is is)

pub returns-in-MissingLine-clause-says : goal.returns-in-MissingLine-clause-says
returns-in-MissingLine-clause-says c = λ bytes is.
    let lines : c.whole_lines.result.now ≡ whole_lines c.in-More.bytes =
    c.whole_lines.ensures ∙ ap whole_lines c.as_slice-in-More.ensures in
    let fault = c.in-Err-read_box.fault in
    let first =
    subst (λ (text : List ℕ). FirstFault text fault.line fault.cause) lines c.in-Err-read_box.ensures.fault in
    cut_box_missing c.in-More.bytes bytes fault.line
    (subst (λ (cause : LineCause). FirstFault (whole_lines c.in-More.bytes) fault.line cause) c.in-MissingLine.is first)
    (subst (λ (front : Front). IsFrontOf front bytes) c.in-More.is is)

pub returns-in_default : goal.returns-in_default
returns-in_default c = record {
  says = λ bytes is.
      let lines : c.whole_lines.result.now ≡ whole_lines c.in-More.bytes =
      c.whole_lines.ensures ∙ ap whole_lines c.as_slice-in-More.ensures in
      let fault = c.in-Err-read_box.fault in
      cut_box_faulty c.in-More.bytes bytes fault
      (subst (λ (text : List ℕ). FirstFault text fault.line fault.cause) lines c.in-Err-read_box.ensures.fault)
      c.in_default.not-MissingLine
      (subst (λ (front : Front). IsFrontOf front bytes) c.in-More.is is);
  threads = tt;
  quiet = search rules;
  memory = search rules;
}
