use Rattle.std.proofs.Common.{rules, List, ℕ, subst}
use Rattle.plain_text.specs.declared.fault.LineCause.{LineCause}
use Rattle.handover.specs.declared.fault.ImageError.TheVariants.{Fault}
use Rattle.handover_seal.specs.Seals.{unsealed}
use Rattle.handover.specs.Images.{FirstFault, HasTooMany, IsImage, IsRefused}
use Rattle.input_files.specs.Texts.{whole_lines}
use Rattle.input_files.proofs.ImageVerdicts.{cut_image_whole, cut_image_missing, cut_image_faulty, cut_image_long}
use Rattle.input_files.proofs.image_file.judge_cut.Goals as goal

pub returns-in-Ok-clause-says : goal.returns-in-Ok-clause-says
returns-in-Ok-clause-says c = λ front bytes lines is.
    cut_image_whole front bytes c.in-Ok._image
    (subst (λ (text : List ℕ). IsImage (unsealed text) c.in-Ok._image) lines
    (subst (λ (text : List ℕ). IsImage text c.in-Ok._image) c.unsealed.ensures c.in-Ok.ensures.image))
    c.in-Ok.ensures.few is

pub returns-in-MissingLine-clause-says : goal.returns-in-MissingLine-clause-says
returns-in-MissingLine-clause-says c = λ front bytes lines is.
    let fault = c.in-Err-Fault.fault in
    let refused = subst (λ (text : List ℕ). IsRefused text (Fault c.in-Err-Fault.fault)) c.unsealed.ensures
    (subst (IsRefused c.unsealed.result.now) c.in-Err-Fault.field-0-is c.in-Err-Fault.ensures.refused) in
    let first = subst (λ (text : List ℕ). FirstFault (unsealed text) fault.line fault.cause) lines refused.0 in
    cut_image_missing front bytes fault.line
    (subst (λ (cause : LineCause). FirstFault (unsealed (whole_lines front)) fault.line cause)
    c.in-MissingLine.is first) (subst (λ (text : List ℕ). HasTooMany (unsealed text) → ⊥) lines refused.1) is

pub returns-in_default : goal.returns-in_default
returns-in_default c = record {
  says = λ front bytes lines is.
      let fault = c.in-Err-Fault.fault in
      let refused = subst (λ (text : List ℕ). IsRefused text (Fault c.in-Err-Fault.fault)) c.unsealed.ensures
      (subst (IsRefused c.unsealed.result.now) c.in-Err-Fault.field-0-is c.in-Err-Fault.ensures.refused) in
      cut_image_faulty front bytes fault
      (subst (λ (text : List ℕ). FirstFault (unsealed text) fault.line fault.cause) lines refused.0)
      (subst (λ (text : List ℕ). HasTooMany (unsealed text) → ⊥) lines refused.1) c.in_default.not-MissingLine is;
  quiet = search rules;
}

pub returns-in-Err-TooMany-clause-says : goal.returns-in-Err-TooMany-clause-says
returns-in-Err-TooMany-clause-says c = λ front bytes lines is.
    cut_image_long front bytes
    (subst (λ (text : List ℕ). HasTooMany (unsealed text)) lines
    (subst HasTooMany c.unsealed.ensures
    (subst (IsRefused c.unsealed.result.now) c.in-Err-TooMany.field-0-is c.in-Err-TooMany.ensures.refused))) is
