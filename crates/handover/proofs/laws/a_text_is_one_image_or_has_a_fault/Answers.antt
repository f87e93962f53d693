use Rattle.plain_text.specs.declared.limit.TheConstants.{MOST_EVENTS}
use Rattle.handover.specs.Images.{image_form, lines_of}
use Rattle.handover.proofs.OneLine.{lines_are_decisive}
use Rattle.handover.proofs.StagedTexts.{not_both, one_fault, too_many, too_many_before}
use Rattle.handover.proofs.WholeImages.{one_image, one_or_fault}
use Rattle.handover.proofs.laws.a_text_is_one_image_or_has_a_fault.Goals as goal

pub returns-clause-either : goal.returns-clause-either
returns-clause-either c = one_or_fault

pub returns-clause-not_both : goal.returns-clause-not_both
returns-clause-not_both c = λ text image. not_both image_form lines_are_decisive text (lines_of image)

pub returns-clause-one_image : goal.returns-clause-one_image
returns-clause-one_image c = one_image

pub returns-clause-one_fault : goal.returns-clause-one_fault
returns-clause-one_fault c = one_fault image_form lines_are_decisive

pub returns-clause-too_many : goal.returns-clause-too_many
returns-clause-too_many c = λ text image. too_many image_form lines_are_decisive MOST_EVENTS text (lines_of image)

pub returns-clause-too_many_before : goal.returns-clause-too_many_before
returns-clause-too_many_before c = too_many_before image_form lines_are_decisive MOST_EVENTS
