use Rattle.std.proofs.Common.{List, ℕ, ap, ◌∙◌, subst}
use Rattle.handover.specs.Images.{IsImage}
use Rattle.handover_seal.specs.Seals.{unsealed}
use Rattle.input_files.proofs.ImageVerdicts.{image_accepted}
use Rattle.input_files.proofs.image_file.judge_all.Goals as goal

pub returns-in-Ok-clause-says : goal.returns-in-Ok-clause-says
returns-in-Ok-clause-says c = λ bytes is.
    image_accepted c.args.text bytes c.in-Ok.image
    (subst (λ (text : List ℕ). IsImage text c.in-Ok.image) (c.unsealed.ensures ∙ ap unsealed c.as_slice.ensures)
    c.in-Ok.ensures.image) c.in-Ok.ensures.few is

pub returns-in-Ok-clause-image : goal.returns-in-Ok-clause-image
returns-in-Ok-clause-image c =
    subst (λ (text : List ℕ). IsImage text c.in-Ok.image) (c.unsealed.ensures ∙ ap unsealed c.as_slice.ensures)
    c.in-Ok.ensures.image
