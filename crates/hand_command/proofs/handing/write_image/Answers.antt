use Rattle.std.proofs.Common.{◌≡◌, ◌∙◌, Option, Err, ap, rules}
use Rattle.handover.specs.Images.{image_text}
use Rattle.handover_seal.specs.declared.seal.Seal.{Seal}
use Rattle.handover_seal.specs.Seals.{sealed_text}
use Rattle.run_writes.specs.declared.error.RunError.TheVariants as run
use Rattle.hand_command.specs.Hand.{FitsFile}
use Rattle.hand_command.proofs.ImageTexts.{image_written, no_image, too_long}
use Rattle.hand_command.proofs.handing.write_image.Goals as goal

pub returns-in_err-image-clause-shows : goal.returns-in_err-image-clause-shows
returns-in_err-image-clause-shows g c p h s seal are w names writes before is stands low gathered =
    let made : c.from_residual.result ≡ Err run.NoMemory = search rules in
    rw made (no_image seal s w names writes before _ _ gathered)

pub returns-in_err-texts-clause-shows : goal.returns-in_err-texts-clause-shows
returns-in_err-texts-clause-shows g c p h s seal are w names writes before is stands low gathered =
    let made : c.from_residual-in_err-texts.result ≡ Err run.NoMemory = search rules in
    rw made (no_image seal s w names writes before _ _ gathered)

pub returns-clause-shows : goal.returns-clause-shows
returns-clause-shows g c p h s seal are w names writes before is stands low gathered =
    let fits : FitsFile c.as_slice-text.result.now c.in_ok-image.image = search rules in
    rw c.written.ensures (image_written seal s w names writes before c.write_closing.result c.in_ok-image.image _ _ _
    (c.in_ok-image.ensures s w stands low) c.in_ok-texts.ensures.fits
    (c.as_slice-text.ensures ∙ c.in_ok-texts.ensures.image
    ∙ ap (λ (seal : Option Seal). sealed_text seal (image_text c.in_ok-image.image))
    (c.after.ensures seal s.fractions s.packets are)) fits (c.as_slice-last.ensures ∙ c.in_ok-texts.ensures.last)
    (c.write_closing.ensures.shows p h before writes names.schedule is gathered))

pub returns-in-Some-clause-shows : goal.returns-in-Some-clause-shows
returns-in-Some-clause-shows g c p h s seal are w names writes before is stands low gathered =
    too_long seal s w names writes before c.in_ok-image.image c.as_slice-text.result.now c.in-Some.limit _
    (c.in_ok-image.ensures s w stands low) c.in_ok-texts.ensures.fits
    (c.as_slice-text.ensures ∙ c.in_ok-texts.ensures.image
    ∙ ap (λ (seal : Option Seal). sealed_text seal (image_text c.in_ok-image.image))
    (c.after.ensures seal s.fractions s.packets are)) c.in-Some.ensures.passes
    (c.in_ok-write_lines.ensures.shows p h before writes gathered)
