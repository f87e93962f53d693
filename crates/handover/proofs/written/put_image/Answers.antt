use Rattle.std.proofs.Common.{◌++◌, ℕ, List, ap, ◌∙◌, subst}
use Rattle.std.specs.Prelude.{All}
use Rattle.plain_text.specs.LineFiles.{text_of}
use Rattle.handover.specs.declared.image.Ended.{Ended}
use Rattle.handover.specs.declared.line.ImageLine.TheVariants as line
use Rattle.handover.specs.Images.{FitsLine, line_text, released_line}
use Rattle.handover.proofs.WrittenImages.{all_fit, whole_text}
use Rattle.handover.proofs.written.put_image.Goals as goal

pub returns-clause-text : goal.returns-clause-text
returns-clause-text c =
    whole_text c.args.image.now c.in_ok-text.text c.extend.new.self c.extend-2.new.self c.extend-3.new.self
    c.in_ok-ended.ended c.in_ok-released.released c.in_ok-moves.moves c.in_ok-text.ensures.text
    (c.in_ok-ended.ensures.text
    ∙ ap (λ (es : List Ended). text_of (λ (e : Ended). line_text (line.Ended e)) es) c.as_slice.ensures)
    (c.in_ok-extend.ensures.ok ∙ ap (λ (t : List ℕ). c.in_ok-text.text ++ t) c.as_slice-2.ensures)
    (c.in_ok-released.ensures.text
    ∙ ap (λ (rs : List (ℕ × ℕ)). text_of (λ (r : ℕ × ℕ). line_text (released_line r)) rs) c.as_slice-3.ensures)
    (c.in_ok-extend-2.ensures.ok ∙ ap (λ (t : List ℕ). c.extend.new.self ++ t) c.as_slice-4.ensures)
    c.in_ok-moves.ensures.text
    (c.in_ok-extend-3.ensures.ok ∙ ap (λ (t : List ℕ). c.extend-2.new.self ++ t) c.as_slice-5.ensures)

pub returns-clause-fits : goal.returns-clause-fits
returns-clause-fits c =
    all_fit c.args.image.now c.in_ok-text.ensures.fits
    (subst (All (λ (e : Ended). FitsLine (line.Ended e))) c.as_slice.ensures c.in_ok-ended.ensures.fits)
    (subst (All (λ (r : ℕ × ℕ). FitsLine (released_line r))) c.as_slice-3.ensures c.in_ok-released.ensures.fits)
    c.in_ok-moves.ensures.fits
