use Rattle.std.proofs.Common.{◌∙◌, ◌++◌, ◌∷◌, [], ap}
use Rattle.svg_text.specs.declared.drawing.Element.{Element}
use Rattle.run_drawing.proofs.Pieces.{releases_next}
use Rattle.run_drawing.proofs.signs.put_releases.Goals as goal

pub releases-preserved : goal.releases-preserved
releases-preserved c =
    releases_next c.args.threads c.releases.column c.in_ok-column.column c.releases.number c.in_ok-number.number
    c.releases.counter c.args.many c.args.line.now c.releases.out c.push.new.self c.push-in-releases.new.self _
    c.releases-test.true c.in_ok-column.ensures c.in_ok-number.ensures c.releases.invariant
    (c.in_ok-push.ensures.ok ∙ ap (λ (e : Element). c.releases.out ++ e ∷ []) c.in_ok-full.ensures)
    (c.in_ok-push-2.ensures.ok
    ∙ ap (λ (e : Element). c.push.new.self ++ e ∷ []) c.in_ok-number_below.ensures)
