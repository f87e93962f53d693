use Rattle.std.proofs.Common.{◌∙◌, ◌++◌, ◌∷◌, [], ap}
use Rattle.std.proofs.lemmas.Result.{on_ok_weaker}
use Rattle.svg_text.specs.declared.drawing.Element.{Element}
use Rattle.run_drawing.specs.Overview.{axis}
use Rattle.run_drawing.specs.Slices.{word_at}
use Rattle.run_drawing.proofs.Pieces.{two_put}
use Rattle.run_drawing.proofs.overview.put_axis.Goals as goal

pub returns : goal.returns
returns c =
    on_ok_weaker c.push-2.result (λ is.
    two_put c.args.out.now c.push.new.self c.push-2.new.self axis (word_at 1130 264 c.args.word.now)
    c.in_ok-push.ensures.ok (is ∙ ap (λ (e : Element). c.push.new.self ++ e ∷ []) c.in_ok-words.ensures))
    c.push-2.ensures.ok
