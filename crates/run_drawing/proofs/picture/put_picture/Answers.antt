use Rattle.std.proofs.Common.{◌≡◌, ℕ, List, ap, ◌∙◌}
use Rattle.std.proofs.lemmas.Result.{IfOk-weaker}
use Rattle.svg_text.specs.Drawing.{drawing_text}
use Rattle.svg_text.specs.declared.drawing.Drawing.{Drawing}
use Rattle.svg_text.specs.declared.drawing.Element.{Element}
use Rattle.run_drawing.proofs.picture.put_picture.Goals as goal

abbrev drawing : ℕ → ℕ → List ℕ → List Element → Drawing
drawing w h t e = record { width = w; height = h; title = t; elements = e }

same_drawing : (w v h k : ℕ) (t u : List ℕ) (e f : List Element) → w ≡ v → h ≡ k → t ≡ u → e ≡ f
    → drawing w h t e ≡ drawing v k u f
same_drawing w v h k t u e f width height title elements =
    ap (λ (x : ℕ). drawing x h t e) width
    ∙ ap (λ (x : ℕ). drawing v x t e) height
    ∙ ap (λ (x : List ℕ). drawing v k x e) title
    ∙ ap (λ (x : List Element). drawing v k u x) elements

pub returns : goal.returns
returns c =
    IfOk-weaker c.put_drawing.result _ _ (λ text is.
    is
    ∙ ap drawing_text
    (same_drawing _ _ _ _ _ _ _ _ c.wide_of.ensures c.high_of.ensures c.in_ok-of.ensures c.in_ok-elements_of.ensures))
    c.put_drawing.ensures
