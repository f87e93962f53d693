use Rattle.std.proofs.Common.{◌++◌, ◌∷◌, ◌∙◌, [], ap, arith, sym, take}
use Rattle.std.proofs.lemmas.List.{take_more}
use Rattle.system_images.proofs.imaging.copy_moves.Goals as goal

pub loop-index-preserved : goal.loop-index-preserved
loop-index-preserved c =
    let low = c.loop-index-test.true in
    let long = c.len-index-end.ensures in
    let plain = c.at.result in
    let moves = c.args.moves.now in
    c.in_ok-push.ensures.ok ∙ ap (λ l. l ++ plain ∷ []) c.loop-index.invariant
    ∙ ap (λ p. take c.loop-index.index moves ++ p ∷ []) (c.at.ensures plain)
    ∙ sym (take_more moves c.loop-index.index plain (omega (arith, low, long)))
