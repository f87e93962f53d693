use Rattle.std.proofs.Common.{◌+◌, ◌++◌, ◌∷◌, ◌∙◌, [], append_assoc, ap, arith, drop, sym}
use Rattle.std.proofs.lemmas.List.{drop_more}
use Rattle.noted_runs.specs.Noting.{threads_of}
use Rattle.noted_runs.proofs.picture.noting.movers_of.Goals as goal

pub loop-index-preserved : goal.loop-index-preserved
loop-index-preserved c =
    let low = c.loop-index-test.true in
    let long = c.len-index-end.ensures in
    let plain = c.at.result in
    let moves = c.args.moves.now in
    let later = drop (c.loop-index.index + 1) moves in
    ap (λ l. l ++ threads_of later) c.in_ok-push.ensures.ok
    ∙ append_assoc c.loop-index.movers (plain.thread ∷ []) (threads_of later)
    ∙ ap (λ p. c.loop-index.movers ++ threads_of (p ∷ later)) (c.at.ensures plain)
    ∙ ap (λ l. c.loop-index.movers ++ threads_of l)
    (sym (drop_more moves c.loop-index.index plain (omega (arith, low, long))))
    ∙ c.loop-index.invariant
