use Rattle.std.proofs.Common.{◌∙◌, ◌++◌, List, ℕ, ap}
use Rattle.std.specs.Prelude.{codes, decimal}
use Rattle.std.proofs.lemmas.Result.{on_ok_weaker}
use Rattle.run_drawing.specs.Picture.{lane_elements}
use Rattle.run_drawing.proofs.ground.put_thread_lane.Goals as goal

pub returns : goal.returns
returns c =
    on_ok_weaker c.put_lane.result (λ is.
    is ∙ ap (λ (w : List ℕ). c.args.out.now ++ lane_elements c.args.many c.args.thread w)
    (c.as_slice.ensures ∙ (c.in_ok-put_named.ensures
    ∙ ap (λ (l : List ℕ). l ++ (codes "thread " ++ decimal c.args.thread)) c.new-word.ensures))) c.put_lane.ensures
