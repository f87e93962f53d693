use Rattle.std.proofs.Common.{◌≡◌, List, [], ◌∷◌, ◌++◌, ◌+◌, take, sym, ap, ◌∙◌}
use Rattle.std.proofs.lemmas.List.{take_more}
use Rattle.recovery_world.specs.Many.{Message}
use Rattle.round_join.specs.declared.noting.Noted.{Noted}
use Rattle.live_workers.specs.Frames.{frame_noted, frames_noted}
use Rattle.live_workers.proofs.SentFrames.{noted_append}
use Rattle.live_workers.proofs.sent.frames_sent.Goals as goal

pub loop-step-preserved : goal.loop-step-preserved
loop-step-preserved c =
    let steps = c.args.steps.now in
    let i = c.loop-step.step-index in
    let x = c.step-item.result in
    c.in_ok-add_sent.ensures
    ∙ ap (λ (l : List Message). l ++ frame_noted x) c.loop-step.invariant
    ∙ sym (noted_append (take i steps) x)
    ∙ ap frames_noted (ap (λ (n : Noted). take i steps ++ n ∷ []) c.step-item.is
    ∙ sym (take_more steps i x c.loop-step-test.true))
