use Rattle.std.proofs.Common.{ap, ◌∙◌}
use Rattle.run_writes.proofs.OpeningSteps.{same_append}
use Rattle.live_writes.specs.Script.{Scripted}
use Rattle.live_writes.proofs.script.Script.write.Goals as goal

pub returns-clause-shows : goal.returns-clause-shows
returns-clause-shows g c p h name is =
    same_append name _ _ _ _ (c.as_slice.ensures ∙ ap (λ (x : Scripted). x.text) c.self.view_is)
    (c.in_ok-append.ensures.shows p h name is)
