-- What a hand-over of a box begins to write, told of the kind of the box.
use Rattle.std.proofs.Common.{◌≡◌, ℕ, List, Option, subst, sym}
use Rattle.box_conf.specs.declared.kind.BoxKind.{BoxKind}
use Rattle.box_conf.specs.Kinds.{meaning_of}
use Rattle.world_io.specs.World.{Shown}
use Rattle.recovery_world.specs.declared.event.Event.{Event}
use Rattle.run_writes.specs.declared.opening.ScriptRun.{ScriptRun}
use Rattle.run_writes.specs.Run.{OutputNames, setting_of}
use Rattle.hand_command.specs.Hand.{HasBegunHand}

pub handed_as : (seal : Option (List ℕ)) (k kind : BoxKind) (run : ScriptRun) (names : OutputNames)
    (events : List Event) (old new : Shown) → kind ≡ k
    → HasBegunHand seal (setting_of (meaning_of k).meaning run) names events old new
    → HasBegunHand seal (setting_of (meaning_of kind).meaning run) names events old new
handed_as seal k kind run names events old new is begun =
    subst (λ (x : BoxKind). HasBegunHand seal (setting_of (meaning_of x).meaning run) names events old new)
    (sym is) begun
