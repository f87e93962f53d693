-- What the picture of a box begins to write, told of the kind of the box.
use Rattle.std.proofs.Common.{◌≡◌, ℕ, List, subst, sym}
use Rattle.box_conf.specs.declared.kind.BoxKind.{BoxKind}
use Rattle.box_conf.specs.Kinds.{meaning_of}
use Rattle.world_io.specs.World.{Shown}
use Rattle.recovery_world.specs.declared.event.Event.{Event}
use Rattle.run_writes.specs.declared.opening.ScriptRun.{ScriptRun}
use Rattle.run_writes.specs.Run.{setting_of}
use Rattle.noted_runs.specs.Picture.{HasBegunPicture}

pub drawn_as : (k kind : BoxKind) (title : List ℕ) (run : ScriptRun) (events : List Event) (name : List ℕ)
    (old new : Shown) → kind ≡ k
    → HasBegunPicture title (setting_of (meaning_of k).meaning run) events name old new
    → HasBegunPicture title (setting_of (meaning_of kind).meaning run) events name old new
drawn_as k kind title run events name old new is begun =
    subst (λ (x : BoxKind). HasBegunPicture title (setting_of (meaning_of x).meaning run) events name old new) (sym is)
    begun
