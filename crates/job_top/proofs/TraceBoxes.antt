-- What a trace of a box begins to write, told of the kind of the box.
use Rattle.std.proofs.Common.{◌≡◌, ℕ, List, Option, ap, ◌∙◌, subst, sym}
use Rattle.box_conf.specs.declared.kind.BoxKind.{BoxKind}
use Rattle.box_conf.specs.Kinds.{meaning_of, drop_register}
use Rattle.world_io.specs.World.{Shown}
use Rattle.recovery_world.specs.declared.event.Event.{Event}
use Rattle.run_writes.specs.declared.opening.ScriptRun.{ScriptRun}
use Rattle.run_writes.specs.Run.{setting_of}
use Rattle.noted_runs.specs.Trace.{HasBegunTrace}

pub begun_as : (k kind : BoxKind) (run : ScriptRun) (events : List Event) (name : List ℕ) (old new : Shown)
    (register : Option ℕ) → kind ≡ k → register ≡ drop_register kind
    → HasBegunTrace register (setting_of (meaning_of k).meaning run) events name old new
    → HasBegunTrace (drop_register kind) (setting_of (meaning_of kind).meaning run) events name old new
begun_as k kind run events name old new register is register_is begun =
    subst
    (λ (x : BoxKind). HasBegunTrace (drop_register x) (setting_of (meaning_of x).meaning run) events name old new)
    (sym is)
    (subst (λ (r : Option ℕ). HasBegunTrace r (setting_of (meaning_of k).meaning run) events name old new)
    (register_is ∙ ap drop_register is) begun)
