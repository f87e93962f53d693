-- What gathering and writing lines came to.
use Rattle.std.specs.Prelude.{◌≡◌, ℕ, List, [], ◌∷◌, ◌++◌, Result, Ok, Err}
use Rattle.world_io.specs.World.{Shown}
use Rattle.recovery_world.specs.declared.event.Event.{Event}
use Rattle.recovery_world.specs.World.{Setting, Sent, World as SystemWorld}
use Rattle.recovery_world.specs.declared.event.Outcome.{Outcome}
use Rattle.recovery_world.specs.Files.{reply_line}
use Rattle.recovery_world.specs.Many.{OnAny}
use Rattle.run_writes.specs.declared.error.RunError.{RunError}
use Rattle.run_writes.specs.Replies.{newly_released}
use Rattle.live_writes.specs.Outputs.{LiveOutputs}
use Rattle.live_writes.specs.Script.{Scripted}
use Rattle.live_writes.specs.Told.{HasTold, HasBegunLive, FailsLive}

-- Lines that were gathered are written; after an error a first part of them.
abbrev pub Keeps : {A E V : Type 0} → Result A E → Setting V → LiveOutputs → List Event → List Event → SystemWorld V
    → List ℕ → Scripted → Shown → Shown → Type 0
Keeps (Ok done) s names events scripted w lines x old now = HasTold s names events scripted w lines x old now
Keeps (Err error) s names events scripted w lines x old now = HasBegunLive s names scripted old now

-- The script's line of one more event is gathered; or it would pass a limit, and all lines before it are written; or
-- after an error a first part of them.
abbrev pub Adds : {A V : Type 0} → Result A RunError → Setting V → LiveOutputs → List Event → Event → SystemWorld V
    → List ℕ → Scripted → Shown → Shown → Type 0
Adds (Ok done) s names events ev w lines x old now =
    HasTold s names events (events ++ ev ∷ []) w lines x old now
Adds (Err error) s names events ev w lines x old now = FailsLive error s names (events ++ ev ∷ []) old now

-- The event was performed and released nothing, and this is its line of the report.
pub record IsQuiet {V : Type 0} (s : Setting V) (w : SystemWorld V) (ev : Event) (line : List ℕ)
    (next : SystemWorld V) : Type 0 where
  pub to : Outcome
  pub freed : List Sent
  pub on : OnAny s w ev to freed next
  pub line_is : line ≡ reply_line ev to freed
  pub none : newly_released w next ≡ []
