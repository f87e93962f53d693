-- The frames of a round, one for each entry and each output, in the order of its steps.
use Rattle.std.specs.Prelude.{ℕ, List, [], ◌∷◌, ◌++◌}
use Rattle.plain_text.specs.declared.kind.Kind.TheVariants as kind
use Rattle.plain_machine.specs.History.{Step}
use Rattle.recovery_world.specs.Many.{Message}
use Rattle.recovery_world.specs.declared.event.Outcome.{Outcome}
use Rattle.recovery_world.specs.declared.event.Outcome.TheVariants as outcome
use Rattle.plan_script.specs.Rounds.{frames_by}
use Rattle.round_join.specs.declared.noting.Noted.{Noted}

-- those of steps, which stand newest first, the oldest frame first
abbrev pub frames_in : {V : Type 0} → List (Step V) → List Message
frames_in [] = []
frames_in (x ∷ earlier) = frames_in earlier ++ frames_by x.act

-- what a move of thread t sent that came to this
abbrev pub frame_for : ℕ → Outcome → List Message
frame_for t (outcome.Touched n v p) = (record { kind = kind.Log; thread = t; number = n }) ∷ []
frame_for t (outcome.Looked n v p) = (record { kind = kind.Log; thread = t; number = n }) ∷ []
frame_for t (outcome.ClockTold n a) = (record { kind = kind.Log; thread = t; number = n }) ∷ []
frame_for t (outcome.Drawn n a) = (record { kind = kind.Log; thread = t; number = n }) ∷ []
frame_for t (outcome.Emitted j) = (record { kind = kind.Out; thread = t; number = j }) ∷ []
frame_for t _ = []

abbrev pub frame_noted : Noted → List Message
frame_noted n = frame_for n.thread n.outcome

-- what moves sent that are noted, in order
abbrev pub frames_noted : List Noted → List Message
frames_noted [] = []
frames_noted (n ∷ noted) = frame_noted n ++ frames_noted noted
