-- A round of racing threads in the recovering system: what it began with, and what it came to.
use Rattle.std.specs.Prelude.{◌≡◌, ℕ, ◌+◌, true, cond, nat_eq, List, [], ◌∷◌, ◌++◌, length, map, slice_index_or, Option}
use Rattle.std.specs.Prelude.{None}
use Rattle.plain_text.specs.declared.limit.Limit.{Limit}
use Rattle.input_logger.specs.Inputs.{inputs_of}
use Rattle.access_log.specs.Held.{Lane}
use Rattle.plain_machine.specs.declared.plain_move.PlainMove.{PlainMove}
use Rattle.plain_machine.specs.Program.{Meaning}
use Rattle.plain_machine.specs.History.{Act, Took, Did, Emitted, Ended, Step}
use Rattle.master_core.specs.declared.step.Stepped.{Stepped}
use Rattle.master_core.specs.declared.step.Stepped.TheVariants as stepped
use Rattle.master_core.specs.Stepping.{plain_entry, emission_of_output}
use Rattle.master_core.specs.Mastered.{Mastered}
use Rattle.master_core.specs.MasterStanding.{Stands}
use Rattle.recovery_world.specs.declared.event.Event.{Event}
use Rattle.recovery_world.specs.declared.event.Event.TheVariants as event
use Rattle.recovery_world.specs.World.{Setting, World}
use Rattle.recovery_world.specs.Files.{Performs, answer_of, reply_line}
use Rattle.recovery_world.specs.Limits.{OnWithin, Passes}
use Rattle.plan_script.specs.Rounds.{AreWoven, step_events}
use Rattle.system_parts.specs.Parts.{Parts}
use Rattle.system_parts.specs.Resting.{RestsFor}
use Rattle.atomic_table.specs.Seated.{TableId}
use Rattle.var_locks.specs.declared.view.MissedEntry.{MissedEntry}
use Rattle.var_locks.specs.Seats.{Seated}
use Rattle.var_locks.specs.Closing.{AreSeats, IsClosed, seat_marks}
use Rattle.round_events.specs.Blocked.{IsStuck, IsSeatAmong}
use Rattle.round_events.specs.Waiting.{StepWaits}
use Rattle.round_join.specs.declared.noting.Made.{Made}
use Rattle.round_join.specs.declared.noting.Noted.{Noted}
use Rattle.round_join.specs.Working.{AllWork}
use Rattle.round_join.specs.Drawing.{AreDrawn}
use Rattle.round_join.specs.Noting.{CanSendAll, events_made, Pending}

-- A round in this world, of which y is all but the master. It began with master p and came to master q; its seats have
-- these marks, and did these moves.
pub record Raced {P V : Type 0} (m : Meaning V) (fits : ℕ → V → Type 0) (s : Setting V) (w : World V) (p : Mastered V)
    (round : TableId) (seats : List (Seated V)) (q : Mastered V) (marks : List (List (Option ℕ)))
    (moves : List (List Made)) (y : Parts P V) : Type 0 where
  pub rests : RestsFor m s w y
  pub up : w.up ≡ true
  pub opens : Stands s.meaning s.threads w.past p
  pub closed : IsClosed m fits y.guide p seats q
  pub seats_are : AreSeats round 0 seats
  pub marks_are : marks ≡ map seat_marks seats
  pub works : AllWork m y.guide (inputs_of y.inputs) p.threads seats moves

-- such a round of some world
pub record HasRaced {P V : Type 0} (m : Meaning V) (fits : ℕ → V → Type 0) (marks : List (List (Option ℕ)))
    (moves : List (List Made)) (y : Parts P V) : Type 0 where
  pub s : Setting V
  pub w : World V
  pub p : Mastered V
  pub round : TableId
  pub seats : List (Seated V)
  pub q : Mastered V
  pub raced : Raced m fits s w p round seats q marks moves y

-- The steps of a round beside its moves

-- the step did what the answer shows
abbrev pub IsActOf : {V : Type 0} → Stepped → Act V → Type 0
IsActOf (stepped.Took k) act = act ≡ Took k
IsActOf {V} (stepped.Did e) act = (left : Option V) × (act ≡ Did (plain_entry e) left)
IsActOf (stepped.Emitted o) act = act ≡ Emitted (emission_of_output o)
IsActOf (stepped.Ended k) act = act ≡ Ended k
IsActOf stepped.Idle act = ⊥
IsActOf (stepped.NotTurn u n) act = ⊥
IsActOf stepped.NoMemory act = ⊥

-- the step is the move
pub record IsStepOf {V : Type 0} (x : Made) (step : Step V) : Type 0 where
  pub thread : step.thread ≡ x.thread
  pub answer : answer_of step.act ≡ x.answer
  pub act : IsActOf x.stepped step.act

-- the steps of one thread
abbrev pub steps_by : {V : Type 0} → ℕ → List (Step V) → List (Step V)
steps_by t [] = []
steps_by t (x ∷ earlier) = cond (nat_eq x.thread t) (x ∷ steps_by t earlier) (steps_by t earlier)

-- each step is its move
abbrev pub AreStepsOf : {V : Type 0} → List Made → List (Step V) → Type 0
AreStepsOf [] [] = Unit {0}
AreStepsOf [] (step ∷ earlier) = ⊥
AreStepsOf (x ∷ moves) [] = ⊥
AreStepsOf (x ∷ moves) (step ∷ earlier) = IsStepOf x step × AreStepsOf moves earlier

-- What is noted

abbrev pub event_noted : Noted → Event
event_noted n = event.Step n.thread n.answer

abbrev pub events_noted : List Noted → List Event
events_noted noted = map event_noted noted

-- the lines that say what the events came to
abbrev pub lines_noted : List Noted → List ℕ
lines_noted [] = []
lines_noted (n ∷ noted) = reply_line (event_noted n) n.outcome [] ++ lines_noted noted

-- The events, performed one after another, each come to what is noted of it, and lead to this world.
pub data PerformsNoted {V : Type 0} (s : Setting V) (w : World V) : List Noted → World V → Type 0 where
  NoneNoted : PerformsNoted s w [] w
  OneMore : {noted : List Noted} {mid new : World V} (n : Noted) → PerformsNoted s w noted mid
      → OnWithin s mid (event_noted n) n.outcome [] new → PerformsNoted s w (noted ++ n ∷ []) new

-- So they are performed, and their lines say what they came to.
abbrev pub NotedPerform : Type 0 → Type 0
NotedPerform X =
    (s : Setting X) (w : World X) (noted : List Noted) (new : World X)
    → PerformsNoted s w noted new → Performs s w (events_noted noted) (lines_noted noted) new

-- The world after the steps of a round, newest first: nothing but the master went on.
pub record IsAfterSteps {V : Type 0} (w : World V) (steps : List (Step V)) (there : World V) : Type 0 where
  pub world : there ≡ record w { past = steps ++ w.past; moves = there.moves; bytes = there.bytes }
  pub moves : there.moves ≡ w.moves + length steps

-- The moves of a round in its turns, both newest first: each may be noted in the world after those before it, and so
-- they lead to a world whose steps stand as a plan's round has them. Master q stands for it, and the thread of each
-- seat that was blocked waits there.
pub record IsInOrder {P V : Type 0} (s : Setting V) (w : World V) (seats : List (Seated V)) (q : Mastered V)
    (moves : List (List Made)) (turns : List ℕ) (y : Parts P V) : Type 0 where
  pub drawn : List Made
  pub draws : AreDrawn moves turns drawn
  pub can : CanSendAll y.sent.epoch y.sent.threads drawn
  pub steps : List (Step V)
  pub there : World V
  pub pending : Pending s w drawn there
  pub events_are : events_made drawn ≡ step_events steps
  pub after : IsAfterSteps w steps there
  pub woven : AreWoven w.past steps
  pub each : (t : ℕ) → AreStepsOf (slice_index_or moves t []) (steps_by t steps)
  pub stands : Stands s.meaning s.threads there.past q
  pub stuck : (x : Seated V) (e : MissedEntry) → IsSeatAmong x seats → IsStuck s.meaning y.guide x e
      → StepWaits s there x.thread None

-- What the round came to: steps that stand as a plan's round has them, performed as the events that are noted. The rest
-- stands for the world after them, and master q does; and the thread of each seat that was blocked waits there.
pub record CameTo {P V : Type 0} (m : Meaning V) (s : Setting V) (w : World V) (seats : List (Seated V))
    (q : Mastered V) (moves : List (List Made)) (guide : List Lane) (noted : List Noted) (y : Parts P V) : Type 0 where
  pub steps : List (Step V)
  pub there : World V
  pub performs : PerformsNoted s w noted there
  pub events_are : events_noted noted ≡ step_events steps
  pub after : IsAfterSteps w steps there
  pub woven : AreWoven w.past steps
  pub each : (t : ℕ) → AreStepsOf (slice_index_or moves t []) (steps_by t steps)
  pub rests : RestsFor m s there y
  pub stands : Stands s.meaning s.threads there.past q
  pub stuck : (x : Seated V) (e : MissedEntry) → IsSeatAmong x seats → IsStuck m guide x e
      → StepWaits s there x.thread None

-- Noting these events stopped at a limit: the first of them are noted, and were performed, and the next one, which is
-- this move, would pass the limit.
pub record StoppedAt {V : Type 0} (s : Setting V) (w : World V) (events : List Event) (noted : List Noted)
    (limit : Limit) (next : PlainMove) : Type 0 where
  pub left : List Event
  pub all_are : events_noted noted ++ event.Step next.thread next.answer ∷ left ≡ events
  pub there : World V
  pub performs : PerformsNoted s w noted there
  pub passes : Passes s there (event.Step next.thread next.answer) limit

-- Noting the round stopped at a limit, at an event of its steps, which stand as a plan's round has them.
pub record Stopped {V : Type 0} (s : Setting V) (w : World V) (moves : List (List Made)) (noted : List Noted)
    (limit : Limit) (next : PlainMove) : Type 0 where
  pub steps : List (Step V)
  pub woven : AreWoven w.past steps
  pub each : (t : ℕ) → AreStepsOf (slice_index_or moves t []) (steps_by t steps)
  pub at : StoppedAt s w (step_events steps) noted limit next
