-- A system that performs the events of a trace, and what is noted of it at the end.
use Rattle.std.specs.Prelude.{◌≡◌, ℕ, ◌+◌, ◌<◌, ◌++◌, ◌∷◌, List, [], length, Some, slice_get, slice_index_or}
use Rattle.plain_text.specs.declared.limit.Limit.{Limit}
use Rattle.plain_machine.specs.Program.{Meaning}
use Rattle.plain_machine.specs.History.{outputs, sent_of}
use Rattle.recovery_world.specs.declared.event.Event.{Event}
use Rattle.recovery_world.specs.World.{Setting, World as SystemWorld}
use Rattle.recovery_world.specs.Many.{Stops}
use Rattle.recovery_world.specs.Files.{Performs, sent_names}
use Rattle.recovery_world.specs.World.{opening}
use Rattle.recovery_core.specs.declared.lacking.Lacks.{Lacks}
use Rattle.recovery_core.specs.Lacking.{OutputLacks}
use Rattle.recovery_core.specs.Systems.{FinishesAs, SystemStands, Systemed}
use Rattle.recovery_laws.specs.Sound.{Sound}
use Rattle.noted_runs.specs.declared.trace.rows.Departure.{Departure}
use Rattle.noted_runs.specs.declared.trace.running.Gone.{Gone}
use Rattle.noted_runs.specs.declared.trace.running.Seen.{Seen}
use Rattle.noted_runs.specs.Departures.{Departs}
use Rattle.noted_runs.specs.Places.{HasPlaces}

-- The system stands for some world of a setting with this number of threads.
abbrev pub IsSomewhere : {P V : Type 0} → ℕ → Meaning V → Systemed P V → Type 0
IsSomewhere {P} {V} threads m y =
    (s : Setting V) × (w : SystemWorld V) × SystemStands m s w y × (s.threads ≡ threads)

-- The events were performed from the opening, the outputs left so, and the system stands for their world.
pub record HasGone {P V : Type 0} (m : Meaning V) (s : Setting V) (events : List Event) (departures : List Departure)
    (y : Systemed P V) : Type 0 where
  pub world : SystemWorld V
  pub lines : List ℕ
  pub performs : Performs s (opening V) events lines world
  pub departs : Departs s events departures world
  pub stands : SystemStands m s world y

-- An event stopped at this limit.
pub record IsHalted {V : Type 0} (s : Setting V) (events : List Event) (limit : Limit) : Type 0 where
  pub before : List Event
  pub event : Event
  pub after : List Event
  pub events_are : events ≡ before ++ event ∷ after
  pub lines : List ℕ
  pub there : SystemWorld V
  pub performs : Performs s (opening V) before lines there
  pub world : SystemWorld V
  pub stops : Stops s there event limit world

-- The list has what each output of a thread lacks that the master sent out, by its number.
pub record ListsLacks {V : Type 0} (w : SystemWorld V) (t : ℕ) (list : List Lacks) : Type 0 where
  pub long : length list ≡ outputs t (sent_of w.past) + 1
  pub each : (j : ℕ) (lacks : Lacks) → slice_get list j ≡ Some lacks → OutputLacks w t j lacks

-- there is such a list for each thread
pub record HasLacks {V : Type 0} (threads : ℕ) (w : SystemWorld V) (lists : List (List Lacks)) : Type 0 where
  pub count : length lists ≡ threads
  pub each : (t : ℕ) → t < threads → ListsLacks w t (slice_index_or lists t [])

-- What was seen of a world: the places of its released outputs, and what the others lack.
pub record HasSeen {V : Type 0} (threads : ℕ) (w : SystemWorld V) (seen : Seen) : Type 0 where
  pub places : HasPlaces threads (sent_names w.released) seen.places.items
  pub lacks : HasLacks threads w seen.lacks.items

-- The events were all performed, and this was seen and finished.
pub record HasAllGone {V : Type 0} (s : Setting V) (events : List Event) (gone : Gone) : Type 0 where
  pub world : SystemWorld V
  pub lines : List ℕ
  pub performs : Performs s (opening V) events lines world
  pub departs : Departs s events gone.departures world
  pub sound : Sound s world
  pub seen : HasSeen s.threads world gone.seen
  pub finished : FinishesAs s world gone.finished
