-- What the events of a script leave, one by one: the packets that each released, and its line of the report.
use Rattle.std.specs.Prelude.{ℕ, List, [], ◌∷◌, ◌++◌, drop, length, map}
use Rattle.std.specs.List.{flat_map}
use Rattle.plain_text.specs.declared.packet.Packet.{Packet}
use Rattle.access_log.specs.declared.entry.Output.{Output}
use Rattle.recovery_world.specs.declared.event.Event.{Event}
use Rattle.recovery_world.specs.declared.event.Outcome.{Outcome}
use Rattle.recovery_world.specs.World.{Setting, Sent, World as SystemWorld, opening}
use Rattle.recovery_world.specs.Many.{OnAny}
use Rattle.recovery_world.specs.Files.{reply_line, packets_of}

-- the packets of outputs
abbrev pub packets_in : List Output → List Packet
packets_in outputs = map (λ (o : Output). o.packet) outputs

-- what an event released, in order of release, and its line of the report, as bytes
pub record Reply : Type 0 where
  pub released : List Packet
  pub line : List ℕ

-- the packets that were released on the way from one world to a later one
abbrev pub newly_released : {V : Type 0} → SystemWorld V → SystemWorld V → List Packet
newly_released w new = packets_of (drop (length w.released) new.released)

-- The events, performed in order from this world, leave these replies, one each, and lead to that world.
pub data AnswersFrom {V : Type 0} (s : Setting V) (from : SystemWorld V)
    : List Event → List Reply → SystemWorld V → Type 0 where
  Opens : AnswersFrom s from [] [] from
  Goes : {events : List Event} {replies : List Reply} {w new : SystemWorld V} (ev : Event) (to : Outcome)
      (freed : List Sent) → AnswersFrom s from events replies w → OnAny s w ev to freed new
      → AnswersFrom s from (events ++ ev ∷ [])
      (replies ++ (record { released = newly_released w new; line = reply_line ev to freed }) ∷ []) new

-- those of a script begin at the opening
abbrev pub Answers : {V : Type 0} → Setting V → List Event → List Reply → SystemWorld V → Type 0
Answers {V} s events replies w = AnswersFrom s (opening V) events replies w

-- a point from which a run goes on: the world there, and what was left on the way to it and is written with the rest
pub record Point (V : Type 0) : Type 0 where
  pub world : SystemWorld V
  pub replies : List Reply

-- the point at this world, with nothing left before
abbrev pub at_world : {V : Type 0} → SystemWorld V → Point V
at_world w = record { world = w; replies = [] }

-- where a script begins
abbrev pub beginning : (V : Type 0) → Point V
beginning V = at_world (opening V)

abbrev pub released_in : List Reply → List Packet
released_in replies = flat_map (λ (r : Reply). r.released) replies

abbrev pub lines_in : List Reply → List ℕ
lines_in replies = flat_map (λ (r : Reply). r.line) replies
