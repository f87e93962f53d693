-- What performing a single event answers, and what it makes of the parts, for each world that they stood for.
use Rattle.std.specs.Prelude.{◌≡◌, List, [], ◌++◌, map}
use Rattle.plain_text.specs.declared.limit.Limit.{Limit}
use Rattle.plain_text.specs.declared.packet.Packet.{Packet}
use Rattle.plain_machine.specs.Program.{Meaning}
use Rattle.access_log.specs.declared.entry.Output.{Output}
use Rattle.recovery_world.specs.declared.event.Event.{Event}
use Rattle.recovery_world.specs.declared.event.Outcome.{Outcome}
use Rattle.recovery_world.specs.World.{Setting, Sent, World}
use Rattle.recovery_world.specs.Limits.{OnWithin, Passes}
use Rattle.recovery_world.specs.Many.{Stops}
use Rattle.recovery_world.specs.Files.{sent_names, packets_of}
use Rattle.event_replies.specs.declared.reply.Reply.{Reply}
use Rattle.system_parts.specs.Parts.{Parts}
use Rattle.system_parts.specs.SystemStanding.{NotesNames, StandsFor}

-- The world moved so, from any that the parts stood for, and they stand for it now.
abbrev pub MovesOn : {P V : Type 0} → Meaning V → (Setting V → World V → World V → Type 0) → Parts P V → Parts P V
    → Type 0
MovesOn {P} {V} m R old new =
    (new.program ≡ old.program)
    × ((s : Setting V) (w : World V) → StandsFor m s w old → (next : World V) × R s w next × StandsFor m s next new)

-- The world stopped so, and what it released before is noted.
abbrev pub StopsAt : {P V : Type 0} → Meaning V → (Setting V → World V → World V → Type 0) → Parts P V → Parts P V
    → Type 0
StopsAt {P} {V} m R old new =
    (s : Setting V) (w : World V) → StandsFor m s w old → (next : World V) × R s w next × NotesNames next new

-- Outputs may have been put behind those of a list.
abbrev pub Appends : List Output → List Output → Type 0
Appends old new = (more : List Output) × (new ≡ old ++ more)

-- the packets of outputs
abbrev pub packets_in : List Output → List Packet
packets_in outputs = map (λ (o : Output). o.packet) outputs

-- What was released from one world to the next was put behind the outputs of a list.
pub record ReleasesInto {V : Type 0} (old new : List Output) (w next : World V) : Type 0 where
  pub freed : List Sent
  pub released : next.released ≡ w.released ++ freed
  pub packets : packets_in new ≡ packets_in old ++ packets_of freed

-- the world moved so, and what it released was put behind the outputs of a list
abbrev pub Releasing : {V : Type 0} → List Output → List Output → (Setting V → World V → World V → Type 0) → Setting V
    → World V → World V → Type 0
Releasing old new R s w next = R s w next × ReleasesInto old new w next

-- a single event with this outcome that releases nothing; and one with this reply
abbrev pub ComesTo : {V : Type 0} → Event → Outcome → Setting V → World V → World V → Type 0
ComesTo ev to s w next = OnWithin s w ev to [] next

abbrev pub Replies : {V : Type 0} → Event → Reply → Setting V → World V → World V → Type 0
Replies ev reply s w next =
    (freed : List Sent) × OnWithin s w ev reply.outcome freed next × (reply.released ≡ sent_names freed)

-- the single event would pass this limit
abbrev pub WouldPass : {V : Type 0} → Event → Limit → Setting V → World V → World V → Type 0
WouldPass ev limit s w next = Passes s w ev limit × (next ≡ w)

-- the event stops at this limit
abbrev pub IsStopped : {V : Type 0} → Event → Limit → Setting V → World V → World V → Type 0
IsStopped ev limit s w next = Stops s w ev limit next
