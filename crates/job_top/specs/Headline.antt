-- What a run that is done promises, of the files that it leaves.
use Rattle.std.specs.Prelude.{◌≡◌, ℕ, List, ◌++◌, Option, Some, Ok}
use Rattle.pcap_io.specs.Capture.{written}
use Rattle.entry_order.specs.Log.{Entry}
use Rattle.entry_order.specs.Closed.{IsFirstMissing}
use Rattle.plain_machine.specs.declared.plain_move.PlainMove.{PlainMove}
use Rattle.plain_machine.specs.History.{Step, log_of, play}
use Rattle.plain_player.specs.ScheduleText.{schedule_text}
use Rattle.world_io.specs.World.{Shown}
use Rattle.recovery_world.specs.declared.event.Event.{Event}
use Rattle.recovery_world.specs.World.{Setting, Sent, World as SystemWorld, opening, all_inputs}
use Rattle.plain_text.specs.declared.packet.Packet.{Packet}
use Rattle.handover.specs.declared.image.Image.{Image}
use Rattle.handover_seal.specs.Seals.{IsOfSeal, seal_after}
use Rattle.handover_world.specs.Faults.{HasNoFault}
use Rattle.input_files.specs.Answers.{SaysImage}
use Rattle.hand_command.specs.Hand.{IsHandedOver, handed_text, resting}
use Rattle.recovery_world.specs.Events.{IsAmong}
use Rattle.recovery_world.specs.Files.{Performs, packets_of}
use Rattle.recovery_laws.specs.Ends.{Ends}
use Rattle.run_writes.specs.Run.{OutputNames}

-- The written schedule, played by the plain machine on the captured packets, is a legal crash-free run. It performs
-- every log entry that is held with all its predecessors, in its recorded place and with its recorded value; it sends
-- out every packet that was released, and each was released once; and an output that arrived waits only while a named
-- log entry is missing, after each of the events.
pub record KeepsPromise {V : Type 0} (s : Setting V) (names : OutputNames) (events : List Event)
    (new : Shown) : Type 0 where
  -- the world to which the events lead
  pub world : SystemWorld V
  pub lines : List ℕ
  pub performs : Performs s (opening V) events lines world
  -- the written files
  pub schedule : List PlainMove
  pub schedule_written : new.names names.schedule ≡ Some (schedule_text schedule)
  pub released_written : new.names names.released ≡ Some (written s.fractions (packets_of world.released))
  -- the run that the schedule is
  pub steps : List (Step V)
  pub plays : play s.meaning (all_inputs s) s.threads schedule ≡ Ok steps
  pub ends : Ends s world steps
  -- what waits after each first part of the events
  pub waits_always : (first rest : List Event) → events ≡ first ++ rest → (early : List ℕ) (w : SystemWorld V)
      → Performs s (opening V) first early w → (o : Sent) → IsAmong o w.waiting
      → (e : Entry) × IsFirstMissing (log_of w.past) (log_of w.stored) w.held o.emission.thread o.after e

-- who reads a text of a handover accepts it as that of this image: neither its size nor its lines pass a limit
abbrev pub IsTakenAs : List ℕ → Image → Type 0
IsTakenAs text image = SaysImage text (Ok (record { text = text; image = image }))

-- The events and four more lead to a world with nothing on the way. What it released is written, and the text of its
-- image, with the seal of the box and of the packets that were fed where the box is sealed. Who reads the text accepts
-- it, and the image has no fault: a new system can go on from there.
pub record KeepsHanded {V : Type 0} (seal : Option (List ℕ)) (s : Setting V) (names : OutputNames) (events : List Event)
    (new : Shown) : Type 0 where
  pub world : SystemWorld V
  pub lines : List ℕ
  pub performs : Performs s (opening V) (events ++ resting) lines world
  pub image : Image
  pub handed : IsHandedOver s world image
  pub is_accepted : IsTakenAs (handed_text seal s image) image
  pub is_sealed : IsOfSeal (seal_after seal s.fractions s.packets image.fed) (handed_text seal s image)
  pub no_fault : HasNoFault s image
  -- the written files: the text of the handover stands where a run has its schedule
  pub handover_written : new.names names.schedule ≡ Some (handed_text seal s image)
  pub released_written : new.names names.released ≡ Some (written s.fractions (packets_of world.released))

-- The promise of a run that goes on from this world: as that of a run, and the written packets are those that are
-- released behind what was released before. The schedule is that of the whole run, from its first move.
pub record KeepsPromiseFrom {V : Type 0} (s : Setting V) (from : SystemWorld V) (names : OutputNames)
    (events : List Event) (new : Shown) : Type 0 where
  pub world : SystemWorld V
  pub lines : List ℕ
  pub performs : Performs s from events lines world
  -- the written files
  pub schedule : List PlainMove
  pub schedule_written : new.names names.schedule ≡ Some (schedule_text schedule)
  pub released : List Packet
  pub released_behind : packets_of world.released ≡ packets_of from.released ++ released
  pub released_written : new.names names.released ≡ Some (written s.fractions released)
  -- the run that the schedule is
  pub steps : List (Step V)
  pub plays : play s.meaning (all_inputs s) s.threads schedule ≡ Ok steps
  pub ends : Ends s world steps
  -- what waits after each first part of the events
  pub waits_always : (first rest : List Event) → events ≡ first ++ rest → (early : List ℕ) (w : SystemWorld V)
      → Performs s from first early w → (o : Sent) → IsAmong o w.waiting
      → (e : Entry) × IsFirstMissing (log_of w.past) (log_of w.stored) w.held o.emission.thread o.after e
