-- Which worlds a recovering system stands for: a record for each of its parts.
use Rattle.std.specs.Prelude.{◌≡◌, ℕ, ◌+◌, ◌-◌, ◌≤◌, ◌<◌, ◌⊎◌, ◌↔◌, List, [], ◌∷◌, ◌++◌, length, take, drop, slice_get}
use Rattle.std.specs.Prelude.{slice_index, slice_index_or, Option, Some, None}
use Rattle.drawn_words.specs.Drawn.{drawn_after}
use Rattle.entry_order.specs.Log.{Entry, entries, IsIn}
use Rattle.entry_order.specs.Stamps.{IsStamp, IsOutputStamp}
use Rattle.access_log.specs.declared.entry.StampedEntry.{StampedEntry}
use Rattle.access_log.specs.declared.entry.Output.{Output}
use Rattle.access_log.specs.Held.{Lane, lane, IsKnown}
use Rattle.dup_filter.specs.Numbers.{Numbers, WasMarked}
use Rattle.link_store.specs.declared.address.Address.{Address}
use Rattle.link_store.specs.Links.{frame_at}
use Rattle.plain_machine.specs.Program.{Meaning}
use Rattle.plain_machine.specs.History.{Step, log_of, sent_of, outputs}
use Rattle.plain_machine.specs.Agree.{SendsAfter}
use Rattle.snapshot_store.specs.FromMasterCore.{Counts}
use Rattle.snapshot_store.specs.FromMasterCore.{Stands}
use Rattle.snapshot_store.specs.Stored.{Snapshot, Snapshots}
use Rattle.snapshot_store.specs.FromMasterCore.{plain_entry, emission_of_output}
use Rattle.snapshot_store.specs.FromMasterCore.{held_entries, HoldsOf}
use Rattle.output_logger.specs.Logger.{Logger}
use Rattle.replay_guide.specs.Worlds.{Guides}
use Rattle.recovery_world.specs.World.{Setting, Sent, Ended as EndedEpoch, World}
use Rattle.recovery_world.specs.Events.{HasNumber, IsAmong, entries_of_line}
use Rattle.recovery_world.specs.Limits.{IsWithin}
use Rattle.recovery_world.specs.Files.{moves_made, sent_names}
use Rattle.replay_guide.specs.FromRecoveryLaws.{Sound}
use Rattle.link_store.specs.Sending.{Sending, lengths_of, length_at, entry_size, output_size, entry_address}
use Rattle.link_store.specs.Sending.{output_address, HasEntryFrame, HasOutputFrame}
use Rattle.system_parts.specs.Parts.{Parts}

-- the same program, threads and unit, and the same packets, of which the first are fed
pub record HasInputs {P V : Type 0} (m : Meaning V) (s : Setting V) (w : World V) (y : Parts P V) : Type 0 where
  pub meaning : s.meaning ≡ m
  pub fractions : s.fractions ≡ y.fractions
  pub inputs : y.inputs ≡ record { threads = s.threads; tags = s.tags; packets = take w.fed s.packets }
  pub left : y.left ≡ drop w.fed s.packets
  pub clock : y.clock ≡ w.clock
  pub generator : y.generator ≡ drawn_after s.seed w.drawn

-- The master, also one that is down, is where the machine is after the past, which has no more moves than all masters
-- made.
pub record HasMaster {P V : Type 0} (s : Setting V) (w : World V) (y : Parts P V) : Type 0 where
  pub up : y.up ≡ w.up
  pub stands : Stands s.meaning s.threads w.past y.master
  pub schedule : y.schedule ≡ moves_made w.past
  pub past : length w.past ≤ w.moves
  pub moves : y.moves ≡ w.moves
  pub bytes : y.bytes ≡ w.bytes

-- The frame of an entry was sent, with its stamp, and is on the links unless the entry is held or covered.
pub record IsSentEntry (log : List Entry) (held : List Lane) (sent : Sending) (e : Entry) : Type 0 where
  pub stamped : StampedEntry
  pub plain : plain_entry stamped ≡ e
  pub stamp : IsStamp log e (λ u. slice_index stamped.stamp u)
  pub size : length_at sent.entries e.thread e.number ≡ Some (entry_size stamped)
  pub there :
      HasEntryFrame sent stamped
      ⊎ ((frame_at sent.frames (entry_address sent e.thread e.number) ≡ None) × IsKnown (lane held e.thread) e.number)

-- The frame of an output was sent, with the stamp of its predecessors, and is on the links unless the output was
-- released.
pub record IsSentOutput (log : List Entry) (released : List Numbers) (sent : Sending) (o : Sent) : Type 0 where
  pub stamped : Output
  pub plain : emission_of_output stamped ≡ o.emission
  pub stamp : IsOutputStamp log o.emission.thread o.after (λ u. slice_index stamped.stamp u)
  pub size : length_at sent.outputs o.emission.thread o.emission.number ≡ Some (output_size stamped)
  pub there : HasOutputFrame sent stamped
      ⊎ ((frame_at sent.frames (output_address sent o.emission.thread o.emission.number) ≡ None)
      × WasMarked released o.emission.thread o.emission.number)

-- The frames of all that the past made were sent in this epoch, and none in a later one.
pub record HasSent {V : Type 0} (now : ℕ) (past : List (Step V)) (held : List Lane) (released : List Numbers)
    (sent : Sending) : Type 0 where
  pub epoch : sent.epoch ≡ now
  pub entry_sent : (e : Entry) → IsIn e (log_of past) → IsSentEntry (log_of past) held sent e
  pub output_sent : (o : Sent) → SendsAfter past o.emission o.after → IsSentOutput (log_of past) released sent o
  pub entry_counts : (t : ℕ) → length (lengths_of sent.entries t) ≡ entries t (log_of past)
  pub output_counts : (t : ℕ) → length (lengths_of sent.outputs t) ≡ outputs t (sent_of past)
  pub none_later : (a : Address) → now < a.epoch → frame_at sent.frames a ≡ None

-- The snapshot is that of a moment of the past: its master is where the machine was then.
pub record IsSnapshot {V : Type 0} (s : Setting V) (moment : List (Step V)) (snap : Snapshot V) : Type 0 where
  pub stands : Stands s.meaning s.threads moment snap.master
  pub moves_are : snap.moves ≡ length moment

-- the stored snapshot, and the one that is under way, if there is one
pub record HasSnapshots {V : Type 0} (s : Setting V) (stored : List (Step V)) (copy : Option (List (Step V)))
    (store : Snapshots V) : Type 0 where
  pub first : IsSnapshot s stored store.stored
  pub copied : (moment : List (Step V)) → copy ≡ Some moment
      → (x : Snapshot V) × (store.copy ≡ Some x) × IsSnapshot s moment x
  pub none : copy ≡ None → store.copy ≡ None

-- how much each thread did until the end of an epoch
pub record AreCounts (threads : ℕ) (x : EndedEpoch) (counts : List Counts) : Type 0 where
  pub long : length counts ≡ threads
  pub each : (t : ℕ) (c : Counts) → slice_get counts t ≡ Some c → (c.entries ≡ x.entries t) × (c.outputs ≡ x.outputs t)

-- The earlier epochs, before the one of this number: in the world the newest first, in memory the oldest.
pub record HasEnded (threads now : ℕ) (epochs : List EndedEpoch) (ended : List (List Counts)) : Type 0 where
  pub all : length epochs + 1 ≡ now
  pub there : length ended ≡ length epochs
  pub each : (epoch : ℕ) (x : EndedEpoch) → 1 ≤ epoch → epoch < now → slice_get epochs (now - epoch - 1) ≡ Some x
      → AreCounts threads x (slice_index_or ended (epoch - 1) [])

-- The guide has just the followed entries that the past had not made when it began, each with its stamp among the
-- entries of the line.
pub record HasGuide {V : Type 0} (followed : List Entry) (past : List (Step V)) (guide : List Lane) : Type 0 where
  pub follows : Guides followed (log_of past) guide
  pub only : (e : Entry) → IsIn e (held_entries guide) → IsIn e followed
  pub began : List Entry
  pub holds : HoldsOf (followed ++ log_of past) began guide

-- each output of the one list is that of the other, with the stamp of its predecessors
abbrev pub AreOutputs : List Entry → List Output → List Sent → Type 0
AreOutputs log [] [] = Unit {0}
AreOutputs log [] (o ∷ sent) = ⊥
AreOutputs log (x ∷ stamped) [] = ⊥
AreOutputs log (x ∷ stamped) (o ∷ sent) =
    (emission_of_output x ≡ o.emission)
    × IsOutputStamp log o.emission.thread o.after (λ u. slice_index x.stamp u)
    × AreOutputs log stamped sent

-- The output logger holds what the world holds and has not stored, with the stamps among the entries of the line, has
-- the same outputs waiting, and noted those released.
pub record HasLogger {V : Type 0} (w : World V) (l : Logger) : Type 0 where
  pub epoch : l.epoch ≡ w.epoch
  pub holds : HoldsOf (entries_of_line w) (log_of w.stored) l.held
  pub held : (e : Entry) → IsIn e (held_entries l.held) ↔ (IsIn e w.held × (IsIn e (log_of w.stored) → ⊥))
  pub waiting : AreOutputs (log_of w.past) l.waiting w.waiting
  pub released : (t n : ℕ) → WasMarked l.released t n ↔ ((o : Sent) × HasNumber t n o × IsAmong o w.released)

-- The thread and number of each released output are noted, in order.
abbrev pub NotesNames : {P V : Type 0} → World V → Parts P V → Type 0
NotesNames w y = y.released ≡ sent_names w.released

-- The system stands for the world, which is sound and within the limits.
pub record StandsFor {P V : Type 0} (m : Meaning V) (s : Setting V) (w : World V) (y : Parts P V) : Type 0 where
  pub sound : Sound s w
  pub within : IsWithin w
  pub inputs : HasInputs m s w y
  pub master : HasMaster s w y
  pub snapshots : HasSnapshots s w.stored w.copy y.store
  pub ended : HasEnded s.threads w.epoch w.ended y.ended
  pub guide : HasGuide w.followed w.past y.guide
  pub sent : HasSent w.epoch w.past y.logger.held y.logger.released y.sent
  pub logger : HasLogger w y.logger
  pub released : NotesNames w y

-- It stands for some world.
abbrev pub StandsForSome : {P V : Type 0} → Meaning V → Parts P V → Type 0
StandsForSome {P} {V} m y = (s : Setting V) × (w : World V) × StandsFor m s w y
