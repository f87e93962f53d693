-- What may be written: an entry, or an output, that has a frame.
use Rattle.std.specs.Prelude.{◌≡◌, ℕ, ◌<◌, ◌≤◌, List, length, slice_index}
use Rattle.plain_text.specs.declared.limit.TheConstants.{MOST_CAPTURED}
use Rattle.access_log.specs.FromEntryOrder.{What}
use Rattle.access_log.specs.FromEntryOrder.{Access, Read, Clock, Draw}
use Rattle.access_log.specs.declared.entry.StampedEntry.{StampedEntry}
use Rattle.access_log.specs.declared.entry.Output.{Output}

-- from 1 where a number counts from 1, and no component of a thread that is not there
pub record CanSend (epoch threads thread number : ℕ) (stamp : List ℕ) : Type 0 where
  pub epoch_from : 1 ≤ epoch
  pub threads_from : 1 ≤ threads
  pub threads_to : threads ≤ 16
  pub of_these : thread < threads
  pub number_from : 1 ≤ number
  pub none : (u : ℕ) → threads ≤ u → slice_index stamp u ≡ 0

abbrev pub CanTell : What → Type 0
CanTell (Access var place) = (var < 256) × (1 ≤ place)
CanTell (Read var after) = var < 256
CanTell (Clock value) = Unit {0}
CanTell (Draw value) = Unit {0}

-- the entry, or the output, has a frame
pub record CanPutEntry (epoch threads : ℕ) (e : StampedEntry) : Type 0 where
  pub sent : CanSend epoch threads e.thread e.number e.stamp
  pub what : CanTell e.what

pub record CanPutOutput (epoch threads : ℕ) (o : Output) : Type 0 where
  pub sent : CanSend epoch threads o.thread o.number o.stamp
  pub input : 1 ≤ o.input
  pub captured : length o.packet.bytes ≤ MOST_CAPTURED
