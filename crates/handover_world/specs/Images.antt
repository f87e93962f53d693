-- The worlds of an image: a whole stored state of a system, with nothing on the way. What the output logger holds is
-- stored there, so it makes no difference and is left out.
use Rattle.std.specs.Prelude.{◌≡◌, ℕ, zero, suc, ◌+◌, true, List, [], ◌∷◌, ◌++◌, length, None}
use Rattle.entry_order.specs.Log.{Entry, IsIn}
use Rattle.plain_machine.specs.History.{log_of}
use Rattle.plain_machine.specs.Agree.{SendsAfter}
use Rattle.recovery_world.specs.World.{Setting, Sent, Ended as EndedEpoch, World}
use Rattle.recovery_world.specs.Events.{IsAmong}
use Rattle.recovery_world.specs.Files.{moves_made, sent_names}
use Rattle.handover.specs.declared.image.Ended.{Ended}
use Rattle.handover.specs.declared.image.Image.{Image}

-- with what this many threads, from thread t on, ended the epoch
abbrev pub rows_of : ℕ → EndedEpoch → ℕ → ℕ → List Ended
rows_of epoch x t zero = []
rows_of epoch x t (suc many) =
    (record { epoch = epoch; thread = t; entries = x.entries t; outputs = x.outputs t }) ∷ rows_of epoch x (t + 1) many

-- with what each thread ended each earlier epoch: of the epochs the newest come first, of the rows the oldest
abbrev pub ended_rows : ℕ → List EndedEpoch → List Ended
ended_rows threads [] = []
ended_rows threads (x ∷ earlier) = ended_rows threads earlier ++ rows_of (length earlier + 1) x 0 threads

-- The image has what the world has.
pub record IsImageOf {V : Type 0} (s : Setting V) (w : World V) (image : Image) : Type 0 where
  pub fed : image.fed ≡ w.fed
  pub clock : image.clock ≡ w.clock
  pub draws : image.draws ≡ w.drawn
  pub epoch : image.epoch ≡ w.epoch
  pub epochs : length w.ended + 1 ≡ w.epoch
  pub moves : image.moves ≡ w.moves
  pub bytes : image.bytes ≡ w.bytes
  pub ended : image.ended ≡ ended_rows s.threads w.ended
  pub released : image.released ≡ sent_names w.released
  pub past : image.past ≡ moves_made w.past

-- Nothing is on the way: the master is up, its past is stored, all that it follows is made and all that is held is
-- stored, no output waits, and its past has sent out all that was released.
pub record IsAtRest {V : Type 0} (w : World V) : Type 0 where
  pub up : w.up ≡ true
  pub stored : w.stored ≡ w.past
  pub copy : w.copy ≡ None
  pub held : (e : Entry) → IsIn e w.held → IsIn e (log_of w.past)
  pub followed : (e : Entry) → IsIn e w.followed → IsIn e (log_of w.past)
  pub waiting : w.waiting ≡ []
  pub sent : (o : Sent) → IsAmong o w.released → SendsAfter w.past o.emission o.after
