-- What makes an image faulty: counts that can't be, a move that can't be made, an output that the moves do not send
-- out. They are judged in this order, each over the whole image.
use Rattle.std.specs.Prelude.{◌≡◌, ◌≤◌, ◌<◌, ◌⊎◌, ℕ, zero, suc, ◌+◌, ◌-◌, ◌*◌, ◌/◌, ◌%◌, ◌^◌, List, [], ◌∷◌, ◌++◌}
use Rattle.std.specs.Prelude.{length}
use Rattle.std.specs.Prelude.{Option, Some, None, Ok, Err, if◌then◌else◌, ◌&&◌, nat_eq, Contains}
use Rattle.plain_text.specs.declared.limit.TheConstants.{MOST_MOVES, MOST_OUTPUT_BYTES}
use Rattle.plain_machine.specs.declared.plain_move.PlainMove.{PlainMove}
use Rattle.plain_machine.specs.declared.plain_move.PlayCause.{PlayCause}
use Rattle.plain_machine.specs.History.{Step, sent_of, outputs, plain_move, play}
use Rattle.recovery_world.specs.World.{Setting, inputs_fed}
use Rattle.recovery_world.specs.Events.{bytes_sent}
use Rattle.handover.specs.declared.image.Ended.{Ended}
use Rattle.handover.specs.declared.image.Image.{Image}
use Rattle.handover_world.specs.declared.fault.ResumeError.{ResumeError}
use Rattle.handover_world.specs.declared.fault.ResumeError.TheVariants.{Count, Move, Released, NoMemory}

-- how many bytes a history sends out
abbrev pub bytes_of : {V : Type 0} → List (Step V) → ℕ
bytes_of [] = 0
bytes_of (x ∷ earlier) = bytes_of earlier + bytes_sent x.act

-- The moves play to this history, as far as they can be made.
pub record PlaysTo {V : Type 0} (s : Setting V) (image : Image) (steps : List (Step V)) : Type 0 where
  pub made : List PlainMove
  pub rest : List PlainMove
  pub moves_are : image.past ≡ made ++ rest
  pub plays : play s.meaning (inputs_fed s image.fed) s.threads made ≡ Ok steps
  pub stuck : (next : PlainMove) (later : List PlainMove) → rest ≡ next ∷ later
      → (cause : PlayCause) × (plain_move s.meaning (inputs_fed s image.fed) s.threads steps next ≡ Err cause)

-- The counts of the state may be: no more is fed than there is, one recovery at least was, no more words are drawn than
-- moves made, no limit is passed, and the moves and bytes of the list are among those counted.
pub record MayBe {V : Type 0} (s : Setting V) (image : Image) : Type 0 where
  pub fed : image.fed ≤ length s.packets
  pub some_epochs : 2 ≤ image.epoch
  pub few_epochs : image.epoch < 2 ^ 32
  pub draws : image.draws ≤ image.moves
  pub few_moves : image.moves ≤ MOST_MOVES
  pub few_bytes : image.bytes ≤ MOST_OUTPUT_BYTES
  pub moves : length image.past ≤ image.moves
  pub bytes : (steps : List (Step V)) → PlaysTo s image steps → bytes_of steps ≤ image.bytes

-- The first row that is not the next one: behind as many rows as were, of these threads, so many are still to come. The
-- rows go by epoch from 1, and in each by thread.
abbrev pub wrong_row : ℕ → ℕ → ℕ → List Ended → Option ℕ
wrong_row threads before zero [] = None
wrong_row threads before zero (row ∷ rows) = Some (before + 1)
wrong_row threads before (suc more) [] = Some (before + 1)
wrong_row threads before (suc more) (row ∷ rows) =
    if nat_eq row.epoch (before / threads + 1) && nat_eq row.thread (before % threads)
    then wrong_row threads (before + 1) more rows else Some (before + 1)

abbrev pub wrong_row_of : ℕ → Image → Option ℕ
wrong_row_of threads image = wrong_row threads 0 ((image.epoch - 1) * threads) image.ended

-- output j of thread t is one of the history
abbrev pub IsOutputIn : {V : Type 0} → List (Step V) → ℕ × ℕ → Type 0
IsOutputIn steps output = (1 ≤ output.1) × (output.1 ≤ outputs output.0 (sent_of steps))

-- Each of these outputs is one of the history, and none stands twice.
abbrev pub AreReleased : {V : Type 0} → List (Step V) → List (ℕ × ℕ) → Type 0
AreReleased steps released =
    (before rest : List (ℕ × ℕ)) (output : ℕ × ℕ) → released ≡ before ++ output ∷ rest
    → IsOutputIn steps output × (Contains before output → ⊥)

-- the first that is not, by its place from 1
pub record WrongReleased {V : Type 0} (steps : List (Step V)) (outputs : List (ℕ × ℕ)) (place : ℕ) : Type 0 where
  pub before : List (ℕ × ℕ)
  pub output : ℕ × ℕ
  pub rest : List (ℕ × ℕ)
  pub outputs_are : outputs ≡ before ++ output ∷ rest
  pub place_is : place ≡ length before + 1
  pub good : AreReleased steps before
  pub wrong : (IsOutputIn steps output → ⊥) ⊎ Contains before output

-- The image has no fault.
pub record HasNoFault {V : Type 0} (s : Setting V) (image : Image) : Type 0 where
  pub counts : MayBe s image
  pub rows : wrong_row_of s.threads image ≡ None
  pub steps : List (Step V)
  pub plays : play s.meaning (inputs_fed s image.fed) s.threads image.past ≡ Ok steps
  pub released : AreReleased steps image.released

-- The first fault of an image, as an error names it.
abbrev pub IsFault : {V : Type 0} → Setting V → Image → ResumeError → Type 0
IsFault s image (Count zero) = MayBe s image → ⊥
IsFault s image (Count (suc place)) = MayBe s image × (wrong_row_of s.threads image ≡ Some (suc place))
IsFault s image (Move fault) =
    MayBe s image × (wrong_row_of s.threads image ≡ None)
    × (play s.meaning (inputs_fed s image.fed) s.threads image.past ≡ Err fault)
IsFault {V} s image (Released place) =
    MayBe s image
    × (wrong_row_of s.threads image ≡ None)
    × (steps : List (Step V))
    × (play s.meaning (inputs_fed s image.fed) s.threads image.past ≡ Ok steps)
    × WrongReleased steps image.released place
IsFault s image NoMemory = Unit {0}
