-- What a worker of a round is given, where it is in the course of its thread's moves, and what it leaves.
use Rattle.std.specs.Prelude.{◌≡◌, ◌⊎◌, ℕ, ◌+◌, ◌<◌, ◌≤◌, ◌^◌, false, true, List, [], length, Option, Some}
use Rattle.rand_pcg.specs.Lcg.{Lcg}
use Rattle.plain_text.specs.declared.packet.Packet.{Packet}
use Rattle.access_log.specs.Held.{Lane}
use Rattle.plain_machine.specs.Program.{Meaning}
use Rattle.master_core.specs.Mastered.{moves_made}
use Rattle.var_locks.specs.declared.view.MissedEntry.{MissedEntry}
use Rattle.var_locks.specs.Rounds.{Opened}
use Rattle.var_locks.specs.Seats.{Seated, IsSeatOf}
use Rattle.round_events.specs.Blocked.{IsStuck}
use Rattle.round_join.specs.declared.noting.Made.{Made}
use Rattle.round_join.specs.Working.{Works}
use Rattle.live_workers.specs.Telling.{AreTold}
use Rattle.live_workers.specs.Moving.{HasInput, IsAtRest}

-- What a worker is given: the seat of its thread, which did nothing yet, the thread's generator, and how many moves it
-- makes at most, where there is such an order.
pub record Given (V : Type 0) : Type 0 where
  pub seat : Seated V
  pub generator : Lcg
  pub limit : Option ℕ

-- what it has in the course of the round, and at the end: the seat, what its thread did, newest first, and the generator
pub record Course (V : Type 0) : Type 0 where
  pub seat : Seated V
  pub moves : List Made
  pub generator : Lcg

-- how a worker begins
abbrev pub course_of : {V : Type 0} → Given V → Course V
course_of given =
    record { seat = given.seat; moves = []; generator = given.generator }

-- The worker of this seat came so far: what its thread did, and what it was told.
pub record HasCome {V : Type 0} (m : Meaning V) (guide : List Lane) (inputs : ℕ → List Packet) (may : ℕ → Type 0)
    (given : Given V) (now : Course V) : Type 0 where
  pub thread : now.seat.thread ≡ given.seat.thread
  pub round_is : now.seat.round ≡ given.seat.round
  pub works : Works m guide inputs given.seat.part now.seat now.moves
  pub told : AreTold may guide given.seat.thread now.moves given.generator now.generator

-- It can go on, until it has made so many moves.
pub record MayGoOn {V : Type 0} (inputs : ℕ → List Packet) (most : ℕ) (now : Course V) : Type 0 where
  pub going : now.seat.ended ≡ false
  pub input : HasInput (inputs now.seat.thread) now.seat.part
  pub room : moves_made now.seat.part + most < 2 ^ 56 + length now.moves

-- Why a thread made no more moves: it made as many as it may, or as a round has room for; or it is at rest; or the
-- guide says to wait for an entry that is missing.
abbrev pub WhyEnded : {V : Type 0} → Meaning V → List Lane → (ℕ → List Packet) → ℕ → Option ℕ → Seated V → ℕ → Type 0
WhyEnded m guide inputs most limit x made =
    (limit ≡ Some made)
    ⊎ ((made ≡ most) ⊎ (IsAtRest (inputs x.thread) x.part ⊎ ((e : MissedEntry) × IsStuck m guide x e)))

-- The worker ended the round for its thread.
pub record HasEnded {V : Type 0} (m : Meaning V) (guide : List Lane) (inputs : ℕ → List Packet) (may : ℕ → Type 0)
    (most : ℕ) (given : Given V) (end : Course V) : Type 0 where
  pub come : HasCome m guide inputs may given end
  pub ended : end.seat.ended ≡ true
  pub few : (n : ℕ) → given.limit ≡ Some n → length end.moves ≤ n
  pub why : WhyEnded m guide inputs most given.limit end.seat (length end.moves)

-- The worker is given the fresh seat of a thread of these variables, and room for so many moves.
pub record IsGiven {V : Type 0} (vars : Opened) (inputs : ℕ → List Packet) (most : ℕ) (given : Given V) : Type 0 where
  pub seat : IsSeatOf vars given.seat
  pub none : given.seat.notes ≡ []
  pub may : MayGoOn inputs most (course_of given)

-- What a step of a worker keeps: the seat is of its thread and of its round, which it has not ended.
pub record GoesOn {V : Type 0} (old new : Course V) : Type 0 where
  pub thread : new.seat.thread ≡ old.seat.thread
  pub round_is : new.seat.round ≡ old.seat.round
  pub ended_is : new.seat.ended ≡ false

-- A worker made one more move.
pub record MadeOne {V : Type 0} (inputs : ℕ → List Packet) (old new : Course V) : Type 0 where
  pub count : length new.moves ≡ length old.moves + 1
  pub input : HasInput (inputs new.seat.thread) new.seat.part
  pub grows : moves_made new.seat.part ≤ moves_made old.seat.part + 1

-- It made none: it is at rest, or held up.
pub record MadeNone {V : Type 0} (m : Meaning V) (guide : List Lane) (inputs : ℕ → List Packet)
    (old new : Course V) : Type 0 where
  pub count : new.moves ≡ old.moves
  pub why : IsAtRest (inputs new.seat.thread) new.seat.part ⊎ ((e : MissedEntry) × IsStuck m guide new.seat e)
