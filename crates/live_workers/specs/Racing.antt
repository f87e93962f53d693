-- A race: workers make the moves of a master's threads beside each other.
use Rattle.std.specs.Prelude.{◌≡◌, ℕ, ◌+◌, ◌<◌, ◌^◌, List, [], ◌∷◌, length, map, Option, slice_index_or}
use Rattle.std.specs.Prelude.{IfOk, Result}
use Rattle.rand_pcg.specs.Lcg.{Lcg}
use Rattle.plain_text.specs.declared.packet.Packet.{Packet}
use Rattle.access_log.specs.Held.{Lane}
use Rattle.plain_machine.specs.Program.{Meaning}
use Rattle.master_core.specs.declared.parts.ThreadPart.{ThreadPart}
use Rattle.master_core.specs.Mastered.{Mastered, moves_made}
use Rattle.atomic_table.specs.Seated.{TableId}
use Rattle.var_locks.specs.Seats.{Seated}
use Rattle.var_locks.specs.Closing.{AreSeats, IsClosed, seat_marks}
use Rattle.round_join.specs.declared.noting.Made.{Made}
use Rattle.live_workers.specs.Moving.{HasInput}
use Rattle.live_workers.specs.Working.{Given, Course, HasEnded}

-- The thread can make so many moves: a packet in hand is its last input.
pub record IsReadyFor (most : ℕ) (packets : List Packet) (part : ThreadPart) : Type 0 where
  pub input : HasInput packets part
  pub room : moves_made part + most < 2 ^ 56

-- all threads can
abbrev pub AreReadyFor : {V : Type 0} → ℕ → (ℕ → List Packet) → Mastered V → Type 0
AreReadyFor most inputs p =
    (t : ℕ) (d : ThreadPart) → t < length p.threads → IsReadyFor most (inputs t) (slice_index_or p.threads t d)

abbrev pub seat_of : {V : Type 0} → Course V → Seated V
seat_of c = c.seat

abbrev pub moves_of : {V : Type 0} → Course V → List Made
moves_of c = c.moves

abbrev pub generator_of : {V : Type 0} → Course V → Lcg
generator_of c = c.generator

-- Workers for these seats and generators, with the most moves that are ordered of each thread.
pub record AreWorkers {V : Type 0} (seats : List (Seated V)) (generators : List Lcg)
    (limits : ℕ → Option ℕ) (workers : List (Given V)) : Type 0 where
  pub seats_are : map (λ w. w.seat) workers ≡ seats
  pub generators_are : map (λ w. w.generator) workers ≡ generators
  pub limits_are : (t : ℕ) (d : Given V) → t < length workers → (slice_index_or workers t d).limit ≡ limits t

-- what is left of workers that came so far, by thread
pub record AreLeftBy {V : Type 0} (courses : List (Course V)) (seats : List (Seated V)) (moves : List (List Made))
    (generators : List Lcg) : Type 0 where
  pub seats_are : seats ≡ map seat_of courses
  pub moves_are : moves ≡ map moves_of courses
  pub generators_are : generators ≡ map generator_of courses

-- each ended the round
abbrev pub AllEnded : {V : Type 0} → Meaning V → List Lane → (ℕ → List Packet) → (ℕ → Type 0) → ℕ → List (Given V)
    → List (Course V) → Type 0
AllEnded m guide inputs may most [] [] = Unit {0}
AllEnded m guide inputs may most [] (c ∷ courses) = ⊥
AllEnded m guide inputs may most (w ∷ workers) [] = ⊥
AllEnded m guide inputs may most (w ∷ workers) (c ∷ courses) =
    HasEnded m guide inputs may most w c × AllEnded m guide inputs may most workers courses

-- Each call of a worker answered: where it did not run out of memory, its worker ended the round.
pub record AllAnswered {V E : Type 0} (m : Meaning V) (guide : List Lane) (inputs : ℕ → List Packet) (may : ℕ → Type 0)
    (most : ℕ) (workers : List (Given V)) (answers : List (Result (Course V) E)) : Type 0 where
  pub count : length answers ≡ length workers
  pub each : (i : ℕ) (d : Given V) (e : Result (Course V) E) → i < length workers
      → IfOk (slice_index_or answers i e) (λ end. HasEnded m guide inputs may most (slice_index_or workers i d) end)

-- A race from master p to master q: its workers began with the parts of p, with these generators and limits, and each
-- ended, and their seats closed the round.
pub record IsRace {V : Type 0} (m : Meaning V) (fits : ℕ → V → Type 0) (guide : List Lane) (inputs : ℕ → List Packet)
    (may : ℕ → Type 0) (most : ℕ) (limits : ℕ → Option ℕ) (p : Mastered V) (before : List Lcg) (q : Mastered V)
    (marks : List (List (Option ℕ))) (moves : List (List Made)) (after : List Lcg) : Type 0 where
  pub round : TableId
  pub workers : List (Given V)
  pub courses : List (Course V)
  pub parts : map (λ w. w.seat.part) workers ≡ p.threads
  pub begin : map (λ w. w.generator) workers ≡ before
  pub limits_are : (t : ℕ) (d : Given V) → t < length workers → (slice_index_or workers t d).limit ≡ limits t
  pub ended : AllEnded m guide inputs may most workers courses
  pub closed : IsClosed m fits guide p (map seat_of courses) q
  pub seats_are : AreSeats round 0 (map seat_of courses)
  pub marks_are : marks ≡ map seat_marks (map seat_of courses)
  pub moves_are : moves ≡ map moves_of courses
  pub after_are : after ≡ map generator_of courses
