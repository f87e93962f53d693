-- What the workers of a race left, by thread.
use Rattle.std.proofs.Common.{◌≡◌, ℕ, zero, suc, ◌+◌, ◌<◌, inl, inr, List, [], ◌∷◌, length, map, refl, sym, ap, ◌∙◌}
use Rattle.std.proofs.Common.{subst}
use Rattle.std.proofs.Common.{arith, Result, Ok}
use Rattle.std.specs.Prelude.{slice_index_or, IfOk}
use Rattle.plain_text.specs.declared.packet.Packet.{Packet}
use Rattle.access_log.specs.Held.{Lane}
use Rattle.plain_machine.specs.Program.{Meaning}
use Rattle.master_core.specs.declared.parts.ThreadPart.{ThreadPart}
use Rattle.atomic_table.specs.Seated.{TableId}
use Rattle.var_locks.specs.Seats.{Seated}
use Rattle.var_locks.specs.Closing.{AreSeats}
use Rattle.round_events.specs.Blocked.{IsSeatAmong}
use Rattle.round_join.specs.Working.{AllWork}
use Rattle.live_workers.specs.Working.{Given, Course, HasEnded}
use Rattle.live_workers.specs.Racing.{AllAnswered, AllEnded, seat_of, moves_of}

-- an item of a mapped list
pub map_at : {A B : Type 0} (f : A → B) (xs : List A) (t : ℕ) (d : A)
    → slice_index_or (map f xs) t (f d) ≡ f (slice_index_or xs t d)
map_at f [] t d = refl
map_at f (x ∷ xs) zero d = refl
map_at f (x ∷ xs) (suc t) d = map_at f xs t d

-- one that is there, whatever stands for those that are not
pub map_in : {A B : Type 0} (f : A → B) (xs : List A) (t : ℕ) (b : B) (d : A) → t < length xs
    → slice_index_or (map f xs) t b ≡ f (slice_index_or xs t d)
map_in f [] t b d low = absurd (omega (arith, low))
map_in f (x ∷ xs) zero b d low = refl
map_in f (x ∷ xs) (suc t) b d low = map_in f xs t b d (omega (arith, low))

pub map_count : {A B : Type 0} (f : A → B) (xs : List A) → length (map f xs) ≡ length xs
map_count f [] = refl
map_count f (x ∷ xs) = ap suc (map_count f xs)

module _ {V : Type 0} (m : Meaning V) (guide : List Lane) (inputs : ℕ → List Packet) (may : ℕ → Type 0) (most : ℕ) where
  pub all_work : (workers : List (Given V)) (courses : List (Course V))
      → AllEnded m guide inputs may most workers courses
      → AllWork m guide inputs (map (λ w. w.seat.part) workers) (map seat_of courses) (map moves_of courses)
  all_work [] [] ended = tt
  all_work [] (c ∷ courses) ended = absurd ended
  all_work (w ∷ workers) [] ended = absurd ended
  all_work (w ∷ workers) (c ∷ courses) (one, rest) = (one.come.works, all_work workers courses rest)

  pub ended_count : (workers : List (Given V)) (courses : List (Course V))
      → AllEnded m guide inputs may most workers courses → length courses ≡ length workers
  ended_count [] [] ended = refl
  ended_count [] (c ∷ courses) ended = absurd ended
  ended_count (w ∷ workers) [] ended = absurd ended
  ended_count (w ∷ workers) (c ∷ courses) (one, rest) = ap suc (ended_count workers courses rest)

  pub ended_at : (workers : List (Given V)) (courses : List (Course V))
      → AllEnded m guide inputs may most workers courses → (t : ℕ) (d : Given V) (e : Course V) → t < length workers
      → HasEnded m guide inputs may most (slice_index_or workers t d) (slice_index_or courses t e)
  ended_at [] [] ended t d e low = absurd (omega (arith, low))
  ended_at [] (c ∷ courses) ended t d e low = absurd ended
  ended_at (w ∷ workers) [] ended t d e low = absurd ended
  ended_at (w ∷ workers) (c ∷ courses) (one, rest) zero d e low = one
  ended_at (w ∷ workers) (c ∷ courses) (one, rest) (suc t) d e low =
      ended_at workers courses rest t d e (omega (arith, low))

  -- from what each of them came to
  pub all_ended : (workers : List (Given V)) (courses : List (Course V)) → length courses ≡ length workers
      → ((t : ℕ) (d : Given V) (e : Course V) → t < length workers
      → HasEnded m guide inputs may most (slice_index_or workers t d) (slice_index_or courses t e))
      → AllEnded m guide inputs may most workers courses
  all_ended [] [] count each = tt
  all_ended [] (c ∷ courses) count each = absurd (omega (arith, count))
  all_ended (w ∷ workers) [] count each = absurd (omega (arith, count))
  all_ended (w ∷ workers) (c ∷ courses) count each = (
    each 0 w c (omega arith),
    all_ended workers courses (omega (arith, count)) (λ t d e low. each (suc t) d e (omega (arith, low))),
  )

-- the seats of a round by their numbers
pub seat_at : {V : Type 0} (round : TableId) (from : ℕ) (seats : List (Seated V)) (t : ℕ) (d : Seated V)
    → AreSeats round from seats → t < length seats → (slice_index_or seats t d).thread ≡ from + t
seat_at round from [] t d are low = absurd (omega (arith, low))
seat_at round from (x ∷ seats) zero d are low = let first = are.0 in omega (arith, first)
seat_at round from (x ∷ seats) (suc t) d are low =
    let next = seat_at round (from + 1) seats t d are.3 (omega (arith, low)) in omega (arith, next)

pub seat_among : {V : Type 0} (seats : List (Seated V)) (t : ℕ) (d : Seated V) → t < length seats
    → IsSeatAmong (slice_index_or seats t d) seats
seat_among [] t d low = absurd (omega (arith, low))
seat_among (x ∷ seats) zero d low = inl refl
seat_among (x ∷ seats) (suc t) d low = inr (seat_among seats t d (omega (arith, low)))

-- from what each call answered
pub ended_from : {V E : Type 0} (m : Meaning V) (guide : List Lane) (inputs : ℕ → List Packet) (may : ℕ → Type 0)
    (most : ℕ) (workers : List (Given V)) (results : List (Result (Course V) E)) (courses : List (Course V))
    → results ≡ map Ok courses → AllAnswered m guide inputs may most workers results
    → AllEnded m guide inputs may most workers courses
ended_from {V} {E} m guide inputs may most workers results courses are answered =
    let all : length courses ≡ length workers =
    sym (map_count (λ (c : Course V). let r : Result (Course V) E = Ok c in r) courses)
    ∙ sym (ap (λ (l : List (Result (Course V) E)). length l) are) ∙ answered.count in
    all_ended m guide inputs may most workers courses all (λ t d e low.
    let at : slice_index_or results t (Ok e) ≡ Ok (slice_index_or courses t e) =
    ap (λ (l : List (Result (Course V) E)). slice_index_or l t (Ok e)) are
    ∙ map_at (λ (c : Course V). let r : Result (Course V) E = Ok c in r) courses t e in
    subst
    (λ (r : Result (Course V) E). IfOk r (λ end. HasEnded m guide inputs may most (slice_index_or workers t d) end)) at
    (answered.each t d (Ok e) low))
