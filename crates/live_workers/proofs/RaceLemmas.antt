-- How the workers of a race begin, and what their ends make of a round.
use Rattle.std.proofs.Common.{◌≡◌, ℕ, zero, suc, ◌+◌, ◌<◌, List, [], ◌∷◌, length, map, refl, sym, ap, ◌∙◌, subst, arith}
use Rattle.std.proofs.Common.{false}
use Rattle.std.proofs.Common.{Option}
use Rattle.std.specs.Prelude.{◌^◌, slice_index_or, All}
use Rattle.rand_pcg.specs.Lcg.{Lcg}
use Rattle.plain_text.specs.declared.packet.Packet.{Packet}
use Rattle.access_log.specs.Held.{Lane}
use Rattle.plain_machine.specs.Program.{Meaning}
use Rattle.master_core.specs.declared.parts.ThreadPart.{ThreadPart}
use Rattle.master_core.specs.Mastered.{Mastered, moves_made}
use Rattle.atomic_table.specs.Seated.{TableId}
use Rattle.var_locks.specs.Rounds.{Opened}
use Rattle.var_locks.specs.Seats.{Seated}
use Rattle.var_locks.specs.Openings.{fresh_seat, fresh_seats}
use Rattle.var_locks.specs.Closing.{AreSeats}
use Rattle.live_workers.specs.Moving.{HasInput}
use Rattle.live_workers.specs.Working.{Given, Course, IsGiven}
use Rattle.live_workers.specs.Racing.{AllEnded, AreReadyFor, AreWorkers, seat_of}
use Rattle.live_workers.proofs.EndedWorkers.{map_at, map_count}

-- Fresh seats

pub fresh_count : (V : Type 0) (round : TableId) (places : List ℕ) (t : ℕ) (parts : List ThreadPart)
    → length (fresh_seats {V = V} round places t parts) ≡ length parts
fresh_count V round places t [] = refl
fresh_count V round places t (part ∷ parts) = ap suc (fresh_count V round places (t + 1) parts)

pub fresh_at : {V : Type 0} (round : TableId) (places : List ℕ) (t : ℕ) (parts : List ThreadPart) (k : ℕ)
    (d : Seated V) (none : ThreadPart) → k < length parts
    → slice_index_or (fresh_seats round places t parts) k d
    ≡ fresh_seat round places (t + k) (slice_index_or parts k none)
fresh_at round places t [] k d none low = absurd (omega (arith, low))
fresh_at {V} round places t (part ∷ parts) zero d none low =
    let at : t ≡ t + 0 = omega arith in ap (λ (u : ℕ). let x : Seated V = fresh_seat round places u part in x) at
fresh_at {V} round places t (part ∷ parts) (suc k) d none low =
    let at : t + 1 + k ≡ t + suc k = omega arith in
    fresh_at round places (t + 1) parts k d none (omega (arith, low))
    ∙ ap (λ (u : ℕ). let x : Seated V = fresh_seat round places u (slice_index_or parts k none) in x) at

fresh_parts : (V : Type 0) (round : TableId) (places : List ℕ) (t : ℕ) (parts : List ThreadPart)
    → map (λ (x : Seated V). x.part) (fresh_seats round places t parts) ≡ parts
fresh_parts V round places t [] = refl
fresh_parts V round places t (part ∷ parts) =
    ap (λ (l : List ThreadPart). part ∷ l) (fresh_parts V round places (t + 1) parts)

map_both : {A B C : Type 0} (f : A → B) (g : B → C) (xs : List A) → map (λ x. g (f x)) xs ≡ map g (map f xs)
map_both f g [] = refl
map_both {A} {B} {C} f g (x ∷ xs) = ap (λ (l : List C). g (f x) ∷ l) (map_both f g xs)

-- How the workers begin

module _ {V : Type 0} (vars : Opened) (inputs : ℕ → List Packet) (most : ℕ) (p : Mastered V) (places : List ℕ)
    (parts : List ThreadPart) (seats : List (Seated V)) (generators : List Lcg) (limits : ℕ → Option ℕ)
    (workers : List (Given V)) (fresh : seats ≡ fresh_seats vars.round places 0 parts) (same : p.threads ≡ parts)
    (all : vars.threads ≡ length parts) (ready : AreReadyFor most inputs p)
    (are : AreWorkers seats generators limits workers) where
  pub workers_count : length workers ≡ length parts
  workers_count =
      sym (map_count (λ (w : Given V). w.seat) workers) ∙ ap (λ (l : List (Seated V)). length l) (are.seats_are ∙ fresh)
      ∙ fresh_count V vars.round places 0 parts

  pub workers_parts : map (λ (w : Given V). w.seat.part) workers ≡ p.threads
  workers_parts =
      map_both (λ (w : Given V). w.seat) (λ (x : Seated V). x.part) workers
      ∙ ap (λ (l : List (Seated V)). map (λ (x : Seated V). x.part) l) (are.seats_are ∙ fresh)
      ∙ fresh_parts V vars.round places 0 parts ∙ sym same

  module _ (k : ℕ) (d : Given V) (low : k < length workers) where
    in_parts : k < length parts
    in_parts = let c = workers_count in omega (arith, low, c)

    seat_is : (slice_index_or workers k d).seat
        ≡ fresh_seat vars.round places (0 + k) (slice_index_or parts k d.seat.part)
    seat_is =
        sym (map_at (λ (w : Given V). w.seat) workers k d)
        ∙ ap (λ (l : List (Seated V)). slice_index_or l k d.seat) (are.seats_are ∙ fresh)
        ∙ fresh_at vars.round places 0 parts k d.seat d.seat.part in_parts

    thread_is : (slice_index_or workers k d).seat.thread ≡ k
    thread_is = let start : 0 + k ≡ k = omega arith in ap (λ (x : Seated V). x.thread) seat_is ∙ start

    part_is : slice_index_or p.threads k d.seat.part ≡ (slice_index_or workers k d).seat.part
    part_is =
        ap (λ (l : List ThreadPart). slice_index_or l k d.seat.part) same
        ∙ sym (ap (λ (x : Seated V). x.part) seat_is)

    pub is_given : IsGiven vars inputs most (slice_index_or workers k d)
    is_given =
        let at = ready k d.seat.part (let c = in_parts in let s = ap (λ (z : List ThreadPart). length z) same in
        omega (arith, c, s)) in
        record {
          seat = record {
            round_is = ap (λ (x : Seated V). x.round) seat_is;
            low = let t = thread_is in let c = in_parts in omega (arith, t, c, all);
          };
          none = ap (λ (x : Seated V). x.notes) seat_is;
          may = record {
            going = ap (λ (x : Seated V). x.ended) seat_is;
            input = subst (λ (n : ℕ). HasInput (inputs n) (slice_index_or workers k d).seat.part) (sym thread_is)
                (subst (λ (z : ThreadPart). HasInput (inputs k) z) part_is at.input);
            room =
                let room = subst (λ (z : ThreadPart). moves_made z + most < 2 ^ 56) part_is at.room in
                omega (arith, room);
          };
        }

-- What their ends make of the round

module _ {V : Type 0} (m : Meaning V) (guide : List Lane) (inputs : ℕ → List Packet) (may : ℕ → Type 0) (most : ℕ) where
  first_of : {A : Type 0} (x y : A) (xs ys : List A) → x ∷ xs ≡ y ∷ ys → x ≡ y
  first_of x y xs ys e = cc

  others_of : {A : Type 0} (x y : A) (xs ys : List A) → x ∷ xs ≡ y ∷ ys → xs ≡ ys
  others_of x y xs ys e = cc

  pub closed_seats : (round : TableId) (places : List ℕ) (from : ℕ) (parts : List ThreadPart)
      (workers : List (Given V)) (courses : List (Course V))
      → map (λ (w : Given V). w.seat) workers ≡ fresh_seats round places from parts
      → AllEnded m guide inputs may most workers courses → AreSeats round from (map seat_of courses)
  closed_seats round places from parts [] [] is ended = tt
  closed_seats round places from parts [] (c ∷ courses) is ended = absurd ended
  closed_seats round places from parts (w ∷ workers) [] is ended = absurd ended
  closed_seats round places from [] (w ∷ workers) (c ∷ courses) is ended = absurd (cc)
  closed_seats round places from (part ∷ parts) (w ∷ workers) (c ∷ courses) is (one, rest) =
      let head = first_of w.seat (fresh_seat round places from part) (map (λ (z : Given V). z.seat) workers)
      (fresh_seats round places (from + 1) parts) is in
      let tail = others_of w.seat (fresh_seat round places from part) (map (λ (z : Given V). z.seat) workers)
      (fresh_seats round places (from + 1) parts) is in (
        one.come.thread ∙ ap (λ (x : Seated V). x.thread) head,
        one.come.round_is ∙ ap (λ (x : Seated V). x.round) head,
        one.ended,
        closed_seats round places (from + 1) parts workers courses tail rest,
      )
