-- A race is a round of the recovering system.
use Rattle.std.proofs.Common.{◌≡◌, ℕ, ◌+◌, ◌≤◌, ◌<◌, ◌⊎◌, inl, inr, true, List, [], ◌∷◌, ◌++◌, length, map, refl, sym}
use Rattle.std.proofs.Common.{ap}
use Rattle.std.proofs.Common.{◌∙◌, subst, Option, Some, None, arith}
use Rattle.std.specs.Prelude.{slice_get, slice_index_or}
use Rattle.rand_pcg.specs.Lcg.{Lcg}
use Rattle.plain_text.specs.declared.limit.TheConstants.{MOST_MOVES}
use Rattle.plain_text.specs.declared.packet.Packet.{Packet}
use Rattle.input_logger.specs.Inputs.{Fed, inputs_of}
use Rattle.access_log.specs.Held.{Lane}
use Rattle.box_program.specs.Hands.{local_in}
use Rattle.plain_machine.specs.declared.local.Local.{Local}
use Rattle.plain_machine.specs.Program.{Meaning}
use Rattle.plain_machine.specs.Machine.{Hand}
use Rattle.plain_machine.specs.History.{Step, moves_of, thread_after, IsHistory}
use Rattle.master_core.specs.declared.parts.ThreadPart.{ThreadPart}
use Rattle.master_core.specs.Mastered.{Mastered}
use Rattle.master_core.specs.MasterStanding.{Stands}
use Rattle.recovery_world.specs.declared.event.Event.TheVariants as event
use Rattle.recovery_world.specs.declared.event.Outcome.TheVariants as outcome
use Rattle.recovery_world.specs.World.{Setting, World, inputs_fed}
use Rattle.recovery_world.specs.Events.{On, WantsMore}
use Rattle.recovery_world.specs.Many.{Message}
use Rattle.plan_script.specs.Orders.{Orders, AreLeft, first_ones}
use Rattle.plan_script.specs.Rounds.{HasStopped, frames_of, of_thread}
use Rattle.system_parts.specs.Parts.{Parts}
use Rattle.system_parts.specs.Resting.{RestsFor}
use Rattle.var_locks.specs.declared.view.MissedEntry.{MissedEntry}
use Rattle.var_locks.specs.Seats.{Seated}
use Rattle.var_locks.specs.Closing.{seat_part}
use Rattle.round_events.specs.Blocked.{IsStuck}
use Rattle.round_join.specs.declared.noting.Made.{Made}
use Rattle.round_join.specs.declared.noting.Noted.{Noted}
use Rattle.round_join.specs.Working.{AllWork}
use Rattle.round_join.specs.Racing.{CameTo, Raced, steps_by}
use Rattle.round_join.proofs.IdleThreads.{ends_idle}
use Rattle.frame_intake.specs.Orders.{AreSome, Arrive}
use Rattle.live_workers.specs.Frames.{frames_in, frames_noted}
use Rattle.live_workers.specs.Telling.{AreTold}
use Rattle.live_workers.specs.Moving.{IsAtRest}
use Rattle.live_workers.specs.Working.{Given, Course, HasEnded, WhyEnded}
use Rattle.live_workers.specs.Racing.{IsRace, seat_of, moves_of as moves_in, generator_of}
use Rattle.live_workers.specs.Rounds.{RoundsRest, StepsTold}
use Rattle.live_workers.proofs.EndedWorkers.{map_in, map_count, all_work, ended_count, ended_at, seat_at, seat_among}
use Rattle.live_workers.proofs.RoundSteps.{AreOwned, steps_owned, count_by, moves_within, steps_count, steps_told}
use Rattle.live_workers.proofs.SentFrames.{frames_same, of_steps}

-- some worker, and where it is, which stand for those that are not there
nobody : {V : Type 0} → Seated V → Lcg → Given V
nobody x g = record {
  seat = x;
  generator = g;
  limit = None;
}

nowhere : {V : Type 0} → Seated V → Lcg → Course V
nowhere x g = record {
  seat = x;
  moves = [];
  generator = g;
}

no_hand : (o : Option Hand) → local_in o ≡ None → o ≡ None
no_hand None is = refl
no_hand (Some h) is = absurd (cc)

-- a race, by what its program, guide and inputs are
pub race_with : {P V : Type 0} (meaning : P → Meaning V) (fits : P → ℕ → V → Type 0) (a b : P) (g h : List Lane)
    (i j : Fed) (may : ℕ → Type 0) (most : ℕ) (limits : ℕ → Option ℕ) (p : Mastered V) (before : List Lcg)
    (q : Mastered V) (marks : List (List (Option ℕ))) (moves : List (List Made)) (after : List Lcg)
    → a ≡ b → g ≡ h → i ≡ j → IsRace (meaning a) (fits a) g (inputs_of i) may most limits p before q marks moves after
    → IsRace (meaning b) (fits b) h (inputs_of j) may most limits p before q marks moves after
race_with {P} {V} meaning fits a b g h i j may most limits p before q marks moves after program guide inputs race =
    subst (λ (x : P). IsRace (meaning x) (fits x) h (inputs_of j) may most limits p before q marks moves after)
    program
    (subst (λ (x : List Lane). IsRace (meaning a) (fits a) x (inputs_of j) may most limits p before q marks moves after)
    guide
    (subst (λ (x : Fed). IsRace (meaning a) (fits a) g (inputs_of x) may most limits p before q marks moves after)
    inputs race))

module _ {P V : Type 0} (m : Meaning V) (fits : ℕ → V → Type 0) (s : Setting V) (w : World V) (y : Parts P V)
    (may : ℕ → Type 0) (most : ℕ) (limits : ℕ → Option ℕ) (p : Mastered V) (before : List Lcg) (q : Mastered V)
    (marks : List (List (Option ℕ))) (moves : List (List Made)) (after : List Lcg)
    (race : IsRace m fits y.guide (inputs_of y.inputs) may most limits p before q marks moves after)
    (rests : RestsFor m s w y) (up : w.up ≡ true) (opens : Stands s.meaning s.threads w.past p) where
  -- it is what the noting of a round asks for
  pub raced : Raced m fits s w p race.round (map seat_of race.courses) q marks moves y
  raced = record {
    rests = rests;
    up = up;
    opens = opens;
    closed = race.closed;
    seats_are = race.seats_are;
    marks_are = race.marks_are;
    works = subst (λ (l : List (List Made)).
        AllWork m y.guide (inputs_of y.inputs) p.threads (map seat_of race.courses) l) (sym race.moves_are)
        (subst (λ (l : List ThreadPart).
        AllWork m y.guide (inputs_of y.inputs) l (map seat_of race.courses) (map moves_in race.courses)) race.parts
        (all_work m y.guide (inputs_of y.inputs) may most race.workers race.courses race.ended));
  }

  workers_count : length race.workers ≡ s.threads
  workers_count =
      sym (map_count (λ (g : Given V). g.seat.part) race.workers) ∙ ap (λ (l : List ThreadPart). length l) race.parts
      ∙ opens.threads_are

  courses_count : length race.courses ≡ s.threads
  courses_count =
      ended_count m y.guide (inputs_of y.inputs) may most race.workers race.courses race.ended ∙ workers_count

  module _ (noted : List Noted) (new : Parts P V)
      (came : CameTo m s w (map seat_of race.courses) q moves y.guide noted new) (t : ℕ) (low : t < s.threads)
      (x : Seated V) (g : Lcg) where
    -- the worker of the thread, and where it came
    abbrev worker : Given V
    worker = slice_index_or race.workers t (nobody x g)

    abbrev course : Course V
    course = slice_index_or race.courses t (nowhere x g)

    in_workers : t < length race.workers
    in_workers = let k = workers_count in omega (arith, low, k)

    in_courses : t < length race.courses
    in_courses = let k = courses_count in omega (arith, low, k)

    end : HasEnded m y.guide (inputs_of y.inputs) may most worker course
    end = ended_at m y.guide (inputs_of y.inputs) may most race.workers race.courses race.ended t (nobody x g)
        (nowhere x g) in_workers

    in_seats : t < length (map seat_of race.courses)
    in_seats =
        let k : length (map seat_of race.courses) ≡ length race.courses = map_count seat_of race.courses in
        let c = in_courses in omega (arith, k, c)

    mine : slice_index_or (map seat_of race.courses) t x ≡ course.seat
    mine = map_in seat_of race.courses t x (nowhere x g) in_courses

    thread_is : course.seat.thread ≡ t
    thread_is =
        let at = seat_at race.round 0 (map seat_of race.courses) t x race.seats_are in_seats in
        let start : 0 + t ≡ t = omega arith in
        ap (λ (z : Seated V). z.thread) (sym mine) ∙ at ∙ start

    moves_at : slice_index_or moves t [] ≡ course.moves
    moves_at =
        ap (λ (l : List (List Made)). slice_index_or l t []) race.moves_are
        ∙ map_in moves_in race.courses t [] (nowhere x g) in_courses

    made : moves_of t came.steps ≡ length course.moves
    made = count_by t came.steps
        ∙ steps_count (slice_index_or moves t []) (steps_by t came.steps) (came.each t)
        ∙ ap (λ (l : List Made). length l) moves_at

    limit_is : worker.limit ≡ limits t
    limit_is = race.limits_are t (nobody x g) in_workers

    -- what the master has of the thread at the end
    part_is : slice_index_or q.threads t x.part ≡ course.seat.part
    part_is =
        ap (λ (l : List ThreadPart). slice_index_or l t x.part) race.closed.threads
        ∙ map_in seat_part (map seat_of race.courses) t x.part x in_seats
        ∙ ap (λ (z : Seated V). z.part) mine

    rests_idle : IsAtRest (inputs_of y.inputs course.seat.thread) course.seat.part
        → On s came.there (event.Step t None) outcome.Idle [] came.there
    rests_idle rest = (inr (inr (inl (low, up_there, wants, refl, refl))), refl)
      where
        up_there : came.there.up ≡ true
        up_there = ap (λ (z : World V). z.up) came.after.world ∙ up

        part : course.seat.part.hand ≡ local_in (thread_after came.there.past t).hand
        part = ap (λ (z : ThreadPart). z.hand) (sym part_is) ∙ (came.stands.thread t x.part low).hand

        taken : course.seat.part.counts.taken ≡ (thread_after came.there.past t).taken
        taken = ap (λ (z : ThreadPart). z.counts.taken) (sym part_is) ∙ (came.stands.thread t x.part low).taken

        fed : inputs_of y.inputs course.seat.thread ≡ inputs_fed s came.there.fed t
        fed =
            ap (λ (u : ℕ). inputs_of y.inputs u) thread_is
            ∙ ap (λ (f : Fed). inputs_of f t) rests.inputs.inputs
            ∙ ap (λ (n : ℕ). inputs_fed s n t) (sym (ap (λ (z : World V). z.fed) came.after.world))

        wants : WantsMore s came.there t
        wants = (
          no_hand (thread_after came.there.past t).hand (sym part ∙ rest.0),
          subst (λ (l : List Packet). slice_get l (thread_after came.there.past t).taken ≡ None) fed
              (subst (λ (n : ℕ). slice_get (inputs_of y.inputs course.seat.thread) n ≡ None) taken rest.1),
        )

    waits : (e : MissedEntry) → IsStuck m y.guide course.seat e
        → (u : ℕ) × (n : ℕ) × On s came.there (event.Step t None) (outcome.Waits u n) [] came.there
    waits e stuck =
        let among = seat_among (map seat_of race.courses) t x in_seats in
        let k = came.stuck (slice_index_or (map seat_of race.courses) t x) e among
        (subst (λ (z : Seated V). IsStuck m y.guide z e) (sym mine) stuck) in
        subst (λ (v : ℕ). (u : ℕ) × (n : ℕ) × On s came.there (event.Step v None) (outcome.Waits u n) [] came.there)
        (ap (λ (z : Seated V). z.thread) mine ∙ thread_is) k

    -- where the thread stopped
    pub stopped : new.moves ≤ MOST_MOVES → y.moves + most ≡ MOST_MOVES + 1
        → HasStopped s came.there t (limits t) (moves_of t came.steps)
    stopped few most_is = record {
      few = λ n is. (let k = end.few n (limit_is ∙ is) in let c = made in omega (arith, k, c));
      why = go end.why;
    }
      where
        go : WhyEnded m y.guide (inputs_of y.inputs) most worker.limit course.seat (length course.moves)
            → (limits t ≡ Some (moves_of t came.steps))
            ⊎ (On s came.there (event.Step t None) outcome.Idle [] came.there
            ⊎ ((u : ℕ) × (n : ℕ) × On s came.there (event.Step t None) (outcome.Waits u n) [] came.there))
        go (inl is) = inl (sym limit_is ∙ is ∙ ap (λ (n : ℕ). Some n) (sym made))
        go (inr (inl full)) =
            let c = made in
            let all = moves_within t came.steps in
            let there = came.after.moves in
            let now = came.rests.moved.moves in
            let then = rests.moved.moves in
            absurd (omega (arith, c, all, there, now, then, few, most_is, full))
        go (inr (inr (inl rest))) = inr (inl (rests_idle rest))
        go (inr (inr (inr (e, stuck)))) = inr (inr (waits e stuck))

    -- and what it was told
    pub told : StepsTold may y.guide t (steps_by t came.steps) (slice_index_or before t g) (slice_index_or after t g)
    told =
        let first : slice_index_or before t g ≡ worker.generator =
        ap (λ (l : List Lcg). slice_index_or l t g) (sym race.begin)
        ∙ map_in (λ (z : Given V). z.generator) race.workers t g (nobody x g) in_workers in
        let last : slice_index_or after t g ≡ course.generator =
        ap (λ (l : List Lcg). slice_index_or l t g) race.after_are
        ∙ map_in generator_of race.courses t g (nowhere x g) in_courses in
        let of : worker.seat.thread ≡ t = sym end.come.thread ∙ thread_is in
        steps_told may y.guide t (slice_index_or moves t []) (steps_by t came.steps) (slice_index_or before t g)
        (slice_index_or after t g) (came.each t)
        (subst (λ (l : List Made). AreTold may y.guide t l (slice_index_or before t g) (slice_index_or after t g))
        (sym moves_at)
        (subst (λ (z : Lcg). AreTold may y.guide t course.moves z (slice_index_or after t g)) (sym first)
        (subst (λ (z : Lcg). AreTold may y.guide t course.moves worker.generator z) (sym last)
        (subst (λ (u : ℕ). AreTold may y.guide u course.moves worker.generator course.generator) of end.come.told))))

  owned : (noted : List Noted) (new : Parts P V)
      (came : CameTo m s w (map seat_of race.courses) q moves y.guide noted new) → AreOwned came.steps
  owned noted new came =
      let past : came.there.past ≡ came.steps ++ w.past = ap (λ (z : World V). z.past) came.after.world in
      steps_owned s.meaning (inputs_fed s came.there.fed) s.threads came.steps w.past
      (subst (λ (l : List (Step V)). IsHistory s.meaning (inputs_fed s came.there.fed) s.threads l) past
      came.rests.sound.firm.legal)

  -- what is noted was sent by the steps
  pub frames_are : (noted : List Noted) (new : Parts P V)
      (came : CameTo m s w (map seat_of race.courses) q moves y.guide noted new)
      → frames_noted noted ≡ frames_in came.steps
  frames_are noted new came =
      frames_same s w came.there noted came.steps came.performs (ap (λ (z : World V). z.past) came.after.world)
      (owned noted new came)

  -- a seat and a generator that stand for those that are not there
  some_seat : Seated V
  some_seat = record {
    thread = 0;
    part = record { counts = record { taken = 0; entries = 0; outputs = 0 }; hand = None; stamp = [] };
    notes = [];
    seen = [];
    missing = [];
    ended = true;
    round = race.round;
  }

  some_generator : Lcg
  some_generator = record { state = 0; increment = 0 }

  -- each thread stopped where its order lets it
  stops : (noted : List Noted) (new : Parts P V)
      (came : CameTo m s w (map seat_of race.courses) q moves y.guide noted new) → new.moves ≤ MOST_MOVES
      → y.moves + most ≡ MOST_MOVES + 1 → (orders : Orders) → ((t : ℕ) → limits t ≡ orders.moves t) → (t : ℕ)
      → t < s.threads → HasStopped s came.there t (orders.moves t) (moves_of t came.steps)
  stops noted new came few most_is orders limits_are t low =
      subst (λ (l : Option ℕ). HasStopped s came.there t l (moves_of t came.steps)) (limits_are t)
      (stopped noted new came t low some_seat some_generator few most_is)

  pub rounds : (noted : List Noted) (new : Parts P V)
      (came : CameTo m s w (map seat_of race.courses) q moves y.guide noted new) → new.moves ≤ MOST_MOVES
      → y.moves + most ≡ MOST_MOVES + 1 → (orders : Orders) → ((t : ℕ) → limits t ≡ orders.moves t)
      → (arriving : List Message) → Arrive orders (frames_noted noted) arriving
      → AreSome (frames_noted noted) arriving → RoundsRest m s w orders may y.guide before noted arriving after q new
  rounds noted new came few most_is orders limits_are arriving arrive in_order = (
    came.there,
    record {
      steps = came.steps;
      performs = came.performs;
      events_are = came.events_are;
      world = came.after;
      woven = came.woven;
      stopped = stops noted new came few most_is orders limits_are;
      idle = λ none. ends_idle s came.there (λ t. moves_of t came.steps) came.rests.sound
          (ap (λ (z : World V). z.up) came.after.world ∙ up)
          (λ t low. subst (λ (l : Option ℕ). HasStopped s came.there t l (moves_of t came.steps)) (none t low)
          (stops noted new came few most_is orders limits_are t low));
      arrive = λ t. subst (λ (l : List Message).
          AreLeft orders.lost (first_ones (orders.frames t) l) (of_thread t arriving))
          (ap (of_thread t) (frames_are noted new came) ∙ of_steps t came.steps (owned noted new came)) (arrive t);
      in_order = subst (λ (l : List Message). AreSome l arriving) (frames_are noted new came) in_order;
      told = λ t g low. told noted new came t low some_seat g;
      count = ap (λ (l : List Lcg). length l) race.after_are ∙ map_count generator_of race.courses ∙ courses_count;
    },
    came.rests,
    came.stands,
  )
