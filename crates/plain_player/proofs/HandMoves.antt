-- A player that did what a move does stands for the history with that move.
use Rattle.std.proofs.Common.{◌≡◌, ℕ, ◌+◌, ◌<◌, ◌≤◌, ◌≢◌, List, [], ◌∷◌, ◌++◌, length, refl, sym, ap, ◌∙◌, subst, inl}
use Rattle.std.proofs.Common.{inr, ◌⊎◌, arith, cond, eqb, true, false, Option, Some, None, Result, Ok, Err, get_or}
use Rattle.std.specs.Prelude.{nat_eq, nat_lt, slice_index_or, slice_set, slice_get, option_map, option_to_list}
use Rattle.std.specs.Prelude.{MatchResult}
use Rattle.std.proofs.lemmas.Grind.{common_steps}
use Rattle.std.proofs.lemmas.Bool.Decides.{nat_tests, eqb_tells}
use Rattle.std.proofs.lemmas.List.{get_or-set_same, get_or-set_other}
use Rattle.std.proofs.Common.{length-set, add-one}
use Rattle.plain_text.specs.declared.packet.Packet.{Packet}
use Rattle.plain_machine.specs.declared.local.Local.{Local}
use Rattle.plain_machine.specs.declared.plain_move.PlainMove.{PlainMove}
use Rattle.plain_machine.specs.Program.{Meaning}
use Rattle.plain_machine.specs.Machine.{Hand, Thread, Effect, Takes, Touches, Looks, HearsClock, HearsDraw, Sends, Ends}
use Rattle.plain_machine.specs.Machine.{Moved, Moves, Illegal, holding, hand_move, thread_move}
use Rattle.plain_machine.specs.History.{Step, value_after, thread_after, sent_of, outputs, plain_move, step_of}
use Rattle.plain_machine.specs.History.{after_moved, emission_of}
use Rattle.plain_player.specs.declared.seat.Seat.{Seat}
use Rattle.plain_machine.specs.declared.emission.Emission.{Emission}
use Rattle.plain_player.specs.declared.hand.HandMove.{HandMove}
use Rattle.plain_player.specs.declared.hand.MoveError.{MoveError}
use Rattle.plain_player.specs.declared.hand.MoveError.TheVariants as error
use Rattle.plain_player.specs.Hands.{HasValues, values_after, sent_by, with_bytes, IsHandMove, MakesHandMove, PlaysHand}
use Rattle.plain_player.specs.Hands.{seat_after}
use Rattle.plain_player.specs.Playing.{Playing, IsSeat, Stands, Follows}
use Rattle.box_program.specs.Hands.{local_in, input_for}
use Rattle.box_program.proofs.HandLemmas.{in_hand}
use Rattle.plain_machine.proofs.Histories.{moved_thread}
use Rattle.entry_order.proofs.Order.{is_or}

-- the move of such a thread
pub hand_plays : {V : Type 0} (m : Meaning V) (inputs : ℕ → List Packet) (threads : ℕ) (steps : List (Step V))
    (plain : PlainMove) (packet : Packet) (local : Local) (input : Option Packet) → plain.thread < threads
    → local_in (thread_after steps plain.thread).hand ≡ Some local → input ≡ Some packet
    → input
    ≡ input_for (inputs plain.thread) (thread_after steps plain.thread).taken (thread_after steps plain.thread).hand
    → plain_move m inputs threads steps plain
    ≡ after_moved steps plain.thread (hand_move m (value_after m steps) (thread_after steps plain.thread).taken
    (record { packet = packet; place = local }) plain.answer (m.next local))
hand_plays m inputs threads steps plain packet local input below place is_packet given =
    let t = plain.thread in
    let hand = in_hand (inputs t) (thread_after steps t) packet local input place is_packet given in
    let yes : nat_lt t threads ≡ true = grind (arith, nat_tests) in
    rw (yes, hand) refl

-- the values after a move
values_on : {V : Type 0} (m : Meaning V) (steps : List (Step V)) (t : ℕ) (after : Thread) (effect : Effect V)
    (values : List V) → length values ≡ m.vars → HasValues m.vars values (value_after m steps)
    → HasValues m.vars (values_after values effect) (value_after m (step_of t steps after effect ∷ steps))
values_on m steps t after Takes values len has = has
values_on {V} m steps t after (Touches v left) values len has = λ w d below. go w d below (is_or v w)
  where
    go : (w : ℕ) (d : V) → w < m.vars → (v ≡ w) ⊎ (v ≢ w)
        → slice_index_or (slice_set values v left) w d ≡ cond (nat_eq v w) left (value_after m steps w)
    go w d below (inl e) =
        let k : nat_eq v w ≡ true = grind (arith, nat_tests) in
        rw (k, e) (get_or-set_same values w left d (omega arith))
    go w d below (inr e) =
        let k : nat_eq v w ≡ false = grind (arith, nat_tests) in
        rw k (get_or-set_other values v w left d (λ q. e (sym q)) ∙ has w d below)
values_on m steps t after (Looks v) values len has = has
values_on m steps t after (HearsClock a) values len has = has
values_on m steps t after (HearsDraw a) values len has = has
values_on m steps t after (Sends packet) values len has = has
values_on m steps t after Ends values len has = has

-- a move that sends nothing out
quiet : {V : Type 0} (steps : List (Step V)) (t : ℕ) (after : Thread) (d : Effect V) → sent_by d ≡ None
    → sent_of (step_of t steps after d ∷ steps) ≡ sent_of steps
quiet steps t after Takes e = refl
quiet steps t after (Touches v left) e = refl
quiet steps t after (Looks v) e = refl
quiet steps t after (HearsClock a) e = refl
quiet steps t after (HearsDraw a) e = refl
quiet steps t after (Sends q) e = absurd (cc)
quiet steps t after Ends e = refl

-- a move that sends this packet out
sends : {V : Type 0} (steps : List (Step V)) (t : ℕ) (after : Thread) (d : Effect V) (q : Packet) → sent_by d ≡ Some q
    → sent_of (step_of t steps after d ∷ steps) ≡ emission_of t (sent_of steps) after.taken q ∷ sent_of steps
sends steps t after Takes q e = absurd (cc)
sends steps t after (Touches v left) q e = absurd (cc)
sends steps t after (Looks v) q e = absurd (cc)
sends steps t after (HearsClock a) q e = absurd (cc)
sends steps t after (HearsDraw a) q e = absurd (cc)
sends steps t after (Sends p) q e =
    let same : p ≡ q = cc in ap (λ (x : Packet). emission_of t (sent_of steps) after.taken x ∷ sent_of steps) same
sends steps t after Ends q e = absurd (cc)

-- the seat of the thread that moved, and what was sent
seat_on : {V : Type 0} (steps : List (Step V)) (t : ℕ) (after : Thread) (effect : Effect V) (s : Seat) (packet : Packet)
    (made : HandMove) (old new : List V) → IsSeat steps t s
    → IsHandMove after effect (thread_after steps t).taken packet made old new
    → IsSeat (step_of t steps after effect ∷ steps) t (seat_after t s packet made).0
    × (sent_of (step_of t steps after effect ∷ steps) ≡ option_to_list (seat_after t s packet made).1 ++ sent_of steps)
seat_on {V} steps t after effect s packet made old new is h = go made.sent refl
  where
    here : thread_after (step_of t steps after effect ∷ steps) t ≡ after
    here = moved_thread steps t after effect

    taken : s.taken ≡ (thread_after (step_of t steps after effect ∷ steps) t).taken
    taken = is.taken ∙ sym h.taken_stays ∙ ap (λ (th : Thread). th.taken) (sym here)

    hand : made.place ≡ local_in (thread_after (step_of t steps after effect ∷ steps) t).hand
    hand = h.place ∙ ap (λ (th : Thread). local_in th.hand) (sym here)

    go : (o : Option (List ℕ)) → made.sent ≡ o
        → IsSeat (step_of t steps after effect ∷ steps) t (seat_after t s packet made).0
        × (sent_of (step_of t steps after effect ∷ steps)
        ≡ option_to_list (seat_after t s packet made).1 ++ sent_of steps)
    go None e =
        let none : sent_by effect ≡ None = sym h.sent ∙ ap (option_map (with_bytes packet)) e in
        let same = quiet steps t after effect none in
        rw e (record { taken = taken; outputs = is.outputs ∙ ap (outputs t) (sym same); hand = hand }, same)
    go (Some bytes) e =
        let some : sent_by effect ≡ Some (with_bytes packet bytes) =
        sym h.sent ∙ ap (option_map (with_bytes packet)) e in
        let more = sends steps t after effect (with_bytes packet bytes) some in
        let mine : nat_eq t t ≡ true = grind (arith, nat_tests) in
        let grown : outputs t (sent_of (step_of t steps after effect ∷ steps)) ≡ outputs t (sent_of steps) + 1 =
        ap (outputs t) more ∙ rw mine refl in
        let input : s.taken ≡ after.taken = is.taken ∙ sym h.taken_stays in
        rw e (
          record { taken = taken; outputs = ap (λ n. n + 1) is.outputs ∙ sym grown; hand = hand },
          more
              ∙ ap (λ n.
              record { thread = t; number = n + 1; input = after.taken; packet = with_bytes packet bytes }
              ∷ sent_of steps) (sym is.outputs)
              ∙ ap (λ n.
              record { thread = t; number = s.outputs + 1; input = n; packet = with_bytes packet bytes }
              ∷ sent_of steps) (sym input),
        )

-- the other threads stay
other_on : {V : Type 0} (steps : List (Step V)) (t u : ℕ) (after : Thread) (effect : Effect V) (s : Seat) → t ≢ u
    → IsSeat steps u s → IsSeat (step_of t steps after effect ∷ steps) u s
other_on {V} steps t u after effect s other is = go (sent_by effect) refl
  where
    no : nat_eq t u ≡ false
    no = grind (arith, nat_tests)

    here : thread_after (step_of t steps after effect ∷ steps) u ≡ thread_after steps u
    here = rw no refl

    make : outputs u (sent_of (step_of t steps after effect ∷ steps)) ≡ outputs u (sent_of steps)
        → IsSeat (step_of t steps after effect ∷ steps) u s
    make e = record {
      taken = is.taken ∙ ap (λ (th : Thread). th.taken) (sym here);
      outputs = is.outputs ∙ sym e;
      hand = is.hand ∙ ap (λ (th : Thread). local_in th.hand) (sym here);
    }

    go : (o : Option Packet) → sent_by effect ≡ o → IsSeat (step_of t steps after effect ∷ steps) u s
    go None e = make (ap (outputs u) (quiet steps t after effect e))
    go (Some q) e = make (ap (outputs u) (sends steps t after effect q e) ∙ rw no refl)

-- the player after a move with the packet in hand
pub stands_on : {V : Type 0} (m : Meaning V) (threads : ℕ) (steps : List (Step V)) (p : Playing V) (t : ℕ)
    (after : Thread) (effect : Effect V) (packet : Packet) (made : HandMove) (new : List V) (d : Seat)
    → Stands m threads steps p → t < threads → length p.values ≡ m.vars
    → IsHandMove after effect (thread_after steps t).taken packet made p.values new
    → Stands m threads (step_of t steps after effect ∷ steps) (record {
      values = new;
      seats = slice_set p.seats t (seat_after t (slice_index_or p.seats t d) packet made).0;
      made = p.made + 1;
    })
    × (sent_of (step_of t steps after effect ∷ steps)
    ≡ option_to_list (seat_after t (slice_index_or p.seats t d) packet made).1 ++ sent_of steps)
stands_on {V} m threads steps p t after effect packet made new d is below len h = (
  record {
    values = λ v e under.
        subst (λ (l : List V). slice_index_or l v e ≡ value_after m (step_of t steps after effect ∷ steps) v)
        (sym h.values) (values_on m steps t after effect p.values len is.values v e under);
    threads_are = simp length-set is.threads_are;
    seat = λ u e under. seat u e under (is_or t u);
    made = ap (λ n. n + 1) is.made ∙ add-one (length steps);
  },
  mine.1,
)
  where
    s : Seat
    s = slice_index_or p.seats t d

    next : Seat
    next = (seat_after t s packet made).0

    mine : IsSeat (step_of t steps after effect ∷ steps) t next
        × (sent_of (step_of t steps after effect ∷ steps)
        ≡ option_to_list (seat_after t s packet made).1 ++ sent_of steps)
    mine = seat_on steps t after effect s packet made p.values new (is.seat t d below) h

    seat : (u : ℕ) (e : Seat) → u < threads → (t ≡ u) ⊎ (t ≢ u)
        → IsSeat (step_of t steps after effect ∷ steps) u (slice_index_or (slice_set p.seats t next) u e)
    seat u e under (inl q) = subst
        (λ (w : ℕ). IsSeat (step_of t steps after effect ∷ steps) w (slice_index_or (slice_set p.seats t next) w e)) q
        (subst (λ (x : Seat). IsSeat (step_of t steps after effect ∷ steps) t x)
        (sym (get_or-set_same p.seats t next e (omega (arith, is.threads_are)))) mine.0)
    seat u e under (inr q) = subst (λ (x : Seat). IsSeat (step_of t steps after effect ∷ steps) u x)
        (sym (get_or-set_other p.seats t u next e (λ w. q (sym w))))
        (other_on steps t u after effect (slice_index_or p.seats u e) q (is.seat u e under))

-- A move with the packet in hand follows the definition.
pub hand_follows : {V : Type 0} (m : Meaning V) (inputs : ℕ → List Packet) (threads : ℕ) (steps : List (Step V))
    (plain : PlainMove) (p : Playing V) (packet : Packet) (local : Local) (input : Option Packet) (made : HandMove)
    (new : List V) (s : Seat) → Stands m threads steps p → plain.thread < length p.seats
    → s ≡ slice_index_or p.seats plain.thread s → s.hand ≡ Some local → length p.values ≡ m.vars → input ≡ Some packet
    → input
    ≡ input_for (inputs plain.thread) (thread_after steps plain.thread).taken (thread_after steps plain.thread).hand
    → MakesHandMove
    (hand_move m (value_after m steps) (thread_after steps plain.thread).taken
    (record { packet = packet; place = local }) plain.answer (m.next local)) (thread_after steps plain.thread).taken
    packet made p.values new
    → Follows m inputs threads steps plain (Ok (seat_after plain.thread s packet made).1) (record {
      values = new;
      seats = slice_set p.seats plain.thread (seat_after plain.thread s packet made).0;
      made = p.made + 1;
    })
hand_follows {V} m inputs threads steps plain p packet local input made new s is below s_is hand len is_packet
    given makes = go moved refl makes
  where
    t : ℕ
    t = plain.thread

    under : t < threads
    under = omega (arith, is.threads_are)

    moved : Moved V
    moved = hand_move m (value_after m steps) (thread_after steps t).taken (record { packet = packet; place = local })
        plain.answer (m.next local)

    place : local_in (thread_after steps t).hand ≡ Some local
    place = sym (is.seat t s under).hand ∙ ap (λ (x : Seat). x.hand) (sym s_is) ∙ hand

    plays : plain_move m inputs threads steps plain ≡ after_moved steps t moved
    plays = hand_plays m inputs threads steps plain packet local input under place is_packet given

    go : (w : Moved V) → moved ≡ w → MakesHandMove w (thread_after steps t).taken packet made p.values new
        → Follows m inputs threads steps plain (Ok (seat_after t s packet made).1)
        (record { values = new; seats = slice_set p.seats t (seat_after t s packet made).0; made = p.made + 1 })
    go (Illegal cause) e h = absurd h
    go (Moves after effect) e h = rw (plays, e) (subst (λ (x : Seat).
        Stands m threads (step_of t steps after effect ∷ steps)
        (record { values = new; seats = slice_set p.seats t (seat_after t x packet made).0; made = p.made + 1 })
        × (sent_of (step_of t steps after effect ∷ steps)
        ≡ option_to_list (seat_after t x packet made).1 ++ sent_of steps)) (sym s_is)
        (stands_on m threads steps p t after effect packet made new s is under len h))

-- A move with the packet in hand that is none follows the definition.
pub hand_fails : {V : Type 0} (m : Meaning V) (inputs : ℕ → List Packet) (threads : ℕ) (steps : List (Step V))
    (plain : PlainMove) (p after : Playing V) (packet : Packet) (local : Local) (input : Option Packet) (new : List V)
    (s : Seat) (e : MoveError) (result : Result (Option Emission) MoveError) → Stands m threads steps p
    → plain.thread < length p.seats → s ≡ slice_index_or p.seats plain.thread s → s.hand ≡ Some local
    → input ≡ Some packet
    → input
    ≡ input_for (inputs plain.thread) (thread_after steps plain.thread).taken (thread_after steps plain.thread).hand
    → PlaysHand (hand_move m (value_after m steps) (thread_after steps plain.thread).taken
    (record { packet = packet; place = local }) plain.answer (m.next local)) (thread_after steps plain.thread).taken
    packet (Err e) p.values new → result ≡ Err e → Follows m inputs threads steps plain result after
hand_fails {V} m inputs threads steps plain p after packet local input new s e result is below s_is hand is_packet given
    fails result_is = go e fails result_is
  where
    t : ℕ
    t = plain.thread

    under : t < threads
    under = omega (arith, is.threads_are)

    moved : Moved V
    moved = hand_move m (value_after m steps) (thread_after steps t).taken (record { packet = packet; place = local })
        plain.answer (m.next local)

    place : local_in (thread_after steps t).hand ≡ Some local
    place = sym (is.seat t s under).hand ∙ ap (λ (x : Seat). x.hand) (sym s_is) ∙ hand

    plays : plain_move m inputs threads steps plain ≡ after_moved steps t moved
    plays = hand_plays m inputs threads steps plain packet local input under place is_packet given

    go : (e : MoveError) → PlaysHand moved (thread_after steps t).taken packet (Err e) p.values new → result ≡ Err e
        → Follows m inputs threads steps plain result after
    go (error.Illegal cause) h k = rw k (plays ∙ ap (after_moved steps t) h)
    go error.NoMemory h k = rw k tt
