-- The input that a player asks for is the one that the next move is made with.
use Rattle.std.proofs.Common.{◌≡◌, ℕ, suc, ◌<◌, ◌≤◌, ◌≢◌, ◌⊎◌, inl, inr, List, [], ◌∷◌, refl, sym, ap, ◌∙◌, arith}
use Rattle.std.proofs.Common.{Option, Some, None, true, false, add-one, option_map}
use Rattle.std.specs.Prelude.{slice_get, slice_index_or, is_some, IsTrue, IsSome}
use Rattle.std.specs.Option.{option_map_or}
use Rattle.std.proofs.lemmas.Option.{slice_get-get_or, slice_get_within}
use Rattle.plain_text.specs.declared.packet.Packet.{Packet}
use Rattle.input_logger.specs.Inputs.{Fed, inputs_of, input_at}
use Rattle.entry_order.proofs.Order.{is_or}
use Rattle.plain_machine.specs.declared.local.Local.{Local}
use Rattle.plain_machine.specs.Program.{Meaning}
use Rattle.plain_machine.specs.Machine.{Hand}
use Rattle.plain_machine.specs.History.{Step, start_thread, thread_after, IsHistory}
use Rattle.plain_machine.proofs.Histories.{not_eq}
use Rattle.box_program.specs.Hands.{local_in, input_for, hand_of, has_hand, IsInputAfter}
use Rattle.box_program.proofs.HandLemmas.{no_hand}
use Rattle.plain_machine.proofs.Hands.{hand_input}
use Rattle.plain_player.specs.declared.seat.Seat.{Seat}
use Rattle.plain_player.specs.Playing.{Playing, Stands, place_in_hand, input_of_seat, next_input}

-- a seat for a thread that is not there
none_seat : Seat
none_seat = record { taken = 0; outputs = 0; hand = None }

-- a place in hand is that of a packet in hand
some_hand : (h : Option Hand) (place : Local) → local_in h ≡ Some place → (k : Hand) × (h ≡ Some k)
some_hand None place e = absurd (cc)
some_hand (Some h) place e = (h, refl)

-- the input of a thread that is there
pub next_is : {V : Type 0} (m : Meaning V) (fed : Fed) (threads : ℕ) (steps : List (Step V)) (p : Playing V) (t : ℕ)
    → IsHistory m (inputs_of fed) threads steps → Stands m threads steps p → t < threads
    → IsInputAfter (inputs_of fed) t steps (input_at fed t (next_input p t))
next_is {V} m fed threads steps p t hist stands low = by seat.hand refl
  where
    seat : Seat
    seat = slice_index_or p.seats t none_seat

    is : next_input p t ≡ input_of_seat seat.taken seat.hand
    is = ap (λ (o : Option Seat). option_map_or (λ (s : Seat). input_of_seat s.taken s.hand) o 0)
        (slice_get-get_or p.seats t none_seat (omega (arith, stands.threads_are)))

    taken : seat.taken ≡ (thread_after steps t).taken
    taken = (stands.seat t none_seat low).taken

    hand : seat.hand ≡ local_in (thread_after steps t).hand
    hand = (stands.seat t none_seat low).hand

    by : (o : Option Local) → seat.hand ≡ o → IsInputAfter (inputs_of fed) t steps (input_at fed t (next_input p t))
    by None at =
        let none : (thread_after steps t).hand ≡ None = no_hand (thread_after steps t).hand (sym hand ∙ at) in
        let number : next_input p t ≡ suc seat.taken = is ∙ (ap (input_of_seat seat.taken) at ∙ add-one seat.taken) in
        ap (λ (n : ℕ). input_at fed t n) number
        ∙ (ap (λ (n : ℕ). slice_get (inputs_of fed t) n) taken
        ∙ ap (λ (o : Option Hand). input_for (inputs_of fed t) (thread_after steps t).taken o) (sym none))
    by (Some place) at =
        let some = some_hand (thread_after steps t).hand place (sym hand ∙ at) in
        let last = hand_input m (inputs_of fed) threads steps hist t some.0 some.1 in
        let number : next_input p t ≡ suc last.0 =
        is ∙ (ap (input_of_seat seat.taken) at ∙ (taken ∙ (last.1 ∙ add-one last.0))) in
        ap (λ (n : ℕ). input_at fed t n) number
        ∙ (last.2 ∙ ap (λ (o : Option Hand). input_for (inputs_of fed t) (thread_after steps t).taken o) (sym some.1))

-- a thread that is not there stays at its start, and has no input
pub never_moved : {V : Type 0} (m : Meaning V) (inputs : ℕ → List Packet) (threads : ℕ) (steps : List (Step V)) (t : ℕ)
    → IsHistory m inputs threads steps → threads ≤ t → thread_after steps t ≡ start_thread
never_moved m inputs threads [] t hist out = refl
never_moved m inputs threads (x ∷ steps) t hist out =
    by (is_or x.thread t) (never_moved m inputs threads steps t hist.1 out)
  where
    by : (x.thread ≡ t) ⊎ (x.thread ≢ t) → thread_after steps t ≡ start_thread
        → thread_after (x ∷ steps) t ≡ start_thread
    by (inl same) earlier = let low = hist.0.0 in absurd (omega arith)
    by (inr other) earlier = rw (not_eq x.thread t other) earlier

pub none_next : {V : Type 0} (m : Meaning V) (fed : Fed) (threads : ℕ) (steps : List (Step V)) (p : Playing V) (t : ℕ)
    → Stands m threads steps p → threads ≤ t → input_at fed t (next_input p t) ≡ None
none_next m fed threads steps p t stands out = by (slice_get p.seats t) refl
  where
    by : (o : Option Seat) → slice_get p.seats t ≡ o → input_at fed t (next_input p t) ≡ None
    by None at =
        ap (λ (o : Option Seat). input_at fed t (option_map_or (λ (s : Seat). input_of_seat s.taken s.hand) o 0)) at
    by (Some s) at = let low = slice_get_within p.seats t s at in absurd (omega (arith, stands.threads_are))

-- where a packet is in hand there is an input
pub input_there : {V A : Type 0} (m : Meaning V) (fed : Fed) (threads : ℕ) (steps : List (Step V)) (p : Playing V)
    (t : ℕ) (f : A → Packet) (o : Option A) → IsHistory m (inputs_of fed) threads steps → Stands m threads steps p
    → option_map f o ≡ input_at fed t (next_input p t) → IsTrue (has_hand (place_in_hand p t)) → IsSome o
input_there {V} {A} m fed threads steps p t f o hist stands is has = by (slice_get p.seats t) refl
  where
    same : (h : Option Hand) → is_some (local_in h) ≡ is_some h
    same None = refl
    same (Some h) = refl

    there : (h : Option Hand) (o : Option A)
        → option_map f o ≡ input_for (inputs_of fed t) (thread_after steps t).taken h → is_some h ≡ true → IsSome o
    there None o e k = absurd (cc)
    there (Some h) None e k = absurd (cc)
    there (Some h) (Some a) e k = refl

    by : (s : Option Seat) → slice_get p.seats t ≡ s → IsSome o
    by None at =
        let clash : false ≡ true =
        sym (ap (λ (s : Option Seat). has_hand (hand_of (λ (x : Seat). x.hand) s)) at) ∙ has in
        absurd (cc)
    by (Some s) at =
        let low : t < threads = let within = slice_get_within p.seats t s at in omega (arith, stands.threads_are) in
        let held : has_hand (place_in_hand p t) ≡ is_some (thread_after steps t).hand =
        ap (λ (x : Option Seat). is_some (hand_of (λ (y : Seat). y.hand) x))
        (slice_get-get_or p.seats t none_seat (omega (arith, stands.threads_are)))
        ∙ (ap is_some (stands.seat t none_seat low).hand ∙ same (thread_after steps t).hand) in
        there (thread_after steps t).hand o (is ∙ next_is m fed threads steps p t hist stands low) (sym held ∙ has)
