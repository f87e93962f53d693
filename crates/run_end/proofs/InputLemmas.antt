-- The packet that a thread's next move is made with.
use Rattle.std.proofs.Common.{◌≡◌, ℕ, suc, ◌+◌, ◌<◌, List, refl, sym, ap, ◌∙◌, arith, Option, Some, None, add-one, []}
use Rattle.std.specs.Prelude.{◌^◌, slice_get, slice_index_or, is_some, IsTrue, IsSome, true}
use Rattle.std.specs.Option.{option_map}
use Rattle.std.proofs.lemmas.Option.{slice_get-get_or}
use Rattle.plain_text.specs.declared.packet.Packet.{Packet}
use Rattle.input_logger.specs.Inputs.{Fed, inputs_of, input_at}
use Rattle.plain_machine.specs.declared.local.Local.{Local}
use Rattle.plain_machine.specs.Program.{Meaning}
use Rattle.plain_machine.specs.Machine.{Hand}
use Rattle.plain_machine.specs.History.{Step, thread_after, IsHistory}
use Rattle.box_program.specs.Hands.{local_in, input_for, hand_of, has_hand, IsInputAfter}
use Rattle.box_program.proofs.HandLemmas.{no_hand}
use Rattle.plain_machine.proofs.Hands.{hand_input}
use Rattle.master_core.specs.declared.parts.ThreadPart.{ThreadPart}
use Rattle.master_core.specs.declared.parts.Counts.{Counts}
use Rattle.master_core.specs.Mastered.{Mastered, input_in_hand, place_in_hand, HasRoom}
use Rattle.master_core.specs.MasterStanding.{Stands}

-- The input that a master in memory asks for is the one that its next move is made with.

-- a part for a thread that is not there
pub none_part : ThreadPart
none_part = record { counts = record { taken = 0; entries = 0; outputs = 0 }; hand = None; stamp = [] }

-- a place in hand is that of a packet in hand
some_hand : (h : Option Hand) (place : Local) → local_in h ≡ Some place → (k : Hand) × (h ≡ Some k)
some_hand None place e = absurd (cc)
some_hand (Some h) place e = (h, refl)

-- the packet in hand is the input that was taken last
pub input_some : {V : Type 0} (m : Meaning V) (fed : Fed) (threads : ℕ) (steps : List (Step V)) (p : Mastered V)
    (t k : ℕ) (r : Option ℕ) → IsHistory m (inputs_of fed) threads steps → Stands m threads steps p → t < threads
    → r ≡ Some k → ((d : ThreadPart) → r ≡ input_in_hand (slice_index_or p.threads t d))
    → IsInputAfter (inputs_of fed) t steps (input_at fed t k)
input_some {V} m fed threads steps p t k r h stands low is says = go (slice_index_or p.threads t none_part).hand refl
  where
    found : (place : Local) → (slice_index_or p.threads t none_part).hand ≡ Some place
        → Some (slice_index_or p.threads t none_part).counts.taken ≡ Some k
        → IsInputAfter (inputs_of fed) t steps (input_at fed t k)
    found place at q =
        let th = stands.thread t none_part low in
        let hand = some_hand (thread_after steps t).hand place (sym th.hand ∙ at) in
        let l = hand_input m (inputs_of fed) threads steps h t hand.0 hand.1 in
        let same : (slice_index_or p.threads t none_part).counts.taken ≡ k = cc in
        let kk : k ≡ suc l.0 = sym same ∙ (th.taken ∙ (l.1 ∙ add-one l.0)) in
        ap (λ (n : ℕ). input_at fed t n) kk
        ∙ (l.2 ∙ ap (λ (o : Option Hand). input_for (inputs_of fed t) (thread_after steps t).taken o) (sym hand.1))

    go : (o : Option Local) → (slice_index_or p.threads t none_part).hand ≡ o
        → IsInputAfter (inputs_of fed) t steps (input_at fed t k)
    go None at = absurd (let q : None ≡ Some k = sym (says none_part ∙ rw at refl) ∙ is in cc)
    go (Some place) at = found place at (sym (says none_part ∙ rw at refl) ∙ is)

-- where none is in hand it is the next one
pub input_none : {V : Type 0} (m : Meaning V) (fed : Fed) (threads : ℕ) (steps : List (Step V)) (p : Mastered V) (t : ℕ)
    (r : Option ℕ) (counts : Counts) → Stands m threads steps p → t < threads → r ≡ None
    → ((d : ThreadPart) → r ≡ input_in_hand (slice_index_or p.threads t d))
    → ((d : ThreadPart) → counts ≡ (slice_index_or p.threads t d).counts)
    → IsInputAfter (inputs_of fed) t steps (input_at fed t (counts.taken + 1))
input_none {V} m fed threads steps p t r counts stands low is says counted =
    go (slice_index_or p.threads t none_part).hand refl
  where
    go : (o : Option Local) → (slice_index_or p.threads t none_part).hand ≡ o
        → IsInputAfter (inputs_of fed) t steps (input_at fed t (counts.taken + 1))
    go (Some place) at = absurd (let q : Some (slice_index_or p.threads t none_part).counts.taken ≡ None =
        sym (says none_part ∙ rw at refl) ∙ is in
        cc)
    go None at =
        let th = stands.thread t none_part low in
        let hand : (thread_after steps t).hand ≡ None = no_hand (thread_after steps t).hand (sym th.hand ∙ at) in
        let taken : counts.taken ≡ (thread_after steps t).taken =
        ap (λ (c : Counts). c.taken) (counted none_part) ∙ th.taken in
        ap (λ (n : ℕ). input_at fed t n) (add-one counts.taken)
        ∙ (ap (λ (n : ℕ). slice_get (inputs_of fed t) n) taken
        ∙ ap (λ (o : Option Hand). input_for (inputs_of fed t) (thread_after steps t).taken o) (sym hand))

-- a thread that may make another move took few inputs
pub few_taken : {V : Type 0} (p : Mastered V) (t : ℕ) (counts : Counts) → HasRoom p t
    → ((d : ThreadPart) → counts ≡ (slice_index_or p.threads t d).counts) → counts.taken < 2 ^ 56
few_taken p t counts room counted =
    let k = room none_part in
    let c : counts.taken ≡ (slice_index_or p.threads t none_part).counts.taken =
    ap (λ (c : Counts). c.taken) (counted none_part) in
    omega (arith, k, c)

-- Whether a packet is in hand

-- whether a thread has a packet in hand is what its history tells
pub hand_is : {V : Type 0} (m : Meaning V) (threads : ℕ) (steps : List (Step V)) (p : Mastered V) (t : ℕ)
    → Stands m threads steps p → t < threads → has_hand (place_in_hand p t) ≡ is_some (thread_after steps t).hand
hand_is m threads steps p t is below =
    ap (λ (o : Option ThreadPart). is_some (hand_of (λ (part : ThreadPart). part.hand) o))
    (slice_get-get_or p.threads t none_part (omega (arith, is.threads_are)))
    ∙ (ap is_some (is.thread t none_part below).hand ∙ same (thread_after steps t).hand)
  where
    same : (h : Option Hand) → is_some (local_in h) ≡ is_some h
    same None = refl
    same (Some h) = refl

-- then there is a packet for the next move
pub input_there : {V A : Type 0} (m : Meaning V) (inputs : ℕ → List Packet) (threads : ℕ) (steps : List (Step V))
    (p : Mastered V) (t : ℕ) (f : A → Packet) (o : Option A) → Stands m threads steps p → t < threads
    → IsInputAfter inputs t steps (option_map f o) → IsTrue (has_hand (place_in_hand p t)) → IsSome o
input_there {V} {A} m inputs threads steps p t f o is below input has =
    go (thread_after steps t).hand o input (sym (hand_is m threads steps p t is below) ∙ has)
  where
    go : (h : Option Hand) (o : Option A) → option_map f o ≡ input_for (inputs t) (thread_after steps t).taken h
        → is_some h ≡ true → IsSome o
    go None o e k = absurd (cc)
    go (Some h) None e k = absurd (cc)
    go (Some h) (Some a) e k = refl
