-- What a move of the master needs, and what it logs and sends out has a frame.
use Rattle.std.proofs.Common.{◌≡◌, ℕ, ◌+◌, ◌<◌, ◌≤◌, List, ◌∷◌, length, refl, sym, ap, ◌∙◌, subst, inl, inr, ◌⊎◌, arith}
use Rattle.std.proofs.Common.{Option, Some, None, lit≤}
use Rattle.std.specs.Prelude.{slice_get, slice_index}
use Rattle.std.proofs.lemmas.Option.{slice_get-get_or}
use Rattle.plain_text.specs.Packets.{IsShort}
use Rattle.plain_text.specs.declared.limit.TheConstants.{MOST_CAPTURED, MOST_MOVES}
use Rattle.plain_text.specs.declared.packet.Packet.{Packet}
use Rattle.entry_order.specs.Log.{Entry, entries, places, IsIn, PrecedesOrIs, PrecedesOutput}
use Rattle.entry_order.specs.Stamps.{IsStamp, IsOutputStamp}
use Rattle.access_log.specs.declared.entry.StampedEntry.{StampedEntry}
use Rattle.access_log.specs.declared.entry.Output.{Output}
use Rattle.wire_frames.specs.Writing.{CanSend, CanTell, CanPutEntry, CanPutOutput}
use Rattle.plain_machine.specs.declared.local.Local.{Local}
use Rattle.plain_machine.specs.declared.local.Move.{Move}
use Rattle.plain_machine.specs.declared.local.Move.TheVariants as move
use Rattle.plain_machine.specs.declared.emission.Emission.{Emission}
use Rattle.plain_machine.specs.Program.{Meaning, IsLawful}
use Rattle.plain_machine.specs.Machine.{Hand, Thread, Effect, Takes, Touches, Looks, HearsClock, HearsDraw, Sends, Ends}
use Rattle.plain_machine.specs.Machine.{Moves, holding, take_move, hand_move, held_move, thread_move}
use Rattle.plain_machine.specs.History.{Act, Did, Emitted, Step, log_of, sent_of, act_of, emission_of, thread_after}
use Rattle.plain_machine.specs.History.{value_after, IsHistory}
use Rattle.plain_machine.proofs.Histories.{did_entry, did_emission}
use Rattle.plain_machine.proofs.LoggedEffects.{entry_thread}
use Rattle.box_program.specs.Hands.{local_in, input_for, hand_of, IsInputAfter}
use Rattle.plain_machine.proofs.Hands.{hand_input}
use Rattle.master_core.specs.declared.parts.ThreadPart.{ThreadPart}
use Rattle.master_core.specs.Mastered.{Mastered, place_in_hand, HasRoom}
use Rattle.master_core.specs.MasterStanding.{Stands}
use Rattle.master_core.specs.Stepping.{plain_entry, emission_of_output}
use Rattle.master_core.proofs.ListsLemmas.{moves_within}
use Rattle.recovery_world.specs.Files.{answer_of}
use Rattle.recovery_laws.proofs.LedMoves.{EntryFor, Made, made_step, move_entry}
use Rattle.recovery_laws.proofs.AcceptedRuns.{act_answer, held_answer}
use Rattle.run_end.proofs.InputLemmas.{none_part}

-- A thread has room for another move

pub has_room : {V : Type 0} (m : Meaning V) (threads : ℕ) (steps : List (Step V)) (p : Mastered V) (t moves : ℕ)
    → Stands m threads steps p → t < threads → length steps ≤ moves → moves ≤ MOST_MOVES → HasRoom p t
has_room m threads steps p t moves stands low within few = λ d.
    let made = (stands.thread t d low).made in
    let k = moves_within t steps in
    let most : MOST_MOVES ≤ 2000000 = lit≤ tt in
    omega (arith, made, k, within, few, most)

-- Whether a packet is in hand

-- and where the program is with it
pub place_is : {V : Type 0} (m : Meaning V) (threads : ℕ) (steps : List (Step V)) (p : Mastered V) (t : ℕ)
    → Stands m threads steps p → t < threads → place_in_hand p t ≡ local_in (thread_after steps t).hand
place_is m threads steps p t is below =
    ap (λ (o : Option ThreadPart). hand_of (λ (part : ThreadPart). part.hand) o)
    (slice_get-get_or p.threads t none_part (omega (arith, is.threads_are)))
    ∙ (is.thread t none_part below).hand

-- The answer of a move

-- the answer that a step was told is the one that its act tells
pub made_answer : {V : Type 0} (m : Meaning V) (inputs : ℕ → List Packet) (threads : ℕ) (A : List (Step V)) (t : ℕ)
    (a : Option ℕ) (x : Step V) → Made m inputs threads A t a x → answer_of x.act ≡ a
made_answer {V} m inputs threads A t a x h =
    let th = thread_after A t in
    ap (λ (c : Act V). answer_of c) h.act
    ∙ act_answer t x.after.taken A h.effect
    ∙ sym (held_answer m (inputs t) (value_after m A) th.taken a th.hand x.after h.effect h.moved)

-- What a step sent out

-- what is sent out is sent with a packet in hand, and no input is taken then
hand_sends : {V : Type 0} (m : Meaning V) (value : ℕ → V) (taken : ℕ) (h : Hand) (a : Option ℕ) (k : Move)
    (after : Thread) (p : Packet) → hand_move m value taken h a k ≡ Moves after (Sends p) → after.taken ≡ taken
hand_sends m value taken h None move.Emit after p e =
    let q : holding taken h.packet (m.emitted h.place) ≡ after = cc in ap (λ (t : Thread). t.taken) (sym q)
hand_sends m value taken h None (move.Access v) after p e = absurd (cc)
hand_sends m value taken h None (move.Read v) after p e = absurd (cc)
hand_sends m value taken h (Some a) move.Clock after p e = absurd (cc)
hand_sends m value taken h (Some a) move.Draw after p e = absurd (cc)
hand_sends m value taken h None move.End after p e = absurd (cc)
hand_sends m value taken h (Some a) (move.Access v) after p e = absurd (cc)
hand_sends m value taken h (Some a) (move.Read v) after p e = absurd (cc)
hand_sends m value taken h (Some a) move.Emit after p e = absurd (cc)
hand_sends m value taken h (Some a) move.End after p e = absurd (cc)
hand_sends m value taken h None move.Clock after p e = absurd (cc)
hand_sends m value taken h None move.Draw after p e = absurd (cc)

held_sends : {V : Type 0} (m : Meaning V) (packets : List Packet) (value : ℕ → V) (taken : ℕ) (a : Option ℕ)
    (hand : Option Hand) (after : Thread) (p : Packet) → held_move m packets value taken a hand ≡ Moves after (Sends p)
    → (h : Hand) × (hand ≡ Some h) × (after.taken ≡ taken)
held_sends m packets value taken a (Some h) after p e =
    (h, refl, hand_sends m value taken h a (m.next h.place) after p e)
held_sends {V} m packets value taken a None after p e = absurd (go a (slice_get packets taken) e)
  where
    go : (a : Option ℕ) (i : Option Packet) → take_move m taken a i ≡ Moves after (Sends p) → ⊥
    go (Some a) i e = cc
    go None None e = cc
    go None (Some q) e = cc

-- an output has the number of the input that was taken last
did_send : {V : Type 0} (t taken : ℕ) (A : List (Step V)) (d : Effect V) (o : Emission) → act_of t A taken d ≡ Emitted o
    → (p : Packet) × (d ≡ Sends p) × (o.input ≡ taken)
did_send t taken A Takes o e = absurd (cc)
did_send t taken A (Touches v left) o e = absurd (cc)
did_send t taken A (Looks v) o e = absurd (cc)
did_send t taken A (HearsClock a) o e = absurd (cc)
did_send t taken A (HearsDraw a) o e = absurd (cc)
did_send t taken A (Sends p) o e =
    let q : emission_of t (sent_of A) taken p ≡ o = cc in (p, refl, ap (λ (x : Emission). x.input) (sym q))
did_send t taken A Ends o e = absurd (cc)

-- an output is sent out with a packet in hand, which is an input
pub record SendsInput (inputs : List Packet) (hand : Option Hand) (o : Emission) : Type 0 where
  pub packet : Hand
  pub hand_is : hand ≡ Some packet
  pub number : ℕ
  pub there : slice_get inputs number ≡ Some packet.packet
  pub input : o.input ≡ number + 1

pub sends_input : {V : Type 0} (m : Meaning V) (inputs : ℕ → List Packet) (threads : ℕ) (A : List (Step V)) (t : ℕ)
    (a : Option ℕ) (x : Step V) (o : Emission) → IsHistory m inputs threads A → Made m inputs threads A t a x
    → x.act ≡ Emitted o → SendsInput (inputs t) (thread_after A t).hand o
sends_input {V} m inputs threads A t a x o hist made act =
    let sent = did_send t x.after.taken A made.effect o (sym made.act ∙ act) in
    let moved =
    subst (λ (d : Effect V). thread_move m (inputs t) (value_after m A) (thread_after A t) a ≡ Moves x.after d) sent.1
    made.moved in
    let held =
    held_sends m (inputs t) (value_after m A) (thread_after A t).taken a (thread_after A t).hand x.after sent.0 moved in
    let last = hand_input m inputs threads A hist t held.0 held.1 in
    record { packet = held.0; hand_is = held.1; number = last.0; there = last.2; input = sent.2 ∙ held.2 ∙ last.1 }

-- What was logged or sent out has a frame

-- what an entry tells can be written
tell : {V : Type 0} (m : Meaning V) (fits : ℕ → V → Type 0) → IsLawful m fits → (l : Local) (t : ℕ) (log : List Entry)
    (a : Option ℕ) (e : Entry) (k : Move) → m.next l ≡ k → EntryFor t k log a e → CanTell e.what
tell m fits lawful l t log a e (move.Access v) is same =
    subst (λ (x : Entry). CanTell x.what) (sym same) (let w = lawful.touches_var l v is in
    let few = lawful.few_vars in
    let low : v < 256 = omega (arith, w, few) in let one : 1 ≤ places v log + 1 = omega arith in (low, one))
tell m fits lawful l t log a e (move.Read v) is same =
    subst (λ (x : Entry). CanTell x.what) (sym same)
    (let w = lawful.reads_var l v is in let few = lawful.few_vars in let low : v < 256 = omega (arith, w, few) in low)
tell m fits lawful l t log a e move.Clock is (b, told, same) = subst (λ (x : Entry). CanTell x.what) (sym same) tt
tell m fits lawful l t log a e move.Draw is (b, told, same) = subst (λ (x : Entry). CanTell x.what) (sym same) tt
tell m fits lawful l t log a e move.Emit is h = absurd h
tell m fits lawful l t log a e move.End is h = absurd h

-- no component of a thread that is not there
none_above : {V : Type 0} (m : Meaning V) (inputs : ℕ → List Packet) (threads : ℕ) (steps : List (Step V))
    (stamp : ℕ → ℕ) (Before : Entry → Type 0) → IsHistory m inputs threads steps
    → ((u : ℕ)
    → (stamp u ≡ 0) ⊎ ((f : Entry) × IsIn f (log_of steps) × (f.thread ≡ u) × (f.number ≡ stamp u) × Before f))
    → (u : ℕ) → threads ≤ u → stamp u ≡ 0
none_above m inputs threads steps stamp Before hist reached u high = go (reached u)
  where
    go : (stamp u ≡ 0) ⊎ ((f : Entry) × IsIn f (log_of steps) × (f.thread ≡ u) × (f.number ≡ stamp u) × Before f)
        → stamp u ≡ 0
    go (inl zero_there) = zero_there
    go (inr (f, here, th, number, before)) =
        let low = entry_thread m inputs threads steps f hist here in absurd (omega (arith, low, th, high))

-- what an entry, or an output, needs of the thread, its number and its stamp
can_send : {V : Type 0} (m : Meaning V) (inputs : ℕ → List Packet) (epoch threads there : ℕ) (steps : List (Step V))
    (t thread number : ℕ) (stamp : List ℕ) (Before : Entry → Type 0) → IsHistory m inputs threads steps → 1 ≤ epoch
    → there ≡ threads → 1 ≤ threads → threads ≤ 16 → t < threads → thread ≡ t → 1 ≤ number
    → ((u : ℕ)
    → (slice_index stamp u ≡ 0)
    ⊎ ((f : Entry) × IsIn f (log_of steps) × (f.thread ≡ u) × (f.number ≡ slice_index stamp u) × Before f))
    → CanSend epoch there thread number stamp
can_send m inputs epoch threads there steps t thread number stamp Before hist one same some few low th from reached =
    record {
      epoch_from = one;
      threads_from = omega (arith, same, some);
      threads_to = omega (arith, same, few);
      of_these = omega (arith, same, low, th);
      number_from = from;
      none = λ u high. none_above m inputs threads steps (λ v. slice_index stamp v) Before hist reached u
          (omega (arith, same, high));
    }

-- the frame of an entry, and of an output
pub can_put_entry : {V : Type 0} (m : Meaning V) (fits : ℕ → V → Type 0) (inputs : ℕ → List Packet)
    (epoch threads there : ℕ) (A : List (Step V)) (t : ℕ) (a : Option ℕ) (x : Step V) (e : StampedEntry)
    (left : Option V) → IsLawful m fits → IsHistory m inputs threads A → 1 ≤ epoch → there ≡ threads → 1 ≤ threads
    → threads ≤ 16 → Made m inputs threads A t a x → x.act ≡ Did (plain_entry e) left
    → IsStamp (log_of (x ∷ A)) (plain_entry e) (λ u. slice_index e.stamp u) → CanPutEntry epoch there e
can_put_entry m fits inputs epoch threads there A t a x e left lawful hist one same some few made act stamp =
    let did = did_entry t x.after.taken A made.effect (plain_entry e) left (sym made.act ∙ act) in
    let entry = move_entry m (inputs t) (value_after m A) t (thread_after A t) a x.after made.effect A x.after.taken
    (plain_entry e) left made.moved (sym made.act ∙ act) in
    let number : 1 ≤ e.number = let n = did.1 in omega (arith, n) in
    record {
      sent = can_send m inputs epoch threads there (x ∷ A) t e.thread e.number e.stamp
          (λ f. PrecedesOrIs (log_of (x ∷ A)) f (plain_entry e)) (made_step m inputs threads A t a x made, hist) one
          same some few made.low did.0 number stamp.reached;
      what = tell m fits lawful entry.0.place t (log_of A) a (plain_entry e) (m.next entry.0.place) refl entry.2;
    }

pub can_put_output : {V : Type 0} (m : Meaning V) (inputs : ℕ → List Packet) (epoch threads there : ℕ)
    (A : List (Step V)) (t : ℕ) (a : Option ℕ) (x : Step V) (o : Output) (i : Option Packet)
    → IsHistory m inputs threads A → 1 ≤ epoch → there ≡ threads → 1 ≤ threads → threads ≤ 16
    → Made m inputs threads A t a x → x.act ≡ Emitted (emission_of_output o)
    → IsOutputStamp (log_of A) o.thread (entries o.thread (log_of A)) (λ u. slice_index o.stamp u)
    → IsInputAfter inputs t A i → ((p : Packet) → i ≡ Some p → length o.packet.bytes ≡ length p.bytes)
    → ((k : ℕ) (p : Packet) → slice_get (inputs t) k ≡ Some p → IsShort p) → CanPutOutput epoch there o
can_put_output m inputs epoch threads there A t a x o i hist one same some few made act stamp input as_long short =
    let did = did_emission t x.after.taken A made.effect (emission_of_output o) (sym made.act ∙ act) in
    let sends = sends_input m inputs threads A t a x (emission_of_output o) hist made act in
    let is : i ≡ Some sends.packet.packet =
    input ∙ ap (λ (h : Option Hand). input_for (inputs t) (thread_after A t).taken h) sends.hand_is in
    let long = as_long sends.packet.packet is in
    let few_bytes : length sends.packet.packet.bytes ≤ MOST_CAPTURED =
    short sends.number sends.packet.packet sends.there in
    let number : 1 ≤ o.number = let n = did.1 in omega (arith, n) in
    record {
      sent = can_send m inputs epoch threads there A t o.thread o.number o.stamp
          (λ f. PrecedesOutput (log_of A) o.thread (entries o.thread (log_of A)) f) hist one same some few made.low
          did.0 number stamp.reached;
      input = let n = sends.input in omega (arith, n);
      captured = subst (λ (n : ℕ). n ≤ MOST_CAPTURED) (sym long) few_bytes;
    }
