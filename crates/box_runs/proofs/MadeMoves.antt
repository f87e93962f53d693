-- The moves of a thread of any program, each with what it found and where it goes.
use Rattle.std.proofs.Common.{◌≡◌, ◌≢◌, ℕ, ◌+◌, ◌-◌, ◌≤◌, List, [], ◌∷◌, refl, sym, ap, ◌∙◌, subst, ◌⊎◌, inl, inr}
use Rattle.std.proofs.Common.{arith, Option, Some, None}
use Rattle.std.specs.Prelude.{slice_get}
use Rattle.plain_text.specs.declared.packet.Packet.{Packet}
use Rattle.entry_order.proofs.Order.{is_or}
use Rattle.plain_machine.specs.declared.emission.Emission.{Emission}
use Rattle.plain_machine.specs.declared.local.Local.{Local}
use Rattle.plain_machine.specs.declared.local.Move.{Move}
use Rattle.plain_machine.specs.declared.local.Move.TheVariants.{Access, Read, Clock, Draw, Emit, End}
use Rattle.plain_machine.specs.Program.{Meaning}
use Rattle.plain_machine.specs.Machine.{Hand, Thread, Effect, Takes, Touches, Looks, HearsClock, HearsDraw, Sends, Ends}
use Rattle.plain_machine.specs.Machine.{Moves, holding, sent_packet, take_move, hand_move, held_move}
use Rattle.plain_machine.specs.History.{Emitted, Step, sent_of, act_of, emission_of, thread_after, value_after}
use Rattle.plain_machine.specs.History.{IsHistory}
use Rattle.plain_machine.proofs.Histories.{not_eq, is_eq}
use Rattle.box_runs.specs.Outputs.{IsInput}

abbrev pub Made : {V : Type 0} → Meaning V → List Packet → ℕ → (ℕ → V) → Option Hand → Thread → Effect V → Type 0
Made m packets taken value before after Takes =
    (before ≡ None) × (p : Packet) × (slice_get packets taken ≡ Some p) × (holding (taken + 1) p (m.begin p) ≡ after)
Made m packets taken value before after (Touches v left) =
    (h : Hand) × (before ≡ Some h) × (m.next h.place ≡ Access v) × ((m.touch v (value v) h.place).0 ≡ left)
    × (holding taken h.packet (m.touch v (value v) h.place).1 ≡ after)
Made m packets taken value before after (Looks v) =
    (h : Hand) × (before ≡ Some h) × (m.next h.place ≡ Read v)
    × (holding taken h.packet (m.look v (value v) h.place) ≡ after)
Made m packets taken value before after (HearsClock a) =
    (h : Hand) × (before ≡ Some h) × (m.next h.place ≡ Clock) × (holding taken h.packet (m.told a h.place) ≡ after)
Made m packets taken value before after (HearsDraw a) =
    (h : Hand) × (before ≡ Some h) × (m.next h.place ≡ Draw) × (holding taken h.packet (m.told a h.place) ≡ after)
Made m packets taken value before after (Sends q) =
    (h : Hand) × (before ≡ Some h) × (m.next h.place ≡ Emit) × (sent_packet m h ≡ q)
    × (holding taken h.packet (m.emitted h.place) ≡ after)
Made m packets taken value before after Ends =
    (h : Hand) × (before ≡ Some h) × (m.next h.place ≡ End) × (record { taken = taken; hand = None } ≡ after)

module _ {V : Type 0} (m : Meaning V) (packets : List Packet) (value : ℕ → V) (taken : ℕ) (after : Thread)
    (d : Effect V) where
  along : (before : Option Hand) (u : Effect V) → u ≡ d → Made m packets taken value before after u
      → Made m packets taken value before after d
  along before u r h = subst (Made m packets taken value before after) r h

  of_hand : (h : Hand) (a : Option ℕ) (w : Move) → m.next h.place ≡ w
      → hand_move m value taken h a w ≡ Moves after d → Made m packets taken value (Some h) after d
  of_hand h None (Access v) w e =
      along (Some h) (Touches v (m.touch v (value v) h.place).0) (cc) (h, refl, w, refl, cc)
  of_hand h None (Read v) w e = along (Some h) (Looks v) (cc) (h, refl, w, cc)
  of_hand h (Some x) Clock w e = along (Some h) (HearsClock x) (cc) (h, refl, w, cc)
  of_hand h (Some x) Draw w e = along (Some h) (HearsDraw x) (cc) (h, refl, w, cc)
  of_hand h None Emit w e = along (Some h) (Sends (sent_packet m h)) (cc) (h, refl, w, refl, cc)
  of_hand h None End w e = along (Some h) Ends (cc) (h, refl, w, cc)
  of_hand h (Some x) (Access v) w e = absurd (cc)
  of_hand h (Some x) (Read v) w e = absurd (cc)
  of_hand h (Some x) Emit w e = absurd (cc)
  of_hand h (Some x) End w e = absurd (cc)
  of_hand h None Clock w e = absurd (cc)
  of_hand h None Draw w e = absurd (cc)

  of_none : (a : Option ℕ) (i : Option Packet) → slice_get packets taken ≡ i
      → take_move m taken a i ≡ Moves after d → Made m packets taken value None after d
  of_none (Some a) i is e = absurd (cc)
  of_none None None is e = absurd (cc)
  of_none None (Some p) is e = along None Takes (cc) (refl, p, is, cc)

  pub made : (hand : Option Hand) (a : Option ℕ) → held_move m packets value taken a hand ≡ Moves after d
      → Made m packets taken value hand after d
  made None a e = of_none a (slice_get packets taken) refl e
  made (Some h) a e = of_hand h a (m.next h.place) refl e

-- the packet in hand is the input that was taken last
abbrev IsHeld : List Packet → ℕ → Option Hand → Type 0
IsHeld packets taken None = Unit {0}
IsHeld packets taken (Some h) = (1 ≤ taken) × (slice_get packets (taken - 1) ≡ Some h.packet)

module _ {V : Type 0} (m : Meaning V) where
  abbrev HeldBy : List Packet → Thread → Type 0
  HeldBy packets th = IsHeld packets th.taken th.hand

  still : (packets : List Packet) (taken : ℕ) (before : Option Hand) (h : Hand) (place : Local) (after : Thread)
      → before ≡ Some h → holding taken h.packet place ≡ after → IsHeld packets taken before → HeldBy packets after
  still packets taken before h place after is goes old =
      let held : IsHeld packets taken (Some h) = subst (IsHeld packets taken) is old in
      subst (HeldBy packets) goes held

  held_on : (packets : List Packet) (taken : ℕ) (value : ℕ → V) (before : Option Hand) (after : Thread) (d : Effect V)
      → IsHeld packets taken before → Made m packets taken value before after d → HeldBy packets after
  held_on packets taken value before after Takes old (was, p, is, goes) =
      let at : taken ≡ taken + 1 - 1 = omega arith in
      let held : HeldBy packets (holding (taken + 1) p (m.begin p)) =
      (omega arith, subst (λ (k : ℕ). slice_get packets k ≡ Some p) at is) in
      subst (HeldBy packets) goes held
  held_on packets taken value before after (Touches v left) old (h, is, next, leaves, goes) =
      still packets taken before h (m.touch v (value v) h.place).1 after is goes old
  held_on packets taken value before after (Looks v) old (h, is, next, goes) =
      still packets taken before h (m.look v (value v) h.place) after is goes old
  held_on packets taken value before after (HearsClock a) old (h, is, next, goes) =
      still packets taken before h (m.told a h.place) after is goes old
  held_on packets taken value before after (HearsDraw a) old (h, is, next, goes) =
      still packets taken before h (m.told a h.place) after is goes old
  held_on packets taken value before after (Sends q) old (h, is, next, leaves, goes) =
      still packets taken before h (m.emitted h.place) after is goes old
  held_on packets taken value before after Ends old (h, is, next, goes) = subst (HeldBy packets) goes tt

  -- the newest step of a history, as a move of its thread
  pub step_made : (threads : ℕ) (inputs : ℕ → List Packet) (x : Step V) (earlier : List (Step V))
      → (h : IsHistory m inputs threads (x ∷ earlier))
      → Made m (inputs x.thread) (thread_after earlier x.thread).taken (value_after m earlier)
      (thread_after earlier x.thread).hand x.after h.0.2
  step_made threads inputs x earlier h =
      made m (inputs x.thread) (value_after m earlier) (thread_after earlier x.thread).taken x.after h.0.2
      (thread_after earlier x.thread).hand h.0.1 h.0.3

  run_held : (threads : ℕ) (inputs : ℕ → List Packet) (steps : List (Step V)) → IsHistory m inputs threads steps
      → (t : ℕ) → HeldBy (inputs t) (thread_after steps t)
  run_held threads inputs [] h t = tt
  run_held threads inputs (x ∷ earlier) h t =
      let new = held_on (inputs x.thread) (thread_after earlier x.thread).taken (value_after m earlier)
      (thread_after earlier x.thread).hand x.after h.0.2 (run_held threads inputs earlier h.1 x.thread)
      (step_made threads inputs x earlier h) in
      by (is_or x.thread t) new (run_held threads inputs earlier h.1 t)
    where
      by : (x.thread ≡ t) ⊎ (x.thread ≢ t) → HeldBy (inputs x.thread) x.after
          → HeldBy (inputs t) (thread_after earlier t) → HeldBy (inputs t) (thread_after (x ∷ earlier) t)
      by (inl e) new old =
          subst (λ (u : ℕ). HeldBy (inputs u) (thread_after (x ∷ earlier) u)) e
          (rw (is_eq x.thread x.thread refl) new)
      by (inr e) new old = rw (not_eq x.thread t e) old

  -- what goes out is made of the packet in hand, which is the thread's input of the emission's number
  pub sends_input : (threads : ℕ) (inputs : ℕ → List Packet) (x : Step V) (earlier : List (Step V)) (o : Emission)
      → IsHistory m inputs threads (x ∷ earlier) → x.act ≡ Emitted o
      → (h : Hand) × ((thread_after earlier x.thread).hand ≡ Some h) × (m.next h.place ≡ Emit)
      × (o.packet ≡ sent_packet m h) × IsInput inputs x.thread o.input h.packet
  sends_input threads inputs x earlier o h sent =
      by h.0.2 (sym h.0.4 ∙ sent) (step_made threads inputs x earlier h) (run_held threads inputs earlier h.1 x.thread)
    where
      th : Thread
      th = thread_after earlier x.thread

      by : (d : Effect V) → act_of x.thread earlier x.after.taken d ≡ Emitted o
          → Made m (inputs x.thread) th.taken (value_after m earlier) th.hand x.after d
          → IsHeld (inputs x.thread) th.taken th.hand
          → (h : Hand) × (th.hand ≡ Some h) × (m.next h.place ≡ Emit) × (o.packet ≡ sent_packet m h)
          × IsInput inputs x.thread o.input h.packet
      by Takes e made held = absurd (cc)
      by (Touches v left) e made held = absurd (cc)
      by (Looks v) e made held = absurd (cc)
      by (HearsClock a) e made held = absurd (cc)
      by (HearsDraw a) e made held = absurd (cc)
      by Ends e made held = absurd (cc)
      by (Sends q) e (h, is, next, leaves, goes) held =
          let same : emission_of x.thread (sent_of earlier) x.after.taken q ≡ o = cc in
          let input : x.after.taken ≡ o.input = ap (λ (y : Emission). y.input) same in
          let packet : q ≡ o.packet = ap (λ (y : Emission). y.packet) same in
          let taken : th.taken ≡ x.after.taken = ap (λ (y : Thread). y.taken) goes in
          let there : IsHeld (inputs x.thread) th.taken (Some h) = subst (IsHeld (inputs x.thread) th.taken) is held in
          let number : IsInput inputs x.thread o.input h.packet =
          subst (λ (k : ℕ). IsInput inputs x.thread k h.packet) (taken ∙ input) there in
          (h, is, next, sym (leaves ∙ packet), number)
