-- The packet that a thread has in hand is the input that it took last.
use Rattle.std.proofs.Common.{◌≡◌, ◌≢◌, ℕ, ◌+◌, ◌-◌, ◌≤◌, ◌⊎◌, inl, inr, List, [], ◌∷◌, refl, subst, arith, Option}
use Rattle.std.proofs.Common.{Some, None}
use Rattle.std.specs.Prelude.{slice_get}
use Rattle.plain_text.specs.declared.packet.Packet.{Packet}
use Rattle.entry_order.proofs.Order.{is_or}
use Rattle.plain_machine.specs.declared.local.Move.{Move}
use Rattle.plain_machine.specs.declared.local.Move.TheVariants.{Access, Read, Clock, Draw, Emit, End}
use Rattle.plain_machine.specs.Program.{Meaning}
use Rattle.plain_machine.specs.Machine.{Hand, Thread, Effect, Moves, holding, take_move, hand_move, held_move}
use Rattle.plain_machine.specs.History.{Step, thread_after, value_after, IsHistory}
use Rattle.plain_machine.proofs.Histories.{not_eq, is_eq}

abbrev pub IsHeld : List Packet → ℕ → Option Hand → Type 0
IsHeld packets taken None = Unit {0}
IsHeld packets taken (Some h) = (1 ≤ taken) × (slice_get packets (taken - 1) ≡ Some h.packet)

module _ {V : Type 0} (m : Meaning V) (packets : List Packet) (value : ℕ → V) (taken : ℕ) (after : Thread)
    (effect : Effect V) where
  along : (th : Thread) → th ≡ after → IsHeld packets th.taken th.hand → IsHeld packets after.taken after.hand
  along th same is = subst (λ (x : Thread). IsHeld packets x.taken x.hand) same is

  of_hand : (h : Hand) (a : Option ℕ) (w : Move) → IsHeld packets taken (Some h)
      → hand_move m value taken h a w ≡ Moves after effect → IsHeld packets after.taken after.hand
  of_hand h None (Access v) is e = along (holding taken h.packet (m.touch v (value v) h.place).1) (cc) is
  of_hand h None (Read v) is e = along (holding taken h.packet (m.look v (value v) h.place)) (cc) is
  of_hand h (Some x) Clock is e = along (holding taken h.packet (m.told x h.place)) (cc) is
  of_hand h (Some x) Draw is e = along (holding taken h.packet (m.told x h.place)) (cc) is
  of_hand h None Emit is e = along (holding taken h.packet (m.emitted h.place)) (cc) is
  of_hand h None End is e = along (record { taken = taken; hand = None }) (cc) tt
  of_hand h (Some x) (Access v) is e = absurd (cc)
  of_hand h (Some x) (Read v) is e = absurd (cc)
  of_hand h (Some x) Emit is e = absurd (cc)
  of_hand h (Some x) End is e = absurd (cc)
  of_hand h None Clock is e = absurd (cc)
  of_hand h None Draw is e = absurd (cc)

  of_none : (a : Option ℕ) (i : Option Packet) → slice_get packets taken ≡ i
      → take_move m taken a i ≡ Moves after effect → IsHeld packets after.taken after.hand
  of_none (Some a) i is e = absurd (cc)
  of_none None None is e = absurd (cc)
  of_none None (Some p) is e =
      let at : taken ≡ taken + 1 - 1 = omega arith in
      along (holding (taken + 1) p (m.begin p)) (cc)
      (omega arith, subst (λ (k : ℕ). slice_get packets k ≡ Some p) at is)

  pub move_holds : (hand : Option Hand) (a : Option ℕ) → IsHeld packets taken hand
      → held_move m packets value taken a hand ≡ Moves after effect → IsHeld packets after.taken after.hand
  move_holds None a is e = of_none a (slice_get packets taken) refl e
  move_holds (Some h) a is e = of_hand h a (m.next h.place) is e

pub run_holds : {V : Type 0} (m : Meaning V) (threads : ℕ) (inputs : ℕ → List Packet) (steps : List (Step V))
    → IsHistory m inputs threads steps → (t : ℕ)
    → IsHeld (inputs t) (thread_after steps t).taken (thread_after steps t).hand
run_holds m threads inputs [] h t = tt
run_holds m threads inputs (x ∷ earlier) h t =
    let old = thread_after earlier x.thread in
    let new = move_holds m (inputs x.thread) (value_after m earlier) old.taken x.after h.0.2 old.hand h.0.1
    (run_holds m threads inputs earlier h.1 x.thread) h.0.3 in
    by (is_or x.thread t) new (run_holds m threads inputs earlier h.1 t)
  where
    by : (x.thread ≡ t) ⊎ (x.thread ≢ t) → IsHeld (inputs x.thread) x.after.taken x.after.hand
        → IsHeld (inputs t) (thread_after earlier t).taken (thread_after earlier t).hand
        → IsHeld (inputs t) (thread_after (x ∷ earlier) t).taken (thread_after (x ∷ earlier) t).hand
    by (inl e) new old =
        subst (λ (u : ℕ). IsHeld (inputs u) (thread_after (x ∷ earlier) u).taken (thread_after (x ∷ earlier) u).hand) e
        (rw (is_eq x.thread x.thread refl) new)
    by (inr e) new old = rw (not_eq x.thread t e) old
