-- What a master has of its threads after a move.
use Rattle.std.proofs.Common.{◌≡◌, ℕ, ◌+◌, ◌≤◌, ◌≢◌, List, ◌∷◌, refl, sym, ap, ◌∙◌, subst, arith, true, false, Some}
use Rattle.std.proofs.Common.{None}
use Rattle.std.specs.Prelude.{nat_eq, slice_index}
use Rattle.std.proofs.lemmas.Bool.Decides.{nat_tests}
use Rattle.plain_text.specs.declared.packet.Packet.{Packet}
use Rattle.entry_order.specs.declared.what.What.{What}
use Rattle.entry_order.specs.declared.what.What.TheVariants.{Access, Read, Clock, Draw}
use Rattle.entry_order.specs.Log.{Entry, entries, places, IsLog}
use Rattle.entry_order.specs.Stamps.{IsStamp, IsOutputStamp}
use Rattle.box_program.specs.Hands.{local_in}
use Rattle.plain_machine.specs.declared.local.Local.{Local}
use Rattle.plain_machine.specs.Machine.{Thread, Effect, Takes, Touches, Looks, HearsClock, HearsDraw, Sends, Ends}
use Rattle.plain_machine.specs.Machine.{holding}
use Rattle.plain_machine.specs.History.{Step, log_of, sent_of, outputs, moves_of, thread_after, entry_of, step_of}
use Rattle.master_core.specs.declared.parts.ThreadPart.{ThreadPart}
use Rattle.master_core.specs.Mastered.{in_hand_count}
use Rattle.master_core.specs.MasterStanding.{IsThread}
use Rattle.master_core.specs.Effects.{after_take, after_entry, after_emit, after_end}
use Rattle.plain_machine.proofs.Histories.{moved_thread}
use Rattle.master_core.proofs.StampedLemmas.{own_output, other_output}

-- The thread that moved

mine : (t : ℕ) → nat_eq t t ≡ true
mine t = grind (arith, nat_tests)

-- it made one move more
moved_more : {V : Type 0} (steps : List (Step V)) (t : ℕ) (after : Thread) (effect : Effect V)
    → moves_of t (step_of t steps after effect ∷ steps) ≡ moves_of t steps + 1
moved_more steps t after effect = rw (mine t) refl

-- a thread that took its next input
pub take_on : {V : Type 0} (steps : List (Step V)) (t : ℕ) (packet : Packet) (place : Local) (part : ThreadPart)
    → part.hand ≡ None → IsThread steps t part
    → IsThread (step_of t steps (holding ((thread_after steps t).taken + 1) packet place) Takes ∷ steps) t
    (after_take part place)
take_on {V} steps t packet place part none is = record {
  taken = ap (λ n. n + 1) is.taken ∙ ap (λ (th : Thread). th.taken) (sym here);
  logged = is.logged;
  outputs = is.outputs;
  hand = ap (λ (th : Thread). local_in th.hand) (sym here);
  made = let zero_in : in_hand_count part.hand ≡ 0 = ap in_hand_count none in omega (arith, zero_in, is.made, more);
  stamp = is.stamp;
}
  where
    after : Thread
    after = holding ((thread_after steps t).taken + 1) packet place

    x : Step V
    x = step_of t steps after Takes

    here : thread_after (x ∷ steps) t ≡ after
    here = moved_thread steps t after Takes

    more : moves_of t (x ∷ steps) ≡ moves_of t steps + 1
    more = moved_more steps t after Takes

-- a thread that sent a packet out
pub emit_on : {V : Type 0} (steps : List (Step V)) (t : ℕ) (packet sent : Packet) (place place' : Local)
    (part : ThreadPart) → part.hand ≡ Some place → IsThread steps t part
    → IsThread (step_of t steps (holding (thread_after steps t).taken packet place') (Sends sent) ∷ steps) t
    (after_emit part place')
emit_on {V} steps t packet sent place place' part some is = record {
  taken = is.taken ∙ ap (λ (th : Thread). th.taken) (sym here);
  logged = is.logged;
  outputs = ap (λ n. n + 1) is.outputs ∙ sym (rw (mine t) refl);
  hand = ap (λ (th : Thread). local_in th.hand) (sym here);
  made = let one_in : in_hand_count part.hand ≡ 1 = ap in_hand_count some in omega (arith, one_in, is.made, more);
  stamp = is.stamp;
}
  where
    after : Thread
    after = holding (thread_after steps t).taken packet place'

    x : Step V
    x = step_of t steps after (Sends sent)

    here : thread_after (x ∷ steps) t ≡ after
    here = moved_thread steps t after (Sends sent)

    more : moves_of t (x ∷ steps) ≡ moves_of t steps + 1
    more = moved_more steps t after (Sends sent)

-- a thread that ended its packet
pub end_on : {V : Type 0} (steps : List (Step V)) (t : ℕ) (place : Local) (part : ThreadPart) → part.hand ≡ Some place
    → 1 ≤ part.counts.taken → IsThread steps t part
    → IsThread (step_of t steps (record { taken = (thread_after steps t).taken; hand = None }) Ends ∷ steps) t
    (after_end part)
end_on {V} steps t place part some low is = record {
  taken = is.taken ∙ ap (λ (th : Thread). th.taken) (sym here);
  logged = is.logged;
  outputs = is.outputs;
  hand = ap (λ (th : Thread). local_in th.hand) (sym here);
  made = let one_in : in_hand_count part.hand ≡ 1 = ap in_hand_count some in omega (arith, one_in, is.made, more);
  stamp = is.stamp;
}
  where
    after : Thread
    after = record { taken = (thread_after steps t).taken; hand = None }

    x : Step V
    x = step_of t steps after Ends

    here : thread_after (x ∷ steps) t ≡ after
    here = moved_thread steps t after Ends

    more : moves_of t (x ∷ steps) ≡ moves_of t steps + 1
    more = moved_more steps t after Ends

-- a thread that made an entry of this content, with this stamp
pub entry_on : {V : Type 0} (steps : List (Step V)) (t : ℕ) (packet : Packet) (place place' : Local) (effect : Effect V)
    (what : What) (stamp : List ℕ) (part : ThreadPart)
    → log_of (step_of t steps (holding (thread_after steps t).taken packet place') effect ∷ steps)
    ≡ entry_of t (log_of steps) what ∷ log_of steps
    → sent_of (step_of t steps (holding (thread_after steps t).taken packet place') effect ∷ steps) ≡ sent_of steps
    → IsLog (entry_of t (log_of steps) what ∷ log_of steps)
    → IsStamp (entry_of t (log_of steps) what ∷ log_of steps) (entry_of t (log_of steps) what)
    (λ u. slice_index stamp u) → part.hand ≡ Some place → IsThread steps t part
    → IsThread (step_of t steps (holding (thread_after steps t).taken packet place') effect ∷ steps) t
    (after_entry part place' stamp)
entry_on {V} steps t packet place place' effect what stamp part log_is sent_is good st some is = record {
  taken = is.taken ∙ ap (λ (th : Thread). th.taken) (sym here);
  logged = ap (λ n. n + 1) is.logged ∙ (sym counted ∙ ap (entries t) (sym log_is));
  outputs = is.outputs ∙ ap (outputs t) (sym sent_is);
  hand = ap (λ (th : Thread). local_in th.hand) (sym here);
  made = let one_in : in_hand_count part.hand ≡ 1 = ap in_hand_count some in omega (arith, one_in, is.made, more);
  stamp = subst (λ (log : List Entry). IsOutputStamp log t (entries t log) (λ u. slice_index stamp u)) (sym log_is)
      (own_output (log_of steps) (entry_of t (log_of steps) what) (λ u. slice_index stamp u) good st);
}
  where
    after : Thread
    after = holding (thread_after steps t).taken packet place'

    x : Step V
    x = step_of t steps after effect

    here : thread_after (x ∷ steps) t ≡ after
    here = moved_thread steps t after effect

    more : moves_of t (x ∷ steps) ≡ moves_of t steps + 1
    more = moved_more steps t after effect

    counted : entries t (entry_of t (log_of steps) what ∷ log_of steps) ≡ entries t (log_of steps) + 1
    counted = rw (mine t) refl

-- The other threads

-- a move leaves what another thread logged and sent
other_logged : {V : Type 0} (steps : List (Step V)) (t u : ℕ) (after : Thread) (effect : Effect V) → nat_eq t u ≡ false
    → entries u (log_of (step_of t steps after effect ∷ steps)) ≡ entries u (log_of steps)
other_logged steps t u after Takes never = refl
other_logged steps t u after (Touches v left) never = rw never refl
other_logged steps t u after (Looks v) never = rw never refl
other_logged steps t u after (HearsClock a) never = rw never refl
other_logged steps t u after (HearsDraw a) never = rw never refl
other_logged steps t u after (Sends packet) never = refl
other_logged steps t u after Ends never = refl

other_outputs : {V : Type 0} (steps : List (Step V)) (t u : ℕ) (after : Thread) (effect : Effect V) → nat_eq t u ≡ false
    → outputs u (sent_of (step_of t steps after effect ∷ steps)) ≡ outputs u (sent_of steps)
other_outputs steps t u after Takes never = refl
other_outputs steps t u after (Touches v left) never = refl
other_outputs steps t u after (Looks v) never = refl
other_outputs steps t u after (HearsClock a) never = refl
other_outputs steps t u after (HearsDraw a) never = refl
other_outputs steps t u after (Sends packet) never = rw never refl
other_outputs steps t u after Ends never = refl

-- and the stamp of what it sends out next
other_stamp : {V : Type 0} (steps : List (Step V)) (t u n : ℕ) (after : Thread) (effect : Effect V) (s : ℕ → ℕ)
    → IsLog (log_of (step_of t steps after effect ∷ steps)) → n ≤ entries u (log_of steps)
    → IsOutputStamp (log_of steps) u n s → IsOutputStamp (log_of (step_of t steps after effect ∷ steps)) u n s
other_stamp steps t u n after Takes s good low is = is
other_stamp steps t u n after (Touches v left) s good low is =
    other_output (log_of steps) (entry_of t (log_of steps) (Access v (places v (log_of steps) + 1))) u n s good low is
other_stamp steps t u n after (Looks v) s good low is =
    other_output (log_of steps) (entry_of t (log_of steps) (Read v (places v (log_of steps)))) u n s good low is
other_stamp steps t u n after (HearsClock a) s good low is =
    other_output (log_of steps) (entry_of t (log_of steps) (Clock a)) u n s good low is
other_stamp steps t u n after (HearsDraw a) s good low is =
    other_output (log_of steps) (entry_of t (log_of steps) (Draw a)) u n s good low is
other_stamp steps t u n after (Sends packet) s good low is = is
other_stamp steps t u n after Ends s good low is = is

pub other_on : {V : Type 0} (steps : List (Step V)) (t u : ℕ) (after : Thread) (effect : Effect V) (part : ThreadPart)
    → t ≢ u → IsLog (log_of (step_of t steps after effect ∷ steps)) → IsThread steps u part
    → IsThread (step_of t steps after effect ∷ steps) u part
other_on {V} steps t u after effect part other good is = record {
  taken = is.taken ∙ ap (λ (th : Thread). th.taken) (sym here);
  logged = is.logged ∙ sym logged;
  outputs = is.outputs ∙ sym (other_outputs steps t u after effect never);
  hand = is.hand ∙ ap (λ (th : Thread). local_in th.hand) (sym here);
  made = is.made ∙ sym (rw never refl);
  stamp = subst
      (λ (n : ℕ). IsOutputStamp (log_of (step_of t steps after effect ∷ steps)) u n (λ w. slice_index part.stamp w))
      (sym logged)
      (other_stamp steps t u (entries u (log_of steps)) after effect (λ w. slice_index part.stamp w) good
      (omega arith) is.stamp);
}
  where
    never : nat_eq t u ≡ false
    never = grind (arith, nat_tests)

    here : thread_after (step_of t steps after effect ∷ steps) u ≡ thread_after steps u
    here = rw never refl

    logged : entries u (log_of (step_of t steps after effect ∷ steps)) ≡ entries u (log_of steps)
    logged = other_logged steps t u after effect never
