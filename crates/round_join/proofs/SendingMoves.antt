-- The moves of a round are the steps of its receipts, and what each logged or sent out has a frame.
use Rattle.std.proofs.Common.{◌≡◌, ℕ, ◌+◌, ◌≤◌, List, [], ◌∷◌, ◌++◌, length, refl, sym, ap, ◌∙◌, Option, Some, arith}
use Rattle.std.specs.Prelude.{slice_get}
use Rattle.plain_text.specs.Packets.{IsShort}
use Rattle.plain_text.specs.declared.packet.Packet.{Packet}
use Rattle.access_log.specs.declared.entry.Output.{Output}
use Rattle.box_program.specs.Hands.{input_for}
use Rattle.plain_machine.proofs.Hands.{held_sends}
use Rattle.plain_machine.specs.declared.emission.Emission.{Emission}
use Rattle.plain_machine.specs.Program.{Meaning, IsLawful}
use Rattle.plain_machine.specs.Machine.{Hand, Effect, Takes, Touches, Looks, HearsClock, HearsDraw, Sends, Ends}
use Rattle.plain_machine.specs.Machine.{Moves, held_move}
use Rattle.plain_machine.specs.History.{Emitted, Step, act_of, emission_of, sent_of, thread_after, value_after}
use Rattle.master_core.specs.declared.step.Stepped.{Stepped}
use Rattle.master_core.specs.declared.step.Stepped.TheVariants as stepped
use Rattle.master_core.specs.Stepping.{emission_of_output, Shows}
use Rattle.recovery_world.specs.declared.event.Event.{Event}
use Rattle.recovery_world.specs.declared.event.Event.TheVariants as event
use Rattle.recovery_world.specs.World.{Setting, World, inputs_fed}
use Rattle.recovery_laws.specs.Making.{CanMake}
use Rattle.recovery_laws.specs.Sound.{Sound}
use Rattle.recovery_laws.proofs.LedMoves.{Made as MadeMove, made_move}
use Rattle.plan_script.specs.Rounds.{step_events}
use Rattle.thread_steps.specs.Stepping.{CanSend}
use Rattle.thread_steps.proofs.MoveLemmas.{made_answer, can_put_entry, can_put_output}
use Rattle.round_order.specs.Receipts.{Receipt, after}
use Rattle.round_events.specs.Leading.{AreMade, world_after}
use Rattle.round_join.specs.declared.noting.Made.{Made}
use Rattle.round_join.specs.Noting.{CanSendAll, events_made}
use Rattle.round_join.specs.Racing.{IsActOf, IsAfterSteps, AreStepsOf}
use Rattle.round_join.specs.Weaving.{steps_in}
use Rattle.round_join.proofs.Joining.{AreShown}
use Rattle.round_join.proofs.WovenLemmas.{after_steps}

-- what was made by the event is a move with its answer
made_by : {V : Type 0} (s : Setting V) (w : World V) (t : ℕ) (a : Option ℕ) (step : Step V) → CanMake s w t a step
    → MadeMove s.meaning (inputs_fed s w.fed) s.threads w.past t a step
made_by s w t a step can =
    made_move s.meaning (inputs_fed s w.fed) s.threads w.past (record { thread = t; answer = a }) step can.moves

-- The moves are the steps

shown_act : {V : Type 0} (past : List (Step V)) (step : Step V) (st : Stepped) → Shows past st step
    → IsActOf st step.act
shown_act past step (stepped.Took k) is = is
shown_act past step (stepped.Did e) is = is.0
shown_act past step (stepped.Emitted o) is = is.0
shown_act past step (stepped.Ended k) is = is
shown_act past step stepped.Idle is = is
shown_act past step (stepped.NotTurn u n) is = is
shown_act past step stepped.NoMemory is = is

pub are_steps : {V : Type 0} (s : Setting V) (w : World V) (drawn : List Made) (order : List (Receipt V))
    → AreMade s w order → AreShown w.past drawn order → AreStepsOf drawn (steps_in order)
are_steps s w [] [] made shown = tt
are_steps s w [] (r ∷ order) made shown = absurd shown
are_steps s w (x ∷ drawn) [] made shown = absurd shown
are_steps s w (x ∷ drawn) (r ∷ order) made shown = (
  record {
    thread = sym shown.0;
    answer =
        made_answer s.meaning (inputs_fed s w.fed) s.threads (after order w.past) r.step.thread r.answer r.step
        (made_by s (world_after w order) r.step.thread r.answer r.step made.0)
        ∙ sym shown.1;
    act = shown_act (after order w.past) r.step x.stepped shown.2;
  },
  are_steps s w drawn order made.2 shown.3,
)

pub events_of : {V : Type 0} (drawn : List Made) (steps : List (Step V)) → AreStepsOf drawn steps
    → events_made drawn ≡ step_events steps
events_of [] [] are = refl
events_of [] (x ∷ steps) are = absurd are
events_of (m ∷ drawn) [] are = absurd are
events_of (m ∷ drawn) (x ∷ steps) (is, are) =
    ap (λ (l : List Event). l ++ event.Step m.thread m.answer ∷ []) (events_of drawn steps are)
    ∙ (ap (λ (t : ℕ). step_events steps ++ event.Step t m.answer ∷ []) (sym is.thread)
    ∙ ap (λ (a : Option ℕ). step_events steps ++ event.Step x.thread a ∷ []) (sym is.answer))

-- how many there are
steps_count : {V : Type 0} (order : List (Receipt V)) → length (steps_in order) ≡ length order
steps_count [] = refl
steps_count (r ∷ order) = let k = steps_count order in omega (arith, k)

-- the world after the receipts is that after their steps
pub after_them : {V : Type 0} (w : World V) (order : List (Receipt V))
    → IsAfterSteps w (steps_in order) (world_after w order)
after_them {V} w order = record {
  world = ap (λ (l : List (Step V)).
      let z : World V = record w {
        past = l;
        moves = (world_after w order).moves;
        bytes = (world_after w order).bytes;
      } in
      z) (after_steps order w.past);
  moves = ap (λ (n : ℕ). w.moves + n) (sym (steps_count order));
}

-- What they sent

-- what is sent out is the packet of the output
sent_effect : {V : Type 0} (t taken : ℕ) (A : List (Step V)) (d : Effect V) (o : Emission)
    → act_of t A taken d ≡ Emitted o → d ≡ Sends o.packet
sent_effect t taken A Takes o e = absurd (cc)
sent_effect t taken A (Touches v left) o e = absurd (cc)
sent_effect t taken A (Looks v) o e = absurd (cc)
sent_effect t taken A (HearsClock a) o e = absurd (cc)
sent_effect t taken A (HearsDraw a) o e = absurd (cc)
sent_effect {V} t taken A (Sends p) o e =
    let q : emission_of t (sent_of A) taken p ≡ o = cc in ap (λ (x : Emission). Sends x.packet) q
sent_effect t taken A Ends o e = absurd (cc)

-- it is as long as the packet in hand
out_as_long : {V : Type 0} (m : Meaning V) (fits : ℕ → V → Type 0) (inputs : ℕ → List Packet) (threads : ℕ)
    (A : List (Step V)) (t : ℕ) (a : Option ℕ) (x : Step V) (o : Output) → IsLawful m fits
    → MadeMove m inputs threads A t a x → x.act ≡ Emitted (emission_of_output o) → (p : Packet)
    → input_for (inputs t) (thread_after A t).taken (thread_after A t).hand ≡ Some p
    → length o.packet.bytes ≡ length p.bytes
out_as_long {V} m fits inputs threads A t a x o lawful made act p is =
    let sends : made.effect ≡ Sends o.packet =
    sent_effect t x.after.taken A made.effect (emission_of_output o) (sym made.act ∙ act) in
    let moved : held_move m (inputs t) (value_after m A) (thread_after A t).taken a (thread_after A t).hand
    ≡ Moves x.after (Sends o.packet) = made.moved ∙ ap (λ (d : Effect V). Moves x.after d) sends in
    let k = held_sends m (inputs t) (value_after m A) (thread_after A t).taken a (thread_after A t).hand x.after
    o.packet moved in
    let both : Some k.0.packet ≡ Some p =
    sym (ap (λ (h : Option Hand). input_for (inputs t) (thread_after A t).taken h) k.1) ∙ is in
    let same : k.0.packet ≡ p = cc in
    ap (λ (q : Packet). length q.bytes) k.3
    ∙ (lawful.as_long k.0.packet k.0.place k.2 ∙ ap (λ (q : Packet). length q.bytes) same)

module _ {V : Type 0} (fits : ℕ → V → Type 0) (s : Setting V) (w : World V) (epoch there : ℕ)
    (lawful : IsLawful s.meaning fits) (one : 1 ≤ epoch) (same : there ≡ s.threads) (some : 1 ≤ s.threads)
    (few : s.threads ≤ 16)
    (short : (t k : ℕ) (p : Packet) → slice_get (inputs_fed s w.fed t) k ≡ Some p → IsShort p) where
  can_one : (order : List (Receipt V)) (t : ℕ) (a : Option ℕ) (step : Step V)
      → CanMake s (world_after w order) t a step → Sound s (world_after w order) → (st : Stepped)
      → Shows (after order w.past) st step → CanSend epoch there st
  can_one order t a step can sound (stepped.Took k) is = tt
  can_one order t a step can sound (stepped.Did e) is =
      can_put_entry s.meaning fits (inputs_fed s w.fed) epoch s.threads there (after order w.past) t a step e is.0.0
      lawful sound.firm.legal one same some few (made_by s (world_after w order) t a step can) is.0.1 is.1
  can_one order t a step can sound (stepped.Emitted o) is =
      let made = made_by s (world_after w order) t a step can in
      can_put_output s.meaning (inputs_fed s w.fed) epoch s.threads there (after order w.past) t a step o
      (input_for (inputs_fed s w.fed t) (thread_after (after order w.past) t).taken
      (thread_after (after order w.past) t).hand) sound.firm.legal one same some few made is.0 is.1 refl
      (out_as_long s.meaning fits (inputs_fed s w.fed) s.threads (after order w.past) t a step o lawful made is.0)
      (short t)
  can_one order t a step can sound (stepped.Ended k) is = tt
  can_one order t a step can sound stepped.Idle is = tt
  can_one order t a step can sound (stepped.NotTurn u n) is = tt
  can_one order t a step can sound stepped.NoMemory is = tt

  pub can_all : (drawn : List Made) (order : List (Receipt V)) → AreMade s w order → AreShown w.past drawn order
      → CanSendAll epoch there drawn
  can_all [] order made shown = tt
  can_all (x ∷ drawn) [] made shown = absurd shown
  can_all (x ∷ drawn) (r ∷ order) made shown = (
    can_one order r.step.thread r.answer r.step made.0 made.1 x.stepped shown.2,
    can_all drawn order made.2 shown.3,
  )
