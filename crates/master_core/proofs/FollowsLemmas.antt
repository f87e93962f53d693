-- A call that did what a move does follows the definition.
use Rattle.std.proofs.Common.{◌≡◌, ℕ, ◌+◌, ◌<◌, ◌≤◌, List, ◌∷◌, length, refl, sym, ap, ◌∙◌, subst, inl, inr, arith}
use Rattle.std.proofs.Common.{true, Option, Some, None, Ok}
use Rattle.std.specs.Prelude.{nat_lt, replicate, slice_get, slice_index, slice_set}
use Rattle.std.proofs.lemmas.Bool.Decides.{nat_tests}
use Rattle.plain_text.specs.declared.packet.Packet.{Packet}
use Rattle.entry_order.specs.declared.what.What.{What}
use Rattle.entry_order.specs.declared.what.What.TheVariants.{Access as Touch, Read as Look}
use Rattle.entry_order.specs.Log.{Entry, places, IsLog}
use Rattle.entry_order.specs.Stamps.{IsStamp}
use Rattle.access_log.specs.declared.entry.StampedEntry.{StampedEntry}
use Rattle.box_program.specs.Hands.{input_for}
use Rattle.box_program.proofs.HandLemmas.{no_hand}
use Rattle.plain_machine.specs.declared.local.Local.{Local}
use Rattle.plain_machine.specs.declared.local.Move.{Move}
use Rattle.plain_machine.specs.declared.local.Move.TheVariants as move
use Rattle.plain_machine.specs.declared.emission.Emission.{Emission}
use Rattle.plain_machine.specs.Program.{Meaning}
use Rattle.plain_machine.specs.Machine.{Hand, Thread, Effect, Takes, Touches, Looks, Sends, Ends, Moves, holding}
use Rattle.plain_machine.specs.Machine.{hand_move, sent_packet}
use Rattle.plain_machine.specs.History.{Act, Took, Did, Emitted, Ended, Step, log_more, log_of, sent_more, sent_of}
use Rattle.plain_machine.specs.History.{value_after, thread_after, entry_of, act_of, step_of, after_moved, plain_move}
use Rattle.master_core.specs.declared.parts.VarPart.{VarPart}
use Rattle.master_core.specs.declared.parts.ThreadPart.{ThreadPart}
use Rattle.master_core.specs.declared.step.Stepped.{Stepped}
use Rattle.master_core.specs.declared.step.Stepped.TheVariants as stepped
use Rattle.master_core.specs.Mastered.{Mastered}
use Rattle.master_core.specs.MasterStanding.{IsVariable, IsThread, Stands}
use Rattle.master_core.specs.Stepping.{told_for, move_of, plain_entry, DidEntry, Follows}
use Rattle.master_core.specs.Effects.{next_output, DoneTake, DoneTouch, DoneLook, DoneHear, DoneEmit, DoneEnd}
use Rattle.master_core.specs.Effects.{after_take, after_entry, after_emit, after_end}
use Rattle.master_core.proofs.EffectLemmas.{touched_master, looked_master, heard_master}
use Rattle.master_core.proofs.Threads.{take_on, emit_on, end_on, entry_on}
use Rattle.master_core.proofs.Variables.{OnNone, touch_is_log, look_is_log, told_is_log, take_vars, emit_vars, end_vars}
use Rattle.master_core.proofs.Variables.{told_vars, touch_vars, look_vars}
use Rattle.master_core.proofs.StandsLemmas.{stands_on, Logs, touch_logs, look_logs, told_logs}

-- what holds of a thread where its move is made
pub record Ready {V : Type 0} (m : Meaning V) (inputs : ℕ → List Packet) (threads : ℕ) (steps : List (Step V))
    (p : Mastered V) (t : ℕ) (part : ThreadPart) (packet : Packet) (place : Local) : Type 0 where
  pub stands : Stands m threads steps p
  pub below : t < threads
  pub part_is : IsThread steps t part
  pub at : part.hand ≡ Some place
  pub hand : (thread_after steps t).hand ≡ Some (record { packet = packet; place = place })

-- the move of a thread with a packet in hand
hand_plays : {V : Type 0} (m : Meaning V) (inputs : ℕ → List Packet) (threads : ℕ) (steps : List (Step V))
    (t answer : ℕ) (packet : Packet) (place : Local) (next : Move) → t < threads
    → (thread_after steps t).hand ≡ Some (record { packet = packet; place = place }) → m.next place ≡ next
    → plain_move m inputs threads steps (move_of m steps t answer)
    ≡ after_moved steps t (hand_move m (value_after m steps) (thread_after steps t).taken
    (record { packet = packet; place = place }) (told_for next answer) next)
hand_plays m inputs threads steps t answer packet place next below hand is =
    let yes : nat_lt t threads ≡ true = grind (arith, nat_tests) in
    rw (yes, hand, is) refl

-- what was done with an entry
did_entry : {V : Type 0} (steps : List (Step V)) (t : ℕ) (what : What) (left : Option V) (e : StampedEntry)
    (step : Step V) → Logs steps t what e → step.act ≡ Did (entry_of t (log_of steps) what) left
    → log_of (step ∷ steps) ≡ entry_of t (log_of steps) what ∷ log_of steps → DidEntry steps e step
did_entry {V} steps t what left e step logs act log_is = (
  (left, act ∙ ap (λ (x : Entry). Did x left) (sym logs.entry)),
  subst (λ (log : List Entry). IsStamp log (plain_entry e) (λ u. slice_index e.stamp u)) (sym log_is)
      (subst (λ (x : Entry). IsStamp (entry_of t (log_of steps) what ∷ log_of steps) x (λ u. slice_index e.stamp u))
      (sym logs.entry) logs.stamp),
)

-- a made move by what it answers
made : {V : Type 0} (m : Meaning V) (inputs : ℕ → List Packet) (threads : ℕ) (steps : List (Step V)) (t answer : ℕ)
    (p q : Mastered V) (r s : Stepped) → r ≡ s → q ≡ p → Follows m inputs threads steps (move_of m steps t answer) s p
    → Follows m inputs threads steps (move_of m steps t answer) r q
made {V} m inputs threads steps t answer p q r s r_is q_is h =
    subst (λ (x : Stepped). Follows m inputs threads steps (move_of m steps t answer) x q) (sym r_is)
    (subst (λ (x : Mastered V). Follows m inputs threads steps (move_of m steps t answer) s x) (sym q_is) h)

-- A take follows the definition.
pub take_follows : {V : Type 0} (m : Meaning V) (inputs : ℕ → List Packet) (threads : ℕ) (steps : List (Step V))
    (t answer : ℕ) (packet : Packet) (part : ThreadPart) (p q : Mastered V) (r : Stepped) (input : Option Packet)
    → Stands m threads steps p → t < threads → IsThread steps t part → part.hand ≡ None → input ≡ Some packet
    → input ≡ input_for (inputs t) (thread_after steps t).taken (thread_after steps t).hand
    → DoneTake m t packet part p r q → Follows m inputs threads steps (move_of m steps t answer) r q
take_follows {V} m inputs threads steps t answer packet part p q r input is below th none is_packet given done =
    made m inputs threads steps t answer
    (record { vars = p.vars; threads = slice_set p.threads t (after_take part (m.begin packet)) }) q r
    (stepped.Took (part.counts.taken + 1)) done.0 done.1 (record {
      step = step;
      plain_is = plays;
      stands = stands_on m threads steps p t after Takes p.vars (after_take part (m.begin packet)) is below is.log
          (take_vars m steps t after p.vars is.var) (take_on steps t packet (m.begin packet) part none th);
      does = ap (λ n. let a : Act V = Took (n + 1) in a) (sym th.taken);
    })
  where
    after : Thread
    after = holding ((thread_after steps t).taken + 1) packet (m.begin packet)

    step : Step V
    step = step_of t steps after Takes

    empty : (thread_after steps t).hand ≡ None
    empty = no_hand (thread_after steps t).hand (sym th.hand ∙ none)

    next : slice_get (inputs t) (thread_after steps t).taken ≡ Some packet
    next = sym (given ∙ ap (λ (h : Option Hand). input_for (inputs t) (thread_after steps t).taken h) empty) ∙ is_packet

    plays : plain_move m inputs threads steps (move_of m steps t answer) ≡ Ok (step ∷ steps)
    plays = let yes : nat_lt t threads ≡ true = grind (arith, nat_tests) in rw (yes, empty, next) refl

-- A touch does.
pub touch_follows : {V : Type 0} (m : Meaning V) (inputs : ℕ → List Packet) (threads : ℕ) (steps : List (Step V))
    (t answer v : ℕ) (packet : Packet) (place : Local) (part : ThreadPart) (x : VarPart V) (p q : Mastered V)
    (r : Stepped) → Ready m inputs threads steps p t part packet place → m.next place ≡ move.Access v → v < m.vars
    → length p.vars ≡ m.vars → IsVariable m steps v x → DoneTouch m t v place part x p r q
    → Follows m inputs threads steps (move_of m steps t answer) r q
touch_follows {V} m inputs threads steps t answer v packet place part x p q r ready next below len is
    (inr (r_is, q_is)) =
    subst (λ (s : Stepped). Follows m inputs threads steps (move_of m steps t answer) s q) (sym r_is) tt
touch_follows {V} m inputs threads steps t answer v packet place part x p q r ready next below len is
    (inl (e, r_is, done)) =
    made m inputs threads steps t answer
    (record { vars = slice_set p.vars v y; threads = slice_set p.threads t (after_entry part place' e.stamp) }) q r
    (stepped.Did e) r_is (touched_master m t v place part x p e q done) (record {
      step = step;
      plain_is =
          hand_plays m inputs threads steps t answer packet place (move.Access v) ready.below ready.hand next
          ∙ ap (λ (w : V).
          Ok (step_of t steps (holding taken packet (m.touch v w place).1) (Touches v (m.touch v w place).0) ∷ steps))
          (sym is.value);
      stands = stands_on m threads steps p t after effect (slice_set p.vars v y) (after_entry part place' e.stamp)
          ready.stands ready.below good
          (touch_vars m steps t v after (m.touch v x.value place).0 e.stamp x p.vars ready.stands.log below len is
          logs.stamp ready.stands.var)
          (entry_on steps t packet place place' effect what e.stamp part refl refl good logs.stamp ready.at
          ready.part_is);
      does = did_entry steps t what (Some (m.touch v x.value place).0) e step logs refl refl;
    })
  where
    taken : ℕ
    taken = (thread_after steps t).taken

    place' : Local
    place' = (m.touch v x.value place).1

    y : VarPart V
    y = record { value = (m.touch v x.value place).0; places = x.places + 1; stamp = e.stamp; readers = replicate 16 0 }

    after : Thread
    after = holding taken packet place'

    effect : Effect V
    effect = Touches v (m.touch v x.value place).0

    what : What
    what = Touch v (places v (log_of steps) + 1)

    step : Step V
    step = step_of t steps after effect

    good : IsLog (log_of (step ∷ steps))
    good = touch_is_log (log_of steps) t v ready.stands.log

    logs : Logs steps t what e
    logs = touch_logs m steps t v part x e ready.stands.log ready.part_is is done.does.logs.entry done.does.logs.stamp

-- A read does.
pub look_follows : {V : Type 0} (m : Meaning V) (inputs : ℕ → List Packet) (threads : ℕ) (steps : List (Step V))
    (t answer v : ℕ) (packet : Packet) (place : Local) (part : ThreadPart) (x : VarPart V) (p q : Mastered V)
    (r : Stepped) → Ready m inputs threads steps p t part packet place → m.next place ≡ move.Read v → v < m.vars
    → length p.vars ≡ m.vars → IsVariable m steps v x → DoneLook m t v place part x p r q
    → Follows m inputs threads steps (move_of m steps t answer) r q
look_follows {V} m inputs threads steps t answer v packet place part x p q r ready next below len is
    (inr (r_is, q_is)) =
    subst (λ (s : Stepped). Follows m inputs threads steps (move_of m steps t answer) s q) (sym r_is) tt
look_follows {V} m inputs threads steps t answer v packet place part x p q r ready next below len is
    (inl (e, r_is, done)) =
    made m inputs threads steps t answer
    (record { vars = slice_set p.vars v y; threads = slice_set p.threads t (after_entry part place' e.stamp) }) q r
    (stepped.Did e) r_is (looked_master m t v place part x p e q done) (record {
      step = step;
      plain_is =
          hand_plays m inputs threads steps t answer packet place (move.Read v) ready.below ready.hand next
          ∙ ap (λ (w : V). Ok (step_of t steps (holding taken packet (m.look v w place)) (Looks v) ∷ steps))
          (sym is.value);
      stands = stands_on m threads steps p t after (Looks v) (slice_set p.vars v y) (after_entry part place' e.stamp)
          ready.stands ready.below good
          (look_vars m steps t v after e.stamp done.y.readers x p.vars ready.stands.log below len is logs.stamp
          done.does.joined ready.stands.var)
          (entry_on steps t packet place place' (Looks v) what e.stamp part refl refl good logs.stamp ready.at
          ready.part_is);
      does = did_entry steps t what None e step logs refl refl;
    })
  where
    taken : ℕ
    taken = (thread_after steps t).taken

    place' : Local
    place' = m.look v x.value place

    y : VarPart V
    y = record { value = x.value; places = x.places; stamp = x.stamp; readers = done.y.readers }

    after : Thread
    after = holding taken packet place'

    what : What
    what = Look v (places v (log_of steps))

    step : Step V
    step = step_of t steps after (Looks v)

    good : IsLog (log_of (step ∷ steps))
    good = look_is_log (log_of steps) t v ready.stands.log

    logs : Logs steps t what e
    logs = look_logs m steps t v part x e ready.stands.log ready.part_is is done.does.logs.entry done.does.logs.stamp

-- A question does, for the time or for a random word: what was told is an entry on no variable.
pub told_follows : {V : Type 0} (m : Meaning V) (inputs : ℕ → List Packet) (threads : ℕ) (steps : List (Step V))
    (t answer : ℕ) (question : Move) (what : What) (effect : Effect V) (packet : Packet) (place : Local)
    (part : ThreadPart) (p q : Mastered V) (r : Stepped) → Ready m inputs threads steps p t part packet place
    → m.next place ≡ question → OnNone what
    → hand_move m (value_after m steps) (thread_after steps t).taken (record { packet = packet; place = place })
    (told_for question answer) question
    ≡ Moves (holding (thread_after steps t).taken packet (m.told answer place)) effect
    → act_of t steps (thread_after steps t).taken effect ≡ Did (entry_of t (log_of steps) what) None
    → DoneHear m t what answer place part p r q → Follows m inputs threads steps (move_of m steps t answer) r q
told_follows {V} m inputs threads steps t answer question what effect packet place part p q r ready next none moves act
    (inr (r_is, q_is)) =
    subst (λ (s : Stepped). Follows m inputs threads steps (move_of m steps t answer) s q) (sym r_is) tt
told_follows {V} m inputs threads steps t answer question what effect packet place part p q r ready next none moves act
    (inl (e, r_is, done)) =
    made m inputs threads steps t answer
    (record { vars = p.vars; threads = slice_set p.threads t (after_entry part place' e.stamp) }) q r (stepped.Did e)
    r_is (heard_master m t what answer place part p e q done) (record {
      step = step;
      plain_is =
          hand_plays m inputs threads steps t answer packet place question ready.below ready.hand next
          ∙ ap (after_moved steps t) moves;
      stands = stands_on m threads steps p t after effect p.vars (after_entry part place' e.stamp) ready.stands
          ready.below (subst IsLog (sym log_is) good)
          (told_vars m steps t what effect after p.vars none act ready.stands.log ready.stands.var)
          (entry_on steps t packet place place' effect what e.stamp part log_is
          (ap (λ (a : Act V). sent_more a (sent_of steps)) act) good logs.stamp ready.at ready.part_is);
      does = did_entry steps t what None e step logs act log_is;
    })
  where
    place' : Local
    place' = m.told answer place

    after : Thread
    after = holding (thread_after steps t).taken packet place'

    step : Step V
    step = step_of t steps after effect

    log_is : log_of (step ∷ steps) ≡ entry_of t (log_of steps) what ∷ log_of steps
    log_is = ap (λ (a : Act V). log_more a (log_of steps)) act

    good : IsLog (entry_of t (log_of steps) what ∷ log_of steps)
    good = told_is_log (log_of steps) t what none ready.stands.log

    logs : Logs steps t what e
    logs = told_logs steps t what part e none ready.stands.log ready.part_is done.does.entry done.does.stamp

-- An emission does.
pub emit_follows : {V : Type 0} (m : Meaning V) (inputs : ℕ → List Packet) (threads : ℕ) (steps : List (Step V))
    (t answer : ℕ) (packet : Packet) (place : Local) (part : ThreadPart) (p q : Mastered V) (r : Stepped)
    → Ready m inputs threads steps p t part packet place → m.next place ≡ move.Emit
    → DoneEmit m t packet place part p r q → Follows m inputs threads steps (move_of m steps t answer) r q
emit_follows {V} m inputs threads steps t answer packet place part p q r ready next (inr (r_is, q_is)) =
    subst (λ (s : Stepped). Follows m inputs threads steps (move_of m steps t answer) s q) (sym r_is) tt
emit_follows {V} m inputs threads steps t answer packet place part p q r ready next (inl (r_is, q_is)) =
    made m inputs threads steps t answer
    (record { vars = p.vars; threads = slice_set p.threads t (after_emit part (m.emitted place)) }) q r
    (stepped.Emitted (next_output t part packet (m.out packet place))) r_is q_is (record {
      step = step;
      plain_is = hand_plays m inputs threads steps t answer packet place move.Emit ready.below ready.hand next;
      stands = stands_on m threads steps p t after (Sends sent) p.vars (after_emit part (m.emitted place)) ready.stands
          ready.below ready.stands.log (emit_vars m steps t after sent p.vars ready.stands.var)
          (emit_on steps t packet sent place (m.emitted place) part ready.at ready.part_is);
      does = (act, ready.part_is.stamp);
    })
  where
    sent : Packet
    sent = sent_packet m (record { packet = packet; place = place })

    after : Thread
    after = holding (thread_after steps t).taken packet (m.emitted place)

    step : Step V
    step = step_of t steps after (Sends sent)

    emitted : Emission → Act V
    emitted o = Emitted o

    act : step.act
        ≡ emitted (record { thread = t; number = part.counts.outputs + 1; input = part.counts.taken; packet = sent })
    act =
        ap (λ n. emitted (record { thread = t; number = n + 1; input = (thread_after steps t).taken; packet = sent }))
        (sym ready.part_is.outputs)
        ∙ ap (λ n. emitted (record { thread = t; number = part.counts.outputs + 1; input = n; packet = sent }))
        (sym ready.part_is.taken)

-- The end of a packet does.
pub end_follows : {V : Type 0} (m : Meaning V) (inputs : ℕ → List Packet) (threads : ℕ) (steps : List (Step V))
    (t answer : ℕ) (packet : Packet) (place : Local) (part : ThreadPart) (p q : Mastered V) (r : Stepped)
    → Ready m inputs threads steps p t part packet place → m.next place ≡ move.End → 1 ≤ part.counts.taken
    → DoneEnd t part p r q → Follows m inputs threads steps (move_of m steps t answer) r q
end_follows {V} m inputs threads steps t answer packet place part p q r ready next low (r_is, q_is) =
    made m inputs threads steps t answer (record { vars = p.vars; threads = slice_set p.threads t (after_end part) }) q
    r (stepped.Ended part.counts.taken) r_is q_is (record {
      step = step;
      plain_is = hand_plays m inputs threads steps t answer packet place move.End ready.below ready.hand next;
      stands =
          stands_on m threads steps p t after Ends p.vars (after_end part) ready.stands ready.below ready.stands.log
          (end_vars m steps t after p.vars ready.stands.var) (end_on steps t place part ready.at low ready.part_is);
      does = ap (λ n. let a : Act V = Ended n in a) (sym ready.part_is.taken);
    })
  where
    after : Thread
    after = record { taken = (thread_after steps t).taken; hand = None }

    step : Step V
    step = step_of t steps after Ends
