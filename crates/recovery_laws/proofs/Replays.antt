-- A replay is never stuck.
use Rattle.std.proofs.Common.{◌≡◌, ℕ, ◌+◌, ◌<◌, true, false, List, [], ◌∷◌, ◌++◌, refl, sym, ap, ◌∙◌, subst, inl, inr}
use Rattle.std.proofs.Common.{◌⊎◌, arith, Option, Some, None}
use Rattle.std.specs.Prelude.{slice_get}
use Rattle.plain_text.specs.declared.packet.Packet.{Packet}
use Rattle.entry_order.specs.declared.what.What.TheVariants as what
use Rattle.entry_order.specs.Log.{Entry, entries, places, IsLog, IsIn, IsNext}
use Rattle.entry_order.specs.Closed.{IsNoLater}
use Rattle.entry_order.proofs.Order.{place_within, same_place}
use Rattle.entry_order.proofs.ClosedParts.{Or, in_or}
use Rattle.entry_order.proofs.KeptEntries.{in_left}
use Rattle.plain_machine.specs.declared.local.Move.{Move}
use Rattle.plain_machine.specs.declared.local.Move.TheVariants.{Access, Read, Clock, Draw, Emit, End}
use Rattle.plain_machine.specs.Program.{Meaning}
use Rattle.plain_machine.specs.Machine.{Hand, Moves, take_move, held_move}
use Rattle.plain_machine.specs.History.{Did, Step, log_of, entry_of, thread_after, value_after, IsStep, IsHistory}
use Rattle.plain_machine.proofs.Histories.{history_log}
use Rattle.plain_machine.proofs.MoveLemmas.{hand_logs}
use Rattle.recovery_world.specs.declared.event.Outcome.{Outcome}
use Rattle.recovery_world.specs.World.{Setting, World, inputs_fed}
use Rattle.recovery_world.specs.Turns.{IsReadToCome, IsTouchToCome, IsAwaited, Awaits}
use Rattle.recovery_world.specs.Events.{WantsMore, WaitsFor, MakesMove, OnStep}
use Rattle.recovery_world.specs.Finish.{IsToCome}
use Rattle.plain_machine.specs.Continue.{GoesQuietly, IsLed}
use Rattle.recovery_world.proofs.FromPlainMachine.{tail_log}
use Rattle.recovery_laws.specs.Sound.{Firm}
use Rattle.recovery_laws.proofs.PlacedEntries.{without, first_log}
use Rattle.recovery_laws.proofs.LedMoves.{EntryFor, move_entry, no_quiet, step_thread}
use Rattle.recovery_laws.proofs.Worlds.{LineOf, line_of}

-- the first move of the thread past P
first_step : {V : Type 0} (m : Meaning V) (inputs : ℕ → List Packet) (threads : ℕ) (P : List (Step V)) (t : ℕ)
    (x : Step V) (steps : List (Step V)) → IsHistory m inputs threads (x ∷ steps) → x.thread ≡ t → GoesQuietly P t steps
    → (z : Step V) × IsStep m inputs threads P z × (z.thread ≡ t)
first_step {V} m inputs threads P t x [] h th q =
    (x, subst (λ (l : List (Step V)). IsStep m inputs threads l x) (sym q) h.0, th)
first_step {V} m inputs threads P t x (y ∷ steps) h th (inl q) =
    (x, subst (λ (l : List (Step V)). IsStep m inputs threads l x) (sym q) h.0, th)
first_step m inputs threads P t x (y ∷ steps) h th (inr q) = first_step m inputs threads P t y steps h.1 q.0 q.2

-- with nothing in hand and no input it has none
pub no_step : {V : Type 0} (m : Meaning V) (inputs : ℕ → List Packet) (threads : ℕ) (P : List (Step V)) (t : ℕ)
    (z : Step V) → IsStep m inputs threads P z → z.thread ≡ t → (thread_after P t).hand ≡ None
    → slice_get (inputs t) (thread_after P t).taken ≡ None → ⊥
no_step {V} m inputs threads P t z h th hand input =
    go (thread_after P z.thread).hand (slice_get (inputs z.thread) (thread_after P z.thread).taken) h.1 hz iz h.3
  where
    hz : (thread_after P z.thread).hand ≡ None
    hz = ap (λ (u : ℕ). (thread_after P u).hand) th ∙ hand

    iz : slice_get (inputs z.thread) (thread_after P z.thread).taken ≡ None
    iz = ap (λ (u : ℕ). slice_get (inputs u) (thread_after P u).taken) th ∙ input

    take : (i : Option Packet) (a : Option ℕ) → i ≡ None
        → take_move m (thread_after P z.thread).taken a i ≡ Moves z.after h.2 → ⊥
    take None None is e = cc
    take i (Some a) is e = cc
    take (Some p) None is e = cc

    go : (o : Option Hand) (i : Option Packet) (a : Option ℕ) → o ≡ None → i ≡ None
        → held_move m (inputs z.thread) (value_after m P) (thread_after P z.thread).taken a o ≡ Moves z.after h.2 → ⊥
    go (Some k) i a q r e = cc
    go None i a q r e = take (slice_get (inputs z.thread) (thread_after P z.thread).taken) a iz e

-- the moves that lead to one entry
record Led {V : Type 0} (s : Setting V) (w : World V) (f : Entry) : Type 0 where
  x : Step V
  steps : List (Step V)
  history : IsHistory s.meaning (inputs_fed s w.fed) s.threads (x ∷ steps)
  left : Option V
  act : x.act ≡ Did f left
  quiet : GoesQuietly w.past f.thread steps

-- The thread of a followed entry, none of whose immediate predecessors is still to come, makes a move.
pub never_stuck : {V : Type 0} (s : Setting V) (w : World V) → Firm s w → (f : Entry) → IsToCome w f
    → ((g : Entry) → IsToCome w g → IsNext g f → ⊥) → w.up ≡ true → f.thread < s.threads → (given : Option ℕ)
    (to : Outcome) (new : World V) → OnStep s w f.thread given to new → MakesMove s w f.thread given to new
never_stuck {V} s w h f come first up low given to new on = go on
  where
    here : IsIn f h.more
    here = (h.to_come f).1 come

    first_in : (g : Entry) → IsIn g h.more → IsNext g f → ⊥
    first_in g i n = first g ((h.to_come g).0 i) n

    good : IsLog (f ∷ log_of w.past)
    good = tail_log (without f h.more) (f ∷ log_of w.past) (first_log f h.more (log_of w.past) h.log here first_in)

    one : LineOf s w h (f ∷ [])
    one = line_of s w h (f ∷ []) good (λ e i. pick e i)
      where
        pick : (e : Entry) → IsIn e (f ∷ []) → IsIn e h.more
        pick e (inl same) = subst (λ (z : Entry). IsIn z h.more) same here
        pick e (inr i) = absurd i

    led : (line : List (Step V)) → IsHistory s.meaning (inputs_fed s w.fed) s.threads line → IsLed w.past (f ∷ []) line
        → Led s w f
    led [] k l = absurd l
    led (x ∷ steps) k l = record {
      x = x;
      steps = steps;
      history = k;
      left = l.0.0;
      act = l.0.1;
      quiet = subst (λ (z : List (Step V)). GoesQuietly z f.thread steps) l.3 l.2;
    }

    r : Led s w f
    r = led one.line one.history one.led

    x_thread : r.x.thread ≡ f.thread
    x_thread = sym (step_thread s.meaning (inputs_fed s w.fed) s.threads r.x r.steps f r.left r.history.0 r.act)

    idle : WantsMore s w f.thread → ⊥
    idle k =
        let z =
        first_step s.meaning (inputs_fed s w.fed) s.threads w.past f.thread r.x r.steps r.history x_thread r.quiet in
        no_step s.meaning (inputs_fed s w.fed) s.threads w.past f.thread z.0 z.1 z.2 k.0 k.1

    new_place : (e : Entry) (v : ℕ) → IsTouchToCome w.followed (log_of w.past) v e → IsIn e h.more
    new_place e v t = pick (in_or e (log_of w.past))
      where
        pick : Or (IsIn e (log_of w.past)) → IsIn e h.more
        pick (inl old) =
            let k = place_within (log_of w.past) e v (places v (log_of w.past) + 1)
            (history_log s.meaning (inputs_fed s w.fed) s.threads w.past h.legal) old t.1 in
            absurd (omega (arith, k))
        pick (inr fresh) = (h.to_come e).1 (t.0, fresh)

    waits : WaitsFor s w f.thread to → ⊥
    waits k = at (s.meaning.next k.hand.place) refl k.awaits
      where
        made : (w0 : Move) → s.meaning.next k.hand.place ≡ w0 → hand_logs s.meaning (Some k.hand) ≡ true
            → (a : Option ℕ) × EntryFor f.thread w0 (log_of w.past) a f
        made w0 is asks = (
          step.1,
          subst (λ (q : Move). EntryFor f.thread q (log_of w.past) step.1 f) is
              (subst (λ (q : Hand). EntryFor f.thread (s.meaning.next q.place) (log_of w.past) step.1 f) same_hand
              (subst (λ (l : List (Step V)). EntryFor f.thread (s.meaning.next entry.0.place) (log_of l) step.1 f) none
              (subst (λ (u : ℕ). EntryFor u (s.meaning.next entry.0.place) (log_of r.steps) step.1 f) x_thread
              entry.2))),
        )
          where
            none : r.steps ≡ w.past
            none = no_quiet s.meaning (inputs_fed s w.fed) s.threads f.thread w.past r.steps r.history.1
                (ap (λ (o : Option Hand). hand_logs s.meaning o) k.hand_is ∙ asks) r.quiet

            step : IsStep s.meaning (inputs_fed s w.fed) s.threads r.steps r.x
            step = r.history.0

            entry : (q : Hand)
                × ((thread_after r.steps r.x.thread).hand ≡ Some q)
                × EntryFor r.x.thread (s.meaning.next q.place) (log_of r.steps) step.1 f
            entry = move_entry s.meaning (inputs_fed s w.fed r.x.thread) (value_after s.meaning r.steps) r.x.thread
                (thread_after r.steps r.x.thread) step.1 r.x.after step.2 r.steps r.x.after.taken f r.left step.3
                (sym step.4 ∙ r.act)

            same_hand : entry.0 ≡ k.hand
            same_hand =
                let q : Some entry.0 ≡ Some k.hand =
                sym entry.1
                ∙ (ap (λ (l : List (Step V)). (thread_after l r.x.thread).hand) none
                ∙ (ap (λ (u : ℕ). (thread_after w.past u).hand) x_thread ∙ k.hand_is)) in
                cc

        touch : (v : ℕ) → f ≡ entry_of f.thread (log_of w.past) (what.Access v (places v (log_of w.past) + 1))
            → IsAwaited w.followed (log_of w.past) f.thread v false k.entry → ⊥
        touch v is a = pick a.which
          where
            fw : f.what ≡ what.Access v (places v (log_of w.past) + 1)
            fw = ap (λ (z : Entry). z.what) is

            pick : ((false ≡ false)
                × IsReadToCome w.followed (log_of w.past) v k.entry
                × ((g : Entry) → IsReadToCome w.followed (log_of w.past) v g → IsNoLater k.entry g))
                ⊎ ((false ≡ false → (g : Entry) → IsReadToCome w.followed (log_of w.past) v g → ⊥)
                × IsTouchToCome w.followed (log_of w.past) v k.entry
                × ((k.entry.thread ≡ f.thread) × (k.entry.number ≡ entries f.thread (log_of w.past) + 1) → ⊥)) → ⊥
            pick (inl b) = first k.entry (b.1.0, b.1.2) (inr (inr (inr (v, places v (log_of w.past), b.1.1, fw))))
            pick (inr b) =
                let i : IsIn k.entry h.more = new_place k.entry v b.1 in
                let one : k.entry ≡ f = same_place (h.more ++ log_of w.past) k.entry f v (places v (log_of w.past) + 1)
                h.log (in_left k.entry h.more (log_of w.past) i) (in_left f h.more (log_of w.past) here) b.1.1 fw in
                b.2
                (ap (λ (z : Entry). z.thread) one, ap (λ (z : Entry). z.number) one ∙ ap (λ (z : Entry). z.number) is)

        at : (w0 : Move) → s.meaning.next k.hand.place ≡ w0 → Awaits w.followed (log_of w.past) f.thread w0 k.entry → ⊥
        at (Access v) is a = let e = made (Access v) is (rw is refl) in touch v e.1 a
        at (Read v) is a =
            let e = made (Read v) is (rw is refl) in
            a.not_own_read (subst (λ (z : Entry). IsIn z w.followed) e.1 come.0)
        at Clock is a = a
        at Draw is a = a
        at Emit is a = a
        at End is a = a

    go : OnStep s w f.thread given to new → MakesMove s w f.thread given to new
    go (inl a) = absurd (omega (arith, a.0, low))
    go (inr (inl a)) = absurd (let k : w.up ≡ false = a.1 in cc)
    go (inr (inr (inl a))) = absurd (idle a.2)
    go (inr (inr (inr (inl a)))) = absurd (waits a.2)
    go (inr (inr (inr (inr a)))) = a.2
