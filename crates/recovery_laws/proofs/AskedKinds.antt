-- The next followed entry of a thread is of the kind that its program asks for.
use Rattle.std.proofs.Common.{◌≡◌, ℕ, ◌+◌, true, List, refl, sym, ap, ◌∙◌, subst, Option, Some}
use Rattle.entry_order.specs.Log.{Entry, entries, places, IsIn}
use Rattle.plain_machine.specs.declared.local.Move.{Move}
use Rattle.plain_machine.specs.declared.local.Move.TheVariants.{Access, Read, Clock, Draw, Emit, End}
use Rattle.plain_machine.specs.Machine.{Hand, Thread}
use Rattle.plain_machine.specs.History.{Step, log_of, thread_after, value_after, IsStep}
use Rattle.plain_machine.proofs.MoveLemmas.{hand_logs}
use Rattle.recovery_world.specs.World.{Setting, World, inputs_fed}
use Rattle.recovery_world.specs.Finish.{IsToCome}
use Rattle.recovery_laws.specs.Sound.{Firm, Sound}
use Rattle.recovery_laws.specs.Facts.{IsKindOf}
use Rattle.recovery_laws.proofs.EntriesToCome.{later_number}
use Rattle.recovery_laws.proofs.LedMoves.{EntryFor, move_entry, no_quiet, step_thread, FirstOf, first_of}
use Rattle.recovery_laws.proofs.Worlds.{LineOf, line_of}

entry_kind : (t : ℕ) (w : Move) (log : List Entry) (a : Option ℕ) (e : Entry) → EntryFor t w log a e → IsKindOf w e.what
entry_kind t (Access v) log a e k = (places v log + 1, ap (λ (z : Entry). z.what) k)
entry_kind t (Read v) log a e k = (places v log, ap (λ (z : Entry). z.what) k)
entry_kind t Clock log a e (b, is, k) = (b, ap (λ (z : Entry). z.what) k)
entry_kind t Draw log a e (b, is, k) = (b, ap (λ (z : Entry). z.what) k)
entry_kind t Emit log a e k = tt
entry_kind t End log a e k = tt

module _ {V : Type 0} (s : Setting V) (w : World V) (h : Firm s w) (f : Entry) (here : IsIn f h.more)
    (next : f.number ≡ entries f.thread (log_of w.past) + 1) (k : Hand)
    (hand : (thread_after w.past f.thread).hand ≡ Some k) where
  asked : hand_logs s.meaning (Some k) ≡ true → IsKindOf (s.meaning.next k.place) f.what
  asked logs = at (line_of s w h h.more h.log (λ g i. i))
    where
      found : FirstOf s.meaning (inputs_fed s w.fed) s.threads w.past h.more f
          → IsKindOf (s.meaning.next k.place) f.what
      found r = subst (λ (q : Hand). IsKindOf (s.meaning.next q.place) f.what) same_hand
          (entry_kind r.x.thread (s.meaning.next entry.0.place) (log_of r.steps) r.history.0.1 f entry.2)
        where
          none : r.steps ≡ r.mid
          none = no_quiet s.meaning (inputs_fed s w.fed) s.threads f.thread r.mid r.steps r.history.1
              (ap (λ (z : Thread). hand_logs s.meaning z.hand) r.seat.thread
              ∙ (ap (λ (o : Option Hand). hand_logs s.meaning o) hand ∙ logs)) r.quiet

          step : IsStep s.meaning (inputs_fed s w.fed) s.threads r.steps r.x
          step = r.history.0

          x_thread : r.x.thread ≡ f.thread
          x_thread = sym (step_thread s.meaning (inputs_fed s w.fed) s.threads r.x r.steps f r.left step r.act)

          entry : (q : Hand)
              × ((thread_after r.steps r.x.thread).hand ≡ Some q)
              × EntryFor r.x.thread (s.meaning.next q.place) (log_of r.steps) step.1 f
          entry = move_entry s.meaning (inputs_fed s w.fed r.x.thread) (value_after s.meaning r.steps) r.x.thread
              (thread_after r.steps r.x.thread) step.1 r.x.after step.2 r.steps r.x.after.taken f r.left step.3
              (sym step.4 ∙ r.act)

          same_hand : entry.0 ≡ k
          same_hand =
              let q : Some entry.0 ≡ Some k =
              sym entry.1
              ∙ (ap (λ (l : List (Step V)). (thread_after l r.x.thread).hand) none
              ∙ (ap (λ (u : ℕ). (thread_after r.mid u).hand) x_thread
              ∙ (ap (λ (z : Thread). z.hand) r.seat.thread ∙ hand))) in
              cc

      at : LineOf s w h h.more → IsKindOf (s.meaning.next k.place) f.what
      at l = found (first_of s.meaning (inputs_fed s w.fed) s.threads w.past h.more l.line f h.log
          (λ g i. later_number h.more (log_of w.past) h.log g i) l.history l.led here next)

  asked_kind : (n : Move) → s.meaning.next k.place ≡ n → IsKindOf n f.what
  asked_kind (Access v) is = subst (λ (n : Move). IsKindOf n f.what) is (asked (rw is refl))
  asked_kind (Read v) is = subst (λ (n : Move). IsKindOf n f.what) is (asked (rw is refl))
  asked_kind Clock is = subst (λ (n : Move). IsKindOf n f.what) is (asked (rw is refl))
  asked_kind Draw is = subst (λ (n : Move). IsKindOf n f.what) is (asked (rw is refl))
  asked_kind Emit is = tt
  asked_kind End is = tt

pub next_asked : {V : Type 0} (s : Setting V) (w : World V) (f : Entry) (k : Hand) → Sound s w → IsToCome w f
    → f.number ≡ entries f.thread (log_of w.past) + 1 → (thread_after w.past f.thread).hand ≡ Some k
    → IsKindOf (s.meaning.next k.place) f.what
next_asked s w f k h come next hand =
    asked_kind s w h.firm f ((h.firm.to_come f).1 come) next k hand (s.meaning.next k.place) refl
