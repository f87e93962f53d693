-- A world where some entries arrived early, and the one behind it.
use Rattle.std.proofs.Common.{◌≡◌, ℕ, ◌+◌, ◌≤◌, ◌<◌, List, [], ◌∷◌, ◌++◌, refl, sym, ap, ◌∙◌, subst, inl, inr, ◌⊎◌}
use Rattle.std.proofs.Common.{arith, Option, Some, None}
use Rattle.std.specs.Prelude.{◌↔◌}
use Rattle.entry_order.specs.Log.{Entry, entries, IsLog, IsIn, PrecedesOutput}
use Rattle.entry_order.proofs.Order.{number_within}
use Rattle.entry_order.proofs.Joins.{output_older}
use Rattle.entry_order.proofs.Missing.{output_in}
use Rattle.plain_machine.specs.History.{Step, log_of}
use Rattle.plain_machine.proofs.Histories.{history_log}
use Rattle.recovery_world.specs.declared.event.Event.{Event}
use Rattle.recovery_world.specs.declared.event.Event.TheVariants as event
use Rattle.recovery_world.specs.declared.event.Outcome.{Outcome}
use Rattle.recovery_world.specs.World.{Setting, Sent, World, inputs_fed}
use Rattle.recovery_world.specs.Events.{IsKnown, IsAmong, OnStep, On, after_feed}
use Rattle.plain_text.specs.declared.limit.Limit.{Limit}
use Rattle.recovery_world.specs.Limits.{limit_passed, IsWithin, OnWithin, Passes}
use Rattle.recovery_laws.specs.Sound.{Sound}
use Rattle.recovery_laws.proofs.KeptWorlds.{within_sound}
use Rattle.recovery_laws.proofs.SoundParts.{sent_after}
use Rattle.early_arrivals.specs.Early.{with_held, IsAhead, IsEarly, IsSameSet, IsMoving, OfThread, OfPackets, MayArrive}
use Rattle.early_arrivals.specs.Early.{GoesBehind, LogsBehind}
use Rattle.early_arrivals.proofs.EarlyWorlds.{step_alike, step_ahead, log_early, Back, log_back}

-- A move

-- what a step leaves as it was
step_stays : {V : Type 0} (s : Setting V) (w new : World V) (t : ℕ) (given : Option ℕ) (to : Outcome)
    → OnStep s w t given to new → (new.held ≡ w.held) × (new.waiting ≡ w.waiting)
step_stays {V} s w new t given to (inl a) = (ap (λ (z : World V). z.held) a.2, ap (λ (z : World V). z.waiting) a.2)
step_stays {V} s w new t given to (inr (inl a)) =
    (ap (λ (z : World V). z.held) a.3, ap (λ (z : World V). z.waiting) a.3)
step_stays {V} s w new t given to (inr (inr (inl a))) =
    (ap (λ (z : World V). z.held) a.4, ap (λ (z : World V). z.waiting) a.4)
step_stays {V} s w new t given to (inr (inr (inr (inl a)))) =
    (ap (λ (z : World V). z.held) a.3, ap (λ (z : World V). z.waiting) a.3)
step_stays {V} s w new t given to (inr (inr (inr (inr a)))) =
    (ap (λ (z : World V). z.held) a.2.new_is, ap (λ (z : World V). z.waiting) a.2.new_is)

-- what the world does where the one that is ahead makes a move
pub record Moves {V : Type 0} (s : Setting V) (w : World V) (held : List Entry) (ev : Event) (to : Outcome)
    (freed : List Sent) (next : World V) : Type 0 where
  pub new : World V
  pub on : On s w ev to freed new
  pub same : next ≡ with_held new held
  pub ahead : IsAhead new held
  pub waiting : new.waiting ≡ w.waiting

pub move_back : {V : Type 0} (s : Setting V) (w next : World V) (held : List Entry) (ev : Event) (to : Outcome)
    (freed : List Sent) → Sound s w → IsAhead w held → IsMoving ev → On s (with_held w held) ev to freed next
    → Moves s w held ev to freed next
move_back {V} s w next held ev to freed h k (OfThread t given) (a, b) = record {
  new = with_held next w.held;
  on = (on, b);
  same = ap (λ (l : List Entry). with_held next l) stays.0;
  ahead = step_ahead s w (with_held next w.held) held t given to h on k;
  waiting = stays.1;
}
  where
    on : OnStep s w t given to (with_held next w.held)
    on = step_alike s (with_held w held) next w.held t given to a

    stays : (next.held ≡ held) × (next.waiting ≡ w.waiting)
    stays = step_stays s (with_held w held) next t given to a
move_back {V} s w next held ev to freed h k (OfPackets n) (a, b, same) = record {
  new = after_feed s w n;
  on = (a, b, refl);
  same = same;
  ahead = record { keeps = k.keeps; more = k.more; unwanted = k.unwanted };
  waiting = refl;
}

-- No output that waits has the entry among its predecessors that was made since.
pub new_unwanted : {V : Type 0} (s : Setting V) (w new : World V) (e : Entry) → Sound s w → Sound s new
    → new.waiting ≡ w.waiting → log_of new.past ≡ e ∷ log_of w.past → (o : Sent) → IsAmong o new.waiting
    → PrecedesOutput (log_of new.past) o.emission.thread o.after e → ⊥
new_unwanted {V} s w new e h hn waiting log o i p = omega (arith, n.1, good.0)
  where
    good : IsLog (e ∷ log_of w.past)
    good = subst (λ (l : List Entry). IsLog l) log
        (history_log s.meaning (inputs_fed s new.fed) s.threads new.past hn.firm.legal)

    low : o.after ≤ entries o.emission.thread (log_of w.past)
    low = sent_after w.past o.emission o.after (h.firm.sent o (subst (λ (l : List Sent). IsAmong o l) waiting i))

    older : PrecedesOutput (log_of w.past) o.emission.thread o.after e
    older = output_older e (log_of w.past) o.emission.thread o.after e good low
        (subst (λ (l : List Entry). PrecedesOutput l o.emission.thread o.after e) log p)

    n : (1 ≤ e.number) × (e.number ≤ entries e.thread (log_of w.past))
    n = number_within (log_of w.past) e (history_log s.meaning (inputs_fed s w.fed) s.threads w.past h.firm.legal)
        (output_in (log_of w.past) o.emission.thread o.after e older)

-- no entry arrived early yet
pub none_early : {V : Type 0} (w : World V) → IsEarly w w
none_early w = record {
  held = w.held;
  same = refl;
  ahead = record { keeps = λ e i. i; more = λ e i. inl i; unwanted = λ o e i p there. there };
}

-- a move, after which its entry arrives or does not
went_ahead : {V : Type 0} (s : Setting V) (w next early : World V) (held : List Entry) (ev : Event) (to : Outcome)
    (freed : List Sent) → Sound s w → Sound s (with_held w held) → IsAhead w held → IsMoving ev
    → OnWithin s (with_held w held) ev to freed next → MayArrive s (with_held w held) next early
    → GoesBehind s w ev to freed early
went_ahead {V} s w next early held ev to freed h hh k moving on arrives = go arrives
  where
    m : Moves s w held ev to freed next
    m = move_back s w next held ev to freed h k moving on.0

    within : OnWithin s w ev to freed m.new
    within = (m.on, subst (λ (z : World V). IsWithin z) m.same on.1)

    sound : Sound s m.new
    sound = within_sound s w ev to freed m.new h within

    next_sound : Sound s next
    next_sound = within_sound s (with_held w held) ev to freed next hh on

    go : MayArrive s (with_held w held) next early → GoesBehind s w ev to freed early
    go (inl same) = record {
      new = m.new;
      on = within;
      sound = sound;
      early_sound = subst (λ (z : World V). Sound s z) (sym same) next_sound;
      is_early = record { held = held; same = same ∙ m.same; ahead = m.ahead };
    }
    go (inr (e, log, other, rest, arrival)) = record {
      new = m.new;
      on = within;
      sound = sound;
      early_sound = within_sound s next (event.Log e.thread e.number) other rest early next_sound arrival;
      is_early = (log_early s m.new early held e other rest (subst (λ (z : World V). Sound s z) m.same next_sound)
          m.ahead here (λ o i p. absurd (new_unwanted s w m.new e h sound m.waiting grown o i p))
          (subst (λ (z : World V). On s z (event.Log e.thread e.number) other rest early) m.same arrival.0)).1;
    }
      where
        grown : log_of m.new.past ≡ e ∷ log_of w.past
        grown = ap (λ (z : World V). log_of z.past) (sym m.same) ∙ log

        here : IsIn e (log_of m.new.past)
        here = subst (λ (l : List Entry). IsIn e l) (sym grown) (inl refl)

pub went : {V : Type 0} (s : Setting V) (w early next new : World V) (ev : Event) (to : Outcome) (freed : List Sent)
    → Sound s w → Sound s early → IsEarly w early → IsMoving ev → OnWithin s early ev to freed next
    → MayArrive s early next new → GoesBehind s w ev to freed new
went {V} s w early next new ev to freed h hh r moving on arrives =
    went_ahead s w next new r.held ev to freed h (subst (λ (z : World V). Sound s z) r.same hh) r.ahead moving
    (subst (λ (z : World V). OnWithin s z ev to freed next) r.same on)
    (subst (λ (z : World V). MayArrive s z next new) r.same arrives)

-- it would pass the same limit
pub passes_back : {V : Type 0} (s : Setting V) (w early : World V) (ev : Event) (limit : Limit) → Sound s w
    → IsEarly w early → IsMoving ev → Passes s early ev limit → Passes s w ev limit
passes_back {V} s w early ev limit h r moving p = record {
  to = p.to;
  freed = p.freed;
  new = m.new;
  on = m.on;
  passed = ap (λ (z : World V). limit_passed z.moves z.bytes) (sym m.same) ∙ p.passed;
}
  where
    m : Moves s w r.held ev p.to p.freed p.new
    m = move_back s w p.new r.held ev p.to p.freed h r.ahead moving
        (subst (λ (z : World V). On s z ev p.to p.freed p.new) r.same p.on)

-- Then the entries of the past arrive in both.
pub logged : {V : Type 0} (s : Setting V) (w early new : World V) (t n : ℕ) (to : Outcome) (freed : List Sent)
    → Sound s w → Sound s early → IsEarly w early → OnWithin s early (event.Log t n) to freed new
    → LogsBehind s w t n freed new
logged {V} s w early new t n to freed h hh r on = record {
  to = b.to;
  new = b.new;
  on = (b.on, subst (λ (z : World V). IsWithin z) b.early.same on.1);
  is_early = b.early;
}
  where
    b : Back s w (event.Log t n) freed new
    b = log_back s w new r.held t n to freed h (subst (λ (z : World V). Sound s z) r.same hh) r.ahead
        (subst (λ (z : World V). On s z (event.Log t n) to freed new) r.same on.0)

-- What is ahead is no more, where each entry of the past is known.
pub caught_up : {V : Type 0} (w early : World V) → ((e : Entry) → IsIn e (log_of w.past) → IsKnown w e)
    → IsEarly w early → IsSameSet w early
caught_up {V} w early all r = record { held = r.held; same = r.same; members = λ e. (into e, r.ahead.keeps e) }
  where
    into : (e : Entry) → IsIn e r.held → IsIn e w.held
    into e i = go (r.ahead.more e i)
      where
        go : IsIn e w.held ⊎ (IsIn e (log_of w.past) × (IsIn e (log_of w.stored) → ⊥)) → IsIn e w.held
        go (inl j) = j
        go (inr j) = pick (all e j.0)
          where
            pick : IsKnown w e → IsIn e w.held
            pick (inl x) = x
            pick (inr x) = absurd (j.1 x)
