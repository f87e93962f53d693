-- A world ends in a run that takes no more than what was fed.
use Rattle.std.proofs.Common.{◌≡◌, ℕ, true, List, [], ◌∷◌, ◌++◌, take, refl, sym, ap, ◌∙◌, subst, inl, inr, ◌⊎◌, arith}
use Rattle.std.proofs.Common.{length-take}
use Rattle.std.specs.Prelude.{reverse}
use Rattle.std.proofs.lemmas.List.{take-take, reverse-append}
use Rattle.plain_text.specs.declared.packet.Packet.{Packet}
use Rattle.input_logger.specs.Inputs.{Fed, inputs_of}
use Rattle.entry_order.specs.Log.{Entry, IsIn}
use Rattle.entry_order.proofs.ClosedParts.{Or, in_or}
use Rattle.entry_order.proofs.KeptEntries.{in_left, in_right, in_either}
use Rattle.plain_machine.specs.Line.{IsByWeight, GoesBefore}
use Rattle.plain_machine.proofs.Runs.{history_more}
use Rattle.plain_machine.proofs.SortedEntries.{sorted_once}
use Rattle.plain_machine.specs.declared.plain_move.PlainMove.{PlainMove}
use Rattle.plain_machine.specs.Program.{Meaning}
use Rattle.plain_machine.specs.History.{Step, log_of, IsHistory}
use Rattle.plain_machine.specs.Continue.{IsLed}
use Rattle.plain_machine.proofs.Histories.{history_log, earlier_history, earlier_log}
use Rattle.plain_machine.proofs.LoggedEffects.{entry_thread}
use Rattle.master_core.specs.Mastered.{Mastered}
use Rattle.recovery_world.specs.World.{Setting, Sent, World, inputs_fed, all_inputs}
use Rattle.recovery_world.specs.Events.{Wakes}
use Rattle.recovery_world.specs.Finish.{IsLine, AllGoOn, IsFinish}
use Rattle.recovery_laws.specs.Sound.{IsKept, Sound}
use Rattle.recovery_laws.proofs.LedMoves.{led_log}
use Rattle.recovery_laws.proofs.Worlds.{fed_found}
use Rattle.recovery_laws.proofs.Finishes.{finish_there}
use Rattle.run_end.specs.Playing.{IsMasterAfter, StandsBefore, PlaysOn, LeadsTo, LeadsBy, SendsAll}
use Rattle.run_end.proofs.Ways.{led_later, led_split}
use Rattle.run_end.specs.Ending.{AreInOrder, IsOrder, IsEndOf, IsEndOfSome, EndsIn}

-- Entries in order, the oldest one first

-- the members of a list are those of its reverse
in_reverse : (e : Entry) (xs : List Entry) → IsIn e xs → IsIn e (reverse xs)
in_reverse e [] i = absurd i
in_reverse e (x ∷ xs) i =
    subst (λ (l : List Entry). IsIn e l) (sym (reverse-append (x ∷ []) xs)) (go i (λ k. in_reverse e xs k))
  where
    go : (x ≡ e) ⊎ IsIn e xs → (IsIn e xs → IsIn e (reverse xs)) → IsIn e (reverse xs ++ x ∷ [])
    go (inl same) rest = in_right e (reverse xs) (x ∷ []) (inl same)
    go (inr k) rest = in_left e (reverse xs) (x ∷ []) (rest k)

reverse_in : (e : Entry) (xs : List Entry) → IsIn e (reverse xs) → IsIn e xs
reverse_in e [] i = absurd i
reverse_in e (x ∷ xs) i =
    go (in_either e (reverse xs) (x ∷ []) (subst (λ (l : List Entry). IsIn e l) (reverse-append (x ∷ []) xs) i))
    (λ k. reverse_in e xs k)
  where
    go : IsIn e (reverse xs) ⊎ IsIn e (x ∷ []) → (IsIn e (reverse xs) → IsIn e xs) → (x ≡ e) ⊎ IsIn e xs
    go (inl k) rest = inr (rest k)
    go (inr (inl same)) rest = inl same
    go (inr (inr k)) rest = absurd k

-- the newest one first they are by weight
by_more : (log : List Entry) (x : Entry) (ys : List Entry) → IsByWeight log ys
    → ((f : Entry) → IsIn f ys → GoesBefore log x f) → IsByWeight log (ys ++ x ∷ [])
by_more log x [] by all = ((λ f i. absurd i), tt)
by_more log x (y ∷ ys) by all =
    ((λ f i. go f (in_either f ys (x ∷ []) i)), by_more log x ys by.1 (λ f i. all f (inr i)))
  where
    go : (f : Entry) → IsIn f ys ⊎ IsIn f (x ∷ []) → GoesBefore log f y
    go f (inl i) = by.0 f i
    go f (inr (inl same)) = subst (λ (z : Entry). GoesBefore log z y) same (all y (inl refl))
    go f (inr (inr i)) = absurd i

by_reverse : (log xs : List Entry) → AreInOrder log xs → IsByWeight log (reverse xs)
by_reverse log [] a = tt
by_reverse log (x ∷ xs) a = subst (λ (l : List Entry). IsByWeight log l) (sym (reverse-append (x ∷ []) xs))
    (by_more log x (reverse xs) (by_reverse log xs a.1) (λ f i. a.0 f (reverse_in f xs i)))

-- those that are not made
abbrev unmade_if : {P : Type 0} → Or P → Entry → List Entry → List Entry
unmade_if (inl old) e rest = rest
unmade_if (inr new) e rest = e ∷ rest

abbrev unmade : List Entry → List Entry → List Entry
unmade made [] = []
unmade made (e ∷ later) = unmade_if (in_or e made) e (unmade made later)

unmade_in : (made xs : List Entry) (e : Entry) → IsIn e (unmade made xs) → IsIn e xs × (IsIn e made → ⊥)
unmade_in made [] e h = absurd h
unmade_in made (x ∷ xs) e h = go (in_or x made) h (unmade_in made xs e)
  where
    go : (o : Or (IsIn x made)) → IsIn e (unmade_if o x (unmade made xs))
        → (IsIn e (unmade made xs) → IsIn e xs × (IsIn e made → ⊥)) → IsIn e (x ∷ xs) × (IsIn e made → ⊥)
    go (inl k) h rest = (inr (rest h).0, (rest h).1)
    go (inr k) (inl same) rest = (inl same, λ i. k (subst (λ (z : Entry). IsIn z made) (sym same) i))
    go (inr k) (inr h) rest = (inr (rest h).0, (rest h).1)

in_unmade : (made xs : List Entry) (e : Entry) → IsIn e xs → (IsIn e made → ⊥) → IsIn e (unmade made xs)
in_unmade made [] e h never = absurd h
in_unmade made (x ∷ xs) e h never = go (in_or x made) h (λ k. in_unmade made xs e k never)
  where
    go : (o : Or (IsIn x made)) → IsIn e (x ∷ xs) → (IsIn e xs → IsIn e (unmade made xs))
        → IsIn e (unmade_if o x (unmade made xs))
    go (inl k) (inl same) rest = absurd (never (subst (λ (z : Entry). IsIn z made) same k))
    go (inl k) (inr h) rest = rest h
    go (inr k) (inl same) rest = inl same
    go (inr k) (inr h) rest = inr (rest h)

-- they are in order too
order_unmade : (log set xs : List Entry) → AreInOrder log xs → AreInOrder log (unmade set xs)
order_unmade log set [] a = tt
order_unmade log set (x ∷ xs) a = go (in_or x set) (order_unmade log set xs a.1)
  where
    go : (o : Or (IsIn x set)) → AreInOrder log (unmade set xs) → AreInOrder log (unmade_if o x (unmade set xs))
    go (inl old) rest = rest
    go (inr new) rest = ((λ f i. a.0 f (unmade_in set xs f i).0), rest)

-- A run that makes those that are not made yet goes by all of them.
leads_by : {V : Type 0} (m : Meaning V) (fed : Fed) (threads : ℕ) (made order : List Entry) (now line : List (Step V))
    → ((e : Entry) → IsIn e made → IsIn e (log_of now)) → IsHistory m (inputs_of fed) threads line
    → IsLed now (reverse (unmade made order)) line → LeadsBy m fed order threads now line
leads_by m fed threads made [] now line old h led = (h, led)
leads_by {V} m fed threads made (e ∷ order) now line old h led =
    go (in_or e made) led (λ mid grows l. leads_by m fed threads made order mid line grows h l)
  where
    history : (mid : List (Step V)) (more : List Entry) → IsLed mid more line → IsHistory m (inputs_of fed) threads mid
    history mid more l = earlier_history m (inputs_of fed) threads mid line (led_later mid more line l) h

    go : (o : Or (IsIn e made)) → IsLed now (reverse (unmade_if o e (unmade made order))) line
        → ((mid : List (Step V)) → ((f : Entry) → IsIn f made → IsIn f (log_of mid))
        → IsLed mid (reverse (unmade made order)) line → LeadsBy m fed order threads mid line)
        → (mid : List (Step V)) × LeadsTo m fed e threads now mid × LeadsBy m fed order threads mid line
    go (inl there) l rest =
        (now, (history now (reverse (unmade made order)) l, inl (old e there, refl)), rest now old l)
    go (inr new) l rest =
        let r = led_split now (reverse (unmade made order)) e line
        (subst (λ (more : List Entry). IsLed now more line) (reverse-append (e ∷ []) (unmade made order)) l) in (
          r.0,
          (history r.0 (reverse (unmade made order)) r.2, inr r.1),
          rest r.0 (λ f i. earlier_log now r.0 f (led_later now (e ∷ []) r.0 r.1) (old f i)) r.2,
        )

module _ {V : Type 0} (s : Setting V) (w : World V) (h : Sound s w) where
  -- the setting in which the capture ends with what was fed
  abbrev cut : Setting V
  cut = record s { packets = take w.fed s.packets }

  -- a run on what was fed is one there
  same_inputs : (n : ℕ) (steps : List (Step V)) → IsHistory s.meaning (inputs_fed s n) s.threads steps → n ≡ w.fed
      → IsHistory s.meaning (inputs_fed cut w.fed) s.threads steps
  same_inputs n steps k is =
      subst (λ (l : List Packet).
      IsHistory s.meaning (inputs_of (record { threads = s.threads; tags = s.tags; packets = l })) s.threads steps)
      (ap (λ (j : ℕ). take j s.packets) is ∙ sym (take-take w.fed w.fed s.packets (omega arith))) k

  kept_there : (log : List Entry) (o : Sent) → IsKept s w log o → IsKept cut w log o
  kept_there log o k = record {
    run = k.run;
    history = same_inputs w.fed k.run k.history refl;
    sends = k.sends;
    before = k.before;
    precedes = k.precedes;
    of_run = k.of_run;
    closed_there = k.closed_there;
    known = k.known;
    closed_here = k.closed_here;
  }

  -- the world is sound there too
  cut_sound : Sound cut w
  cut_sound = record {
    firm = record {
      fed = let n = h.firm.fed in let l = length-take w.fed s.packets in omega (arith, n, l);
      legal = same_inputs w.fed w.past h.firm.legal refl;
      stored = h.firm.stored;
      copied = h.firm.copied;
      down = h.firm.down;
      more = h.firm.more;
      to_come = h.firm.to_come;
      log = h.firm.log;
      known = h.firm.known;
      closed = h.firm.closed;
      here = h.firm.here;
      follows = h.firm.follows;
      only = h.firm.only;
      origin = h.firm.origin;
      origin_is = same_inputs w.fed h.firm.origin h.firm.origin_is refl;
      made = h.firm.made;
      held = h.firm.held;
      held_once = h.firm.held_once;
      held_on = h.firm.held_on;
      released = λ o i. kept_there (h.firm.more ++ log_of w.past) o (h.firm.released o i);
      sent = h.firm.sent;
      once = h.firm.once;
    };
    waits = h.waits;
  }

  -- a run on what was fed is one on the whole capture
  whole : (steps : List (Step V)) → IsHistory s.meaning (inputs_fed s w.fed) s.threads steps
      → IsHistory s.meaning (all_inputs s) s.threads steps
  whole steps k = history_more s.meaning (inputs_fed s w.fed) (all_inputs s) s.threads
      (λ t i q e. fed_found s w.fed t i q e) steps k

  -- The line and the run in which the world ends, which take no more than what was fed.
  pub record FedFinish : Type 0 where
    pub line : List (Step V)
    pub line_is : IsLine s w line
    pub line_fed : IsHistory s.meaning (inputs_fed s w.fed) s.threads line
    pub steps : List (Step V)
    pub finish : IsFinish s w steps
    pub steps_fed : IsHistory s.meaning (inputs_fed s w.fed) s.threads steps
    pub goes_on : AllGoOn w.released s.threads line steps

  pub fed_finish : w.up ≡ true → FedFinish
  fed_finish up = found (finish_there cut w cut_sound)
    where
      awake : (u : World V) → Wakes w u → u ≡ w
      awake u (inl k) = k.1
      awake u (inr k) = absurd (let d = k.0 in cc)

      found : ((steps : List (Step V)) × IsFinish cut w steps) → FedFinish
      found (steps, f) = record {
        line = f.line;
        line_is = line_is;
        line_fed = there.history;
        steps = steps;
        finish = record {
          up = w;
          up_is = inl (up, refl);
          line = f.line;
          line_is = line_is;
          history = whole steps f.history;
          goes_on = goes;
        };
        steps_fed = f.history;
        goes_on = goes;
      }
        where
          same : f.up ≡ w
          same = awake f.up f.up_is

          there : IsLine cut w f.line
          there = subst (λ (u : World V). IsLine cut u f.line) same f.line_is

          goes : AllGoOn w.released s.threads f.line steps
          goes = subst (λ (u : World V). AllGoOn u.released s.threads f.line steps) same f.goes_on

          line_is : IsLine s w f.line
          line_is = record {
            history = whole f.line there.history;
            more = there.more;
            to_come = there.to_come;
            order = there.order;
            led = there.led;
          }

  -- a line makes the entries to come in their order
  pub order_is : (order : List Entry) (line : List (Step V)) → IsOrder s w order → (l : IsLine s w line)
      → l.more ≡ reverse (unmade (log_of w.past) order)
  order_is order line o l =
      sorted_once s.threads (log_of line) (history_log s.meaning (all_inputs s) s.threads line l.history)
      (λ f i. entry_thread s.meaning (all_inputs s) s.threads line f l.history i) l.more
      (reverse (unmade (log_of w.past) order))
      (λ g i. subst (λ (log : List Entry). IsIn g log) (sym (led_log w.past l.more line l.led))
      (in_left g l.more (log_of w.past) i))
      (λ g i.
      let k = (l.to_come g).0 i in
      in_reverse g (unmade (log_of w.past) order) (in_unmade (log_of w.past) order g (o.all g k) k.1))
      (λ g i.
      let k = unmade_in (log_of w.past) order g (reverse_in g (unmade (log_of w.past) order) i) in
      (l.to_come g).1 (o.followed g k.0, k.1)) l.order
      (by_reverse (log_of line) (unmade (log_of w.past) order)
      (order_unmade (log_of line) (log_of w.past) order (o.in_order line l)))

-- The ways that a master goes to the end of its world.
pub record EndWays {V : Type 0} (m : Meaning V) (s : Setting V) (w : World V) (fed : Fed) (p : Mastered V)
    (schedule : List PlainMove) (order : List Entry) (numbers : List ℕ) : Type 0 where
  pub line : List (Step V)
  pub steps : List (Step V)
  pub at : IsMasterAfter m s.threads w.past p schedule
  pub leads : LeadsBy m fed order s.threads w.past line
  pub sends : SendsAll m fed numbers s.threads line steps
  pub finish : IsFinish s w steps

pub end_ways : {V : Type 0} (m : Meaning V) (s : Setting V) (w : World V) (fed : Fed) (p : Mastered V)
    (schedule : List PlainMove) (order : List Entry) (numbers : List ℕ) → IsEndOf m s w fed p schedule order numbers
    → EndWays m s w fed p schedule order numbers
end_ways {V} m s w fed p schedule order numbers e = record {
  line = f.line;
  steps = f.steps;
  at = subst (λ (n : Meaning V). IsMasterAfter n s.threads w.past p schedule) e.meaning e.master;
  leads = leads_by m fed s.threads (log_of w.past) order w.past f.line (λ g i. i) (as_fed f.line f.line_fed)
      (subst (λ (l : List Entry). IsLed w.past l f.line) (order_is s w e.sound order f.line e.in_order f.line_is)
      f.line_is.led);
  sends = (sym (ap (λ (i : Fed). i.threads) e.inputs), as_fed f.steps f.steps_fed, w.released, e.released, f.goes_on);
  finish = f.finish;
}
  where
    f : FedFinish s w e.sound
    f = fed_finish s w e.sound e.up

    as_fed : (xs : List (Step V)) → IsHistory s.meaning (inputs_fed s w.fed) s.threads xs
        → IsHistory m (inputs_of fed) s.threads xs
    as_fed xs k = subst (λ (n : Meaning V). IsHistory n (inputs_of fed) s.threads xs) e.meaning
        (subst (λ (i : Fed). IsHistory s.meaning (inputs_of i) s.threads xs) (sym e.inputs) k)

-- So it makes the entries to come, sends out again what was released, and is at the end of the world.
module _ {V : Type 0} (m : Meaning V) (fed : Fed) (p : Mastered V) (schedule : List PlainMove) (order : List Entry)
    (numbers : List ℕ) where
  pub leads_from : IsEndOfSome m fed p schedule order numbers → StandsBefore (LeadsBy m fed order) m p schedule
  leads_from some =
      let k = end_ways m some.0 some.1 fed p schedule order numbers some.2 in
      (some.0.threads, some.1.past, k.line, k.leads, k.at)

  pub sends_from : (q : Mastered V) (moves : List PlainMove) → IsEndOfSome m fed p schedule order numbers
      → PlaysOn (LeadsBy m fed order) m p schedule q moves → StandsBefore (SendsAll m fed numbers) m q moves
  sends_from q moves some follows =
      let k = end_ways m some.0 some.1 fed p schedule order numbers some.2 in
      (some.0.threads, k.line, k.steps, k.sends, follows some.0.threads some.1.past k.line k.leads k.at)

  pub ends_from : (q : Mastered V) (moves : List PlainMove) (r : Mastered V) (all : List PlainMove)
      → PlaysOn (LeadsBy m fed order) m p schedule q moves → PlaysOn (SendsAll m fed numbers) m q moves r all
      → (s : Setting V) (w : World V) → IsEndOf m s w fed p schedule order numbers → EndsIn s w all
  ends_from q moves r all follows sends s w e =
      let k = end_ways m s w fed p schedule order numbers e in
      let at = sends s.threads k.line k.steps k.sends (follows s.threads w.past k.line k.leads k.at) in
      record { steps = k.steps; finish = k.finish; schedule_is = at.schedule_is }
