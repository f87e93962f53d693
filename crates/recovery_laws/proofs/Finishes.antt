-- The run in which a world ends: there is one, and it keeps what must not be lost.
use Rattle.std.proofs.Common.{◌≡◌, ℕ, zero, suc, ◌+◌, ◌≤◌, ◌<◌, ◌≢◌, Bool, true, false, cond, max, List, [], ◌∷◌, ◌++◌}
use Rattle.std.proofs.Common.{length, refl, sym, ap, ◌∙◌, subst, inl, inr, ◌⊎◌, arith}
use Rattle.std.specs.Prelude.{◌↔◌, nat_eq}
use Rattle.std.proofs.lemmas.Bool.{cases_lt}
use Rattle.std.proofs.lemmas.Bool.Decides.{nat_tests}
use Rattle.plain_text.specs.declared.packet.Packet.{Packet}
use Rattle.entry_order.specs.Log.{Entry, entries, IsLog, IsIn, Precedes, PrecedesOrIs, Keeps, PrecedesOutput}
use Rattle.entry_order.specs.Closed.{IsClosedOver, IsClosedPart, IsMissing, IsNoLater, IsFirstMissing}
use Rattle.entry_order.proofs.Order.{is_or, same_number}
use Rattle.entry_order.proofs.ClosedParts.{Or, in_or, closed_part_there}
use Rattle.entry_order.proofs.KeptEntries.{in_left, in_right, in_either}
use Rattle.entry_order.proofs.NoLater.{no_later_trans, later_or}
use Rattle.plain_machine.specs.declared.emission.Emission.{Emission}
use Rattle.plain_machine.specs.Program.{Meaning}
use Rattle.plain_machine.specs.History.{Act, Took, Did, Emitted, Ended, Step, log_of, sent_more, sent_of, outputs}
use Rattle.plain_machine.specs.History.{IsHistory}
use Rattle.plain_machine.specs.Agree.{IsEarlier, SendsAfter}
use Rattle.plain_machine.proofs.Histories.{history_log, earlier_refl, earlier_trans, earlier_history, earlier_outputs}
use Rattle.plain_machine.proofs.Histories.{did_emission}
use Rattle.plain_machine.proofs.PlayedLists.{history_played}
use Rattle.plain_machine.proofs.Agreement.{histories_agree, sends_at}
use Rattle.plain_machine.proofs.LoggedEffects.{entry_thread}
use Rattle.recovery_world.specs.World.{Setting, Sent, World, inputs_fed, all_inputs}
use Rattle.recovery_world.specs.Events.{Wakes, IsKnown, IsAmong, IsPartOf, Recovers, entries_of_line, ended_now}
use Rattle.recovery_world.specs.Finish.{IsLine, greatest, GoesOn, AllGoOn, IsFinish}
use Rattle.recovery_world.specs.FromPlainMachine.{IsByWeight, GoesBefore}
use Rattle.plain_machine.specs.Continue.{IsQuiet, GoesQuietly}
use Rattle.recovery_world.proofs.FromPlainMachine.{arranged_log}
use Rattle.recovery_world.proofs.FromPlainMachine.{by_weight_arranged}
use Rattle.recovery_world.proofs.FromPlainMachine.{weight_moves, precedes_moves, sorted}
use Rattle.plain_machine.proofs.Continuations.{stays_quietly}
use Rattle.recovery_world.proofs.FromPlainMachine.{history_more}
use Rattle.recovery_world.proofs.FromPlainMachine.{sends_later, quiet_later, quiet_same_log, comes_again}
use Rattle.recovery_laws.specs.Sound.{IsKept, Firm, Sound}
use Rattle.recovery_laws.specs.Ends.{Ends}
use Rattle.recovery_laws.proofs.LedMoves.{led_log}
use Rattle.recovery_laws.proofs.Worlds.{LineOf, line_of, known_here, fed_found}
use Rattle.recovery_laws.proofs.Sets.{predecessors, predecessors_closed, outside, outside_in, in_outside, inside_if}
use Rattle.recovery_laws.proofs.Sets.{inside, inside_in, in_inside}
use Rattle.recovery_laws.proofs.KeptWorlds.{recovers_sound, line_entries, entries_line}
use Rattle.recovery_laws.proofs.OneFinish.{finish_one}

pub sends_thread : {V : Type 0} (m : Meaning V) (inputs : ℕ → List Packet) (threads : ℕ) (steps : List (Step V))
    (o : Emission) (n : ℕ) → IsHistory m inputs threads steps → SendsAfter steps o n
    → (o.thread < threads) × (1 ≤ o.number)
sends_thread m inputs threads steps o n h sends =
    let r = sends_at steps o n sends in
    let made = (earlier_history m inputs threads (r.0 ∷ r.1) steps r.2 h).0 in
    let k = did_emission r.0.thread r.0.after.taken r.1 made.2 o (sym made.4 ∙ r.3) in
    (subst (λ (t : ℕ). t < threads) (sym k.0) made.0, omega (arith, k.1))

-- the greatest released number
pub among_greatest : (t : ℕ) (rel : List Sent) (o : Sent) → IsAmong o rel → o.emission.thread ≡ t
    → o.emission.number ≤ greatest t rel
among_greatest t [] o h th = absurd h
among_greatest t (x ∷ rel) o (inl same) th =
    let k : nat_eq x.emission.thread t ≡ true =
    let q : x.emission.thread ≡ t = ap (λ (y : Sent). y.emission.thread) same ∙ th in grind (arith, nat_tests) in
    let n : x.emission.number ≡ o.emission.number = ap (λ (y : Sent). y.emission.number) same in rw k (omega arith)
among_greatest t (x ∷ rel) o (inr h) th = go (nat_eq x.emission.thread t) (among_greatest t rel o h th)
  where
    go : (b : Bool) → o.emission.number ≤ greatest t rel
        → o.emission.number ≤ cond b (max x.emission.number (greatest t rel)) (greatest t rel)
    go true k = omega arith
    go false k = k

greatest_there : (t : ℕ) (rel : List Sent) → 1 ≤ greatest t rel
    → (o : Sent) × IsAmong o rel × (o.emission.thread ≡ t) × (o.emission.number ≡ greatest t rel)
greatest_there t [] h = absurd (omega arith)
greatest_there t (x ∷ rel) h = go (is_or x.emission.thread t) (greatest_there t rel)
  where
    old : ((o : Sent) × IsAmong o rel × (o.emission.thread ≡ t) × (o.emission.number ≡ greatest t rel)) → (n : ℕ)
        → n ≡ greatest t rel → (o : Sent) × IsAmong o (x ∷ rel) × (o.emission.thread ≡ t) × (o.emission.number ≡ n)
    old (o, i, th, q) n same = (o, inr i, th, q ∙ sym same)

    both : x.emission.thread ≡ t → (x.emission.number < greatest t rel) ⊎ (greatest t rel ≤ x.emission.number)
        → (1 ≤ greatest t rel
        → (o : Sent) × IsAmong o rel × (o.emission.thread ≡ t) × (o.emission.number ≡ greatest t rel))
        → (o : Sent) × IsAmong o (x ∷ rel) × (o.emission.thread ≡ t)
        × (o.emission.number ≡ max x.emission.number (greatest t rel))
    both th (inl k) rest = old (rest (omega arith)) (max x.emission.number (greatest t rel)) (omega arith)
    both th (inr k) rest = (x, inl refl, th, omega arith)

    go : (x.emission.thread ≡ t) ⊎ (x.emission.thread ≢ t)
        → (1 ≤ greatest t rel
        → (o : Sent) × IsAmong o rel × (o.emission.thread ≡ t) × (o.emission.number ≡ greatest t rel))
        → (o : Sent) × IsAmong o (x ∷ rel) × (o.emission.thread ≡ t) × (o.emission.number ≡ greatest t (x ∷ rel))
    go (inl a) rest =
        let k : nat_eq x.emission.thread t ≡ true = grind (arith, nat_tests) in
        rw k (both a (cases_lt x.emission.number (greatest t rel)) rest)
    go (inr a) rest =
        let k : nat_eq x.emission.thread t ≡ false = grind (arith, nat_tests) in
        rw k (old (rest (rw k at h)) (greatest t rel) refl)

-- each output up to the count was sent
pub sent_there : {V : Type 0} (m : Meaning V) (inputs : ℕ → List Packet) (threads : ℕ) (t j : ℕ) (steps : List (Step V))
    → IsHistory m inputs threads steps → 1 ≤ j → j ≤ outputs t (sent_of steps)
    → (o : Emission) × (n : ℕ) × SendsAfter steps o n × (o.thread ≡ t) × (o.number ≡ j)
sent_there m inputs threads t j [] h low high = absurd (omega arith)
sent_there {V} m inputs threads t j (x ∷ steps) h low high =
    go x.act refl high (λ k. sent_there m inputs threads t j steps h.1 low k)
  where
    older : ((o : Emission) × (n : ℕ) × SendsAfter steps o n × (o.thread ≡ t) × (o.number ≡ j))
        → (o : Emission) × (n : ℕ) × SendsAfter (x ∷ steps) o n × (o.thread ≡ t) × (o.number ≡ j)
    older (o, n, a, b, c) = (o, n, inr a, b, c)

    emit : (o : Emission) → x.act ≡ Emitted o → (o.thread ≡ t) ⊎ (o.thread ≢ t)
        → (j ≡ outputs t (sent_of steps) + 1) ⊎ (j ≢ outputs t (sent_of steps) + 1) → j ≤ outputs t (o ∷ sent_of steps)
        → (j ≤ outputs t (sent_of steps)
        → (o : Emission) × (n : ℕ) × SendsAfter steps o n × (o.thread ≡ t) × (o.number ≡ j))
        → (o : Emission) × (n : ℕ) × SendsAfter (x ∷ steps) o n × (o.thread ≡ t) × (o.number ≡ j)
    emit o is (inr a) b high rest =
        let k : nat_eq o.thread t ≡ false = grind (arith, nat_tests) in older (rest (rw k at high))
    emit o is (inl a) (inl b) high rest =
        let d = did_emission x.thread x.after.taken steps h.0.2 o (sym h.0.4 ∙ is) in
        let u : outputs x.thread (sent_of steps) ≡ outputs t (sent_of steps) =
        ap (λ (z : ℕ). outputs z (sent_of steps)) (sym d.0 ∙ a) in
        (o, entries o.thread (log_of steps), inl (is, refl), a, omega (arith, d.1, u, b))
    emit o is (inl a) (inr b) high rest =
        let k : nat_eq o.thread t ≡ true = grind (arith, nat_tests) in
        let z : j ≤ outputs t (sent_of steps) + 1 = rw k at high in older (rest (omega (arith, z, b)))

    go : (a : Act V) → x.act ≡ a → j ≤ outputs t (sent_more a (sent_of steps))
        → (j ≤ outputs t (sent_of steps)
        → (o : Emission) × (n : ℕ) × SendsAfter steps o n × (o.thread ≡ t) × (o.number ≡ j))
        → (o : Emission) × (n : ℕ) × SendsAfter (x ∷ steps) o n × (o.thread ≡ t) × (o.number ≡ j)
    go (Took k) is high rest = older (rest high)
    go (Did e left) is high rest = older (rest high)
    go (Emitted o) is high rest = emit o is (is_or o.thread t) (is_or j (outputs t (sent_of steps) + 1)) high rest
    go (Ended k) is high rest = older (rest high)

-- of two moments, each not later than the other
earlier_or : {V : Type 0} (xs ys : List (Step V)) → IsEarlier xs ys → (xs ≡ ys) ⊎ (length xs < length ys)
earlier_or xs [] h = inl h
earlier_or xs (y ∷ ys) (inl h) = inl h
earlier_or {V} xs (y ∷ ys) (inr h) = go (earlier_or xs ys h)
  where
    go : (xs ≡ ys) ⊎ (length xs < length ys) → (xs ≡ y ∷ ys) ⊎ (length xs < length (y ∷ ys))
    go (inl k) = let n : length xs ≡ length ys = ap (λ (l : List (Step V)). length l) k in inr (omega arith)
    go (inr k) = inr (omega arith)

earlier_same : {V : Type 0} (xs ys : List (Step V)) → IsEarlier xs ys → IsEarlier ys xs → ys ≡ xs
earlier_same xs ys a b = go (earlier_or xs ys a) (earlier_or ys xs b)
  where
    go : (xs ≡ ys) ⊎ (length xs < length ys) → (ys ≡ xs) ⊎ (length ys < length xs) → ys ≡ xs
    go (inl k) q = sym k
    go (inr k) (inl q) = q
    go (inr k) (inr q) = absurd (omega arith)

-- Going on, thread by thread

go_log : {V : Type 0} (rel : List Sent) (n : ℕ) (line steps : List (Step V)) → AllGoOn rel n line steps
    → log_of steps ≡ log_of line
go_log {V} rel zero line steps h = ap (λ (l : List (Step V)). log_of l) h
go_log rel (suc n) line steps h = quiet_same_log h.0 n steps h.2.quiet ∙ go_log rel n line h.0 h.1

go_later : {V : Type 0} (rel : List Sent) (n : ℕ) (line steps : List (Step V)) → AllGoOn rel n line steps
    → IsEarlier line steps
go_later {V} rel zero line steps h = subst (λ (l : List (Step V)). IsEarlier line l) (sym h) (earlier_refl line)
go_later rel (suc n) line steps h =
    earlier_trans line h.0 steps (go_later rel n line h.0 h.1) (quiet_later h.0 n steps h.2.quiet)

-- the moment at which the thread has gone on
go_at : {V : Type 0} (rel : List Sent) (n : ℕ) (line steps : List (Step V)) (t : ℕ) → AllGoOn rel n line steps → t < n
    → (to : List (Step V)) × (greatest t rel ≤ outputs t (sent_of to)) × IsEarlier to steps × (log_of to ≡ log_of line)
go_at rel zero line steps t h low = absurd (omega arith)
go_at {V} rel (suc n) line steps t h low = go (is_or t n) (λ k. go_at rel n line h.0 t h.1 k)
  where
    go : (t ≡ n) ⊎ (t ≢ n)
        → (t < n
        → (to : List (Step V)) × (greatest t rel ≤ outputs t (sent_of to)) × IsEarlier to h.0
        × (log_of to ≡ log_of line))
        → (to : List (Step V)) × (greatest t rel ≤ outputs t (sent_of to)) × IsEarlier to steps
        × (log_of to ≡ log_of line)
    go (inl k) rest = (
      steps,
      subst (λ (u : ℕ). greatest u rel ≤ outputs u (sent_of steps)) (sym k) h.2.enough,
      earlier_refl steps,
      quiet_same_log h.0 n steps h.2.quiet ∙ go_log rel n line h.0 h.1,
    )
    go (inr k) rest =
        let r = rest (omega (arith, k)) in
        (r.0, r.1, earlier_trans r.0 h.0 steps r.2 (quiet_later h.0 n steps h.2.quiet), r.3)

module _ {V : Type 0} (s : Setting V) (w : World V) (h : Firm s w) where
  all_of : (xs : List (Step V)) → IsHistory s.meaning (inputs_fed s w.fed) s.threads xs
      → IsHistory s.meaning (all_inputs s) s.threads xs
  all_of xs k =
      history_more s.meaning (inputs_fed s w.fed) (all_inputs s) s.threads (λ t i q e. fed_found s w.fed t i q e) xs k

  -- the log of the line, however it is ordered
  pub of_line : (line : List (Step V)) → IsLine s w line → (e : Entry) → IsIn e (h.more ++ log_of w.past)
      → IsIn e (log_of line)
  of_line line l e i = subst (λ (x : List Entry). IsIn e x) (sym (led_log w.past l.more line l.led))
      (go (in_either e h.more (log_of w.past) i))
    where
      go : IsIn e h.more ⊎ IsIn e (log_of w.past) → IsIn e (l.more ++ log_of w.past)
      go (inl k) = in_left e l.more (log_of w.past) ((l.to_come e).1 ((h.to_come e).0 k))
      go (inr k) = in_right e l.more (log_of w.past) k

  -- What was released is sent again.
  emits_again : (line steps : List (Step V)) → IsLine s w line → IsHistory s.meaning (all_inputs s) s.threads steps
      → AllGoOn w.released s.threads line steps → (o : Sent) → IsAmong o w.released
      → SendsAfter steps o.emission o.after
  emits_again line steps l hs goes o i = at (go_at w.released s.threads line steps o.emission.thread goes low.0)
    where
      k : IsKept s w (h.more ++ log_of w.past) o
      k = h.released o i

      run_all : IsHistory s.meaning (all_inputs s) s.threads k.run
      run_all = all_of k.run k.history

      low : (o.emission.thread < s.threads) × (1 ≤ o.emission.number)
      low = sends_thread s.meaning (all_inputs s) s.threads k.run o.emission o.after run_all k.sends

      at : ((to : List (Step V)) × (greatest o.emission.thread w.released ≤ outputs o.emission.thread (sent_of to))
          × IsEarlier to steps × (log_of to ≡ log_of line)) → SendsAfter steps o.emission o.after
      at (to, enough, early, same) =
          let g : o.emission.number ≤ greatest o.emission.thread w.released =
          among_greatest o.emission.thread w.released o i refl in
          let p = sent_there s.meaning (all_inputs s) s.threads o.emission.thread o.emission.number to hto low.1
          (omega (arith, g, enough)) in
          let a = (histories_agree s.meaning (all_inputs s) s.threads k.run to k.before run_all hto k.closed_there
          k.of_run kept_there).1 o.emission p.0 o.after p.1 k.sends p.2 (sym p.3) (sym p.4) k.precedes in
          sends_later to steps o.emission o.after early (subst (λ (q : Emission). SendsAfter to q o.after) (sym a.0)
          (subst (λ (n : ℕ). SendsAfter to p.0 n) (sym a.1) p.2))
        where
          hto : IsHistory s.meaning (all_inputs s) s.threads to
          hto = earlier_history s.meaning (all_inputs s) s.threads to steps early hs

          kept_there : Keeps (log_of to) k.before
          kept_there e j =
              subst (λ (x : List Entry). IsIn e x) (sym same) (of_line line l e (known_here s w h e (k.known e j)))

  -- There is a line, and it takes only inputs that were fed.
  fed_line : (line : List (Step V)) × IsLine s w line × IsHistory s.meaning (inputs_fed s w.fed) s.threads line
  fed_line =
      made (sorted s.threads (h.more ++ log_of w.past) h.log low h.more (λ g i. in_left g h.more (log_of w.past) i))
    where
      first : LineOf s w h h.more
      first = line_of s w h h.more h.log (λ e i. i)

      low : (f : Entry) → IsIn f (h.more ++ log_of w.past) → f.thread < s.threads
      low f i = entry_thread s.meaning (inputs_fed s w.fed) s.threads first.line f first.history
          (subst (λ (x : List Entry). IsIn f x) (sym first.log_is) i)

      made : ((more : List Entry)
          × ((g : Entry) → IsIn g more ↔ IsIn g h.more)
          × IsByWeight (h.more ++ log_of w.past) more)
          → (line : List (Step V)) × IsLine s w line × IsHistory s.meaning (inputs_fed s w.fed) s.threads line
      made (more, members, by) = (
        l.line,
        record {
          history = all_of l.line l.history;
          more = more;
          to_come = λ e. ((λ i. (h.to_come e).0 ((members e).0 i)), (λ i. (members e).1 ((h.to_come e).1 i)));
          order = subst (λ (x : List Entry). IsByWeight x more) (sym l.log_is)
              (by_moves more (λ e i. in_left e h.more (log_of w.past) ((members e).0 i)) by);
          led = l.led;
        },
        l.history,
      )
        where
          good : IsLog (more ++ log_of w.past)
          good = arranged_log more h.more (log_of w.past) h.log (λ e i. (members e).0 i) (λ e i. (members e).1 i)
              (by_weight_arranged s.threads (h.more ++ log_of w.past) h.log low more
              (λ e i. in_left e h.more (log_of w.past) ((members e).0 i)) by)

          l : LineOf s w h more
          l = line_of s w h more good (λ e i. (members e).0 i)

          over : (e : Entry) → IsIn e (h.more ++ log_of w.past) → IsIn e (more ++ log_of w.past)
          over e i = go (in_either e h.more (log_of w.past) i)
            where
              go : IsIn e h.more ⊎ IsIn e (log_of w.past) → IsIn e (more ++ log_of w.past)
              go (inl k) = in_left e more (log_of w.past) ((members e).1 k)
              go (inr k) = in_right e more (log_of w.past) k

          under : (e : Entry) → IsIn e (more ++ log_of w.past) → IsIn e (h.more ++ log_of w.past)
          under e i = go (in_either e more (log_of w.past) i)
            where
              go : IsIn e more ⊎ IsIn e (log_of w.past) → IsIn e (h.more ++ log_of w.past)
              go (inl k) = in_left e h.more (log_of w.past) ((members e).0 k)
              go (inr k) = in_right e h.more (log_of w.past) k

          before_moves : (f e : Entry) → IsIn f (h.more ++ log_of w.past) → IsIn e (h.more ++ log_of w.past)
              → GoesBefore (h.more ++ log_of w.past) f e → GoesBefore (more ++ log_of w.past) f e
          before_moves f e hf he b i j x y =
              b i j
              (weight_moves s.threads (more ++ log_of w.past) (h.more ++ log_of w.past) f i good h.log
              (λ g k. low g (under g k)) under over (over f hf) x)
              (weight_moves s.threads (more ++ log_of w.past) (h.more ++ log_of w.past) e j good h.log
              (λ g k. low g (under g k)) under over (over e he) y)

          by_moves : (xs : List Entry) → ((e : Entry) → IsIn e xs → IsIn e (h.more ++ log_of w.past))
              → IsByWeight (h.more ++ log_of w.past) xs → IsByWeight (more ++ log_of w.past) xs
          by_moves [] sub b = tt
          by_moves (x ∷ xs) sub b = (
            (λ f i. before_moves f x (sub f (inr i)) (sub x (inl refl)) (b.0 f i)),
            by_moves xs (λ f i. sub f (inr i)) b.1,
          )

  pub line_there : (line : List (Step V)) × IsLine s w line
  line_there = (fed_line.0, fed_line.1)

  -- One thread can go on.
  goes_there : (line : List (Step V)) → IsLine s w line → (t : ℕ) (mid : List (Step V))
      → IsHistory s.meaning (inputs_fed s w.fed) s.threads mid → log_of mid ≡ log_of line
      → (to : List (Step V))
      × IsHistory s.meaning (inputs_fed s w.fed) s.threads to
      × GoesOn t (greatest t w.released) mid to
  goes_there line l t mid hm same = go (cases_lt (outputs t (sent_of mid)) (greatest t w.released))
    where
      stay : greatest t w.released ≤ outputs t (sent_of mid)
          → (to : List (Step V))
          × IsHistory s.meaning (inputs_fed s w.fed) s.threads to
          × GoesOn t (greatest t w.released) mid to
      stay k =
          (mid, hm, record { quiet = stays_quietly t mid; enough = k; soonest = λ x a b c. earlier_same mid x a b })

      go : (outputs t (sent_of mid) < greatest t w.released) ⊎ (greatest t w.released ≤ outputs t (sent_of mid))
          → (to : List (Step V))
          × IsHistory s.meaning (inputs_fed s w.fed) s.threads to
          × GoesOn t (greatest t w.released) mid to
      go (inr k) = stay k
      go (inl low) = found (greatest_there t w.released (omega (arith, low)))
        where
          found : ((o : Sent) × IsAmong o w.released × (o.emission.thread ≡ t)
              × (o.emission.number ≡ greatest t w.released))
              → (to : List (Step V))
              × IsHistory s.meaning (inputs_fed s w.fed) s.threads to
              × GoesOn t (greatest t w.released) mid to
          found (o, i, th, n) = fin (comes_again s.meaning (inputs_fed s w.fed) s.threads k.run mid k.history
              hm k.before k.closed_there k.of_run
              (λ e j.
              subst (λ (x : List Entry). IsIn e x) (sym same) (of_line line l e (known_here s w h e (k.known e j))))
              o.emission o.after k.sends k.precedes)
            where
              k : IsKept s w (h.more ++ log_of w.past) o
              k = h.released o i

              fin : SendsAfter mid o.emission o.after
                  ⊎ ((to : List (Step V)) × (y : Step V) × IsHistory s.meaning (inputs_fed s w.fed) s.threads (y ∷ to)
                  × GoesQuietly mid o.emission.thread to × (y.thread ≡ o.emission.thread) × (y.act ≡ Emitted o.emission)
                  × (entries o.emission.thread (log_of to) ≡ o.after))
                  → (to : List (Step V))
                  × IsHistory s.meaning (inputs_fed s w.fed) s.threads to
                  × GoesOn t (greatest t w.released) mid to
              fin (inl sends) =
                  let r = sends_at mid o.emission o.after sends in
                  let made = (earlier_history s.meaning (inputs_fed s w.fed) s.threads (r.0 ∷ r.1) mid r.2 hm).0 in
                  let d = did_emission r.0.thread r.0.after.taken r.1 made.2 o.emission (sym made.4 ∙ r.3) in
                  let count : outputs t (sent_of (r.0 ∷ r.1)) ≡ outputs t (sent_of r.1) + 1 =
                  let q : nat_eq o.emission.thread t ≡ true = grind (arith, nat_tests) in rw r.3 (rw q refl) in
                  let u : outputs r.0.thread (sent_of r.1) ≡ outputs t (sent_of r.1) =
                  ap (λ (z : ℕ). outputs z (sent_of r.1)) (sym d.0 ∙ th) in
                  let g = earlier_outputs t (r.0 ∷ r.1) mid r.2 in
                  absurd (omega (arith, count, u, d.1, n, g, low))
              fin (inr (to, y, hist, quiet, yt, act, after)) = (
                y ∷ to,
                hist,
                record {
                  quiet = inr (yt ∙ th, quiet_emit y.act act, subst (λ (z : ℕ). GoesQuietly mid z to) th quiet);
                  enough = omega (arith, count, u, d.1, n);
                  soonest = λ x a b c. soonest x b c;
                },
              )
                where
                  quiet_emit : (a : Act V) → a ≡ Emitted o.emission → IsQuiet a
                  quiet_emit a q = subst (λ (z : Act V). IsQuiet z) (sym q) tt

                  d : (o.emission.thread ≡ y.thread) × (o.emission.number ≡ outputs y.thread (sent_of to) + 1)
                  d = did_emission y.thread y.after.taken to hist.0.2 o.emission (sym hist.0.4 ∙ act)

                  count : outputs t (sent_of (y ∷ to)) ≡ outputs t (sent_of to) + 1
                  count = let q : nat_eq o.emission.thread t ≡ true = grind (arith, nat_tests) in rw act (rw q refl)

                  u : outputs y.thread (sent_of to) ≡ outputs t (sent_of to)
                  u = ap (λ (z : ℕ). outputs z (sent_of to)) (yt ∙ th)

                  soonest : (x : List (Step V)) → IsEarlier x (y ∷ to) → greatest t w.released ≤ outputs t (sent_of x)
                      → x ≡ y ∷ to
                  soonest x (inl q) c = q
                  soonest x (inr q) c = let g = earlier_outputs t x to q in absurd (omega (arith, g, c, d.1, u, n))

  all_go_there : (line : List (Step V)) → IsLine s w line → IsHistory s.meaning (inputs_fed s w.fed) s.threads line
      → (n : ℕ)
      → (steps : List (Step V))
      × IsHistory s.meaning (inputs_fed s w.fed) s.threads steps
      × AllGoOn w.released n line steps
  all_go_there line l hl zero = (line, hl, refl)
  all_go_there line l hl (suc n) = go (all_go_there line l hl n)
    where
      go : ((steps : List (Step V))
          × IsHistory s.meaning (inputs_fed s w.fed) s.threads steps
          × AllGoOn w.released n line steps)
          → (steps : List (Step V))
          × IsHistory s.meaning (inputs_fed s w.fed) s.threads steps
          × AllGoOn w.released (suc n) line steps
      go (mid, hm, all) =
          let r = goes_there line l n mid hm (go_log w.released n line mid all) in (r.0, r.1, (mid, all, r.2))

  -- an entry that is known with all that precedes it stays known at a recovery
  stays_known : (new : World V) → (r : Recovers w new) → (e : Entry) → IsKnown w e
      → ((f : Entry) → Precedes (entries_of_line w) f e → IsKnown w f) → IsKnown new e
  stays_known new r e known preds =
      subst (λ (z : World V). IsKnown z e) (sym r.new_is) (go known (in_or e (log_of w.stored)))
    where
      full : IsIn e (h.more ++ log_of w.past)
      full = known_here s w h e known

      p : (before : List Entry)
          × ((f : Entry) → IsIn f before ↔ PrecedesOutput (h.more ++ log_of w.past) e.thread e.number f)
      p = predecessors (h.more ++ log_of w.past) e.thread e.number h.log

      is_or_before : (f : Entry) → PrecedesOutput (h.more ++ log_of w.past) e.thread e.number f
          → (f ≡ e) ⊎ Precedes (entries_of_line w) f e
      is_or_before f (g, here, th, n, q) = pick q
        where
          one : g ≡ e
          one = same_number (h.more ++ log_of w.past) g e h.log here full th n

          pick : PrecedesOrIs (h.more ++ log_of w.past) f g → (f ≡ e) ⊎ Precedes (entries_of_line w) f e
          pick (inl same) = inl (same ∙ one)
          pick (inr x) = inr (precedes_moves (h.more ++ log_of w.past) (entries_of_line w) f e
              (λ z i. entries_line s w h z i) (subst (λ (z : Entry). Precedes (h.more ++ log_of w.past) f z) one x))

      all_known : (f : Entry) → IsIn f p.0 → IsKnown w f
      all_known f i = pick (is_or_before f ((p.1 f).0 i))
        where
          pick : (f ≡ e) ⊎ Precedes (entries_of_line w) f e → IsKnown w f
          pick (inl same) = subst (λ (z : Entry). IsKnown w z) (sym same) known
          pick (inr x) = preds f x

      only_held : (f : Entry) → IsIn f (outside (log_of w.stored) p.0) → IsIn f w.held
      only_held f i = let x = outside_in (log_of w.stored) p.0 f i in pick x.1 (all_known f x.0)
        where
          pick : (IsIn f (log_of w.stored) → ⊥) → IsKnown w f → IsIn f w.held
          pick never (inl j) = j
          pick never (inr j) = absurd (never j)

      shut : IsClosedOver (entries_of_line w) (log_of w.stored) (outside (log_of w.stored) p.0)
      shut a b ha hb n = pick (in_or a (log_of w.stored))
        where
          hit : IsIn a p.0
          hit = (p.1 a).1 (predecessors_closed (h.more ++ log_of w.past) e.thread e.number a b (line_entries s w h a ha)
              ((p.1 b).0 (outside_in (log_of w.stored) p.0 b hb).0) n)

          pick : Or (IsIn a (log_of w.stored)) → IsIn a (outside (log_of w.stored) p.0) ⊎ IsIn a (log_of w.stored)
          pick (inl old) = inr old
          pick (inr new) = inl (in_outside (log_of w.stored) p.0 a hit new)

      go : IsKnown w e → Or (IsIn e (log_of w.stored)) → IsIn e r.part ⊎ IsIn e (log_of w.stored)
      go k (inl old) = inr old
      go k (inr new) = inl (r.closed.greatest (outside (log_of w.stored) p.0) only_held shut e
          (in_outside (log_of w.stored) p.0 e ((p.1 e).1 (e, full, refl, refl, inl refl)) new))

  -- A recovery can be made.
  pub recovers_there : (new : World V) × Recovers w new
  recovers_there = (
    record w {
      held = inside part.0 w.held;
      followed = inside part.0 w.held;
      waiting = [];
      epoch = w.epoch + 1;
      past = w.stored;
      up = true;
      ended = ended_now w ∷ w.ended;
    },
    record {
      part = inside part.0 w.held;
      part_of = part_of w.held;
      closed = record {
        within = λ e i. (inside_in part.0 w.held e i).0;
        closed = λ e f he hf n. both e (part.1.closed e f he (inside_in part.0 w.held f hf).1 n);
        greatest = λ other sub shut e i. in_inside part.0 w.held e (sub e i) (part.1.greatest other sub shut e i);
      };
      new_is = refl;
    },
  )
    where
      part : (part : List Entry) × IsClosedPart (entries_of_line w) (log_of w.stored) w.held part
      part = closed_part_there (entries_of_line w) (log_of w.stored) w.held

      both : (e : Entry) → IsIn e part.0 ⊎ IsIn e (log_of w.stored)
          → IsIn e (inside part.0 w.held) ⊎ IsIn e (log_of w.stored)
      both e (inl i) = inl (in_inside part.0 w.held e (part.1.within e i) i)
      both e (inr i) = inr i

      part_of : (xs : List Entry) → IsPartOf xs (inside part.0 xs)
      part_of [] = refl
      part_of (x ∷ xs) = go (in_or x part.0) (part_of xs)
        where
          go : (o : Or (IsIn x part.0)) → IsPartOf xs (inside part.0 xs)
              → ((rest : List Entry) × (inside_if o x (inside part.0 xs) ≡ x ∷ rest) × IsPartOf xs rest)
              ⊎ IsPartOf xs (inside_if o x (inside part.0 xs))
          go (inl k) rest = inl (inside part.0 xs, refl, rest)
          go (inr k) rest = inr rest

-- The headline

-- what arrived waits only while something is missing, of which one is named
missing_there : {V : Type 0} (s : Setting V) (w : World V) → Sound s w → (o : Sent) → IsAmong o w.waiting
    → (e : Entry) × IsFirstMissing (log_of w.past) (log_of w.stored) w.held o.emission.thread o.after e
missing_there s w h o i = go (least p.0)
  where
    p : (before : List Entry)
        × ((e : Entry) → IsIn e before ↔ PrecedesOutput (log_of w.past) o.emission.thread o.after e)
    p = predecessors (log_of w.past) o.emission.thread o.after
        (history_log s.meaning (inputs_fed s w.fed) s.threads w.past h.firm.legal)

    least : (xs : List Entry)
        → ((e : Entry) × IsIn e xs × (IsKnown w e → ⊥) × ((f : Entry) → IsIn f xs → (IsKnown w f → ⊥) → IsNoLater e f))
        ⊎ ((e : Entry) → IsIn e xs → IsKnown w e)
    least [] = inr (λ e h. absurd h)
    least (x ∷ xs) = pick (least xs) (in_or x w.held) (in_or x (log_of w.stored))
      where
        -- x is known
        later : IsKnown w x
            → ((e : Entry) × IsIn e xs × (IsKnown w e → ⊥)
            × ((f : Entry) → IsIn f xs → (IsKnown w f → ⊥) → IsNoLater e f))
            ⊎ ((e : Entry) → IsIn e xs → IsKnown w e)
            → ((e : Entry) × IsIn e (x ∷ xs) × (IsKnown w e → ⊥)
            × ((f : Entry) → IsIn f (x ∷ xs) → (IsKnown w f → ⊥) → IsNoLater e f))
            ⊎ ((e : Entry) → IsIn e (x ∷ xs) → IsKnown w e)
        later k (inl (e, j, n, first)) = inl (e, inr j, n, firsts)
          where
            firsts : (f : Entry) → (x ≡ f) ⊎ IsIn f xs → (IsKnown w f → ⊥) → IsNoLater e f
            firsts f (inl same) m = absurd (m (subst (λ (z : Entry). IsKnown w z) same k))
            firsts f (inr q) m = first f q m
        later k (inr all) = inr alls
          where
            alls : (e : Entry) → (x ≡ e) ⊎ IsIn e xs → IsKnown w e
            alls e (inl same) = subst (λ (z : Entry). IsKnown w z) same k
            alls e (inr q) = all e q

        -- x is missing
        first : (IsKnown w x → ⊥)
            → ((e : Entry) × IsIn e xs × (IsKnown w e → ⊥)
            × ((f : Entry) → IsIn f xs → (IsKnown w f → ⊥) → IsNoLater e f))
            ⊎ ((e : Entry) → IsIn e xs → IsKnown w e)
            → (e : Entry) × IsIn e (x ∷ xs) × (IsKnown w e → ⊥)
            × ((f : Entry) → IsIn f (x ∷ xs) → (IsKnown w f → ⊥) → IsNoLater e f)
        first n (inr all) = (x, inl refl, n, firsts)
          where
            firsts : (f : Entry) → (x ≡ f) ⊎ IsIn f xs → (IsKnown w f → ⊥) → IsNoLater x f
            firsts f (inl same) m = subst (λ (z : Entry). IsNoLater x z) same (inr (refl, omega arith))
            firsts f (inr q) m = absurd (m (all f q))
        first n (inl (e, j, k, least)) = either (later_or x e)
          where
            either : IsNoLater x e ⊎ IsNoLater e x
                → (e : Entry) × IsIn e (x ∷ xs) × (IsKnown w e → ⊥)
                × ((f : Entry) → IsIn f (x ∷ xs) → (IsKnown w f → ⊥) → IsNoLater e f)
            either (inl a) = (x, inl refl, n, firsts)
              where
                firsts : (f : Entry) → (x ≡ f) ⊎ IsIn f xs → (IsKnown w f → ⊥) → IsNoLater x f
                firsts f (inl same) m = subst (λ (z : Entry). IsNoLater x z) same (inr (refl, omega arith))
                firsts f (inr q) m = no_later_trans x e f a (least f q m)
            either (inr a) = (e, inr j, k, firsts)
              where
                firsts : (f : Entry) → (x ≡ f) ⊎ IsIn f xs → (IsKnown w f → ⊥) → IsNoLater e f
                firsts f (inl same) m = subst (λ (z : Entry). IsNoLater e z) same a
                firsts f (inr q) m = least f q m

        never : (IsIn x w.held → ⊥) → (IsIn x (log_of w.stored) → ⊥) → IsKnown w x → ⊥
        never a b (inl k) = a k
        never a b (inr k) = b k

        pick : ((e : Entry) × IsIn e xs × (IsKnown w e → ⊥)
            × ((f : Entry) → IsIn f xs → (IsKnown w f → ⊥) → IsNoLater e f))
            ⊎ ((e : Entry) → IsIn e xs → IsKnown w e) → Or (IsIn x w.held) → Or (IsIn x (log_of w.stored))
            → ((e : Entry) × IsIn e (x ∷ xs) × (IsKnown w e → ⊥)
            × ((f : Entry) → IsIn f (x ∷ xs) → (IsKnown w f → ⊥) → IsNoLater e f))
            ⊎ ((e : Entry) → IsIn e (x ∷ xs) → IsKnown w e)
        pick r (inl a) b = later (inl a) r
        pick r (inr a) (inl b) = later (inr b) r
        pick r (inr a) (inr b) = inl (first (never a b) r)

    out : (e : Entry) → IsMissing (log_of w.past) (log_of w.stored) w.held o.emission.thread o.after e → IsKnown w e → ⊥
    out e miss (inl k) = miss.not_held k
    out e miss (inr k) = miss.not_stored k

    go : ((e : Entry) × IsIn e p.0 × (IsKnown w e → ⊥) × ((f : Entry) → IsIn f p.0 → (IsKnown w f → ⊥) → IsNoLater e f))
        ⊎ ((e : Entry) → IsIn e p.0 → IsKnown w e)
        → (e : Entry) × IsFirstMissing (log_of w.past) (log_of w.stored) w.held o.emission.thread o.after e
    go (inl (e, j, n, first)) = (
      e,
      record {
        missing = record { precedes = (p.1 e).0 j; not_held = λ k. n (inl k); not_stored = λ k. n (inr k) };
        first = λ f miss. first f ((p.1 f).1 miss.precedes) (out f miss);
      },
    )
    go (inr all) = absurd (h.waits o i (λ e miss. out e miss (all e ((p.1 e).1 miss.precedes))))

-- the world itself, or the one after a recovery, is as sound, with the same released outputs
up_sound : {V : Type 0} (s : Setting V) (w up : World V) → Sound s w → Wakes w up
    → Sound s up × (up.released ≡ w.released)
up_sound {V} s w up h (inl (is, same)) =
    (subst (λ (z : World V). Sound s z) (sym same) h, ap (λ (z : World V). z.released) same)
up_sound {V} s w up h (inr (down, r)) = (recovers_sound s w h.firm down up r, ap (λ (z : World V). z.released) r.new_is)

up_known : {V : Type 0} (s : Setting V) (w up : World V) → Sound s w → Wakes w up → (e : Entry) → IsKnown w e
    → ((f : Entry) → Precedes (entries_of_line w) f e → IsKnown w f) → IsKnown up e
up_known {V} s w up h (inl (is, same)) e k preds = subst (λ (z : World V). IsKnown z e) (sym same) k
up_known s w up h (inr (down, r)) e k preds = stays_known s w h.firm up r e k preds

-- Each world ends in one, which takes only inputs that were fed.
fed_finish_of : {V : Type 0} (s : Setting V) (w up : World V) → Firm s up → Wakes w up
    → (steps : List (Step V)) × IsFinish s w steps × IsHistory s.meaning (inputs_fed s up.fed) s.threads steps
fed_finish_of s w up h is =
    let l = fed_line s up h in
    let r = all_go_there s up h l.0 l.1 l.2 s.threads in (
      r.0,
      record {
        up = up;
        up_is = is;
        line = l.0;
        line_is = l.1;
        history = all_of s up h r.0 r.1;
        goes_on = r.2;
      },
      r.1,
    )

fed_finish : {V : Type 0} (s : Setting V) (w : World V) → Sound s w
    → (steps : List (Step V)) × IsFinish s w steps × IsHistory s.meaning (inputs_fed s w.fed) s.threads steps
fed_finish {V} s w h = go w.up refl
  where
    go : (b : Bool) → w.up ≡ b
        → (steps : List (Step V)) × IsFinish s w steps × IsHistory s.meaning (inputs_fed s w.fed) s.threads steps
    go true is = fed_finish_of s w w h.firm (inl (is, refl))
    go false is =
        let r = recovers_there s w h.firm in
        let f = fed_finish_of s w r.0 (recovers_sound s w h.firm is r.0 r.1).firm (inr (is, r.1)) in
        let same : r.0.fed ≡ w.fed = ap (λ (z : World V). z.fed) r.1.new_is in
        (f.0, f.1, subst (λ (n : ℕ). IsHistory s.meaning (inputs_fed s n) s.threads f.0) same f.2)

pub finish_there : {V : Type 0} (s : Setting V) (w : World V) → Sound s w → (steps : List (Step V)) × IsFinish s w steps
finish_there s w h = let f = fed_finish s w h in (f.0, f.1)

-- Each run in which a world ends keeps what must not be lost.
pub finish_ends : {V : Type 0} (s : Setting V) (w : World V) (steps : List (Step V)) → Sound s w → IsFinish s w steps
    → Ends s w steps
finish_ends {V} s w steps h f = record {
  legal = history_played s.meaning (all_inputs s) s.threads steps f.history;
  fed =
      let g = fed_finish s w h in
      subst (λ (l : List (Step V)). IsHistory s.meaning (inputs_fed s w.fed) s.threads l)
      (finish_one s w g.0 steps g.1 f) g.2;
  keeps = λ e k preds.
      subst (λ (l : List Entry). IsIn e l) (sym (go_log f.up.released s.threads f.line steps f.goes_on)) (of_line s f.up
      up.0.firm f.line f.line_is e (known_here s f.up up.0.firm e (up_known s w f.up h f.up_is e k preds)));
  emits = λ o i. emits_again s f.up up.0.firm f.line steps f.line_is f.history f.goes_on o
      (subst (λ (l : List Sent). IsAmong o l) (sym up.1) i);
  once = λ t j. let k = h.firm.once t j in omega (arith, k);
  waits = missing_there s w h;
}
  where
    up : Sound s f.up × (f.up.released ≡ w.released)
    up = up_sound s w f.up h f.up_is
