-- A program that sends each packet out between its take and its end sends out each input once.
use Rattle.std.proofs.Common.{◌≡◌, ◌≢◌, ℕ, ◌+◌, ◌≤◌, ◌<◌, List, [], ◌∷◌, refl, sym, ap, ◌∙◌, subst, ◌⊎◌, inl, inr}
use Rattle.std.proofs.Common.{arith, Option, Some, None}
use Rattle.std.specs.Prelude.{cond, nat_eq}
use Rattle.plain_text.specs.declared.packet.Packet.{Packet}
use Rattle.entry_order.proofs.Order.{is_or}
use Rattle.plain_machine.specs.declared.local.Local.{Local}
use Rattle.plain_machine.specs.declared.local.Move.TheVariants.{Access, Read, Clock, Draw, Emit, End}
use Rattle.plain_machine.specs.Program.{Meaning}
use Rattle.plain_machine.specs.Machine.{Hand, Thread, Effect, Takes, Touches, Looks, HearsClock, HearsDraw, Sends, Ends}
use Rattle.plain_machine.specs.Machine.{holding}
use Rattle.plain_machine.specs.History.{Ended, Step, sent_more, sent_of, act_of, thread_after, value_after, IsHistory}
use Rattle.plain_machine.proofs.Histories.{not_eq, is_eq}
use Rattle.box_runs.specs.Outputs.{times_sent, HasEnded, SendsOnce}
use Rattle.box_runs.proofs.MadeMoves.{Made, step_made}

-- A program that is told nothing and reads nothing, and sends each packet out. Went says where the packet went out.
pub record SendsEach {V : Type 0} (m : Meaning V) (Went : Local → Type 0) : Type 0 where
  pub begins : (p : Packet) → Went (m.begin p) → ⊥
  pub reads : (l : Local) (v : ℕ) → m.next l ≡ Read v → ⊥
  pub asks_no_time : (l : Local) → m.next l ≡ Clock → ⊥
  pub asks_no_word : (l : Local) → m.next l ≡ Draw → ⊥
  pub before_touch : (l : Local) (v : ℕ) → m.next l ≡ Access v → Went l → ⊥
  pub after_touch : (l : Local) (v : ℕ) (x : V) → m.next l ≡ Access v → Went (m.touch v x l).1 → ⊥
  pub before_emission : (l : Local) → m.next l ≡ Emit → Went l → ⊥
  pub after_emission : (l : Local) → m.next l ≡ Emit → Went (m.emitted l)
  pub ends : (l : Local) → m.next l ≡ End → Went l

-- how often an input went out after an effect of its thread
abbrev times_by : {V : Type 0} → Effect V → ℕ → ℕ → ℕ → ℕ
times_by Takes taken j n = n
times_by (Touches v left) taken j n = n
times_by (Looks v) taken j n = n
times_by (HearsClock a) taken j n = n
times_by (HearsDraw a) taken j n = n
times_by (Sends p) taken j n = cond (nat_eq taken j) (n + 1) n
times_by Ends taken j n = n

own_times : {V : Type 0} (t j taken : ℕ) (A : List (Step V)) (d : Effect V)
    → times_sent t j (sent_more (act_of t A taken d) (sent_of A)) ≡ times_by d taken j (times_sent t j (sent_of A))
own_times t j taken A Takes = refl
own_times t j taken A (Touches v left) = refl
own_times t j taken A (Looks v) = refl
own_times t j taken A (HearsClock a) = refl
own_times t j taken A (HearsDraw a) = refl
own_times t j taken A (Sends p) = rw (is_eq t t refl) refl
own_times t j taken A Ends = refl

other_times : {V : Type 0} (t u j taken : ℕ) (A : List (Step V)) (d : Effect V) → t ≢ u
    → times_sent u j (sent_more (act_of t A taken d) (sent_of A)) ≡ times_sent u j (sent_of A)
other_times t u j taken A Takes other = refl
other_times t u j taken A (Touches v left) other = refl
other_times t u j taken A (Looks v) other = refl
other_times t u j taken A (HearsClock a) other = refl
other_times t u j taken A (HearsDraw a) other = refl
other_times t u j taken A (Sends p) other = rw (not_eq t u other) refl
other_times t u j taken A Ends other = refl

-- the input that was taken last went out, unless it is in hand and has not gone out yet
abbrev IsOut : (Local → Type 0) → Option Hand → ℕ → ℕ → Type 0
IsOut Went None taken n = 1 ≤ taken → n ≡ 1
IsOut Went (Some h) taken n = (1 ≤ taken) × (((Went h.place → ⊥) × (n ≡ 0)) ⊎ (Went h.place × (n ≡ 1)))

-- how often each input of a thread went out
record Stands (Went : Local → Type 0) (th : Thread) (times : ℕ → ℕ) : Type 0 where
  past : (j : ℕ) → 1 ≤ j → j < th.taken → times j ≡ 1
  last : IsOut Went th.hand th.taken (times th.taken)
  coming : (j : ℕ) → th.taken < j → times j ≡ 0
  none : times 0 ≡ 0

-- the thread has taken this input, and does not have it in hand
abbrev IsDone : ℕ → Thread → Type 0
IsDone j th = (1 ≤ j) × ((j < th.taken) ⊎ ((j ≡ th.taken) × (th.hand ≡ None)))

module _ {V : Type 0} (m : Meaning V) (Went : Local → Type 0) (each : SendsEach m Went) where
  begun_stands : (th : Thread) (p : Packet) (times : ℕ → ℕ) → th.hand ≡ None → Stands Went th times
      → Stands Went (holding (th.taken + 1) p (m.begin p)) times
  begun_stands th p times free old = record {
    past = λ j some low. by j some low (is_or j th.taken);
    last = (omega arith, inl (each.begins p, old.coming (th.taken + 1) (omega arith)));
    coming = λ j high. old.coming j (omega arith);
    none = old.none;
  }
    where
      out : IsOut Went None th.taken (times th.taken)
      out = subst (λ (y : Option Hand). IsOut Went y th.taken (times th.taken)) free old.last

      by : (j : ℕ) → 1 ≤ j → j < th.taken + 1 → (j ≡ th.taken) ⊎ (j ≢ th.taken) → times j ≡ 1
      by j some low (inl e) =
          let k : 1 ≤ th.taken = omega arith in ap times e ∙ out k
      by j some low (inr e) = old.past j some (omega arith)

  -- the packet in hand is at another place, and went out as often
  moved_stands : (th : Thread) (h : Hand) (place : Local) (times : ℕ → ℕ) → th.hand ≡ Some h
      → (Went h.place → ⊥) → (Went place → ⊥) → Stands Went th times
      → Stands Went (holding th.taken h.packet place) times
  moved_stands th h place times is before later old =
      record { past = old.past; last = (out.0, inl (later, by out.1)); coming = old.coming; none = old.none }
    where
      out : IsOut Went (Some h) th.taken (times th.taken)
      out = subst (λ (y : Option Hand). IsOut Went y th.taken (times th.taken)) is old.last

      by : ((Went h.place → ⊥) × (times th.taken ≡ 0)) ⊎ (Went h.place × (times th.taken ≡ 1)) → times th.taken ≡ 0
      by (inl k) = k.1
      by (inr k) = absurd (before k.0)

  sent_stands : (th : Thread) (h : Hand) (times : ℕ → ℕ) → th.hand ≡ Some h → m.next h.place ≡ Emit
      → Stands Went th times
      → Stands Went (holding th.taken h.packet (m.emitted h.place))
      (λ j. cond (nat_eq th.taken j) (times j + 1) (times j))
  sent_stands th h times is next old = record {
    past = λ j some low. rw (not_eq th.taken j (λ e. absurd (omega arith))) (old.past j some low);
    last = (out.0, inr (each.after_emission h.place next, rw (is_eq th.taken th.taken refl) (by out.1)));
    coming = λ j high. rw (not_eq th.taken j (λ e. absurd (omega arith))) (old.coming j high);
    none = let some = out.0 in rw (not_eq th.taken 0 (λ e. absurd (omega arith))) old.none;
  }
    where
      out : IsOut Went (Some h) th.taken (times th.taken)
      out = subst (λ (y : Option Hand). IsOut Went y th.taken (times th.taken)) is old.last

      by : ((Went h.place → ⊥) × (times th.taken ≡ 0)) ⊎ (Went h.place × (times th.taken ≡ 1))
          → times th.taken + 1 ≡ 1
      by (inl k) = let n = k.1 in omega arith
      by (inr k) = absurd (each.before_emission h.place next k.0)

  ended_stands : (th : Thread) (h : Hand) (times : ℕ → ℕ) → th.hand ≡ Some h → m.next h.place ≡ End
      → Stands Went th times → Stands Went (record { taken = th.taken; hand = None }) times
  ended_stands th h times is next old =
      record { past = old.past; last = λ some. by out.1; coming = old.coming; none = old.none }
    where
      out : IsOut Went (Some h) th.taken (times th.taken)
      out = subst (λ (y : Option Hand). IsOut Went y th.taken (times th.taken)) is old.last

      by : ((Went h.place → ⊥) × (times th.taken ≡ 0)) ⊎ (Went h.place × (times th.taken ≡ 1)) → times th.taken ≡ 1
      by (inl k) = absurd (k.0 (each.ends h.place next))
      by (inr k) = k.1

  stands_on : (packets : List Packet) (value : ℕ → V) (th after : Thread) (d : Effect V) (times : ℕ → ℕ)
      → Stands Went th times → Made m packets th.taken value th.hand after d
      → Stands Went after (λ j. times_by d after.taken j (times j))
  stands_on packets value th after Takes times old (free, p, is, goes) =
      subst (λ (y : Thread). Stands Went y times) goes (begun_stands th p times free old)
  stands_on packets value th after (Touches v left) times old (h, is, next, leaves, goes) =
      subst (λ (y : Thread). Stands Went y times) goes (moved_stands th h (m.touch v (value v) h.place).1 times is
      (each.before_touch h.place v next) (each.after_touch h.place v (value v) next) old)
  stands_on packets value th after (Looks v) times old (h, is, next, goes) = absurd (each.reads h.place v next)
  stands_on packets value th after (HearsClock a) times old (h, is, next, goes) =
      absurd (each.asks_no_time h.place next)
  stands_on packets value th after (HearsDraw a) times old (h, is, next, goes) =
      absurd (each.asks_no_word h.place next)
  stands_on packets value th after (Sends q) times old (h, is, next, leaves, goes) =
      subst (λ (y : Thread). Stands Went y (λ j. cond (nat_eq y.taken j) (times j + 1) (times j))) goes
      (sent_stands th h times is next old)
  stands_on packets value th after Ends times old (h, is, next, goes) =
      subst (λ (y : Thread). Stands Went y times) goes (ended_stands th h times is next old)

  stands_as : (th : Thread) (f g : ℕ → ℕ) → ((j : ℕ) → g j ≡ f j) → Stands Went th f → Stands Went th g
  stands_as th f g same old = record {
    past = λ j some low. same j ∙ old.past j some low;
    last = subst (λ (n : ℕ). IsOut Went th.hand th.taken n) (sym (same th.taken)) old.last;
    coming = λ j high. same j ∙ old.coming j high;
    none = same 0 ∙ old.none;
  }

  run_stands : (threads : ℕ) (inputs : ℕ → List Packet) (steps : List (Step V)) → IsHistory m inputs threads steps
      → (t : ℕ) → Stands Went (thread_after steps t) (λ j. times_sent t j (sent_of steps))
  run_stands threads inputs [] h t = record {
    past = λ j some low. absurd (omega arith);
    last = λ some. absurd (omega arith);
    coming = λ j high. refl;
    none = refl;
  }
  run_stands threads inputs (x ∷ earlier) h t =
      by (is_or x.thread t) (run_stands threads inputs earlier h.1 x.thread) (run_stands threads inputs earlier h.1 t)
    where
      own : Stands Went (thread_after earlier x.thread) (λ j. times_sent x.thread j (sent_of earlier))
          → Stands Went x.after (λ j. times_sent x.thread j (sent_of (x ∷ earlier)))
      own old =
          stands_as x.after (λ j. times_by h.0.2 x.after.taken j (times_sent x.thread j (sent_of earlier)))
          (λ j. times_sent x.thread j (sent_of (x ∷ earlier)))
          (λ j. rw h.0.4 (own_times x.thread j x.after.taken earlier h.0.2))
          (stands_on (inputs x.thread) (value_after m earlier) (thread_after earlier x.thread) x.after h.0.2
          (λ j. times_sent x.thread j (sent_of earlier)) old (step_made m threads inputs x earlier h))

      by : (x.thread ≡ t) ⊎ (x.thread ≢ t)
          → Stands Went (thread_after earlier x.thread) (λ j. times_sent x.thread j (sent_of earlier))
          → Stands Went (thread_after earlier t) (λ j. times_sent t j (sent_of earlier))
          → Stands Went (thread_after (x ∷ earlier) t) (λ j. times_sent t j (sent_of (x ∷ earlier)))
      by (inl e) mine old =
          subst (λ (u : ℕ). Stands Went (thread_after (x ∷ earlier) u) (λ j. times_sent u j (sent_of (x ∷ earlier)))) e
          (subst (λ (y : Thread). Stands Went y (λ j. times_sent x.thread j (sent_of (x ∷ earlier))))
          (sym (ap (λ b. cond b x.after (thread_after earlier x.thread)) (is_eq x.thread x.thread refl))) (own mine))
      by (inr e) mine old =
          subst (λ (y : Thread). Stands Went y (λ j. times_sent t j (sent_of (x ∷ earlier))))
          (sym (ap (λ b. cond b x.after (thread_after earlier t)) (not_eq x.thread t e)))
          (stands_as (thread_after earlier t) (λ j. times_sent t j (sent_of earlier))
          (λ j. times_sent t j (sent_of (x ∷ earlier)))
          (λ j. rw h.0.4 (other_times x.thread t j x.after.taken earlier h.0.2 e)) old)

  at_most_once : (th : Thread) (times : ℕ → ℕ) (j : ℕ) → Stands Went th times → times j ≤ 1
  at_most_once th times j s = by (is_or j th.taken) (is_or j 0)
    where
      out : (hand : Option Hand) → IsOut Went hand th.taken (times th.taken) → 1 ≤ th.taken → times th.taken ≤ 1
      out None k some = let n = k some in omega arith
      out (Some h) (k, inl n) some = let a = n.1 in omega arith
      out (Some h) (k, inr n) some = let a = n.1 in omega arith

      off : j ≢ 0 → (j ≢ th.taken) → (j < th.taken) ⊎ (th.taken < j) → times j ≤ 1
      off some other (inl low) = let n = s.past j (omega arith) low in omega arith
      off some other (inr high) = let n = s.coming j high in omega arith

      apart : j ≢ th.taken → (j < th.taken) ⊎ (th.taken < j)
      apart other = grind arith

      by : (j ≡ th.taken) ⊎ (j ≢ th.taken) → (j ≡ 0) ⊎ (j ≢ 0) → times j ≤ 1
      by at (inl e) = let n : times j ≡ 0 = ap times e ∙ s.none in omega arith
      by (inl e) (inr some) =
          let same : times j ≡ times th.taken = ap times e in
          let n = out th.hand s.last (omega arith) in omega arith
      by (inr e) (inr some) = off some e (apart e)

  done_once : (th : Thread) (times : ℕ → ℕ) (j : ℕ) → Stands Went th times → IsDone j th → times j ≡ 1
  done_once th times j s (some, inl low) = s.past j some low
  done_once th times j s (some, inr (e, free)) =
      let out : IsOut Went None th.taken (times th.taken) =
      subst (λ (y : Option Hand). IsOut Went y th.taken (times th.taken)) free s.last in
      ap times e ∙ out (omega arith)

  -- a thread that goes on with the packet in hand
  done_held : (th : Thread) (h : Hand) (place : Local) (after : Thread) (j : ℕ) → th.hand ≡ Some h
      → holding th.taken h.packet place ≡ after → IsDone j th → IsDone j after
  done_held th h place after j is goes (some, inl low) = subst (IsDone j) goes (some, inl low)
  done_held th h place after j is goes (some, inr (e, free)) = absurd (cc)

  done_on : (packets : List Packet) (value : ℕ → V) (th after : Thread) (d : Effect V) (j : ℕ) → IsDone j th
      → Made m packets th.taken value th.hand after d → IsDone j after
  done_on packets value th after Takes j (some, at) (free, p, is, goes) =
      subst (IsDone j) goes (some, inl (below at))
    where
      below : (j < th.taken) ⊎ ((j ≡ th.taken) × (th.hand ≡ None)) → j < th.taken + 1
      below (inl low) = omega arith
      below (inr e) = let k = e.0 in omega arith
  done_on packets value th after (Touches v left) j done (h, is, next, leaves, goes) =
      done_held th h (m.touch v (value v) h.place).1 after j is goes done
  done_on packets value th after (Looks v) j done (h, is, next, goes) =
      done_held th h (m.look v (value v) h.place) after j is goes done
  done_on packets value th after (HearsClock a) j done (h, is, next, goes) =
      done_held th h (m.told a h.place) after j is goes done
  done_on packets value th after (HearsDraw a) j done (h, is, next, goes) =
      done_held th h (m.told a h.place) after j is goes done
  done_on packets value th after (Sends q) j done (h, is, next, leaves, goes) =
      done_held th h (m.emitted h.place) after j is goes done
  done_on packets value th after Ends j (some, inl low) (h, is, next, goes) = subst (IsDone j) goes (some, inl low)
  done_on packets value th after Ends j (some, inr (e, free)) (h, is, next, goes) = absurd (cc)

  run_done : (threads : ℕ) (inputs : ℕ → List Packet) (steps : List (Step V)) → IsHistory m inputs threads steps
      → (t j : ℕ) → HasEnded t j steps → IsDone j (thread_after steps t)
  run_done threads inputs [] h t j ended = absurd ended
  run_done threads inputs (x ∷ earlier) h t j (inl (e, act)) =
      subst (λ (u : ℕ). IsDone j (thread_after (x ∷ earlier) u)) e
      (rw (is_eq x.thread x.thread refl) (by h.0.2 (sym h.0.4 ∙ act) (step_made m threads inputs x earlier h)))
    where
      th : Thread
      th = thread_after earlier x.thread

      by : (d : Effect V) → act_of x.thread earlier x.after.taken d ≡ Ended j
          → Made m (inputs x.thread) th.taken (value_after m earlier) th.hand x.after d → IsDone j x.after
      by Takes k made = absurd (cc)
      by (Touches v left) k made = absurd (cc)
      by (Looks v) k made = absurd (cc)
      by (HearsClock a) k made = absurd (cc)
      by (HearsDraw a) k made = absurd (cc)
      by (Sends q) k made = absurd (cc)
      by Ends k (h', is, next, goes) =
          let last : x.after.taken ≡ j = cc in
          let taken : th.taken ≡ x.after.taken = ap (λ (y : Thread). y.taken) goes in
          let free : x.after.hand ≡ None = ap (λ (y : Thread). y.hand) (sym goes) in
          let out : IsOut Went (Some h') th.taken (times_sent x.thread th.taken (sent_of earlier)) =
          subst (λ (y : Option Hand). IsOut Went y th.taken (times_sent x.thread th.taken (sent_of earlier))) is
          (run_stands threads inputs earlier h.1 x.thread).last in
          let some : 1 ≤ th.taken = out.0 in
          (omega arith, inr (sym last, free))
  run_done threads inputs (x ∷ earlier) h t j (inr ended) =
      by (is_or x.thread t) (run_done threads inputs earlier h.1 t j ended)
    where
      by : (x.thread ≡ t) ⊎ (x.thread ≢ t) → IsDone j (thread_after earlier t)
          → IsDone j (thread_after (x ∷ earlier) t)
      by (inl e) old =
          let mine : IsDone j (thread_after earlier x.thread) =
          subst (λ (u : ℕ). IsDone j (thread_after earlier u)) (sym e) old in
          rw (is_eq x.thread t e) (done_on (inputs x.thread) (value_after m earlier) (thread_after earlier x.thread)
          x.after h.0.2 j mine (step_made m threads inputs x earlier h))
      by (inr e) old = rw (not_eq x.thread t e) old

  pub sends_once : SendsOnce m
  sends_once threads inputs steps h t j =
      let s = run_stands threads inputs steps h t in (
        at_most_once (thread_after steps t) (λ k. times_sent t k (sent_of steps)) j s,
        λ ended. done_once (thread_after steps t) (λ k. times_sent t k (sent_of steps)) j s
            (run_done threads inputs steps h t j ended),
      )
