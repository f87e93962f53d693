-- Each world ends in one run.
use Rattle.std.proofs.Common.{◌≡◌, ℕ, zero, suc, ◌<◌, List, [], ◌∷◌, ◌++◌, refl, sym, ap, ◌∙◌, subst, inl, inr, ◌⊎◌}
use Rattle.std.proofs.Common.{true, false}
use Rattle.entry_order.specs.Log.{Entry, IsLog, IsIn}
use Rattle.entry_order.proofs.Parts.{part_unique}
use Rattle.entry_order.proofs.KeptEntries.{in_left, in_right, in_either}
use Rattle.plain_machine.specs.History.{Step, log_of, IsHistory}
use Rattle.plain_machine.specs.Agree.{IsEarlier}
use Rattle.plain_machine.proofs.Histories.{history_log, earlier_history}
use Rattle.plain_machine.proofs.LoggedEffects.{entry_thread}
use Rattle.recovery_world.specs.World.{Setting, Sent, World, all_inputs}
use Rattle.recovery_world.specs.Events.{Wakes, Recovers, entries_of_line}
use Rattle.recovery_world.specs.Finish.{IsToCome, IsLine, greatest, GoesOn, AllGoOn, IsFinish}
use Rattle.recovery_world.specs.FromPlainMachine.{IsByWeight}
use Rattle.plain_machine.specs.Continue.{IsLed}
use Rattle.recovery_world.proofs.FromPlainMachine.{weight_moves, sorted_once}
use Rattle.recovery_world.proofs.FromPlainMachine.{either_later, led_unique}
use Rattle.recovery_world.proofs.FromPlainMachine.{quiet_later}
use Rattle.recovery_laws.proofs.LedMoves.{led_log}

module _ {V : Type 0} (s : Setting V) where
  -- lines that follow the same entries from one past are one
  lines_one : (w u : World V) → w.past ≡ u.past → ((e : Entry) → IsIn e w.followed → IsIn e u.followed)
      → ((e : Entry) → IsIn e u.followed → IsIn e w.followed) → (a b : List (Step V)) → IsLine s w a
      → IsLine s u b → a ≡ b
  lines_one w u past fore aft a b la lb =
      led_unique s.meaning (all_inputs s) s.threads w.past la.more a b la.history lb.history la.led
      (subst (λ (l : List Entry). IsLed w.past l b) (sym more_same) led_b)
    where
      led_b : IsLed w.past lb.more b
      led_b = subst (λ (p : List (Step V)). IsLed p lb.more b) (sym past) lb.led

      log_a : log_of a ≡ la.more ++ log_of w.past
      log_a = led_log w.past la.more a la.led

      log_b : log_of b ≡ lb.more ++ log_of w.past
      log_b = led_log w.past lb.more b led_b

      come_b : (e : Entry) → IsIn e lb.more → IsToCome w e
      come_b e i =
          let k = (lb.to_come e).0 i in (aft e k.0, subst (λ (p : List (Step V)). IsIn e (log_of p) → ⊥) (sym past) k.1)

      b_come : (e : Entry) → IsToCome w e → IsIn e lb.more
      b_come e k = (lb.to_come e).1 (fore e k.0, subst (λ (p : List (Step V)). IsIn e (log_of p) → ⊥) past k.1)

      to : (e : Entry) → IsIn e la.more → IsIn e lb.more
      to e i = b_come e ((la.to_come e).0 i)

      back : (e : Entry) → IsIn e lb.more → IsIn e la.more
      back e i = (la.to_come e).1 (come_b e i)

      in_a : (e : Entry) → IsIn e (log_of b) → IsIn e (log_of a)
      in_a e i = subst (λ (l : List Entry). IsIn e l) (sym log_a)
          (go (in_either e lb.more (log_of w.past) (subst (λ (l : List Entry). IsIn e l) log_b i)))
        where
          go : IsIn e lb.more ⊎ IsIn e (log_of w.past) → IsIn e (la.more ++ log_of w.past)
          go (inl k) = in_left e la.more (log_of w.past) (back e k)
          go (inr k) = in_right e la.more (log_of w.past) k

      in_b : (e : Entry) → IsIn e (log_of a) → IsIn e (log_of b)
      in_b e i = subst (λ (l : List Entry). IsIn e l) (sym log_b)
          (go (in_either e la.more (log_of w.past) (subst (λ (l : List Entry). IsIn e l) log_a i)))
        where
          go : IsIn e la.more ⊎ IsIn e (log_of w.past) → IsIn e (lb.more ++ log_of w.past)
          go (inl k) = in_left e lb.more (log_of w.past) (to e k)
          go (inr k) = in_right e lb.more (log_of w.past) k

      good_a : IsLog (log_of a)
      good_a = history_log s.meaning (all_inputs s) s.threads a la.history

      good_b : IsLog (log_of b)
      good_b = history_log s.meaning (all_inputs s) s.threads b lb.history

      low_a : (f : Entry) → IsIn f (log_of a) → f.thread < s.threads
      low_a f i = entry_thread s.meaning (all_inputs s) s.threads a f la.history i

      sub_a : (e : Entry) → IsIn e la.more → IsIn e (log_of a)
      sub_a e i = subst (λ (l : List Entry). IsIn e l) (sym log_a) (in_left e la.more (log_of w.past) i)

      by_moves : (xs : List Entry) → ((e : Entry) → IsIn e xs → IsIn e (log_of a)) → IsByWeight (log_of b) xs
          → IsByWeight (log_of a) xs
      by_moves [] sub h = tt
      by_moves (x ∷ xs) sub h = (
        (λ f i n k p q. h.0 f i n k
            (weight_moves s.threads (log_of a) (log_of b) f n good_a good_b low_a in_b in_a (sub f (inr i)) p)
            (weight_moves s.threads (log_of a) (log_of b) x k good_a good_b low_a in_b in_a (sub x (inl refl)) q)),
        by_moves xs (λ f i. sub f (inr i)) h.1,
      )

      more_same : la.more ≡ lb.more
      more_same = sorted_once s.threads (log_of a) good_a low_a la.more lb.more sub_a to back la.order
          (by_moves lb.more (λ e i. sub_a e (back e i)) lb.order)

  goes_one : (t many : ℕ) (from a b : List (Step V)) → IsHistory s.meaning (all_inputs s) s.threads a
      → IsHistory s.meaning (all_inputs s) s.threads b → GoesOn t many from a → GoesOn t many from b → a ≡ b
  goes_one t many from a b ha hb ga gb =
      go (either_later s.meaning (all_inputs s) s.threads t from a b ha hb ga.quiet gb.quiet)
    where
      go : IsEarlier a b ⊎ IsEarlier b a → a ≡ b
      go (inl k) = gb.soonest a (quiet_later from t a ga.quiet) k ga.enough
      go (inr k) = sym (ga.soonest b (quiet_later from t b gb.quiet) k gb.enough)

  all_one : (released : List Sent) (n : ℕ) (line a b : List (Step V)) → IsHistory s.meaning (all_inputs s) s.threads a
      → IsHistory s.meaning (all_inputs s) s.threads b → AllGoOn released n line a → AllGoOn released n line b → a ≡ b
  all_one released zero line a b ha hb ga gb = ga ∙ sym gb
  all_one released (suc n) line a b ha hb ga gb =
      let hm : IsHistory s.meaning (all_inputs s) s.threads ga.0 =
      earlier_history s.meaning (all_inputs s) s.threads ga.0 a (quiet_later ga.0 n a ga.2.quiet) ha in
      let hk : IsHistory s.meaning (all_inputs s) s.threads gb.0 =
      earlier_history s.meaning (all_inputs s) s.threads gb.0 b (quiet_later gb.0 n b gb.2.quiet) hb in
      let mid : ga.0 ≡ gb.0 = all_one released n line ga.0 gb.0 hm hk ga.1 gb.1 in
      goes_one n (greatest n released) ga.0 a b ha hb ga.2
      (subst (λ (l : List (Step V)). GoesOn n (greatest n released) l b) (sym mid) gb.2)

  -- two worlds that one is up as have one past, one list of what was released, and follow the same entries
  pub record Alike (w u : World V) : Type 0 where
    pub past : w.past ≡ u.past
    pub released : w.released ≡ u.released
    pub fore : (e : Entry) → IsIn e w.followed → IsIn e u.followed
    pub aft : (e : Entry) → IsIn e u.followed → IsIn e w.followed

  recovered : (w u : World V) → (r : Recovers w u)
      → (u.past ≡ w.stored) × (u.released ≡ w.released) × (u.followed ≡ r.part)
  recovered w u r = (
    ap (λ (z : World V). z.past) r.new_is,
    ap (λ (z : World V). z.released) r.new_is,
    ap (λ (z : World V). z.followed) r.new_is,
  )

  up_alike : (w a b : World V) → Wakes w a → Wakes w b → Alike a b
  up_alike w a b (inl x) (inl y) =
      let same : a ≡ b = x.1 ∙ sym y.1 in
      record {
        past = ap (λ (z : World V). z.past) same;
        released = ap (λ (z : World V). z.released) same;
        fore = λ e i. subst (λ (z : World V). IsIn e z.followed) same i;
        aft = λ e i. subst (λ (z : World V). IsIn e z.followed) (sym same) i;
      }
  up_alike w a b (inl x) (inr y) = absurd (let p : w.up ≡ true = x.0 in let q : w.up ≡ false = y.0 in cc)
  up_alike w a b (inr x) (inl y) = absurd (let p : w.up ≡ false = x.0 in let q : w.up ≡ true = y.0 in cc)
  up_alike w a b (inr x) (inr y) =
      let ra = recovered w a x.1 in
      let rb = recovered w b y.1 in
      record {
        past = ra.0 ∙ sym rb.0;
        released = ra.1 ∙ sym rb.1;
        fore = λ e i. subst (λ (l : List Entry). IsIn e l) (sym rb.2) (part_unique (entries_of_line w) (log_of w.stored)
            w.held x.1.part y.1.part x.1.closed y.1.closed e (subst (λ (l : List Entry). IsIn e l) ra.2 i));
        aft = λ e i. subst (λ (l : List Entry). IsIn e l) (sym ra.2) (part_unique (entries_of_line w) (log_of w.stored)
            w.held y.1.part x.1.part y.1.closed x.1.closed e (subst (λ (l : List Entry). IsIn e l) rb.2 i));
      }

  -- A world ends in one run.
  pub finish_one : (w : World V) (a b : List (Step V)) → IsFinish s w a → IsFinish s w b → a ≡ b
  finish_one w a b fa fb =
      let k : Alike fa.up fb.up = up_alike w fa.up fb.up fa.up_is fb.up_is in
      let line : fa.line ≡ fb.line = lines_one fa.up fb.up k.past k.fore k.aft fa.line fb.line fa.line_is fb.line_is in
      all_one fa.up.released s.threads fa.line a b fa.history fb.history fa.goes_on
      (subst (λ (l : List (Step V)). AllGoOn fa.up.released s.threads l b) (sym line)
      (subst (λ (r : List Sent). AllGoOn r s.threads fb.line b) (sym k.released) fb.goes_on))
