-- What is at home, and what each thread has, when a round begins.
use Rattle.std.proofs.Common.{◌≡◌, ℕ, zero, suc, ◌≤◌, List, refl, sym, ap, ◌∙◌, subst, inl, inr, ◌⊎◌, arith}
use Rattle.std.specs.Prelude.{slice_index}
use Rattle.entry_order.specs.declared.what.What.TheVariants.{Access, Read}
use Rattle.entry_order.specs.Log.{Entry, entries, places, IsLog, IsIn}
use Rattle.entry_order.specs.Stamps.{IsStamp, IsOutputStamp}
use Rattle.entry_order.proofs.Order.{place_within, number_within, same_place, touch_there, same_number, entry_there}
use Rattle.entry_order.proofs.Joins.{stamp_unique, output_stamp_of, zero_first}
use Rattle.plain_machine.specs.Program.{Meaning}
use Rattle.plain_machine.specs.History.{Step, log_of}
use Rattle.master_core.specs.declared.parts.VarPart.{VarPart}
use Rattle.master_core.specs.declared.parts.ThreadPart.{ThreadPart}
use Rattle.master_core.specs.MasterStanding.{IsVariable, IsThread}
use Rattle.round_order.specs.Receipts.{no_receipts}
use Rattle.round_order.specs.Linked.{IsKnown, IsJoinOf}
use Rattle.plain_text.specs.declared.packet.Packet.{Packet}
use Rattle.round_order.specs.Growth.{IsRound}
use Rattle.round_order.specs.Home.{IsHome, IsSeat}

module _ {V : Type 0} (m : Meaning V) (past : List (Step V)) (good : IsLog (log_of past)) where
  -- what is known at first is the opening log
  known : (d : Entry) (st : ℕ → ℕ) → IsKnown past no_receipts d st → IsIn d (log_of past) × IsStamp (log_of past) d st
  known d st (inl k) = absurd k.1
  known d st (inr k) = k

  -- the stamp of one entry is a join of it alone
  one : (These : Entry → Type 0) (e : Entry) (join : ℕ → ℕ) → IsIn e (log_of past) → These e
      → ((d : Entry) → These d → IsIn d (log_of past) → d ≡ e) → IsStamp (log_of past) e join
      → IsJoinOf past no_receipts These join
  one These e join here this single is = record {
    above = λ d st these k u.
        let old = known d st k in
        let same : d ≡ e = single d these old.0 in
        let eq : st u ≡ join u =
        stamp_unique (log_of past) e st join (subst (λ (z : Entry). IsStamp (log_of past) z st) same old.1) is u in
        omega arith;
    reached = λ u. inr (e, join, this, inr (here, is), refl);
  }

  zeros : (These : Entry → Type 0) (join : ℕ → ℕ) → ((d : Entry) → These d → IsIn d (log_of past) → ⊥)
      → ((u : ℕ) → join u ≡ 0) → IsJoinOf past no_receipts These join
  zeros These join never zero_all =
      record { above = λ d st these k u. absurd (never d these (known d st k).0); reached = λ u. inl (zero_all u) }

  pub home_opens : (v : ℕ) (x : VarPart V) → IsVariable m past v x → IsHome m past no_receipts v x
  home_opens v x is = record {
    from = (let k = is.places in omega arith);
    value = inl (is.places, is.value);
    touches = λ f y here a. absurd here;
    reads = λ f here a. absurd here;
    stamp = touched x.places is.places;
    readers = record {
      above =
          λ d st w k u. let old = known d st k in is.looked.above d st old.0 (w ∙ ap (λ n. Read v n) is.places) old.1 u;
      reached = λ u. reached u (is.looked.reached u);
    };
  }
    where
      touched : (n : ℕ) → n ≡ places v (log_of past)
          → IsJoinOf past no_receipts (λ d. d.what ≡ Access v n) (λ u. slice_index x.stamp u)
      touched zero at = zeros (λ d. d.what ≡ Access v 0) (λ u. slice_index x.stamp u)
          (λ d w old.
          let k : (1 ≤ 0) × (0 ≤ places v (log_of past)) = place_within (log_of past) d v 0 good old w in
          absurd (omega arith)) (λ u. is.touched.none (sym at) u)
      touched (suc n) at =
          let e = touch_there (log_of past) v (suc n) good (omega arith) (omega (arith, at)) in
          one (λ d. d.what ≡ Access v (suc n)) e.0 (λ u. slice_index x.stamp u) e.1 e.2
          (λ d w old. same_place (log_of past) d e.0 v (suc n) good old e.1 w e.2)
          (is.touched.last e.0 e.1 (e.2 ∙ ap (λ k. Access v k) at))

      reached : (u : ℕ)
          → (slice_index x.readers u ≡ 0)
          ⊎ ((e : Entry) × (st : ℕ → ℕ) × IsIn e (log_of past) × (e.what ≡ Read v (places v (log_of past)))
          × IsStamp (log_of past) e st × (st u ≡ slice_index x.readers u))
          → (slice_index x.readers u ≡ 0)
          ⊎ ((d : Entry) × (st : ℕ → ℕ) × (d.what ≡ Read v x.places) × IsKnown past no_receipts d st
          × (st u ≡ slice_index x.readers u))
      reached u (inl z) = inl z
      reached u (inr (e, st, here, w, s, eq)) = inr (e, st, w ∙ ap (λ k. Read v k) (sym is.places), inr (here, s), eq)

  pub seat_opens : (t : ℕ) (part : ThreadPart) → IsThread past t part → IsSeat past no_receipts t part
  seat_opens t part is = record {
    taken = is.taken;
    logged = is.logged;
    outputs = is.outputs;
    hand = is.hand;
    made = is.made;
    stamp = stamp (entries t (log_of past)) refl is.stamp;
  }
    where
      stamp : (n : ℕ) → n ≡ entries t (log_of past) → IsOutputStamp (log_of past) t n (λ u. slice_index part.stamp u)
          → IsJoinOf past no_receipts (λ d. (d.thread ≡ t) × (d.number ≡ n)) (λ u. slice_index part.stamp u)
      stamp zero at o = zeros (λ d. (d.thread ≡ t) × (d.number ≡ 0)) (λ u. slice_index part.stamp u)
          (λ d w old.
          let k : (1 ≤ d.number) × (d.number ≤ entries d.thread (log_of past)) =
          number_within (log_of past) d good old in
          absurd (omega (arith, w.1))) (zero_first (log_of past) t (λ u. slice_index part.stamp u) good o)
      stamp (suc n) at o =
          let e = entry_there (log_of past) t (suc n) good (omega arith) (omega (arith, at)) in
          one (λ d. (d.thread ≡ t) × (d.number ≡ suc n)) e.0 (λ u. slice_index part.stamp u) e.1 (e.2, e.3)
          (λ d w old. same_number (log_of past) d e.0 good old e.1 (w.0 ∙ sym e.2) (w.1 ∙ sym e.3))
          (output_stamp_of (log_of past) t (suc n) e.0 (λ u. slice_index part.stamp u) good e.1 e.2 e.3 o)

  -- no receipts are linked, and no stamp of theirs is above the counts
  pub round_begins : (inputs : ℕ → List Packet) (threads : ℕ) → IsRound m inputs threads past no_receipts
  round_begins inputs threads = record {
    opening = good;
    linked = record {
      alone = λ t. tt;
      below = λ r here. absurd here;
      touched = λ r v left here a. absurd here;
      looked = λ r v here a. absurd here;
      once = λ f g v x y here there a b same. absurd here;
      joined = λ r e here l. absurd here;
    };
    within = λ q u here. absurd here;
  }
