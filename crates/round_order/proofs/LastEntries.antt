-- The last entry of a thread so far, and what a thread has of its stamp.
use Rattle.std.proofs.Common.{◌≡◌, ℕ, zero, suc, ◌+◌, ◌≤◌, List, [], ◌∷◌, refl, sym, ap, ◌∙◌, subst, inl, inr, ◌⊎◌}
use Rattle.std.proofs.Common.{arith, Option}
use Rattle.std.specs.Prelude.{slice_index}
use Rattle.plain_text.specs.declared.packet.Packet.{Packet}
use Rattle.entry_order.specs.Log.{Entry, entries, IsLog}
use Rattle.entry_order.proofs.Order.{entry_there}
use Rattle.entry_order.proofs.Joins.{stamp_there}
use Rattle.entry_order.proofs.Weights.{stamp_within}
use Rattle.plain_machine.specs.Program.{Meaning}
use Rattle.plain_machine.specs.History.{Did, Step, log_more, log_of}
use Rattle.plain_machine.proofs.Histories.{is_eq}
use Rattle.round_order.specs.Receipts.{Receipt, Receipts, InRound, Among, after, IsLogged}
use Rattle.round_order.specs.Linked.{AreOwnMoves, IsKnown, IsJoinOf, IsLinked}
use Rattle.round_order.specs.Home.{IsEntryOf, count}
use Rattle.round_order.specs.Growth.{AreWithin}
use Rattle.round_order.proofs.LoggedMoves.{at_entry, log_step}
use Rattle.round_order.proofs.RoundCounts.{join_within}

module _ {V : Type 0} (m : Meaning V) (inputs : ℕ → List Packet) (threads : ℕ) (past : List (Step V))
    (opening : IsLog (log_of past)) (rs : Receipts V) (linked : IsLinked m inputs threads past rs) where
  -- entry n of the thread is known, with a stamp that has n in the place of the thread
  abbrev Last : ℕ → ℕ → Type 0
  Last t n = (d : Entry) × (st : ℕ → ℕ) × IsEntryOf t n d × IsKnown past rs d st × (st t ≡ n)

  last_known : (t : ℕ) (xs : List (Receipt V)) → AreOwnMoves m inputs past t xs
      → ((f : Receipt V) → Among f xs → InRound rs f) → 1 ≤ entries t (log_of (after xs past))
      → Last t (entries t (log_of (after xs past)))
  last_known t [] alone here some =
      let e = entry_there (log_of past) t (entries t (log_of past)) opening some (omega arith) in
      let s = stamp_there (log_of past) e.0 opening e.1 in
      let low : e.0.number ≤ s.0 e.0.thread = s.1.above e.0 e.1 (inl refl) in
      let high : s.0 t ≤ entries t (log_of past) = stamp_within (log_of past) e.0 s.0 t opening s.1 in
      let own : s.0 e.0.thread ≡ s.0 t = ap s.0 e.2 in
      (e.0, s.0, (e.2, e.3), inr (e.1, s.1), omega (arith, e.3))
  last_known t (r ∷ xs) alone here some = go (log_step r.step.act (log_of (after xs past)))
      (λ one. last_known t xs alone.2 (λ f a. here f (inr a)) one) some
    where
      Found : List Entry → Type 0
      Found log = Last t (entries t log)

      logged : (e : Entry) → (l : IsLogged r e) → Last t (entries t (e ∷ log_of (after xs past)))
      logged e (left, is) =
          let k : (e.thread ≡ r.step.thread) × (e.number ≡ entries r.step.thread (log_of (after xs past)) + 1) =
          at_entry r.step.thread r.step.after.taken r.place (after xs past) alone.1.0 e left (sym alone.1.2 ∙ is) in
          let of_t : e.thread ≡ t = k.0 ∙ alone.0 in
          let n : e.number ≡ entries t (log_of (after xs past)) + 1 =
          k.1 ∙ ap (λ (u : ℕ). entries u (log_of (after xs past)) + 1) alone.0 in
          let counted : entries t (e ∷ log_of (after xs past)) ≡ entries t (log_of (after xs past)) + 1 =
          rw (is_eq e.thread t of_t) refl in
          let j = linked.joined r e (here r (inl refl)) (left, is) in
          let own : slice_index r.stamp t ≡ e.number = j.stamp t ∙ rw (is_eq t e.thread (sym of_t)) refl in (
            e,
            (λ u. slice_index r.stamp u),
            (of_t, n ∙ sym counted),
            inl (r, here r (inl refl), (left, is), λ u. refl),
            own ∙ (n ∙ sym counted),
          )

      go : (((e : Entry) (left : Option V) → r.step.act ≡ Did e left → ⊥)
          × (log_more r.step.act (log_of (after xs past)) ≡ log_of (after xs past)))
          ⊎ ((e : Entry) × (left : Option V) × (r.step.act ≡ Did e left)
          × (log_more r.step.act (log_of (after xs past)) ≡ e ∷ log_of (after xs past)))
          → (1 ≤ entries t (log_of (after xs past)) → Last t (entries t (log_of (after xs past))))
          → 1 ≤ entries t (log_more r.step.act (log_of (after xs past)))
          → Last t (entries t (log_more r.step.act (log_of (after xs past))))
      go (inl (none, same)) older one =
          subst Found (sym same) (older (subst (λ (log : List Entry). 1 ≤ entries t log) same one))
      go (inr (e, left, is, more)) older one = subst Found (sym more) (logged e (left, is))

  -- the stamp that a thread has counts its own entries
  pub own_top : AreWithin past rs → (t : ℕ) (own : ℕ → ℕ) → IsJoinOf past rs (IsEntryOf t (count past rs t)) own
      → own t ≡ count past rs t
  own_top within t own j = go (count past rs t) refl
    where
      high : own t ≤ count past rs t
      high = join_within m inputs threads past opening rs linked within (IsEntryOf t (count past rs t)) own t j

      mine : (xs : List (Receipt V)) → AreOwnMoves m inputs past t xs → (f : Receipt V) → Among f xs → f.step.thread ≡ t
      mine [] alone f here = absurd here
      mine (x ∷ xs) alone f (inl same) = sym (ap (λ (z : Receipt V). z.step.thread) same) ∙ alone.0
      mine (x ∷ xs) alone f (inr here) = mine xs alone.2 f here

      in_round : (f : Receipt V) → Among f (rs t) → InRound rs f
      in_round f here = subst (λ (u : ℕ). Among f (rs u)) (sym (mine (rs t) (linked.alone t) f here)) here

      go : (n : ℕ) → n ≡ count past rs t → own t ≡ count past rs t
      go zero is = omega (arith, high)
      go (suc n) is =
          let k = last_known t (rs t) (linked.alone t) in_round (omega arith) in
          let low : k.1 t ≤ own t = j.above k.0 k.1 k.2 k.3 t in omega (arith, high, k.4)
