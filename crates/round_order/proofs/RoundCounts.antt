-- How many entries the threads of a round have, and that no stamp is above that.
use Rattle.std.proofs.Common.{◌≡◌, ℕ, ◌+◌, ◌≤◌, le_refl, true, List, [], ◌∷◌, sym, ap, ◌∙◌, subst, inl, inr, ◌⊎◌, arith}
use Rattle.std.specs.Prelude.{nat_eq, slice_index}
use Rattle.plain_text.specs.declared.packet.Packet.{Packet}
use Rattle.entry_order.specs.Log.{Entry, entries, IsLog}
use Rattle.entry_order.proofs.Order.{entries_grow}
use Rattle.entry_order.proofs.Weights.{stamp_within}
use Rattle.plain_machine.specs.Program.{Meaning}
use Rattle.plain_machine.specs.History.{Act, Took, Did, Emitted, Ended, Step, log_more, log_of}
use Rattle.plain_machine.proofs.Histories.{is_eq}
use Rattle.round_order.specs.Receipts.{Receipt, Receipts, InRound, Among, after, IsLogged}
use Rattle.round_order.specs.Linked.{IsOwnMove, AreOwnMoves, IsKnown, IsJoinOf, IsLinked}
use Rattle.round_order.specs.Home.{count}
use Rattle.round_order.specs.Growth.{AreWithin}
use Rattle.round_order.proofs.LoggedMoves.{at_entry, own_at}

-- a log grows with each step
pub steps_grow : {V : Type 0} (t : ℕ) (x : Step V) (steps : List (Step V))
    → entries t (log_of steps) ≤ entries t (log_of (x ∷ steps))
steps_grow {V} t x steps = go x.act
  where
    go : (a : Act V) → entries t (log_of steps) ≤ entries t (log_more a (log_of steps))
    go (Took k) = le_refl _
    go (Did e left) = entries_grow t e (log_of steps)
    go (Emitted o) = le_refl _
    go (Ended k) = le_refl _

pub past_grows : {V : Type 0} (t : ℕ) (xs : List (Receipt V)) (past : List (Step V))
    → entries t (log_of past) ≤ entries t (log_of (after xs past))
past_grows t [] past = le_refl _
past_grows t (x ∷ xs) past = let a = past_grows t xs past in let b = steps_grow t x.step (after xs past) in omega arith

-- a thread's entries are numbered up to their count
pub own_number : {V : Type 0} (m : Meaning V) (inputs : ℕ → List Packet) (past : List (Step V)) (t : ℕ)
    (xs : List (Receipt V)) (q : Receipt V) (e : Entry) → AreOwnMoves m inputs past t xs → Among q xs → IsLogged q e
    → e.number ≤ entries t (log_of (after xs past))
own_number m inputs past t [] q e h here l = absurd here
own_number {V} m inputs past t (x ∷ xs) q e h (inr here) l =
    let a : e.number ≤ entries t (log_of (after xs past)) = own_number m inputs past t xs q e h.2 here l in
    let b = steps_grow t x.step (after xs past) in omega arith
own_number {V} m inputs past t (x ∷ xs) q e h (inl same) l = go (subst (λ (z : Receipt V). IsLogged z e) (sym same) l)
  where
    go : IsLogged x e → e.number ≤ entries t (log_of (x.step ∷ after xs past))
    go (left, is) =
        let k : (e.thread ≡ x.step.thread) × (e.number ≡ entries x.step.thread (log_of (after xs past)) + 1) =
        at_entry x.step.thread x.step.after.taken x.place (after xs past) h.1.0 e left (sym h.1.2 ∙ is) in
        let n : e.number ≡ entries t (log_of (after xs past)) + 1 =
        k.1 ∙ ap (λ (u : ℕ). entries u (log_of (after xs past)) + 1) h.0 in
        let mine : nat_eq e.thread t ≡ true = is_eq e.thread t (k.0 ∙ h.0) in
        rw is (rw mine (omega arith))

module _ {V : Type 0} (m : Meaning V) (inputs : ℕ → List Packet) (threads : ℕ) (past : List (Step V))
    (opening : IsLog (log_of past)) (rs : Receipts V) (linked : IsLinked m inputs threads past rs) where
  pub legal_at : (q : Receipt V) → InRound rs q → (mine : List (Step V)) × IsOwnMove m inputs mine q
  legal_at q here = (own_at m inputs past q.step.thread (rs q.step.thread) q (linked.alone q.step.thread) here).1

  -- no known stamp is above the counts
  pub known_within : AreWithin past rs → (d : Entry) (st : ℕ → ℕ) (u : ℕ) → IsKnown past rs d st
      → st u ≤ count past rs u
  known_within w d st u (inl (f, here, l, same)) =
      let a : slice_index f.stamp u ≤ count past rs u = w f u here in omega (arith, same u)
  known_within w d st u (inr (old, is)) =
      let a : st u ≤ entries u (log_of past) = stamp_within (log_of past) d st u opening is in
      let b = past_grows u (rs u) past in omega arith

  pub join_within : AreWithin past rs → (These : Entry → Type 0) (join : ℕ → ℕ) (u : ℕ) → IsJoinOf past rs These join
      → join u ≤ count past rs u
  join_within w These join u j = go (j.reached u)
    where
      go : (join u ≡ 0) ⊎ ((d : Entry) × (st : ℕ → ℕ) × These d × IsKnown past rs d st × (st u ≡ join u))
          → join u ≤ count past rs u
      go (inl z) = omega arith
      go (inr (d, st, these, known, is)) = let a : st u ≤ count past rs u = known_within w d st u known in omega arith
