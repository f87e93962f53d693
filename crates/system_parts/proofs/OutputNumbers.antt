-- The outputs of a thread in a legal run are numbered from 1 up to their count.
use Rattle.std.proofs.Common.{◌≡◌, ℕ, ◌+◌, ◌≤◌, ◌≢◌, cond, List, [], ◌∷◌, refl, sym, ap, ◌∙◌, subst, inl, inr, ◌⊎◌}
use Rattle.std.proofs.Common.{arith}
use Rattle.plain_text.specs.declared.packet.Packet.{Packet}
use Rattle.entry_order.specs.Log.{entries}
use Rattle.entry_order.proofs.Order.{is_or}
use Rattle.plain_machine.specs.declared.emission.Emission.{Emission}
use Rattle.plain_machine.specs.Program.{Meaning}
use Rattle.plain_machine.specs.History.{Act, Took, Did, Emitted, Ended, Step, log_of, sent_more, sent_of, outputs}
use Rattle.plain_machine.specs.History.{IsHistory}
use Rattle.plain_machine.specs.Agree.{SendsAfter, IsEarlier}
use Rattle.plain_machine.proofs.Histories.{did_emission, not_eq, is_eq, earlier_history}
use Rattle.plain_machine.proofs.Agreement.{sends_at}

-- an output of the run has a number from 1
pub output_from_one : {V : Type 0} (m : Meaning V) (inputs : ℕ → List Packet) (threads : ℕ) (steps : List (Step V))
    (o : Emission) (n : ℕ) → IsHistory m inputs threads steps → SendsAfter steps o n → 1 ≤ o.number
output_from_one {V} m inputs threads steps o n h sends = go (sends_at steps o n sends)
  where
    go : (y : Step V) × (earlier : List (Step V)) × IsEarlier (y ∷ earlier) steps × (y.act ≡ Emitted o)
        × (entries o.thread (log_of earlier) ≡ n) → 1 ≤ o.number
    go (y, earlier, early, act, after) =
        let made = (earlier_history m inputs threads (y ∷ earlier) steps early h).0 in
        let d = did_emission y.thread y.after.taken earlier made.2 o (sym made.4 ∙ act) in
        omega (arith, d.1)

-- the run sent out output n of thread t, after some number of entries
abbrev pub HasOutput : {V : Type 0} → List (Step V) → ℕ → ℕ → Type 0
HasOutput steps t n = (o : Emission) × (k : ℕ) × SendsAfter steps o k × (o.thread ≡ t) × (o.number ≡ n)

-- there is an output of each number up to the count
pub output_there : {V : Type 0} (m : Meaning V) (inputs : ℕ → List Packet) (threads : ℕ) (steps : List (Step V))
    (t n : ℕ) → IsHistory m inputs threads steps → 1 ≤ n → n ≤ outputs t (sent_of steps) → HasOutput steps t n
output_there m inputs threads [] t n h low high = absurd (omega (arith, low, high))
output_there {V} m inputs threads (x ∷ earlier) t n h low high =
    go (λ few. output_there m inputs threads earlier t n h.1 low few) x.act refl high
  where
    before : (n ≤ outputs t (sent_of earlier) → HasOutput earlier t n) → n ≤ outputs t (sent_of earlier)
        → HasOutput (x ∷ earlier) t n
    before rec few = let r = rec few in (r.0, r.1, inr r.2, r.3, r.4)

    go : (n ≤ outputs t (sent_of earlier) → HasOutput earlier t n) → (a : Act V) → x.act ≡ a
        → n ≤ outputs t (sent_more a (sent_of earlier)) → HasOutput (x ∷ earlier) t n
    go rec (Took k) is few = before rec few
    go rec (Did e left) is few = before rec few
    go rec (Ended k) is few = before rec few
    go rec (Emitted o) is few = pick (is_or o.thread t)
      where
        d : (o.thread ≡ x.thread) × (o.number ≡ outputs x.thread (sent_of earlier) + 1)
        d = did_emission x.thread x.after.taken earlier h.0.2 o (sym h.0.4 ∙ is)

        pick : (o.thread ≡ t) ⊎ (o.thread ≢ t) → HasOutput (x ∷ earlier) t n
        pick (inr other) =
            before rec (subst (λ b. n ≤ cond b (outputs t (sent_of earlier) + 1) (outputs t (sent_of earlier)))
            (not_eq o.thread t other) few)
        pick (inl own) = last (is_or o.number n)
          where
            most : n ≤ outputs t (sent_of earlier) + 1
            most = subst (λ b. n ≤ cond b (outputs t (sent_of earlier) + 1) (outputs t (sent_of earlier)))
                (is_eq o.thread t own) few

            counted : o.number ≡ outputs t (sent_of earlier) + 1
            counted = d.1 ∙ ap (λ (u : ℕ). outputs u (sent_of earlier) + 1) (sym d.0 ∙ own)

            last : (o.number ≡ n) ⊎ (o.number ≢ n) → HasOutput (x ∷ earlier) t n
            last (inl same) = (o, entries o.thread (log_of earlier), inl (is, refl), own, same)
            last (inr apart) = before rec (omega (arith, most, counted, apart))
