-- Where entries stand in a log, and which of them precede which.
use Rattle.std.proofs.Common.{◌≡◌, Bool, true, false, IsTrue, List, [], ◌∷◌, refl, sym, ◌∙◌, subst, inl, inr, ◌⊎◌}
use Rattle.std.proofs.Common.{arith}
use Rattle.std.specs.Prelude.{nat_eq, ◌||◌}
use Rattle.std.proofs.lemmas.Bool.Decides.{nat_tests}
use Rattle.entry_order.specs.declared.what.What.{What}
use Rattle.entry_order.specs.declared.what.What.TheVariants.{Access, Read, Clock, Draw}
use Rattle.entry_order.specs.Log.{Entry, IsLog, IsIn, StandsBefore, Precedes, IsClosed}
use Rattle.entry_order.specs.Stamps.{shares, binds}
use Rattle.entry_order.proofs.Order.{newest, stands_after, closed_down}
use Rattle.entry_order.proofs.StampLemmas.{precedes_more, binds_precedes}

-- of two entries of a log, one stands before the other, or they are one
pub stands_or : (log : List Entry) (e f : Entry) → IsIn e log → IsIn f log
    → (e ≡ f) ⊎ (StandsBefore log e f ⊎ StandsBefore log f e)
stands_or [] e f he hf = absurd he
stands_or (x ∷ log) e f (inl a) (inl b) = inl (sym a ∙ b)
stands_or (x ∷ log) e f (inl a) (inr b) = inr (inr (inl (a, b)))
stands_or (x ∷ log) e f (inr a) (inl b) = inr (inl (inl (b, a)))
stands_or (x ∷ log) e f (inr a) (inr b) = go (stands_or log e f a b)
  where
    go : (e ≡ f) ⊎ (StandsBefore log e f ⊎ StandsBefore log f e)
        → (e ≡ f) ⊎ (StandsBefore (x ∷ log) e f ⊎ StandsBefore (x ∷ log) f e)
    go (inl h) = inl h
    go (inr (inl h)) = inr (inl (inr h))
    go (inr (inr h)) = inr (inr (inr h))

-- no entry stands before itself
pub not_before_itself : (log : List Entry) (e : Entry) → IsLog log → StandsBefore log e e → ⊥
not_before_itself [] e good h = absurd h
not_before_itself (x ∷ log) e good (inl h) = newest log x good (subst (λ (y : Entry). IsIn y log) (sym h.0) h.1)
not_before_itself (x ∷ log) e good (inr h) = not_before_itself log e good.2 h

-- no entry precedes itself
pub not_precedes_itself : (log : List Entry) (e : Entry) → IsLog log → Precedes log e e → ⊥
not_precedes_itself log e good p = not_before_itself log e good (stands_after log e e good p)

-- An entry that stands before another of its thread, or of its variable where one of them is a touch, precedes it.
pub earlier_precedes : (log : List Entry) (e f : Entry) → IsLog log → StandsBefore log e f → IsTrue (binds f e)
    → Precedes log e f
earlier_precedes [] e f good h b = absurd h
earlier_precedes (x ∷ log) e f good (inl h) b =
    subst (λ (y : Entry). Precedes (x ∷ log) e y) h.0
    (binds_precedes x log e good h.1 (subst (λ (y : Entry). binds y e ≡ true) (sym h.0) b))
earlier_precedes (x ∷ log) e f good (inr h) b = precedes_more x log e f (earlier_precedes log e f good.2 h b)

-- entries of one thread bind each other
pub binds_thread : (e f : Entry) → e.thread ≡ f.thread → IsTrue (binds f e)
binds_thread e f h = let k : nat_eq e.thread f.thread ≡ true = grind (arith, nat_tests) in rw k refl

or_true : (a b : Bool) → b ≡ true → (a || b) ≡ true
or_true true b h = refl
or_true false b h = h

-- entries on one variable, of which one is a touch, bind each other
pub binds_variable : (e f : Entry) → IsTrue (shares f.what e.what) → IsTrue (binds f e)
binds_variable e f h = or_true (nat_eq e.thread f.thread) (shares f.what e.what) h

-- sharing a variable goes both ways
pub shares_sym : (a b : What) → shares a b ≡ shares b a
shares_sym (Access v s) (Access w r) = grind (arith, nat_tests)
shares_sym (Access v s) (Read w r) = grind (arith, nat_tests)
shares_sym (Access v s) (Clock b) = refl
shares_sym (Access v s) (Draw b) = refl
shares_sym (Read v s) (Access w r) = grind (arith, nat_tests)
shares_sym (Read v s) (Read w r) = refl
shares_sym (Read v s) (Clock b) = refl
shares_sym (Read v s) (Draw b) = refl
shares_sym (Clock a) (Access w r) = refl
shares_sym (Clock a) (Read w r) = refl
shares_sym (Clock a) (Clock b) = refl
shares_sym (Clock a) (Draw b) = refl
shares_sym (Draw a) (Access w r) = refl
shares_sym (Draw a) (Read w r) = refl
shares_sym (Draw a) (Clock b) = refl
shares_sym (Draw a) (Draw b) = refl

-- where each of two entries binds the other, one precedes the other, or they are one
bound_in_order : (log : List Entry) (e f : Entry) → IsLog log → IsIn e log → IsIn f log → IsTrue (binds f e)
    → IsTrue (binds e f) → (e ≡ f) ⊎ (Precedes log e f ⊎ Precedes log f e)
bound_in_order log e f good he hf a b = go (stands_or log e f he hf)
  where
    go : (e ≡ f) ⊎ (StandsBefore log e f ⊎ StandsBefore log f e) → (e ≡ f) ⊎ (Precedes log e f ⊎ Precedes log f e)
    go (inl h) = inl h
    go (inr (inl h)) = inr (inl (earlier_precedes log e f good h a))
    go (inr (inr h)) = inr (inr (earlier_precedes log f e good h b))

-- Of two entries of one thread, one precedes the other.
pub thread_in_order : (log : List Entry) (e f : Entry) → IsLog log → IsIn e log → IsIn f log → e.thread ≡ f.thread
    → (e ≡ f) ⊎ (Precedes log e f ⊎ Precedes log f e)
thread_in_order log e f good he hf h = bound_in_order log e f good he hf (binds_thread e f h) (binds_thread f e (sym h))

-- Of two entries on one variable, of which one is a touch, one precedes the other.
pub variable_in_order : (log : List Entry) (e f : Entry) → IsLog log → IsIn e log → IsIn f log
    → IsTrue (shares e.what f.what) → (e ≡ f) ⊎ (Precedes log e f ⊎ Precedes log f e)
variable_in_order log e f good he hf h =
    bound_in_order log e f good he hf (binds_variable e f (shares_sym f.what e.what ∙ h)) (binds_variable f e h)

-- A closed set that has an entry has every earlier one of its thread, and every earlier one on its variable, where one
-- of the two is a touch.
pub closed_earlier : (log set : List Entry) (e f : Entry) → IsLog log → IsClosed log set → IsIn f set
    → StandsBefore log e f → IsTrue (binds f e) → IsIn e set
closed_earlier log set e f good closed hf h b = closed_down log set e f closed (earlier_precedes log e f good h b) hf
