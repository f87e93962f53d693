-- Stamps: for each thread, how far its entries precede an entry, or what a thread sends out. They are vector clocks, as
-- Fidge (Timestamps in Message-Passing Systems, 1988) and Mattern (Virtual Time and Global States, 1989) have them.
use Rattle.std.specs.Prelude.{◌≡◌, ℕ, zero, suc, ◌+◌, ◌≤◌, Bool, false, List, [], ◌∷◌, nat_eq, cond, max, ◌⊎◌, ◌||◌}
use Rattle.entry_order.specs.declared.what.What.{What}
use Rattle.entry_order.specs.declared.what.What.TheVariants.{Access, Read, Clock, Draw}
use Rattle.entry_order.specs.Log.{Entry, touches, IsIn, IsNext, PrecedesOrIs, PrecedesOutput}

-- For each thread, the greatest number of an entry of it that is the entry itself or precedes it, or 0.
pub record IsStamp (log : List Entry) (e : Entry) (stamp : ℕ → ℕ) : Type 0 where
  pub above : (f : Entry) → IsIn f log → PrecedesOrIs log f e → f.number ≤ stamp f.thread
  pub reached : (u : ℕ)
      → (stamp u ≡ 0) ⊎ ((f : Entry) × IsIn f log × (f.thread ≡ u) × (f.number ≡ stamp u) × PrecedesOrIs log f e)

-- One component of the stamp: n is the greatest number of an entry of thread u that is the entry itself or precedes it,
-- or 0.
pub record IsComponent (log : List Entry) (e : Entry) (u n : ℕ) : Type 0 where
  pub above : (f : Entry) → IsIn f log → f.thread ≡ u → PrecedesOrIs log f e → f.number ≤ n
  pub reached : (n ≡ 0) ⊎ ((f : Entry) × IsIn f log × (f.thread ≡ u) × (f.number ≡ n) × PrecedesOrIs log f e)

-- The same for what a thread sends out after its first n entries, by its predecessors.
pub record IsOutputStamp (log : List Entry) (t n : ℕ) (stamp : ℕ → ℕ) : Type 0 where
  pub above : (f : Entry) → IsIn f log → PrecedesOutput log t n f → f.number ≤ stamp f.thread
  pub reached : (u : ℕ)
      → (stamp u ≡ 0) ⊎ ((f : Entry) × IsIn f log × (f.thread ≡ u) × (f.number ≡ stamp u) × PrecedesOutput log t n f)

-- n members of the list have the property
abbrev pub IsCount : (Entry → Type 0) → List Entry → ℕ → Type 0
IsCount P [] n = n ≡ 0
IsCount P (f ∷ rest) n = (P f × (k : ℕ) × (n ≡ k + 1) × IsCount P rest k) ⊎ ((P f → ⊥) × IsCount P rest n)

-- the weight of an entry: how many entries of the log precede it or are it
abbrev pub IsWeight : List Entry → Entry → ℕ → Type 0
IsWeight log e n = IsCount (λ f. PrecedesOrIs log f e) log n

-- the sum of the terms at the numbers below n: of a stamp, the components of the first n threads
abbrev pub sum_below : ℕ → (ℕ → ℕ) → ℕ
sum_below zero term = 0
sum_below (suc n) term = sum_below n term + term n

-- Stamps by joins

-- The join of the stamps of the immediate predecessors: for each thread, the greatest of their components, or 0.
pub record IsJoinBefore (log : List Entry) (e : Entry) (join : ℕ → ℕ) : Type 0 where
  pub above : (f : Entry) (stamp : ℕ → ℕ) → IsIn f log → IsNext f e → IsStamp log f stamp → (u : ℕ) → stamp u ≤ join u
  pub reached : (u : ℕ)
      → (join u ≡ 0)
      ⊎ ((f : Entry) × (stamp : ℕ → ℕ) × IsIn f log × IsNext f e × IsStamp log f stamp × (stamp u ≡ join u))

-- with the number of the entry in the place of its thread
abbrev pub bumped : Entry → (ℕ → ℕ) → ℕ → ℕ
bumped e join u = cond (nat_eq u e.thread) e.number (join u)

abbrev pub looks : ℕ → What → Bool
looks v (Access w place) = false
looks v (Read w after) = nat_eq w v
looks v (Clock a) = false
looks v (Draw a) = false

-- whether both are on one variable, and one of them is a touch
abbrev pub shares : What → What → Bool
shares (Access v place) other = touches v other || looks v other
shares (Read v after) other = touches v other
shares (Clock a) other = false
shares (Draw a) other = false

-- whether an earlier entry precedes e at once or by a chain of its thread or of its variable
abbrev pub binds : Entry → Entry → Bool
binds e earlier = nat_eq earlier.thread e.thread || shares e.what earlier.what

-- The join of the stamps of the entries that pass the test. The stamp of an entry is the join of those of its thread
-- and of its variable so far, with its own number in the place of its thread.
abbrev pub joined : (Entry → Bool) → List Entry → ℕ → ℕ
joined passes [] u = 0
joined passes (e ∷ earlier) u =
    cond (passes e) (max (cond (nat_eq u e.thread) e.number (joined (binds e) earlier u)) (joined passes earlier u))
    (joined passes earlier u)

abbrev pub stamp : Entry → List Entry → ℕ → ℕ
stamp e earlier = bumped e (joined (binds e) earlier)
