-- The stamps that a master keeps of its variables, by the order of the log.
use Rattle.std.specs.Prelude.{◌≡◌, ℕ, ◌≤◌, ◌⊎◌, List}
use Rattle.entry_order.specs.declared.what.What.TheVariants.{Access, Read}
use Rattle.entry_order.specs.Log.{Entry, places, IsIn}
use Rattle.entry_order.specs.Stamps.{IsStamp}

-- the stamp of the last touch of a variable; zero where there is none
pub record IsTouchStamp (log : List Entry) (v : ℕ) (stamp : ℕ → ℕ) : Type 0 where
  pub last : (e : Entry) → IsIn e log → e.what ≡ Access v (places v log) → IsStamp log e stamp
  pub none : places v log ≡ 0 → (u : ℕ) → stamp u ≡ 0

-- the join of the stamps of the reads of a variable after its last touch: for each thread, the greatest of their
-- components, or 0
pub record IsReadersStamp (log : List Entry) (v : ℕ) (join : ℕ → ℕ) : Type 0 where
  pub above : (e : Entry) (stamp : ℕ → ℕ) → IsIn e log → e.what ≡ Read v (places v log) → IsStamp log e stamp → (u : ℕ)
      → stamp u ≤ join u
  pub reached : (u : ℕ)
      → (join u ≡ 0)
      ⊎ ((e : Entry) × (stamp : ℕ → ℕ) × IsIn e log × (e.what ≡ Read v (places v log)) × IsStamp log e stamp
      × (stamp u ≡ join u))
