-- Whose turn it is at a variable, by the entries that a guide follows. A thread t asks whether its entry n may be a
-- touch of variable v, or a read of it, after this number of touches. The stamp of the readers tells for each thread
-- how far it made its reads of the variable after the last touch.
use Rattle.std.specs.Prelude.{◌≡◌, ℕ, ◌+◌, ◌≤◌, ◌<◌, ◌⊎◌, Bool, false, List, slice_index}
use Rattle.entry_order.specs.declared.what.What.TheVariants.{Access, Read}
use Rattle.access_log.specs.Held.{Lane}
use Rattle.replay_guide.specs.Following.{Follows}

-- entry (u, m) is a followed read of the variable as it is now, which is not made yet
abbrev pub IsPendingRead : List Lane → ℕ → ℕ → List ℕ → ℕ → ℕ → Type 0
IsPendingRead guide v places readers u m = Follows guide u m (Read v places) × (slice_index readers u < m)

-- u is a lesser thread than w, or the same one and m no greater number than k
abbrev pub GoesFirst : ℕ → ℕ → ℕ → ℕ → Type 0
GoesFirst u m w k = (u < w) ⊎ ((u ≡ w) × (m ≤ k))

-- of the pending reads, the one of the least thread, and of that thread the one with the least number
pub record IsFirstPending (guide : List Lane) (v places : ℕ) (readers : List ℕ) (u m : ℕ) : Type 0 where
  pub pending : IsPendingRead guide v places readers u m
  pub first : (w k : ℕ) → IsPendingRead guide v places readers w k → GoesFirst u m w k

-- no pending read stands before the move: a read waits for none
abbrev pub NoneIsPending : List Lane → ℕ → Bool → ℕ → List ℕ → Type 0
NoneIsPending guide v read places readers = read ≡ false → (u m : ℕ) → IsPendingRead guide v places readers u m → ⊥

-- The move waits for entry (u, m). A followed read that is at its place never waits. A touch waits for the first
-- pending read; both wait for another's touch that is next.
pub record WaitsFor (guide : List Lane) (t n v : ℕ) (read : Bool) (places : ℕ) (readers : List ℕ)
    (u m : ℕ) : Type 0 where
  pub not_own_read : Follows guide t n (Read v places) → ⊥
  pub which : ((read ≡ false) × IsFirstPending guide v places readers u m)
      ⊎ (NoneIsPending guide v read places readers
      × Follows guide u m (Access v (places + 1))
      × ((u ≡ t) × (m ≡ n) → ⊥))

-- The move is the followed one: entry (t, n) is a followed read at its place, or the followed touch that is next.
abbrev pub IsFollowed : List Lane → ℕ → ℕ → ℕ → Bool → ℕ → List ℕ → Type 0
IsFollowed guide t n v read places readers =
    Follows guide t n (Read v places)
    ⊎ (NoneIsPending guide v read places readers × Follows guide t n (Access v (places + 1)))

-- Nothing is followed of the variable as it is now for which the move would wait, and the move itself is not followed.
pub record IsFree (guide : List Lane) (t n v : ℕ) (read : Bool) (places : ℕ) (readers : List ℕ) : Type 0 where
  pub not_own_read : Follows guide t n (Read v places) → ⊥
  pub none_pending : NoneIsPending guide v read places readers
  pub no_touch : (u m : ℕ) → Follows guide u m (Access v (places + 1)) → ⊥
