-- What an output logger stands for, and what its calls release.
use Rattle.std.specs.Prelude.{◌≡◌, ℕ, ◌⊎◌, ◌↔◌, List, [], ◌∷◌, ◌++◌, length, drop}
use Rattle.access_log.specs.declared.entry.Output.{Output}
use Rattle.access_log.specs.Held.{Lane, IsWithin}
use Rattle.access_log.specs.Lanes.{IsHeldSet}
use Rattle.dup_filter.specs.Numbers.{Numbers, WasMarked}

-- The epoch, the log entries that are held or covered, the numbers of the outputs that were released, and the outputs
-- that wait, in the order in which they arrived.
pub record Logger : Type 0 where
  pub epoch : ℕ
  pub held : List Lane
  pub released : List Numbers
  pub waiting : List Output

-- none of the log entries that the output depends on is missing
abbrev pub IsDue : List Lane → Output → Type 0
IsDue held o = IsWithin held o.stamp

-- output n of thread t
abbrev pub IsCalled : ℕ → ℕ → Output → Type 0
IsCalled t n o = (o.thread ≡ t) × (o.number ≡ n)

-- output n of thread t is in the list
abbrev pub IsNamed : ℕ → ℕ → List Output → Type 0
IsNamed t n [] = ⊥
IsNamed t n (o ∷ rest) = IsCalled t n o ⊎ IsNamed t n rest

-- the output is in the list
abbrev pub IsAmong : Output → List Output → Type 0
IsAmong o [] = ⊥
IsAmong o (x ∷ rest) = (x ≡ o) ⊎ IsAmong o rest

-- no two outputs of the list have one thread and one number
abbrev pub AreApart : List Output → Type 0
AreApart [] = Unit {0}
AreApart (o ∷ rest) = (IsNamed o.thread o.number rest → ⊥) × AreApart rest

-- output n of thread t was released, or waits
abbrev pub HasArrived : Logger → ℕ → ℕ → Type 0
HasArrived l t n = WasMarked l.released t n ⊎ IsNamed t n l.waiting

-- some go, the others stay, each in order
abbrev pub Parts : (Output → Type 0) → List Output → List Output → List Output → Type 0
Parts P [] go stay = (go ≡ []) × (stay ≡ [])
Parts P (o ∷ waiting) go stay =
    (P o × (rest : List Output) × (go ≡ o ∷ rest) × Parts P waiting rest stay)
    ⊎ ((P o → ⊥) × (rest : List Output) × (stay ≡ o ∷ rest) × Parts P waiting go rest)

-- what a call appended
abbrev pub appended : List Output → List Output → List Output
appended old new = drop (length old) new

-- These outputs are released, none that was released before and none twice, and it is noted that they were.
pub record ReleasesOnce (old new : List Numbers) (go : List Output) : Type 0 where
  pub fresh : (t n : ℕ) → IsNamed t n go → WasMarked old t n → ⊥
  pub apart : AreApart go
  pub marked : (t n : ℕ) → WasMarked new t n ↔ (IsNamed t n go ⊎ WasMarked old t n)

-- The waiting outputs that are due by what is held then are released, in the order in which they arrived; the others
-- wait on.
pub record ReleasesDue (old new : Logger) (go : List Output) : Type 0 where
  pub epoch : new.epoch ≡ old.epoch
  pub parts : Parts (IsDue new.held) old.waiting go new.waiting
  pub once : ReleasesOnce old.released new.released go

-- From one state to another, by any number of calls, these outputs were released, in order.
pub data Lives : List Numbers → List Output → List Numbers → Type 0 where
  Begins : (old : List Numbers) → Lives old [] old
  Goes : {old mid new : List Numbers} {earlier go : List Output} → Lives old earlier mid → ReleasesOnce mid new go
      → Lives old (earlier ++ go) new

-- What is true of every output logger. No output waits that is due, none that was released, and none waits twice.
pub record IsLogger (l : Logger) : Type 0 where
  pub held : IsHeldSet l.held
  pub none_due : (o : Output) → IsAmong o l.waiting → IsDue l.held o → ⊥
  pub fresh : (t n : ℕ) → IsNamed t n l.waiting → WasMarked l.released t n → ⊥
  pub apart : AreApart l.waiting
