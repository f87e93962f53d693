-- The calls of one kind, reading or writing, that a world in memory had.
use Rattle.std.specs.Prelude.{◌≡◌, ℕ, ◌+◌, ◌-◌, ◌^◌, ◌≤◌, ◌==◌, if◌then◌else◌, Bool, false, List, [], ◌∷◌, ◌++◌}
use Rattle.std.specs.List.{list_any}

-- how many were made, the numbers of those that fail, and how many failed
pub record CallCount : Type 0 where
  pub made : ℕ
  pub failing : List ℕ
  pub faults : ℕ

-- one more; the last number stays
abbrev pub counted : ℕ → ℕ
counted n = if n == 2 ^ 64 - 1 then n else n + 1

-- the next call fails; calls are numbered from 1, and every call past the last number has this number too
abbrev pub next_fails : CallCount → Bool
next_fails calls = list_any (λ n. n == counted calls.made) calls.failing

abbrev pub after_call : CallCount → CallCount
after_call calls = record calls { made = counted calls.made }

abbrev pub after_fault : CallCount → CallCount
after_fault calls = record calls { made = counted calls.made; faults = counted calls.faults }

-- the call of this number fails too
abbrev pub with_failing : ℕ → CallCount → CallCount
with_failing nth calls = record calls { failing = calls.failing ++ nth ∷ [] }

-- none of the calls that are still to come is one that fails, however many will have been made before it
abbrev pub NoneIsToFail : CallCount → Type 0
NoneIsToFail calls = (made : ℕ) → calls.made ≤ made → next_fails (record calls { made = made }) ≡ false
