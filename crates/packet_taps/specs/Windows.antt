-- Windows on lists of packets.
use Rattle.std.specs.Prelude.{ℕ, ◌-◌, List, take, drop}

-- without the first so many, and of these the first so many
abbrev pub window : {A : Type 0} → ℕ → ℕ → List A → List A
window skip quota items = take quota (drop skip items)

-- the two numbers of a window that are left behind so many items
abbrev pub skip_behind : ℕ → ℕ → ℕ
skip_behind skip count = skip - count

abbrev pub quota_behind : ℕ → ℕ → ℕ → ℕ
quota_behind skip quota count = quota - (count - skip)
