-- A message that arrived before: when it arrives again, nothing changes.
use Rattle.std.specs.Prelude.{ℕ}
use Rattle.plain_text.specs.declared.kind.Kind.{Kind}
use Rattle.plain_text.specs.declared.kind.Kind.TheVariants as kind
use Rattle.access_log.specs.Held.{lane, IsKnown}
use Rattle.dup_filter.specs.Numbers.{WasMarked}
use Rattle.system_parts.specs.Parts.{Parts}

-- the entry is held or covered, or the output was released
abbrev pub HasCome : {P V : Type 0} → Kind → Parts P V → ℕ → ℕ → Type 0
HasCome kind.Log y t n = IsKnown (lane y.logger.held t) n
HasCome kind.Out y t n = WasMarked y.logger.released t n
