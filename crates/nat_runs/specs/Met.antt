-- What the moves of a packet in hand met: the newest of each kind, since the packet was taken.
use Rattle.std.specs.Prelude.{ℕ, List, [], ◌∷◌, Option, Some, None, nat_eq, cond}
use Rattle.entry_order.specs.declared.what.What.{What}
use Rattle.entry_order.specs.declared.what.What.TheVariants.{Access, Read, Clock, Draw}
use Rattle.plain_machine.specs.History.{Act, Took, Did, Emitted, Ended, Step, value_after}
use Rattle.nat_tables.specs.Forwards.{Forwards}
use Rattle.nat_box.specs.declared.value.NatValue.{NatValue}
use Rattle.nat_box.specs.declared.value.NatValue.TheVariants.{Dropped, Free, Mapped, Taken}
use Rattle.nat_box.specs.Settings.{Settings}
use Rattle.nat_box.specs.Nat.{nat_meaning}
use Rattle.nat_box.specs.Emissions.{left_forward}

pub record Met : Type 0 where
  -- the values of the variables when it touched a forward table, when it touched the pool, when it read a reverse
  -- table, and when it read a forward table
  pub at_touch : Option (ℕ → NatValue)
  pub at_pool : Option (ℕ → NatValue)
  pub at_reverse : Option (ℕ → NatValue)
  pub at_forward : Option (ℕ → NatValue)
  -- a forward table, as its touch left it
  pub left : Option Forwards
  -- the time that it was told, in microseconds
  pub clock : Option ℕ

abbrev pub nothing_met : Met
nothing_met = record {
  at_touch = None;
  at_pool = None;
  at_reverse = None;
  at_forward = None;
  left = None;
  clock = None;
}

abbrev pub met_by_touch : (ℕ → NatValue) → NatValue → Option NatValue → Met → Met
met_by_touch value (Dropped d) left old = old
met_by_touch value (Free pool) left old = record old { at_pool = Some value }
met_by_touch value (Mapped es) left old = record old { at_touch = Some value; left = left_forward left old.left }
met_by_touch value (Taken bs) left old = old

abbrev pub met_by_read : (ℕ → NatValue) → NatValue → Met → Met
met_by_read value (Dropped d) old = old
met_by_read value (Free pool) old = old
met_by_read value (Mapped es) old = record old { at_forward = Some value }
met_by_read value (Taken bs) old = record old { at_reverse = Some value }

-- where the variables had these values before the move, and a touch left this one
abbrev pub met_by_what : (ℕ → NatValue) → Option NatValue → What → Met → Met
met_by_what value left (Access v place) old = met_by_touch value (value v) left old
met_by_what value left (Read v after) old = met_by_read value (value v) old
met_by_what value left (Clock a) old = record old { clock = Some a }
met_by_what value left (Draw a) old = old

-- a take begins anew
abbrev pub met_by : (ℕ → NatValue) → Act NatValue → Met → Met
met_by value (Took k) old = nothing_met
met_by value (Did entry left) old = met_by_what value left entry.what old
met_by value (Emitted o) old = old
met_by value (Ended k) old = old

abbrev pub met_of : Settings → ℕ → List (Step NatValue) → Met
met_of s t [] = nothing_met
met_of s t (x ∷ earlier) =
    cond (nat_eq x.thread t) (met_by (value_after (nat_meaning s) earlier) x.act (met_of s t earlier))
    (met_of s t earlier)
