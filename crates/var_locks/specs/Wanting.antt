-- What a seat's thread wants next, as far as the seat saw.
use Rattle.std.specs.Prelude.{ℕ, ◌+◌, Bool, true, false, List, Option, Some, None, slice_index}
use Rattle.plain_machine.specs.declared.local.Local.{Local}
use Rattle.plain_machine.specs.declared.local.Move.{Move}
use Rattle.plain_machine.specs.declared.local.Move.TheVariants as move
use Rattle.plain_machine.specs.Program.{Meaning}
use Rattle.master_core.specs.declared.parts.Counts.{Counts}
use Rattle.master_core.specs.declared.wants.Wants.{Wants}
use Rattle.master_core.specs.declared.wants.Wants.TheVariants as wants
use Rattle.var_locks.specs.Seats.{Seated}

-- what a thread wants that did so much, where the program's next move is this and this number of touches of each
-- variable were seen
abbrev pub seat_wants_by : Counts → List ℕ → Move → Wants
seat_wants_by c seen (move.Access v) = wants.Touch (c.entries + 1) v (slice_index seen v)
seat_wants_by c seen (move.Read v) = wants.Read (c.entries + 1) v (slice_index seen v)
seat_wants_by c seen move.Clock = wants.Clock (c.entries + 1)
seat_wants_by c seen move.Draw = wants.Draw (c.entries + 1)
seat_wants_by c seen move.Emit = wants.Emit
seat_wants_by c seen move.End = wants.End

abbrev pub seat_wants_in : {V : Type 0} → Meaning V → Counts → List ℕ → Option Local → Wants
seat_wants_in m c seen None = wants.Take (c.taken + 1)
seat_wants_in m c seen (Some place) = seat_wants_by c seen (m.next place)

-- what the seat's thread wants: its next input, or the program's next move with the packet in hand
abbrev pub seat_wants : {V : Type 0} → Meaning V → Seated V → Wants
seat_wants m x = seat_wants_in m x.part.counts x.seen x.part.hand

-- whether what is wanted is a touch or a read
abbrev pub on_variable : Wants → Bool
on_variable (wants.Touch n v places) = true
on_variable (wants.Read n v places) = true
on_variable (wants.Take k) = false
on_variable (wants.Clock n) = false
on_variable (wants.Draw n) = false
on_variable wants.Emit = false
on_variable wants.End = false

-- the program's next move, by what is wanted: none where that is an input
abbrev pub next_by : Wants → Option Move
next_by (wants.Take k) = None
next_by (wants.Touch n v places) = Some (move.Access v)
next_by (wants.Read n v places) = Some (move.Read v)
next_by (wants.Clock n) = Some move.Clock
next_by (wants.Draw n) = Some move.Draw
next_by wants.Emit = Some move.Emit
next_by wants.End = Some move.End
