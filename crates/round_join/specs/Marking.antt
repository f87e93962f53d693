-- The marks of what the threads of a round did, by which it is woven.
use Rattle.std.specs.Prelude.{◌<◌, ◌^◌, All, List, [], ◌∷◌, map}
use Rattle.plain_machine.specs.Program.{Meaning}
use Rattle.plain_machine.specs.History.{Step}
use Rattle.master_core.specs.declared.step.Trace.{Trace}
use Rattle.master_core.specs.declared.step.Trace.TheVariants as trace
use Rattle.atomic_table.specs.Seated.{TableId}
use Rattle.replay_guide.specs.Orders.{weight_of}
use Rattle.round_order.specs.Turns.{AreMarksOf}
use Rattle.var_locks.specs.Seats.{Seated}
use Rattle.var_locks.specs.Closing.{AreSeats, seat_marks, receipts_of}

-- the weight of the entry that a move left, where it is logged, is a number of 64 bits
abbrev pub IsLight : Trace → Type 0
IsLight (trace.Took k) = Unit {0}
IsLight (trace.Did e) = weight_of e < 2 ^ 64
IsLight (trace.Emitted k) = Unit {0}
IsLight (trace.Ended k) = Unit {0}

-- so is the weight of each entry that a note of a seat left
abbrev pub AreLight : {V : Type 0} → List (Seated V) → Type 0
AreLight [] = Unit {0}
AreLight (x ∷ others) = All (λ n. IsLight n.trace) x.notes × AreLight others

-- Whatever the past, the marks of what the threads of these seats did are those of the receipts that their notes are.
abbrev pub SeatsHaveMarks : Type 0 → Type 0
SeatsHaveMarks X =
    (m : Meaning X) (past : List (Step X)) (round : TableId) (seats : List (Seated X)) → AreSeats round 0 seats
    → AreLight seats → AreMarksOf (receipts_of m past seats) (map seat_marks seats)
