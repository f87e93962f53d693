use Rattle.std.proofs.Common.{◌≡◌, drop}
use Rattle.plain_machine.specs.Packed.{answers_before}
use Rattle.plain_machine.proofs.schedule.answers_before.Given as goal

-- the moves so far are told nothing
abbrev pub invariant-loop-packed : goal.invariant-loop-packed
invariant-loop-packed l = answers_before l.most (drop l.packed-index l.moves) ≡ answers_before l.most l.moves
