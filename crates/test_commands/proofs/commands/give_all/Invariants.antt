use Rattle.std.proofs.Common.{◌*◌, ◌≤◌, length}
use Rattle.test_commands.proofs.commands.give_all.Given as goal

-- each command gives eight numbers at most
abbrev pub invariant-loop-place : goal.invariant-loop-place
invariant-loop-place l = length l.world.files ≤ 8 * l.place
