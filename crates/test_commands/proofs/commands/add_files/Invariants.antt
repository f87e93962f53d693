use Rattle.std.proofs.Common.{◌≡◌, length}
use Rattle.test_commands.proofs.commands.add_files.Given as goal

-- no number is given
abbrev pub invariant-loop-name : goal.invariant-loop-name
invariant-loop-name l = length l.world.files ≡ length l.fn.world.files
