use Rattle.std.proofs.Common.{◌≡◌, length}
use Rattle.plain_player.specs.Hands.{HasValues}
use Rattle.plain_player.proofs.player.fresh_values.Given as goal

-- the first variables have their fresh values
abbrev pub invariant-loop-var : goal.invariant-loop-var
invariant-loop-var g l = record {
  count : length l.values.items ≡ l.var;
  fresh : HasValues l.var l.values.items (g.P.Program.meaning l.program).fresh;
}
