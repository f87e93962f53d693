use Rattle.std.proofs.Common.{◌≡◌, ◌+◌, ◌*◌, ◌≤◌, false}
use Rattle.box_program.specs.Hands.{FitsProgram, has_hand, moves_left}
use Rattle.plain_player.specs.Playing.{place_in_hand}
use Rattle.bench.proofs.moves.play_plainly.Given as goal

-- no packet is in hand, and each took at most 64 moves
abbrev pub invariant-loop-packet : goal.invariant-loop-packet
invariant-loop-packet g l = record {
  ended : has_hand (place_in_hand l.player 0) ≡ false;
  fits : FitsProgram (g.P.Program.meaning l.program) (g.P.Program.fits l.program) (λ value. value) l.player.values;
  within : l.player.made ≤ 64 * l.packet-index;
}

-- the moves left of the packet fall
abbrev pub invariant-moves : goal.invariant-moves
invariant-moves g l = record {
  fits : FitsProgram (g.P.Program.meaning l.program) (g.P.Program.fits l.program) (λ value. value) l.player.values;
  within : l.player.made + moves_left (g.P.Program.meaning l.program) (place_in_hand l.player 0)
      ≤ 64 * (l.packet-index + 1);
}

abbrev pub decreases-moves : goal.decreases-moves
decreases-moves g l = moves_left (g.P.Program.meaning l.program) (place_in_hand l.player 0)
