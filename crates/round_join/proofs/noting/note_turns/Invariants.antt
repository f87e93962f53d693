use Rattle.std.proofs.Common.{◌≡◌, true, List, reverse, drop}
use Rattle.recovery_world.specs.World.{Setting, World}
use Rattle.system_parts.specs.Resting.{RestsFor}
use Rattle.round_join.specs.declared.noting.Made.{Made}
use Rattle.round_join.specs.Drawing.{AreDrawn}
use Rattle.round_join.specs.Noting.{Pending}
use Rattle.round_join.proofs.NotingLemmas.{CanDraw, Went}
use Rattle.round_join.proofs.noting.note_turns.Given as goal

abbrev pub invariant-loop-turn : goal.invariant-loop-turn
invariant-loop-turn g l = record {
  program : l.rest.program ≡ l.fn.rest.program;
  can : CanDraw l.rest.sent.epoch l.rest.sent.threads l.moves.items (reverse (drop l.turn-index l.turns));
  went : (s : Setting g.row.P-Value.Denot) (w new : World g.row.P-Value.Denot) (drawn : List Made)
      → AreDrawn l.fn.moves.items (reverse l.fn.turns) drawn
      → RestsFor (g.P.Program.meaning l.fn.rest.program) s w l.fn.rest → w.up ≡ true → Pending s w drawn new
      → Went (g.P.Program.meaning l.fn.rest.program) s w l.moves.items (reverse (drop l.turn-index l.turns)) drawn new
      l.noted.items l.rest;
}
