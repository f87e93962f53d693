use Rattle.std.proofs.Common.{◌≡◌, ◌++◌, drop}
use Rattle.run_drawing.specs.Picture.{cells_from, moves_from}
use Rattle.run_drawing.proofs.moves.put_moves.Given as goal

-- with those that are left, all is drawn
abbrev pub invariant-loop-made : goal.invariant-loop-made
invariant-loop-made l = record {
  elements : l.out ++ moves_from l.scene.threads l.scene.line.now l.scene.several l.scene.gone.now l.scene.later.now
      l.column l.earlier.items (drop l.made-index l.made)
      ≡ l.fn.out ++ moves_from l.scene.threads l.scene.line.now l.scene.several l.scene.gone.now l.scene.later.now
      l.first l.fn.earlier.items l.made;
  cells : l.earlier.items ++ cells_from l.column (drop l.made-index l.made)
      ≡ l.fn.earlier.items ++ cells_from l.first l.made;
}
