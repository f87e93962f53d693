use Rattle.std.proofs.Common.{◌≤◌, subst, arith}
use Rattle.system_parts.specs.Performing.{MovesOn}
use Rattle.system_images.specs.Building.{Turns}
use Rattle.system_images.proofs.BuildingLemmas.{turns_more}
use Rattle.system_images.proofs.building.turn_epochs.Goals as goal

pub turns-preserved : goal.turns-preserved
turns-preserved g c =
    turns_more g.P.Program.meaning c.turns.counter c.args.core.now c.turns.core c.turn.new.core c.turns.invariant
    c.in_ok-turn.ensures

pub returns : goal.returns
returns g c =
    let high = c.turns-test.false in
    let low = c.turns.auto.counter-end in
    subst (λ n. MovesOn (g.P.Program.meaning c.args.core.now.program) (Turns n) c.args.core.now c.turns.core)
    (omega (arith, high, low)) c.turns.invariant.moves
