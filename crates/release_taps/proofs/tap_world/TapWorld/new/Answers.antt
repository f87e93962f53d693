use Rattle.std.proofs.Common.{◌∙◌, ap}
use Rattle.release_taps.specs.Seats.{labels_of}
use Rattle.release_taps.proofs.Mirroring.{mirroring-new}
use Rattle.release_taps.proofs.Showing.{labels-seated}
use Rattle.release_taps.proofs.tap_world.TapWorld.new.Goals as goal

pub invariant_of-result-clause-mirrors : goal.invariant_of-result-clause-mirrors
invariant_of-result-clause-mirrors g c =
    mirroring-new _ _ _ _ _ _ _ _ c.args.world c.args.taps.items c.in-Ok.seats.items c.requires.new_world
    c.requires.fresh c.in-Ok.ensures

pub invariant_of-result-clause-same_labels : goal.invariant_of-result-clause-same_labels
invariant_of-result-clause-same_labels g c =
    ap (labels_of g.T.Tap.label) c.in-Ok.ensures ∙ labels-seated g.T.Tap.label c.args.taps.items ∙ c.requires.labels
