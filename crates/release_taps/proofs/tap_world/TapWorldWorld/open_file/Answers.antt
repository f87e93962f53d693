use Rattle.release_taps.proofs.Mirroring.{mirroring-open}
use Rattle.release_taps.proofs.tap_world.TapWorldWorld.open_file.Goals as goal

pub invariant_of-self-clause-mirrors : goal.invariant_of-self-clause-mirrors
invariant_of-self-clause-mirrors g c =
    mirroring-open _ _ _ _ _ _ _ _ _ _ _ c.open_file.ensures.before _ c.args.self.now.mirrors
    c.args.name.now c.open_file.result c.open_file.ensures.given c.open_file.ensures.not_given c.open_file.ensures.shows
    c.open_file.ensures.shows_err
