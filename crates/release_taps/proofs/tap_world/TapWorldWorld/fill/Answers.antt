use Rattle.release_taps.proofs.Mirroring.{mirroring-same}
use Rattle.release_taps.proofs.tap_world.TapWorldWorld.fill.Goals as goal

pub invariant_of-self-clause-mirrors : goal.invariant_of-self-clause-mirrors
invariant_of-self-clause-mirrors g c =
    mirroring-same _ _ _ _ _ _ _ _ _ _ _ c.fill.ensures.before _ c.args.self.now.mirrors
    c.fill.ensures.reads_on.ledger.created (λ p h. (c.fill.ensures.shows p h).name_of)
    (λ p h. (c.fill.ensures.shows p h).sent)
