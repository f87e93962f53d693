use Rattle.std.proofs.Common.{◌∙◌, sym, ap, subst}
use Rattle.std.specs.Str.{bytes_eq}
use Rattle.release_taps.specs.Mirrored.{IsMirroring}
use Rattle.release_taps.proofs.Mirroring.{mirroring-create}
use Rattle.release_taps.proofs.tap_world.TapWorldWorld.create_file.Goals as goal

pub invariant_of-self-clause-mirrors : goal.invariant_of-self-clause-mirrors
invariant_of-self-clause-mirrors g c =
    let named = c.eq-named.ensures ∙ ap (λ n. bytes_eq n c.as_str-2.result.now) c.as_str.ensures
    ∙ ap (bytes_eq c.args.name.now) c.as_str-2.ensures in
    subst (λ m.
    IsMirroring g.W.World.honest g.W.World.shows g.W.World.ledger g.T.Tap.tells g.T.Tap.seen g.T.Tap.fault_count
    g.T.Tap.lack_count c.args.self.now.name m c.create_file-created.new.self c.args.self.now.seats.items)
    (sym c.first_created-self.ensures)
    (mirroring-create _ _ _ _ _ _ _ _ c.args.self.now.mirrored _ _ c.create_file-created.ensures.before _
    c.args.name.now _ _ c.args.self.now.mirrors named c.create_file-created.ensures.given
    c.create_file-created.ensures.not_given c.create_file-created.ensures.shows c.create_file-created.ensures.shows_err)
