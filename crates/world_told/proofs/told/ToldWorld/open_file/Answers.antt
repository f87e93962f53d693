use Rattle.std.proofs.Common.{◌≡◌, ◌∷◌, rules, subst, sym}
use Rattle.world_io.specs.World.{GivesOpened}
use Rattle.world_told.specs.declared.record.Call.TheVariants.{Opened}
use Rattle.world_told.specs.Ledgers.{told_ledger}
use Rattle.world_told.proofs.Made.{told_opens}
use Rattle.world_told.proofs.told.ToldWorld.open_file.Goals as goal

pub returns-clause-given : goal.returns-clause-given
returns-clause-given g c =
    let w = c.self.inside in
    let name = c.args.name.now in
    let file = c.in_ok-file.file in
    let noted : c.note.new.self.events ≡ (Opened file, name) ∷ w.calls.events = search rules in
    let opens = told_opens g.W.World.ledger w.inner c.open_file.new.self w.calls.events c.self.invariant name file
    c.in_ok-file.ensures.given in
    let here = subst (λ calls. GivesOpened name file
    (told_ledger g.W.World.ledger (record { world = w.inner; calls = w.calls.events }))
    (told_ledger g.W.World.ledger (record { world = c.open_file.new.self; calls = calls }))) (sym noted) opens in
    subst (λ t. GivesOpened name file (told_ledger g.W.World.ledger t)
    (told_ledger g.W.World.ledger (record { world = c.open_file.new.self; calls = c.note.new.self.events })))
    c.self.view_is here
