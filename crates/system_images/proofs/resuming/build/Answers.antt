use Rattle.std.proofs.Common.{◌-◌, ◌+◌, arith}
use Rattle.std.proofs.lemmas.Result.{IfOk-weaker}
use Rattle.system_images.specs.Building.{MakesAll, StoresAll, Turns}
use Rattle.system_images.proofs.BuildingLemmas.{builds, builds_wrong, some_then}
use Rattle.system_images.proofs.resuming.build.Goals as goal

pub make_moves-requires-clause-stands : goal.make_moves-requires-clause-stands
make_moves-requires-clause-stands g c κs within =
    some_then g.P.Program.meaning (Turns (c.args.image.now.epoch - 1)) c.args.core.now c.turn_epochs.new.core
    c.in_ok-turn_epochs.ensures c.requires.stands

pub store_all-requires-clause-stands : goal.store_all-requires-clause-stands
store_all-requires-clause-stands g c κs within =
    some_then g.P.Program.meaning (MakesAll c.args.image.now.past) c.turn_epochs.new.core c.make_moves.new.core
    c.in_ok-make_moves.ensures
    (some_then g.P.Program.meaning (Turns (c.args.image.now.epoch - 1)) c.args.core.now c.turn_epochs.new.core
    c.in_ok-turn_epochs.ensures c.requires.stands)

pub release_all-requires-clause-stands : goal.release_all-requires-clause-stands
release_all-requires-clause-stands g c κs within =
    some_then g.P.Program.meaning StoresAll c.make_moves.new.core c.store_all.new.core c.in_ok-store_all.ensures
    (some_then g.P.Program.meaning (MakesAll c.args.image.now.past) c.turn_epochs.new.core c.make_moves.new.core
    c.in_ok-make_moves.ensures
    (some_then g.P.Program.meaning (Turns (c.args.image.now.epoch - 1)) c.args.core.now c.turn_epochs.new.core
    c.in_ok-turn_epochs.ensures c.requires.stands))

pub returns-clause-good : goal.returns-clause-good
returns-clause-good g c =
    let low = c.requires.epochs in
    IfOk-weaker c.release_all.result _ _
    (λ _ z. builds g.P.Program.meaning c.args.image.now (c.args.image.now.epoch - 1) c.args.core.now
    c.turn_epochs.new.core c.make_moves.new.core c.store_all.new.core c.release_all.new.core (omega (arith, low))
    c.in_ok-turn_epochs.ensures c.in_ok-make_moves.ensures c.in_ok-store_all.ensures z) c.release_all.ensures.good

pub returns-clause-faults : goal.returns-clause-faults
returns-clause-faults g c = λ error is s w st played h.
    let low = c.requires.epochs in
    builds_wrong g.P.Program.meaning c.args.image.now (c.args.image.now.epoch - 1) c.args.core.now
    c.turn_epochs.new.core c.make_moves.new.core c.store_all.new.core (omega (arith, low))
    c.in_ok-turn_epochs.ensures c.in_ok-make_moves.ensures c.in_ok-store_all.ensures error
    (c.release_all.ensures.faults error is) s w st played h
