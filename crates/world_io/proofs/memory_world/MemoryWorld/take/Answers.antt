use Rattle.std.proofs.Common.{sym, refl}
use Rattle.world_io.specs.Memory.{Memory}
use Rattle.world_io.proofs.MemoryLemmas.{Fills-passed}
use Rattle.world_io.proofs.memory_world.MemoryWorld.take.Goals as goal

pub returns-clause-fills : goal.returns-clause-fills
returns-clause-fills c =
    let passed = c.if-next_fails.ensures in
    let fill = c.fill.ensures in
    let w = c.self.inside in
    let old : Memory = record {
      names = w.names;
      files = w.files;
      opened_names = w.opened_names.items;
      report = w.report;
      reading = w.reading;
      writing = w.writing;
    } in
    rw (← c.self.view_is, passed.passed refl) (Fills-passed old c.args.file c.fill.result c.fill.new.piece
    c.fill.new.self (sym passed.fails) fill.never_fails fill.end fill.takes)
