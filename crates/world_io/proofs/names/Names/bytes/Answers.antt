use Rattle.std.proofs.Common.{sym}
use Rattle.world_io.proofs.NamesLemmas.{bytes_under-none, bytes_under-found}
use Rattle.world_io.proofs.names.Names.bytes.Goals as goal

pub returns-in-Some : goal.returns-in-Some
returns-in-Some c =
    let found = rw (← c.self.view_is) at c.in-Some.ensures in
    let e = bytes_under-found c.self.inside.entries.items c.args.name.now c.in-Some.place c.index.result.now (sym found)
    c.index.ensures in
    cc

pub returns-in-None : goal.returns-in-None
returns-in-None c = sym (bytes_under-none c.args.self.now c.args.name.now (sym c.in-None.ensures))
