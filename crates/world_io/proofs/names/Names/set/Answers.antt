use Rattle.std.proofs.Common.{sym}
use Rattle.world_io.proofs.NamesLemmas.{SetsName-set, SetsName-push}
use Rattle.world_io.proofs.names.Names.set.Goals as goal

pub returns-in-Some-clause-ok : goal.returns-in-Some-clause-ok
returns-in-Some-clause-ok c =
    let found = rw (c.as_str.ensures, ← c.self.view_is) at c.in-Some.ensures in
    rw (← c.self.view_is) (SetsName-set c.self.inside.entries.items c.args.name.now c.in-Some.place
    c.index_mut.result.now (sym found) c.index_mut.ensures.value c.args.bytes)

pub returns-in_ok-push-in-None-clause-ok : goal.returns-in_ok-push-in-None-clause-ok
returns-in_ok-push-in-None-clause-ok c =
    let none = rw c.as_str.ensures at c.in-None.ensures in
    rw (c.in_ok-push-in-None.ensures.items, c.self.view_is, c.in_ok-name-in-None.ensures, c.as_str-in-None.ensures)
    (SetsName-push c.args.self.now c.args.name.now c.args.bytes (sym none))
