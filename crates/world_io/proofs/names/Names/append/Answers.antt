use Rattle.std.proofs.Common.{sym}
use Rattle.std.proofs.lemmas.Result.{on_ok_weaker}
use Rattle.world_io.proofs.NamesLemmas.{AppendsToName-none, AppendsToName-set}
use Rattle.world_io.proofs.names.Names.append.Goals as goal

pub returns-in-Some-clause-ok : goal.returns-in-Some-clause-ok
returns-in-Some-clause-ok c =
    let entries = c.self.inside.entries.items in
    let found = rw (← c.self.view_is) at c.in-Some.ensures in
    let made = AppendsToName-set entries c.args.name.now c.in-Some.place c.index_mut.result.now (sym found)
    c.index_mut.ensures.value c.args.bytes.now in
    rw (← c.self.view_is) (on_ok_weaker c.extend.result (λ e. rw e made) c.extend.ensures.ok)

pub returns-in-None-clause-ok : goal.returns-in-None-clause-ok
returns-in-None-clause-ok c =
    AppendsToName-none c.args.self.now c.args.name.now c.args.bytes.now (sym c.in-None.ensures)
