use Rattle.std.proofs.Common.{◌++◌, ◌∷◌, [], ◌∙◌, sym, ap}
use Rattle.nat_tables.specs.Keys.{port_key, same_port}
use Rattle.nat_tables.specs.Rows.{present}
use Rattle.nat_tables.proofs.TableLemmas.{inserted}
use Rattle.nat_tables.proofs.RowLemmas.{present_more}
use Rattle.nat_tables.proofs.RowWords.{stands_inserted, absent_lookup, absent_unfound, absent_inserted}
use Rattle.nat_tables.proofs.reverse.Reverse.bind.Goals as goal

pub returns-in-Some-clause-ok : goal.returns-in-Some-clause-ok
returns-in-Some-clause-ok c =
    let port = port_key c.args.protocol c.args.port in
    let rows = c.self.inside.endpoints in
    let stands = c.in-Some.ensures in
    rw (c.put.ensures (stands.own, c.in-Some.field-0-1) stands.row, ← c.self.view_is) (sym (stands_inserted same_port
    port rows c.in-Some.at c.in-Some.field-0-1 c.args.key.now stands.own stands stands.row)
    ∙ inserted port c.args.key.now (present rows))

pub push-requires : goal.push-requires
push-requires c =
    let port = port_key c.args.protocol c.args.port in
    absent_unfound same_port port c.sweep.new.endpoints
    (rw c.in_ok-sweep.ensures (absent_lookup same_port port c.self.inside.endpoints c.in_default.ensures))

pub returns-clause-ok : goal.returns-clause-ok
returns-clause-ok c =
    let port = port_key c.args.protocol c.args.port in
    let rows = c.self.inside.endpoints in
    rw (c.in_ok-push.ensures.ok, ← c.self.view_is)
    (present_more c.sweep.new.endpoints (port, c.args.key.now)
    ∙ ap (λ bs. bs ++ (port, c.args.key.now) ∷ []) c.in_ok-sweep.ensures
    ∙ sym (absent_inserted same_port port rows c.args.key.now c.in_default.ensures)
    ∙ inserted port c.args.key.now (present rows))
