use Rattle.std.proofs.Common.{◌∙◌, sym}
use Rattle.nat_tables.specs.Keys.{port_key, same_port}
use Rattle.nat_tables.specs.Rows.{present}
use Rattle.nat_tables.proofs.TableLemmas.{looked_up}
use Rattle.nat_tables.proofs.RowWords.{stands_lookup, absent_lookup}
use Rattle.nat_tables.proofs.reverse.Reverse.find.Goals as goal

pub returns-in-Some : goal.returns-in-Some
returns-in-Some c =
    let port = port_key c.args.protocol c.args.port in
    rw (← c.self.view_is)
    (sym (stands_lookup same_port port c.self.inside.endpoints c.in-Some.field-0-0 c.in-Some.key c.in-Some.ensures)
    ∙ looked_up port (present c.self.inside.endpoints))

pub returns-in-None : goal.returns-in-None
returns-in-None c =
    let port = port_key c.args.protocol c.args.port in
    rw (← c.self.view_is)
    (sym (absent_lookup same_port port c.self.inside.endpoints c.in-None.ensures)
    ∙ looked_up port (present c.self.inside.endpoints))
