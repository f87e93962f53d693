use Rattle.std.proofs.Common.{◌∙◌, sym}
use Rattle.nat_tables.specs.Keys.{port_key, same_port}
use Rattle.nat_tables.specs.Rows.{present}
use Rattle.nat_tables.proofs.TableLemmas.{removed}
use Rattle.nat_tables.proofs.RowWords.{stands_removed, absent_removed}
use Rattle.nat_tables.proofs.reverse.Reverse.unbind.Goals as goal

pub returns-in-Some : goal.returns-in-Some
returns-in-Some c =
    let port = port_key c.args.protocol c.args.port in
    rw (c.clear.ensures, ← c.self.view_is)
    (sym (stands_removed same_port port c.self.inside.endpoints c.in-Some.at c.in-Some.field-0-1 c.in-Some.ensures)
    ∙ removed port (present c.self.inside.endpoints))

pub returns-in_default : goal.returns-in_default
returns-in_default c =
    let port = port_key c.args.protocol c.args.port in
    rw (← c.self.view_is)
    (sym (absent_removed same_port port c.self.inside.endpoints c.in_default.ensures)
    ∙ removed port (present c.self.inside.endpoints))
