use Rattle.std.proofs.Common.{◌∙◌, sym, refl}
use Rattle.nat_tables.specs.Rows.{present}
use Rattle.nat_tables.proofs.TableLemmas.{taken_out_by}
use Rattle.nat_tables.proofs.RowWords.{derived, stands_removed, absent_removed}
use Rattle.nat_tables.proofs.forward.Forward.remove.Goals as goal

pub returns-in-Some : goal.returns-in-Some
returns-in-Some c =
    rw (c.clear.ensures, ← c.self.view_is)
    (sym (stands_removed derived c.args.key.now c.self.inside.slots c.in-Some.at c.in-Some.field-0-1 c.in-Some.ensures)
    ∙ taken_out_by derived (λ a b. refl) c.args.key.now (present c.self.inside.slots))

pub returns-in_default : goal.returns-in_default
returns-in_default c =
    rw (← c.self.view_is)
    (sym (absent_removed derived c.args.key.now c.self.inside.slots c.in_default.ensures)
    ∙ taken_out_by derived (λ a b. refl) c.args.key.now (present c.self.inside.slots))
