use Rattle.std.proofs.Common.{◌∙◌, sym, refl}
use Rattle.nat_tables.specs.Rows.{present}
use Rattle.nat_tables.proofs.TableLemmas.{slot_found_by}
use Rattle.nat_tables.proofs.RowWords.{derived, stands_lookup, absent_lookup}
use Rattle.nat_tables.proofs.forward.Forward.slot_of.Goals as goal

pub returns-in-Some : goal.returns-in-Some
returns-in-Some c =
    rw (← c.self.view_is)
    (sym (stands_lookup derived c.args.key.now c.self.inside.slots c.in-Some.field-0-0 c.in-Some.slot c.in-Some.ensures)
    ∙ slot_found_by derived (λ a b. refl) c.args.key.now (present c.self.inside.slots))

pub returns-in-None : goal.returns-in-None
returns-in-None c =
    rw (← c.self.view_is)
    (sym (absent_lookup derived c.args.key.now c.self.inside.slots c.in-None.ensures)
    ∙ slot_found_by derived (λ a b. refl) c.args.key.now (present c.self.inside.slots))
