use Rattle.std.proofs.Common.{◌≡◌, ◌∙◌, sym, refl, Some}
use Rattle.nat_tables.specs.Forwards.{slot_of, refreshed}
use Rattle.nat_tables.specs.Rows.{present}
use Rattle.nat_tables.proofs.TableLemmas.{used_by, slot_found_by}
use Rattle.nat_tables.proofs.IdleLemmas.{live_refreshed, unused}
use Rattle.nat_tables.proofs.RowWords.{derived, stands_inserted, stands_lookup, absent_lookup}
use Rattle.nat_tables.proofs.forward.Forward.refresh.Goals as goal

pub invariant_of-self : goal.invariant_of-self
invariant_of-self c =
    let stands = c.in-Some.ensures in
    rw (c.put.ensures (stands.own, c.in-Some.slot) stands.row, c.refreshed.ensures)
    (live_refreshed _ _ c.in-Some.at c.args.now stands.own c.in-Some.slot c.self.invariant stands.row)

pub returns-in-Some : goal.returns-in-Some
returns-in-Some c =
    let rows = c.self.inside.slots in
    let stands = c.in-Some.ensures in
    let there : slot_of c.args.key.now (present rows) ≡ Some c.in-Some.slot =
    sym (slot_found_by derived (λ a b. refl) c.args.key.now (present rows))
    ∙ stands_lookup derived c.args.key.now rows c.in-Some.at c.in-Some.slot stands in
    rw (c.put.ensures (stands.own, c.in-Some.slot) stands.row, c.refreshed.ensures, ← c.self.view_is)
    (sym (stands_inserted derived c.args.key.now rows c.in-Some.at c.in-Some.slot (refreshed c.args.now c.in-Some.slot)
    stands.own stands stands.row)
    ∙ used_by derived (λ a b. refl) c.args.key.now c.args.now c.in-Some.slot (present rows) there)

pub returns-in_default : goal.returns-in_default
returns-in_default c =
    let rows = c.self.inside.slots in
    rw (← c.self.view_is)
    (unused c.args.key.now c.args.now (present rows)
    (sym (slot_found_by derived (λ a b. refl) c.args.key.now (present rows))
    ∙ absent_lookup derived c.args.key.now rows c.in_default.ensures))
