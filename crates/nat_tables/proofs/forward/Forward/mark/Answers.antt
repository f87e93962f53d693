use Rattle.std.proofs.Common.{◌≡◌, ◌∙◌, sym, refl, subst, Some}
use Rattle.nat_tables.specs.declared.entries.Endpoint.{Endpoint}
use Rattle.nat_tables.specs.Forwards.{slot_of, marked}
use Rattle.nat_tables.specs.Idling.{IsLiveUntil}
use Rattle.nat_tables.specs.Rows.{present}
use Rattle.nat_tables.proofs.TableLemmas.{noted_by, slot_found_by, same_by}
use Rattle.nat_tables.proofs.IdleLemmas.{live_marked, unmarked}
use Rattle.nat_tables.proofs.RowWords.{derived, stands_inserted, stands_lookup, absent_lookup}
use Rattle.nat_tables.proofs.forward.Forward.mark.Goals as goal

pub invariant_of-self : goal.invariant_of-self
invariant_of-self c =
    let stands = c.in-Some.ensures in
    let own : c.args.key.now ≡ stands.own = same_by derived (λ a b. refl) c.args.key.now stands.own stands.same in
    let live : IsLiveUntil c.live_until.result (Some (c.args.key.now, c.marked-marked.result)) =
    c.live_until.ensures.live in
    rw (c.note.ensures, c.put.ensures (stands.own, c.in-Some.slot) stands.row)
    (live_marked _ _ c.in-Some.at _ (Some (stands.own, c.marked-marked.result)) c.self.invariant
    (subst (λ (x : Endpoint). IsLiveUntil c.live_until.result (Some (x, c.marked-marked.result))) own live))

pub returns-in-Some : goal.returns-in-Some
returns-in-Some c =
    let rows = c.self.inside.slots in
    let stands = c.in-Some.ensures in
    let there : slot_of c.args.key.now (present rows) ≡ Some c.in-Some.slot =
    sym (slot_found_by derived (λ a b. refl) c.args.key.now (present rows))
    ∙ stands_lookup derived c.args.key.now rows c.in-Some.at c.in-Some.slot stands in
    rw (c.put.ensures (stands.own, c.in-Some.slot) stands.row, c.marked-marked.ensures, ← c.self.view_is)
    (sym (stands_inserted derived c.args.key.now rows c.in-Some.at c.in-Some.slot
    (marked c.args.seconds c.args.segment c.in-Some.slot) stands.own stands stands.row)
    ∙ noted_by derived (λ a b. refl) c.args.key.now c.args.seconds c.args.segment c.in-Some.slot (present rows) there)

pub returns-in_default : goal.returns-in_default
returns-in_default c =
    let rows = c.self.inside.slots in
    rw (← c.self.view_is)
    (unmarked c.args.key.now c.args.seconds c.args.segment (present rows)
    (sym (slot_found_by derived (λ a b. refl) c.args.key.now (present rows))
    ∙ absent_lookup derived c.args.key.now rows c.in_default.ensures))
