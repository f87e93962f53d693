use Rattle.std.proofs.Common.{◌≡◌, ◌++◌, ◌∷◌, [], ◌∙◌, refl, ap, None}
use Rattle.nat_tables.specs.Forwards.{slot_of}
use Rattle.nat_tables.specs.Rows.{present}
use Rattle.nat_tables.proofs.TableLemmas.{slot_found_by}
use Rattle.nat_tables.proofs.RowLemmas.{present_more}
use Rattle.nat_tables.proofs.RowWords.{derived, absent_unfound}
use Rattle.nat_tables.proofs.IdleLemmas.{live_pushed}
use Rattle.nat_tables.proofs.forward.Forward.append.Goals as goal

pub push-requires : goal.push-requires
push-requires c =
    let rows = c.make_room.new.slots in
    let none : slot_of c.args.key.now (present c.self.inside.slots) ≡ None = rw (← c.self.view_is) at c.requires in
    absent_unfound derived c.args.key.now rows
    (slot_found_by derived (λ a b. refl) c.args.key.now (present rows) ∙ (rw c.in_ok-make_room.ensures.same none))

pub invariant_of-self-2 : goal.invariant_of-self-2
invariant_of-self-2 c =
    rw (c.set.ensures, c.in_ok-push.ensures.ok)
    (live_pushed _ _ c.rows-at.result c.live_until.result c.args.key.now c.args.slot c.in_ok-make_room.ensures.live
    c.in_ok-make_room.ensures.room c.rows-at.ensures.count c.live_until.ensures.live)

pub returns-clause-ok : goal.returns-clause-ok
returns-clause-ok c =
    rw (c.in_ok-push.ensures.ok, ← c.self.view_is)
    (present_more c.make_room.new.slots (c.args.key.now, c.args.slot)
    ∙ ap (λ es. es ++ (c.args.key.now, c.args.slot) ∷ []) c.in_ok-make_room.ensures.same)
