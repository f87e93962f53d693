use Rattle.std.proofs.Common.{◌≡◌, ℕ, sym, ap, ◌∙◌, subst, List, [], ◌∷◌, Result, Ok, Err}
use Rattle.std.specs.Prelude.{IfOk}
use Rattle.plain_text.specs.declared.memory.NoMemory.{NoMemory}
use Rattle.access_log.specs.declared.entry.StampedEntry.{StampedEntry}
use Rattle.master_core.specs.declared.parts.VarPart.{VarPart}
use Rattle.var_locks.specs.TouchedParts.{Works, WorksBy}
use Rattle.var_locks.proofs.SlotLists.{first_same}
use Rattle.atomic_table.specs.Table.{rest}
use Rattle.var_locks.proofs.touching.work.Goals as goal

pub slot_mut-slot-requires : goal.slot_mut-slot-requires
slot_mut-slot-requires g c =
    let h = c.requires.slot in
    (c.requires.table, (h.0, h.1 ∙ ap (λ l. (c.args.access.var, h.0) ∷ l) (sym (ap rest h.1))))

pub returns-clause-worked : goal.returns-clause-worked
returns-clause-worked g c = go c.work_in.result c.work_in.ensures.worked
  where
    go : (r : Result StampedEntry NoMemory)
        → IfOk r (λ e.
        WorksBy (g.P.Program.meaning c.args.program.now) c.args.access.thread c.args.access.var c.args.access.read
        c.args.access.place c.args.part.now c.work_in.new.part e c.slot.inside.part c.work_in.new.slot)
        → IfOk r (λ e.
        (x : VarPart g.row.P-Value.Denot) → c.args.token.now.me.1 ≡ (c.args.access.var, x) ∷ []
        → Works (g.P.Program.meaning c.args.program.now) c.args.access c.args.part.now c.work_in.new.part e x
        ((c.args.access.var, c.work_in.new.slot) ∷ rest c.args.token.now.me.1))
    go (Err none) done = tt
    go (Ok e) done = λ x is.
        let same : (c.args.access.var, c.slot_mut-slot.result.now) ∷ rest c.args.token.now.me.1
        ≡ (c.args.access.var, x) ∷ [] =
        sym c.slot_mut-slot.ensures.value ∙ is in (
          c.work_in.new.slot,
          ap (λ (l : List (ℕ × VarPart g.row.P-Value.Denot)). (c.args.access.var, c.work_in.new.slot) ∷ rest l) is,
          subst (λ (z : VarPart g.row.P-Value.Denot).
              WorksBy (g.P.Program.meaning c.args.program.now) c.args.access.thread c.args.access.var c.args.access.read
              c.args.access.place c.args.part.now c.work_in.new.part e z c.work_in.new.slot)
              (c.slot.view_is ∙ first_same same) done,
        )
