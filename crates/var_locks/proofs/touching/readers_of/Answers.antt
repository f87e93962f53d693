use Rattle.std.proofs.Common.{sym, ap, ◌∙◌, ◌∷◌}
use Rattle.atomic_table.specs.Table.{rest}
use Rattle.var_locks.proofs.touching.readers_of.Goals as goal

pub slot_mut-slot-requires : goal.slot_mut-slot-requires
slot_mut-slot-requires g c =
    let h = c.requires.slot in (c.requires.table, (h.0, h.1 ∙ ap (λ l. (c.args.var, h.0) ∷ l) (sym (ap rest h.1))))
