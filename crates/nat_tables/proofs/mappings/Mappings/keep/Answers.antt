use Rattle.std.proofs.Common.{◌++◌, ◌∷◌, [], sym}
use Rattle.nat_tables.specs.Forwards.{kept_slot}
use Rattle.nat_tables.proofs.HostLemmas.{one_more, kept_one_more}
use Rattle.nat_tables.proofs.mappings.Mappings.keep.Goals as goal

pub invariant_of-self-in-Ok : goal.invariant_of-self-in-Ok
invariant_of-self-in-Ok c =
    let es = c.self.inside.table in
    c.in_ok-raise.ensures.ok es c.keep.new.self
    (kept_one_more c.args.key.now c.args.port es c.keep.new.self (sym c.in_default.ensures) c.in-Ok.ensures.ok)
    c.self.invariant

-- the count is put back
pub invariant_of-self-in-Err : goal.invariant_of-self-in-Err
invariant_of-self-in-Err c =
    let es = c.self.inside.table in
    let key = c.args.key.now in
    let more = one_more key (kept_slot c.args.port) es in
    rw c.in-Err.ensures.err
    (c.lower.ensures es (es ++ (key, kept_slot c.args.port) ∷ []) more
    (c.in_ok-raise.ensures.ok es (es ++ (key, kept_slot c.args.port) ∷ []) more c.self.invariant))
