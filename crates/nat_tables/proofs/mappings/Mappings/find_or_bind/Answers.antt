use Rattle.std.proofs.Common.{◌++◌, ◌∷◌, [], sym}
use Rattle.nat_tables.specs.Forwards.{kept_slot}
use Rattle.nat_tables.proofs.HostLemmas.{still_counts, as_many_used, one_more, bound_one_more}
use Rattle.nat_tables.proofs.mappings.Mappings.find_or_bind.Goals as goal

pub invariant_of-self : goal.invariant_of-self
invariant_of-self c =
    rw c.refresh.ensures
    (still_counts c.self.inside.counts c.self.inside.table _
    (as_many_used c.args.key.now c.args.now c.self.inside.table) c.self.invariant)

pub invariant_of-self-in-Ok : goal.invariant_of-self-in-Ok
invariant_of-self-in-Ok c =
    let es = c.self.inside.table in
    c.in_ok-raise.ensures.ok es c.find_or_bind.new.self
    (bound_one_more c.args.key.now c.args.port c.args.now es c.find_or_bind.new.self c.in-Ok.bind
    (sym c.in_default.ensures) c.in-Ok.ensures.ok) c.self.invariant

-- the count is put back
pub invariant_of-self-in-Err : goal.invariant_of-self-in-Err
invariant_of-self-in-Err c =
    let es = c.self.inside.table in
    let key = c.args.key.now in
    let more = one_more key (kept_slot c.args.port) es in
    rw c.in-Err.ensures.err
    (c.lower.ensures es (es ++ (key, kept_slot c.args.port) ∷ []) more
    (c.in_ok-raise.ensures.ok es (es ++ (key, kept_slot c.args.port) ∷ []) more c.self.invariant))
