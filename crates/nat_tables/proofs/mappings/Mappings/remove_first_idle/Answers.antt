use Rattle.std.proofs.Common.{◌∙◌, ap, sym}
use Rattle.nat_tables.proofs.HostLemmas.{fewer_taken}
use Rattle.nat_tables.proofs.mappings.Mappings.remove_first_idle.Goals as goal

pub invariant_of-self-2 : goal.invariant_of-self-2
invariant_of-self-2 c =
    let es = c.self.inside.table in
    let fs = c.take_first_idle.new.self in
    c.lower.ensures fs es
    (fewer_taken c.args.now (c.in_ok-key.key, c.in_ok-key.slot) es fs
    (ap (λ taken. (taken, fs)) (sym c.in_ok-key.was) ∙ c.take_first_idle.ensures)) c.self.invariant
