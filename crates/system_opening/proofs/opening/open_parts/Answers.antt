use Rattle.std.proofs.Common.{arith, refl, ◌∙◌}
use Rattle.system_opening.proofs.OpeningLemmas.{opening_stands, opening_are_parts}
use Rattle.system_opening.proofs.opening.open_parts.Goals as goal

pub invariant_of-result : goal.invariant_of-result
invariant_of-result g c =
    let inputs = rw c.in-Ok-Ok-Ok-Ok-Ok.is-0 at c.new.ensures in
    let sent = rw c.in-Ok-Ok-Ok-Ok-Ok.is-1 at c.new-2.ensures in
    let logger = rw c.in-Ok-Ok-Ok-Ok-Ok.is-2 at c.new-3.ensures in
    let stands = rw c.in-Ok-Ok-Ok-Ok-Ok.is-3 at c.fresh.ensures.stands in
    let fits = rw c.in-Ok-Ok-Ok-Ok-Ok.is-3 at c.fresh.ensures.fits in
    let fresh = rw c.in-Ok-Ok-Ok-Ok-Ok.is-4 at c.new-4.ensures.fresh in
    let moves = rw c.in-Ok-Ok-Ok-Ok-Ok.is-4 at c.new-4.ensures.moves in
    let none = rw c.in-Ok-Ok-Ok-Ok-Ok.is-4 at c.new-4.ensures.no_copy in
    let kept = rw c.in-Ok-Ok-Ok-Ok-Ok.is-4 at c.new-4.ensures.fits in
    opening_are_parts (g.P.Program.meaning c.args.program) (g.P.Program.fits c.args.program) c.args.threads
    c.args.tags c.args.packets _ c.requires.some_threads c.requires.few_threads c.requires.short
    fits (c.from_vec-left.ensures.items ∙ c.into_vec.ensures) inputs stands refl refl sent logger
    (record { stands = fresh; moves = moves; none = none }) kept (omega arith)

pub returns-clause-stands : goal.returns-clause-stands
returns-clause-stands g c =
    let inputs = rw c.in-Ok-Ok-Ok-Ok-Ok.is-0 at c.new.ensures in
    let sent = rw c.in-Ok-Ok-Ok-Ok-Ok.is-1 at c.new-2.ensures in
    let logger = rw c.in-Ok-Ok-Ok-Ok-Ok.is-2 at c.new-3.ensures in
    let stands = rw c.in-Ok-Ok-Ok-Ok-Ok.is-3 at c.fresh.ensures.stands in
    let fresh = rw c.in-Ok-Ok-Ok-Ok-Ok.is-4 at c.new-4.ensures.fresh in
    let moves = rw c.in-Ok-Ok-Ok-Ok-Ok.is-4 at c.new-4.ensures.moves in
    let none = rw c.in-Ok-Ok-Ok-Ok-Ok.is-4 at c.new-4.ensures.no_copy in
    opening_stands (g.P.Program.meaning c.args.program) c.args.threads c.args.seed c.args.tags c.args.unit
    c.args.packets _
    refl refl c.words_behind.ensures
    (c.from_vec-left.ensures.items ∙ c.into_vec.ensures)
    inputs refl stands c.new-5.ensures c.none.ensures (record { stands = fresh; moves = moves; none = none })
    c.new-6.ensures.items refl refl sent logger c.new-7.ensures
