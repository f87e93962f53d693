use Rattle.std.proofs.Common.{◌≡◌, ◌∙◌, sym, refl, true, false, arith}
use Rattle.nat_tables.specs.HostCounts.{row_is_of_host}
use Rattle.nat_tables.specs.Rows.{row_at}
use Rattle.nat_tables.proofs.HostLemmas.{idle_next, none_from, skips_to, none_past}
use Rattle.nat_tables.proofs.IdleLemmas.{idle_inside}
use Rattle.nat_tables.proofs.forward.first_idle_of.Goals as goal

pub returns-in_default-clause-first : goal.returns-in_default-clause-first
returns-in_default-clause-first c =
    let none = none_from c.args.key.now c.args.now c.args.slots.now c.loop-start.start c.in_default.ensures.first in
    sym none ∙ c.loop-start.invariant.1

pub returns-then-is_of_host-clause-first : goal.returns-then-is_of_host-clause-first
returns-then-is_of_host-clause-first c =
    let rows = c.args.slots.now in
    let at = c.in-Some.at in
    let first = c.in-Some.ensures.first in
    let of : row_is_of_host c.args.key.now (row_at rows at) ≡ true =
    rw (← c.row-row.ensures) (sym c.if-is_of_host.ensures) in
    let idle = first.idle in
    rw c.row-row.ensures
    (sym (sym c.loop-start.invariant.1 ∙ skips_to c.args.key.now c.args.now rows c.loop-start.start at first
    ∙ idle_next c.args.key.now c.args.now rows at ∙ (rw (of, idle) refl)))

pub overflow_add-start : goal.overflow_add-start
overflow_add-start c =
    let inside = idle_inside c.args.now c.args.slots.now c.in-Some.at c.in-Some.ensures.first.idle in
    let count = c.rows-rows.ensures.count in
    let fits = c.rows-rows.ensures.fits in omega arith

pub loop-start-preserved : goal.loop-start-preserved
loop-start-preserved c =
    let rows = c.args.slots.now in
    let at = c.in-Some.at in
    let first = c.in-Some.ensures.first in
    let of : row_is_of_host c.args.key.now (row_at rows at) ≡ false =
    rw (← c.row-row.ensures) (sym c.if-is_of_host.ensures) in (
      c.in-Some.ensures.live,
      sym (sym c.loop-start.invariant.1 ∙ skips_to c.args.key.now c.args.now rows c.loop-start.start at first
          ∙ idle_next c.args.key.now c.args.now rows at ∙ (rw of refl)),
    )

pub returns-clause-first : goal.returns-clause-first
returns-clause-first c =
    let count = c.rows-rows.ensures.count in
    sym (none_past c.args.key.now c.args.now c.args.slots.now c.loop-start.start (omega arith))
    ∙ c.loop-start.invariant.1
