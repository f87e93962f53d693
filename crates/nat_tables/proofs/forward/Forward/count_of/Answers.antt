use Rattle.std.proofs.Common.{◌≡◌, ◌∙◌, sym, true, false, arith}
use Rattle.nat_tables.specs.HostCounts.{row_is_of_host}
use Rattle.nat_tables.specs.Rows.{row_at}
use Rattle.nat_tables.proofs.HostLemmas.{counted_next}
use Rattle.nat_tables.proofs.forward.Forward.count_of.Goals as goal
use Rattle.nat_tables.proofs.forward.Forward.count_of.Goals.{then-is_of_host, else-is_of_host}

pub loop-at-preserved : goal.loop-at-preserved
loop-at-preserved c =
    let next = counted_next c.args.key.now c.self.inside.slots c.loop-at.at in
    let so = c.loop-at.invariant.0 in
    let few = c.loop-at.invariant.1 in
    elim c.if-is_of_host.branch [
      | then-is_of_host w ↦
          let of : row_is_of_host c.args.key.now (row_at c.self.inside.slots c.loop-at.at) ≡ true =
          rw (← c.row.ensures) (sym c.is_of_host.ensures ∙ w.if-is_of_host.true) in
          let one = rw of at next in
          let is = w.count-is in (omega arith, omega arith)
      | else-is_of_host w ↦
          let of : row_is_of_host c.args.key.now (row_at c.self.inside.slots c.loop-at.at) ≡ false =
          rw (← c.row.ensures) (sym c.is_of_host.ensures ∙ w.if-is_of_host.false) in
          let none = rw of at next in
          let is = w.count-is in (omega arith, omega arith)
    ]
