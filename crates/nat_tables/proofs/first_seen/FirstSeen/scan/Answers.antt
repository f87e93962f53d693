use Rattle.std.proofs.Common.{◌≡◌, ◌∙◌, sym, ap, arith}
use Rattle.nat_tables.proofs.RowLemmas.{others_next, others_all, stands_here}
use Rattle.nat_tables.proofs.first_seen.FirstSeen.scan.Goals as goal
use Rattle.nat_tables.proofs.first_seen.FirstSeen.scan.Goals.{in-Some+else-eq, in_default}

pub loop-at-init : goal.loop-at-init
loop-at-init g c = λ k entry less is. absurd (omega (arith, less))

pub loop-at-preserved : goal.loop-at-preserved
loop-at-preserved g c =
    elim c.match-row.branch [
      | in-Some+else-eq w ↦
          others_next g.K.PartialEq.eq c.args.key.now c.args.self.now c.loop-at.at c.loop-at.invariant
          (λ entry is.
          let same : w.in-Some.entry ≡ entry =
          (let read = c.row.ensures in let some = w.in-Some.is in cc) in
          ap (λ e. g.K.PartialEq.eq c.args.key.now e.0) (sym same) ∙ sym w.if-eq.ensures)
      | in_default w ↦
          others_next g.K.PartialEq.eq c.args.key.now c.args.self.now c.loop-at.at c.loop-at.invariant
          (λ entry is. absurd (let read = c.row.ensures in let none = w.in_default.is in cc))
    ]

pub returns-then-eq : goal.returns-then-eq
returns-then-eq g c =
    stands_here g.K.PartialEq.eq c.args.key.now c.args.self.now c.loop-at.at c.in-Some.entry.0 c.in-Some.entry.1
    c.loop-at.invariant (sym c.row.ensures ∙ c.in-Some.is) (sym c.if-eq.ensures)

pub returns : goal.returns
returns g c =
    others_all g.K.PartialEq.eq c.args.key.now c.args.self.now c.loop-at.at
    (let count = c.rows-at-end.ensures.count in omega (arith, count)) c.loop-at.invariant
