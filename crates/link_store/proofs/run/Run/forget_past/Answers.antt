use Rattle.std.proofs.Common.{◌+◌, arith}
use Rattle.std.proofs.Math.Nat.{min-le_left}
use Rattle.link_store.specs.Rows.{forms_of}
use Rattle.link_store.proofs.RunLemmas.{none_past, cuts_past, at_least_min, above_then}
use Rattle.link_store.proofs.run.Run.forget_past.Goals as goal

pub returns-then-not-is_beside : goal.returns-then-not-is_beside
returns-then-not-is_beside c =
    let s = c.self.inside in
    rw (← c.self.view_is) (none_past (forms_of s.frames) s.first c.args.last.now
    (λ beside. absurd (let is = c.is_beside.ensures.1 beside in let no = c.if-not-is_beside.true in cc)))

pub returns-in-Some : goal.returns-in-Some
returns-in-Some c =
    let s = c.self.inside in
    let beside = c.is_beside.ensures.0 c.if-not-is_beside.false in
    let behind = c.in-Some.ensures in
    let k = c.saturating_add.result in
    let most = min-le_left (c.in-Some.behind + 1) 18446744073709551615 in
    rw (← c.self.view_is, c.truncate.ensures) (cuts_past (forms_of s.frames) s.first c.args.last.now k beside
    (λ i low first. omega (arith, first, most, behind.0, behind.1, c.saturating_add.ensures))
    (λ i low high. let more = at_least_min (c.in-Some.behind + 1) 18446744073709551615 k i c.saturating_add.ensures high
    (omega (arith, low, c.len-count.ensures)) in omega (arith, more, behind.0, behind.1)))

pub returns-in-None : goal.returns-in-None
returns-in-None c =
    let s = c.self.inside in
    let beside = c.is_beside.ensures.0 c.if-not-is_beside.false in
    let above = c.in-None.ensures in
    rw (← c.self.view_is, c.truncate-in-None.ensures) (cuts_past (forms_of s.frames) s.first c.args.last.now 0 beside
    (λ i low first. absurd (omega (arith, first))) (λ i low high. above_then s.first.number c.args.last.now.number i above))
