use Rattle.std.proofs.Common.{arith}
use Rattle.nat_tables.specs.Times.{AreFrom, IsFirstBefore, ArePairs}
use Rattle.nat_tables.proofs.TimesLemmas.{next_pair, from_pairs, first_by_pair, left_inside, found_from}
use Rattle.nat_tables.proofs.times.Times.+first_before.Goals as goal

pub first_of-requires : goal.first_of-requires
first_of-requires t c =
    let are : ArePairs c.in-Of.pairs.value c.self.inside.times.items = rw c.in-Of.is at c.self.invariant in
    let first : IsFirstBefore (next_pair c.args.start) c.args.now c.in-Of.pairs.value c.in-Some.pair =
    rw c.deref.ensures at c.in-Some.ensures in
    left_inside (next_pair c.args.start) c.args.now c.in-Some.pair _ _ are first

pub returns-in-Some : goal.returns-in-Some
returns-in-Some t c =
    let are : ArePairs c.in-Of.pairs.value c.self.inside.times.items = rw c.in-Of.is at c.self.invariant in
    let first : IsFirstBefore (next_pair c.args.start) c.args.now c.in-Of.pairs.value c.in-Some.pair =
    rw c.deref.ensures at c.in-Some.ensures in
    rw (← c.self.view_is)
    (first_by_pair c.args.start c.args.now c.in-Some.pair c.first_of.result _ _ (omega arith) are
    (found_from c.args.now _ _ c.time_at.ensures c.if-time_at-now.false) first c.first_of.ensures.left
    c.first_of.ensures.right)

pub returns-in-None : goal.returns-in-None
returns-in-None t c =
    let are : ArePairs c.in-Of.pairs.value c.self.inside.times.items = rw c.in-Of.is at c.self.invariant in
    let none : AreFrom (next_pair c.args.start) c.args.now c.in-Of.pairs.value =
    rw c.deref.ensures at c.in-None.ensures in
    rw (← c.self.view_is)
    (from_pairs c.args.start c.args.now _ _ are
    (found_from c.args.now _ _ c.time_at.ensures c.if-time_at-now.false) none)
