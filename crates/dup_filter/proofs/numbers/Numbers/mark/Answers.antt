use Rattle.std.proofs.Common.{true}
use Rattle.dup_filter.specs.Numbers.{Numbers, Marks}
use Rattle.dup_filter.proofs.NumberLemmas.{Puts, puts, marks, greatest_after}
use Rattle.dup_filter.proofs.numbers.Numbers.mark.Goals as goal

pub invariant_of-self-2 : goal.invariant_of-self-2
invariant_of-self-2 c =
    let s = c.self.inside in
    let old : Numbers = record { floor = s.floor; above = s.above.entries } in
    let put : Numbers = record { floor = s.floor; above = c.insert.new.self.entries } in
    let new : Numbers = record { floor = c.raise-self-inside.result; above = c.raise-self-inside.new.above.entries } in
    let p : Puts old put c.args.number true =
    puts s.floor s.above.entries c.insert.new.self.entries c.args.number true c.in_ok-insert.ensures.updates.0 in
    let m : Marks old new c.args.number =
    marks old put new c.args.number p c.raise-self-inside.ensures.marked c.raise-self-inside.ensures.room in
    rw c.max-self-inside-2.ensures (record {
      past = c.raise-self-inside.ensures.past;
      tight = c.raise-self-inside.ensures.tight;
      greatest = greatest_after old new s.greatest c.args.number c.self.invariant.greatest m;
    })

pub returns-clause-ok : goal.returns-clause-ok
returns-clause-ok c =
    let s = c.self.inside in
    let old : Numbers = record { floor = s.floor; above = s.above.entries } in
    let put : Numbers = record { floor = s.floor; above = c.insert.new.self.entries } in
    let new : Numbers = record { floor = c.raise-self-inside.result; above = c.raise-self-inside.new.above.entries } in
    let p : Puts old put c.args.number true =
    puts s.floor s.above.entries c.insert.new.self.entries c.args.number true c.in_ok-insert.ensures.updates.0 in
    let m : Marks old new c.args.number =
    marks old put new c.args.number p c.raise-self-inside.ensures.marked c.raise-self-inside.ensures.room in
    rw (← c.self.view_is) m
