use Rattle.std.proofs.Common.{true, false}
use Rattle.dup_filter.specs.Numbers.{Numbers, Marks, HasRoom}
use Rattle.dup_filter.proofs.NumberLemmas.{Puts, puts, marks, greatest_after, at_present}
use Rattle.dup_filter.proofs.numbers.Numbers.mark_in_room.Goals as goal

pub invariant_of-self : goal.invariant_of-self
invariant_of-self c =
    let s = c.self.inside in
    let old : Numbers = record { floor = s.floor; above = s.above.entries } in
    let put : Numbers = record { floor = s.floor; above = c.insert-old.new.self.entries } in
    let new : Numbers = record { floor = c.raise-self-inside.result; above = c.raise-self-inside.new.above.entries } in
    let room : HasRoom old c.args.number = rw (← c.self.view_is) at c.requires in
    let updates =
    at_present c.insert-old.result _ false room c.insert-old.ensures.updates c.insert-old.ensures.absent in
    let p : Puts old put c.args.number true =
    puts s.floor s.above.entries c.insert-old.new.self.entries c.args.number true updates.0 in
    let m : Marks old new c.args.number =
    marks old put new c.args.number p c.raise-self-inside.ensures.marked c.raise-self-inside.ensures.room in
    rw c.max-self-inside.ensures (record {
      past = c.raise-self-inside.ensures.past;
      tight = c.raise-self-inside.ensures.tight;
      greatest = greatest_after old new s.greatest c.args.number c.self.invariant.greatest m;
    })
