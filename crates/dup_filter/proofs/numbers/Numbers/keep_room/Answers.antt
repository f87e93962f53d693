use Rattle.std.proofs.Common.{false}
use Rattle.dup_filter.specs.Numbers.{Numbers, IsMarked}
use Rattle.dup_filter.proofs.NumberLemmas.{Puts, puts, puts_past, fresh_past, keeps_marked, greatest_same, tight_same}
use Rattle.dup_filter.proofs.numbers.Numbers.keep_room.Goals as goal

pub invariant_of-self-2 : goal.invariant_of-self-2
invariant_of-self-2 c =
    let s = c.self.inside in
    let old : Numbers = record { floor = s.floor; above = s.above.entries } in
    let put : Numbers = record { floor = s.floor; above = c.insert.new.self.entries } in
    let fresh : IsMarked old c.args.number → ⊥ = rw (← c.self.view_is) at c.requires.fresh in
    let p : Puts old put c.args.number false =
    puts s.floor s.above.entries c.insert.new.self.entries c.args.number false c.in_ok-insert.ensures.updates.0 in
    record {
      past = puts_past old put s.greatest c.args.number false c.self.invariant p
          (fresh_past old c.args.number c.requires.numbered fresh);
      tight = tight_same old put p.floor (keeps_marked old put c.args.number p fresh) c.self.invariant.tight;
      greatest =
          greatest_same old put s.greatest c.self.invariant.greatest (keeps_marked old put c.args.number p fresh);
    }
