use Rattle.std.proofs.Common.{rules}
use Rattle.std.proofs.lemmas.Map.Made.{filter_same_pairs}
use Rattle.dup_filter.specs.Numbers.{Numbers}
use Rattle.dup_filter.proofs.NumberLemmas.{Sifts, sifts, sifts_past, gives_up, greatest_same, tight_same}
use Rattle.dup_filter.proofs.numbers.Numbers.give_up_rooms.Goals as goal

pub invariant_of-self : goal.invariant_of-self
invariant_of-self c =
    let s = c.self.inside in
    let old : Numbers = record { floor = s.floor; above = s.above.entries } in
    let new : Numbers = record { floor = s.floor; above = c.retain.new.self.entries } in
    let k : Sifts old new = sifts s.floor s.above.entries c.retain.new.self.entries c.retain.ensures.was_ordered
    (filter_same_pairs _ (λ e. e.1) _ (λ k v b w f' t. search rules) _ _ c.retain.ensures.filtered) in
    record {
      past = sifts_past old new s.greatest c.self.invariant k;
      tight = tight_same old new k.floor (gives_up old new k).marked c.self.invariant.tight;
      greatest = greatest_same old new s.greatest c.self.invariant.greatest (gives_up old new k).marked;
    }

pub returns : goal.returns
returns c =
    let s = c.self.inside in
    let old : Numbers = record { floor = s.floor; above = s.above.entries } in
    let new : Numbers = record { floor = s.floor; above = c.retain.new.self.entries } in
    let k : Sifts old new = sifts s.floor s.above.entries c.retain.new.self.entries c.retain.ensures.was_ordered
    (filter_same_pairs _ (λ e. e.1) _ (λ k v b w f' t. search rules) _ _ c.retain.ensures.filtered) in
    rw (← c.self.view_is) (gives_up old new k)
