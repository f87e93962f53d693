use Rattle.std.proofs.Common.{refl, sym, ap, ◌∙◌, subst, arith, max}
use Rattle.system_parts.specs.Parts.{AreParts}
use Rattle.system_parts.specs.Views.{parts_in}
use Rattle.packet_feeds.proofs.FeedLemmas.{feeds_next, more_left, fed_none, fed_are_parts, popped_are_parts, FedAll}
use Rattle.packet_feeds.proofs.FeedLemmas.{fed_whole, fed_until, all_fed}
use Rattle.packet_feeds.proofs.feeding.feed.Goals.{else-packets-test, then-packets-test+in_default}
use Rattle.packet_feeds.proofs.feeding.feed.Goals as goal

pub packets-init : goal.packets-init
packets-init g c = record { within = omega arith; fed = fed_none c.core.view_is }

pub invariant_of-core : goal.invariant_of-core
invariant_of-core g c =
    popped_are_parts g.P.Program.meaning g.P.Program.fits c.packets.counter c.args.core.now
    (parts_in c.packets.core-inside) _ c.pop_front.new.self.items c.in-Some.packet c.max-core-inside.result
    c.packets.invariant.fed c.in-Some.ensures.items refl c.in_err-feed.ensures.err
    (subst (λ q. AreParts (g.P.Program.meaning q.program) (g.P.Program.fits q.program) q) c.core.view_is
    c.core.invariant)

pub packets-preserved : goal.packets-preserved
packets-preserved g c = record {
  within = more_left c.packets.counter c.args.core.now (parts_in c.packets.core-inside) c.pop_front.new.self.items
      c.in-Some.packet c.packets.invariant.fed c.in-Some.ensures.items;
  fed = feeds_next c.packets.counter c.args.core.now (parts_in c.packets.core-inside) _ c.pop_front.new.self.items
      c.in-Some.packet c.packets.invariant.fed c.in-Some.ensures.items refl c.in_ok-feed.ensures.ok
      (c.max-core-inside.ensures ∙ ap (λ k. max c.packets.core-inside.clock k) c.microseconds.ensures);
}

-- what the loop came to
ended : (g : _) (c : goal.After-fed g) → FedAll c.args.n c.args.core.now (parts_in c.packets-test.core-inside)
ended g c = elim c.packets-test.branch [
  | else-packets-test w ↦
      subst (λ i. FedAll c.args.n c.args.core.now (parts_in i)) (sym w.core-inside-is)
      (fed_whole c.args.n c.packets.counter c.packets.invariant.fed c.packets.invariant.within
      c.packets.auto.counter-end w.packets-test.false)
  | then-packets-test+in_default w ↦
      let none = sym c.packets.core-inside.left.ok.0 ∙ w.in_default.ensures.cases.0 in
      subst (λ i. FedAll c.args.n c.args.core.now (parts_in i)) (sym w.core-inside-is) (fed_until c.args.n
      c.packets.counter _ w.pop_front.new.self.items c.packets.invariant.fed c.packets.invariant.within
      c.packets.auto.counter-end none w.in_default.ensures.items refl)
]

pub invariant_of-core-2 : goal.invariant_of-core-2
invariant_of-core-2 g c =
    fed_are_parts g.P.Program.meaning g.P.Program.fits (ended g c).count c.args.core.now
    (parts_in c.packets-test.core-inside) (ended g c).is
    (subst (λ q. AreParts (g.P.Program.meaning q.program) (g.P.Program.fits q.program) q) c.core.view_is
    c.core.invariant)

pub returns : goal.returns
returns g c = all_fed (g.P.Program.meaning c.args.core.now.program) c.args.n (parts_in c.packets-test.core-inside)
    c.fed.result (ended g c) c.fed.ensures
