use Rattle.std.proofs.Common.{◌≡◌, ◌+◌, [], ◌∷◌, ◌++◌, List, take, reverse, sym, ap, ◌∙◌, subst, arith}
use Rattle.std.proofs.lemmas.Bool.{both_ways}
use Rattle.std.proofs.lemmas.List.{length-take-le}
use Rattle.recovery_world.specs.Many.{Message}
use Rattle.plan_script.specs.Orders.{IsLost}
use Rattle.frame_intake.specs.Lost.{HaveLost}
use Rattle.frame_intake.specs.Orders.{orders_of, AreSome, Arrive}
use Rattle.frame_intake.proofs.ArriveLemmas.{arrives_on, count_small, counted_on, lost_on, lost_told, out_on}
use Rattle.frame_intake.proofs.ArriveLemmas.{takes_on, kept_on, left_on}
use Rattle.frame_intake.proofs.orders.RoundOrders.arriving.Goals as goal
use Rattle.frame_intake.proofs.orders.RoundOrders.arriving.Goals.{then-takes+then-not-contains+in_ok-push, else-takes}
use Rattle.frame_intake.proofs.orders.RoundOrders.arriving.Goals.{else-takes-via-then-takes+else-not-contains}
use Rattle.frame_intake.proofs.orders.RoundOrders.arriving.Goals.{else-takes-via-else-takes}

pub count-before-requires : goal.count-before-requires
count-before-requires c =
    let sent = c.args.sent.now in
    let i = c.loop-frame.frame-index in
    let small = count_small c.loop-frame.counts (take i sent) c.frame.inside.thread c.loop-frame.invariant.counted in
    let long = length-take-le i sent (omega arith) in
    record { room = omega arith }

pub loop-frame-preserved : goal.loop-frame-preserved
loop-frame-preserved c =
    let orders = orders_of c.args.self.now in
    let sent = c.args.sent.now in
    let i = c.loop-frame.frame-index in
    let inside = c.loop-frame-test.true in
    let f = c.frame-item.result in
    let at = c.frame-item.is in
    let own : c.frame.inside.thread ≡ f.thread = ap (λ (m : Message). m.thread) c.frame.view_is in
    let counted =
    counted_on c.loop-frame.counts c.count-before.new.counts sent i c.frame.inside.thread f own
    c.count-before.ensures.counted inside at c.loop-frame.invariant.counted in
    let takes =
    takes_on orders c.loop-frame.counts (take i sent) c.frame.inside.thread c.count-before.result f c.takes.result own
    c.count-before.ensures.before c.takes.ensures.beyond c.loop-frame.invariant.counted c.takes.ensures.takes in
    let lost : HaveLost c.in_ok-lost.lost.keys.keys orders.lost =
    subst (HaveLost c.in_ok-lost.lost.keys.keys)
    (ap reverse c.as_slice.ensures.value ∙ ap (λ o. o.lost_frames) c.self.view_is) c.in_ok-lost.ensures in
    let was = c.loop-frame.invariant.arrive in
    record {
      counted = counted;
      arrive = elim c.if-takes.branch [
        | then-takes+then-not-contains+in_ok-push w ↦
            let stays : IsLost f orders.lost → ⊥ = λ (h : IsLost f orders.lost).
            both_ways w.contains.result w.if-not-contains.true
            ((lost_told c.in_ok-lost.lost.keys.keys orders.lost _ w.contains.result w.contains.ensures lost).1
            (subst (λ (m : Message). IsLost m orders.lost) (sym c.frame.view_is) h)) in
            let put =
            ap (λ v. v.items) w.arriving-is
            ∙ w.in_ok-push.ensures.items
            ∙ ap (λ (m : Message). c.loop-frame.arriving.items ++ m ∷ []) c.frame.view_is in
            arrives_on orders sent c.loop-frame.arriving.items c.if-takes.arriving.items i f inside at put was stays
            (takes.0 w.if-takes.true)
        | else-takes w ↦
            subst (λ (l : List Message). Arrive orders (take (i + 1) sent) l) (ap (λ v. v.items) (sym w.arriving-is))
            (elim w.else-takes.branch [
              | else-takes-via-then-takes+else-not-contains v ↦
                  let gone : IsLost f orders.lost =
                  subst (λ (m : Message). IsLost m orders.lost) c.frame.view_is
                  ((lost_told c.in_ok-lost.lost.keys.keys orders.lost _ v.contains.result v.contains.ensures lost).0
                  v.if-not-contains.false) in
                  lost_on orders sent c.loop-frame.arriving.items i f inside at was gone (takes.0 v.if-takes.true)
              | else-takes-via-else-takes v ↦
                  out_on orders sent c.loop-frame.arriving.items i f inside at was
                  (λ t. both_ways c.takes.result v.if-takes.false (takes.1 t))
            ])
      ];
      ordered = elim c.if-takes.branch [
        | then-takes+then-not-contains+in_ok-push w ↦
            let put =
            ap (λ v. v.items) w.arriving-is
            ∙ w.in_ok-push.ensures.items
            ∙ ap (λ (m : Message). c.loop-frame.arriving.items ++ m ∷ []) c.frame.view_is in
            kept_on sent c.loop-frame.arriving.items c.if-takes.arriving.items i f inside at put
            c.loop-frame.invariant.ordered
        | else-takes w ↦
            subst (λ (l : List Message). AreSome (take (i + 1) sent) l) (ap (λ v. v.items) (sym w.arriving-is))
            (left_on sent c.loop-frame.arriving.items i f inside at c.loop-frame.invariant.ordered)
      ];
    }
