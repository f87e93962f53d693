use Rattle.std.proofs.Common.{◌≡◌, ℕ, ◌↔◌, List, Result, Ok, Err, IfOk, IsSome, length, map, subst, sym, arith}
use Rattle.access_log.specs.Held.{lane, entry_at}
use Rattle.access_log.specs.Lanes.{IsHeldSet}
use Rattle.replay_guide.specs.Orders.{IsNamed, IsInOrder}
use Rattle.replay_guide.specs.Walks.{WeighsBelow, IsWeighed}
use Rattle.replay_guide.proofs.OrderLemmas.{name_of, each_named, all_in_order}
use Rattle.replay_guide.proofs.guide.Guide.order.Goals as goal

if_ok : {X E : Type 0} (r : Result X E) (P Q : X → Type 0) → ((x : X) → P x → Q x) → IfOk r P → IfOk r Q
if_ok (Ok x) P Q f p = f x p
if_ok (Err e) P Q f p = tt

pub returns-clause-each : goal.returns-clause-each
returns-clause-each c =
    let guide = c.args.self.now in
    let keys = c.loop-i.weighed.keys in
    let ok = c.self.inside.lanes.ok.0 in
    let len = c.len-i-end.ensures in
    let low = c.loop-i-test.false in
    let high = c.loop-i.auto.i-end in
    let all : c.loop-i.i ≡ length guide = rw (← c.self.view_is) (omega arith) in
    let held : IsHeldSet guide = rw (← c.self.view_is) c.self.invariant.held in
    let weighed : (w t n : ℕ) → IsWeighed keys w t n ↔ WeighsBelow guide (length guide) w t n =
    subst (λ (i : ℕ). (w t n : ℕ) → IsWeighed keys w t n ↔ WeighsBelow guide i w t n) all c.loop-i.invariant in
    if_ok c.names_of.result (λ order. order ≡ map name_of keys) _
    (λ order is t n. subst (λ (names : List (ℕ × ℕ)). IsNamed t n names ↔ IsSome (entry_at (lane guide t) n)) (sym is)
    (each_named guide keys held weighed t n)) c.names_of.ensures.names

pub returns-clause-in_order : goal.returns-clause-in_order
returns-clause-in_order c =
    let guide = c.args.self.now in
    let keys = c.loop-i.weighed.keys in
    let ok = c.self.inside.lanes.ok.0 in
    let len = c.len-i-end.ensures in
    let low = c.loop-i-test.false in
    let high = c.loop-i.auto.i-end in
    let all : c.loop-i.i ≡ length guide = rw (← c.self.view_is) (omega arith) in
    let held : IsHeldSet guide = rw (← c.self.view_is) c.self.invariant.held in
    let weighed : (w t n : ℕ) → IsWeighed keys w t n ↔ WeighsBelow guide (length guide) w t n =
    subst (λ (i : ℕ). (w t n : ℕ) → IsWeighed keys w t n ↔ WeighsBelow guide i w t n) all c.loop-i.invariant in
    if_ok c.names_of.result (λ order. order ≡ map name_of keys) _
    (λ order is. subst (λ (names : List (ℕ × ℕ)). IsInOrder guide names) (sym is)
    (all_in_order guide keys held weighed c.names_of.ensures.sorted)) c.names_of.ensures.names
