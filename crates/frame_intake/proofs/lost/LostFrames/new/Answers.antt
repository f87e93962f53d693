use Rattle.std.proofs.Common.{◌≡◌, ℕ, cond, true, subst}
use Rattle.std.specs.List.{list_any}
use Rattle.std.specs.BTreeMap.{is_at}
use Rattle.frame_intake.specs.Lost.{key_cmp}
use Rattle.frame_intake.proofs.LostLemmas.{lost_turn}
use Rattle.frame_intake.proofs.lost.LostFrames.new.Goals as goal

pub loop-frame-preserved : goal.loop-frame-preserved
loop-frame-preserved c =
    let updates =
    subst (λ (k : ℕ × ℕ × ℕ).
    (q : ℕ × ℕ × ℕ)
    → list_any (is_at (key_cmp q)) c.insert.new.self.keys
    ≡ cond (is_at (key_cmp k) q) true (list_any (is_at (key_cmp q)) c.loop-frame.keys.keys)) c.key.ensures
    c.in_ok-insert.ensures.updates.0 in
    lost_turn c.loop-frame.keys.keys c.insert.new.self.keys c.args.lost.now c.loop-frame.frame-index c.frame-item.result
    updates c.loop-frame-test.true c.frame-item.is c.loop-frame.invariant
