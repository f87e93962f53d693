use Rattle.std.proofs.Common.{◌≡◌, ℕ, ◌+◌, ◌-◌, sym, ◌∙◌, arith}
use Rattle.replay_guide.proofs.LaneLists.{at-numbered, at-numbered_before, copied_get}
use Rattle.replay_guide.proofs.lane.FollowedLane.get.Goals as goal

pub returns-then-number-self : goal.returns-then-number-self
returns-then-number-self c =
    let s = c.self.inside in
    rw (← c.self.view_is) (sym (at-numbered_before s.covered s.entries.items c.args.number c.if-number-self.true))

pub returns : goal.returns
returns c =
    let s = c.self.inside in
    let i : ℕ = c.args.number - s.covered - 1 in
    let low = c.if-number-self.false in
    let place : c.args.number ≡ s.covered + i + 1 = omega arith in
    rw (← c.self.view_is)
    (copied_get s.entries.items _ i c.get.result s.entries.ok.0 c.get.ensures.variant c.get.ensures.lookup
    ∙ sym (at-numbered s.covered s.entries.items c.args.number i place))
