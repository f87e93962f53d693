use Rattle.std.proofs.Common.{◌≡◌, ◌+◌, ◌-◌, arith}
use Rattle.wire_frames.proofs.Stamps.{bits_set-step, bits_set-none, bits_set-empty}
use Rattle.wire_frames.proofs.stamp.bits_set.Goals as goal

pub loop-preserved : goal.loop-preserved
loop-preserved c =
    let l = c.loop in
    let step = bits_set-step (16 - l.counter) l.rest (omega arith) in
    let later : 16 - l.counter - 1 ≡ 16 - (l.counter + 1) = omega arith in
    record { left = rw (← later) (omega arith); most = omega arith }

pub returns-after-loop-clause-value : goal.returns-after-loop-clause-value
returns-after-loop-clause-value c =
    let over : 16 - c.loop.counter ≡ 0 = omega arith in
    let left = rw (over, bits_set-none) at c.loop.invariant.left in
    omega arith

pub returns-then-rest-eq0-clause-value : goal.returns-then-rest-eq0-clause-value
returns-then-rest-eq0-clause-value c =
    let over : c.loop.rest ≡ 0 = omega arith in
    let left = rw (over, bits_set-empty) at c.loop.invariant.left in
    omega arith
