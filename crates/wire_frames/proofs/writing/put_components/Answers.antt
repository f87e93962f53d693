use Rattle.std.proofs.Common.{◌≡◌, ◌-◌, refl, arith}
use Rattle.wire_frames.proofs.Stamps.{nonzero-past}
use Rattle.wire_frames.proofs.writing.put_components.Goals as goal

pub loop-behind-init : goal.loop-behind-init
loop-behind-init c =
    let all : c.args.count - 0 ≡ c.args.count = omega arith in
    rw (all, nonzero-past c.args.count c.args.components.now c.requires.none) refl
