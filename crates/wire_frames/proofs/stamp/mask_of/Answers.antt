use Rattle.std.proofs.Common.{◌≡◌, ◌-◌, ◌^◌, ◌≤◌, ◌<◌, drop, length, arith, ℕ, List, ap, sym}
use Rattle.std.proofs.lemmas.List.{length-drop}
use Rattle.std.proofs.Math.Nat.{pow-le-pow_right}
use Rattle.wire_frames.specs.Layout.{mask_of}
use Rattle.wire_frames.proofs.Stamps.{mask_of-below, mask_of-past}
use Rattle.wire_frames.proofs.stamp.mask_of.Goals as goal

few_bits : (components stamp : List ℕ) (threads behind mask : ℕ) → components ≡ stamp → length stamp ≡ 16 → threads ≤ 16
    → behind < threads → mask ≡ mask_of (drop (threads - behind) components) → mask < 2 ^ 15
few_bits components stamp threads behind mask same all few within is =
    let below = mask_of-below (drop (threads - behind) components) in
    let most : 2 ^ length (drop (threads - behind) components) ≤ 2 ^ 15 =
    pow-le-pow_right {n = 2} (omega arith) {i = length (drop (threads - behind) components)} {j = 15}
    (omega (arith, ap length same, length-drop (threads - behind) components)) in
    omega arith

pub loop-behind-init : goal.loop-behind-init
loop-behind-init c =
    let all : c.args.threads - 0 ≡ c.args.threads = omega arith in
    rw (c.components-components.ensures.value, all) (sym (mask_of-past c.args.threads c.args.stamp.now c.requires.none))

pub overflow_mul-mask : goal.overflow_mul-mask
overflow_mul-mask c =
    let few = few_bits c.components-components.result.now c.args.stamp.now c.args.threads c.loop-behind.behind
    c.loop-behind.mask c.components-components.ensures.value c.components-components.ensures.all c.requires.few
    (omega arith) c.loop-behind.invariant in
    omega arith

pub overflow_add-mask : goal.overflow_add-mask
overflow_add-mask c =
    let few = few_bits c.components-components.result.now c.args.stamp.now c.args.threads c.loop-behind.behind
    c.loop-behind.mask c.components-components.ensures.value c.components-components.ensures.all c.requires.few
    (omega arith) c.loop-behind.invariant in
    grind arith
