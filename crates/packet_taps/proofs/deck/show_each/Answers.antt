use Rattle.std.proofs.Common.{◌≤◌, ◌<◌, ◌∷◌, [], length, get_or, subst, arith}
use Rattle.std.proofs.lemmas.Option.{slice_get-get_or}
use Rattle.packet_taps.specs.Places.{IsShown}
use Rattle.packet_taps.proofs.Along.{shown-next, shown-all}
use Rattle.packet_taps.proofs.deck.show_each.Goals as goal

pub loop-place-preserved : goal.loop-place-preserved
loop-place-preserved g c =
    let tap = g.T.PacketTap in
    let below = c.loop-place-test.true in
    let same = c.loop-place.auto.places in
    let within : c.loop-place.place-index < length c.loop-place.places = omega (arith, below, same) in
    let shown = subst (λ was. IsShown tap.saw tap.missed tap.fault_count tap.lack_count (c.args.packet.now ∷ []) was
    c.shown.result) c.replace-was.ensures.value c.shown.ensures in
    shown-next tap.saw tap.missed tap.fault_count tap.lack_count (c.args.packet.now ∷ []) c.loop-place.place-index
    c.args.places.now c.loop-place.places
    (get_or c.loop-place.places c.loop-place.place-index c.place-item.result) c.shown.result c.loop-place.invariant
    (slice_get-get_or c.loop-place.places c.loop-place.place-index c.place-item.result within) shown

pub returns : goal.returns
returns g c =
    let past = c.loop-place-test.false in
    let same = c.loop-place.auto.places in
    let all : length c.loop-place.places ≤ c.loop-place.place-index = omega (arith, past, same) in
    shown-all _ _ _ _ _ c.loop-place.place-index c.args.places.now c.loop-place.places all c.loop-place.invariant
