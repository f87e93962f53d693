use Rattle.std.proofs.Common.{◌<◌, ◌+◌, ap, sym, refl, arith, length, take, ℕ}
use Rattle.std.proofs.lemmas.List.{length-take-le}
use Rattle.noted_runs.proofs.PlacesLemmas.{none_placed, placed_all, placed_on}
use Rattle.noted_runs.proofs.trace.places.find_places.Goals as goal

pub loop-index-init : goal.loop-index-init
loop-index-init c = none_placed c.args.threads c.in_ok-lists.lists.items c.in_ok-lists.ensures

pub loop-index-preserved : goal.loop-index-preserved
loop-index-preserved c =
    let low : c.loop-index.index < length c.args.names.now = omega arith in
    placed_on c.args.threads c.loop-index.index c.args.names.now _ _ c.note_name.new.lists.items low refl
    (c.in_ok-note_name.ensures c.args.threads (take c.loop-index.index c.args.names.now)
    (ap (λ (n : ℕ). n + 1) (sym (length-take-le c.loop-index.index c.args.names.now (omega (arith, low)))))
    c.loop-index.invariant)

pub returns : goal.returns
returns c =
    placed_all c.args.threads c.loop-index.index c.args.names.now c.loop-index.lists.items (omega arith)
    c.loop-index.invariant
