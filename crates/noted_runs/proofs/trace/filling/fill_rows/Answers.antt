use Rattle.std.proofs.Common.{◌<◌, ◌+◌, [], List, refl, sym, subst, arith, length, take}
use Rattle.noted_runs.specs.declared.trace.rows.Row.{Row}
use Rattle.noted_runs.specs.Filling.{AreFilled}
use Rattle.noted_runs.proofs.FillingLemmas.{filled_all, filled_on, none_filled}
use Rattle.noted_runs.proofs.trace.filling.fill_rows.Goals as goal

pub loop-earlier-init : goal.loop-earlier-init
loop-earlier-init c =
    subst (AreFilled c.args.gone.now.departures c.args.gone.now.seen.places.items c.args.gone.now.seen.lacks.items
    c.args.inputs.now []) (sym c.new-rows.ensures)
    (none_filled c.args.gone.now.departures c.args.gone.now.seen.places.items c.args.gone.now.seen.lacks.items
    c.args.inputs.now)

pub loop-earlier-preserved : goal.loop-earlier-preserved
loop-earlier-preserved c =
    let gone = c.args.gone.now in
    let low : c.loop-earlier.earlier < length c.args.turns.now = omega arith in
    subst (λ (r : List Row). AreFilled gone.departures gone.seen.places.items gone.seen.lacks.items c.args.inputs.now
    (take (c.loop-earlier.earlier + 1) c.args.turns.now) r) (sym c.in_ok-push.ensures.ok)
    (filled_on gone.departures gone.seen.places.items gone.seen.lacks.items c.args.inputs.now c.args.turns.now
    c.loop-earlier.earlier _ _ c.loop-earlier.rows c.row_of.result low refl c.loop-earlier.invariant
    (c.row_of.ensures c.loop-earlier.earlier refl))

pub returns : goal.returns
returns c =
    let gone = c.args.gone.now in
    filled_all gone.departures gone.seen.places.items gone.seen.lacks.items c.args.inputs.now c.args.turns.now
    c.loop-earlier.earlier c.loop-earlier.rows (omega arith) c.loop-earlier.invariant
