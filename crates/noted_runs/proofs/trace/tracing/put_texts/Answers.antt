use Rattle.std.proofs.Common.{◌∙◌, ap}
use Rattle.noted_runs.specs.Table.{table_text}
use Rattle.noted_runs.proofs.FillingLemmas.{filled_same}
use Rattle.noted_runs.proofs.TracingLemmas.{told}
use Rattle.noted_runs.proofs.trace.tracing.put_texts.Goals as goal

pub returns : goal.returns
returns g c s events same st h =
    let gone = c.args.gone.now in
    told c.args.register s events c.args.steered gone st h (g.P.Program.meaning c.args.program.now) same
    c.in_ok-became.became.items c.in_ok-became.ensures c.truncate.new.self c.truncate.ensures c.in_ok-rows.rows
    (filled_same gone.departures gone.seen.places.items gone.seen.lacks.items _ _ _ _ c.in_ok-rows.rows
    c.deref.ensures.value c.as_slice.ensures c.in_ok-rows.ensures) _
    (c.in_ok-table.ensures ∙ ap table_text c.as_slice-2.ensures) c.in_ok-report.ensures
