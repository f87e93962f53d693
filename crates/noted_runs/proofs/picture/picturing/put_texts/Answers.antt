use Rattle.std.proofs.Common.{◌∙◌}
use Rattle.run_writes.specs.Run.{counts_line}
use Rattle.noted_runs.proofs.Drawn.{text_is}
use Rattle.noted_runs.proofs.picture.picturing.put_texts.Goals as goal

pub returns-clause-picture : goal.returns-clause-picture
returns-clause-picture c =
    let gone = c.args.gone.now in
    text_is c.args.title.now c.bytes_of.result.now (counts_line gone.fed gone.epoch gone.released)
    c.as_slice.result.now c.args.threads c.args.times.now gone.notes c.as_slice-2.result.now c.in_ok-picture.picture
    c.in_ok-picture.ensures c.bytes_of.ensures (c.as_slice.ensures ∙ c.in_ok-report.ensures) c.as_slice-2.ensures
