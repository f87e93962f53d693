use Rattle.noted_runs.proofs.LawLemmas.{row_number, row_once, rows_count}
use Rattle.noted_runs.proofs.trace.laws.each_packet_has_one_row.Goals as goal

pub returns : goal.returns
returns g c = record {
  count = λ register s events w rows h. rows_count register s events w rows h;
  number = λ register s events w rows h. row_number register s events w rows h;
  once = λ register s events w rows h. row_once register s events w rows h;
}
