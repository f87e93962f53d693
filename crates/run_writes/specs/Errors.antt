-- What a run comes to whose outputs were written so.
use Rattle.std.specs.Prelude.{Result, Ok, Err, ⊤}
use Rattle.plain_text.specs.declared.limit.Limit.{Limit}
use Rattle.output_files.specs.declared.error.OutputError.{OutputError}
use Rattle.output_files.specs.declared.error.OutputError.TheVariants as output
use Rattle.run_writes.specs.declared.error.RunError.{RunError}
use Rattle.run_writes.specs.declared.error.RunError.TheVariants as run

abbrev pub run_error_of : OutputError → RunError
run_error_of output.WriteFault = run.WriteFault
run_error_of output.NoMemory = run.NoMemory

abbrev pub run_result_of : Result ⊤ OutputError → Result ⊤ RunError
run_result_of (Ok done) = Ok done
run_result_of (Err error) = Err (run_error_of error)

-- the same, where an event stopped at this limit
abbrev pub stopped_result : Result ⊤ OutputError → Limit → Result ⊤ RunError
stopped_result (Ok done) limit = Err (run.Limit limit)
stopped_result (Err error) limit = Err (run_error_of error)
