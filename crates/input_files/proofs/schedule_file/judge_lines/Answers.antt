use Rattle.std.proofs.Common.{refl}
use Rattle.plain_text.proofs.WholeFiles.{count_is_length}
use Rattle.plain_player.specs.Schedules.{schedule_form}
use Rattle.input_files.proofs.schedule_file.judge_lines.Goals as goal

-- each move counts as one
pub returns-in-Ok : goal.returns-in-Ok
returns-in-Ok c = record {
  says = (
    c.in-Ok.ensures.schedule,
    rw (count_is_length schedule_form (λ plain. refl) c.in-Ok.moves) c.in-Ok.ensures.few,
  );
}
