-- A schedule that is played on a whole capture, and what it comes to.
use Rattle.std.specs.Prelude.{◌≤◌, All, List, Result}
use Rattle.plain_text.specs.Packets.{IsShort}
use Rattle.input_logger.specs.Inputs.{inputs_of}
use Rattle.plain_machine.specs.declared.plain_move.PlayFault.{PlayFault}
use Rattle.plain_machine.specs.Program.{Meaning}
use Rattle.plain_machine.specs.History.{Step, play}
use Rattle.schedule_commands.specs.declared.run.ScheduleRun.{ScheduleRun}

-- inputs that a box can run on: 1 to 16 threads, and packets that a record can have
pub record CanPlay (run : ScheduleRun) : Type 0 where
  pub some_threads : 1 ≤ run.threads
  pub few_threads : run.threads ≤ 16
  pub short : All IsShort run.packets

-- what a box that means this comes to by the schedule: the history of its moves, or the first illegal one
abbrev pub outcome_of : {V : Type 0} → Meaning V → ScheduleRun → Result (List (Step V)) PlayFault
outcome_of m run =
    play m (inputs_of (record { threads = run.threads; tags = run.tags; packets = run.packets })) run.threads
    run.schedule
