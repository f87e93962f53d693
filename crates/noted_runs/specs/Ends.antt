-- What a run of some events came to, from its opening to its end.
use Rattle.std.specs.Prelude.{◌≡◌, ℕ, All, List, length}
use Rattle.plain_text.specs.Packets.{IsShort}
use Rattle.plain_text.specs.declared.limit.Limit.{Limit}
use Rattle.plain_text.specs.declared.packet.Packet.{Packet}
use Rattle.access_log.specs.declared.entry.Output.{Output}
use Rattle.plain_machine.specs.Program.{Meaning}
use Rattle.recovery_world.specs.declared.event.Event.{Event}
use Rattle.recovery_world.specs.World.{Setting}
use Rattle.recovery_world.specs.Events.{OnShow}
use Rattle.recovery_world.specs.Files.{Leaves, LeavesAt}
use Rattle.run_writes.specs.Replies.{packets_in}
use Rattle.noted_runs.specs.declared.drill.running.Ended.{Ended}
use Rattle.noted_runs.specs.declared.drill.running.Frame.{Frame}
use Rattle.drill_report.specs.Report.{Replays}

abbrev pub setting_with : {V : Type 0} → Meaning V → Frame → List Packet → Setting V
setting_with m frame packets = record {
  meaning = m;
  threads = frame.threads;
  tags = frame.tags;
  fractions = frame.unit;
  packets = packets;
  seed = frame.seed;
}

-- all events were performed, and released these
pub record HasEnded {V : Type 0} (s : Setting V) (events : List Event) (e : Ended) (outputs : List Output)
    : Type 0 where
  pub lines : List ℕ
  pub leaves : Leaves s events lines (packets_in outputs) e.finished.schedule
  pub replays : Replays s events e.replayed leaves.world
  pub shows : OnShow s leaves.world 0 e.shown
  pub fed : e.finished.fed ≡ leaves.world.fed
  pub epoch : e.finished.epoch ≡ leaves.world.epoch
  pub released : e.finished.released ≡ length leaves.world.released
  pub short : All IsShort (packets_in outputs)

-- one of them stopped at this limit
pub record HasHalted {V : Type 0} (s : Setting V) (events : List Event) (limit : Limit) (outputs : List Output)
    : Type 0 where
  pub lines : List ℕ
  pub leaves : LeavesAt s events limit lines (packets_in outputs)
  pub short : All IsShort (packets_in outputs)
