-- A run that is done keeps the promise of the top call.
use Rattle.std.proofs.Common.{ℕ, List, ap, ◌∙◌}
use Rattle.std.specs.Prelude.{Some, length}
use Rattle.entry_order.specs.Log.{Entry}
use Rattle.entry_order.specs.Closed.{IsFirstMissing}
use Rattle.plain_text.specs.declared.packet.Packet.{Packet}
use Rattle.plain_machine.specs.History.{log_of}
use Rattle.world_io.specs.World.{Shown}
use Rattle.recovery_world.specs.declared.event.Event.{Event}
use Rattle.recovery_world.specs.World.{Setting, Sent, World as SystemWorld, opening}
use Rattle.recovery_world.specs.Events.{IsAmong}
use Rattle.recovery_laws.specs.Sound.{Sound}
use Rattle.recovery_laws.proofs.Finishes.{finish_ends, finish_there}
use Rattle.recovery_laws.proofs.KeptWorlds.{opening_sound, performs_sound}
use Rattle.recovery_laws.proofs.ScriptFiles.{leaves_ends}
use Rattle.pcap_io.specs.Capture.{written}
use Rattle.plain_machine.specs.declared.plain_move.PlainMove.{PlainMove}
use Rattle.plain_player.specs.ScheduleText.{schedule_text}
use Rattle.recovery_world.specs.Files.{Leaves}
use Rattle.run_writes.specs.Run.{HasFiles, HasRun, OutputNames}
use Rattle.drill_report.specs.Events.{drill_events}
use Rattle.live_command.proofs.ScriptsTold.{live_script}
use Rattle.job_commands.specs.Run.{RunsWhole, outputs_of, setting_for}
use Rattle.job_commands.specs.Words.{RunNames, LiveNames, DrillNames}
use Rattle.job_top.specs.Drill.{DrillsWhole, KeepsDrillPromise, drill_outputs, drill_setting}
use Rattle.job_top.specs.Headline.{KeepsPromise}
use Rattle.job_top.specs.Live.{KeepsLivePromise, LivesFiles, live_outputs, live_setting}
use Rattle.job_top.specs.Run.{KeepsRunPromise}

-- what waits in a sound world waits for a named entry
pub waits_named : {V : Type 0} (s : Setting V) (w : SystemWorld V) → Sound s w → (o : Sent) → IsAmong o w.waiting
    → (e : Entry) × IsFirstMissing (log_of w.past) (log_of w.stored) w.held o.emission.thread o.after e
waits_named s w sound o among =
    let f = finish_there s w sound in (finish_ends s w f.0 sound f.1).waits o among

pub keeps : {V : Type 0} (s : Setting V) (names : OutputNames) (events : List Event) (report told : List ℕ)
    (released : List Packet) (schedule : List PlainMove) (old new : Shown) → Leaves s events report released schedule
    → HasFiles names s.fractions released (schedule_text schedule) told old new → KeepsPromise s names events new
keeps {V} s names events report told released schedule old new leaves files =
    let ends = leaves_ends s events report released schedule leaves in
    record {
      world = leaves.world;
      lines = leaves.lines;
      performs = leaves.performs;
      schedule = schedule;
      schedule_written = files.schedule_is;
      released_written =
          files.released_is ∙ ap (λ (l : List Packet). Some (written s.fractions l)) leaves.released_is;
      steps = leaves.steps;
      plays = ends.0;
      ends = ends.1;
      waits_always = λ first rest is early w performs.
          waits_named s w (performs_sound s (opening V) w first early (opening_sound s) performs);
    }

-- of a run that is whole
run_keeps : {V : Type 0} (s : Setting V) (names : OutputNames) (events : List Event) (old new : Shown)
    → HasRun s names events old new → KeepsPromise s names events new
run_keeps s names events old new r =
    keeps s names events r.report r.report r.released r.schedule old new r.leaves r.files

pub promise : (names : RunNames) (a c : Shown) → RunsWhole names a c → KeepsRunPromise names a c
promise names a c (inputs, accepted, r) = record {
  inputs = inputs;
  accepted = accepted;
  keeps = run_keeps (setting_for inputs) (outputs_of names) inputs.events a c r;
}

pub live_promise : (may : ℕ → Type 0) (names : LiveNames) (a c : Shown) → LivesFiles may names a c
    → KeepsLivePromise names a c
live_promise may names a c (inputs, accepted, r) = record {
  inputs = inputs;
  accepted = accepted;
  events = r.events;
  there = r.world;
  of_plan = live_script (live_setting inputs) may _ _ _ _ _ _ _ r.script;
  script_written = r.lived.script_is;
  keeps = run_keeps (live_setting inputs) (live_outputs names).outputs r.events _ c r.lived.run;
}

pub drill_promise : (names : DrillNames) (a c : Shown) → DrillsWhole names a c → KeepsDrillPromise names a c
drill_promise names a c (inputs, accepted, r) = record {
  inputs = inputs;
  accepted = accepted;
  keeps =
      keeps (drill_setting names inputs) (drill_outputs names)
      (drill_events names.every (length inputs.capture.packets)) r.drills.lines r.report r.released r.schedule a c
      r.drills.leaves r.files;
}
