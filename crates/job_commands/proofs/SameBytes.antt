-- Two runs on the same bytes leave the same bytes.
use Rattle.std.proofs.Common.{◌≡◌, ℕ, List, ◌++◌, refl, sym, ap, ◌∙◌, subst, Some, Option}
use Rattle.plain_text.specs.declared.packet.Packet.{Packet}
use Rattle.plain_machine.specs.declared.plain_move.PlainMove.{PlainMove}
use Rattle.plain_player.specs.ScheduleText.{schedule_text}
use Rattle.pcap_io.specs.Capture.{written}
use Rattle.world_io.specs.World.{Shown}
use Rattle.output_files.specs.Writes.{report_file}
use Rattle.input_files.specs.Judging.{IsToldOf}
use Rattle.recovery_laws.proofs.Scripts.{leaves_one}
use Rattle.run_writes.specs.Run.{HasRun}
use Rattle.job_commands.specs.declared.inputs.Inputs.{Inputs}
use Rattle.job_commands.specs.Run.{AcceptsInputs, RunsWhole, outputs_of, setting_for}
use Rattle.job_commands.specs.SameBytes.{HaveSameInputs, LeaveSameBytes}
use Rattle.job_commands.specs.Words.{RunNames}
use Rattle.job_commands.proofs.OneVerdict.{inputs_one}

-- what is said of the bytes under a name is said of the same bytes under another
told_there : (name other : List ℕ) (said : List ℕ → Type 0) (old before : Shown)
    → before.names other ≡ old.names name → IsToldOf other said before → IsToldOf name said old
told_there name other said old before same h = (h.0, sym same ∙ h.1, h.2)

accepts_there : (names other : RunNames) (old before : Shown) (x : Inputs) → HaveSameInputs names other old before
    → AcceptsInputs other x before → AcceptsInputs names x old
accepts_there names other old before x same a = record {
  box_accepted = told_there names.box_file other.box_file _ old before same.box_file a.box_accepted;
  capture_accepted = told_there names.capture other.capture _ old before same.capture a.capture_accepted;
  script_accepted = told_there names.script other.script _ old before same.script a.script_accepted;
}

leave_same : (names other : RunNames) (old new before after : Shown) (x : Inputs)
    → HasRun (setting_for x) (outputs_of names) x.events old new
    → HasRun (setting_for x) (outputs_of other) x.events before after
    → LeaveSameBytes names other old new before after
leave_same names other old new before after x r q =
    let one =
    leaves_one (setting_for x) x.events r.report q.report r.released q.released r.schedule q.schedule r.leaves
    q.leaves in
    record {
      released = q.files.released_is
          ∙ ap (λ (packets : List Packet). Some (written x.capture.unit packets)) (sym one.1) ∙ sym r.files.released_is;
      schedule = q.files.schedule_is ∙ ap (λ (moves : List PlainMove). Some (schedule_text moves)) (sym one.2)
          ∙ sym r.files.schedule_is;
      report = r.report;
      reported = r.files.report_is;
      reported_too = q.files.report_is ∙ ap (λ (text : List ℕ). before.sent report_file ++ text) (sym one.0);
    }

pub same_bytes : (names other : RunNames) (old new before after : Shown) → HaveSameInputs names other old before
    → RunsWhole names old new → RunsWhole other before after → LeaveSameBytes names other old new before after
same_bytes names other old new before after same (x, a, r) (y, b, q) =
    let is : y ≡ x = inputs_one ⊥ names old y x (accepts_there names other old before y same b) a in
    leave_same names other old new before after x r
    (subst (λ (i : Inputs). HasRun (setting_for i) (outputs_of other) i.events before after) is q)
