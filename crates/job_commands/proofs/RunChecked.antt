-- What a run left is accepted by a check.
use Rattle.std.proofs.Common.{◌≡◌, ℕ, ◌≤◌, true, false, List, [], ◌∷◌, length, refl, sym, ◌∙◌, subst, Result, Ok}
use Rattle.std.specs.Prelude.{All, not, nat_lt}
use Rattle.std.proofs.lemmas.List.Elements.{All-head, All-tail, All-weaker}
use Rattle.plain_text.specs.Octets.{IsOfBytes}
use Rattle.plain_text.specs.declared.packet.Packet.{Packet}
use Rattle.plain_text.specs.declared.packet.Unit.{Unit as FractionUnit}
use Rattle.plain_text.specs.declared.packet.Unit.TheVariants.{Micro, Nano}
use Rattle.pcap_io.specs.declared.capture.Captured.TheVariants as savefile
use Rattle.pcap_io.specs.Capture.{AreRecorded, written}
use Rattle.pcap_io.proofs.Verdicts.{written_is_capture}
use Rattle.pcapng_io.specs.declared.capture.AnyCaptured.TheVariants as captured
use Rattle.pcapng_io.specs.Capture.{begins_ng}
use Rattle.pcapng_io.specs.Captured.{SaysAny}
use Rattle.pcapng_io.proofs.Frames.{and_false}
use Rattle.plain_machine.specs.declared.plain_move.PlayFault.{PlayFault}
use Rattle.plain_machine.specs.History.{Step}
use Rattle.plain_text.specs.declared.limit.TheConstants.{MOST_EVENTS}
use Rattle.plain_text.specs.LineFiles.{count_of}
use Rattle.plain_text.proofs.WholeFiles.{count_is_length}
use Rattle.plain_player.specs.ScheduleText.{schedule_text}
use Rattle.plain_player.specs.Schedules.{schedule_form}
use Rattle.plain_player.proofs.WrittenSchedules.{read_back}
use Rattle.world_io.specs.World.{Shown}
use Rattle.recovery_laws.proofs.ScriptFiles.{leaves_accepted}
use Rattle.schedule_check.specs.Checking.{IsChecked}
use Rattle.schedule_check.specs.declared.checking.Checked.TheVariants.{Found}
use Rattle.run_writes.specs.Run.{FitsRecord, HasRun}
use Rattle.input_files.specs.Judging.{IsToldOf}
use Rattle.job_commands.specs.declared.inputs.Inputs.{Inputs}
use Rattle.job_commands.specs.declared.schedule_inputs.CheckInputs.{CheckInputs}
use Rattle.job_commands.specs.declared.status.Status.{Status}
use Rattle.job_commands.specs.declared.status.Status.TheVariants as status
use Rattle.job_commands.specs.Checked.{AreWithinLimits, StillStand, checked}
use Rattle.job_commands.specs.Judging.{IsDecided}
use Rattle.job_commands.specs.Run.{AcceptsInputs, outputs_of, setting_for}
use Rattle.job_commands.specs.Schedules.{AcceptsCheckInputs, AreFound, EndsCheck, JudgesCheck}
use Rattle.job_commands.specs.Words.{RunNames}
use Rattle.job_commands.proofs.Finds.{one_check}
use Rattle.job_commands.proofs.FilesInTurn.{four_accepted}

-- a written savefile does not begin as a pcapng capture
is_savefile : (u : FractionUnit) (packets : List Packet) → begins_ng (written u packets) ≡ false
is_savefile Micro packets = and_false (not (nat_lt (length (written Micro packets)) 4)) _ refl
is_savefile Nano packets = and_false (not (nat_lt (length (written Nano packets)) 4)) _ refl

are_recorded : (packets : List Packet) → All FitsRecord packets → AreRecorded packets
are_recorded [] each = tt
are_recorded (p ∷ packets) each =
    ((All-head FitsRecord p packets each).recorded, are_recorded packets (All-tail FitsRecord p packets each))

reads_back : (u : FractionUnit) (packets : List Packet) → AreRecorded packets → length packets ≤ 65536
    → length (written u packets) ≤ 67108864 → SaysAny (written u packets) (captured.Capture u packets)
reads_back u packets recorded few size = record {
  ng = λ begins. let no : true ≡ false = sym begins ∙ is_savefile u packets in cc;
  savefile = λ begins. (
    savefile.Capture u packets,
    refl,
    record { capture = written_is_capture u packets recorded; count = few; size = size },
  );
}

-- what was said of a file is said of it while it stands
still_told : (name : List ℕ) (said : List ℕ → Type 0) (a b : Shown) → b.names name ≡ a.names name → IsToldOf name said a
    → IsToldOf name said b
still_told name said a b same h = (h.0, same ∙ h.1, h.2)

module _ (names : RunNames) (inputs : Inputs) (old new later : Shown) (accepted : AcceptsInputs names inputs old)
    (ran : HasRun (setting_for inputs) (outputs_of names) inputs.events old new)
    (fits : AreWithinLimits inputs.capture.unit ran.released ran.schedule)
    (stand : StillStand names old new later) where
  abbrev Read : CheckInputs
  Read = record {
    played = record { conf = inputs.conf; capture = inputs.capture; schedule = ran.schedule };
    released = record { unit = inputs.capture.unit; packets = ran.released };
  }

  -- each move counts as one
  few : count_of schedule_form ran.schedule ≤ MOST_EVENTS
  few =
      subst (λ (n : ℕ). n ≤ MOST_EVENTS) (sym (count_is_length schedule_form (λ plain. refl) ran.schedule))
      fits.few_moves

  accepts : AcceptsCheckInputs (checked names) Read later
  accepts = record {
    played_accepted = record {
      box_accepted = still_told names.box_file _ old later stand.box_file accepted.box_accepted;
      capture_accepted = still_told names.capture _ old later stand.capture accepted.capture_accepted;
      schedule_accepted = (
        schedule_text ran.schedule,
        stand.schedule ∙ ran.files.schedule_is,
        (fits.schedule_size, read_back ran.schedule ran.fit_lines, few),
      );
    };
    released_accepted = (
      written inputs.capture.unit ran.released,
      stand.released ∙ ran.files.released_is,
      (
        reads_back inputs.capture.unit ran.released (are_recorded ran.released ran.fit_records) fits.few_packets
            fits.released_size,
        All-weaker FitsRecord IsOfBytes (λ p fit. fit.of_bytes) ran.released ran.fit_records,
      ),
    );
  }

  found : AreFound Read
  found =
      let is = leaves_accepted (setting_for inputs) inputs.events ran.report ran.released ran.schedule ran.leaves in
      let Finds : Result (List (Step _)) PlayFault → Type 0 =
      λ outcome. IsChecked outcome inputs.capture.unit ran.released inputs.capture.unit (Found (length ran.released)) in
      subst Finds (sym is.plays) (is.matched, refl)

  pub run_is_checked : (healthy : Type 0) → JudgesCheck healthy (checked names) status.Done later
  run_is_checked healthy = four_accepted healthy (checked names) later (EndsCheck healthy) Read status.Done accepts
      (Ok tt, found, (λ ok e. cc), refl)

  pub run_is_checked_only : (healthy : Type 0) (s : Status) → IsDecided healthy s
      → JudgesCheck healthy (checked names) s later → s ≡ status.Done
  run_is_checked_only healthy s decided judged = one_check healthy (checked names) later s status.Done decided
      (λ e. cc, (λ e. cc, λ e. cc)) judged (run_is_checked healthy)
