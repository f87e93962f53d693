-- A run goes on from an image.
use Rattle.std.proofs.Common.{◌≡◌, ℕ, List, [], ◌∷◌, ◌++◌, refl, sym, ap, ◌∙◌, append_assoc, subst, length, Result, Ok}
use Rattle.std.proofs.Common.{Err, suc}
use Rattle.std.specs.Prelude.{⊤, IsErrOf, OnOk}
use Rattle.plain_text.specs.declared.limit.Limit.{Limit}
use Rattle.plain_machine.specs.Program.{Meaning}
use Rattle.plain_player.specs.ScheduleText.{schedule_text}
use Rattle.world_io.specs.World.{Shown}
use Rattle.recovery_world.specs.declared.event.Event.{Event}
use Rattle.recovery_world.specs.World.{Setting, Sent, World as SystemWorld, opening}
use Rattle.recovery_world.specs.Files.{Leaves, done_line, moves_made, sent_names}
use Rattle.run_command.specs.FromRecoveryCore.{Systemed, SystemStands}
use Rattle.handover.specs.declared.image.Image.{Image}
use Rattle.handover_world.specs.declared.fault.ResumeError.{ResumeError}
use Rattle.handover_world.specs.declared.fault.ResumeError.TheVariants.{Count, Move, Released, NoMemory}
use Rattle.output_files.specs.Writes.{Write, HasWritten}
use Rattle.run_writes.specs.declared.error.RunError.{RunError}
use Rattle.run_writes.specs.declared.error.RunError.TheVariants as run
use Rattle.run_writes.specs.Replies.{at_world, lines_in, newly_released, released_in}
use Rattle.run_writes.specs.Run.{OutputNames}
use Rattle.run_writes.proofs.RunWrites.{stopped_files, whole_files}
use Rattle.run_writes.proofs.ScriptAnswers.{answers_perform, answers_release, answers_then, lines_join, released_join}
use Rattle.run_command.specs.Running.{IsSystemAt, RunsFrom, StoppedThere}
use Rattle.hand_command.specs.declared.error.GoOnError.{GoOnError}
use Rattle.hand_command.specs.declared.error.GoOnError.TheVariants as on
use Rattle.hand_command.specs.Errors.{go_on_result_of, not_resumed}
use Rattle.hand_command.specs.Hand.{HandsOver, IsHandedOver, resting}
use Rattle.hand_command.specs.Resume.{HasHalted, HasResumed}

pub names_long : (sent : List Sent) → length (sent_names sent) ≡ length sent
names_long [] = refl
names_long (o ∷ sent) = ap suc (names_long sent)

-- the system is at the world of the image
pub resumed_at : {P V : Type 0} (m : Meaning V) (s : Setting V) (w : SystemWorld V) (y : Systemed P V) (image : Image)
    → IsHandedOver s w image → SystemStands m s w y → y.fresh ≡ [] → y.handed ≡ length image.released
    → IsSystemAt m s w y
resumed_at m s w y image handed stands fresh many = record {
  stands = stands;
  fresh = fresh;
  handed =
      many
      ∙ ap (λ (l : List (ℕ × ℕ)). length l) handed.image_is.released
      ∙ names_long w.released;
}

module _ {V : Type 0} (s : Setting V) (w : SystemWorld V) (names : OutputNames) (events : List Event) (a b : Shown)
    (apart : names.released ≡ names.schedule → ⊥) where
  pub resumed_whole : (r : Result ⊤ RunError) → RunsFrom r s (at_world w) names events a b
      → OnOk (go_on_result_of r) (HasResumed s w names events a b)
  resumed_whole (Ok done) (writes, all, written) = record {
    replies = all.replies;
    world = all.world;
    answers = all.answers;
    steps = all.steps;
    finish = all.finish;
    fit_records = all.fit_records;
    fit_lines = all.fit_lines;
    files = whole_files names s.fractions apart all.replies (moves_made all.steps) (done_line all.world) a b
        (subst (λ (ws : List Write). HasWritten ws a b) all.writes_are written);
  }
  resumed_whole (Err error) h = tt

  halted : (limit : Limit) → StoppedThere s (at_world w) names events limit a b
      → HasHalted s w names events limit a b
  halted limit stopped =
      let until = stopped.until in
      record {
        before = until.before;
        event = until.event;
        after = until.after;
        events_are = until.events_are;
        replies = until.replies;
        there = until.there;
        answers = until.answers;
        world = until.world;
        stops = until.stops;
        files = stopped_files names s.fractions apart until.replies (newly_released until.there until.world) a b
            (subst (λ (ws : List Write). HasWritten ws a b) until.writes_are stopped.written);
      }

  pub resumed_limit : (r : Result ⊤ RunError) (limit : Limit) → RunsFrom r s (at_world w) names events a b
      → go_on_result_of r ≡ Err (on.Limit limit) → HasHalted s w names events limit a b
  resumed_limit (Ok done) limit h is = absurd (cc)
  resumed_limit (Err (run.Limit l)) limit h is =
      let same : l ≡ limit = cc in
      subst (λ (k : Limit). HasHalted s w names events k a b) same (halted l h)
  resumed_limit (Err run.WriteFault) limit h is = absurd (cc)
  resumed_limit (Err run.NoMemory) limit h is = absurd (cc)

-- the same events
pub resumed_same : {V : Type 0} (r : Result ⊤ RunError) (s : Setting V) (w : SystemWorld V) (names : OutputNames)
    (events other : List Event) (a b : Shown) → events ≡ other → RunsFrom r s (at_world w) names events a b
    → RunsFrom r s (at_world w) names other a b
resumed_same {V} r s w names events other a b same h =
    subst (λ (l : List Event). RunsFrom r s (at_world w) names l a b) same h

-- an error of a run that goes on is a write fault only where that of the run is, and is no fault of the image
pub fault_gone_on : (r : Result ⊤ RunError) → IsErrOf (go_on_result_of r) on.WriteFault → IsErrOf r run.WriteFault
fault_gone_on (Ok done) h = absurd (cc)
fault_gone_on (Err (run.Limit limit)) h = absurd (cc)
fault_gone_on (Err run.WriteFault) h = refl
fault_gone_on (Err run.NoMemory) h = absurd (cc)

pub no_fault : (r : Result ⊤ RunError) (fault : ResumeError) → go_on_result_of r ≡ Err (on.Fault fault) → ⊥
no_fault (Ok done) fault e = cc
no_fault (Err (run.Limit limit)) fault e = cc
no_fault (Err run.WriteFault) fault e = cc
no_fault (Err run.NoMemory) fault e = cc

abbrev failed : GoOnError → Result ⊤ GoOnError
failed e = Err e

-- an image that was refused
pub same_fault : (e fault : ResumeError) → failed (not_resumed e) ≡ failed (on.Fault fault) → e ≡ fault
same_fault (Count place) fault h = cc
same_fault (Move move) fault h = cc
same_fault (Released place) fault h = cc
same_fault NoMemory fault h = absurd (cc)

pub refused_no_limit : (e : ResumeError) (limit : Limit) → failed (not_resumed e) ≡ failed (on.Limit limit) → ⊥
refused_no_limit (Count place) limit h = cc
refused_no_limit (Move move) limit h = cc
refused_no_limit (Released place) limit h = cc
refused_no_limit NoMemory limit h = cc

pub refused_no_write : (e : ResumeError) → IsErrOf (failed (not_resumed e)) on.WriteFault → ⊥
refused_no_write (Count place) h = cc
refused_no_write (Move move) h = cc
refused_no_write (Released place) h = cc
refused_no_write NoMemory h = cc

-- a run that is handed over, and one that goes on from there, are one run
pub one_run : {V : Type 0} (s : Setting V) (names : OutputNames) (events rest : List Event) (c d : Shown)
    (h : HandsOver s events) (r : HasResumed s h.world names rest c d)
    → Leaves s ((events ++ resting) ++ rest)
    (lines_in (h.replies ++ h.last) ++ (lines_in r.replies ++ done_line r.world))
    (released_in (h.replies ++ h.last) ++ released_in r.replies) (moves_made r.steps)
one_run {V} s names events rest c d h r =
    let handed = answers_then s (opening V) h.ready events resting h.replies h.last h.world h.answers h.rests in
    let all = answers_then s (opening V) h.world (events ++ resting) rest (h.replies ++ h.last) r.replies r.world handed
    r.answers in
    record {
      world = r.world;
      lines = lines_in ((h.replies ++ h.last) ++ r.replies);
      performs = answers_perform s ((events ++ resting) ++ rest) ((h.replies ++ h.last) ++ r.replies) r.world all;
      report_is =
          sym (append_assoc (lines_in (h.replies ++ h.last)) (lines_in r.replies) (done_line r.world))
          ∙ ap (λ (l : List ℕ). l ++ done_line r.world) (sym (lines_join (h.replies ++ h.last) r.replies));
      released_is =
          sym (released_join (h.replies ++ h.last) r.replies)
          ∙ sym (answers_release s ((events ++ resting) ++ rest) ((h.replies ++ h.last) ++ r.replies) r.world all);
      steps = r.steps;
      finish = r.finish;
      schedule_is = refl;
    }
