-- A run that goes on from a handover, and is done, keeps the promise of the top call.
use Rattle.std.proofs.Common.{List}
use Rattle.world_io.specs.World.{Shown}
use Rattle.recovery_world.specs.declared.event.Event.{Event}
use Rattle.recovery_world.specs.World.{Setting, World as SystemWorld, all_inputs}
use Rattle.recovery_world.specs.Files.{moves_made}
use Rattle.recovery_laws.specs.Sound.{Sound}
use Rattle.recovery_laws.proofs.AcceptedRuns.{moves_play}
use Rattle.recovery_laws.proofs.Finishes.{finish_ends}
use Rattle.recovery_laws.proofs.KeptWorlds.{performs_sound}
use Rattle.run_writes.specs.Replies.{lines_in, released_in}
use Rattle.run_writes.specs.Run.{OutputNames}
use Rattle.run_writes.proofs.ScriptAnswers.{answers_perform, answers_release_more}
use Rattle.hand_command.specs.Resume.{HasResumed}
use Rattle.job_commands.specs.HandWords.{ResumeNames}
use Rattle.job_commands.specs.Resume.{resumed_setting}
use Rattle.job_top.specs.Headline.{KeepsPromiseFrom}
use Rattle.job_top.specs.Resume.{KeepsResumePromise}
use Rattle.job_top.specs.Resume.{ResumesWhole, resume_outputs}
use Rattle.job_top.proofs.Promise.{waits_named}

pub keeps_from : {V : Type 0} (s : Setting V) (w : SystemWorld V) (names : OutputNames) (events : List Event)
    (old new : Shown) → Sound s w → HasResumed s w names events old new → KeepsPromiseFrom s w names events new
keeps_from s w names events old new sound r =
    let performs = answers_perform s events r.replies r.world r.answers in
    let later = performs_sound s w r.world events (lines_in r.replies) sound performs in
    record {
      world = r.world;
      lines = lines_in r.replies;
      performs = performs;
      schedule = moves_made r.steps;
      schedule_written = r.files.schedule_is;
      released = released_in r.replies;
      released_behind = answers_release_more s w events r.replies r.world r.answers;
      released_written = r.files.released_is;
      steps = r.steps;
      plays = moves_play s.meaning (all_inputs s) s.threads r.steps r.finish.history;
      ends = finish_ends s r.world r.steps later r.finish;
      waits_always = λ first rest is early v first_performs.
          waits_named s v (performs_sound s w v first early sound first_performs);
    }

pub resume_promise : (names : ResumeNames) (a c : Shown) → ResumesWhole names a c → KeepsResumePromise names a c
resume_promise names a c (source, events, accepted, (there, each)) = (
  source,
  events,
  accepted,
  (
    there,
    λ w handed. keeps_from (resumed_setting source) w (resume_outputs names) events a c handed.sound
        (each w handed),
  ),
)
