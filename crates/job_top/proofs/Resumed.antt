-- What the status of `resume` says, and what it leaves: from before its inputs were read.
use Rattle.std.proofs.Common.{◌≡◌, ◌⊎◌, ℕ, List, refl, sym, ap, ◌∙◌, subst, inl, inr, Result, Ok, Err, rules}
use Rattle.std.specs.Prelude.{⊤, IsErrOf, OnOk}
use Rattle.plain_text.specs.declared.limit.Limit.{Limit}
use Rattle.box_conf.specs.Kinds.{meaning_of}
use Rattle.world_io.specs.World.{Shown}
use Rattle.recovery_world.specs.declared.event.Event.{Event}
use Rattle.recovery_world.specs.World.{Setting, World as SystemWorld}
use Rattle.handover.specs.declared.image.Image.{Image}
use Rattle.handover_world.specs.declared.fault.ResumeError.{ResumeError}
use Rattle.handover_world.specs.Faults.{HasNoFault, IsFault}
use Rattle.run_writes.specs.declared.error.RunError.{RunError}
use Rattle.run_writes.specs.declared.error.RunError.TheVariants as run_error
use Rattle.run_writes.specs.Replies.{at_world, lines_in}
use Rattle.run_writes.specs.Run.{HasBegunFrom, KeepsShown, OutputNames}
use Rattle.run_writes.proofs.ScriptAnswers.{answers_perform}
use Rattle.hand_command.specs.FromRunCommand.{RunsFrom, StoppedThere}
use Rattle.hand_command.proofs.FromRunCommand.{runs_begun}
use Rattle.hand_command.specs.Hand.{IsHandedOver}
use Rattle.hand_command.specs.Resume.{HasResumed}
use Rattle.hand_command.proofs.Resuming.{resumed_limit, resumed_whole}
use Rattle.input_files.specs.declared.image_file.ImageFile.{ImageFile}
use Rattle.input_files.specs.Answers.{SaysScript}
use Rattle.input_files.specs.Files.{KeepsOutputs}
use Rattle.input_files.specs.Judging.{AcceptsScript}
use Rattle.live_writes.proofs.ScriptSteps.{spare_cut, spared}
use Rattle.job_commands.specs.declared.resume_inputs.ResumeSource.{ResumeSource}
use Rattle.job_commands.specs.declared.status.InputFault.TheVariants.{Handover}
use Rattle.job_commands.specs.declared.status.Status.{Status}
use Rattle.job_commands.specs.declared.status.Status.TheVariants as status
use Rattle.job_commands.specs.HandWords.{ResumeNames}
use Rattle.job_commands.specs.Resume.{AcceptsResumeInputs, AcceptsSealed}
use Rattle.job_commands.specs.Resume.{JudgesOneScript, JudgesResumeSource}
use Rattle.job_commands.specs.Resume.{resumed_setting}
use Rattle.job_commands.specs.Status.{AtOutputs, Completes, EndsReading, run_outcome}
use Rattle.job_commands.specs.Status.{stage_of_limit}
use Rattle.job_commands.proofs.Outcomes.{begun_writes_since, written_since}
use Rattle.job_commands.proofs.RunLimits.{stops_are}
use Rattle.job_commands.proofs.ResumeFiles.{resume_accepted, resume_image_refused, resume_no_memory, resume_pass}
use Rattle.job_commands.proofs.ResumeFiles.{resume_script_refused, resume_source_refused}
use Rattle.job_commands.proofs.Turns.{judged_since}
use Rattle.job_top.specs.Resume as resume
use Rattle.job_top.specs.Resume.{AreAcceptedForResume, EndsFrom, GoesOnBy, GoesOnFrom, HasFault, HasNoMemory, IsRefused}
use Rattle.job_top.specs.Resume.{IsRefusedSo}
use Rattle.job_top.specs.Resume.{JudgesResume, KeepsResumeNames, ResumesInOrder, ResumesToLimit}
use Rattle.job_top.specs.Resume.{ResumesWhole, Runs, SaysOfResume, StopsFrom, resume_outputs}
use Rattle.job_top.proofs.SparedNames.{spare_from}
use Rattle.job_commands.specs.Answers.{SaysOf}
use Rattle.job_commands.specs.Meanings.{StopsBy}
use Rattle.job_commands.proofs.Usual.{Ends, IsUsual, refused_says, run_says, stops_early, stops_late}
use Rattle.job_top.specs.Resume.{KeepsResumePromise, resume_meaning}
use Rattle.job_top.proofs.ResumePromise.{resume_promise}

-- The files are as they were when the first inputs had been read.
module _ (a b c : Shown) (keeps : KeepsOutputs a b) where
  kept_since : KeepsShown b c → KeepsShown a c
  kept_since kept = record { names = kept.names ∙ keeps.names; sent = kept.sent ∙ keeps.sent }

  module _ {V : Type 0} (s : Setting V) (names : OutputNames) (events : List Event) where
    pub runs_since : (w : SystemWorld V) (r : Result ⊤ RunError) → RunsFrom r s (at_world w) names events b c
        → RunsFrom r s (at_world w) names events a c
    runs_since w (Ok done) (writes, all, written) = (writes, all, written_since a b c keeps writes written)
    runs_since w (Err (run_error.Limit limit)) h = record {
      writes = h.writes;
      until = h.until;
      written = written_since a b c keeps h.writes h.written;
    }
    runs_since w (Err run_error.WriteFault) (writes, is, begun) =
        (writes, is, begun_writes_since a b c keeps writes begun)
    runs_since w (Err run_error.NoMemory) (writes, is, begun) =
        (writes, is, begun_writes_since a b c keeps writes begun)

  module _ (healthy later : Type 0) (stays : healthy → later) where
    script_since : (name : List ℕ) (s : Status) → JudgesOneScript later name (Err s) b
        → JudgesOneScript healthy name (Err s) a
    script_since name s (inl (e, h, is)) =
        inl (e, judged_since SaysScript healthy later stays a b keeps.names name (Err e) h, is)
    script_since name s (inr (events, h, none)) = absurd none

    by_since : {V : Type 0} (s : Setting V) (image : Image) (names : ResumeNames) (st : Status)
        → GoesOnBy later s image names st b c → GoesOnBy healthy s image names st a c
    by_since s image names st (IsRefused judged stage quiet kept) =
        IsRefused (script_since names.script st judged) stage quiet (kept_since kept)
    by_since s image names st (Runs events script r is never runs) =
        Runs events (judged_since SaysScript healthy later stays a b keeps.names names.script (Ok events) script) r is
        (λ ok. never (stays ok)) (λ w handed. runs_since s (resume_outputs names) events w r (runs w handed))

    pub from_since : {V : Type 0} (s : Setting V) (file : ImageFile) (names : ResumeNames) (st : Status)
        → GoesOnFrom later s file names st b c → GoesOnFrom healthy s file names st a c
    from_since s file names st (HasNoMemory is kept) = HasNoMemory is (kept_since kept)
    from_since s file names st (HasFault error is fault at status_is kept) =
        HasFault error is fault at status_is (kept_since kept)
    from_since s file names st (resume.GoesOn fine w handed by) =
        resume.GoesOn fine w handed (by_since s file.image names st by)

-- What an image that is refused comes to

-- nothing was written
pub refused_so : {V : Type 0} (healthy : Type 0) (s : Setting V) (file : ImageFile) (error : ResumeError)
    (names : ResumeNames) (st : Status) (a : Shown) → IsFault s file.image error → IsRefusedSo file error st
    → GoesOnFrom healthy s file names st a a
refused_so healthy s file error names st a fault (inl (none, is)) =
    HasNoMemory is (record { names = refl; sent = refl })
refused_so healthy s file error names st a fault (inr (line, at, is)) =
    HasFault error fault line at is (record { names = refl; sent = refl })

pub refused_quiet : (file : ImageFile) (error : ResumeError) (st : Status) → IsRefusedSo file error st → EndsReading st
refused_quiet file error st (inl (none, is)) = subst (λ (x : Status). EndsReading x) (sym is) tt
refused_quiet file error st (inr (line, at, is)) = subst (λ (x : Status). EndsReading x) (sym is) tt

pub refused_reads : (file : ImageFile) (error : ResumeError) (st : Status) → IsRefusedSo file error st
    → st ≡ status.ReadFault → ⊥
refused_reads file error st (inl (none, is)) e = let no : status.NoMemory ≡ status.ReadFault = sym is ∙ e in cc
refused_reads file error st (inr (line, at, is)) e =
    let no : status.BadInput (Handover line) ≡ status.ReadFault = sym is ∙ e in cc

-- What a run that goes on comes to

module _ {V : Type 0} (s : Setting V) (w : SystemWorld V) (names : OutputNames) (events : List Event) (a c : Shown)
  where
    ends_from : HasResumed s w names events a c → EndsFrom s w events
    ends_from r = record {
      lines = lines_in r.replies;
      world = r.world;
      performs = answers_perform s events r.replies r.world r.answers;
      steps = r.steps;
      finish = r.finish;
    }

    stops_from : (limit : Limit) → StoppedThere s (at_world w) names events limit a c → StopsFrom s w events limit
    stops_from limit h =
        let until = h.until in
        record {
          before = until.before;
          event = until.event;
          after = until.after;
          events_are = until.events_are;
          lines = lines_in until.replies;
          there = until.there;
          performs = answers_perform s until.before until.replies until.there until.answers;
          world = until.world;
          stops = until.stops;
        }

    stops_stage : (limit : Limit) → StoppedThere s (at_world w) names events limit a c
        → stage_of_limit limit ≡ AtOutputs
    stops_stage limit h = stops_are s h.until.there h.until.event limit h.until.world h.until.stops

-- In a healthy world a run that goes on, whose inputs are accepted and which passes no limit, is done, or memory ran
-- out.
pub resume_completes : (healthy : Type 0) (names : ResumeNames) (shown : Shown) → healthy
    → AreAcceptedForResume names shown → (st : Status) → JudgesResume healthy names st shown → Completes st
resume_completes healthy names shown ok (source, events, all, within) st h =
    go (resume_pass healthy names shown (SaysOfResume healthy) ok source events all st h)
  where
    on : (st : Status) → SaysOfResume healthy source events st → Completes st
    on status.Done says = inl refl
    on (status.Refuted refutation) says = absurd says
    on status.BadWords says = absurd says
    on status.ReadFault says = absurd says
    on status.WriteFault says = absurd (says ok)
    on status.NoMemory says = inr refl
    on (status.BadInput fault) says = absurd says
    on (status.TooLarge limit) says = absurd (within limit says)
    on (status.Unready unready) says = absurd says

    go : (st ≡ status.NoMemory) ⊎ SaysOfResume healthy source events st → Completes st
    go (inl none) = inr none
    go (inr says) = on st says

-- Other names

pub resume_others : (names : ResumeNames) (a b : Shown) → ResumesInOrder names a b → KeepsResumeNames names a b
resume_others names a b (inl kept) name one two = ap (λ f. f name) kept.names
resume_others names a b (inr (source, events, all, ((w, handed), each))) name one two = go (each w handed)
  where
    go : HasBegunFrom (resumed_setting source) (at_world w) (resume_outputs names) events a b
        → b.names name ≡ a.names name
    go (writes, is, begun) =
        begun.written.names name
        ∙ spared name begun.done (a.names name) (spare_cut name begun.done writes
        (spare_from (resume_outputs names) name one two (resumed_setting source) (at_world w) events writes is)
        begun.cut)

pub resume_usual : (names : ResumeNames) → IsUsual (resume_meaning names)
resume_usual names = record {
  few = search rules;
  begins = λ old new same. inl same;
  others = resume_others names;
  completes = λ healthy shown. resume_completes healthy names shown;
}

-- The status of the run, where the first inputs are accepted.

module _ (healthy : Type 0) (names : ResumeNames) (source : ResumeSource) (a c : Shown)
    (taken : AcceptsSealed names source a)
    (apart : names.released ≡ names.schedule → ⊥) where
  abbrev World : Type 0
  World = SystemWorld (meaning_of source.conf.kind).value

  abbrev OneSetting : Setting (meaning_of source.conf.kind).value
  OneSetting = resumed_setting source

  abbrev TheImage : Image
  TheImage = source.image.image

  -- all inputs are accepted
  all_accepted : HasNoFault OneSetting TheImage → (events : List Event) → AcceptsScript names.script events a
      → AcceptsResumeInputs names source events a
  all_accepted fine events script = record {
    image_accepted = record { source_accepted = taken.source_accepted; goes_on = (taken.sealed, fine) };
    script_accepted = script;
  }

  module _ (events : List Event) (first : World) (handed : IsHandedOver OneSetting first TheImage) where
    abbrev RunsSo : Result ⊤ RunError → Type 0
    RunsSo r =
        (w : World) → IsHandedOver OneSetting w TheImage
        → RunsFrom r OneSetting (at_world w) (resume_outputs names) events a c

    says : (r : Result ⊤ RunError) → (healthy → ¬ IsErrOf r run_error.WriteFault) → RunsSo r
        → SaysOfResume healthy source events (run_outcome r)
    says (Ok done) never runs = (
      (first, handed),
      λ w h. ends_from OneSetting w (resume_outputs names) events a c
          (resumed_whole OneSetting w (resume_outputs names) events a c apart (Ok done) (runs w h)),
    )
    says (Err (run_error.Limit l)) never runs =
        ((first, handed), λ w h. stops_from OneSetting w (resume_outputs names) events a c l (runs w h))
    says (Err run_error.WriteFault) never runs = λ ok. never ok refl
    says (Err run_error.NoMemory) never runs = tt

    whole : (r : Result ⊤ RunError) → AcceptsResumeInputs names source events a → RunsSo r
        → OnOk r (ResumesWhole names a c × KeepsResumePromise names a c)
    whole (Ok done) accepts runs =
        let all : ResumesWhole names a c = (
          source,
          events,
          accepts,
          (
            (first, handed),
            λ w h. resumed_whole OneSetting w (resume_outputs names) events a c apart (Ok done) (runs w h),
          ),
        ) in
        (all, resume_promise names a c all)
    whole (Err error) accepts runs = tt

    halts : (r : Result ⊤ RunError) → AcceptsResumeInputs names source events a → RunsSo r → (l : Limit)
        → r ≡ Err (run_error.Limit l) → StopsBy l a c (ResumesToLimit names l a c)
    halts r accepts runs l e =
        let halted : RunsSo (Err (run_error.Limit l)) = subst (λ (x : Result ⊤ RunError). RunsSo x) e runs in
        stops_late l a c _
        (stops_stage OneSetting first (resume_outputs names) events a c l (halted first handed)) (
          source,
          events,
          accepts,
          (
            (first, handed),
            λ w h. resumed_limit OneSetting w (resume_outputs names) events a c apart (Err (run_error.Limit l)) l
                (halted w h) refl,
          ),
        )

  -- What each status says

  resume_judged : (st : Status) → GoesOnFrom healthy OneSetting source.image names st a c
      → JudgesResume healthy names st a
  resume_judged st (HasNoMemory is kept) =
      subst (λ (x : Status). JudgesResume healthy names x a) (sym is)
      (resume_no_memory healthy names a (SaysOfResume healthy) source taken.source_accepted)
  resume_judged st (HasFault error is fault at status_is kept) =
      subst (λ (x : Status). JudgesResume healthy names x a) (sym status_is)
      (resume_image_refused healthy names a (SaysOfResume healthy) source fault taken.source_accepted
      (inr (taken.sealed, error, is, at)))
  resume_judged st (resume.GoesOn fine w handed (IsRefused judged stage quiet kept)) =
      resume_script_refused healthy names a (SaysOfResume healthy) source st
      (record { source_accepted = taken.source_accepted; goes_on = (taken.sealed, fine) }) judged
  resume_judged st (resume.GoesOn fine w handed (Runs events script r is never runs)) =
      resume_accepted healthy names a (SaysOfResume healthy) source events st (all_accepted fine events script)
      (subst (λ (x : Status). SaysOfResume healthy source events x) (sym is) (says events w handed r never runs))

  resume_says : (st : Status) → GoesOnFrom healthy OneSetting source.image names st a c
      → SaysOf (resume_meaning names) st a c
  resume_says st (HasNoMemory is kept) =
      subst (λ (x : Status). SaysOf (resume_meaning names) x a c) (sym is) tt
  resume_says st (HasFault error is fault at status_is kept) =
      subst (λ (x : Status). SaysOf (resume_meaning names) x a c) (sym status_is) kept
  resume_says st (resume.GoesOn fine w handed (IsRefused judged stage quiet kept)) =
      refused_says (resume_meaning names) (resume_usual names) st a c quiet stage
      (λ limit large at same. stops_early limit a c _ at same) kept
  resume_says st (resume.GoesOn fine w handed (Runs events script r is never runs)) =
      let accepts = all_accepted fine events script in
      subst (λ (x : Status). SaysOf (resume_meaning names) x a c) (sym is)
      (run_says (resume_meaning names) a c r (whole events w handed r accepts runs)
      (halts events w handed r accepts runs))

  resume_order : (st : Status) → GoesOnFrom healthy OneSetting source.image names st a c
      → ResumesInOrder names a c
  resume_order st (HasNoMemory is kept) = inl kept
  resume_order st (HasFault error is fault at status_is kept) = inl kept
  resume_order st (resume.GoesOn fine w handed (IsRefused judged stage quiet kept)) = inl kept
  resume_order st (resume.GoesOn fine w handed (Runs events script r is never runs)) = inr (
    source,
    events,
    all_accepted fine events script,
    (
      (w, handed),
      λ v h. runs_begun OneSetting (at_world v) (resume_outputs names) events a c r (runs v h),
    ),
  )

  pub resume_ends : (st : Status) → GoesOnFrom healthy OneSetting source.image names st a c
      → Ends (resume_meaning names) healthy st a c
  resume_ends st went =
      record { says = resume_says st went; in_order = resume_order st went; judged = resume_judged st went }

-- what a refused input says
pub resume_refused : (healthy : Type 0) (names : ResumeNames) (st : Status) (a : Shown)
    → JudgesResumeSource healthy names (Err st) a → JudgesResume healthy names st a
resume_refused healthy names st a h = resume_source_refused healthy names a (SaysOfResume healthy) st h
