-- What the status of `live` says, and what it leaves: from before its inputs were read.
use Rattle.std.proofs.Common.{◌≡◌, ◌⊎◌, ℕ, List, [], ◌∷◌, Option, None, Some, refl, sym, ap, ◌∙◌, inl, inr, rules}
use Rattle.std.proofs.Common.{Result}
use Rattle.std.proofs.Common.{Ok, Err, if◌then◌else◌}
use Rattle.std.specs.Prelude.{⊤, IfSome, IsErrOf, OnOk}
use Rattle.std.specs.Str.{bytes_eq}
use Rattle.plain_text.specs.declared.limit.Limit.{Limit}
use Rattle.world_io.specs.World.{Shown}
use Rattle.recovery_world.specs.declared.event.Event.{Event}
use Rattle.recovery_world.specs.World.{Setting}
use Rattle.output_files.proofs.Effects.{Compared, compared, IsSame, Differs}
use Rattle.run_writes.specs.declared.error.RunError.{RunError}
use Rattle.run_writes.specs.declared.error.RunError.TheVariants as run_error
use Rattle.input_files.specs.Files.{KeepsOutputs}
use Rattle.plan_script.specs.declared.plan.PlanLine.{PlanLine}
use Rattle.live_writes.specs.Outputs.{LiveOutputs, holding}
use Rattle.live_writes.specs.Told.{HasBegunLive}
use Rattle.live_writes.specs.Whole.{BeginsLive, HaltsLive, HasLived, live_opening}
use Rattle.live_command.specs.Plans.{LivesInOrder, LivesToLimit, LivesWhole}
use Rattle.live_writes.specs.Script.{SpareName}
use Rattle.live_writes.proofs.ScriptSteps.{spare_cut, spared}
use Rattle.live_command.proofs.WritingSteps.{spare_run}
use Rattle.live_command.proofs.ScriptsTold.{live_script}
use Rattle.job_commands.specs.declared.live_inputs.LiveInputs.{LiveInputs}
use Rattle.job_commands.specs.declared.status.Status.{Status}
use Rattle.job_commands.specs.declared.status.Status.TheVariants as status
use Rattle.job_commands.specs.ChainWords.{ChainNames, chain_names}
use Rattle.job_commands.specs.HandWords.{HandNames, ResumeNames, hand_names, resume_names}
use Rattle.job_commands.specs.Live.{AcceptsLiveInputs, JudgesLiveInputs}
use Rattle.job_commands.specs.Status.{Completes, run_outcome}
use Rattle.job_commands.specs.Words.{CheckNames, DrillNames, IfAsks, LiveNames, Lives, MakeNames, PlayNames, RunNames}
use Rattle.job_commands.specs.Words.{PictureNames, TraceNames, asked, picture_names, trace_names}
use Rattle.job_commands.specs.Words.{check_names, drill_names, live_names, make_names, one_of, play_names, run_names}
use Rattle.job_commands.proofs.LiveFiles.{live_pass}
use Rattle.job_commands.proofs.Outcomes.{begun_since, begun_writes_since, run_since, stopped_since, files_since}
use Rattle.job_top.specs.Live.{EventsStop, JudgesLive, KeepsLiveNames, LivesFiles, LivesOrder, SaysOfRun}
use Rattle.job_top.specs.Live.{live_outputs, live_setting}
use Rattle.job_commands.specs.Meanings.{CommandMeaning}
use Rattle.job_commands.specs.Words.{Asked, Runs, Makes, Plays, Checks, Drills, Traces, Draws, Chains, Hands, Resumes}
use Rattle.job_commands.proofs.Usual.{Ends, IsUsual, run_says}
use Rattle.job_top.specs.Commands.{meaning_of}
use Rattle.job_top.specs.Live.{KeepsLivePromise, live_meaning}
use Rattle.job_top.proofs.Promise.{live_promise}

-- The files are as they were when the inputs had been read.
module _ (a b c : Shown) (keeps : KeepsOutputs a b) where
  held : (name bytes : List ℕ) → KeepsOutputs (holding name bytes a) (holding name bytes b)
  held name bytes = record {
    names = ap (λ (f : List ℕ → Option (List ℕ)). λ other. if bytes_eq name other then Some bytes else f other)
        keeps.names;
    sent = keeps.sent;
    name_of = keeps.name_of;
  }

  lived_since : {V : Type 0} (s : Setting V) (names : LiveOutputs) (events : List Event)
      → HasLived s names events b c → HasLived s names events a c
  lived_since s names events r = record {
    run = run_since _ _ c (held names.script _) s names.outputs events r.run;
    script_is = r.script_is;
    fit_words = r.fit_words;
    few = r.few;
    short = r.short;
  }

  pub whole_lived : {V : Type 0} (s : Setting V) (may : ℕ → Type 0) (plan : List PlanLine) (names : LiveOutputs)
      (r : Result ⊤ RunError) → OnOk r (LivesWhole s may plan names b c) → OnOk r (LivesWhole s may plan names a c)
  whole_lived s may plan names (Ok done) r = record {
    events = r.events;
    world = r.world;
    draws = r.draws;
    script = r.script;
    lived = lived_since s names r.events r.lived;
  }
  whole_lived s may plan names (Err e) r = tt

  halts_since : {V : Type 0} (s : Setting V) (names : LiveOutputs) (events : List Event) (limit : Limit)
      → HaltsLive s names events limit b c → HaltsLive s names events limit a c
  halts_since s names events limit (inl (script_is, stopped)) =
      inl (script_is, stopped_since _ _ c (held names.script _) s names.outputs events limit stopped)
  halts_since s names events limit (inr (before, next, is, paused)) = inr (
    before,
    next,
    is,
    record {
      report = paused.report;
      world = paused.world;
      performs = paused.performs;
      passes = paused.passes;
      files = files_since _ _ c (held names.script _) names.outputs s.fractions _ [] paused.report paused.files;
      script_is = paused.script_is;
    },
  )

  pub limit_lived : {V : Type 0} (s : Setting V) (plan : List PlanLine) (names : LiveOutputs) (limit : Limit)
      → LivesToLimit s plan names limit b c → LivesToLimit s plan names limit a c
  limit_lived s plan names limit r = record {
    events = r.events;
    begins = r.begins;
    halts = halts_since s names r.events limit r.halts;
  }

  begun_lived : {V : Type 0} (s : Setting V) (names : LiveOutputs) (events : List Event)
      → HasBegunLive s names events b c → HasBegunLive s names events a c
  begun_lived s names events h = record {
    written = h.written;
    part = h.part;
    ahead = record {
      first = h.ahead.first;
      rest = h.ahead.rest;
      events_are = h.ahead.events_are;
      lines = h.ahead.lines;
      begun = begun_since _ _ c (held names.script _) s names.outputs h.ahead.first h.ahead.begun;
    };
  }

  pub order_lived : {V : Type 0} (s : Setting V) (plan : List PlanLine) (names : LiveOutputs)
      → LivesInOrder s plan names b c → LivesInOrder s plan names a c
  order_lived s plan names r = record { events = r.events; begins = r.begins; written = go r.written }
    where
      go : BeginsLive s names r.events b c → BeginsLive s names r.events a c
      go (inl begun) = inl (begun_writes_since a b c keeps (live_opening names s.fractions) begun)
      go (inr begun) = inr (begun_lived s names r.events begun)

-- The status of the run, where its inputs are accepted.

module _ (healthy : Type 0) (may : ℕ → Type 0) (names : LiveNames) (inputs : LiveInputs) (a c : Shown)
    (accepted : AcceptsLiveInputs names inputs a) where
  behind : (s : Status) → SaysOfRun healthy inputs s → JudgesLive healthy names s a
  behind s says = inr (
    inputs.conf,
    accepted.box_accepted,
    inr (inputs.capture, accepted.capture_accepted, inr (inputs.plan, accepted.plan_accepted, says)),
  )

  live_judged : (r : Result ⊤ RunError) → (healthy → ¬ IsErrOf r run_error.WriteFault)
      → OnOk r (LivesWhole (live_setting inputs) may inputs.plan (live_outputs names) a c)
      → ((limit : Limit) → r ≡ Err (run_error.Limit limit)
      → LivesToLimit (live_setting inputs) inputs.plan (live_outputs names) limit a c)
      → JudgesLive healthy names (run_outcome r) a
  live_judged (Ok done) never whole limit = behind status.Done (
    whole.events,
    whole.world,
    live_script (live_setting inputs) may _ _ _ _ _ _ _ whole.script,
    whole.lived.run.report,
    whole.lived.run.released,
    whole.lived.run.schedule,
    whole.lived.run.leaves,
  )
  live_judged (Err (run_error.Limit l)) never whole limit = behind (status.TooLarge l) (
    (limit l refl).events,
    (limit l refl).begins,
    go (limit l refl).events (limit l refl).halts,
  )
    where
      go : (events : List Event) → HaltsLive (live_setting inputs) (live_outputs names) events l a c
          → EventsStop inputs events l
      go events (inl (script_is, stopped)) = inl (stopped.report, stopped.released, stopped.leaves)
      go events (inr (before, next, is, paused)) = inr (before, next, is, rw is paused.passes)
  live_judged (Err run_error.WriteFault) never whole limit = behind status.WriteFault (λ ok. never ok refl)
  live_judged (Err run_error.NoMemory) never whole limit = behind status.NoMemory tt

  whole : (r : Result ⊤ RunError)
      → OnOk r (LivesWhole (live_setting inputs) may inputs.plan (live_outputs names) a c)
      → OnOk r (LivesFiles may names a c × KeepsLivePromise names a c)
  whole (Ok done) run =
      let all : LivesFiles may names a c = (inputs, accepted, run) in (all, live_promise may names a c all)
  whole (Err error) run = tt

  pub live_ends : (r : Result ⊤ RunError) → (healthy → ¬ IsErrOf r run_error.WriteFault)
      → OnOk r (LivesWhole (live_setting inputs) may inputs.plan (live_outputs names) a c)
      → ((limit : Limit) → r ≡ Err (run_error.Limit limit)
      → LivesToLimit (live_setting inputs) inputs.plan (live_outputs names) limit a c)
      → LivesInOrder (live_setting inputs) inputs.plan (live_outputs names) a c
      → Ends (live_meaning may names) healthy (run_outcome r) a c
  live_ends r never run limit begun = record {
    says = run_says (live_meaning may names) a c r (whole r run) (λ l is. inr (inputs, accepted, limit l is));
    in_order = inr (inputs, accepted, begun);
    judged = live_judged r never run limit;
  }

-- what a refused input says
pub live_refused : (healthy : Type 0) (names : LiveNames) (s : Status) (a : Shown)
    → JudgesLiveInputs healthy names (Err s) a → JudgesLive healthy names s a
live_refused healthy names s a (inl box) = inl box
live_refused healthy names s a (inr (conf, box, inl capture)) = inr (conf, box, inl capture)
live_refused healthy names s a (inr (conf, box, inr (capture, at, inl plan))) =
    inr (conf, box, inr (capture, at, inl plan))
live_refused healthy names s a (inr (conf, box, inr (capture, at, inr (plan, accepted, none)))) = absurd none

-- Other names

spare_opening : (names : LiveNames) (u : _) (name : List ℕ) → ¬ (name ≡ names.released) → ¬ (name ≡ names.schedule)
    → ¬ (name ≡ names.script) → SpareName name (live_opening (live_outputs names) u)
spare_opening names u name one two three =
    ((λ e. one (sym e)), ((λ e. one (sym e)), ((λ e. two (sym e)), ((λ e. three (sym e)), tt))))

not_held : (name other bytes : List ℕ) (a : Shown) → ¬ (name ≡ other)
    → (holding other bytes a).names name ≡ a.names name
not_held name other bytes a apart = go (compared other name)
  where
    go : Compared other name → (holding other bytes a).names name ≡ a.names name
    go (IsSame e same) = absurd (apart (sym same))
    go (Differs e differ) = rw e refl

pub live_others : (names : LiveNames) (a b : Shown) → LivesOrder names a b → KeepsLiveNames names a b
live_others names a b (inl kept) name one two three = ap (λ f. f name) kept.names
live_others names a b (inr (inputs, accepted, r)) name one two three = go r.written
  where
    go : BeginsLive (live_setting inputs) (live_outputs names) r.events a b → b.names name ≡ a.names name
    go (inl begun) =
        begun.written.names name
        ∙ spared name begun.done (a.names name) (spare_cut name begun.done
        (live_opening (live_outputs names) (live_setting inputs).fractions)
        (spare_opening names (live_setting inputs).fractions name one two three) begun.cut)
    go (inr h) =
        h.ahead.begun.2.written.names name
        ∙ spared name h.ahead.begun.2.done ((holding names.script h.written a).names name) (spare_cut name
        h.ahead.begun.2.done h.ahead.begun.0
        (spare_run (live_setting inputs) (live_outputs names).outputs name (λ e. one (sym e)) (λ e. two (sym e))
        h.ahead.first h.ahead.begun.0 h.ahead.begun.1) h.ahead.begun.2.cut)
        ∙ not_held name names.script h.written a three

-- What the words ask for

pub lives_asked : (words : List (List ℕ)) (names : LiveNames) → live_names words ≡ Some names
    → asked words ≡ Some (Lives names)
lives_asked [] names h = absurd (cc)
lives_asked (a ∷ []) names h = absurd (cc)
lives_asked (a ∷ b ∷ []) names h = absurd (cc)
lives_asked (a ∷ b ∷ c ∷ []) names h = absurd (cc)
lives_asked (a ∷ b ∷ c ∷ d ∷ []) names h = absurd (cc)
lives_asked (a ∷ b ∷ c ∷ d ∷ e ∷ []) names h = absurd (cc)
lives_asked (a ∷ b ∷ c ∷ d ∷ e ∷ f ∷ []) names h = absurd (cc)
lives_asked (a ∷ b ∷ c ∷ d ∷ e ∷ f ∷ g ∷ []) names h = rw h refl
lives_asked (a ∷ b ∷ c ∷ d ∷ e ∷ f ∷ g ∷ i ∷ more) names h = absurd (cc)

-- words that are not those of `live` do not ask for it
pub not_lives : (run : Option RunNames) (live : Option LiveNames) (make : Option MakeNames) (play : Option PlayNames)
    (check : Option CheckNames) (drill : Option DrillNames) (trace : Option TraceNames)
    (picture : Option PictureNames) (chain : Option ChainNames) (hand : Option HandNames)
    (resume : Option ResumeNames) (names : LiveNames) → live ≡ None
    → one_of run live make play check drill trace picture chain hand resume ≡ Some (Lives names) → ⊥
not_lives run (Some l) make play check drill trace picture chain hand resume names none is = absurd (cc)
not_lives (Some r) None make play check drill trace picture chain hand resume names none is = absurd (cc)
not_lives None None (Some m) play check drill trace picture chain hand resume names none is = absurd (cc)
not_lives None None None (Some p) check drill trace picture chain hand resume names none is = absurd (cc)
not_lives None None None None (Some c) drill trace picture chain hand resume names none is = absurd (cc)
not_lives None None None None None (Some d) trace picture chain hand resume names none is = absurd (cc)
not_lives None None None None None None (Some t) picture chain hand resume names none is = absurd (cc)
not_lives None None None None None None None (Some v) chain hand resume names none is = absurd (cc)
not_lives None None None None None None None None (Some n) hand resume names none is = absurd (cc)
not_lives None None None None None None None None None (Some h) resume names none is = absurd (cc)
not_lives None None None None None None None None None None (Some r) names none is = absurd (cc)
not_lives None None None None None None None None None None None names none is = absurd (cc)

-- What the other commands mean does not hang on the clock.
pub mean_any : (Holds : CommandMeaning → Type 0) (may : ℕ → Type 0) (words : List (List ℕ)) → live_names words ≡ None
    → IfAsks words (λ command. Holds (meaning_of (λ t. ⊥) command))
    → IfAsks words (λ command. Holds (meaning_of may command))
mean_any Holds may words none = go (asked words) (λ names.
    not_lives (run_names words) (live_names words) (make_names words) (play_names words) (check_names words)
    (drill_names words) (trace_names words) (picture_names words) (chain_names words) (hand_names words)
    (resume_names words) names none)
  where
    go : (some : Option Asked) → ((names : LiveNames) → some ≡ Some (Lives names) → ⊥)
        → IfSome some (λ command. Holds (meaning_of (λ t. ⊥) command))
        → IfSome some (λ command. Holds (meaning_of may command))
    go None other h = h
    go (Some (Runs names)) other h = h
    go (Some (Lives names)) other h = absurd (other names refl)
    go (Some (Makes names)) other h = h
    go (Some (Plays names)) other h = h
    go (Some (Checks names)) other h = h
    go (Some (Drills names)) other h = h
    go (Some (Traces names)) other h = h
    go (Some (Draws names)) other h = h
    go (Some (Chains names)) other h = h
    go (Some (Hands names)) other h = h
    go (Some (Resumes names)) other h = h

-- where all inputs are accepted, in a healthy world
pub live_completes : (healthy : Type 0) (names : LiveNames) (shown : Shown) → healthy → (inputs : LiveInputs)
    → AcceptsLiveInputs names inputs shown → (s : Status) → JudgesLive healthy names s shown
    → Completes s ⊎ ((limit : Limit) × (s ≡ status.TooLarge limit))
live_completes healthy names shown ok inputs a s h =
    go (live_pass healthy names shown (SaysOfRun healthy) ok inputs a s h)
  where
    on : (s : Status) → SaysOfRun healthy inputs s → Completes s ⊎ ((limit : Limit) × (s ≡ status.TooLarge limit))
    on status.Done says = inl (inl refl)
    on (status.Refuted refutation) says = absurd says
    on status.BadWords says = absurd says
    on status.ReadFault says = absurd says
    on status.WriteFault says = absurd (says ok)
    on status.NoMemory says = inl (inr refl)
    on (status.BadInput fault) says = absurd says
    on (status.TooLarge limit) says = inr (limit, refl)
    on (status.Unready unready) says = absurd says

    go : (s ≡ status.NoMemory) ⊎ SaysOfRun healthy inputs s
        → Completes s ⊎ ((limit : Limit) × (s ≡ status.TooLarge limit))
    go (inl none) = inl (inr none)
    go (inr says) = on s says

pub live_usual : (may : ℕ → Type 0) (names : LiveNames) → IsUsual (live_meaning may names)
live_usual may names = record {
  few = search rules;
  begins = λ old new same. inl same;
  others = live_others names;
  completes = λ healthy shown ok accepts. live_completes healthy names shown ok accepts.0 accepts.1;
}
