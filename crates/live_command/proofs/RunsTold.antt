-- A run by a plan from its opening to its end, and the files that it leaves.
use Rattle.std.proofs.Common.{◌≡◌, ℕ, ◌≤◌, List, [], ◌∷◌, ◌++◌, refl, sym, ap, ◌∙◌, append-nil, subst, inl, inr, Result}
use Rattle.std.proofs.Common.{Ok, Err, Some}
use Rattle.std.specs.Prelude.{⊤, OnOk}
use Rattle.std.proofs.lemmas.List.Elements.{All-nil}
use Rattle.plain_text.specs.declared.limit.Limit.{Limit}
use Rattle.plain_text.specs.declared.limit.TheConstants.{MOST_EVENTS, MOST_FILE_BYTES}
use Rattle.plain_text.specs.declared.packet.Unit.{Unit as FractionUnit}
use Rattle.plain_machine.specs.Program.{Meaning}
use Rattle.world_io.specs.World.{Shown}
use Rattle.recovery_world.specs.declared.event.Event.{Event}
use Rattle.recovery_world.specs.World.{Setting, World as SystemWorld, opening}
use Rattle.recovery_world.specs.Files.{packets_of}
use Rattle.run_command.specs.FromRecoveryCore.{Systemed}
use Rattle.output_files.specs.declared.error.OutputError.{OutputError}
use Rattle.output_files.specs.declared.error.OutputError.TheVariants as output
use Rattle.output_files.specs.Writes.{report_file, Write, Creates, after_writes, reported, HasWritten, HasBegun}
use Rattle.output_files.proofs.Effects.{Compared, IsSame, Differs, compared, after_more, reported_more, begun_all}
use Rattle.output_files.proofs.Effects.{none_gathered}
use Rattle.run_writes.specs.declared.error.RunError.{RunError}
use Rattle.run_writes.specs.declared.error.RunError.TheVariants as run
use Rattle.run_writes.specs.Errors.{run_error_of, run_result_of}
use Rattle.run_writes.specs.Replies.{Opens, beginning, lines_in, released_in}
use Rattle.run_writes.specs.Run.{FitsRecord, Finishes, HasBegunRun, HasFiles, opening_writes, writes_of}
use Rattle.run_writes.proofs.RunWrites.{captured, has_run, has_stopped, kept, lines_are, same_name, scheduled}
use Rattle.run_writes.proofs.ScriptAnswers.{answers_perform, answers_release}
use Rattle.run_command.specs.Running.{HasCome, IsSystemAt}
use Rattle.script_text.specs.Scripts.{FitsWords, script_text}
use Rattle.plan_script.specs.declared.plan.PlanLine.{PlanLine}
use Rattle.plan_script.specs.Begun.{BeginsNone}
use Rattle.plan_script.specs.Orders.{no_orders}
use Rattle.plan_script.proofs.Performing.{begins_whole}
use Rattle.live_workers.specs.Draws.{generators_of}
use Rattle.live_writes.specs.Outputs.{AreApart, LiveOutputs, holding}
use Rattle.live_writes.specs.Script.{Scripted, SpareName, no_script}
use Rattle.live_writes.specs.Told.{FailsLive, HasBegunLive, HasTold, IsHalted, IsPaused}
use Rattle.live_writes.specs.Whole.{HaltsLive, HasPaused, live_opening}
use Rattle.live_writes.proofs.ScriptSteps.{spared}
use Rattle.live_command.specs.Going.{HasLivedTo}
use Rattle.live_command.specs.Plans.{EndsPlan, LivesInOrder, LivesToLimit, LivesWhole, RunsPlan}
use Rattle.live_command.specs.Telling.{IsLiveScript}
use Rattle.live_command.proofs.ScriptsTold.{live_script}
use Rattle.live_command.proofs.WritingSteps.{all_ahead, text_prefix}

-- The outputs are created

module _ (names : LiveOutputs) (apart : AreApart names) (u : FractionUnit) (old now : Shown) where
  spare_opening : SpareName names.script (opening_writes names.outputs u)
  spare_opening = (apart.released, (apart.released, (apart.schedule, tt)))

  -- beside the script, which is empty, the other outputs were created
  pub opened_beside : HasWritten (live_opening names u) old now
      → HasWritten (opening_writes names.outputs u) (holding names.script [] old) now
  opened_beside w = record {
    names = λ other.
        w.names other
        ∙ after_more other (opening_writes names.outputs u) (Creates names.script ∷ []) (old.names other)
        ∙ go other (compared names.script other);
    report =
        w.report
        ∙ ap (λ (l : List ℕ). old.sent report_file ++ l)
        (reported_more (opening_writes names.outputs u) (Creates names.script ∷ [])
        ∙ append-nil (reported (opening_writes names.outputs u)));
  }
    where
      go : (other : List ℕ) → Compared names.script other
          → after_writes other (Creates names.script ∷ [])
          (after_writes other (opening_writes names.outputs u) (old.names other))
          ≡ after_writes other (opening_writes names.outputs u) ((holding names.script [] old).names other)
      go other (IsSame e is) = rw e (sym (spared other (opening_writes names.outputs u) (Some [])
          (subst (λ (l : List ℕ). SpareName l (opening_writes names.outputs u)) is spare_opening)))
      go other (Differs e unlike) = rw e refl

-- nothing was performed yet, and the outputs are open
pub opened : {P V : Type 0} (m : Meaning V) (s : Setting V) (names : LiveOutputs) (y : Systemed P V) (lines : List ℕ)
    (x : Scripted) (old now : Shown) → AreApart names → lines ≡ [] → x ≡ no_script → IsSystemAt m s (opening V) y
    → s.threads ≤ 16 → HasWritten (live_opening names s.fractions) old now
    → HasLivedTo m s names [] (opening V) y lines x old now
opened {P} {V} m s names y lines x old now apart no_lines none at few w = record {
  told = subst (λ (l : List ℕ). HasTold s names [] [] (opening V) l x old now) (sym no_lines)
      (subst (λ (z : Scripted). HasTold s names [] [] (opening V) [] z old now) (sym none) told);
  at = at;
  few = few;
}
  where
    beside : HasWritten (writes_of names.outputs s.fractions []) (holding names.script [] old) now
    beside =
        subst (λ (ws : List Write). HasWritten ws (holding names.script [] old) now)
        (sym (append-nil (opening_writes names.outputs s.fractions)))
        (opened_beside names apart s.fractions old now w)

    told : HasTold s names [] [] (opening V) [] no_script old now
    told = record {
      replies = [];
      answers = Opens;
      fit_records = All-nil FitsRecord;
      behind = ([], refl);
      fit_words = All-nil FitsWords;
      written = [];
      script_is = refl;
      counted = record { count = refl; size = refl };
      gathered = none_gathered (writes_of names.outputs s.fractions []) (holding names.script [] old) now beside;
      ahead = all_ahead s names [] [] old now ([], refl) (
        writes_of names.outputs s.fractions [],
        inl (record {
          before = [];
          after = [];
          events_are = refl;
          replies = [];
          world = opening V;
          answers = Opens;
          writes_are = refl;
        }),
        begun_all (writes_of names.outputs s.fractions []) (holding names.script [] old) now beside,
      );
    }

-- The run ends

-- under a name that is not of the other outputs stands what stood there
script_kept : (names : LiveOutputs) (apart : AreApart names) (u : FractionUnit) (released schedule report bytes : _)
    (old new : Shown) → HasFiles names.outputs u released schedule report (holding names.script bytes old) new
    → new.names names.script ≡ Some bytes
script_kept names apart u released schedule report bytes old new files =
    files.others names.script (λ e. apart.released (sym e)) (λ e. apart.schedule (sym e))
    ∙ rw (same_name names.script) refl

module _ {P V : Type 0} (m : Meaning V) (s : Setting V) (names : LiveOutputs) (apart : AreApart names)
    (events : List Event) (w : SystemWorld V) (y : Systemed P V) (old : Shown) where
  module _ (lines : List ℕ) (x : Scripted) (now : Shown) (h : HasTold s names events events w lines x old now)
      (none : x.text ≡ []) where
    whole : script_text events ≡ h.written
    whole = h.script_is ∙ ap (λ (l : List ℕ). h.written ++ l) none ∙ append-nil h.written

    -- beside the script, of which all lines are written, the run stands where `run` would
    pub come_beside : IsSystemAt m s w y
        → HasCome m s (beginning V) names.outputs events y lines (holding names.script h.written old) now
    come_beside at = record {
      replies = h.replies;
      world = w;
      answers = h.answers;
      at = at;
      fit_records = h.fit_records;
      gathered = h.gathered;
    }

    module _ (few : x.count ≤ MOST_EVENTS) (short : x.size ≤ MOST_FILE_BYTES) (new : Shown) where
      begun_beside : HasBegunRun s names.outputs events (holding names.script h.written old) new
          → HasBegunLive s names events old new
      begun_beside begun = record {
        written = h.written;
        part = ([], whole ∙ sym (append-nil h.written));
        ahead = all_ahead s names events h.written old new
            ([], sym whole ∙ sym (append-nil (script_text events))) begun;
      }

      pub ends : (files : Result ⊤ OutputError)
          → Finishes files s names.outputs events (holding names.script h.written old) new
          → EndsPlan (run_result_of files) s names events old new
      ends (Ok done) (writes, all, written) =
          let here = subst (λ (l : List ℕ). HasWritten writes (holding names.script l old) new) (sym whole) written in
          let run = has_run s names.outputs events writes (holding names.script (script_text events) old) new
          apart.outputs all here in (
            record {
              run = run;
              script_is = script_kept names apart s.fractions _ _ _ (script_text events) old new run.files;
              fit_words = h.fit_words;
              few = subst (λ (n : ℕ). n ≤ MOST_EVENTS) h.counted.count few;
              short = subst (λ (n : ℕ). n ≤ MOST_FILE_BYTES) h.counted.size short;
            },
            begun_beside (writes, inr (inr all), begun_all writes _ new written),
          )
      ends (Err output.WriteFault) begun = begun_beside begun
      ends (Err output.NoMemory) begun = begun_beside begun

-- the lines of the script could not be written
pub not_ended : {V : Type 0} (r : Result ⊤ RunError) (e : OutputError) (s : Setting V) (names : LiveOutputs)
    (events : List Event) (old new : Shown) → r ≡ Err (run_error_of e) → HasBegunLive s names events old new
    → EndsPlan r s names events old new
not_ended {V} r e s names events old new is begun =
    subst (λ (q : Result ⊤ RunError). EndsPlan q s names events old new) (sym is) begun

-- an end is no limit
pub ends_without : (files : Result ⊤ OutputError) (limit : Limit) → run_result_of files ≡ Err (run.Limit limit) → ⊥
ends_without (Ok done) limit e = cc
ends_without (Err output.WriteFault) limit e = cc
ends_without (Err output.NoMemory) limit e = cc

pub fails_without : (r : Result ⊤ RunError) (e : OutputError) (limit : Limit) → r ≡ Err (run_error_of e)
    → r ≡ Err (run.Limit limit) → ⊥
fails_without r output.WriteFault limit is e = cc
fails_without r output.NoMemory limit is e = cc

-- What the whole run came to

abbrev failed : RunError → Result ⊤ RunError
failed e = Err e

module _ {V : Type 0} (s : Setting V) (may : ℕ → Type 0) (plan : List PlanLine) (names : LiveOutputs)
    (old new : Shown) where
  -- the plan was performed, and the run ended
  pub runs_to_end : (r : Result ⊤ RunError) → ((limit : Limit) → r ≡ Err (run.Limit limit) → ⊥)
      → (events : List Event) (world : SystemWorld V) (draws : _)
      → IsLiveScript s may (opening V) no_orders (generators_of s.seed 0 s.threads) plan events world draws
      → EndsPlan r s names events old new → RunsPlan r s may plan names old new
  runs_to_end (Ok done) no_limit events world draws script (lived, begun) = (
    record { events = events; world = world; draws = draws; script = script; lived = lived },
    record {
      events = events;
      begins = begins_whole s (opening V) world no_orders plan events
          (live_script s may (opening V) world no_orders (generators_of s.seed 0 s.threads) draws plan events script);
      written = inr begun;
    },
  )
  runs_to_end (Err e) no_limit events world draws script begun = (
    events,
    begins_whole s (opening V) world no_orders plan events
        (live_script s may (opening V) world no_orders (generators_of s.seed 0 s.threads) draws plan events script),
    fails e no_limit begun,
  )
    where
      fails : (e : RunError) → ((limit : Limit) → failed e ≡ failed (run.Limit limit) → ⊥)
          → HasBegunLive s names events old new → FailsLive e s names events old new
      fails (run.Limit limit) no_limit begun = absurd (no_limit limit refl)
      fails run.WriteFault no_limit begun = begun
      fails run.NoMemory no_limit begun = begun

-- At a limit

module _ {V : Type 0} (s : Setting V) (names : LiveOutputs) (apart : AreApart names) (old new : Shown) where
  paused : (events : List Event) (next : Event) (limit : Limit) → IsPaused s names events next limit old new
      → HasPaused s names events next limit old new
  paused events next limit p = record {
    report = lines_in p.replies;
    world = p.world;
    performs = answers_perform s events p.replies p.world p.answers;
    passes = p.passes;
    files = files;
    script_is = script_kept names apart s.fractions (packets_of p.world.released) [] (lines_in p.replies)
        (script_text events) old new files;
  }
    where
      before : Shown
      before = holding names.script (script_text events) old

      those : HasFiles names.outputs s.fractions (released_in p.replies) [] (lines_in p.replies) before new
      those = record {
        released_is =
            p.written.names names.outputs.released
            ∙ captured names.outputs s.fractions apart.outputs p.replies (before.names names.outputs.released);
        schedule_is =
            p.written.names names.outputs.schedule
            ∙ scheduled names.outputs s.fractions apart.outputs p.replies (before.names names.outputs.schedule);
        report_is =
            p.written.report
            ∙ ap (λ (l : List ℕ). before.sent report_file ++ l)
            (lines_are names.outputs s.fractions apart.outputs p.replies);
        others = λ name one two.
            p.written.names name
            ∙ kept names.outputs s.fractions apart.outputs p.replies name (before.names name) one two;
      }

      files : HasFiles names.outputs s.fractions (packets_of p.world.released) [] (lines_in p.replies) before new
      files =
          subst (λ (l : _). HasFiles names.outputs s.fractions l [] (lines_in p.replies) before new)
          (sym (answers_release s events p.replies p.world p.answers)) those

  halted : (events : List Event) (limit : Limit) → IsHalted s names events limit old new
      → HaltsLive s names events limit old new
  halted events limit (inl stopped) =
      let all = has_stopped s names.outputs events limit stopped.writes
      (holding names.script (script_text events) old) new apart.outputs stopped.until stopped.written in
      inl (script_kept names apart s.fractions _ _ _ (script_text events) old new all.files, all)
  halted events limit (inr (before, next, is, pause)) = inr (before, next, is, paused before next limit pause)

  -- what was written until then is a first part of what the events leave
  halted_begun : (events : List Event) (limit : Limit) → IsHalted s names events limit old new
      → HasBegunLive s names events old new
  halted_begun events limit (inl stopped) = record {
    written = script_text events;
    part = ([], sym (append-nil (script_text events)));
    ahead = all_ahead s names events (script_text events) old new ([], sym (append-nil (script_text events))) (
      stopped.writes,
      inr (inl (limit, stopped.until)),
      begun_all stopped.writes (holding names.script (script_text events) old) new stopped.written,
    );
  }
  halted_begun events limit (inr (before, next, is, pause)) =
      subst (λ (l : List Event). HasBegunLive s names l old new) (sym is) (record {
        written = script_text before;
        part = text_prefix before (next ∷ []);
        ahead = record {
          first = before;
          rest = next ∷ [];
          events_are = refl;
          lines = ([], sym (append-nil (script_text before)));
          begun = (
            writes_of names.outputs s.fractions pause.replies,
            inl (record {
              before = before;
              after = [];
              events_are = sym (append-nil before);
              replies = pause.replies;
              world = pause.world;
              answers = pause.answers;
              writes_are = refl;
            }),
            begun_all (writes_of names.outputs s.fractions pause.replies)
                (holding names.script (script_text before) old) new pause.written,
          );
        };
      })

  fails_begun : (e : RunError) (events : List Event) → FailsLive e s names events old new
      → HasBegunLive s names events old new
  fails_begun (run.Limit limit) events h = halted_begun events limit h
  fails_begun run.WriteFault events h = h
  fails_begun run.NoMemory events h = h

  module _ (may : ℕ → Type 0) (plan : List PlanLine) where
    pub runs_whole : (r : Result ⊤ RunError) → RunsPlan r s may plan names old new
        → OnOk r (LivesWhole s may plan names old new)
    runs_whole (Ok done) h = h.0
    runs_whole (Err e) h = tt

    pub runs_to_limit : (r : Result ⊤ RunError) (limit : Limit) → RunsPlan r s may plan names old new
        → r ≡ Err (run.Limit limit) → LivesToLimit s plan names limit old new
    runs_to_limit (Ok done) limit h is = absurd (cc)
    runs_to_limit (Err (run.Limit other)) limit (events, begins, fails) is =
        let one : other ≡ limit = cc in
        subst (λ (l : Limit). LivesToLimit s plan names l old new) one
        (record { events = events; begins = begins; halts = halted events other fails })
    runs_to_limit (Err run.WriteFault) limit h is = absurd (cc)
    runs_to_limit (Err run.NoMemory) limit h is = absurd (cc)

    pub runs_in_order : (r : Result ⊤ RunError) → RunsPlan r s may plan names old new
        → LivesInOrder s plan names old new
    runs_in_order (Ok done) h = h.1
    runs_in_order (Err e) (events, begins, fails) =
        record { events = events; begins = begins; written = inr (fails_begun e events fails) }

-- the outputs could not be created, or nothing was yet
pub opens_in_order : {V : Type 0} (s : Setting V) (plan : List PlanLine) (names : LiveOutputs) (old new : Shown)
    → HasBegun (live_opening names s.fractions) old new → LivesInOrder s plan names old new
opens_in_order {V} s plan names old new begun =
    record { events = []; begins = BeginsNone (opening V) no_orders plan; written = inl begun }
