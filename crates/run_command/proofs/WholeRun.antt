-- A run from its opening to its end.
use Rattle.std.proofs.Common.{◌≡◌, ℕ, List, [], ◌∷◌, refl, sym, ◌∙◌, append-nil, subst, inl, inr, Result, Ok, Err}
use Rattle.std.specs.Prelude.{⊤, IsErrOf, OnOk}
use Rattle.std.proofs.lemmas.List.Elements.{All-nil}
use Rattle.plain_text.specs.declared.limit.Limit.{Limit}
use Rattle.plain_text.specs.declared.packet.Unit.{Unit as FractionUnit}
use Rattle.access_log.specs.declared.entry.Output.{Output}
use Rattle.plain_machine.specs.Program.{Meaning}
use Rattle.world_io.specs.World.{Shown}
use Rattle.recovery_world.specs.declared.event.Event.{Event}
use Rattle.recovery_world.specs.World.{Setting, World as SystemWorld, opening}
use Rattle.recovery_core.specs.Systems.{Systemed}
use Rattle.recovery_core.specs.Systems.{SystemStands}
use Rattle.output_files.specs.declared.error.OutputError.{OutputError}
use Rattle.output_files.specs.declared.error.OutputError.TheVariants as output
use Rattle.output_files.specs.Writes.{Write, HasWritten, HasBegun, HasGathered}
use Rattle.output_files.proofs.Effects.{begun_all, begun_before, none_gathered}
use Rattle.run_writes.specs.declared.error.RunError.{RunError}
use Rattle.run_writes.specs.declared.error.RunError.TheVariants as run
use Rattle.run_writes.specs.Errors.{run_error_of, run_result_of}
use Rattle.run_writes.specs.declared.opening.OutputFiles.{OutputFiles}
use Rattle.run_writes.specs.Replies.{Opens, Point, at_world, beginning}
use Rattle.run_writes.specs.Run.{OutputNames, FitsRecord, opening_writes, writes_of, HasRun, HasStopped, HasBegunFrom}
use Rattle.run_writes.specs.Run.{FinishesFrom}
use Rattle.run_writes.specs.Replies.{packets_in}
use Rattle.run_command.specs.Running.{IsSystemAt, HasCome, HasBegunSome, GoesOn, RunsFrom, StoppedThere}
use Rattle.run_writes.proofs.RunWrites.{has_run, has_stopped}

no_outputs : (outputs : List Output) → packets_in outputs ≡ [] → outputs ≡ []
no_outputs [] e = refl
no_outputs (o ∷ outputs) e = absurd (cc)

-- a new system is at the opening
pub opens_at : {P V : Type 0} (m : Meaning V) (s : Setting V) (y : Systemed P V) → SystemStands m s (opening V) y
    → y.handed ≡ 0 → IsSystemAt m s (opening V) y
opens_at m s y stands handed = record {
  stands = stands;
  fresh = no_outputs y.fresh (stands.released.fresh ∙ rw handed refl);
  handed = handed;
}

-- nothing was performed yet, and the outputs are open
pub opens : {P V : Type 0} (m : Meaning V) (s : Setting V) (w : SystemWorld V) (names : OutputNames)
    (y : Systemed P V) (lines : List ℕ) (u : FractionUnit) (a b : Shown) → lines ≡ [] → IsSystemAt m s w y
    → s.fractions ≡ u → HasWritten (opening_writes names u) a b → HasCome m s (at_world w) names [] y lines a b
opens {P} {V} m s w names y lines u a b none at unit written = record {
  replies = [];
  world = w;
  answers = Opens;
  at = at;
  fit_records = All-nil FitsRecord;
  gathered = subst (λ (l : List ℕ). HasGathered (writes_of names s.fractions []) l a b) (sym none)
      (none_gathered (writes_of names s.fractions []) a b
      (subst (λ (ws : List Write). HasWritten ws a b) (sym (append-nil (opening_writes names s.fractions)))
      (subst (λ (x : FractionUnit). HasWritten (opening_writes names x) a b) (sym unit) written)));
}

-- the outputs could not be opened, so nothing was performed
pub not_opened : {A P V : Type 0} (r : Result A RunError) (error : OutputError) (m : Meaning V) (s : Setting V)
    (w : SystemWorld V) (names : OutputNames) (events : List Event) (y : Systemed P V) (lines : List ℕ)
    (u : FractionUnit) (a b : Shown) → r ≡ Err (run_error_of error) → s.fractions ≡ u
    → HasBegun (opening_writes names u) a b → GoesOn r m s (at_world w) names events y lines a b
not_opened {A} {P} {V} r error m s w names events y lines u a b is unit begun =
    subst (λ (x : Result A RunError). GoesOn x m s (at_world w) names events y lines a b) (sym is) (go error)
  where
    none : HasBegunSome s (at_world w) names events a b
    none = (
      writes_of names s.fractions [],
      inl (record {
        before = [];
        after = events;
        events_are = refl;
        replies = [];
        world = w;
        answers = Opens;
        writes_are = refl;
      }),
      begun_before (opening_writes names s.fractions) [] a b
          (subst (λ (x : FractionUnit). HasBegun (opening_writes names x) a b) (sym unit) begun),
    )

    go : (error : OutputError) → GoesOn {A = A} (Err (run_error_of error)) m s (at_world w) names events y lines a b
    go output.WriteFault = none
    go output.NoMemory = none

-- an error is one of whatever it stands for
pub same_error : {B P V : Type 0} (r : Result B RunError) (e : RunError) (m : Meaning V) (s : Setting V)
    (from : Point V) (names : OutputNames) (events : List Event) (y : Systemed P V) (lines : List ℕ) (a b : Shown)
    → r ≡ Err e → GoesOn {A = ⊤} (Err e) m s from names events y lines a b
    → GoesOn r m s from names events y lines a b
same_error {B} {P} {V} r e m s from names events y lines a b is h =
    subst (λ (x : Result B RunError). GoesOn x m s from names events y lines a b) (sym is) (go e h)
  where
    go : (e : RunError) → GoesOn {A = ⊤} (Err e) m s from names events y lines a b
        → GoesOn {A = B} (Err e) m s from names events y lines a b
    go (run.Limit limit) h = h
    go run.WriteFault h = h
    go run.NoMemory h = h

module _ {V : Type 0} (s : Setting V) (from : Point V) (names : OutputNames) (events : List Event) (a b : Shown) where
  -- the run was finished, or its end could not be written
  pub finished_runs : (w : Result ⊤ OutputError) → FinishesFrom w s from names events a b
      → RunsFrom (run_result_of w) s from names events a b
  finished_runs (Ok done) h = h
  finished_runs (Err output.WriteFault) h = h
  finished_runs (Err output.NoMemory) h = h

  some_begun : HasBegunSome s from names events a b → HasBegunFrom s from names events a b
  some_begun (writes, (inl some), begun) = (writes, inl some, begun)
  some_begun (writes, (inr until), begun) = (writes, inr (inl until), begun)

  -- its events came to no end
  pub stopped_runs : {P : Type 0} (m : Meaning V) (y : Systemed P V) (lines : List ℕ) (e : RunError)
      → GoesOn {A = OutputFiles} (Err e) m s from names events y lines a b → RunsFrom (Err e) s from names events a b
  stopped_runs {P} m y lines (run.Limit l) h = h
  stopped_runs {P} m y lines run.WriteFault h = some_begun h
  stopped_runs {P} m y lines run.NoMemory h = some_begun h

  -- a first part was written, whatever it came to
  pub runs_begun : (r : Result ⊤ RunError) → RunsFrom r s from names events a b
      → HasBegunFrom s from names events a b
  runs_begun (Ok done) h = (h.0, inr (inr h.1), begun_all h.0 a b h.2)
  runs_begun (Err (run.Limit l)) h = (h.writes, inr (inl (l, h.until)), begun_all h.writes a b h.written)
  runs_begun (Err run.WriteFault) h = h
  runs_begun (Err run.NoMemory) h = h

module _ {V : Type 0} (s : Setting V) (names : OutputNames) (events : List Event)
    (apart : names.released ≡ names.schedule → ⊥) (a b : Shown) where
  pub runs_whole : (r : Result ⊤ RunError) → RunsFrom r s (beginning V) names events a b
      → OnOk r (HasRun s names events a b)
  runs_whole (Ok done) h = has_run s names events h.0 a b apart h.1 h.2
  runs_whole (Err error) h = tt

  pub runs_limit : (r : Result ⊤ RunError) (limit : Limit) → RunsFrom r s (beginning V) names events a b
      → r ≡ Err (run.Limit limit) → HasStopped s names events limit a b
  runs_limit r limit h is =
      let stopped : StoppedThere s (beginning V) names events limit a b =
      subst (λ (x : Result ⊤ RunError). RunsFrom x s (beginning V) names events a b) is h in
      has_stopped s names events limit stopped.writes a b apart stopped.until stopped.written

-- a run whose outputs could not be opened has a write fault only where they had one
pub fault_opened : {A B : Type 0} (w : Result B RunError) (r : Result A OutputError) (e : OutputError)
    → w ≡ Err (run_error_of e) → r ≡ Err e → IsErrOf w run.WriteFault → IsErrOf r output.WriteFault
fault_opened w r output.WriteFault made was fault = was
fault_opened w r output.NoMemory made was fault = absurd (cc)
