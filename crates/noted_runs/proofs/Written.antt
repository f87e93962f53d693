-- A drill is written.
use Rattle.std.proofs.Common.{◌≡◌, ℕ, Bool, List, [], ◌∷◌, refl, sym, ◌∙◌, append-nil, subst}
use Rattle.std.proofs.Common.{inr}
use Rattle.std.proofs.Common.{Result, Ok, Err}
use Rattle.std.specs.Prelude.{⊤, All, IsErrOf, OnOk}
use Rattle.plain_text.specs.declared.limit.Limit.{Limit}
use Rattle.plain_text.specs.declared.packet.Packet.{Packet}
use Rattle.plain_machine.specs.declared.plain_move.PlainMove.{PlainMove}
use Rattle.plain_player.specs.ScheduleText.{schedule_text}
use Rattle.world_io.specs.World.{Shown}
use Rattle.recovery_world.specs.World.{Setting}
use Rattle.output_files.specs.declared.error.OutputError.{OutputError}
use Rattle.output_files.specs.declared.error.OutputError.TheVariants as output
use Rattle.output_files.specs.Writes.{Write, HasWritten, HasBegun}
use Rattle.output_files.specs.Written.{Writes}
use Rattle.output_files.proofs.Effects.{begun_all}
use Rattle.run_writes.specs.declared.error.RunError.{RunError}
use Rattle.run_writes.specs.declared.error.RunError.TheVariants as run
use Rattle.run_writes.specs.Errors.{run_result_of, stopped_result}
use Rattle.run_writes.specs.Run.{OutputNames, FitsRecord, HasFiles}
use Rattle.run_writes.proofs.RunWrites.{stopped_files, whole_files}
use Rattle.noted_runs.specs.declared.drill.Texts.{Texts}
use Rattle.noted_runs.specs.Drill.{drill_writes, HasBegunDrill, HasDrilled, HasStopped, Stopped, StopsAt, Whole}
use Rattle.noted_runs.specs.Drill.{stopped_writes}
use Rattle.noted_runs.specs.Drilled.{ComesTo, WritesDrilled}

-- an error of a drill is a write fault only where that of its outputs is
pub fault_written : (r : Result ⊤ OutputError) → IsErrOf (run_result_of r) run.WriteFault → IsErrOf r output.WriteFault
fault_written (Ok done) h = absurd (cc)
fault_written (Err output.WriteFault) h = refl
fault_written (Err output.NoMemory) h = absurd (cc)

pub fault_stopped : (r : Result ⊤ OutputError) (limit : Limit) → IsErrOf (stopped_result r limit) run.WriteFault
    → IsErrOf r output.WriteFault
fault_stopped (Ok done) limit h = absurd (cc)
fault_stopped (Err output.WriteFault) limit h = refl
fault_stopped (Err output.NoMemory) limit h = absurd (cc)

abbrev failed : RunError → Result ⊤ RunError
failed e = Err e

no_limit : (w : Result ⊤ OutputError) (limit : Limit) → run_result_of w ≡ Err (run.Limit limit) → ⊥
no_limit (Ok done) limit e = cc
no_limit (Err output.WriteFault) limit e = cc
no_limit (Err output.NoMemory) limit e = cc

module _ {V : Type 0} (s : Setting V) (every : ℕ) (table : Bool) (names : OutputNames)
    (apart : names.released ≡ names.schedule → ⊥) (released : List Packet) (a b : Shown) where
  -- the files of a drill that came to its end
  files : (schedule : List PlainMove) (report : List ℕ)
      → HasWritten (drill_writes names s.fractions released (schedule_text schedule) report) a b
      → HasFiles names s.fractions released (schedule_text schedule) report a b
  files schedule report w =
      subst (λ (l : List Packet). HasFiles names s.fractions l (schedule_text schedule) report a b)
      (append-nil released)
      (whole_files names s.fractions apart ((record { released = released; line = [] }) ∷ []) schedule report a b w)

  whole_ok : (texts : Texts) → ComesTo s every table released (Ok texts) → All FitsRecord released
      → HasWritten (drill_writes names s.fractions released texts.schedule texts.report) a b
      → HasDrilled s every table names a b
  whole_ok texts comes fit w = record {
    report = texts.report;
    released = released;
    schedule = comes.0;
    drills = comes.1;
    fit_records = fit;
    fit_lines = comes.3;
    files = files comes.0 texts.report
        (subst (λ (l : List ℕ). HasWritten (drill_writes names s.fractions released l texts.report) a b) comes.2 w);
  }

  pub whole : (r : Result ⊤ RunError) (texts : Result Texts Limit) → ComesTo s every table released texts
      → WritesDrilled r texts released names s.fractions a b → OnOk r (HasDrilled s every table names a b)
  whole r (Ok texts) comes (w, is, fit, written) = subst (λ (x : Result ⊤ RunError).
      OnOk x (HasDrilled s every table names a b)) (sym is) (go w fit written)
    where
      go : (w : Result ⊤ OutputError) → OnOk w (All FitsRecord released)
          → Writes w (drill_writes names s.fractions released texts.schedule texts.report) a b
          → OnOk (run_result_of w) (HasDrilled s every table names a b)
      go (Ok done) fit written = whole_ok texts comes fit written
      go (Err error) fit written = tt
  whole r (Err limit) comes (w, is, written) = subst (λ (x : Result ⊤ RunError).
      OnOk x (HasDrilled s every table names a b)) (sym is) (go w)
    where
      go : (w : Result ⊤ OutputError) → OnOk (stopped_result w limit) (HasDrilled s every table names a b)
      go (Ok done) = tt
      go (Err error) = tt

  pub stopped : (r : Result ⊤ RunError) (texts : Result Texts Limit) (limit : Limit)
      → ComesTo s every table released texts → WritesDrilled r texts released names s.fractions a b
      → r ≡ Err (run.Limit limit) → HasStopped s every names limit a b
  stopped r (Ok texts) limit comes (w, is, fit, written) e = absurd (no_limit w limit (sym is ∙ e))
  stopped r (Err l) limit comes (w, is, written) e = go w written (sym is ∙ e)
    where
      go : (w : Result ⊤ OutputError) → Writes w (stopped_writes names s.fractions released) a b
          → stopped_result w l ≡ Err (run.Limit limit) → HasStopped s every names limit a b
      go (Ok done) written same =
          let one : l ≡ limit = cc in
          record {
            released = released;
            stops = subst (λ (k : Limit). StopsAt s every k released) one comes;
            files = stopped_files names s.fractions apart [] released a b written;
          }
      go (Err output.WriteFault) written same = absurd (cc)
      go (Err output.NoMemory) written same = absurd (cc)

  begun : (w : Result ⊤ OutputError) (writes : List Write) → Writes w writes a b → HasBegun writes a b
  begun (Ok done) writes h = begun_all writes a b h
  begun (Err error) writes h = h

  pub in_order : (r : Result ⊤ RunError) (texts : Result Texts Limit) → ComesTo s every table released texts
      → WritesDrilled r texts released names s.fractions a b → HasBegunDrill s every table names a b
  in_order r (Ok texts) comes (w, is, fit, written) = inr (
    drill_writes names s.fractions released (schedule_text comes.0) texts.report,
    Whole texts.report released comes.0 comes.1,
    begun w _ (subst (λ (l : List ℕ). Writes w (drill_writes names s.fractions released l texts.report) a b) comes.2
        written),
  )
  in_order r (Err l) comes (w, is, written) =
      inr (stopped_writes names s.fractions released, Stopped l released comes, begun w _ written)
