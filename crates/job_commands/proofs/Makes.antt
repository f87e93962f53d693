-- What the command `make` comes to, from what it writes.
use Rattle.std.proofs.Common.{[], append-nil, refl, sym, ◌∙◌, inl, inr, Result, Ok, Err}
use Rattle.std.specs.Prelude.{⊤, IsErrOf}
use Rattle.input_files.proofs.OnlyReading.{OpensFirst-none}
use Rattle.world_io.specs.World.{Start, Shown, Ledger, WritingFailed}
use Rattle.output_files.specs.declared.error.OutputError.{OutputError}
use Rattle.output_files.specs.declared.error.OutputError.TheVariants as output
use Rattle.output_files.specs.Writes.{HasBegun}
use Rattle.output_files.specs.Written.{Writes, WritesFiles}
use Rattle.output_files.proofs.Effects.{begun_all}
use Rattle.job_commands.specs.Answers.{AnswersAs, Counts, SaysOf}
use Rattle.job_commands.specs.Making.{made_writes, make_meaning}
use Rattle.job_commands.specs.Status.{AtOutputs, ComesAt, outcome_of}
use Rattle.job_commands.specs.Words.{MakeNames}
use Rattle.job_commands.proofs.Others.{made_others}
use Rattle.job_commands.proofs.Outcomes.{made_completes}

module _ (names : MakeNames) where
  says : (old new : Shown) (r : Result ⊤ OutputError) → Writes r (made_writes names) old new
      → SaysOf (make_meaning names) (outcome_of r) old new
  says old new (Ok done) written = (written, tt)
  says old new (Err output.WriteFault) begun = tt
  says old new (Err output.NoMemory) begun = tt

  in_order : (old new : Shown) (r : Result ⊤ OutputError) → Writes r (made_writes names) old new
      → HasBegun (made_writes names) old new
  in_order old new (Ok done) written = begun_all (made_writes names) old new written
  in_order old new (Err error) begun = begun

  judged : (r : Result ⊤ OutputError) → ComesAt AtOutputs (outcome_of r)
  judged (Ok done) = inl refl
  judged (Err output.WriteFault) = inl refl
  judged (Err output.NoMemory) = inr refl

  module _ {W : Type 0} (honest : Start → W → Type 0) (shows : Start → W → Shown) (ledger : W → Ledger)
      (healthy : W → Type 0) (old new : W) (writes : WritesFiles ledger healthy 1 old new) where
    counts : (r : Result ⊤ OutputError) → (IsErrOf r output.WriteFault → WritingFailed ledger healthy old new)
        → Counts ledger healthy (make_meaning names) (outcome_of r) old new
    counts (Ok done) cause = writes.ledger.opened_names ∙ sym (append-nil _)
    counts (Err output.WriteFault) cause = cause refl
    counts (Err output.NoMemory) cause = tt

    pub made_answers : (r : Result ⊤ OutputError)
        → (IsErrOf r output.WriteFault → WritingFailed ledger healthy old new)
        → ((p : Start) → honest p new → Writes r (made_writes names) (shows p old) (shows p new))
        → ((p : Start) → honest p new → honest p old)
        → AnswersAs honest shows ledger healthy (make_meaning names) (outcome_of r) old new
    made_answers r cause written before = record {
      bytes = λ p q.
          let begun = in_order (shows p old) (shows p new) r (written p q) in
          record {
            says = says (shows p old) (shows p new) r (written p q);
            in_order = begun;
            others = made_others names (shows p old) (shows p new) begun;
            judged = judged r;
            completes = λ ok accepts. made_completes r (λ fault. (cause fault).not_healthy ok);
          };
      before = before;
      counts = counts r cause;
      opens_in_order = OpensFirst-none [] _ _ writes.ledger.opened_names;
      orderly = λ none. writes.ledger.orderly;
      given = writes.ledger.given;
    }
