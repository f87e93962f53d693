-- What the command `play` comes to, from what is played.
use Rattle.std.proofs.Common.{◌≡◌, List, refl, sym, ap, ◌∙◌, subst, ◌⊎◌, inl, inr, Result, Ok, Err, rules}
use Rattle.std.specs.Prelude.{⊤, IsErrOf, OnOk}
use Rattle.plain_machine.specs.declared.plain_move.PlayFault.{PlayFault}
use Rattle.plain_machine.specs.History.{Step}
use Rattle.world_io.specs.World.{Ledger, Shown, WritingFailed}
use Rattle.schedule_commands.specs.declared.error.ScheduleError.{ScheduleError}
use Rattle.schedule_commands.specs.declared.error.ScheduleError.TheVariants as error
use Rattle.schedule_commands.specs.Playing.{SaysPlay, HasPlayed, HasBegunPlay, emitted_writes}
use Rattle.input_files.specs.Files.{KeepsOutputs, OnlyReads, OpensAll}
use Rattle.output_files.specs.Written.{WritesFiles}
use Rattle.job_commands.specs.declared.schedule_inputs.ScheduleInputs.{ScheduleInputs}
use Rattle.job_commands.specs.declared.status.Status.{Status}
use Rattle.job_commands.specs.declared.status.Status.TheVariants as status
use Rattle.job_commands.specs.declared.status.InputFault.TheVariants as input
use Rattle.job_commands.specs.Answers.{Counts, SaysOf}
use Rattle.job_commands.specs.Judging.{IsDecided}
use Rattle.job_commands.specs.Schedules.{AcceptsScheduleInputs, EndsPlay, JudgesPlay, PlaysInOrder}
use Rattle.job_commands.specs.Schedules.{outcome_for, play_meaning}
use Rattle.job_commands.specs.Status.{Completes, play_outcome}
use Rattle.job_commands.specs.Words.{PlayNames, schedule_inputs}
use Rattle.job_commands.proofs.Failing.{failed_since}
use Rattle.job_commands.proofs.FilesInTurn.{three_accepted, three_one, three_pass}
use Rattle.job_commands.proofs.Others.{play_others}
use Rattle.job_commands.proofs.Outcomes.{written_since, begun_writes_since, kept_shown}
use Rattle.job_commands.proofs.Usual.{Ends, IsUsual}

-- The status, where the inputs are accepted.

module _ (healthy : Type 0) (names : PlayNames) (inputs : ScheduleInputs) (a b c : Shown) (keeps : KeepsOutputs a b)
    (accepts : AcceptsScheduleInputs names.files inputs a) where
  play_judged : (r : Result ⊤ (ScheduleError PlayFault)) → SaysPlay (outcome_for inputs) r
      → (healthy → ¬ IsErrOf r error.WriteFault) → JudgesPlay healthy names (play_outcome r) a
  play_judged r says never =
      three_accepted healthy names.files a (EndsPlay healthy) inputs (play_outcome r) accepts (r, says, never, refl)

  play_says : (r : Result ⊤ (ScheduleError PlayFault))
      → OnOk r (HasPlayed (outcome_for inputs) names.out inputs.capture.unit b c)
      → ((fault : PlayFault) → r ≡ Err (error.Refused fault) → b ≡ c)
      → SaysOf (play_meaning names) (play_outcome r) a c
  play_says (Ok done) played same = (
    (
      inputs,
      accepts,
      record {
        steps = played.steps;
        legal = played.legal;
        written = written_since a b c keeps (emitted_writes names.out inputs.capture.unit played.steps) played.written;
      },
    ),
    tt,
  )
  play_says (Err (error.Refused fault)) played same = kept_shown a b c keeps (same fault refl)
  play_says (Err error.WriteFault) played same = tt
  play_says (Err error.NoMemory) played same = tt

  play_in_order : (b ≡ c) ⊎ HasBegunPlay (outcome_for inputs) names.out inputs.capture.unit b c
      → PlaysInOrder names a c
  play_in_order (inl same) = inl (kept_shown a b c keeps same)
  play_in_order (inr begun) =
      inr (
        inputs,
        accepts,
        record {
          steps = begun.steps;
          legal = begun.legal;
          begun = begun_writes_since a b c keeps (emitted_writes names.out inputs.capture.unit begun.steps) begun.begun;
        },
      )

  pub play_ends : (r : Result ⊤ (ScheduleError PlayFault)) → SaysPlay (outcome_for inputs) r
      → (healthy → ¬ IsErrOf r error.WriteFault)
      → OnOk r (HasPlayed (outcome_for inputs) names.out inputs.capture.unit b c)
      → (b ≡ c) ⊎ HasBegunPlay (outcome_for inputs) names.out inputs.capture.unit b c
      → ((fault : PlayFault) → r ≡ Err (error.Refused fault) → b ≡ c)
      → Ends (play_meaning names) healthy (play_outcome r) a c
  play_ends r says never played begun same = record {
    says = play_says r played same;
    in_order = play_in_order begun;
    judged = play_judged r says never;
  }

-- What it comes to, of the ledger.
pub play_counts : {W : Type 0} (ledger : W → Ledger) (healthy : W → Type 0) (names : PlayNames) (a b c : W)
    (r : Result ⊤ (ScheduleError PlayFault)) → OnlyReads ledger healthy (schedule_inputs names.files) a b
    → OpensAll (schedule_inputs names.files) (ledger a) (ledger b) → WritesFiles ledger healthy 1 b c
    → ((fault : PlayFault) → r ≡ Err (error.Refused fault) → c ≡ b)
    → (IsErrOf r error.WriteFault → WritingFailed ledger healthy b c)
    → Counts ledger healthy (play_meaning names) (play_outcome r) a c
play_counts ledger healthy names a b c (Ok done) reads opened writes same cause =
    writes.ledger.opened_names ∙ opened
play_counts ledger healthy names a b c (Err (error.Refused fault)) reads opened writes same cause =
    ap (λ z. (ledger z).created) (same fault refl) ∙ reads.ledger.created
play_counts ledger healthy names a b c (Err error.WriteFault) reads opened writes same cause =
    failed_since ledger healthy (schedule_inputs names.files) a b c reads (cause refl)
play_counts ledger healthy names a b c (Err error.NoMemory) reads opened writes same cause = tt

-- The inputs decide the status.

module _ (healthy : Type 0) where
  decided : (r : Result ⊤ (ScheduleError PlayFault)) → IsDecided healthy (play_outcome r)
      → (healthy → ¬ IsErrOf r error.WriteFault) → ¬ (r ≡ Err error.NoMemory) × ¬ (r ≡ Err error.WriteFault)
  decided r d never = (λ e. d.0 (ap play_outcome e), λ e. never (d.1.1 (ap play_outcome e)) e)

  same_end : {V : Type 0} (outcome : Result (List (Step V)) PlayFault) (r q : Result ⊤ (ScheduleError PlayFault))
      → ¬ (r ≡ Err error.NoMemory) × ¬ (r ≡ Err error.WriteFault)
      → ¬ (q ≡ Err error.NoMemory) × ¬ (q ≡ Err error.WriteFault) → SaysPlay outcome r → SaysPlay outcome q
      → play_outcome r ≡ play_outcome q
  same_end outcome (Err error.WriteFault) q d g x y = absurd (d.1 refl)
  same_end outcome (Err error.NoMemory) q d g x y = absurd (d.0 refl)
  same_end outcome (Ok done) (Ok other) d g x y = refl
  same_end (Ok steps) (Ok done) (Err (error.Refused fault)) d g x y = absurd y
  same_end (Err first) (Ok done) (Err (error.Refused fault)) d g x y = absurd x
  same_end outcome (Ok done) (Err error.WriteFault) d g x y = absurd (g.1 refl)
  same_end outcome (Ok done) (Err error.NoMemory) d g x y = absurd (g.0 refl)
  same_end (Ok steps) (Err (error.Refused fault)) (Ok done) d g x y = absurd x
  same_end (Err first) (Err (error.Refused fault)) (Ok done) d g x y = absurd y
  same_end (Ok steps) (Err (error.Refused fault)) (Err (error.Refused other)) d g x y = absurd x
  same_end (Err first) (Err (error.Refused fault)) (Err (error.Refused other)) d g x y =
      ap (λ (f : PlayFault). status.BadInput (input.Moves f)) (x ∙ sym y)
  same_end outcome (Err (error.Refused fault)) (Err error.WriteFault) d g x y = absurd (g.1 refl)
  same_end outcome (Err (error.Refused fault)) (Err error.NoMemory) d g x y = absurd (g.0 refl)

  ends_one : (inputs : ScheduleInputs) (s r : Status) → IsDecided healthy s → IsDecided healthy r
      → EndsPlay healthy inputs s → EndsPlay healthy inputs r → s ≡ r
  ends_one inputs s r d g (x, says, never, q) (y, tells, keeps, p) =
      q
      ∙ same_end (outcome_for inputs) x y (decided x (subst (IsDecided healthy) q d) never)
      (decided y (subst (IsDecided healthy) p g) keeps) says tells
      ∙ sym p

  pub one_play : (names : PlayNames) (shown : Shown) (s r : Status) → IsDecided healthy s → IsDecided healthy r
      → JudgesPlay healthy names s shown → JudgesPlay healthy names r shown → s ≡ r
  one_play names shown = three_one healthy names.files shown (EndsPlay healthy) ends_one

  -- In a healthy world a schedule whose files are accepted is played, or its first illegal move named, or memory ran
  -- out.
  pub play_completes : (names : PlayNames) (shown : Shown) → healthy
      → (inputs : ScheduleInputs) × AcceptsScheduleInputs names.files inputs shown → (s : Status)
      → JudgesPlay healthy names s shown
      → Completes s ⊎ ((fault : PlayFault) × (s ≡ status.BadInput (input.Moves fault)))
  play_completes names shown ok (inputs, accepts) s h =
      go (three_pass healthy names.files shown (EndsPlay healthy) ok inputs accepts s h)
    where
      by : (r : Result ⊤ (ScheduleError PlayFault)) → (healthy → ¬ IsErrOf r error.WriteFault) → s ≡ play_outcome r
          → Completes s ⊎ ((fault : PlayFault) × (s ≡ status.BadInput (input.Moves fault)))
      by (Ok done) never q = inl (inl q)
      by (Err (error.Refused fault)) never q = inr (fault, q)
      by (Err error.WriteFault) never q = absurd (never ok refl)
      by (Err error.NoMemory) never q = inl (inr q)

      go : (s ≡ status.NoMemory) ⊎ EndsPlay healthy inputs s
          → Completes s ⊎ ((fault : PlayFault) × (s ≡ status.BadInput (input.Moves fault)))
      go (inl q) = inl (inr q)
      go (inr (r, says, never, q)) = by r never q

pub play_usual : (names : PlayNames) → IsUsual (play_meaning names)
play_usual names = record {
  few = search rules;
  begins = λ old new same. inl same;
  others = play_others names;
  completes = λ healthy shown. play_completes healthy names shown;
}
