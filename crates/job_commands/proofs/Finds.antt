-- What the command `check` comes to, from what is checked.
use Rattle.std.proofs.Common.{◌≡◌, ℕ, List, length, refl, sym, ap, ◌∙◌, subst, ◌⊎◌, inl, inr, Result, Ok, Err}
use Rattle.std.proofs.Common.{arith, rules}
use Rattle.std.specs.Prelude.{⊤, IsErrOf, OnOk}
use Rattle.plain_text.specs.declared.packet.Packet.{Packet}
use Rattle.plain_text.specs.declared.packet.Unit.{Unit as FractionUnit}
use Rattle.plain_machine.specs.declared.plain_move.PlayFault.{PlayFault}
use Rattle.plain_machine.specs.History.{Step, emissions}
use Rattle.schedule_check.proofs.FirstOnes.{none_unmatched, one_first}
use Rattle.world_io.specs.World.{Ledger, Shown, WritingFailed}
use Rattle.output_files.specs.Writes.{HasWritten, HasBegun}
use Rattle.output_files.specs.Written.{OnlyWrites, WritesFiles}
use Rattle.schedule_check.specs.declared.checking.Checked.TheVariants.{Found, Refuted}
use Rattle.schedule_check.specs.declared.checking.Refutation.{Refutation}
use Rattle.schedule_check.specs.declared.checking.Refutation.TheVariants as refuted
use Rattle.schedule_check.specs.Checking.{IsChecked}
use Rattle.schedule_commands.specs.declared.error.ScheduleError.{ScheduleError}
use Rattle.schedule_commands.specs.declared.error.ScheduleError.TheVariants as error
use Rattle.schedule_commands.specs.Checking.{SaysCheck, found_writes}
use Rattle.input_files.specs.Files.{KeepsOutputs, OnlyReads, OpensAll}
use Rattle.job_commands.specs.declared.schedule_inputs.CheckInputs.{CheckInputs}
use Rattle.job_commands.specs.declared.status.Status.{Status}
use Rattle.job_commands.specs.declared.status.Status.TheVariants as status
use Rattle.job_commands.specs.Answers.{Counts, SaysOf}
use Rattle.job_commands.specs.Judging.{IsDecided}
use Rattle.job_commands.specs.Schedules.{AcceptsCheckInputs, AreFound, EndsCheck, JudgesCheck, FindsInOrder}
use Rattle.job_commands.specs.Schedules.{check_meaning, outcome_for}
use Rattle.job_commands.specs.Status.{Completes, check_outcome}
use Rattle.job_commands.specs.Words.{CheckNames, check_inputs}
use Rattle.job_commands.proofs.Failing.{failed_since}
use Rattle.job_commands.proofs.FilesInTurn.{four_accepted, four_one, four_pass}
use Rattle.job_commands.proofs.Others.{check_others}
use Rattle.job_commands.proofs.Outcomes.{written_since, begun_writes_since, kept_shown}
use Rattle.job_commands.proofs.Usual.{Ends, IsUsual}

abbrev Answer : Type 0
Answer = Result ⊤ (ScheduleError Refutation)

-- what an answer says of these inputs
abbrev Says : CheckInputs → Answer → Type 0
Says inputs r =
    SaysCheck (outcome_for inputs.played) inputs.played.capture.unit inputs.released.packets inputs.released.unit r

-- The status, where the inputs are accepted.

module _ (healthy : Type 0) (names : CheckNames) (inputs : CheckInputs) (a b c : Shown) (keeps : KeepsOutputs a b)
    (accepts : AcceptsCheckInputs names inputs a) where
  check_judged : (r : Answer) → Says inputs r → (healthy → ¬ IsErrOf r error.WriteFault)
      → JudgesCheck healthy names (check_outcome r) a
  check_judged r says never =
      four_accepted healthy names a (EndsCheck healthy) inputs (check_outcome r) accepts (r, says, never, refl)

  check_says : (r : Answer) → Says inputs r
      → OnOk r (HasWritten (found_writes (length inputs.released.packets)) b c)
      → ((refutation : Refutation) → r ≡ Err (error.Refused refutation) → b ≡ c)
      → SaysOf (check_meaning names) (check_outcome r) a c
  check_says (Ok done) says written same =
      ((inputs, accepts, says, written_since a b c keeps (found_writes (length inputs.released.packets)) written), tt)
  check_says (Err (error.Refused refutation)) says written same = kept_shown a b c keeps (same refutation refl)
  check_says (Err error.WriteFault) says written same = tt
  check_says (Err error.NoMemory) says written same = tt

  check_in_order : (b ≡ c) ⊎ (AreFound inputs × HasBegun (found_writes (length inputs.released.packets)) b c)
      → FindsInOrder names a c
  check_in_order (inl same) = inl (kept_shown a b c keeps same)
  check_in_order (inr (found, begun)) =
      inr (inputs, accepts, found, begun_writes_since a b c keeps (found_writes (length inputs.released.packets)) begun)

  pub check_ends : (r : Answer) → Says inputs r → (healthy → ¬ IsErrOf r error.WriteFault)
      → OnOk r (HasWritten (found_writes (length inputs.released.packets)) b c)
      → (b ≡ c) ⊎ (AreFound inputs × HasBegun (found_writes (length inputs.released.packets)) b c)
      → ((refutation : Refutation) → r ≡ Err (error.Refused refutation) → b ≡ c)
      → Ends (check_meaning names) healthy (check_outcome r) a c
  check_ends r says never written begun same = record {
    says = check_says r says written same;
    in_order = check_in_order begun;
    judged = check_judged r says never;
  }

-- What it comes to, of the ledger: it only writes.
pub no_files : {W : Type 0} (ledger : W → Ledger) (healthy : W → Type 0) (a b : W) → OnlyWrites ledger healthy a b
    → WritesFiles ledger healthy 0 a b
no_files ledger healthy a b writes = record {
  ledger = record {
    given = omega (arith, writes.ledger.given);
    opened = writes.ledger.opened;
    opened_names = writes.ledger.opened_names;
    orderly = writes.ledger.orderly;
    read_faults = writes.ledger.read_faults;
    write_faults = writes.ledger.write_faults;
  };
  stays_healthy = writes.stays_healthy;
}

pub check_counts : {W : Type 0} (ledger : W → Ledger) (healthy : W → Type 0) (names : CheckNames) (a b c : W)
    (r : Answer) → OnlyReads ledger healthy (check_inputs names) a b
    → OpensAll (check_inputs names) (ledger a) (ledger b) → OnlyWrites ledger healthy b c
    → (IsErrOf r error.WriteFault → WritingFailed ledger healthy b c)
    → Counts ledger healthy (check_meaning names) (check_outcome r) a c
check_counts ledger healthy names a b c (Ok done) reads opened writes cause = writes.ledger.opened_names ∙ opened
check_counts ledger healthy names a b c (Err (error.Refused refutation)) reads opened writes cause =
    writes.ledger.created ∙ reads.ledger.created
check_counts ledger healthy names a b c (Err error.WriteFault) reads opened writes cause =
    failed_since ledger healthy (check_inputs names) a b c reads (cause refl)
check_counts ledger healthy names a b c (Err error.NoMemory) reads opened writes cause = tt

-- The inputs decide the status.

-- a schedule and released packets are found in one way
module _ (unit other : FractionUnit) (released : List Packet) where
  refuted_one : {V : Type 0} (outcome : Result (List (Step V)) PlayFault) (a b : Refutation)
      → IsChecked outcome unit released other (Refuted a) → IsChecked outcome unit released other (Refuted b) → a ≡ b
  refuted_one (Ok steps) (refuted.Packet i) (refuted.Packet j) x y =
      ap refuted.Packet (one_first other released unit (emissions steps) i j x y)
  refuted_one (Ok steps) (refuted.Packet i) (refuted.Moves f) x y = absurd y
  refuted_one (Ok steps) (refuted.Moves f) b x y = absurd x
  refuted_one (Err fault) (refuted.Moves f) (refuted.Moves g) x y = ap refuted.Moves (x ∙ sym y)
  refuted_one (Err fault) (refuted.Moves f) (refuted.Packet j) x y = absurd y
  refuted_one (Err fault) (refuted.Packet i) b x y = absurd x

  found_or_refuted : {V : Type 0} (outcome : Result (List (Step V)) PlayFault) (n : ℕ) (a : Refutation)
      → IsChecked outcome unit released other (Found n) → IsChecked outcome unit released other (Refuted a) → ⊥
  found_or_refuted (Ok steps) n (refuted.Packet i) x y = none_unmatched other released unit (emissions steps) i x.0 y
  found_or_refuted (Ok steps) n (refuted.Moves f) x y = y
  found_or_refuted (Err fault) n a x y = x

  same_end : {V : Type 0} (outcome : Result (List (Step V)) PlayFault) (r q : Answer)
      → ¬ (r ≡ Err error.NoMemory) × ¬ (r ≡ Err error.WriteFault)
      → ¬ (q ≡ Err error.NoMemory) × ¬ (q ≡ Err error.WriteFault) → SaysCheck outcome unit released other r
      → SaysCheck outcome unit released other q → check_outcome r ≡ check_outcome q
  same_end outcome (Err error.WriteFault) q d g x y = absurd (d.1 refl)
  same_end outcome (Err error.NoMemory) q d g x y = absurd (d.0 refl)
  same_end outcome (Ok done) (Ok also) d g x y = refl
  same_end outcome (Ok done) (Err (error.Refused refutation)) d g x y =
      absurd (found_or_refuted outcome (length released) refutation x y)
  same_end outcome (Ok done) (Err error.WriteFault) d g x y = absurd (g.1 refl)
  same_end outcome (Ok done) (Err error.NoMemory) d g x y = absurd (g.0 refl)
  same_end outcome (Err (error.Refused refutation)) (Ok done) d g x y =
      absurd (found_or_refuted outcome (length released) refutation y x)
  same_end outcome (Err (error.Refused refutation)) (Err (error.Refused also)) d g x y =
      ap status.Refuted (refuted_one outcome refutation also x y)
  same_end outcome (Err (error.Refused refutation)) (Err error.WriteFault) d g x y = absurd (g.1 refl)
  same_end outcome (Err (error.Refused refutation)) (Err error.NoMemory) d g x y = absurd (g.0 refl)

module _ (healthy : Type 0) where
  decided : (r : Answer) → IsDecided healthy (check_outcome r) → (healthy → ¬ IsErrOf r error.WriteFault)
      → ¬ (r ≡ Err error.NoMemory) × ¬ (r ≡ Err error.WriteFault)
  decided r d never = (λ e. d.0 (ap check_outcome e), λ e. never (d.1.1 (ap check_outcome e)) e)

  ends_one : (inputs : CheckInputs) (s r : Status) → IsDecided healthy s → IsDecided healthy r
      → EndsCheck healthy inputs s → EndsCheck healthy inputs r → s ≡ r
  ends_one inputs s r d g (x, says, never, q) (y, tells, keeps, p) =
      q
      ∙ same_end inputs.played.capture.unit inputs.released.unit inputs.released.packets (outcome_for inputs.played) x y
      (decided x (subst (IsDecided healthy) q d) never) (decided y (subst (IsDecided healthy) p g) keeps) says tells
      ∙ sym p

  pub one_check : (names : CheckNames) (shown : Shown) (s r : Status) → IsDecided healthy s → IsDecided healthy r
      → JudgesCheck healthy names s shown → JudgesCheck healthy names r shown → s ≡ r
  one_check names shown = four_one healthy names shown (EndsCheck healthy) ends_one

  -- In a healthy world a check whose files are accepted is done, or tells what it refutes, or memory ran out.
  pub check_completes : (names : CheckNames) (shown : Shown) → healthy
      → (inputs : CheckInputs) × AcceptsCheckInputs names inputs shown → (s : Status)
      → JudgesCheck healthy names s shown → Completes s ⊎ ((refutation : Refutation) × (s ≡ status.Refuted refutation))
  check_completes names shown ok (inputs, accepts) s h =
      go (four_pass healthy names shown (EndsCheck healthy) ok inputs accepts s h)
    where
      by : (r : Answer) → (healthy → ¬ IsErrOf r error.WriteFault) → s ≡ check_outcome r
          → Completes s ⊎ ((refutation : Refutation) × (s ≡ status.Refuted refutation))
      by (Ok done) never q = inl (inl q)
      by (Err (error.Refused refutation)) never q = inr (refutation, q)
      by (Err error.WriteFault) never q = absurd (never ok refl)
      by (Err error.NoMemory) never q = inl (inr q)

      go : (s ≡ status.NoMemory) ⊎ EndsCheck healthy inputs s
          → Completes s ⊎ ((refutation : Refutation) × (s ≡ status.Refuted refutation))
      go (inl q) = inl (inr q)
      go (inr (r, says, never, q)) = by r never q

pub check_usual : (names : CheckNames) → IsUsual (check_meaning names)
check_usual names = record {
  few = search rules;
  begins = λ old new same. inl same;
  others = check_others names;
  completes = λ healthy shown. check_completes healthy names shown;
}
