-- What a command answers that reads its inputs before it writes: where they are refused, and where it went on.
use Rattle.std.proofs.Common.{◌≡◌, ℕ, ◌+◌, ◌≤◌, arith, ◌∙◌, length, inl, inr, refl, Result, Ok, Err}
use Rattle.std.specs.Prelude.{⊤, IsErrOf, OnOk}
use Rattle.plain_text.specs.declared.limit.Limit.{Limit}
use Rattle.plain_text.specs.declared.limit.Limit.TheVariants as limit_of
use Rattle.world_io.specs.Stream.{Rose}
use Rattle.world_io.specs.World.{Start, Shown, Ledger, WritingFailed}
use Rattle.input_files.specs.Files.{KeepsOutputs, OnlyReads, OpensAll}
use Rattle.input_files.proofs.OnlyReading.{OpensFirst-all}
use Rattle.output_files.specs.Written.{WritesFiles}
use Rattle.run_writes.specs.declared.error.RunError.{RunError}
use Rattle.run_writes.specs.declared.error.RunError.TheVariants as run_error
use Rattle.run_writes.specs.Run.{KeepsShown}
use Rattle.job_commands.specs.declared.status.Status.{Status}
use Rattle.job_commands.specs.declared.status.Status.TheVariants.{Done, Refuted, BadWords, ReadFault, WriteFault}
use Rattle.job_commands.specs.declared.status.Status.TheVariants.{NoMemory, BadInput, TooLarge, Unready}
use Rattle.job_commands.specs.Answers.{AnswersAs, Counts, SaysOf}
use Rattle.job_commands.specs.Meanings.{CommandMeaning, StopsBy}
use Rattle.job_commands.specs.Status.{AtInputs, AtOutputs, ComesAt, EndsReading, IsRefusal, run_outcome}
use Rattle.job_commands.specs.Status.{stage_of_limit}
use Rattle.job_commands.proofs.Failing.{failed_since}
use Rattle.job_commands.proofs.Outcomes.{kept}

-- what is so of each command that reads its inputs first
pub record IsUsual (command : CommandMeaning) : Type 1 where
  pub few : length command.inputs ≤ command.files
  -- what changes nothing has begun nothing, and what is begun in order keeps the other names
  pub begins : (old new : Shown) → KeepsShown old new → command.LeavesInOrder old new
  pub others : (old new : Shown) → command.LeavesInOrder old new → command.KeepsNames old new
  -- accepted inputs
  pub completes : (healthy : Type 0) (shown : Shown) → healthy → command.Accepts shown → (status : Status)
      → command.Judges healthy status shown → command.CompletesAs status

-- At which stage a limit is passed

pub stops_early : (limit : Limit) (old new : Shown) (This : Type 0) → stage_of_limit limit ≡ AtInputs
    → KeepsShown old new → StopsBy limit old new This
stops_early limit_of.File old new This at same = same
stops_early limit_of.Packets old new This at same = same
stops_early limit_of.Events old new This at same = same
stops_early limit_of.Moves old new This at same = absurd (cc)
stops_early limit_of.OutputBytes old new This at same = absurd (cc)

pub stops_late : (limit : Limit) (old new : Shown) (This : Type 0) → stage_of_limit limit ≡ AtOutputs → This
    → StopsBy limit old new This
stops_late limit_of.File old new This at this = absurd (cc)
stops_late limit_of.Packets old new This at this = absurd (cc)
stops_late limit_of.Events old new This at this = absurd (cc)
stops_late limit_of.Moves old new This at this = this
stops_late limit_of.OutputBytes old new This at this = this

limit_stage : (limit : Limit) → ComesAt AtInputs (TooLarge limit) → stage_of_limit limit ≡ AtInputs
limit_stage limit (inl at) = at
limit_stage limit_of.File (inr at) = refl
limit_stage limit_of.Packets (inr at) = refl
limit_stage limit_of.Events (inr at) = refl
limit_stage limit_of.Moves (inr at) = absurd (cc)
limit_stage limit_of.OutputBytes (inr at) = absurd (cc)

-- what it leaves whose inputs pass a limit
abbrev pub StopsEarly : CommandMeaning → Status → Shown → Shown → Type 0
StopsEarly command status old new =
    (limit : Limit) → status ≡ TooLarge limit → stage_of_limit limit ≡ AtInputs → KeepsShown old new
    → command.StopsAt limit old new

-- what is said by one beginning of a command whose inputs are accepted
pub record Ends (command : CommandMeaning) (healthy : Type 0) (status : Status) (old new : Shown) : Type 0 where
  pub says : SaysOf command status old new
  pub in_order : command.LeavesInOrder old new
  pub judged : command.Judges healthy status old

module _ (command : CommandMeaning) (usual : IsUsual command) where
  pub refused_says : (status : Status) (old new : Shown) → EndsReading status → ComesAt AtInputs status
      → StopsEarly command status old new → KeepsShown old new → SaysOf command status old new
  refused_says Done old new quiet at stops same = absurd quiet
  refused_says (Refuted refutation) old new quiet at stops same = same
  refused_says BadWords old new quiet at stops same = absurd quiet
  refused_says ReadFault old new quiet at stops same = same
  refused_says WriteFault old new quiet at stops same = tt
  refused_says NoMemory old new quiet at stops same = tt
  refused_says (BadInput fault) old new quiet at stops same = same
  refused_says (TooLarge limit) old new quiet at stops same = stops limit refl (limit_stage limit at) same
  refused_says (Unready unready) old new quiet at stops same = absurd quiet

  module _ {W : Type 0} (honest : Start → W → Type 0) (shows : Start → W → Shown) (ledger : W → Ledger)
      (healthy : W → Type 0) (old read : W) (reads : OnlyReads ledger healthy command.inputs old read) where
    refused_counts : (status : Status) → EndsReading status
        → (status ≡ ReadFault → Rose (ledger old).read_faults (ledger read).read_faults)
        → Counts ledger healthy command status old read
    refused_counts Done quiet rose = absurd quiet
    refused_counts (Refuted refutation) quiet rose = reads.ledger.created
    refused_counts BadWords quiet rose = absurd quiet
    refused_counts ReadFault quiet rose = (rose refl, reads.ledger.created)
    refused_counts WriteFault quiet rose = absurd quiet
    refused_counts NoMemory quiet rose = tt
    refused_counts (BadInput fault) quiet rose = reads.ledger.created
    refused_counts (TooLarge limit) quiet rose = tt
    refused_counts (Unready unready) quiet rose = tt

    -- an input is refused
    pub refused_answers : (status : Status) → EndsReading status
        → (status ≡ ReadFault → Rose (ledger old).read_faults (ledger read).read_faults)
        → ((p : Start) → honest p read → command.Judges (healthy old) status (shows p old))
        → ((p : Start) → honest p read → ComesAt AtInputs status)
        → ((p : Start) → honest p read → StopsEarly command status (shows p old) (shows p read))
        → ((p : Start) → honest p read → KeepsOutputs (shows p old) (shows p read))
        → ((p : Start) → honest p read → honest p old)
        → AnswersAs honest shows ledger healthy command status old read
    refused_answers status quiet cause judged stage stops keeps before = record {
      bytes = λ p q.
          let same = kept _ _ (keeps p q) in
          let begun = usual.begins (shows p old) (shows p read) same in
          record {
            says = refused_says status (shows p old) (shows p read) quiet (stage p q) (stops p q) same;
            in_order = begun;
            others = usual.others _ _ begun;
            judged = judged p q;
            completes = λ ok accepts. usual.completes (healthy old) (shows p old) ok accepts status (judged p q);
          };
      before = before;
      counts = refused_counts status quiet cause;
      opens_in_order = reads.ledger.opened;
      orderly = reads.ledger.orderly;
      given = omega (arith, reads.ledger.given, usual.few);
    }

    module _ (files : ℕ) (new : W) (opened : OpensAll command.inputs (ledger old) (ledger read))
        (writes : WritesFiles ledger healthy files read new) where
      all_opened : OpensAll command.inputs (ledger old) (ledger new)
      all_opened = writes.ledger.opened_names ∙ opened

      -- all inputs are accepted
      pub accepted_answers : (status : Status) → length command.inputs + files ≤ command.files
          → Counts ledger healthy command status old new
          → ((p : Start) → honest p new → Ends command (healthy old) status (shows p old) (shows p new))
          → ((p : Start) → honest p new → honest p old)
          → AnswersAs honest shows ledger healthy command status old new
      accepted_answers status few counts ends before = record {
        bytes = λ p q.
            let end = ends p q in
            record {
              says = end.says;
              in_order = end.in_order;
              others = usual.others _ _ end.in_order;
              judged = end.judged;
              completes = λ ok accepts. usual.completes (healthy old) (shows p old) ok accepts status end.judged;
            };
        before = before;
        counts = counts;
        opens_in_order = OpensFirst-all _ _ _ all_opened;
        orderly = λ none. writes.ledger.orderly ∙ reads.ledger.orderly none;
        given = omega (arith, reads.ledger.given, writes.ledger.given, few);
      }

      run_counts : (r : Result ⊤ RunError)
          → (IsErrOf r run_error.WriteFault → WritingFailed ledger healthy read new)
          → Counts ledger healthy command (run_outcome r) old new
      run_counts (Ok done) cause = all_opened
      run_counts (Err (run_error.Limit limit)) cause = tt
      run_counts (Err run_error.WriteFault) cause =
          failed_since ledger healthy command.inputs old read new reads (cause refl)
      run_counts (Err run_error.NoMemory) cause = tt

      -- and there was a run
      pub run_answers : (r : Result ⊤ RunError) → length command.inputs + files ≤ command.files
          → (IsErrOf r run_error.WriteFault → WritingFailed ledger healthy read new)
          → ((p : Start) → honest p new
          → Ends command (healthy old) (run_outcome r) (shows p old) (shows p new))
          → ((p : Start) → honest p new → honest p old)
          → AnswersAs honest shows ledger healthy command (run_outcome r) old new
      run_answers r few cause ends before = accepted_answers (run_outcome r) few (run_counts r cause) ends before

-- What an answer says of the ledger, where each is told apart.
pub counts_of : {W : Type 0} (ledger : W → Ledger) (healthy : W → Type 0) (command : CommandMeaning) (old new : W)
    (status : Status) → (status ≡ BadWords → ⊥) → (status ≡ Done → OpensAll command.inputs (ledger old) (ledger new))
    → (IsRefusal status → (ledger new).created ≡ (ledger old).created)
    → (status ≡ ReadFault → Rose (ledger old).read_faults (ledger new).read_faults)
    → (status ≡ WriteFault → WritingFailed ledger healthy old new) → Counts ledger healthy command status old new
counts_of ledger healthy command old new Done words opened created read failed = opened refl
counts_of ledger healthy command old new (Refuted refutation) words opened created read failed = created tt
counts_of ledger healthy command old new BadWords words opened created read failed = words refl
counts_of ledger healthy command old new ReadFault words opened created read failed = (read refl, created tt)
counts_of ledger healthy command old new WriteFault words opened created read failed = failed refl
counts_of ledger healthy command old new NoMemory words opened created read failed = tt
counts_of ledger healthy command old new (BadInput fault) words opened created read failed = created tt
counts_of ledger healthy command old new (TooLarge limit) words opened created read failed = tt
counts_of ledger healthy command old new (Unready unready) words opened created read failed = tt

-- what a run says of the outputs
pub run_says : (command : CommandMeaning) (old new : Shown) (r : Result ⊤ RunError)
    → OnOk r (command.Leaves old new × command.Promises old new)
    → ((limit : Limit) → r ≡ Err (run_error.Limit limit) → command.StopsAt limit old new)
    → SaysOf command (run_outcome r) old new
run_says command old new (Ok done) whole stops = whole
run_says command old new (Err (run_error.Limit limit)) whole stops = stops limit refl
run_says command old new (Err run_error.WriteFault) whole stops = tt
run_says command old new (Err run_error.NoMemory) whole stops = tt
