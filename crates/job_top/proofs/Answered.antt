-- What is so of each answer of the top call, whatever the words ask for.
use Rattle.std.proofs.Common.{◌≡◌, ℕ, List, ap, refl, sym, ◌∙◌, subst, Option, None, Some}
use Rattle.std.specs.Prelude.{IfSome}
use Rattle.world_io.specs.Stream.{Rose}
use Rattle.world_io.specs.World.{Start, Shown, Ledger, KeepsOrder, WritingFailed}
use Rattle.job_commands.specs.declared.status.Status.{Status}
use Rattle.job_commands.specs.declared.status.Status.TheVariants.{Done, Refuted, BadWords, ReadFault, WriteFault}
use Rattle.job_commands.specs.declared.status.Status.TheVariants.{NoMemory, BadInput, TooLarge, Unready}
use Rattle.job_commands.specs.Answers.{AnswersAs, Counts}
use Rattle.job_commands.specs.Meanings.{CommandMeaning}
use Rattle.job_commands.specs.Status.{IsRefusal}
use Rattle.job_commands.specs.Words.{Asked}
use Rattle.job_commands.specs.Words.{IfAsks, asked}
use Rattle.job_top.specs.Answers.{Answers}
use Rattle.job_top.specs.Commands.{meaning_of}

module _ {W : Type 0} (ledger : W → Ledger) (healthy : W → Type 0) (command : CommandMeaning) (old new : W) where
  refused_created : (status : Status) → Counts ledger healthy command status old new → IsRefusal status
      → (ledger new).created ≡ (ledger old).created
  refused_created Done counts refused = absurd refused
  refused_created (Refuted refutation) counts refused = counts
  refused_created BadWords counts refused = absurd refused
  refused_created ReadFault counts refused = counts.1
  refused_created WriteFault counts refused = absurd refused
  refused_created NoMemory counts refused = absurd refused
  refused_created (BadInput fault) counts refused = counts
  refused_created (TooLarge limit) counts refused = absurd refused
  refused_created (Unready unready) counts refused = absurd refused

module _ {W : Type 0} (honest : Start → W → Type 0) (shows : Start → W → Shown) (ledger : W → Ledger)
    (healthy : W → Type 0) (may : ℕ → Type 0) (words : List (List ℕ)) (status : Status) (old new : W)
    (all : Answers honest shows ledger healthy may words status old new) where
  -- either the words ask for nothing, or it is the answer of a command
  either : (Holds : Type 0) → (status ≡ BadWords → Holds)
      → ((command : Asked) → AnswersAs honest shows ledger healthy (meaning_of may command) status old new → Holds)
      → Holds
  either Holds nothing some = go (asked words) refl all.answers
    where
      go : (asks : Option Asked) → asked words ≡ asks
          → IfSome asks (λ command. AnswersAs honest shows ledger healthy (meaning_of may command) status old new)
          → Holds
      go None is answers = nothing (all.bad_words.1 is)
      go (Some command) is answers = some command answers

  counted : (command : Asked) → AnswersAs honest shows ledger healthy (meaning_of may command) status old new
      → (other : Status) → status ≡ other → Counts ledger healthy (meaning_of may command) other old new
  counted command answers other is =
      subst (λ (s : Status). Counts ledger healthy (meaning_of may command) s old new) is answers.counts

  pub creates_nothing : IsRefusal status → (ledger new).created ≡ (ledger old).created
  creates_nothing refused = either ((ledger new).created ≡ (ledger old).created)
      (λ bad. absurd (subst (λ (s : Status). IsRefusal s) bad refused))
      (λ command answers.
      refused_created ledger healthy (meaning_of may command) old new status answers.counts refused)

  pub read_rose : status ≡ ReadFault → Rose (ledger old).read_faults (ledger new).read_faults
  read_rose fault = either (Rose (ledger old).read_faults (ledger new).read_faults)
      (λ bad. let never : BadWords ≡ ReadFault = sym bad ∙ fault in absurd (cc))
      (λ command answers. (counted command answers ReadFault fault).0)

  pub write_failed : status ≡ WriteFault → WritingFailed ledger healthy old new
  write_failed fault = either (WritingFailed ledger healthy old new)
      (λ bad. let never : BadWords ≡ WriteFault = sym bad ∙ fault in absurd (cc))
      (λ command answers. counted command answers WriteFault fault)

  pub stays_orderly : KeepsOrder (ledger old) (ledger new)
  stays_orderly = either (KeepsOrder (ledger old) (ledger new))
      (λ bad none. ap (λ (w : W). (ledger w).orderly) (all.nothing_asked bad))
      (λ command answers. answers.orderly)

  pub honest_before : (p : Start) → honest p new → honest p old
  honest_before p q = either (honest p old) (λ bad. subst (λ (w : W). honest p w) (all.nothing_asked bad) q)
      (λ command answers. answers.before p q)

-- said of a command, it is said of what the words ask for
pub if_so : (words : List (List ℕ)) (One Other : Asked → Type 0) → ((command : Asked) → One command → Other command)
    → IfAsks words One → IfAsks words Other
if_so words One Other so = go (asked words)
  where
    go : (asks : Option Asked) → IfSome asks One → IfSome asks Other
    go None said = tt
    go (Some command) said = so command said

-- What a command answered over a world is so of the world within.
module _ {T W : Type 0} (inner : T → W) (honest : Start → W → Type 0) (shows : Start → W → Shown)
    (ledger : W → Ledger) (healthy : W → Type 0) (old new : T) where
  counts_within : (command : CommandMeaning) (status : Status)
      → Counts (λ (t : T). ledger (inner t)) (λ (t : T). healthy (inner t)) command status old new
      → Counts ledger healthy command status (inner old) (inner new)
  counts_within command Done counts = counts
  counts_within command (Refuted refutation) counts = counts
  counts_within command BadWords counts = counts
  counts_within command ReadFault counts = counts
  counts_within command WriteFault counts = record { rose = counts.rose; not_healthy = counts.not_healthy }
  counts_within command NoMemory counts = counts
  counts_within command (BadInput fault) counts = counts
  counts_within command (TooLarge limit) counts = counts
  counts_within command (Unready unready) counts = counts

  pub answers_within : (may : ℕ → Type 0) (words : List (List ℕ)) (status : Status)
      → IfAsks words (λ command. AnswersAs {W = T} (λ p t. honest p (inner t)) (λ p t. shows p (inner t))
      (λ t. ledger (inner t)) (λ t. healthy (inner t)) (meaning_of may command) status old new)
      → IfAsks words (λ command.
      AnswersAs honest shows ledger healthy (meaning_of may command) status (inner old) (inner new))
  answers_within may words status = if_so words _ _ (λ command answers. record {
    bytes = answers.bytes;
    before = answers.before;
    counts = counts_within (meaning_of may command) status answers.counts;
    opens_in_order = answers.opens_in_order;
    orderly = answers.orderly;
    given = answers.given;
  })
