-- A run over a world with a record of its calls, of which none was made before.
use Rattle.std.proofs.Common.{◌≡◌, ◌⊎◌, ℕ, List, [], Option, Some, None, Result, Ok, Err, ap, subst, sym, ◌∙◌, inl, inr}
use Rattle.std.specs.Prelude.{IfOk, IfErr, IfSome}
use Rattle.plain_text.specs.declared.packet.Packet.{Packet}
use Rattle.packet_taps.specs.declared.command.Watched.{Watched}
use Rattle.packet_taps.specs.declared.printing.Printed.{Printed}
use Rattle.packet_taps.specs.Printing.{PrintsWindow}
use Rattle.packet_taps.specs.Watching.{JudgesWatched}
use Rattle.packet_taps.specs.Words.{WatchNames, watch_names}
use Rattle.world_io.specs.World.{Ledger, Start}
use Rattle.world_told.specs.Events.{Event, WithCalls, shown_after}
use Rattle.world_told.specs.Honest.{IsHonest}
use Rattle.world_told.specs.Ledgers.{told_ledger}
use Rattle.job_commands.specs.declared.status.Status.{Status}
use Rattle.job_commands.specs.declared.status.Status.TheVariants.{BadWords}
use Rattle.job_top.specs.Answers.{Answers, AnswersBytesOf}
use Rattle.job_top.proofs.Answered.{if_so}
use Rattle.release_taps.specs.Split.{behind_pairs}
use Rattle.command_line.specs.Running.{AskedNothing, AsksToWatch, HasClash, IsNotBegun, PrintsFiles, Runs, RunsFiles}
use Rattle.command_words.specs.Clashes.{Clashes}
use Rattle.command_words.specs.Pipes.{ArePiped}
use Rattle.command_words.specs.Watching.{PrintsLines, Watches}
use Rattle.command_words.specs.declared.clashes.Clash.{Clash}
use Rattle.command_words.specs.declared.named_file.NamedFile.{NamedFile}
use Rattle.command_words.specs.declared.pipes.ReportOn.{ReportOn}
use Rattle.command_line.specs.Performing.{Performs}

pub not_begun : {W X : Type 0} (faults : X → ℕ) (refused : Option X) (status : Status) (old new : WithCalls W)
    (Other : Type 0) → old.calls ≡ [] → IsNotBegun faults refused status old new ⊎ Other
    → IsNotBegun faults refused status [] new.calls ⊎ Other
not_begun {W} faults refused status old new Other none (inl not) =
    inl (record { cause = not.cause; same = ap (λ (t : WithCalls W). t.calls) not.same ∙ none })
not_begun faults refused status old new Other none (inr other) = inr other

-- what such a run promises of the record
pub runs_files : {W X : Type 0} (ledger : W → Ledger) (may : ℕ → Type 0) (faults : X → ℕ) (refused : Option X)
    (words : List (List ℕ)) (status : Status) (old new : WithCalls W) (printed : Ledger) → old.calls ≡ []
    → Runs {W = WithCalls W} (λ p t. IsHonest p t.calls) (λ p t. shown_after p t.calls) (told_ledger ledger) (λ _. ⊥)
    may faults refused words status old new printed → RunsFiles may faults refused words status new.calls
runs_files {W} ledger may faults refused words status old new printed none runs = record {
  bad_words = runs.bad_words;
  nothing_asked = λ bad. ap (λ (t : WithCalls W). t.calls) (runs.nothing_asked bad) ∙ none;
  performs = λ plain p h.
      let said = runs.performs plain in
      subst (λ (calls : List Event). Performs ⊥ may words status (shown_after p calls) (shown_after p new.calls)) none
      (record {
        prints = said.prints p h;
        answers = if_so words _ _ (λ command answers. answers.bytes p h) said.answers;
      });
  watches = λ watch p h.
      subst (λ (calls : List Event). Watches ⊥ words status (shown_after p calls)) none
      ((runs.watches watch).bytes p h);
  taps = λ pairs asks. tapped pairs (runs.taps pairs asks);
}
  where
    tapped : (pairs : ℕ) → IsNotBegun faults refused status old new
        ⊎ Answers {W = WithCalls W} (λ p t. IsHonest p t.calls) (λ p t. shown_after p t.calls) (told_ledger ledger)
        (λ _. ⊥) may (behind_pairs pairs words) status old new
        → IsNotBegun faults refused status [] new.calls ⊎ ((p : Start) → IsHonest p new.calls
        → AnswersBytesOf ⊥ may (behind_pairs pairs words) status (shown_after p []) (shown_after p new.calls))
    tapped pairs (inl not) =
        inl (record { cause = not.cause; same = ap (λ (t : WithCalls W). t.calls) not.same ∙ none })
    tapped pairs (inr answers) = inr (λ p h.
        subst (λ (calls : List Event). AnswersBytesOf ⊥ may (behind_pairs pairs words) status (shown_after p calls)
        (shown_after p new.calls)) none
        (if_so (behind_pairs pairs words) _ _ (λ command said. said.bytes p h) answers.answers))

-- what it prints
pub prints_files : {W V : Type 0} (words : List (List ℕ)) (status : Status) (old new : WithCalls W)
    (out printed : WithCalls V) → old.calls ≡ [] → out.calls ≡ []
    → (AsksToWatch words → PrintsLines {W = WithCalls W} {V = WithCalls V}
    (λ p t. IsHonest p t.calls) (λ p t. shown_after p t.calls) (λ _. ⊥)
    (λ p t. IsHonest p t.calls) (λ p t. shown_after p t.calls) words status old new printed)
    → (¬ AsksToWatch words → printed ≡ out) → PrintsFiles words status new.calls printed.calls
prints_files {W} {V} words status old new out printed none none_out prints nothing = record {
  lines = λ watch.
      let all = prints watch in
      (all.0, all.1, names (watch_names words) all.0 all.2);
  nothing = λ no. ap (λ (t : WithCalls V). t.calls) (nothing no) ∙ none_out;
}
  where
    said : WatchNames → List Packet → Watched → Type 0
    said it = λ packets watched. (p : Start) → IsHonest p new.calls
        → JudgesWatched ⊥ it.capture packets watched (shown_after p [])

    told : WatchNames → List Packet → Watched → Type 0
    told it = λ packets watched. (p : Start) → IsHonest p new.calls
        → JudgesWatched ⊥ it.capture packets watched (shown_after p old.calls)

    names : (asked : Option WatchNames) (answer : Printed)
        → IfSome asked (λ it. PrintsWindow {V = WithCalls V} (λ p t. IsHonest p t.calls) (λ p t. shown_after p t.calls)
        it answer (told it) printed)
        → IfSome asked (λ it. PrintsWindow {V = List Event} IsHonest shown_after it answer (said it) printed.calls)
    names None answer window = tt
    names (Some it) answer window = record {
      watched = window.watched;
      lost = window.lost;
      ended = window.ended;
      packets = window.packets;
      told = λ p h. subst (λ (calls : List Event). JudgesWatched ⊥ it.capture window.packets window.watched
          (shown_after p calls)) none (window.told p h);
      whole = window.whole;
      first = window.first;
    }

-- From the arguments to the words

module _ {A E : Type 0} (arguments : Result A E) (of : A → List (List ℕ)) (words : List (List ℕ))
    (is : IfOk arguments (λ all. words ≡ of all)) where
  pub with_words : (Asked : A → Type 0) (Ran : List (List ℕ) → Type 0) → Ran words
      → IfOk arguments (λ all. Asked all ⊎ Ran (of all))
  with_words Asked Ran ran = go arguments is
    where
      go : (given : Result A E) → IfOk given (λ all. words ≡ of all) → IfOk given (λ all. Asked all ⊎ Ran (of all))
      go (Ok all) same = inr (subst Ran same ran)
      go (Err error) same = tt

  pub asked_only : (Asked : List (List ℕ) → Type 0) (Ran : A → Type 0) → Asked words
      → IfOk arguments (λ all. Asked (of all) ⊎ Ran all)
  asked_only Asked Ran asked = go arguments is
    where
      go : (given : Result A E) → IfOk given (λ all. words ≡ of all) → IfOk given (λ all. Asked (of all) ⊎ Ran all)
      go (Ok all) same = inl (subst Asked same asked)
      go (Err error) same = tt

  -- two names are of one file
  pub clashed : (tells : List ℕ → NamedFile → Type 0) (same : Option Clash) (status : Status) (calls : List Event)
      (clash : Clash) (piped : List (List ℕ)) (report : ReportOn) (Ran : A → Type 0) → calls ≡ [] → status ≡ BadWords
      → same ≡ Some clash → ArePiped words piped report → Clashes tells piped report clash
      → IfOk arguments (λ all. AskedNothing tells same (of all) status calls ⊎ Ran all)
  clashed tells same status calls clash piped report Ran none bad is are clashes =
      asked_only (λ typed. AskedNothing tells same typed status calls) Ran (record {
        cause = inr (
          bad,
          inl (subst (λ (s : Option Clash). HasClash tells words s) (sym is)
              (piped, report, are, clashes)),
        );
        none = none;
      })

-- whatever the arguments are
pub ran_anyway : {A E : Type 0} (arguments : Result A E) (Asked : A → Type 0) (Ran : Type 0) → Ran
    → IfOk arguments (λ all. Asked all ⊎ Ran)
ran_anyway (Ok all) Asked Ran ran = inr ran
ran_anyway (Err error) Asked Ran ran = tt

pub read : {A E : Type 0} (arguments : Result A E) (Asked : E → Type 0) → IfErr arguments (λ error. ⊥)
    → IfErr arguments Asked
read (Ok all) Asked never = tt
read (Err error) Asked never = absurd never
