-- Words of `live`: no capture is watched, and no text printed. And what is promised of words that ask for no rounds
-- holds whatever a clock may answer.
use Rattle.std.proofs.Common.{◌≡◌, ◌⊎◌, ℕ, List, [], ◌∷◌, Bool, true, false, Option, None, Some, ap, inl, inr, refl}
use Rattle.std.proofs.Common.{sym, ◌∙◌}
use Rattle.std.proofs.lemmas.Slice.Eq.{bytes_eq-Decides}
use Rattle.std.specs.Prelude.{◌&&◌, if◌then◌else◌, codes, is_some, MatchOption}
use Rattle.std.specs.Str.{bytes_eq}
use Rattle.world_io.specs.World.{Start, Shown, Ledger}
use Rattle.job_commands.specs.declared.status.Status.{Status}
use Rattle.job_commands.specs.Words.{LiveNames, are_apart, live_names, live_with}
use Rattle.job_commands.specs.Answers.{AnswersAs}
use Rattle.job_commands.specs.Meanings.{CommandMeaning}
use Rattle.job_top.specs.Answers.{Answers}
use Rattle.job_top.proofs.Answered.{creates_nothing, honest_before, read_rose, write_failed}
use Rattle.job_top.proofs.Lives.{mean_any}
use Rattle.release_taps.specs.Split.{behind_pairs}
use Rattle.command_line.specs.Performing.{PerformsIn}
use Rattle.command_line.specs.Running.{AsksNoRounds, AsksToPerform, IsNotBegun, Runs}
use Rattle.command_line.proofs.NoCommand.{prints_nothing}
use Rattle.command_line.proofs.Runs.{text_no_taps}
use Rattle.command_words.specs.Printing.{asked_text}
use Rattle.command_words.specs.Watching.{begins_watch}

-- Words of `live`

-- where no words of `live` were read, there are none
pub none_read : {T : Type 0} (read : Option T) (Nothing : Type 0) (Something : T → Type 0)
    → MatchOption read Nothing Something → is_some read ≡ false → Nothing
none_read None Nothing Something said none = said
none_read (Some x) Nothing Something said none = absurd (let never : true ≡ false = none in cc)

-- words that ask for a text do not ask for `live`
pub text_no_live : (words : List (List ℕ)) → ¬ (asked_text words ≡ None) → live_names words ≡ None
text_no_live [] text = refl
text_no_live (a ∷ []) text = refl
text_no_live (a ∷ b ∷ []) text = refl
text_no_live (a ∷ b ∷ c ∷ more) text = absurd (text refl)

pub text_no_rounds : (words : List (List ℕ)) → ¬ (asked_text words ≡ None) → AsksNoRounds words
text_no_rounds words text = record {
  plain = λ no_tap. text_no_live words text;
  tapped = λ pairs asks. absurd (text_no_taps words text pairs asks);
}

not_watch : (command : List ℕ) (names : LiveNames) → ¬ (live_with command names ≡ None)
    → bytes_eq command (codes "watch") ≡ true → ⊥
not_watch command names lives watch = go (bytes_eq command (codes "live")) refl
  where
    go : (b : Bool) → bytes_eq command (codes "live") ≡ b → ⊥
    go true live =
        let is = sym ((bytes_eq-Decides command (codes "live")).0 live)
        ∙ (bytes_eq-Decides command (codes "watch")).0 watch in
        absurd (cc)
    go false live = lives (ap (λ (b : Bool). if b && are_apart names then Some names else None) live)

pub never_watch : (words : List (List ℕ)) → ¬ (live_names words ≡ None) → begins_watch words ≡ true → ⊥
never_watch [] lives watch = lives refl
never_watch (a ∷ []) lives watch = lives refl
never_watch (a ∷ b ∷ []) lives watch = lives refl
never_watch (a ∷ b ∷ c ∷ []) lives watch = lives refl
never_watch (a ∷ b ∷ c ∷ d ∷ []) lives watch = lives refl
never_watch (a ∷ b ∷ c ∷ d ∷ e ∷ []) lives watch = lives refl
never_watch (a ∷ b ∷ c ∷ d ∷ e ∷ f ∷ []) lives watch = lives refl
never_watch (command ∷ b ∷ c ∷ d ∷ e ∷ f ∷ g ∷ []) lives watch =
    not_watch command
    (record { box_file = b; capture = c; plan = d; released = e; schedule = f; script = g }) lives watch
never_watch (a ∷ b ∷ c ∷ d ∷ e ∷ f ∷ g ∷ h ∷ more) lives watch = lives refl

module _ {W : Type 0} (honest : Start → W → Type 0) (shows : Start → W → Shown) (ledger : W → Ledger)
    (healthy : W → Type 0) (may : ℕ → Type 0) (words : List (List ℕ)) (status : Status) (old new : W) where
  -- words of a command that were performed by the top call
  pub raced : asked_text words ≡ None → Answers honest shows ledger healthy may words status old new
      → PerformsIn honest shows ledger healthy may words status old new
  raced is answers = record {
    prints = λ p h. prints_nothing words status (shows p old) (shows p new) is;
    answers = answers.answers;
    bad_words = λ bad. (answers.bad_words.0 bad, is);
    nothing_asked = answers.nothing_asked;
    creates_nothing = creates_nothing honest shows ledger healthy may words status old new answers;
    never_fails = λ ok fault. (write_failed honest shows ledger healthy may words status old new answers fault).not_healthy ok;
    read_fault = read_rose honest shows ledger healthy may words status old new answers;
    write_fault = λ fault. (write_failed honest shows ledger healthy may words status old new answers fault).rose;
    opens_nothing = λ none. ap (λ (w : W). (ledger w).opened_names) (answers.nothing_asked (answers.bad_words.1 none));
    given = answers.given;
    before = honest_before honest shows ledger healthy may words status old new answers;
  }

-- Whatever a clock may answer

module _ {W X : Type 0} (honest : Start → W → Type 0) (shows : Start → W → Shown) (ledger : W → Ledger)
    (healthy : W → Type 0) (may : ℕ → Type 0) (faults : X → ℕ) (refused : Option X) (words : List (List ℕ))
    (status : Status) (old new : W) (printed : Ledger) where
  abbrev Means : CommandMeaning → Type 0
  Means command = AnswersAs honest shows ledger healthy command status old new

  any_answers : (some : List (List ℕ)) → live_names some ≡ None
      → Answers honest shows ledger healthy (λ t. ⊥) some status old new
      → Answers honest shows ledger healthy may some status old new
  any_answers some none said = record {
    bad_words = said.bad_words;
    nothing_asked = said.nothing_asked;
    answers = mean_any Means may some none said.answers;
    given = said.given;
  }

  any_performed : live_names words ≡ None
      → PerformsIn honest shows ledger healthy (λ t. ⊥) words status old new
      → PerformsIn honest shows ledger healthy may words status old new
  any_performed none said = record {
    prints = said.prints;
    answers = mean_any Means may words none said.answers;
    bad_words = said.bad_words;
    nothing_asked = said.nothing_asked;
    creates_nothing = said.creates_nothing;
    never_fails = said.never_fails;
    read_fault = said.read_fault;
    write_fault = said.write_fault;
    opens_nothing = said.opens_nothing;
    given = said.given;
    before = said.before;
  }

  pub runs-any : AsksNoRounds words
      → Runs honest shows ledger healthy (λ t. ⊥) faults refused words status old new printed
      → Runs honest shows ledger healthy may faults refused words status old new printed
  runs-any no_rounds said = record {
    bad_words = said.bad_words;
    nothing_asked = said.nothing_asked;
    performs = λ asks. any_performed (no_live asks) (said.performs asks);
    watches = said.watches;
    taps = λ pairs asks. go pairs (no_rounds.tapped pairs asks) (said.taps pairs asks);
    before = said.before;
  }
    where
      no_live : AsksToPerform words → live_names words ≡ None
      no_live (inl text) = text_no_live words text
      no_live (inr plain) = no_rounds.plain plain.no_tap

      go : (pairs : ℕ) → live_names (behind_pairs pairs words) ≡ None
          → IsNotBegun faults refused status old new
          ⊎ Answers honest shows ledger healthy (λ t. ⊥) (behind_pairs pairs words) status old new
          → IsNotBegun faults refused status old new
          ⊎ Answers honest shows ledger healthy may (behind_pairs pairs words) status old new
      go pairs none (inl not) = inl not
      go pairs none (inr answers) = inr (any_answers (behind_pairs pairs words) none answers)
