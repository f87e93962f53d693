-- What a run of the words promises, from what each kind of run does.
use Rattle.std.proofs.Common.{◌≡◌, ◌<◌, ◌⊎◌, ◌∙◌, ℕ, List, refl, sym, subst, arith, inl, inr, Bool, true, false, Option}
use Rattle.std.proofs.Common.{Some, None}
use Rattle.std.specs.Prelude.{◌≢◌, ◌≤◌, ◌*◌, [], ◌∷◌, IfSome, length}
use Rattle.std.proofs.lemmas.List.{drop_all}
use Rattle.world_io.specs.Stream.{Rose}
use Rattle.world_io.specs.World.{Start, Shown, Ledger}
use Rattle.job_commands.specs.declared.status.Status.{Status}
use Rattle.job_commands.specs.declared.status.Status.TheVariants.{BadWords, ReadFault, WriteFault, NoMemory}
use Rattle.job_top.specs.Answers.{Answers}
use Rattle.job_top.proofs.Answered.{honest_before, read_rose, write_failed}
use Rattle.release_taps.specs.Split.{AsksForTaps, BeginsWithTap, IsRunLine, behind_pairs}
use Rattle.release_taps.proofs.Counting.{one_count}
use Rattle.command_line.specs.Performing.{PerformsIn, WatchesIn}
use Rattle.command_line.specs.Running.{AreBad, AsksToPerform, AsksToWatch, HasRefused, IsNotBegun, Runs}
use Rattle.command_words.specs.Printing.{asked_text}
use Rattle.command_words.specs.Watching.{begins_watch}

-- a count that rose is not 0
pub rose_some : (old new : ℕ) → Rose old new → 0 < new
rose_some old new rose = omega (arith, rose)

-- words that ask for taps begin with `tap`
begins : (words : List (List ℕ)) (pairs : ℕ) → AsksForTaps words pairs → BeginsWithTap words
begins words pairs asks = asks.taps 0 (let some = asks.some in omega (arith, some))

-- a test of words that ask for a text
pub is_asked : (b : Bool) (Not : Type 0) → b ≡ true → (Not → b ≡ false) → Not → ⊥
is_asked b Not holds fails none = let never : true ≡ false = sym holds ∙ fails none in cc

-- words that ask for a text are two at most
few : (words : List (List ℕ)) → asked_text words ≢ None → length words ≤ 2
few [] text = absurd (text refl)
few (a ∷ []) text = omega arith
few (a ∷ b ∷ []) text = omega arith
few (a ∷ b ∷ c ∷ more) text = absurd (text refl)

pub text_no_taps : (words : List (List ℕ)) → asked_text words ≢ None → (pairs : ℕ) → AsksForTaps words pairs → ⊥
text_no_taps words text pairs asks =
    let most = few words text in
    let some = asks.some in
    subst IsRunLine (drop_all (2 * pairs) words (omega (arith, most, some))) asks.run

-- what words ask for that are performed, and ask for no text
bad_perform : (words : List (List ℕ)) → BeginsWithTap words → asked_text words ≡ None → AsksToPerform words → ⊥
bad_perform words tap no_text (inl text) = text no_text
bad_perform words tap no_text (inr plain) = plain.no_tap tap

plain_perform : (words : List (List ℕ)) → asked_text words ≡ None → AsksToPerform words → begins_watch words ≡ false
plain_perform words no_text (inl text) = absurd (text no_text)
plain_perform words no_text (inr plain) = plain.no_watch

tapped_perform : (words : List (List ℕ)) (pairs : ℕ) → AsksForTaps words pairs → AsksToPerform words → ⊥
tapped_perform words pairs asks (inl text) = text_no_taps words text pairs asks
tapped_perform words pairs asks (inr plain) = plain.no_tap (begins words pairs asks)

-- words that do not ask for a capture to be watched, for no tap and for no text
pub plain_watch : (words : List (List ℕ)) → asked_text words ≡ None → ¬ BeginsWithTap words → ¬ AsksToWatch words
    → begins_watch words ≡ false
plain_watch words no_text no_tap no_watch =
    go (begins_watch words) (λ watch. no_watch (record { no_text = no_text; no_tap = no_tap; watch = watch }))
  where
    go : (b : Bool) → ¬ (b ≡ true) → b ≡ false
    go true not = absurd (not refl)
    go false not = refl

pub plain_taps : (words : List (List ℕ)) → ¬ BeginsWithTap words → (pairs : ℕ) → AsksForTaps words pairs → ⊥
plain_taps words no_tap pairs asks = no_tap (begins words pairs asks)

pub tapped_watch : (words : List (List ℕ)) (pairs : ℕ) → AsksForTaps words pairs → AsksToWatch words → ⊥
tapped_watch words pairs asks watch = watch.no_tap (begins words pairs asks)

-- what is so of a test that is true, and of one that is false, is so
either : (Holds : Type 0) (b : Bool) → (b ≡ true → Holds) → (b ≡ false → Holds) → Holds
either Holds true when_true when_false = when_true refl
either Holds false when_true when_false = when_false refl

-- a run of which the taps could not be created
pub not_created : {W X : Type 0} (faults : X → ℕ) (refused : Option X) (status : Status) (world : W)
    → IfSome refused (λ _. status ≡ WriteFault) → (refused ≡ None → status ≡ NoMemory)
    → IfSome refused (λ w. 0 < faults w) → IsNotBegun faults refused status world world
not_created faults None status world fault memory some = record { cause = inl (memory refl); same = refl }
not_created faults (Some w) status world fault memory some = record { cause = inr (fault, some); same = refl }

module _ {W X : Type 0} (honest : Start → W → Type 0) (shows : Start → W → Shown) (ledger : W → Ledger)
    (healthy : W → Type 0) (may : ℕ → Type 0) (faults : X → ℕ) (refused : Option X) (words : List (List ℕ)) where
  -- Words that begin with `tap` and ask for none: nothing was asked.
  pub runs-bad : (status : Status) (old new : W) (printed : Ledger) → new ≡ old → BeginsWithTap words
      → ((pairs : ℕ) → ¬ AsksForTaps words pairs) → asked_text words ≡ None
      → Runs honest shows ledger healthy may faults refused words status old new printed
  runs-bad status old new printed same tap none no_text = record {
    bad_words = λ bad. inl (tap, none, no_text);
    nothing_asked = λ bad. same;
    performs = λ asks. absurd (bad_perform words tap no_text asks);
    watches = λ asks. absurd (asks.no_tap tap);
    taps = λ pairs asks. absurd (none pairs asks);
    before = λ p h. subst (λ (w : W). honest p w) same h;
  }

  module _ (status : Status) (old new : W) (printed : Ledger) where
    -- words that ask for a text
    pub runs-text : asked_text words ≢ None → PerformsIn honest shows ledger healthy may words status old new
        → Runs honest shows ledger healthy may faults refused words status old new printed
    runs-text text all = record {
      bad_words = λ bad. absurd (text (all.bad_words bad).1);
      nothing_asked = all.nothing_asked;
      performs = λ asks. all;
      watches = λ asks. absurd (text asks.no_text);
      taps = λ pairs asks. absurd (text_no_taps words text pairs asks);
      before = all.before;
    }

    module _ (performs : begins_watch words ≡ false
        → PerformsIn honest shows ledger healthy may words status old new)
        (watches : begins_watch words ≡ true → WatchesIn honest shows ledger healthy words status old new printed) where
      pub runs-plain : asked_text words ≡ None → ¬ BeginsWithTap words
          → Runs honest shows ledger healthy may faults refused words status old new printed
      runs-plain no_text no_tap = record {
        bad_words = λ bad. either (AreBad words) (begins_watch words)
            (λ watch.
            let asks : AsksToWatch words = record { no_text = no_text; no_tap = no_tap; watch = watch } in
            inr (inr (inl (asks, (watches watch).bad_words bad))))
            (λ plain.
            let none = (performs plain).bad_words bad in
            inr (inr (inr (record { no_tap = no_tap; no_watch = plain }, none.0, none.1))));
        nothing_asked = λ bad. either (new ≡ old) (begins_watch words) (λ watch. (watches watch).nothing_asked bad)
            (λ plain. (performs plain).nothing_asked bad);
        performs = λ asks. performs (plain_perform words no_text asks);
        watches = λ asks. watches asks.watch;
        taps = λ pairs asks. absurd (no_tap (begins words pairs asks));
        before = λ p h. either (honest p old) (begins_watch words) (λ watch. (watches watch).before p h)
            (λ plain. (performs plain).before p h);
      }

      pub plain-read_fault : status ≡ ReadFault → 0 < (ledger new).read_faults
      plain-read_fault fault = either (0 < (ledger new).read_faults) (begins_watch words)
          (λ watch. rose_some _ _ ((watches watch).read_fault fault))
          (λ plain. rose_some _ _ ((performs plain).read_fault fault))

      pub plain-write_fault : status ≡ WriteFault
          → (0 < (ledger new).write_faults) ⊎ ((0 < printed.write_faults) ⊎ HasRefused faults refused)
      plain-write_fault fault = either
          ((0 < (ledger new).write_faults) ⊎ ((0 < printed.write_faults) ⊎ HasRefused faults refused))
          (begins_watch words) (λ watch. inr (inl ((watches watch).write_fault fault)))
          (λ plain. inl (rose_some _ _ ((performs plain).write_fault fault)))

    module _ (pairs : ℕ) (asks : AsksForTaps words pairs) where
      abbrev pub Tapped : ℕ → Type 0
      Tapped n = IsNotBegun faults refused status old new
          ⊎ Answers honest shows ledger healthy may (behind_pairs n words) status old new

      pub runs-tapped : Tapped pairs → Runs honest shows ledger healthy may faults refused words status old new printed
      runs-tapped answers = record {
        bad_words = bad answers;
        nothing_asked = nothing answers;
        performs = λ plain. absurd (tapped_perform words pairs asks plain);
        watches = λ watch. absurd (watch.no_tap (begins words pairs asks));
        taps = λ other others. subst Tapped (one_count words pairs other asks others) answers;
        before = earlier answers;
      }
        where
          not_bad : (status ≡ NoMemory) ⊎ ((status ≡ WriteFault) × HasRefused faults refused) → status ≡ BadWords → ⊥
          not_bad (inl memory) is = let never : NoMemory ≡ BadWords = sym memory ∙ is in cc
          not_bad (inr fault) is = let never : WriteFault ≡ BadWords = sym fault.0 ∙ is in cc

          bad : Tapped pairs → status ≡ BadWords → AreBad words
          bad (inl not) is = absurd (not_bad not.cause is)
          bad (inr all) is = inr (inl (pairs, asks, all.bad_words.0 is))

          nothing : Tapped pairs → status ≡ BadWords → new ≡ old
          nothing (inl not) is = not.same
          nothing (inr all) is = all.nothing_asked is

          earlier : Tapped pairs → (p : Start) → honest p new → honest p old
          earlier (inl not) p h = subst (λ (w : W). honest p w) not.same h
          earlier (inr all) p h =
              honest_before honest shows ledger healthy may (behind_pairs pairs words) status old new all p h

      pub tapped-read_fault : Tapped pairs → status ≡ ReadFault → 0 < (ledger new).read_faults
      tapped-read_fault (inl not) fault = absurd (go not.cause)
        where
          go : (status ≡ NoMemory) ⊎ ((status ≡ WriteFault) × HasRefused faults refused) → ⊥
          go (inl memory) = let never : NoMemory ≡ ReadFault = sym memory ∙ fault in cc
          go (inr write) = let never : WriteFault ≡ ReadFault = sym write.0 ∙ fault in cc
      tapped-read_fault (inr all) fault =
          rose_some _ _ (read_rose honest shows ledger healthy may (behind_pairs pairs words) status old new all fault)

      pub tapped-write_fault : Tapped pairs → status ≡ WriteFault
          → (0 < (ledger new).write_faults) ⊎ ((0 < printed.write_faults) ⊎ HasRefused faults refused)
      tapped-write_fault (inl not) fault = go not.cause
        where
          go : (status ≡ NoMemory) ⊎ ((status ≡ WriteFault) × HasRefused faults refused)
              → (0 < (ledger new).write_faults) ⊎ ((0 < printed.write_faults) ⊎ HasRefused faults refused)
          go (inl memory) = absurd (let never : NoMemory ≡ WriteFault = sym memory ∙ fault in cc)
          go (inr write) = inr (inr write.1)
      tapped-write_fault (inr all) fault =
          inl (rose_some _ _
          (write_failed honest shows ledger healthy may (behind_pairs pairs words) status old new all fault).rose)
