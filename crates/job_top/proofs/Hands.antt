-- What the status of `hand` says, and what it leaves: from before its inputs were read.
use Rattle.std.proofs.Common.{◌≡◌, ◌⊎◌, ℕ, List, ◌∷◌, ◌++◌, refl, ap, ◌∙◌, subst, inl, inr, Result, Ok, Err, rules}
use Rattle.std.proofs.Common.{append_assoc, Option}
use Rattle.std.specs.Prelude.{⊤, IsErrOf, OnOk}
use Rattle.plain_text.specs.declared.limit.Limit.{Limit}
use Rattle.world_io.specs.World.{Shown}
use Rattle.recovery_world.specs.declared.event.Event.{Event}
use Rattle.recovery_world.specs.World.{Setting}
use Rattle.recovery_world.specs.Files.{done_line}
use Rattle.handover_world.specs.declared.unready.Unready.{Unready}
use Rattle.run_writes.specs.Replies.{lines_in, released_in}
use Rattle.run_writes.specs.Run.{OutputNames}
use Rattle.run_writes.proofs.ScriptAnswers.{answers_perform}
use Rattle.hand_command.specs.declared.error.HandError.{HandError}
use Rattle.hand_command.specs.declared.error.HandError.TheVariants as hand_error
use Rattle.hand_command.specs.Hand.{HasBegunHand, HasHanded, IsNotReady, IsTooLong, handed_text, resting}
use Rattle.input_files.specs.Files.{KeepsOutputs}
use Rattle.live_writes.proofs.ScriptSteps.{spare_cut, spared}
use Rattle.job_commands.specs.declared.inputs.Inputs.{Inputs}
use Rattle.job_commands.specs.declared.status.Status.{Status}
use Rattle.job_commands.specs.declared.status.Status.TheVariants as status
use Rattle.job_commands.specs.Judging.{Judges}
use Rattle.job_commands.specs.Run.{StopsRun, setting_for}
use Rattle.input_files.specs.Judging.{ScriptTooLarge}
use Rattle.job_commands.specs.Status.{AtInputs, ComesAt, Completes, EndsReading}
use Rattle.job_commands.specs.Turns.{FirstIsTooLarge}
use Rattle.job_commands.specs.HandWords.{HandNames}
use Rattle.job_commands.specs.Words.{run_of_hand}
use Rattle.job_commands.proofs.OneVerdict.{inputs_one, run_completes}
use Rattle.job_commands.proofs.Outcomes.{begun_writes_since, files_since, not_of_run, stopped_since}
use Rattle.job_commands.proofs.RunLimits.{stops_are}
use Rattle.job_top.specs.Hand.{AcceptsHandInputs, AreAcceptedForHand, HandsInOrder}
use Rattle.job_top.specs.Hand.{HandsWhole, JudgesHand, KeepsHandNames, PassesLimit, StopsHand, hand_outcome}
use Rattle.job_top.specs.Hand.{hand_outputs}
use Rattle.job_top.proofs.SparedNames.{spare_hand}
use Rattle.world_io.specs.World.{Ledger, WritingFailed}
use Rattle.input_files.specs.Files.{OpensAll}
use Rattle.job_commands.specs.Answers.{Counts, SaysOf}
use Rattle.job_commands.specs.Words.{hand_inputs}
use Rattle.job_commands.proofs.Usual.{Ends, IsUsual}
use Rattle.job_top.specs.Hand.{hand_meaning}
use Rattle.job_top.proofs.HandPromise.{hand_promise}

-- The files are as they were when the inputs had been read.
module _ (a b c : Shown) (keeps : KeepsOutputs a b) {V : Type 0} (seal : Option (List ℕ)) (s : Setting V)
    (names : OutputNames) (events : List Event) where
  pub handed_since : (r : Result ⊤ HandError) → OnOk r (HasHanded seal s names events b c)
      → OnOk r (HasHanded seal s names events a c)
  handed_since (Ok done) r = record {
    hand = r.hand;
    fits_file = r.fits_file;
    files =
        files_since a b c keeps names s.fractions (released_in (r.hand.replies ++ r.hand.last))
        (handed_text seal s r.hand.image) (lines_in (r.hand.replies ++ r.hand.last) ++ done_line r.hand.world) r.files;
  }
  handed_since (Err e) r = tt

  pub unready_since : (unready : Unready) → IsNotReady s names events unready b c
      → IsNotReady s names events unready a c
  unready_since unready r = record {
    replies = r.replies;
    world = r.world;
    answers = r.answers;
    readiness = r.readiness;
    fit_records = r.fit_records;
    files = files_since a b c keeps names s.fractions (released_in r.replies) _ (lines_in r.replies) r.files;
  }

  pub long_since : (limit : Limit) → IsTooLong seal s names events limit b c → IsTooLong seal s names events limit a c
  long_since limit r = record {
    long = r.long;
    files =
        files_since a b c keeps names s.fractions (released_in (r.long.hand.replies ++ r.long.hand.last)) _
        (lines_in (r.long.hand.replies ++ r.long.hand.last)) r.files;
  }

  pub order_handed : HasBegunHand seal s names events b c → HasBegunHand seal s names events a c
  order_handed (writes, is, begun) = (writes, is, begun_writes_since a b c keeps writes begun)

pub limit_since : (a b c : Shown) → KeepsOutputs a b → (inputs : Inputs) (names : OutputNames) (limit : Limit)
    → PassesLimit inputs names limit b c → PassesLimit inputs names limit a c
limit_since a b c keeps inputs names limit (inl stopped) =
    inl (stopped_since a b c keeps (setting_for inputs) names (inputs.events ++ resting) limit stopped)
limit_since a b c keeps inputs names limit (inr long) =
    inr (long_since a b c keeps inputs.conf.seal (setting_for inputs) names inputs.events limit long)

-- The status of the hand-over, where its inputs are accepted.

stops_so : (inputs : Inputs) (names : OutputNames) (limit : Limit) (a c : Shown) → PassesLimit inputs names limit a c
    → StopsHand inputs limit
stops_so inputs names limit a c (inl h) = inl (h.report, h.released, h.leaves)
stops_so inputs names limit a c (inr h) = inr h.long

module _ (healthy : Type 0) (names : HandNames) (inputs : Inputs) (a c : Shown)
    (accepted : AcceptsHandInputs names inputs a) where
  abbrev Leaves : Result ⊤ HandError → Type 0
  Leaves r = OnOk r (HasHanded inputs.conf.seal (setting_for inputs) (hand_outputs names) inputs.events a c)

  abbrev StaysUnready : Result ⊤ HandError → Type 0
  StaysUnready r =
      (unready : Unready) → r ≡ Err (hand_error.Unready unready)
      → IsNotReady (setting_for inputs) (hand_outputs names) inputs.events unready a c

  abbrev Stops : Result ⊤ HandError → Type 0
  Stops r =
      (limit : Limit) → r ≡ Err (hand_error.Limit limit)
      → PassesLimit inputs (hand_outputs names) limit a c

  hand_judged : (r : Result ⊤ HandError) → (healthy → ¬ IsErrOf r hand_error.WriteFault) → Leaves r
      → StaysUnready r → Stops r → JudgesHand healthy names (hand_outcome r) a
  hand_judged (Ok done) never whole unready limit = (inputs, accepted, whole.hand)
  hand_judged (Err (hand_error.Limit l)) never whole unready limit =
      inr (inputs, accepted, stops_so inputs (hand_outputs names) l a c (limit l refl))
  hand_judged (Err hand_error.WriteFault) never whole unready limit = (λ ok. never ok refl, inputs, accepted)
  hand_judged (Err hand_error.NoMemory) never whole unready limit = tt
  hand_judged (Err (hand_error.Unready u)) never whole unready limit =
      let h = unready u refl in (
        inputs,
        accepted,
        (
          lines_in h.replies,
          h.world,
          answers_perform (setting_for inputs) inputs.events h.replies h.world h.answers,
          h.readiness,
        ),
      )

  hand_says : (r : Result ⊤ HandError) → Leaves r → StaysUnready r → Stops r
      → SaysOf (hand_meaning names) (hand_outcome r) a c
  hand_says (Ok done) whole unready limit =
      let all : HandsWhole names a c = (inputs, accepted, whole) in (all, hand_promise names a c all)
  hand_says (Err (hand_error.Limit l)) whole unready limit = inr (inputs, accepted, limit l refl)
  hand_says (Err hand_error.WriteFault) whole unready limit = tt
  hand_says (Err hand_error.NoMemory) whole unready limit = tt
  hand_says (Err (hand_error.Unready u)) whole unready limit = (inputs, accepted, unready u refl)

  pub hand_ends : (r : Result ⊤ HandError) → (healthy → ¬ IsErrOf r hand_error.WriteFault) → Leaves r
      → StaysUnready r → Stops r
      → HasBegunHand inputs.conf.seal (setting_for inputs) (hand_outputs names) inputs.events a c
      → Ends (hand_meaning names) healthy (hand_outcome r) a c
  hand_ends r never whole unready limit begun = record {
    says = hand_says r whole unready limit;
    in_order = inr (inputs, accepted, begun);
    judged = hand_judged r never whole unready limit;
  }

-- What it says of the ledger, where all inputs were opened.
pub hand_counts : {W : Type 0} (ledger : W → Ledger) (healthy : W → Type 0) (names : HandNames) (old new : W)
    (r : Result ⊤ HandError) → OpensAll (hand_inputs names) (ledger old) (ledger new)
    → (IsErrOf r hand_error.WriteFault → WritingFailed ledger healthy old new)
    → Counts ledger healthy (hand_meaning names) (hand_outcome r) old new
hand_counts ledger healthy names old new (Ok done) opened cause = opened
hand_counts ledger healthy names old new (Err (hand_error.Limit l)) opened cause = tt
hand_counts ledger healthy names old new (Err hand_error.WriteFault) opened cause = cause refl
hand_counts ledger healthy names old new (Err hand_error.NoMemory) opened cause = tt
hand_counts ledger healthy names old new (Err (hand_error.Unready u)) opened cause = tt

-- an input that passes a limit is the first that is not accepted
pub first_too_large : (healthy : Type 0) (names : HandNames) (limit : Limit) (a : Shown)
    → ComesAt AtInputs (status.TooLarge limit) → Judges healthy (run_of_hand names) (status.TooLarge limit) a
    → FirstIsTooLarge names.box_file names.capture (ScriptTooLarge names.script limit a) limit a
first_too_large healthy names limit a early (inl first) = first
first_too_large healthy names limit a early (inr (inputs, accepted, (report, released, at))) =
    absurd (not_of_run (status.TooLarge limit) limit refl
    (stops_are (setting_for inputs) at.there at.event limit at.world at.stops) early)

-- what a refused input says, which is no stop of a run
pub hand_refused : (healthy : Type 0) (names : HandNames) (s : Status) (a : Shown) → EndsReading s
    → ComesAt AtInputs s → Judges healthy (run_of_hand names) s a → JudgesHand healthy names s a
hand_refused healthy names status.Done a quiet early h = absurd quiet
hand_refused healthy names (status.Refuted refutation) a quiet early h = absurd quiet
hand_refused healthy names (status.Unready unready) a quiet early h = absurd quiet
hand_refused healthy names status.BadWords a quiet early h = absurd quiet
hand_refused healthy names status.ReadFault a quiet early h = h
hand_refused healthy names status.WriteFault a quiet early h = absurd quiet
hand_refused healthy names status.NoMemory a quiet early h = tt
hand_refused healthy names (status.BadInput fault) a quiet early h = h
hand_refused healthy names (status.TooLarge limit) a quiet early h = inl (first_too_large healthy names limit a early h)

-- An event that stops the run stops the hand-over.
stops_longer : (inputs : Inputs) (limit : Limit) → StopsRun inputs limit → StopsHand inputs limit
stops_longer inputs limit (report, released, at) = inl (
  report,
  released,
  record {
    before = at.before;
    event = at.event;
    after = at.after ++ resting;
    events_are =
        ap (λ (l : List Event). l ++ resting) at.events_are
        ∙ append_assoc at.before (at.event ∷ at.after) resting;
    there = at.there;
    performs = at.performs;
    world = at.world;
    stops = at.stops;
    released_is = at.released_is;
  },
)

-- In a healthy world a hand-over that is accepted and passes no limit is done, or its system is not ready, or memory
-- ran out.
pub hand_completes : (healthy : Type 0) (names : HandNames) (shown : Shown) → healthy
    → AreAcceptedForHand names shown → (s : Status) → JudgesHand healthy names s shown
    → Completes s ⊎ ((unready : Unready) × (s ≡ status.Unready unready))
hand_completes healthy names shown ok (x, a, within) = go
  where
    of_run : (s : Status) → Judges healthy (run_of_hand names) s shown
        → Completes s ⊎ ((unready : Unready) × (s ≡ status.Unready unready))
    of_run s h = inl (run_completes healthy (run_of_hand names) shown ok
        (x, a, λ limit stops. within limit (stops_longer x limit stops)) s h)

    go : (s : Status) → JudgesHand healthy names s shown
        → Completes s ⊎ ((unready : Unready) × (s ≡ status.Unready unready))
    go status.Done h = inl (inl refl)
    go (status.Refuted refutation) h = absurd h
    go (status.Unready unready) h = inr (unready, refl)
    go status.BadWords h = absurd h
    go status.ReadFault h = of_run status.ReadFault h
    go status.WriteFault h = of_run status.WriteFault h
    go status.NoMemory h = inl (inr refl)
    go (status.BadInput fault) h = of_run (status.BadInput fault) h
    go (status.TooLarge limit) (inl first) = of_run (status.TooLarge limit) (inl first)
    go (status.TooLarge limit) (inr (y, b, stops)) =
        absurd (within limit (subst (λ (i : Inputs). StopsHand i limit)
        (inputs_one healthy (run_of_hand names) shown y x b a) stops))

-- Other names

pub hand_others : (names : HandNames) (a b : Shown) → HandsInOrder names a b → KeepsHandNames names a b
hand_others names a b (inl kept) name one two = ap (λ f. f name) kept.names
hand_others names a b (inr (inputs, accepted, (writes, is, begun))) name one two =
    begun.written.names name
    ∙ spared name begun.done (a.names name) (spare_cut name begun.done writes
    (spare_hand (hand_outputs names) name one two inputs.conf.seal (setting_for inputs) inputs.events writes is)
    begun.cut)

pub hand_usual : (names : HandNames) → IsUsual (hand_meaning names)
hand_usual names = record {
  few = search rules;
  begins = λ old new same. inl same;
  others = hand_others names;
  completes = λ healthy shown. hand_completes healthy names shown;
}
