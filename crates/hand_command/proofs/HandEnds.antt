-- What a whole hand-over leaves in its files.
use Rattle.std.proofs.Common.{◌≡◌, ◌⊎◌, ℕ, List, [], ◌++◌, append-nil, refl, sym, subst, inl, inr, Option}
use Rattle.std.proofs.Common.{Result, Ok, Err}
use Rattle.std.specs.Prelude.{⊤, IsErrOf, OnOk}
use Rattle.plain_text.specs.declared.limit.Limit.{Limit}
use Rattle.plain_machine.specs.Program.{Meaning}
use Rattle.world_io.specs.World.{Shown}
use Rattle.recovery_world.specs.declared.event.Event.{Event}
use Rattle.recovery_world.specs.World.{Setting, opening}
use Rattle.recovery_world.specs.Files.{done_line}
use Rattle.run_command.specs.FromRecoveryCore.{Systemed}
use Rattle.handover_world.specs.declared.unready.Unready.{Unready}
use Rattle.output_files.specs.declared.error.OutputError.{OutputError}
use Rattle.output_files.specs.declared.error.OutputError.TheVariants as output
use Rattle.output_files.specs.Writes.{Write, HasWritten, HasBegun}
use Rattle.output_files.proofs.Effects.{begun_all, begun_before}
use Rattle.run_writes.specs.declared.error.RunError.{RunError}
use Rattle.run_writes.specs.declared.error.RunError.TheVariants as run
use Rattle.run_writes.specs.Errors.{run_error_of}
use Rattle.run_writes.specs.Replies.{Opens, beginning}
use Rattle.run_writes.specs.Run.{OutputNames, HasStopped, WritesSome, opening_writes, writes_of}
use Rattle.run_writes.proofs.ScriptAnswers.{answers_then}
use Rattle.run_writes.proofs.RunWrites.{bare_files, has_stopped, text_files}
use Rattle.run_command.specs.Running.{GoesOn, StoppedThere}
use Rattle.hand_command.specs.declared.error.HandError.{HandError}
use Rattle.hand_command.specs.declared.error.HandError.TheVariants as hand
use Rattle.hand_command.specs.Errors.{hand_error_of, hand_result_of}
use Rattle.hand_command.specs.Hand.{HandsOver, HasBegunHand, HasHanded, IsTooLong, handed_text, IsNotReady, resting}
use Rattle.hand_command.specs.Handing.{EndsHand, LeftUnready}
use Rattle.hand_command.proofs.HandSteps.{failed_hand}

-- all events and the last four were performed
all_performed : {V : Type 0} (s : Setting V) (names : OutputNames) (events : List Event) (hand : HandsOver s events)
    → WritesSome s names (events ++ resting) (writes_of names s.fractions (hand.replies ++ hand.last))
all_performed {V} s names events hand = record {
  before = events ++ resting;
  after = [];
  events_are = sym (append-nil (events ++ resting));
  replies = hand.replies ++ hand.last;
  world = hand.world;
  answers = answers_then s (opening V) hand.ready events resting hand.replies hand.last hand.world hand.answers
      hand.rests;
  writes_are = refl;
}

module _ {V : Type 0} (seal : Option (List ℕ)) (s : Setting V) (names : OutputNames) (events : List Event)
    (a b : Shown) where
  -- a first part was written, whatever it came to
  pub hand_begun : (r : Result ⊤ HandError) → EndsHand r seal s names events a b → HasBegunHand seal s names events a b
  hand_begun (Ok done) h = (h.0, inr (inr h.1), begun_all h.0 a b h.2)
  hand_begun (Err (hand.Limit limit)) (inl h) =
      (h.writes, inr (inl (limit, h.until)), begun_all h.writes a b h.written)
  hand_begun (Err (hand.Limit limit)) (inr h) = (
    _,
    inl (all_performed s names events h.long.hand),
    begun_all _ a b h.written,
  )
  hand_begun (Err hand.WriteFault) h = h
  hand_begun (Err hand.NoMemory) h = h
  hand_begun (Err (hand.Unready unready)) h = (
    _,
    inl (record {
      before = events;
      after = resting;
      events_are = refl;
      replies = h.replies;
      world = h.world;
      answers = h.answers;
      writes_are = refl;
    }),
    begun_all _ a b h.written,
  )

  -- nothing was written
  pub hand_nothing : HasBegun (opening_writes names s.fractions) a b → HasBegunHand seal s names events a b
  hand_nothing begun = (
    writes_of names s.fractions [],
    inl (record {
      before = [];
      after = events ++ resting;
      events_are = refl;
      replies = [];
      world = opening V;
      answers = Opens;
      writes_are = refl;
    }),
    begun_before (opening_writes names s.fractions) [] a b begun,
  )

  module _ (apart : names.released ≡ names.schedule → ⊥) where
    pub hand_whole : (r : Result ⊤ HandError) → EndsHand r seal s names events a b
        → OnOk r (HasHanded seal s names events a b)
    hand_whole (Ok done) (writes, handover, written) = record {
      hand = handover.hand;
      fits_file = handover.fits_file;
      files = text_files names s.fractions apart (handover.hand.replies ++ handover.hand.last)
          (handed_text seal s handover.hand.image) (done_line handover.hand.world) a b
          (subst (λ (ws : List Write). HasWritten ws a b) handover.writes_are written);
    }
    hand_whole (Err error) h = tt

    pub hand_unready : (r : Result ⊤ HandError) (unready : Unready) → EndsHand r seal s names events a b
        → r ≡ Err (hand.Unready unready) → IsNotReady s names events unready a b
    hand_unready r unready h is =
        let left : LeftUnready s names events unready a b =
        subst (λ (x : Result ⊤ HandError). EndsHand x seal s names events a b) is h in
        record {
          replies = left.replies;
          world = left.world;
          answers = left.answers;
          readiness = left.readiness;
          fit_records = left.fit_records;
          files = bare_files names s.fractions apart left.replies a b left.written;
        }

    at_limit : (limit : Limit) → EndsHand (Err (hand.Limit limit)) seal s names events a b
        → HasStopped s names (events ++ resting) limit a b ⊎ IsTooLong seal s names events limit a b
    at_limit limit (inl stopped) =
        inl (has_stopped s names (events ++ resting) limit stopped.writes a b apart stopped.until stopped.written)
    at_limit limit (inr left) = inr (record {
      long = left.long;
      files = bare_files names s.fractions apart (left.long.hand.replies ++ left.long.hand.last) a b left.written;
    })

    pub hand_limit : (r : Result ⊤ HandError) (limit : Limit) → EndsHand r seal s names events a b
        → r ≡ Err (hand.Limit limit)
        → HasStopped s names (events ++ resting) limit a b ⊎ IsTooLong seal s names events limit a b
    hand_limit r limit h is =
        at_limit limit (subst (λ (x : Result ⊤ HandError). EndsHand x seal s names events a b) is h)

-- the same events
pub hand_same : {V : Type 0} (seal : Option (List ℕ)) (r : Result ⊤ HandError) (s : Setting V) (names : OutputNames)
    (events other : List Event) (a b : Shown) → events ≡ other → EndsHand r seal s names events a b
    → EndsHand r seal s names other a b
hand_same {V} seal r s names events other a b same h =
    subst (λ (l : List Event). EndsHand r seal s names l a b) same h

-- an error of a hand-over is a write fault only where that of its run is
pub fault_handed : (r : Result ⊤ RunError) → IsErrOf (hand_result_of r) hand.WriteFault → IsErrOf r run.WriteFault
fault_handed (Ok done) h = absurd (cc)
fault_handed (Err (run.Limit limit)) h = absurd (cc)
fault_handed (Err run.WriteFault) h = refl
fault_handed (Err run.NoMemory) h = absurd (cc)

-- a hand-over whose events came to no end has a write fault only where they had one
pub fault_made : {A B : Type 0} (w : Result B HandError) (r : Result A RunError) (e : RunError)
    → w ≡ Err (hand_error_of e) → r ≡ Err e → IsErrOf w hand.WriteFault → IsErrOf r run.WriteFault
fault_made w r (run.Limit limit) made was fault = absurd (cc)
fault_made w r run.WriteFault made was fault = was
fault_made w r run.NoMemory made was fault = absurd (cc)

-- the events of the script came to no end
pub hand_failed : (seal : Option (List ℕ)) (A : Type 0) {P V : Type 0} (r : Result ⊤ HandError) (e : RunError)
    (m : Meaning V) (s : Setting V) (names : OutputNames) (events : List Event) (y : Systemed P V) (lines : List ℕ)
    (a b : Shown) → r ≡ Err (hand_error_of e) → GoesOn {A = A} (Err e) m s (beginning V) names events y lines a b
    → EndsHand r seal s names events a b
hand_failed seal A {P} {V} r e m s names events y lines a b is h =
    subst (λ (x : Result ⊤ HandError). EndsHand x seal s names events a b) (sym is)
    (failed_hand seal A m s names events y lines a b e h)

-- the same where the lines that are gathered could not be written
pub fault_lines : {A B : Type 0} (w : Result B HandError) (r : Result A OutputError) (e : OutputError)
    → w ≡ Err (hand_error_of (run_error_of e)) → r ≡ Err e → IsErrOf w hand.WriteFault
    → IsErrOf r output.WriteFault
fault_lines w r output.WriteFault made was fault = was
fault_lines w r output.NoMemory made was fault = absurd (cc)
