-- What a hand-over comes to, step by step.
use Rattle.std.proofs.Common.{◌≡◌, ℕ, List, [], ◌∷◌, ◌++◌, refl, sym, ap, ◌∙◌, append-nil, append_assoc, subst}
use Rattle.std.proofs.Common.{inl, inr, Option, Result, Ok, Err}
use Rattle.std.specs.Prelude.{⊤, ◌⊎◌, All}
use Rattle.std.proofs.lemmas.List.Elements.{All-append, All-nil}
use Rattle.plain_text.specs.declared.limit.Limit.{Limit}
use Rattle.plain_machine.specs.Program.{Meaning}
use Rattle.world_io.specs.World.{Shown}
use Rattle.recovery_world.specs.declared.event.Event.{Event}
use Rattle.recovery_world.specs.World.{Setting, World as SystemWorld, opening}
use Rattle.recovery_world.specs.Files.{Performs, done_line}
use Rattle.run_command.specs.FromRecoveryCore.{Systemed}
use Rattle.handover.specs.declared.image.Image.{Image}
use Rattle.handover.specs.Images.{FitsImage}
use Rattle.handover_world.specs.Counted.{IsCounted}
use Rattle.handover_world.specs.Images.{IsImageOf}
use Rattle.handover_world.specs.declared.unready.Unready.{Unready}
use Rattle.handover_world.specs.Ready.{IsReadiness}
use Rattle.output_files.specs.declared.error.OutputError.{OutputError}
use Rattle.output_files.specs.declared.error.OutputError.TheVariants as output
use Rattle.output_files.specs.Writes.{Write, HasWritten, HasBegun, HasGathered}
use Rattle.run_writes.specs.declared.error.RunError.{RunError}
use Rattle.run_writes.specs.declared.error.RunError.TheVariants as run
use Rattle.run_writes.specs.Errors.{run_error_of}
use Rattle.run_writes.specs.Replies.{Reply, AnswersFrom, Opens, Point, beginning, lines_in, released_in}
use Rattle.run_writes.specs.Run.{OutputNames, FitsRecord, writes_of, WritesSomeFrom, WritesUntilFrom}
use Rattle.run_writes.proofs.ScriptAnswers.{answers_perform, answers_then, released_join}
use Rattle.run_command.specs.Running.{GoesOn, HasBegunSome, HasCome}
use Rattle.run_command.proofs.Going.{some_longer, until_longer}
use Rattle.hand_command.specs.Errors.{hand_error_of, hand_result_of}
use Rattle.hand_command.specs.Hand.{FitsFile, HandsOver, HasBegunHand, WritesHandover, handed_text, image_writes}
use Rattle.hand_command.specs.Hand.{resting}
use Rattle.hand_command.specs.Handing.{EndsHand, HasBegunImage, LeftUnready, WritesImage}
use Rattle.hand_command.proofs.RestingWorlds.{RestingLaws}

-- a first part of what the events and the last four write
some_hand : {V : Type 0} (seal : Option (List ℕ)) (s : Setting V) (names : OutputNames) (events : List Event)
    (a b : Shown) → HasBegunSome s (beginning V) names (events ++ resting) a b → HasBegunHand seal s names events a b
some_hand seal s names events a b (writes, (inl some), begun) = (writes, inl some, begun)
some_hand seal s names events a b (writes, (inr until), begun) = (writes, inr (inl until), begun)

-- the events of the script came to no end
pub failed_hand : (seal : Option (List ℕ)) (A : Type 0) {P V : Type 0} (m : Meaning V) (s : Setting V)
    (names : OutputNames) (events : List Event) (y : Systemed P V) (lines : List ℕ) (a b : Shown) (e : RunError)
    → GoesOn {A = A} (Err e) m s (beginning V) names events y lines a b
    → EndsHand (Err (hand_error_of e)) seal s names events a b
failed_hand seal A {P} {V} m s names events y lines a b (run.Limit limit) h = inl (record {
  writes = h.writes;
  until = until_longer s (beginning V) names events resting limit h.writes h.until;
  written = h.written;
})
failed_hand seal A {P} {V} m s names events y lines a b run.WriteFault h =
    some_hand seal s names events a b (some_longer s (beginning V) names events resting a b h)
failed_hand seal A {P} {V} m s names events y lines a b run.NoMemory h =
    some_hand seal s names events a b (some_longer s (beginning V) names events resting a b h)

module _ {P V : Type 0} (seal : Option (List ℕ)) (m : Meaning V) (s : Setting V) (names : OutputNames)
    (events : List Event) (y : Systemed P V) (lines : List ℕ) (a b : Shown)
    (come : HasCome m s (beginning V) names events y lines a b) where
  abbrev pub ready_point : Point V
  ready_point = record { world = come.world; replies = come.replies }

  -- where the events of the script ended, the last four begin
  pub from_there : HasCome m s ready_point names [] y lines a b
  from_there = record {
    replies = [];
    world = come.world;
    answers = Opens;
    at = come.at;
    fit_records = All-nil FitsRecord;
    gathered = subst (λ (l : List Reply). HasGathered (writes_of names s.fractions l) lines a b)
        (sym (append-nil come.replies)) come.gathered;
  }

  some_behind : (writes : List Write) → WritesSomeFrom s ready_point names resting writes
      → WritesSomeFrom s (beginning V) names (events ++ resting) writes
  some_behind writes some = record {
    before = events ++ some.before;
    after = some.after;
    events_are = ap (λ l. events ++ l) some.events_are ∙ sym (append_assoc events some.before some.after);
    replies = come.replies ++ some.replies;
    world = some.world;
    answers = answers_then s (opening V) come.world events some.before come.replies some.replies some.world come.answers
        some.answers;
    writes_are = some.writes_are;
  }

  until_behind : (limit : Limit) (writes : List Write) → WritesUntilFrom s ready_point names resting limit writes
      → WritesUntilFrom s (beginning V) names (events ++ resting) limit writes
  until_behind limit writes until = record {
    before = events ++ until.before;
    event = until.event;
    after = until.after;
    events_are =
        ap (λ l. events ++ l) until.events_are
        ∙ sym (append_assoc events until.before (until.event ∷ until.after));
    replies = come.replies ++ until.replies;
    there = until.there;
    answers = answers_then s (opening V) come.world events until.before come.replies until.replies until.there
        come.answers until.answers;
    world = until.world;
    stops = until.stops;
    writes_are = until.writes_are;
  }

  begun_behind : (c : Shown) → HasBegunSome s ready_point names resting a c → HasBegunHand seal s names events a c
  begun_behind c (writes, (inl some), begun) = (writes, inl (some_behind writes some), begun)
  begun_behind c (writes, (inr (limit, until)), begun) = (
    writes,
    inr (inl (limit, until_behind limit writes until)),
    begun,
  )

  -- the last four events came to no end
  pub stopped_behind : (z : Systemed P V) (more : List ℕ) (c : Shown) (e : RunError)
      → GoesOn {A = ⊤} (Err e) m s ready_point names resting z more a c
      → EndsHand (Err (hand_error_of e)) seal s names events a c
  stopped_behind z more c (run.Limit limit) h = inl (record {
    writes = h.writes;
    until = until_behind limit h.writes h.until;
    written = h.written;
  })
  stopped_behind z more c run.WriteFault h = begun_behind c h
  stopped_behind z more c run.NoMemory h = begun_behind c h

  module _ (laws : RestingLaws V) (ready : IsReadiness come.world (Ok tt))
      (z : Systemed P V) (more : List ℕ) (c : Shown) (rest : HasCome m s ready_point names resting z more a c) where
    rests : Performs s come.world resting (lines_in rest.replies) rest.world
    rests = answers_perform s resting rest.replies rest.world rest.answers

    pub is_counted : IsCounted rest.world
    is_counted =
        laws.goes_on s come.world resting (lines_in rest.replies) rest.world come.at.stands.parts.sound
        (laws.performed s events (lines_in come.replies) come.world
        (answers_perform s events come.replies come.world come.answers)) rests

    fit : All FitsRecord (released_in (come.replies ++ rest.replies))
    fit =
        subst (All FitsRecord) (sym (released_join come.replies rest.replies)) (All-append FitsRecord
        (released_in come.replies) (released_in rest.replies) come.fit_records rest.fit_records)

    abbrev hands_over : (image : Image) → IsImageOf s rest.world image → FitsImage image → HandsOver s events
    hands_over image is fits = record {
      replies = come.replies;
      ready = come.world;
      answers = come.answers;
      readiness = ready;
      last = rest.replies;
      world = rest.world;
      rests = rest.answers;
      image = image;
      handed = record {
        sound = rest.at.stands.parts.sound;
        rest = laws.rest s come.world rest.world come.at.stands.parts.sound ready
            (laws.script s come.world rest.world (lines_in rest.replies) rests);
        image_is = is;
      };
      fit_records = fit;
      fits_image = fits;
    }

    abbrev pub replied : List Write
    replied = writes_of names s.fractions (come.replies ++ rest.replies)

    handover : (image : Image) → IsImageOf s rest.world image → FitsImage image
        → FitsFile (handed_text seal s image) image
        → WritesHandover seal s names events
        (replied ++ image_writes names (handed_text seal s image) (done_line rest.world))
    handover image is fits fits_file =
        record { hand = hands_over image is fits; fits_file = fits_file; writes_are = refl }

    -- the image was not begun
    bare : (d : Shown) → HasBegun replied a d → HasBegunHand seal s names events a d
    bare d begun = (
      replied,
      inl (record {
        before = events ++ resting;
        after = [];
        events_are = sym (append-nil (events ++ resting));
        replies = come.replies ++ rest.replies;
        world = rest.world;
        answers = answers_then s (opening V) come.world events resting come.replies rest.replies rest.world
            come.answers rest.answers;
        writes_are = refl;
      }),
      begun,
    )

    -- the image is written, as far as it comes
    pub image_goes : (r : Result ⊤ RunError) (d : Shown) → WritesImage r seal s rest.world names replied a d
        → EndsHand (hand_result_of r) seal s names events a d
    image_goes r d h = go r h
      where
        stops : HasBegunImage seal s rest.world names replied a d → HasBegunHand seal s names events a d
        stops (inl begun) = bare d begun
        stops (inr (image, is, fits, fits_file, begun)) = (
          replied ++ image_writes names (handed_text seal s image) (done_line rest.world),
          inr (inr (handover image is fits fits_file)),
          begun,
        )

        go : (r : Result ⊤ RunError) → WritesImage r seal s rest.world names replied a d
            → EndsHand (hand_result_of r) seal s names events a d
        go (Ok done) (image, is, fits, fits_file, written) = (
          replied ++ image_writes names (handed_text seal s image) (done_line rest.world),
          handover image is fits fits_file,
          written,
        )
        go (Err (run.Limit limit)) (image, is, fits, passes, written) = inr (record {
          long = record { hand = hands_over image is fits; passes = passes };
          written = written;
        })
        go (Err run.WriteFault) h = stops h
        go (Err run.NoMemory) h = stops h

  -- the system is not ready, and the lines that are gathered were written
  pub unready_goes : (unready : Unready) (c : Shown) → IsReadiness come.world (Err unready)
      → HasWritten (writes_of names s.fractions come.replies) a c → LeftUnready s names events unready a c
  unready_goes unready c not written = record {
    replies = come.replies;
    world = come.world;
    answers = come.answers;
    readiness = not;
    fit_records = come.fit_records;
    written = written;
  }

  -- or they could not be
  pub lines_begun : (e : OutputError) (c : Shown) → HasBegun (writes_of names s.fractions come.replies) a c
      → EndsHand (Err (hand_error_of (run_error_of e))) seal s names events a c
  lines_begun e c begun = go e
    where
      some : HasBegunHand seal s names events a c
      some = (
        writes_of names s.fractions come.replies,
        inl (record {
          before = events;
          after = resting;
          events_are = refl;
          replies = come.replies;
          world = come.world;
          answers = come.answers;
          writes_are = refl;
        }),
        begun,
      )

      go : (e : OutputError) → EndsHand (Err (hand_error_of (run_error_of e))) seal s names events a c
      go output.WriteFault = some
      go output.NoMemory = some
