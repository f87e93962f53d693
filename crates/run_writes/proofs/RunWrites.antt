-- What stands after the writes of a run.
use Rattle.std.proofs.Common.{◌≡◌, ℕ, List, [], ◌∷◌, ◌++◌, refl, sym, ap, ◌∙◌, append-nil, append_assoc, subst, Option}
use Rattle.std.proofs.Common.{Some, inl, true, false}
use Rattle.std.specs.Prelude.{All}
use Rattle.std.specs.Str.{bytes_eq}
use Rattle.plain_text.specs.declared.limit.Limit.{Limit}
use Rattle.plain_text.specs.declared.packet.Packet.{Packet}
use Rattle.plain_text.specs.declared.packet.Unit.{Unit as FractionUnit}
use Rattle.pcap_io.specs.Capture.{written_header, record_of, records_of}
use Rattle.pcap_io.specs.declared.order.Order.TheVariants as order
use Rattle.plain_machine.specs.declared.plain_move.PlainMove.{PlainMove}
use Rattle.plain_player.specs.ScheduleText.{schedule_text}
use Rattle.world_io.specs.World.{Shown}
use Rattle.recovery_world.specs.declared.event.Event.{Event}
use Rattle.recovery_world.specs.World.{Setting, World as SystemWorld}
use Rattle.recovery_world.specs.Files.{done_line, moves_made, packets_of}
use Rattle.recovery_laws.proofs.ReleasedOutputs.{stops_grow}
use Rattle.output_files.specs.Writes.{report_file, Write, Appends, Reports, after_writes, reported, HasWritten}
use Rattle.output_files.specs.Writes.{HasBegun}
use Rattle.output_files.proofs.Effects.{Compared, IsSame, Differs, compared, reported_more, begun_before, after_more}
use Rattle.run_writes.specs.Replies.{Reply, Opens, at_world, newly_released, released_in, lines_in}
use Rattle.run_writes.specs.Run.{OutputNames, FitsRecord, opening_writes, release_writes, replies_writes, writes_of}
use Rattle.run_writes.specs.Run.{closing_writes, WritesUntil, WritesAll, HasFiles, HasRun, HasStopped, HasBegunFrom}
use Rattle.run_writes.proofs.ScriptAnswers.{answers_perform, answers_release, released_then}

pub same_name : (name : List ℕ) → bytes_eq name name ≡ true
same_name name = go (compared name name)
  where
    go : Compared name name → bytes_eq name name ≡ true
    go (IsSame e same) = e
    go (Differs e apart) = absurd (apart refl)

pub other_name : (name other : List ℕ) → ¬ (name ≡ other) → bytes_eq name other ≡ false
other_name name other unlike = go (compared name other)
  where
    go : Compared name other → bytes_eq name other ≡ false
    go (IsSame e same) = absurd (unlike same)
    go (Differs e apart) = e

pub records_more : (first more : List Packet)
    → records_of order.Little (first ++ more) ≡ records_of order.Little first ++ records_of order.Little more
records_more [] more = refl
records_more (p ∷ first) more =
    ap (λ l. record_of order.Little p ++ l) (records_more first more)
    ∙ sym (append_assoc (record_of order.Little p) (records_of order.Little first) (records_of order.Little more))

-- the capture gets the records of all replies, behind what it has
released_after : (name : List ℕ) (replies : List Reply) (had : List ℕ)
    → after_writes name (replies_writes name replies) (Some had)
    ≡ Some (had ++ records_of order.Little (released_in replies))
released_after name [] had = ap (λ (l : List ℕ). Some l) (sym (append-nil had))
released_after name (r ∷ replies) had =
    rw (same_name name) (released_after name replies (had ++ records_of order.Little r.released)
    ∙ ap (λ (l : List ℕ). Some l)
    (append_assoc had (records_of order.Little r.released) (records_of order.Little (released_in replies))
    ∙ ap (λ l. had ++ l) (sym (records_more r.released (released_in replies)))))

-- any other name has what it had
others_after : (name other : List ℕ) (replies : List Reply) (had : Option (List ℕ)) → ¬ (name ≡ other)
    → after_writes other (replies_writes name replies) had ≡ had
others_after name other [] had unlike = refl
others_after name other (r ∷ replies) had unlike =
    rw (other_name name other unlike) (others_after name other replies had unlike)

pub lines_after : (name : List ℕ) (replies : List Reply) → reported (replies_writes name replies) ≡ lines_in replies
lines_after name [] = refl
lines_after name (r ∷ replies) = ap (λ l. r.line ++ l) (lines_after name replies)

module _ (names : OutputNames) (u : FractionUnit) (apart : names.released ≡ names.schedule → ⊥) where
  flipped : names.schedule ≡ names.released → ⊥
  flipped e = apart (sym e)

  -- after the writes of these replies
  pub captured : (replies : List Reply) (had : Option (List ℕ))
      → after_writes names.released (writes_of names u replies) had
      ≡ Some (written_header u ++ records_of order.Little (released_in replies))
  captured replies had =
      after_more names.released (opening_writes names u) (replies_writes names.released replies) had
      ∙ ap (after_writes names.released (replies_writes names.released replies)) opened
      ∙ released_after names.released replies (written_header u)
    where
      opened : after_writes names.released (opening_writes names u) had ≡ Some (written_header u)
      opened = rw (same_name names.released) (rw (other_name names.schedule names.released flipped) refl)

  pub scheduled : (replies : List Reply) (had : Option (List ℕ))
      → after_writes names.schedule (writes_of names u replies) had ≡ Some []
  scheduled replies had =
      after_more names.schedule (opening_writes names u) (replies_writes names.released replies) had
      ∙ others_after names.released names.schedule replies
      (after_writes names.schedule (opening_writes names u) had) apart
      ∙ opened
    where
      opened : after_writes names.schedule (opening_writes names u) had ≡ Some []
      opened = rw (other_name names.released names.schedule apart) (rw (same_name names.schedule) refl)

  pub kept : (replies : List Reply) (name : List ℕ) (had : Option (List ℕ)) → ¬ (name ≡ names.released)
      → ¬ (name ≡ names.schedule) → after_writes name (writes_of names u replies) had ≡ had
  kept replies name had one two =
      after_more name (opening_writes names u) (replies_writes names.released replies) had
      ∙ others_after names.released name replies (after_writes name (opening_writes names u) had) (λ e. one (sym e))
      ∙ opened
    where
      opened : after_writes name (opening_writes names u) had ≡ had
      opened = rw (other_name names.released name (λ e. one (sym e)))
          (rw (other_name names.schedule name (λ e. two (sym e))) refl)

  pub lines_are : (replies : List Reply) → reported (writes_of names u replies) ≡ lines_in replies
  lines_are replies = lines_after names.released replies

  -- behind the replies a text was written to the second output, and a line to the report
  pub text_files : (replies : List Reply) (text line : List ℕ) (a b : Shown)
      → HasWritten (writes_of names u replies ++ (Appends names.schedule text ∷ Reports line ∷ [])) a b
      → HasFiles names u (released_in replies) text (lines_in replies ++ line) a b
  text_files replies text line a b w =
      let ending : List Write = Appends names.schedule text ∷ Reports line ∷ [] in
      record {
        released_is =
            w.names names.released
            ∙ after_more names.released (writes_of names u replies) ending (a.names names.released)
            ∙ rw (other_name names.schedule names.released flipped) (captured replies (a.names names.released));
        schedule_is =
            w.names names.schedule
            ∙ after_more names.schedule (writes_of names u replies) ending (a.names names.schedule)
            ∙ ap (after_writes names.schedule ending) (scheduled replies (a.names names.schedule))
            ∙ rw (same_name names.schedule) refl;
        report_is =
            w.report
            ∙ ap (λ l. a.sent report_file ++ l)
            (reported_more (writes_of names u replies) ending
            ∙ ap (λ l. l ++ (line ++ [])) (lines_are replies)
            ∙ ap (λ l. lines_in replies ++ l) (append-nil line));
        others = λ name one two.
            w.names name
            ∙ after_more name (writes_of names u replies) ending (a.names name)
            ∙ rw (other_name names.schedule name (λ e. two (sym e))) (kept replies name (a.names name) one two);
      }

  -- the run is finished
  pub whole_files : (replies : List Reply) (schedule : List PlainMove) (line : List ℕ) (a b : Shown)
      → HasWritten (writes_of names u replies ++ closing_writes names schedule line) a b
      → HasFiles names u (released_in replies) (schedule_text schedule) (lines_in replies ++ line) a b
  whole_files replies schedule line a b w = text_files replies (schedule_text schedule) line a b w

  -- nothing was written behind the replies
  pub bare_files : (replies : List Reply) (a b : Shown) → HasWritten (writes_of names u replies) a b
      → HasFiles names u (released_in replies) [] (lines_in replies) a b
  bare_files replies a b w = record {
    released_is = w.names names.released ∙ captured replies (a.names names.released);
    schedule_is = w.names names.schedule ∙ scheduled replies (a.names names.schedule);
    report_is = w.report ∙ ap (λ l. a.sent report_file ++ l) (lines_are replies);
    others = λ name one two. w.names name ∙ kept replies name (a.names name) one two;
  }

  -- an event stopped at a limit
  pub stopped_files : (replies : List Reply) (more : List Packet) (a b : Shown)
      → HasWritten (writes_of names u replies ++ release_writes names.released more) a b
      → HasFiles names u (released_in replies ++ more) [] (lines_in replies) a b
  stopped_files replies more a b w = record {
    released_is =
        w.names names.released
        ∙ after_more names.released (writes_of names u replies) (release_writes names.released more)
        (a.names names.released)
        ∙ ap (after_writes names.released (release_writes names.released more))
        (captured replies (a.names names.released))
        ∙ rw (same_name names.released) (ap (λ (l : List ℕ). Some l)
        (append_assoc (written_header u) (records_of order.Little (released_in replies)) (records_of order.Little more)
        ∙ ap (λ l. written_header u ++ l) (sym (records_more (released_in replies) more))));
    schedule_is =
        w.names names.schedule
        ∙ after_more names.schedule (writes_of names u replies) (release_writes names.released more)
        (a.names names.schedule)
        ∙ rw (other_name names.released names.schedule apart) (scheduled replies (a.names names.schedule));
    report_is =
        w.report
        ∙ ap (λ l. a.sent report_file ++ l) (reported_more (writes_of names u replies)
        (release_writes names.released more) ∙ append-nil (reported (writes_of names u replies)) ∙ lines_are replies);
    others = λ name one two.
        w.names name
        ∙ after_more name (writes_of names u replies) (release_writes names.released more) (a.names name)
        ∙ rw (other_name names.released name (λ e. one (sym e))) (kept replies name (a.names name) one two);
  }

files_of : (names : OutputNames) (u : FractionUnit) (released other : List Packet) (schedule report : List ℕ)
    (a b : Shown) → released ≡ other → HasFiles names u other schedule report a b
    → HasFiles names u released schedule report a b
files_of names u released other schedule report a b same f =
    subst (λ (l : List Packet). HasFiles names u l schedule report a b) (sym same) f

pub has_run : {V : Type 0} (s : Setting V) (names : OutputNames) (events : List Event) (writes : List Write)
    (a b : Shown) → (names.released ≡ names.schedule → ⊥) → WritesAll s names events writes → HasWritten writes a b
    → HasRun s names events a b
has_run s names events writes a b apart all w =
    let files : HasFiles names s.fractions (released_in all.replies) (schedule_text (moves_made all.steps))
    (lines_in all.replies ++ done_line all.world) a b =
    whole_files names s.fractions apart all.replies (moves_made all.steps) (done_line all.world) a b
    (subst (λ (ws : List Write). HasWritten ws a b) all.writes_are w) in
    record {
      report = lines_in all.replies ++ done_line all.world;
      released = packets_of all.world.released;
      schedule = moves_made all.steps;
      leaves = record {
        world = all.world;
        lines = lines_in all.replies;
        performs = answers_perform s events all.replies all.world all.answers;
        report_is = refl;
        released_is = refl;
        steps = all.steps;
        finish = all.finish;
        schedule_is = refl;
      };
      fit_records =
          subst (All FitsRecord) (sym (answers_release s events all.replies all.world all.answers)) all.fit_records;
      fit_lines = all.fit_lines;
      files = files_of names s.fractions (packets_of all.world.released) (released_in all.replies) _ _ a b
          (answers_release s events all.replies all.world all.answers) files;
    }

pub has_stopped : {V : Type 0} (s : Setting V) (names : OutputNames) (events : List Event) (limit : Limit)
    (writes : List Write) (a b : Shown) → (names.released ≡ names.schedule → ⊥)
    → WritesUntil s names events limit writes → HasWritten writes a b → HasStopped s names events limit a b
has_stopped s names events limit writes a b apart until w =
    let more = newly_released until.there until.world in
    let files : HasFiles names s.fractions (released_in until.replies ++ more) [] (lines_in until.replies) a b =
    stopped_files names s.fractions apart until.replies more a b
    (subst (λ (ws : List Write). HasWritten ws a b) until.writes_are w) in
    let released : packets_of until.world.released ≡ released_in until.replies ++ more =
    released_then until.there until.world (stops_grow s until.there until.event limit until.world until.stops)
    ∙ ap (λ l. l ++ more) (answers_release s until.before until.replies until.there until.answers) in
    record {
      report = lines_in until.replies;
      released = packets_of until.world.released;
      leaves = record {
        before = until.before;
        event = until.event;
        after = until.after;
        events_are = until.events_are;
        there = until.there;
        performs = answers_perform s until.before until.replies until.there until.answers;
        world = until.world;
        stops = until.stops;
        released_is = refl;
      };
      files = files_of names s.fractions (packets_of until.world.released) _ _ _ a b released files;
    }

-- Where nothing was performed yet, an opening was begun.
pub nothing_begun : {V : Type 0} (s : Setting V) (w : SystemWorld V) (names : OutputNames) (events : List Event)
    (a b : Shown) → HasBegun (opening_writes names s.fractions) a b → HasBegunFrom s (at_world w) names events a b
nothing_begun {V} s w names events a b begun = (
  writes_of names s.fractions [],
  inl (record {
    before = [];
    after = events;
    events_are = refl;
    replies = [];
    world = w;
    answers = Opens;
    writes_are = refl;
  }),
  begun_before (opening_writes names s.fractions) [] a b begun,
)
