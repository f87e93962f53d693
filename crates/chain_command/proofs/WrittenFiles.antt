-- What stands after the writes of a chain.
use Rattle.std.proofs.Common.{◌≡◌, ℕ, List, [], ◌∷◌, ◌++◌, refl, sym, ap, ◌∙◌, append-nil, append_assoc, Option, Some}
use Rattle.std.proofs.Common.{subst}
use Rattle.std.specs.Prelude.{All}
use Rattle.plain_text.specs.declared.limit.Limit.{Limit}
use Rattle.plain_text.specs.declared.packet.Packet.{Packet}
use Rattle.plain_text.specs.declared.packet.Unit.{Unit as FractionUnit}
use Rattle.pcap_io.specs.Capture.{written_header, records_of}
use Rattle.pcap_io.specs.declared.order.Order.TheVariants as order
use Rattle.plain_machine.specs.declared.plain_move.PlainMove.{PlainMove}
use Rattle.plain_player.specs.ScheduleText.{schedule_text}
use Rattle.world_io.specs.World.{Shown}
use Rattle.recovery_world.specs.World.{Setting}
use Rattle.recovery_world.specs.Files.{moves_made, packets_of}
use Rattle.output_files.specs.Writes.{report_file, Write, after_writes, reported, HasWritten}
use Rattle.output_files.proofs.Effects.{reported_more, after_more}
use Rattle.run_writes.specs.Run.{FitsRecord}
use Rattle.run_writes.specs.Replies.{newly_released}
use Rattle.run_writes.proofs.RunWrites.{same_name, other_name, records_more}
use Rattle.run_writes.proofs.ScriptAnswers.{released_then}
use Rattle.chain_world.specs.declared.chain_event.ChainEvent.{ChainEvent}
use Rattle.chain_world.specs.Chain.{chain_done}
use Rattle.chain_command.specs.Outputs.{ChainNames, AreApart}
use Rattle.chain_command.specs.Replies.{ChainReply, middle_in, released_in, lines_in}
use Rattle.chain_command.specs.Writes.{opening_writes, passed_writes, replies_writes, writes_of, closing_writes}
use Rattle.chain_command.specs.Writes.{WritesUntil, WritesAll, HasFiles, HasChained, HasStopped}
use Rattle.chain_command.proofs.Replied.{answers_perform, answers_middle, answers_release, first_stops, second_stops}

abbrev records : List Packet → List ℕ
records packets = records_of order.Little packets

-- records behind those that are there
more_records : (had : List ℕ) (first more : List Packet)
    → (had ++ records first) ++ records more ≡ had ++ records (first ++ more)
more_records had first more =
    append_assoc had (records first) (records more) ∙ ap (λ l. had ++ l) (sym (records_more first more))

module _ (names : ChainNames) (u : FractionUnit) (apart : AreApart names) where
  -- the outputs are created

  opened_middle : (had : Option (List ℕ))
      → after_writes names.middle (opening_writes names u) had ≡ Some (written_header u)
  opened_middle had =
      rw (same_name names.middle) (rw (other_name names.released names.middle (λ e. apart.captures (sym e)))
      (rw (other_name names.first_schedule names.middle (λ e. apart.middle_first (sym e)))
      (rw (other_name names.second_schedule names.middle (λ e. apart.middle_second (sym e))) refl)))

  opened_released : (had : Option (List ℕ))
      → after_writes names.released (opening_writes names u) had ≡ Some (written_header u)
  opened_released had =
      rw (other_name names.middle names.released apart.captures) (rw (same_name names.released)
      (rw (other_name names.first_schedule names.released (λ e. apart.released_first (sym e)))
      (rw (other_name names.second_schedule names.released (λ e. apart.released_second (sym e))) refl)))

  opened_first : (had : Option (List ℕ)) → after_writes names.first_schedule (opening_writes names u) had ≡ Some []
  opened_first had =
      rw (other_name names.middle names.first_schedule apart.middle_first)
      (rw (other_name names.released names.first_schedule apart.released_first) (rw (same_name names.first_schedule)
      (rw (other_name names.second_schedule names.first_schedule (λ e. apart.schedules (sym e))) refl)))

  opened_second : (had : Option (List ℕ)) → after_writes names.second_schedule (opening_writes names u) had ≡ Some []
  opened_second had =
      rw (other_name names.middle names.second_schedule apart.middle_second)
      (rw (other_name names.released names.second_schedule apart.released_second)
      (rw (other_name names.first_schedule names.second_schedule apart.schedules)
      (rw (same_name names.second_schedule) refl)))

  opened_others : (name : List ℕ) (had : Option (List ℕ)) → ¬ (name ≡ names.middle) → ¬ (name ≡ names.released)
      → ¬ (name ≡ names.first_schedule) → ¬ (name ≡ names.second_schedule)
      → after_writes name (opening_writes names u) had ≡ had
  opened_others name had a b c d =
      rw (other_name names.middle name (λ e. a (sym e))) (rw (other_name names.released name (λ e. b (sym e)))
      (rw (other_name names.first_schedule name (λ e. c (sym e)))
      (rw (other_name names.second_schedule name (λ e. d (sym e))) refl)))

  -- the records of the replies

  middle_after : (replies : List ChainReply) (had : List ℕ)
      → after_writes names.middle (replies_writes names replies) (Some had) ≡ Some (had ++ records (middle_in replies))
  middle_after [] had = ap (λ (l : List ℕ). Some l) (sym (append-nil had))
  middle_after (x ∷ replies) had =
      rw (same_name names.middle) (rw (other_name names.released names.middle (λ e. apart.captures (sym e)))
      (middle_after replies (had ++ records x.middle)
      ∙ ap (λ (l : List ℕ). Some l) (more_records had x.middle (middle_in replies))))

  released_after : (replies : List ChainReply) (had : List ℕ)
      → after_writes names.released (replies_writes names replies) (Some had)
      ≡ Some (had ++ records (released_in replies))
  released_after [] had = ap (λ (l : List ℕ). Some l) (sym (append-nil had))
  released_after (x ∷ replies) had =
      rw (other_name names.middle names.released apart.captures) (rw (same_name names.released)
      (released_after replies (had ++ records x.released)
      ∙ ap (λ (l : List ℕ). Some l) (more_records had x.released (released_in replies))))

  others_after : (name : List ℕ) (replies : List ChainReply) (had : Option (List ℕ)) → ¬ (names.middle ≡ name)
      → ¬ (names.released ≡ name) → after_writes name (replies_writes names replies) had ≡ had
  others_after name [] had a b = refl
  others_after name (x ∷ replies) had a b =
      rw (other_name names.middle name a) (rw (other_name names.released name b) (others_after name replies had a b))

  lines_after : (replies : List ChainReply) → reported (replies_writes names replies) ≡ lines_in replies
  lines_after [] = refl
  lines_after (x ∷ replies) = ap (λ l. x.line ++ l) (lines_after replies)

  -- both

  captured_middle : (replies : List ChainReply) (had : Option (List ℕ))
      → after_writes names.middle (writes_of names u replies) had
      ≡ Some (written_header u ++ records (middle_in replies))
  captured_middle replies had =
      after_more names.middle (opening_writes names u) (replies_writes names replies) had
      ∙ ap (after_writes names.middle (replies_writes names replies)) (opened_middle had)
      ∙ middle_after replies (written_header u)

  captured_released : (replies : List ChainReply) (had : Option (List ℕ))
      → after_writes names.released (writes_of names u replies) had
      ≡ Some (written_header u ++ records (released_in replies))
  captured_released replies had =
      after_more names.released (opening_writes names u) (replies_writes names replies) had
      ∙ ap (after_writes names.released (replies_writes names replies)) (opened_released had)
      ∙ released_after replies (written_header u)

  scheduled_first : (replies : List ChainReply) (had : Option (List ℕ))
      → after_writes names.first_schedule (writes_of names u replies) had ≡ Some []
  scheduled_first replies had =
      after_more names.first_schedule (opening_writes names u) (replies_writes names replies) had
      ∙ others_after names.first_schedule replies
      (after_writes names.first_schedule (opening_writes names u) had) apart.middle_first apart.released_first
      ∙ opened_first had

  scheduled_second : (replies : List ChainReply) (had : Option (List ℕ))
      → after_writes names.second_schedule (writes_of names u replies) had ≡ Some []
  scheduled_second replies had =
      after_more names.second_schedule (opening_writes names u) (replies_writes names replies) had
      ∙ others_after names.second_schedule replies
      (after_writes names.second_schedule (opening_writes names u) had) apart.middle_second apart.released_second
      ∙ opened_second had

  kept : (replies : List ChainReply) (name : List ℕ) (had : Option (List ℕ)) → ¬ (name ≡ names.middle)
      → ¬ (name ≡ names.released) → ¬ (name ≡ names.first_schedule) → ¬ (name ≡ names.second_schedule)
      → after_writes name (writes_of names u replies) had ≡ had
  kept replies name had a b c d =
      after_more name (opening_writes names u) (replies_writes names replies) had
      ∙ others_after name replies (after_writes name (opening_writes names u) had) (λ e. a (sym e)) (λ e. b (sym e))
      ∙ opened_others name had a b c d

  -- both runs are finished
  whole_files : (replies : List ChainReply) (first second : List PlainMove) (last : List ℕ) (x y : Shown)
      → HasWritten (writes_of names u replies ++ closing_writes names first second last) x y
      → HasFiles names u (middle_in replies) (released_in replies) (schedule_text first) (schedule_text second)
      (lines_in replies ++ last) x y
  whole_files replies first second last x y w = record {
    middle_is =
        w.names names.middle
        ∙ after_more names.middle (writes_of names u replies) (closing_writes names first second last)
        (x.names names.middle)
        ∙ rw (other_name names.first_schedule names.middle (λ e. apart.middle_first (sym e)))
        (rw (other_name names.second_schedule names.middle (λ e. apart.middle_second (sym e)))
        (captured_middle replies (x.names names.middle)));
    released_is =
        w.names names.released
        ∙ after_more names.released (writes_of names u replies) (closing_writes names first second last)
        (x.names names.released)
        ∙ rw (other_name names.first_schedule names.released (λ e. apart.released_first (sym e)))
        (rw (other_name names.second_schedule names.released (λ e. apart.released_second (sym e)))
        (captured_released replies (x.names names.released)));
    first_is =
        w.names names.first_schedule
        ∙ after_more names.first_schedule (writes_of names u replies) (closing_writes names first second last)
        (x.names names.first_schedule)
        ∙ ap (after_writes names.first_schedule (closing_writes names first second last))
        (scheduled_first replies (x.names names.first_schedule))
        ∙ rw (same_name names.first_schedule)
        (rw (other_name names.second_schedule names.first_schedule (λ e. apart.schedules (sym e))) refl);
    second_is =
        w.names names.second_schedule
        ∙ after_more names.second_schedule (writes_of names u replies) (closing_writes names first second last)
        (x.names names.second_schedule)
        ∙ ap (after_writes names.second_schedule (closing_writes names first second last))
        (scheduled_second replies (x.names names.second_schedule))
        ∙ rw (other_name names.first_schedule names.second_schedule apart.schedules)
        (rw (same_name names.second_schedule) refl);
    report_is =
        w.report
        ∙ ap (λ l. x.sent report_file ++ l)
        (reported_more (writes_of names u replies) (closing_writes names first second last)
        ∙ ap (λ l. l ++ (last ++ [])) (lines_after replies)
        ∙ ap (λ l. lines_in replies ++ l) (append-nil last));
    others = λ name a b c d.
        w.names name
        ∙ after_more name (writes_of names u replies) (closing_writes names first second last) (x.names name)
        ∙ rw (other_name names.first_schedule name (λ e. c (sym e)))
        (rw (other_name names.second_schedule name (λ e. d (sym e))) (kept replies name (x.names name) a b c d));
  }

  -- an event stopped at a limit
  stopped_files : (replies : List ChainReply) (middle released : List Packet) (x y : Shown)
      → HasWritten (writes_of names u replies ++ passed_writes names middle released) x y
      → HasFiles names u (middle_in replies ++ middle) (released_in replies ++ released) [] [] (lines_in replies) x y
  stopped_files replies middle released x y w = record {
    middle_is =
        w.names names.middle
        ∙ after_more names.middle (writes_of names u replies) (passed_writes names middle released)
        (x.names names.middle)
        ∙ ap (after_writes names.middle (passed_writes names middle released))
        (captured_middle replies (x.names names.middle))
        ∙ rw (same_name names.middle) (rw (other_name names.released names.middle (λ e. apart.captures (sym e)))
        (ap (λ (l : List ℕ). Some l) (more_records (written_header u) (middle_in replies) middle)));
    released_is =
        w.names names.released
        ∙ after_more names.released (writes_of names u replies) (passed_writes names middle released)
        (x.names names.released)
        ∙ ap (after_writes names.released (passed_writes names middle released))
        (captured_released replies (x.names names.released))
        ∙ rw (other_name names.middle names.released apart.captures) (rw (same_name names.released)
        (ap (λ (l : List ℕ). Some l) (more_records (written_header u) (released_in replies) released)));
    first_is =
        w.names names.first_schedule
        ∙ after_more names.first_schedule (writes_of names u replies) (passed_writes names middle released)
        (x.names names.first_schedule)
        ∙ rw (other_name names.middle names.first_schedule apart.middle_first)
        (rw (other_name names.released names.first_schedule apart.released_first)
        (scheduled_first replies (x.names names.first_schedule)));
    second_is =
        w.names names.second_schedule
        ∙ after_more names.second_schedule (writes_of names u replies) (passed_writes names middle released)
        (x.names names.second_schedule)
        ∙ rw (other_name names.middle names.second_schedule apart.middle_second)
        (rw (other_name names.released names.second_schedule apart.released_second)
        (scheduled_second replies (x.names names.second_schedule)));
    report_is =
        w.report
        ∙ ap (λ l. x.sent report_file ++ l)
        (reported_more (writes_of names u replies) (passed_writes names middle released)
        ∙ append-nil (reported (writes_of names u replies))
        ∙ lines_after replies);
    others = λ name a b c d.
        w.names name
        ∙ after_more name (writes_of names u replies) (passed_writes names middle released) (x.names name)
        ∙ rw (other_name names.middle name (λ e. a (sym e))) (rw (other_name names.released name (λ e. b (sym e)))
        (kept replies name (x.names name) a b c d));
  }

files_of : (names : ChainNames) (u : FractionUnit) (middle mid released rest : List Packet) (first second : List ℕ)
    (report : List ℕ) (a b : Shown) → middle ≡ mid → released ≡ rest
    → HasFiles names u mid rest first second report a b → HasFiles names u middle released first second report a b
files_of names u middle mid released rest first second report a b one two f =
    subst (λ (l : List Packet). HasFiles names u middle l first second report a b) (sym two)
    (subst (λ (l : List Packet). HasFiles names u l rest first second report a b) (sym one) f)

module _ {V U : Type 0} (s : Setting V) (r : Setting U) (names : ChainNames) (events : List ChainEvent)
    (writes : List Write) (a b : Shown) (apart : AreApart names) where
  pub has_chained : WritesAll s r names events writes → HasWritten writes a b → HasChained s r names events a b
  has_chained all w =
      let middle = answers_middle s r events all.replies all.worlds all.answers in
      let released = answers_release s r events all.replies all.worlds all.answers in
      let files = whole_files names s.fractions apart all.replies (moves_made all.first_steps)
      (moves_made all.second_steps) (chain_done all.worlds) a b
      (subst (λ (ws : List Write). HasWritten ws a b) all.writes_are w) in record {
        report = lines_in all.replies ++ chain_done all.worlds;
        middle = packets_of all.worlds.first.released;
        released = packets_of all.worlds.second.released;
        first_moves = moves_made all.first_steps;
        second_moves = moves_made all.second_steps;
        leaves = record {
          worlds = all.worlds;
          lines = lines_in all.replies;
          performs = answers_perform s r events all.replies all.worlds all.answers;
          report_is = refl;
          middle_is = refl;
          released_is = refl;
          first_steps = all.first_steps;
          first_finish = all.first_finish;
          first_moves_are = refl;
          second_steps = all.second_steps;
          second_finish = all.second_finish;
          second_moves_are = refl;
        };
        fit_middle = subst (All FitsRecord) (sym middle) all.fit_middle;
        fit_released = subst (All FitsRecord) (sym released) all.fit_released;
        fit_first = all.fit_first;
        fit_second = all.fit_second;
        files = files_of names s.fractions (packets_of all.worlds.first.released) (middle_in all.replies)
            (packets_of all.worlds.second.released) (released_in all.replies) _ _ _ a b middle released files;
      }

  pub has_stopped : (limit : Limit) → WritesUntil s r names events limit writes → HasWritten writes a b
      → HasStopped s r names events limit a b
  has_stopped limit until w =
      let there = until.there in
      let then = until.worlds in
      let one = newly_released there.first then.first in
      let two = newly_released there.second then.second in
      let files = stopped_files names s.fractions apart until.replies one two a b
      (subst (λ (ws : List Write). HasWritten ws a b) until.writes_are w) in
      let middle : packets_of then.first.released ≡ middle_in until.replies ++ one =
      released_then there.first then.first (first_stops s r there then until.event limit until.stops)
      ∙ ap (λ l. l ++ one) (answers_middle s r until.before until.replies there until.answers) in
      let released : packets_of then.second.released ≡ released_in until.replies ++ two =
      released_then there.second then.second (second_stops s r there then until.event limit until.stops)
      ∙ ap (λ l. l ++ two) (answers_release s r until.before until.replies there until.answers) in record {
        report = lines_in until.replies;
        middle = packets_of then.first.released;
        released = packets_of then.second.released;
        leaves = record {
          before = until.before;
          event = until.event;
          after = until.after;
          events_are = until.events_are;
          there = there;
          performs = answers_perform s r until.before until.replies there until.answers;
          worlds = then;
          stops = until.stops;
          middle_is = refl;
          released_is = refl;
        };
        files = files_of names s.fractions (packets_of then.first.released) _ (packets_of then.second.released) _ _ _ _
            a b middle released files;
      }
