-- Lines of the script and of the report are gathered and written.
use Rattle.std.proofs.Common.{◌≡◌, ℕ, ◌+◌, All, List, [], ◌∷◌, ◌++◌, length, refl, sym, ap, ◌∙◌, subst, inl, inr}
use Rattle.std.proofs.Common.{append-nil, append_assoc, Result, Ok, Err}
use Rattle.std.proofs.lemmas.List.{length-append}
use Rattle.std.proofs.lemmas.List.Concat.{flat_map-append}
use Rattle.std.specs.Prelude.{codes, ⊤, OnOk}
use Rattle.std.proofs.lemmas.List.Elements.{All-append, All-nil, All-cons}
use Rattle.plain_text.specs.declared.packet.Packet.{Packet}
use Rattle.plain_text.specs.declared.packet.Unit.{Unit as FractionUnit}
use Rattle.plain_text.specs.declared.limit.Limit.{Limit}
use Rattle.world_io.specs.World.{Shown}
use Rattle.recovery_world.specs.declared.event.Event.{Event}
use Rattle.recovery_world.specs.World.{Setting, World as SystemWorld}
use Rattle.recovery_world.specs.Files.{event_words, reply_line}
use Rattle.output_files.specs.declared.error.OutputError.{OutputError}
use Rattle.output_files.specs.declared.error.OutputError.TheVariants as output
use Rattle.output_files.specs.Writes.{report_file, Write, Appends, IsPrefix, HasBegun, HasGathered, HasWritten}
use Rattle.output_files.specs.Writes.{after_writes, reported}
use Rattle.output_files.specs.Written.{Writes}
use Rattle.output_files.proofs.Effects.{after_more, begun_all, line_gathered, names_stay, none_gathered}
use Rattle.output_files.proofs.Effects.{nothing_gathered, reported_more}
use Rattle.run_writes.specs.declared.error.RunError.{RunError}
use Rattle.run_writes.specs.declared.error.RunError.TheVariants as run
use Rattle.run_writes.specs.Errors.{run_error_of}
use Rattle.run_writes.specs.Replies.{Reply, Goes, newly_released, released_in}
use Rattle.run_writes.specs.Run.{FitsRecord, HasBegunRun, IsWritten, OutputNames}
use Rattle.run_writes.specs.Run.{closing_writes, opening_writes, release_writes, replies_writes, reply_writes}
use Rattle.run_writes.specs.Run.{writes_of}
use Rattle.run_writes.proofs.ScriptAnswers.{released_more}
use Rattle.run_command.proofs.Going.{replies_more}
use Rattle.script_text.specs.Scripts.{FitsWords, script_text}
use Rattle.live_writes.specs.Outputs.{AreApart, LiveOutputs, holding}
use Rattle.live_writes.specs.Script.{Scripted, AreCounted, Beside, PassesScript, SpareName, line_of, with_line}
use Rattle.live_writes.specs.Told.{FailsLive, HasBegunLive, HasTold, IsAhead}
use Rattle.live_writes.proofs.ScriptSteps.{begun_longer, part_appended, spare_both, written_beside}
use Rattle.live_command.specs.Writing.{Adds, IsQuiet, Keeps}

-- Texts of scripts

pub text_more : (events more : List Event) → script_text (events ++ more) ≡ script_text events ++ script_text more
text_more events more = flat_map-append (λ (ev : Event). event_words ev ++ codes "\n") events more

pub prefix_more : (a whole more : List ℕ) → IsPrefix a whole → IsPrefix a (whole ++ more)
prefix_more a whole more (rest, is) =
    (rest ++ more, ap (λ (l : List ℕ). l ++ more) is ∙ append_assoc a rest more)

pub text_prefix : (first rest : List Event) → IsPrefix (script_text first) (script_text (first ++ rest))
text_prefix first rest = (script_text rest, text_more first rest)

-- What the outputs beside the script write spares it

module _ {V : Type 0} (s : Setting V) (names : OutputNames) (name : List ℕ) (one : ¬ (names.released ≡ name))
    (two : ¬ (names.schedule ≡ name)) where
  spare_replies : (replies : List Reply) → SpareName name (replies_writes names.released replies)
  spare_replies [] = tt
  spare_replies (r ∷ replies) = (one, spare_replies replies)

  pub spare_writes : (replies : List Reply) → SpareName name (writes_of names s.fractions replies)
  spare_writes replies = (one, (one, (two, spare_replies replies)))

  pub spare_run : (events : List Event) (writes : List Write) → IsWritten s names events writes → SpareName name writes
  spare_run events writes (inl some) =
      subst (λ (ws : List Write). SpareName name ws) (sym some.writes_are) (spare_writes some.replies)
  spare_run events writes (inr (inl (limit, until))) =
      subst (λ (ws : List Write). SpareName name ws) (sym until.writes_are)
      (spare_both name (writes_of names s.fractions until.replies)
      (release_writes names.released (newly_released until.there until.world)) (spare_writes until.replies) (one, tt))
  spare_run events writes (inr (inr all)) =
      subst (λ (ws : List Write). SpareName name ws) (sym all.writes_are)
      (spare_both name (writes_of names s.fractions all.replies) (closing_writes names _ _) (spare_writes all.replies)
      (two, tt))

module _ {V : Type 0} (s : Setting V) (names : LiveOutputs) (apart : AreApart names) where
  -- the script grew, and nothing else was written
  pub ahead_longer : (events : List Event) (written part : List ℕ) (old now new : Shown)
      → IsAhead s names events written old now → HasWritten (Appends names.script part ∷ []) now new
      → IsAhead s names events (written ++ part) old new
  ahead_longer events written part old now new a w = record {
    first = a.first;
    rest = a.rest;
    events_are = a.events_are;
    lines = prefix_more (script_text a.first) written part a.lines;
    begun = (
      a.begun.0,
      a.begun.1,
      begun_longer names.script written part old now new a.begun.0
          (spare_run s names.outputs names.script apart.released apart.schedule a.first a.begun.0 a.begun.1)
          a.begun.2 w,
    );
  }

-- of more events
pub ahead_more : {V : Type 0} (s : Setting V) (names : LiveOutputs) (events more : List Event) (written : List ℕ)
    (old now : Shown) → IsAhead s names events written old now → IsAhead s names (events ++ more) written old now
ahead_more s names events more written old now a = record {
  first = a.first;
  rest = a.rest ++ more;
  events_are = ap (λ (l : List Event). l ++ more) a.events_are ∙ append_assoc a.first a.rest more;
  lines = a.lines;
  begun = a.begun;
}

pub begun_more : {V : Type 0} (s : Setting V) (names : LiveOutputs) (events more : List Event) (old now : Shown)
    → HasBegunLive s names events old now → HasBegunLive s names (events ++ more) old now
begun_more s names events more old now h = record {
  written = h.written;
  part = subst (IsPrefix h.written) (sym (text_more events more))
      (prefix_more h.written (script_text events) (script_text more) h.part);
  ahead = ahead_more s names events more h.written old now h.ahead;
}

-- a first part of what these events leave was written, and the script has all their lines
pub all_ahead : {V : Type 0} (s : Setting V) (names : LiveOutputs) (events : List Event) (written : List ℕ)
    (old now : Shown) → IsPrefix (script_text events) written
    → HasBegunRun s names.outputs events (holding names.script written old) now
    → IsAhead s names events written old now
all_ahead s names events written old now lines begun =
    record { first = events; rest = []; events_are = sym (append-nil events); lines = lines; begun = begun }

module _ {V : Type 0} (s : Setting V) (names : LiveOutputs) (apart : AreApart names) (events scripted : List Event)
    (w : SystemWorld V) (lines : List ℕ) (x : Scripted) (old now : Shown)
    (h : HasTold s names events scripted w lines x old now) where
  some_written : IsWritten s names.outputs events (writes_of names.outputs s.fractions h.replies)
  some_written = inl (record {
    before = events;
    after = [];
    events_are = sym (append-nil events);
    replies = h.replies;
    world = w;
    answers = h.answers;
    writes_are = refl;
  })

  -- the script's lines were written
  pub script_written : (y : Scripted) (new : Shown) → HasWritten (Appends names.script x.text ∷ []) now new
      → y.text ≡ [] → y.count ≡ x.count → y.size ≡ x.size → HasTold s names events scripted w lines y old new
  script_written y new done none count size = record {
    replies = h.replies;
    answers = h.answers;
    fit_records = h.fit_records;
    behind = h.behind;
    fit_words = h.fit_words;
    written = h.written ++ x.text;
    script_is =
        h.script_is
        ∙ sym (append-nil (h.written ++ x.text))
        ∙ ap (λ (l : List ℕ). (h.written ++ x.text) ++ l) (sym none);
    counted = record { count = count ∙ h.counted.count; size = size ∙ h.counted.size };
    gathered = written_beside names.script h.written x.text old now new (writes_of names.outputs s.fractions h.replies)
        lines (spare_writes s names.outputs names.script apart.released apart.schedule h.replies) h.gathered done;
    ahead = ahead_longer s names apart events h.written x.text old now new h.ahead done;
  }

  -- a first part of them was
  pub script_begun : (new : Shown) → HasBegun (Appends names.script x.text ∷ []) now new
      → HasBegunLive s names scripted old new
  script_begun new begun =
      let k = part_appended names.script x.text now new begun in
      let all : HasBegunLive s names scripted old new = record {
        written = h.written ++ k.0;
        part = (
          k.1.0,
          h.script_is ∙ ap (λ (l : List ℕ). h.written ++ l) k.1.1 ∙ sym (append_assoc h.written k.0 k.1.0),
        );
        ahead = subst (λ (l : List Event). IsAhead s names l (h.written ++ k.0) old new) (sym h.behind.1)
            (ahead_more s names events h.behind.0 (h.written ++ k.0) old new
            (ahead_longer s names apart events h.written k.0 old now new h.ahead k.2));
      } in all

  pub script_kept : (y : Scripted) (new : Shown) (r : Result ⊤ OutputError) → OnOk r (y.text ≡ [])
      → y.count ≡ x.count → y.size ≡ x.size → Writes r (Appends names.script x.text ∷ []) now new
      → Keeps r s names events scripted w lines y old new
  script_kept y new (Ok done) none count size written = script_written y new written none count size
  script_kept y new (Err error) none count size begun = script_begun new begun

  module _ (none : x.text ≡ []) where
    whole : script_text scripted ≡ h.written
    whole = h.script_is ∙ ap (λ (l : List ℕ). h.written ++ l) none ∙ append-nil h.written

    has_lines : IsPrefix (script_text events) h.written
    has_lines = subst (IsPrefix (script_text events))
        (ap script_text (sym h.behind.1) ∙ whole) (text_prefix events h.behind.0)

    -- the report's lines were written behind all of the script's
    pub lines_written : (new : Shown)
        → HasWritten (writes_of names.outputs s.fractions h.replies) (holding names.script h.written old) new
        → HasTold s names events scripted w [] x old new
    lines_written new done = record {
      replies = h.replies;
      answers = h.answers;
      fit_records = h.fit_records;
      behind = h.behind;
      fit_words = h.fit_words;
      written = h.written;
      script_is = h.script_is;
      counted = h.counted;
      gathered = none_gathered (writes_of names.outputs s.fractions h.replies) (holding names.script h.written old) new
          done;
      ahead = all_ahead s names events h.written old new has_lines (
        writes_of names.outputs s.fractions h.replies,
        some_written,
        begun_all (writes_of names.outputs s.fractions h.replies) (holding names.script h.written old) new done,
      );
    }

    pub lines_begun : (new : Shown)
        → HasBegun (writes_of names.outputs s.fractions h.replies) (holding names.script h.written old) new
        → HasBegunLive s names scripted old new
    lines_begun new begun = record {
      written = h.written;
      part = ([], whole ∙ sym (append-nil h.written));
      ahead = subst (λ (l : List Event). IsAhead s names l h.written old new) (sym h.behind.1)
          (ahead_more s names events h.behind.0 h.written old new (all_ahead s names events h.written old new has_lines
          (writes_of names.outputs s.fractions h.replies, some_written, begun)));
    }

    pub lines_kept : (r : Result ⊤ OutputError) (more : List ℕ) (new : Shown)
        → Writes r (writes_of names.outputs s.fractions h.replies) (holding names.script h.written old) new
        → OnOk r (more ≡ []) → Keeps r s names events scripted w more x old new
    lines_kept (Ok done) more new written gone =
        subst (λ (l : List ℕ). HasTold s names events scripted w l x old new) (sym gone) (lines_written new written)
    lines_kept (Err error) more new begun gone = lines_begun new begun

  -- nothing was written since, and an error came
  pub still_begun : HasBegunLive s names scripted old now
  still_begun = record {
    written = h.written;
    part = (x.text, h.script_is);
    ahead = subst (λ (l : List Event). IsAhead s names l h.written old now) (sym h.behind.1)
        (ahead_more s names events h.behind.0 h.written old now h.ahead);
  }

-- where no line is gathered, all was written
pub gathered_none : (writes : List Write) (a b : Shown) → HasGathered writes [] a b → HasWritten writes a b
gathered_none writes a b g = record {
  names = λ name.
      g.written.names name
      ∙ sym (names_stay name g.late (after_writes name g.done (a.names name)) g.only)
      ∙ sym (after_more name g.done g.late (a.names name))
      ∙ ap (λ (ws : List Write). after_writes name ws (a.names name)) (sym g.writes_are);
  report =
      g.written.report
      ∙ ap (λ (l : List ℕ). a.sent report_file ++ l)
      (sym (append-nil (reported g.done))
      ∙ ap (λ (l : List ℕ). reported g.done ++ l) g.lines_are
      ∙ sym (reported_more g.done g.late)
      ∙ ap reported (sym g.writes_are));
}

module _ {V : Type 0} (s : Setting V) (names : LiveOutputs) (events : List Event) (w : SystemWorld V) (lines : List ℕ)
    (x : Scripted) (old now : Shown) where
  -- the script's line of one more event is gathered
  pub line_added : HasTold s names events events w lines x old now → (ev : Event) (y : Scripted) → FitsWords ev
      → y ≡ with_line ev x → HasTold s names events (events ++ ev ∷ []) w lines y old now
  line_added h ev y fits is = subst (λ (z : Scripted). HasTold s names events (events ++ ev ∷ []) w lines z old now)
      (sym is) (record {
        replies = h.replies;
        answers = h.answers;
        fit_records = h.fit_records;
        behind = (ev ∷ [], refl);
        fit_words = All-append FitsWords events (ev ∷ []) h.fit_words
            (All-cons FitsWords ev [] fits (All-nil FitsWords));
        written = h.written;
        script_is =
            text_more events (ev ∷ [])
            ∙ ap (λ (l : List ℕ). l ++ line_of ev) h.script_is
            ∙ append_assoc h.written x.text (line_of ev);
        counted = record {
          count = ap (λ (n : ℕ). n + 1) h.counted.count ∙ sym (length-append events (ev ∷ []));
          size =
              ap (λ (n : ℕ). n + length (line_of ev)) h.counted.size
              ∙ sym (length-append (script_text events) (line_of ev))
              ∙ ap (λ (l : List ℕ). length l) (sym (text_more events (ev ∷ [])));
        };
        gathered = h.gathered;
        ahead = h.ahead;
      })

  -- it would pass a limit, and all before it was written
  pub paused : (h : HasTold s names events events w [] x old now) → x.text ≡ [] → (ev : Event) (limit : Limit)
      → PassesScript limit x.count (x.size + length (line_of ev))
      → FailsLive (run.Limit limit) s names (events ++ ev ∷ []) old now
  paused h none ev limit passes = inr (
    events,
    ev,
    refl,
    record {
      replies = h.replies;
      world = w;
      answers = h.answers;
      passes = subst (λ (n : ℕ). PassesScript limit n (length (script_text (events ++ ev ∷ [])))) h.counted.count
          (subst (λ (n : ℕ). PassesScript limit x.count n)
          (ap (λ (n : ℕ). n + length (line_of ev)) h.counted.size
          ∙ sym (length-append (script_text events) (line_of ev))
          ∙ ap (λ (l : List ℕ). length l) (sym (text_more events (ev ∷ [])))) passes);
      written =
          let same : h.written ≡ script_text events =
          sym (append-nil h.written) ∙ ap (λ (l : List ℕ). h.written ++ l) (sym none) ∙ sym h.script_is in
          subst (λ (l : List ℕ).
          HasWritten (writes_of names.outputs s.fractions h.replies) (holding names.script l old) now) same
          (gathered_none (writes_of names.outputs s.fractions h.replies) (holding names.script h.written old) now
          h.gathered);
    },
  )

pub with_reply : (names : OutputNames) (u : FractionUnit) (replies : List Reply) (r : Reply)
    → writes_of names u (replies ++ r ∷ []) ≡ writes_of names u replies ++ reply_writes names.released r
with_reply names u replies r =
    ap (λ (l : List Write). opening_writes names u ++ l) (replies_more names.released replies r)
    ∙ sym (append_assoc (opening_writes names u) (replies_writes names.released replies)
    (reply_writes names.released r))

module _ {V : Type 0} (s : Setting V) (names : LiveOutputs) (events : List Event) (w : SystemWorld V) (lines : List ℕ)
    (x : Scripted) (old now : Shown) (ev : Event)
    (h : HasTold s names events (events ++ ev ∷ []) w lines x old now) where
  -- an event that released nothing was performed, and its line is gathered
  pub quiet_told : (line : List ℕ) (next : SystemWorld V) → IsQuiet s w ev line next
      → HasTold s names (events ++ ev ∷ []) (events ++ ev ∷ []) next (lines ++ line) x old now
  quiet_told line next q =
      let r : Reply = record { released = newly_released w next; line = reply_line ev q.to q.freed } in
      let empty : r ≡ record { released = []; line = line } =
      ap (λ (l : List Packet). record { released = l; line = reply_line ev q.to q.freed }) q.none
      ∙ ap (λ (l : List ℕ). record { released = []; line = l }) (sym q.line_is) in
      record {
        replies = h.replies ++ r ∷ [];
        answers = Goes ev q.to q.freed h.answers q.on;
        fit_records =
            subst (All FitsRecord) (sym (released_more h.replies r)) (All-append FitsRecord (released_in h.replies)
            r.released h.fit_records (subst (All FitsRecord) (sym q.none) (All-nil FitsRecord)));
        behind = ([], sym (append-nil (events ++ ev ∷ [])));
        fit_words = h.fit_words;
        written = h.written;
        script_is = h.script_is;
        counted = h.counted;
        gathered = subst (λ (ws : List Write).
            Beside names.script h.written ws (lines ++ line) old now)
            (append_assoc (writes_of names.outputs s.fractions h.replies) _ _
            ∙ ap (λ (z : Reply). writes_of names.outputs s.fractions h.replies ++ reply_writes names.outputs.released z)
            (sym empty)
            ∙ sym (with_reply names.outputs s.fractions h.replies r))
            (line_gathered _ lines line _ _
            (nothing_gathered (writes_of names.outputs s.fractions h.replies) lines names.outputs.released [] _ _ refl
            h.gathered));
        ahead = ahead_more s names events (ev ∷ []) h.written old now h.ahead;
      }

-- An error of writing

pub err_keeps : {A V : Type 0} (r : Result A OutputError) (e : OutputError) (s : Setting V) (names : LiveOutputs)
    (events scripted : List Event) (w : SystemWorld V) (lines : List ℕ) (x : Scripted) (old now : Shown) → r ≡ Err e
    → HasBegunLive s names scripted old now → Keeps r s names events scripted w lines x old now
err_keeps {A} r e s names events scripted w lines x old now is h =
    subst (λ (z : Result A OutputError). Keeps z s names events scripted w lines x old now) (sym is) h

-- what came to no end is told as an error of the run
pub fails_begun : {V : Type 0} (e : OutputError) (s : Setting V) (names : LiveOutputs) (events : List Event)
    (old now : Shown) → HasBegunLive s names events old now → FailsLive (run_error_of e) s names events old now
fails_begun output.WriteFault s names events old now h = h
fails_begun output.NoMemory s names events old now h = h

-- an error of writing, where one more event was to be told
pub add_failed : {A V : Type 0} (r : Result A RunError) (e : OutputError) (s : Setting V) (names : LiveOutputs)
    (events : List Event) (ev : Event) (w : SystemWorld V) (lines : List ℕ) (x : Scripted) (old now : Shown)
    → r ≡ Err (run_error_of e) → HasBegunLive s names (events ++ ev ∷ []) old now
    → Adds r s names events ev w lines x old now
add_failed {A} r e s names events ev w lines x old now is h =
    subst (λ (z : Result A RunError). Adds z s names events ev w lines x old now) (sym is) (go e h)
  where
    go : (e : OutputError) → HasBegunLive s names (events ++ ev ∷ []) old now
        → Adds {A = A} (Err (run_error_of e)) s names events ev w lines x old now
    go output.WriteFault h = h
    go output.NoMemory h = h

-- one more event would pass a limit of scripts, and all before it was written
pub paused_now : {V : Type 0} (s : Setting V) (names : LiveOutputs) (events : List Event) (w : SystemWorld V)
    (lines : List ℕ) (x y : Scripted) (old now : Shown) → HasTold s names events events w lines y old now
    → AreCounted events x → lines ≡ [] → y.text ≡ [] → (ev : Event) (limit : Limit)
    → PassesScript limit x.count (x.size + length (line_of ev))
    → FailsLive (run.Limit limit) s names (events ++ ev ∷ []) old now
paused_now s names events w lines x y old now h counted none no_text ev limit passes =
    let here : HasTold s names events events w [] y old now =
    subst (λ (l : List ℕ). HasTold s names events events w l y old now) none h in
    paused s names events w [] y old now here no_text ev limit
    (subst (λ (n : ℕ). PassesScript limit n (y.size + length (line_of ev))) (counted.count ∙ sym h.counted.count)
    (subst (λ (n : ℕ). PassesScript limit x.count (n + length (line_of ev))) (counted.size ∙ sym h.counted.size)
    passes))
