-- An event was performed, and what it left was written.
use Rattle.std.proofs.Common.{◌≡◌, ℕ, ◌≤◌, List, [], ◌∷◌, ◌++◌, refl, sym, ap, ◌∙◌, subst, inl, inr, append-nil, Result}
use Rattle.std.proofs.Common.{Ok}
use Rattle.std.proofs.Common.{Err, arith, length}
use Rattle.std.specs.Prelude.{⊤, All, OnOk}
use Rattle.std.proofs.lemmas.List.Elements.{All-append}
use Rattle.plain_text.specs.declared.limit.Limit.{Limit}
use Rattle.plain_text.specs.declared.packet.Packet.{Packet}
use Rattle.access_log.specs.declared.entry.Output.{Output}
use Rattle.plain_machine.specs.Program.{Meaning}
use Rattle.world_io.specs.World.{Shown}
use Rattle.recovery_world.specs.declared.event.Event.{Event}
use Rattle.recovery_world.specs.World.{Setting, Sent, World as SystemWorld}
use Rattle.recovery_world.specs.Many.{OnAny, Stops}
use Rattle.recovery_world.specs.Files.{Goes as Performed, Rests, reply_line, sent_names}
use Rattle.event_replies.specs.declared.reply.Reply.{Reply as SystemReply}
use Rattle.event_replies.specs.declared.reply.Stop.{Stop}
use Rattle.event_replies.specs.declared.reply.Stop.TheVariants as stop
use Rattle.run_command.specs.FromRecoveryCore.{Systemed}
use Rattle.output_files.specs.declared.error.OutputError.{OutputError}
use Rattle.output_files.specs.declared.error.OutputError.TheVariants as output
use Rattle.output_files.specs.Writes.{Write, HasBegun, HasWritten}
use Rattle.output_files.specs.Written.{Writes, WritesGathered}
use Rattle.output_files.proofs.Effects.{gathered_begun}
use Rattle.run_writes.specs.declared.error.RunError.{RunError}
use Rattle.run_writes.specs.Errors.{run_result_of, stopped_result}
use Rattle.run_writes.specs.Replies.{Reply, Answers, Goes, newly_released, packets_in, released_in}
use Rattle.run_writes.specs.Run.{FitsRecord, HasBegunRun, IsWritten, WritesUntil, release_writes, reply_writes}
use Rattle.run_writes.specs.Run.{writes_of}
use Rattle.run_writes.proofs.ScriptAnswers.{released_more}
use Rattle.std.specs.Result.{IsOk}
use Rattle.input_logger.specs.Inputs.{Fed}
use Rattle.run_command.specs.Running.{ComesTo, IsSomewhere, IsSystemAt, WritesPerformed}
use Rattle.script_text.specs.Scripts.{script_text}
use Rattle.plan_script.specs.Rounds.{Does}
use Rattle.live_writes.specs.Outputs.{LiveOutputs, holding}
use Rattle.live_writes.specs.Script.{Scripted}
use Rattle.output_files.specs.Writes.{KeepsOutputs}
use Rattle.live_writes.specs.Told.{AreOpen, FailsLive, HasBegunLive, HasTold}
use Rattle.live_command.specs.Going.{GoesOver}
use Rattle.plan_script.specs.Begun.{AreFirstOf}
use Rattle.live_command.specs.Writing.{IsQuiet, Keeps}
use Rattle.live_command.proofs.WritingSteps.{all_ahead, with_reply}

-- one event is performed
pub does_one : {V : Type 0} (s : Setting V) (w next : SystemWorld V) (ev : Event) (to : _) (freed : List Sent)
    → OnAny s w ev to freed next → Does s w (ev ∷ []) next
does_one s w next ev to freed on = (reply_line ev to freed ++ [], Performed ev to freed on (Rests next))

-- what an event came to that released nothing, and whose line this is
pub is_quiet : {P V : Type 0} (m : Meaning V) (s : Setting V) (w : SystemWorld V) (ev : Event) (reply : SystemReply)
    (outputs : List Output) (y new : Systemed P V) (line : List ℕ) → ComesTo m ev (Ok reply) outputs y new
    → IsSystemAt m s w y → outputs ≡ []
    → ((freed : List Sent) → reply.released ≡ sent_names freed → line ≡ reply_line ev reply.outcome freed)
    → (next : SystemWorld V) × IsQuiet s w ev line next × IsSystemAt m s next new
is_quiet m s w ev reply outputs y new line comes at none said =
    let came = comes s w at in (
      came.0,
      record {
        to = reply.outcome;
        freed = came.1;
        on = came.2;
        line_is = said came.1 came.3;
        none = sym came.4 ∙ ap packets_in none;
      },
      came.5,
    )

module _ {V : Type 0} (s : Setting V) (names : LiveOutputs) (events : List Event) (w : SystemWorld V) (lines : List ℕ)
    (x : Scripted) (old now : Shown) (ev : Event)
    (h : HasTold s names events (events ++ ev ∷ []) w lines x old now) (none : x.text ≡ []) where
  whole : script_text (events ++ ev ∷ []) ≡ h.written
  whole = h.script_is ∙ ap (λ (l : List ℕ). h.written ++ l) none ∙ append-nil h.written

  -- a first part of what the events with this one leave was written
  begun_with : (c : Shown) → HasBegunRun s names.outputs (events ++ ev ∷ []) (holding names.script h.written old) c
      → HasBegunLive s names (events ++ ev ∷ []) old c
  begun_with c begun = record {
    written = h.written;
    part = ([], whole ∙ sym (append-nil h.written));
    ahead = all_ahead s names (events ++ ev ∷ []) h.written old c ([], sym whole ∙ sym (append-nil _)) begun;
  }

  module _ {P : Type 0} (m : Meaning V) (few : s.threads ≤ 16) (y new : Systemed P V) (at : IsSystemAt m s w y)
      (more : List ℕ) (c : Shown) where
    -- the event ended
    module _ (reply : SystemReply) (outputs : List Output) (comes : ComesTo m ev (Ok reply) outputs y new) where
      abbrev pub came : (next : SystemWorld V) × (freed : List Sent) × OnAny s w ev reply.outcome freed next
          × (reply.released ≡ sent_names freed) × (packets_in outputs ≡ newly_released w next)
          × IsSystemAt m s next new
      came = comes s w at

      abbrev pub line : List ℕ
      line = reply_line ev reply.outcome came.1

      abbrev pub r : Reply
      r = record { released = newly_released w came.0; line = line }

      abbrev pub writes : List Write
      writes = writes_of names.outputs s.fractions (h.replies ++ r ∷ [])

      same : writes_of names.outputs s.fractions h.replies
          ++ reply_writes names.outputs.released (record { released = packets_in outputs; line = line }) ≡ writes
      same =
          ap (λ (l : List Packet).
          writes_of names.outputs s.fractions h.replies
          ++ reply_writes names.outputs.released (record { released = l; line = line })) came.4
          ∙ sym (with_reply names.outputs s.fractions h.replies r)

      answered : Answers s (events ++ ev ∷ []) (h.replies ++ r ∷ []) came.0
      answered = Goes ev reply.outcome came.1 h.answers came.2

      some : IsWritten s names.outputs (events ++ ev ∷ []) writes
      some = inl (record {
        before = events ++ ev ∷ [];
        after = [];
        events_are = sym (append-nil (events ++ ev ∷ []));
        replies = h.replies ++ r ∷ [];
        world = came.0;
        answers = answered;
        writes_are = refl;
      })

      fits : All FitsRecord (packets_in outputs) → All FitsRecord (released_in (h.replies ++ r ∷ []))
      fits each =
          subst (All FitsRecord) (sym (released_more h.replies r)) (All-append FitsRecord (released_in h.replies)
          r.released h.fit_records (subst (All FitsRecord) came.4 each))

      ended : (files : Result ⊤ OutputError) → OnOk files (All FitsRecord (packets_in outputs))
          → WritesGathered files writes more (holding names.script h.written old) c
          → GoesOver (run_result_of files) m s names w events (ev ∷ []) new more x old c
      ended (Ok done) each gathered = (
        came.0,
        does_one s w came.0 ev reply.outcome came.1 came.2,
        record {
          told = record {
            replies = h.replies ++ r ∷ [];
            answers = answered;
            fit_records = fits each;
            behind = ([], sym (append-nil (events ++ ev ∷ [])));
            fit_words = h.fit_words;
            written = h.written;
            script_is = h.script_is;
            counted = h.counted;
            gathered = gathered;
            ahead = all_ahead s names (events ++ ev ∷ []) h.written old c ([], sym whole ∙ sym (append-nil _)) (
              writes,
              some,
              subst (λ (ws : List Write). HasBegun ws (holding names.script h.written old) c) (append-nil writes)
                  (gathered_begun writes [] more (holding names.script h.written old) c gathered),
            );
          };
          at = came.5;
          few = few;
        },
      )
      ended (Err output.WriteFault) each begun = (ev ∷ [], ([], refl), begun_with c (writes, some, begun))
      ended (Err output.NoMemory) each begun = (ev ∷ [], ([], refl), begun_with c (writes, some, begun))

    -- it stopped at a limit
    module _ (limit : Limit) (outputs : List Output) (comes : ComesTo m ev (Err (stop.Limit limit)) outputs y new) where
      abbrev pub stopped :
          (next : SystemWorld V) × Stops s w ev limit next × (packets_in outputs ≡ newly_released w next)
      stopped = comes s w at

      abbrev pub till : List Write
      till =
          writes_of names.outputs s.fractions h.replies
          ++ release_writes names.outputs.released (newly_released w stopped.0)

      until : WritesUntil s names.outputs (events ++ ev ∷ []) limit till
      until = record {
        before = events;
        event = ev;
        after = [];
        events_are = refl;
        replies = h.replies;
        there = w;
        answers = h.answers;
        world = stopped.0;
        stops = stopped.1;
        writes_are = refl;
      }

      at_limit : (files : Result ⊤ OutputError)
          → Writes files
          (writes_of names.outputs s.fractions h.replies
          ++ release_writes names.outputs.released (packets_in outputs)) (holding names.script h.written old) c
          → GoesOver (stopped_result files limit) m s names w events (ev ∷ []) new more x old c
      at_limit files written = go files (subst (λ (l : List Packet).
          Writes files
          (writes_of names.outputs s.fractions h.replies ++ release_writes names.outputs.released l)
          (holding names.script h.written old) c) stopped.2 written)
        where
          go : (files : Result ⊤ OutputError) → Writes files till (holding names.script h.written old) c
              → GoesOver (stopped_result files limit) m s names w events (ev ∷ []) new more x old c
          go (Ok done) all = (
            ev ∷ [],
            ([], refl),
            inl (record {
              writes = till;
              until = until;
              written = subst (λ (l : List ℕ). HasWritten till (holding names.script l old) c) (sym whole) all;
            }),
          )
          go (Err output.WriteFault) begun =
              (ev ∷ [], ([], refl), begun_with c (till, inr (inl (limit, until)), begun))
          go (Err output.NoMemory) begun =
              (ev ∷ [], ([], refl), begun_with c (till, inr (inl (limit, until)), begun))

    pub performed_told : (reply : Result SystemReply Stop) (outputs : List Output) (result : Result ⊤ RunError)
        → ComesTo m ev reply outputs y new
        → WritesPerformed result reply ev (packets_in outputs) (writes_of names.outputs s.fractions h.replies)
        names.outputs.released more (holding names.script h.written old) c
        → GoesOver result m s names w events (ev ∷ []) new more x old c
    performed_told (Ok reply) outputs result comes written =
        let files = written (came reply outputs comes).1 (came reply outputs comes).3 in
        subst (λ (z : Result ⊤ RunError). GoesOver z m s names w events (ev ∷ []) new more x old c) (sym files.1)
        (ended reply outputs comes files.0 files.2 (subst (λ (ws : List Write).
        WritesGathered files.0 ws more (holding names.script h.written old) c) (same reply outputs comes) files.3))
    performed_told (Err (stop.Limit limit)) outputs result comes written =
        subst (λ (z : Result ⊤ RunError). GoesOver z m s names w events (ev ∷ []) new more x old c) (sym written.1)
        (at_limit limit outputs comes written.0 written.2)
    performed_told (Err stop.NoMemory) outputs result comes written =
        subst (λ (z : Result ⊤ RunError). GoesOver z m s names w events (ev ∷ []) new more x old c) (sym written.0) (
          ev ∷ [],
          ([], refl),
          begun_with c (
            writes_of names.outputs s.fractions h.replies,
            inl (record {
              before = events;
              after = ev ∷ [];
              events_are = refl;
              replies = h.replies;
              world = w;
              answers = h.answers;
              writes_are = refl;
            }),
            written.1,
          ),
        )

-- What is so of the system where the event ended.

pub threads_kept : {A E P V : Type 0} (r : Result A E) (m : Meaning V) (ev : Event) (reply : Result SystemReply Stop)
    (outputs : List Output) (y new : Systemed P V) → OnOk r (IsOk reply) → ComesTo m ev reply outputs y new
    → IsSomewhere m y → OnOk r (new.parts.inputs.threads ≡ y.parts.inputs.threads)
threads_kept (Ok x) m ev (Ok reply) outputs y new ended comes here =
    let came = comes here.0 here.1 here.2 in
    ap (λ (f : Fed). f.threads) came.5.stands.parts.inputs.inputs
    ∙ sym (ap (λ (f : Fed). f.threads) here.2.stands.parts.inputs.inputs)
threads_kept (Ok x) m ev (Err e) outputs y new ended comes here = absurd (cc)
threads_kept (Err e) m ev reply outputs y new ended comes here = tt

-- an error before the event was told
pub err_goes : {A P V : Type 0} (r : Result A RunError) (e : RunError) (m : Meaning V) (s : Setting V)
    (names : LiveOutputs) (w : SystemWorld V) (events part first : List Event) (y : Systemed P V) (lines : List ℕ)
    (x : Scripted) (old now : Shown) → r ≡ Err e → AreFirstOf part first
    → FailsLive e s names (events ++ first) old now → GoesOver r m s names w events part y lines x old now
err_goes {A} r e m s names w events part first y lines x old now is firsts fails =
    subst (λ (z : Result A RunError). GoesOver z m s names w events part y lines x old now) (sym is)
    (first, firsts, fails)

-- an event that released nothing was told
pub quiet_goes : {P V : Type 0} (files : Result ⊤ OutputError) (r : Result ⊤ RunError) (m : Meaning V) (s : Setting V)
    (names : LiveOutputs) (w next : SystemWorld V) (events : List Event) (ev : Event) (line : List ℕ)
    (new : Systemed P V) (lines : List ℕ) (x : Scripted) (old now : Shown) → r ≡ run_result_of files
    → IsQuiet s w ev line next → IsSystemAt m s next new → s.threads ≤ 16
    → Keeps files s names (events ++ ev ∷ []) (events ++ ev ∷ []) next lines x old now
    → GoesOver r m s names w events (ev ∷ []) new lines x old now
quiet_goes files r m s names w next events ev line new lines x old now is q at few k =
    subst (λ (z : Result ⊤ RunError). GoesOver z m s names w events (ev ∷ []) new lines x old now) (sym is) (go files k)
  where
    go : (files : Result ⊤ OutputError)
        → Keeps files s names (events ++ ev ∷ []) (events ++ ev ∷ []) next lines x old now
        → GoesOver (run_result_of files) m s names w events (ev ∷ []) new lines x old now
    go (Ok done) k = (next, does_one s w next ev q.to q.freed q.on, record { told = k; at = at; few = few })
    go (Err output.WriteFault) k = (ev ∷ [], ([], refl), k)
    go (Err output.NoMemory) k = (ev ∷ [], ([], refl), k)

-- outputs that are open stay open
pub open_still : (names : LiveOutputs) (a b c : ℕ) (now new : Shown) → AreOpen names a b c now → KeepsOutputs now new
    → AreOpen names a b c new
open_still names a b c now new opened keeps = record {
  released = keeps a names.outputs.released opened.released;
  schedule = keeps b names.outputs.schedule opened.schedule;
  script = keeps c names.script opened.script;
}

-- a list of no length is empty
pub no_outputs : (outputs : List Output) → length outputs ≡ 0 → outputs ≡ []
no_outputs [] is = refl
no_outputs (o ∷ outputs) is = absurd (omega (arith, is))
