-- A trace is told, and written.
use Rattle.std.proofs.Common.{◌≡◌, inl, inr, ℕ, List, [], ◌∷◌, ◌++◌, take, refl, sym, ap, ◌∙◌, subst}
use Rattle.std.proofs.Common.{Option, Result, Ok, Err}
use Rattle.std.specs.Prelude.{⊤, IfOk, IsErrOf, OnOk}
use Rattle.plain_text.specs.declared.limit.Limit.{Limit}
use Rattle.plain_text.specs.declared.packet.Packet.{Packet}
use Rattle.input_logger.specs.Inputs.{Fed, inputs_of}
use Rattle.plain_machine.specs.Program.{Meaning}
use Rattle.plain_machine.specs.History.{Step, play}
use Rattle.world_io.specs.World.{Shown}
use Rattle.recovery_world.specs.declared.event.Event.{Event}
use Rattle.recovery_world.specs.World.{Setting, opening}
use Rattle.recovery_world.specs.Files.{done_line, packets_of}
use Rattle.recovery_laws.proofs.AcceptedRuns.{moves_play}
use Rattle.event_replies.specs.declared.reply.Stop.{Stop}
use Rattle.event_replies.specs.declared.reply.Stop.TheVariants as stop
use Rattle.recovery_core.specs.Systems.{SystemStands, Systemed}
use Rattle.output_files.specs.declared.error.OutputError.{OutputError}
use Rattle.output_files.specs.declared.error.OutputError.TheVariants as output
use Rattle.output_files.specs.Writes.{Appends, HasBegun, HasWritten, Reports}
use Rattle.output_files.specs.Written.{Writes}
use Rattle.output_files.proofs.Effects.{begun_all}
use Rattle.run_writes.specs.declared.error.RunError.{RunError}
use Rattle.run_writes.specs.declared.error.RunError.TheVariants as run
use Rattle.run_writes.specs.Errors.{run_result_of}
use Rattle.run_writes.specs.Run.{KeepsShown, counts_line}
use Rattle.run_writes.proofs.RunWrites.{other_name, same_name}
use Rattle.noted_runs.specs.declared.trace.rows.Became.{Became}
use Rattle.noted_runs.specs.declared.trace.rows.Row.{Row}
use Rattle.noted_runs.specs.declared.trace.running.Gone.{Gone}
use Rattle.noted_runs.specs.declared.trace.steering.Steered.{Steered}
use Rattle.noted_runs.specs.declared.trace.tracing.Texts.{Texts}
use Rattle.noted_runs.specs.Filling.{AreFilled}
use Rattle.noted_runs.specs.Following.{HasBecome}
use Rattle.noted_runs.specs.TraceGoing.{HasAllGone, IsHalted, IsSomewhere}
use Rattle.noted_runs.specs.Table.{table_text}
use Rattle.noted_runs.specs.Trace.{HasBegunTrace, HasStopped, HasTraced, trace_writes, traced_events}
use Rattle.noted_runs.specs.Tracing.{ComesTo, IsHalt, IsSteered, IsTold, WritesTraced}
use Rattle.noted_runs.specs.Turns.{AreTurns}
use Rattle.noted_runs.proofs.TracePerformed.{stands_same}
use Rattle.noted_runs.proofs.RowLemmas.{rows_are}

-- The texts

module _ {V : Type 0} (register : Option ℕ) (s : Setting V) (events : List Event) (steered : Steered) (gone : Gone)
    (st : IsSteered s steered) (h : HasAllGone s (traced_events events) gone) where
  plays : play s.meaning (inputs_of steered.inputs) steered.inputs.threads gone.finished.schedule
      ≡ Ok h.finished.steps
  plays =
      ap (λ (log : Fed). play s.meaning (inputs_of log) log.threads gone.finished.schedule) st.inputs
      ∙ (ap (play s.meaning (inputs_of (record { threads = s.threads; tags = s.tags; packets = s.packets })) s.threads)
      h.finished.schedule
      ∙ moves_play s.meaning (inputs_of (record { threads = s.threads; tags = s.tags; packets = s.packets })) s.threads
      h.finished.steps h.finished.finish.history)

  line_is : counts_line gone.finished.fed gone.finished.epoch gone.finished.released ≡ done_line h.world
  line_is =
      ap (λ (n : ℕ). counts_line n gone.finished.epoch gone.finished.released) h.finished.fed
      ∙ (ap (λ (n : ℕ). counts_line h.world.fed n gone.finished.released) h.finished.epoch
      ∙ ap (λ (n : ℕ). counts_line h.world.fed h.world.epoch n) h.finished.released)

  pub told : (m : Meaning V) → s.meaning ≡ m → (inputs : List (List Became))
      → ((steps : List (Step V))
      → play m (inputs_of steered.inputs) steered.inputs.threads gone.finished.schedule ≡ Ok steps
      → HasBecome register steered.inputs.threads steps inputs)
      → (turns : List (ℕ × ℕ)) → turns ≡ take gone.finished.fed steered.turns → (rows : List Row)
      → AreFilled gone.departures gone.seen.places.items gone.seen.lacks.items inputs turns rows → (texts : Texts)
      → texts.table ≡ table_text rows
      → texts.report ≡ counts_line gone.finished.fed gone.finished.epoch gone.finished.released
      → IsTold register s events texts
  told m same inputs becomes turns turns_are rows filled texts table report = record {
    world = h.world;
    rows = rows;
    traces = record {
      departures = gone.departures;
      departs = h.departs;
      steps = h.finished.steps;
      finish = h.finished.finish;
      rows_are = rows_are s h.world h.sound register h.finished.steps gone.departures gone.seen h.seen inputs
          (subst (λ (n : ℕ). HasBecome register n h.finished.steps inputs)
          (ap (λ (log : Fed). log.threads) st.inputs)
          (becomes h.finished.steps
          (subst (λ (k : Meaning V).
          play k (inputs_of steered.inputs) steered.inputs.threads gone.finished.schedule ≡ Ok h.finished.steps) same
          plays))) steered.turns st.turns rows
          (subst (λ (l : List (ℕ × ℕ)).
          AreFilled gone.departures gone.seen.places.items gone.seen.lacks.items inputs l rows)
          (turns_are ∙ ap (λ (n : ℕ). take n steered.turns) h.finished.fed) filled);
    };
    table = table;
    report = report ∙ line_is;
  }

-- One write, of the same bytes

pub begun_same : (name bytes other : List ℕ) (a b : Shown) → bytes ≡ other → HasBegun (Appends name bytes ∷ []) a b
    → HasBegun (Appends name other ∷ []) a b
begun_same name bytes other a b same h = subst (λ (l : List ℕ). HasBegun (Appends name l ∷ []) a b) same h

pub written_same : (name bytes other : List ℕ) (a b : Shown) → bytes ≡ other
    → HasWritten (Appends name bytes ∷ []) a b → HasWritten (Appends name other ∷ []) a b
written_same name bytes other a b same h = subst (λ (l : List ℕ). HasWritten (Appends name l ∷ []) a b) same h

pub reports_same : (r : Result ⊤ OutputError) (bytes other : List ℕ) (a b : Shown) → bytes ≡ other
    → Writes r (Reports bytes ∷ []) a b → Writes r (Reports other ∷ []) a b
reports_same r bytes other a b same h = subst (λ (l : List ℕ). Writes r (Reports l ∷ []) a b) same h

-- What was written

-- an error of a trace is a write fault only where that of its outputs is
pub fault_written : (r : Result ⊤ OutputError) → IsErrOf (run_result_of r) run.WriteFault → IsErrOf r output.WriteFault
fault_written (Ok done) h = absurd (cc)
fault_written (Err output.WriteFault) h = refl
fault_written (Err output.NoMemory) h = absurd (cc)

abbrev pub failed_at : Limit → Result ⊤ RunError
failed_at limit = Err (run.Limit limit)

no_limit : (w : Result ⊤ OutputError) (limit : Limit) → run_result_of w ≡ Err (run.Limit limit) → ⊥
no_limit (Ok done) limit e = cc
no_limit (Err output.WriteFault) limit e = cc
no_limit (Err output.NoMemory) limit e = cc

pub kept_shown : (a b : Shown) → b ≡ a → KeepsShown a b
kept_shown a b same =
    record { names = ap (λ (x : Shown). x.names) same; sent = ap (λ (x : Shown). x.sent) same }

module _ {V : Type 0} (register : Option ℕ) (s : Setting V) (events : List Event) (name : List ℕ)
    (a b : Shown) where
  module _ (texts : Texts) (h : IsTold register s events texts) where
    texts_same : trace_writes name texts.table texts.report ≡ trace_writes name (table_text h.rows) (done_line h.world)
    texts_same =
        ap (λ (l : List ℕ). trace_writes name l texts.report) h.table
        ∙ ap (trace_writes name (table_text h.rows)) h.report

    traced : HasWritten (trace_writes name (table_text h.rows) (done_line h.world)) a b
        → HasTraced register s events name a b
    traced w = record {
      world = h.world;
      rows = h.rows;
      traces = h.traces;
      table_is = w.names name ∙ rw (same_name name) refl;
      report_is = w.report ∙ ap (λ (l : List ℕ). a.sent 0 ++ l) (nothing_behind (done_line h.world));
      others = λ other ne. w.names other ∙ rw (other_name name other (λ e. ne (sym e))) refl;
    }
      where
        nothing_behind : (l : List ℕ) → l ++ [] ≡ l
        nothing_behind [] = refl
        nothing_behind (x ∷ l) = ap (λ m. x ∷ m) (nothing_behind l)

    pub whole : (r : Result ⊤ RunError) (w : Result ⊤ OutputError) → r ≡ run_result_of w
        → Writes w (trace_writes name texts.table texts.report) a b → OnOk r (HasTraced register s events name a b)
    whole r w is written =
        subst (λ (x : Result ⊤ RunError). OnOk x (HasTraced register s events name a b)) (sym is) (go w written)
      where
        go : (w : Result ⊤ OutputError) → Writes w (trace_writes name texts.table texts.report) a b
            → OnOk (run_result_of w) (HasTraced register s events name a b)
        go (Ok done) written = traced (subst (λ l. HasWritten l a b) texts_same written)
        go (Err error) written = tt

    pub no_stop : (r : Result ⊤ RunError) (w : Result ⊤ OutputError) → r ≡ run_result_of w → (limit : Limit)
        → r ≡ Err (run.Limit limit) → HasStopped s events limit a b
    no_stop r w is limit e = absurd (no_limit w limit (sym is ∙ e))

    pub in_order : (w : Result ⊤ OutputError) → Writes w (trace_writes name texts.table texts.report) a b
        → HasBegunTrace register s events name a b
    in_order w written = inr (h.world, h.rows, h.traces, subst (λ l. HasBegun l a b) texts_same (go w written))
      where
        go : (w : Result ⊤ OutputError) → Writes w (trace_writes name texts.table texts.report) a b
            → HasBegun (trace_writes name texts.table texts.report) a b
        go (Ok done) written = begun_all (trace_writes name texts.table texts.report) a b written
        go (Err error) written = written

  -- an event stopped
  pub stopped : (limit : Limit) → IsHalted s (traced_events events) limit → KeepsShown a b
      → HasStopped s events limit a b
  stopped limit h kept = record {
    lines = h.lines;
    released = packets_of h.world.released;
    stops = record {
      before = h.before;
      event = h.event;
      after = h.after;
      events_are = h.events_are;
      there = h.there;
      performs = h.performs;
      world = h.world;
      stops = h.stops;
      released_is = refl;
    };
    kept = kept;
  }

  -- what a trace came to was written

  pub traced_whole : (r : Result ⊤ RunError) (came : Result Texts Limit) → ComesTo register s events came
      → WritesTraced r came name a b → OnOk r (HasTraced register s events name a b)
  traced_whole r (Ok texts) comes (w, is, wrote) = whole texts comes r w is wrote
  traced_whole r (Err l) comes (is, kept) =
      subst (λ (x : Result ⊤ RunError). OnOk x (HasTraced register s events name a b)) (sym is) tt

  pub traced_limit : (r : Result ⊤ RunError) (came : Result Texts Limit) (limit : Limit)
      → ComesTo register s events came → WritesTraced r came name a b → r ≡ Err (run.Limit limit)
      → HasStopped s events limit a b
  traced_limit r (Ok texts) limit comes (w, is, wrote) e = no_stop texts comes r w is limit e
  traced_limit r (Err l) limit comes (is, kept) e =
      let both : failed_at l ≡ failed_at limit = sym is ∙ e in
      let one : l ≡ limit = cc in
      stopped limit (subst (IsHalted s (traced_events events)) one comes) kept

  pub traced_order : (r : Result ⊤ RunError) (came : Result Texts Limit) → ComesTo register s events came
      → WritesTraced r came name a b → HasBegunTrace register s events name a b
  traced_order r (Ok texts) comes (w, is, wrote) = in_order texts comes w wrote
  traced_order r (Err l) comes (is, kept) = inl kept

pub whole_traced : (r : Result ⊤ RunError) (came : Result Texts Limit) (texts : Texts) (w : Result ⊤ OutputError)
    (name : List ℕ) (a b : Shown) → came ≡ Ok texts → r ≡ run_result_of w
    → Writes w (trace_writes name texts.table texts.report) a b → WritesTraced r came name a b
whole_traced r came texts w name a b is made wrote =
    subst (λ (x : Result Texts Limit). WritesTraced r x name a b) (sym is) (w, made, wrote)

pub stopped_traced : (r : Result ⊤ RunError) (came : Result Texts Limit) (limit : Limit) (name : List ℕ) (a b : Shown)
    → came ≡ Err limit → r ≡ Err (run.Limit limit) → KeepsShown a b → WritesTraced r came name a b
stopped_traced r came limit name a b is made kept =
    subst (λ (x : Result Texts Limit). WritesTraced r x name a b) (sym is) (made, kept)

-- the events stopped
pub halted_comes : {V E : Type 0} (register : Option ℕ) (s : Setting V) (events : List Event)
    (r : Result (Result Texts Limit) E) (why : Stop) → IfOk r (IsHalt why)
    → ((limit : Limit) → why ≡ stop.Limit limit → IsHalted s (traced_events events) limit)
    → IfOk r (ComesTo register s events)
halted_comes register s events (Ok came) (stop.Limit l) is h =
    subst (ComesTo register s events) (sym is) (h l refl)
halted_comes register s events (Ok came) stop.NoMemory is h = absurd is
halted_comes register s events (Err error) why is h = tt

-- A new system

pub new_stands : {P V : Type 0} (meaning : P → Meaning V) (program : P) (s : Setting V) (y : Systemed P V)
    → y.parts.program ≡ program → SystemStands (meaning program) s (opening V) y
    → SystemStands (meaning y.parts.program) s (opening V) y
new_stands {P} {V} meaning program s y same stands =
    stands_same (meaning program) (meaning y.parts.program) s (opening V) y (ap meaning (sym same)) stands

pub new_somewhere : {P V : Type 0} (meaning : P → Meaning V) (program : P) (s : Setting V) (y : Systemed P V)
    → y.parts.program ≡ program → SystemStands (meaning program) s (opening V) y
    → IsSomewhere s.threads (meaning y.parts.program) y
new_somewhere {P} {V} meaning program s y same stands =
    (s, opening V, new_stands meaning program s y same stands, refl)

-- the packets of the run were steered
pub steered_so : {V : Type 0} (s : Setting V) (packets : List Packet) (steered : Steered) → packets ≡ s.packets
    → steered.inputs ≡ record { threads = s.threads; tags = s.tags; packets = packets }
    → AreTurns s.threads s.tags packets steered.turns → IsSteered s steered
steered_so s packets steered same inputs turns = record {
  inputs = inputs
      ∙ ap
      (λ (l : List Packet). let log : Fed = record { threads = s.threads; tags = s.tags; packets = l } in log) same;
  turns = subst (λ (l : List Packet). AreTurns s.threads s.tags l steered.turns) same turns;
}
