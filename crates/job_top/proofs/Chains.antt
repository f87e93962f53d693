-- What the status of `chain` says, and what it leaves: from before its inputs were read.
use Rattle.std.proofs.Common.{◌≡◌, ◌⊎◌, ℕ, List, [], ◌∷◌, ◌++◌, refl, sym, ap, ◌∙◌, subst, inl, inr, rules}
use Rattle.std.proofs.Common.{Result, Ok, Err}
use Rattle.std.specs.Prelude.{⊤, IsErrOf, OnOk}
use Rattle.plain_text.specs.declared.limit.Limit.{Limit}
use Rattle.plain_text.specs.declared.packet.Packet.{Packet}
use Rattle.plain_text.specs.declared.packet.Unit.{Unit as FractionUnit}
use Rattle.plain_player.specs.ScheduleText.{schedule_text}
use Rattle.world_io.specs.World.{Shown}
use Rattle.recovery_world.specs.World.{Setting}
use Rattle.output_files.specs.Writes.{Write, report_file}
use Rattle.run_writes.specs.declared.error.RunError.{RunError}
use Rattle.run_writes.specs.declared.error.RunError.TheVariants as run_error
use Rattle.input_files.specs.Files.{KeepsOutputs}
use Rattle.live_writes.specs.Script.{SpareName}
use Rattle.live_writes.proofs.ScriptSteps.{spare_both, spare_cut, spared}
use Rattle.chain_world.specs.declared.chain_event.ChainEvent.{ChainEvent}
use Rattle.chain_world.specs.Chain.{Chained, StopsChain as StopsAt, behind}
use Rattle.chain_command.specs.Headline.{KeepsChainPromise as KeepsBothPromises}
use Rattle.chain_command.specs.Outputs.{ChainNames as OutputNames}
use Rattle.chain_command.specs.Replies.{ChainReply}
use Rattle.chain_command.specs.Writes.{HasBegunChain, HasChained, HasFiles, HasStopped, IsWritten, opening_writes}
use Rattle.chain_command.specs.Writes.{replies_writes, writes_of}
use Rattle.job_commands.specs.declared.chain_inputs.ChainInputs.{ChainInputs}
use Rattle.job_commands.specs.declared.status.Status.{Status}
use Rattle.job_commands.specs.declared.status.Status.TheVariants as status
use Rattle.job_commands.specs.Chain.{AcceptsChainInputs, JudgesChainInputs}
use Rattle.job_commands.specs.ChainWords.{ChainNames}
use Rattle.job_commands.specs.Status.{AtOutputs, Completes, run_outcome, stage_of_limit}
use Rattle.job_commands.proofs.ChainFiles.{chain_accepted, chain_pass, chain_refused as files_refused}
use Rattle.job_commands.proofs.Outcomes.{begun_writes_since}
use Rattle.job_commands.proofs.RunLimits.{stops_are}
use Rattle.job_top.specs.Chain.{AreAcceptedForChain, ChainsInOrder, ChainsWhole, JudgesChain}
use Rattle.job_top.specs.Chain.{KeepsChainNames, SaysOfChain, chain_outputs, first_of, second_of}
use Rattle.job_top.specs.Chain.{KeepsChainPromise, chain_meaning}
use Rattle.job_commands.proofs.Usual.{Ends, IsUsual, run_says, stops_late}

-- The files are as they were when the inputs had been read.
module _ (a b c : Shown) (keeps : KeepsOutputs a b) where
  files_since : (names : OutputNames) (u : FractionUnit) (middle released : List Packet)
      (first second report : List ℕ) → HasFiles names u middle released first second report b c
      → HasFiles names u middle released first second report a c
  files_since names u middle released first second report f = record {
    middle_is = f.middle_is;
    released_is = f.released_is;
    first_is = f.first_is;
    second_is = f.second_is;
    report_is = f.report_is ∙ ap (λ (sent : ℕ → List ℕ). sent report_file ++ report) keeps.sent;
    others = λ name one two three four. f.others name one two three four ∙ ap (λ names. names name) keeps.names;
  }

  module _ {V U : Type 0} (s : Setting V) (t : Setting U) (names : OutputNames) (events : List ChainEvent) where
    pub chained_since : (r : Result ⊤ RunError) → OnOk r (HasChained s t names events b c)
        → OnOk r (HasChained s t names events a c)
    chained_since (Ok done) r = record {
      report = r.report;
      middle = r.middle;
      released = r.released;
      first_moves = r.first_moves;
      second_moves = r.second_moves;
      leaves = r.leaves;
      fit_middle = r.fit_middle;
      fit_released = r.fit_released;
      fit_first = r.fit_first;
      fit_second = r.fit_second;
      files =
          files_since names s.fractions r.middle r.released (schedule_text r.first_moves)
          (schedule_text r.second_moves) r.report r.files;
    }
    chained_since (Err e) r = tt

    pub limit_since : (limit : Limit) → HasStopped s t names events limit b c → HasStopped s t names events limit a c
    limit_since limit r = record {
      report = r.report;
      middle = r.middle;
      released = r.released;
      leaves = r.leaves;
      files = files_since names s.fractions r.middle r.released [] [] r.report r.files;
    }

    pub order_since : HasBegunChain s t names events b c → HasBegunChain s t names events a c
    order_since (writes, is, begun) = (writes, is, begun_writes_since a b c keeps writes begun)

-- A chain stops at the limit of moves or at that of bytes sent out, of one of its systems.
chain_stops_are : {V U : Type 0} (s : Setting V) (t : Setting U) (c : Chained V U) (ev : ChainEvent) (limit : Limit)
    (new : Chained V U) → StopsAt s t c ev limit new → stage_of_limit limit ≡ AtOutputs
chain_stops_are s t c ev limit new (inl first) = stops_are s c.first ev.event limit new.first first.1
chain_stops_are s t c ev limit new (inr second) =
    stops_are (behind t c.first) c.second ev.event limit new.second second.1

-- The status of the chain, where its inputs are accepted.

module _ (healthy : Type 0) (names : ChainNames) (inputs : ChainInputs) (a c : Shown)
    (accepted : AcceptsChainInputs names inputs a) where
  abbrev Leaves : Result ⊤ RunError → Type 0
  Leaves r = OnOk r (HasChained (first_of inputs) (second_of inputs) (chain_outputs names) inputs.events a c)

  abbrev Stops : Result ⊤ RunError → Type 0
  Stops r =
      (limit : Limit) → r ≡ Err (run_error.Limit limit)
      → HasStopped (first_of inputs) (second_of inputs) (chain_outputs names) inputs.events limit a c

  behind_files : (s : Status) → SaysOfChain healthy inputs s → JudgesChain healthy names s a
  behind_files s says = chain_accepted healthy names a (SaysOfChain healthy) inputs s accepted says

  chain_judged : (r : Result ⊤ RunError) → (healthy → ¬ IsErrOf r run_error.WriteFault) → Leaves r → Stops r
      → JudgesChain healthy names (run_outcome r) a
  chain_judged (Ok done) never whole limit =
      behind_files status.Done
      (whole.report, whole.middle, whole.released, whole.first_moves, whole.second_moves, whole.leaves)
  chain_judged (Err (run_error.Limit l)) never whole limit =
      let h = limit l refl in
      behind_files (status.TooLarge l) (h.report, h.middle, h.released, h.leaves)
  chain_judged (Err run_error.WriteFault) never whole limit = behind_files status.WriteFault (λ ok. never ok refl)
  chain_judged (Err run_error.NoMemory) never whole limit = behind_files status.NoMemory tt

  abbrev Keeps : Result ⊤ RunError → Type 0
  Keeps r = OnOk r (KeepsBothPromises (first_of inputs) (second_of inputs) (chain_outputs names) inputs.events c)

  whole : (r : Result ⊤ RunError) → Leaves r → Keeps r
      → OnOk r (ChainsWhole names a c × KeepsChainPromise names a c)
  whole (Ok done) run keeps =
      ((inputs, accepted, run), record { inputs = inputs; accepted = accepted; keeps = keeps })
  whole (Err error) run keeps = tt

  pub chain_ends : (r : Result ⊤ RunError) → (healthy → ¬ IsErrOf r run_error.WriteFault) → Leaves r → Keeps r
      → Stops r → HasBegunChain (first_of inputs) (second_of inputs) (chain_outputs names) inputs.events a c
      → Ends (chain_meaning names) healthy (run_outcome r) a c
  chain_ends r never run keeps limit begun = record {
    says = run_says (chain_meaning names) a c r (whole r run keeps) (λ l is.
        let h = limit l is in
        stops_late l a c _
        (chain_stops_are (first_of inputs) (second_of inputs) h.leaves.there h.leaves.event l h.leaves.worlds
        h.leaves.stops) (inputs, accepted, h));
    in_order = inr (inputs, accepted, begun);
    judged = chain_judged r never run limit;
  }

-- what a refused input says
pub chain_refused : (healthy : Type 0) (names : ChainNames) (s : Status) (a : Shown)
    → JudgesChainInputs healthy names (Err s) a → JudgesChain healthy names s a
chain_refused healthy names s a h = files_refused healthy names a (SaysOfChain healthy) s h

-- In a healthy world a chain that is accepted and passes no limit is done, or memory ran out.
pub chain_completes : (healthy : Type 0) (names : ChainNames) (shown : Shown) → healthy
    → AreAcceptedForChain names shown → (s : Status) → JudgesChain healthy names s shown → Completes s
chain_completes healthy names shown ok (inputs, a, within) s h =
    go (chain_pass healthy names shown (SaysOfChain healthy) ok inputs a s h)
  where
    on : (s : Status) → SaysOfChain healthy inputs s → Completes s
    on status.Done says = inl refl
    on (status.Refuted refutation) says = absurd says
    on status.BadWords says = absurd says
    on status.ReadFault says = absurd says
    on status.WriteFault says = absurd (says ok)
    on status.NoMemory says = inr refl
    on (status.BadInput fault) says = absurd says
    on (status.TooLarge limit) says = absurd (within limit says)
    on (status.Unready unready) says = absurd says

    go : (s ≡ status.NoMemory) ⊎ SaysOfChain healthy inputs s → Completes s
    go (inl none) = inr none
    go (inr says) = on s says

-- Other names

module _ (names : OutputNames) (name : List ℕ) (one : ¬ (names.middle ≡ name)) (two : ¬ (names.released ≡ name))
    (three : ¬ (names.first_schedule ≡ name)) (four : ¬ (names.second_schedule ≡ name)) where
  spare_replies : (replies : List ChainReply) → SpareName name (replies_writes names replies)
  spare_replies [] = tt
  spare_replies (reply ∷ replies) = (one, (two, spare_replies replies))

  spare_some : (u : FractionUnit) (replies : List ChainReply) → SpareName name (writes_of names u replies)
  spare_some u replies =
      spare_both name (opening_writes names u) (replies_writes names replies)
      (one, (one, (two, (two, (three, (four, tt)))))) (spare_replies replies)

  chain_spares : {V U : Type 0} (s : Setting V) (t : Setting U) (events : List ChainEvent) (writes : List Write)
      → IsWritten s t names events writes → SpareName name writes
  chain_spares s t events writes (inl some) =
      subst (SpareName name) (sym some.writes_are) (spare_some s.fractions some.replies)
  chain_spares s t events writes (inr (inl (limit, until))) =
      subst (SpareName name) (sym until.writes_are)
      (spare_both name (writes_of names s.fractions until.replies) _ (spare_some s.fractions until.replies)
      (one, (two, tt)))
  chain_spares s t events writes (inr (inr all)) =
      subst (SpareName name) (sym all.writes_are)
      (spare_both name (writes_of names s.fractions all.replies) _ (spare_some s.fractions all.replies)
      (three, (four, tt)))

pub chain_others : (names : ChainNames) (a b : Shown) → ChainsInOrder names a b → KeepsChainNames names a b
chain_others names a b (inl kept) name one two three four = ap (λ f. f name) kept.names
chain_others names a b (inr (inputs, accepted, (writes, is, begun))) name one two three four =
    begun.written.names name
    ∙ spared name begun.done (a.names name) (spare_cut name begun.done writes
    (chain_spares (chain_outputs names) name (λ e. one (sym e)) (λ e. two (sym e)) (λ e. three (sym e))
    (λ e. four (sym e)) (first_of inputs) (second_of inputs) inputs.events writes is) begun.cut)

pub chain_usual : (names : ChainNames) → IsUsual (chain_meaning names)
chain_usual names = record {
  few = search rules;
  begins = λ old new same. inl same;
  others = chain_others names;
  completes = λ healthy shown. chain_completes healthy names shown;
}
