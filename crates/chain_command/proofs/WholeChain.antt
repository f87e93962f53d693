-- A chain from its opening to its end, and its promise.
use Rattle.std.proofs.Common.{◌≡◌, ℕ, List, [], ◌∷◌, refl, sym, ap, ◌∙◌, append-nil, subst, inl, inr, Result, Ok}
use Rattle.std.proofs.Common.{Err, false}
use Rattle.std.specs.Prelude.{⊤, All, IsErrOf, OnOk, drop, length}
use Rattle.std.proofs.lemmas.List.Elements.{All-nil}
use Rattle.plain_text.specs.Packets.{IsShort}
use Rattle.plain_text.specs.declared.limit.Limit.{Limit}
use Rattle.plain_text.specs.declared.packet.Packet.{Packet}
use Rattle.plain_text.specs.declared.packet.Unit.{Unit as FractionUnit}
use Rattle.access_log.specs.declared.entry.Output.{Output}
use Rattle.plain_machine.specs.Program.{Meaning}
use Rattle.world_io.specs.World.{Shown}
use Rattle.recovery_world.specs.World.{Setting, opening}
use Rattle.chain_box.specs.FromRecoveryCore.{Systemed, SystemStands}
use Rattle.output_files.specs.declared.error.OutputError.{OutputError}
use Rattle.output_files.specs.declared.error.OutputError.TheVariants as output
use Rattle.output_files.specs.Writes.{Write, HasWritten, HasBegun, HasGathered}
use Rattle.output_files.proofs.Effects.{begun_all, begun_before, none_gathered}
use Rattle.run_writes.specs.declared.error.RunError.{RunError}
use Rattle.run_writes.specs.declared.error.RunError.TheVariants as run
use Rattle.run_writes.specs.Errors.{run_error_of, run_result_of}
use Rattle.run_writes.specs.Replies.{packets_in}
use Rattle.run_writes.specs.Run.{FitsRecord}
use Rattle.chain_world.specs.declared.chain_event.ChainEvent.{ChainEvent}
use Rattle.chain_world.specs.Chain.{Chained, behind, chain_opening}
use Rattle.chain_world.specs.Promise.{KeepsOne}
use Rattle.chain_world.proofs.ChainLemmas.{Stands, stands, first_alone, second_sound, waits_well, keeps_one}
use Rattle.chain_world.proofs.ChainLemmas.{first_leaves, second_leaves}
use Rattle.chain_box.specs.Chains.{TwoSystems, IsGoing}
use Rattle.chain_box.proofs.ChainLemmas.{opened_going}
use Rattle.chain_command.specs.declared.opening.ChainNumbers.{ChainNumbers}
use Rattle.chain_command.specs.Headline.{KeepsChainPromise}
use Rattle.chain_command.specs.Outputs.{ChainNames, AreApart}
use Rattle.chain_command.specs.Replies.{ChainOpens}
use Rattle.chain_command.specs.Running.{IsChainAt, HasCome, HasBegunSome, GoesOn}
use Rattle.chain_command.specs.Writes.{opening_writes, writes_of, HasChained, HasStopped, HasBegunChain, Finishes}
use Rattle.chain_command.proofs.WrittenFiles.{has_chained, has_stopped}

-- The opening

no_outputs : (outputs : List Output) → packets_in outputs ≡ [] → outputs ≡ []
no_outputs [] e = refl
no_outputs (o ∷ outputs) e = absurd (cc)

-- two new systems can go on in a chain
pub going_opened : {P V Q U : Type 0} (mean : P → Meaning V) (other : Q → Meaning U) (p : P) (q : Q) (s : Setting V)
    (r : Setting U) (first : Systemed P V) (second : Systemed Q U) → SystemStands (mean p) s (opening V) first
    → SystemStands (other q) r (opening U) second → r.packets ≡ [] → All IsShort s.packets
    → first.parts.program ≡ p → second.parts.program ≡ q → first.stopped ≡ false → second.stopped ≡ false
    → IsGoing (mean first.parts.program) (other second.parts.program) first second
going_opened {P} {V} {Q} {U} mean other p q s r first second at_first at_second none short one two runs other_runs =
    opened_going (mean first.parts.program) (other second.parts.program) s r first second
    (subst (λ (x : P). SystemStands (mean x) s (opening V) first) (sym one) at_first)
    (subst (λ (x : Q). SystemStands (other x) r (opening U) second) (sym two) at_second) none short runs other_runs

-- two new systems in a chain are at the opening
pub opens_at : {P V Q U : Type 0} (mean : P → Meaning V) (other : Q → Meaning U) (p : P) (q : Q) (s : Setting V)
    (r : Setting U) (none : List Packet) (first : Systemed P V) (second : Systemed Q U) (y : TwoSystems P V Q U)
    → SystemStands (mean p) s (opening V) first
    → SystemStands (other q) (record r { packets = none }) (opening U) second
    → none ≡ [] → first.parts.program ≡ p → second.parts.program ≡ q → first.handed ≡ 0 → second.handed ≡ 0
    → y.first ≡ first → y.second ≡ second
    → IsChainAt mean other s (record r { packets = [] }) (chain_opening V U) y
opens_at {P} {V} {Q} {U} mean other p q s r none first second y at_first at_second empty one two nothing no_other
    first_is second_is = record {
      stands = record {
        at_first =
            subst (λ (x : Systemed P V). SystemStands (mean x.parts.program) s (opening V) x) (sym first_is)
            (subst (λ (x : P). SystemStands (mean x) s (opening V) first) (sym one) at_first);
        at_second =
            subst
            (λ (x : Systemed Q U). SystemStands (other x.parts.program) (record r { packets = [] }) (opening U) x)
            (sym second_is)
            (subst (λ (x : Q). SystemStands (other x) (record r { packets = [] }) (opening U) second) (sym two)
            (subst (λ (l : List Packet). SystemStands (other q) (record r { packets = l }) (opening U) second) empty
            at_second));
      };
      first_fresh =
          ap (λ (x : Systemed P V). x.fresh) first_is
          ∙ no_outputs first.fresh (at_first.released.fresh ∙ rw nothing refl);
      first_handed = ap (λ (x : Systemed P V). x.handed) first_is ∙ nothing;
      second_fresh =
          ap (λ (x : Systemed Q U). x.fresh) second_is
          ∙ no_outputs second.fresh (at_second.released.fresh ∙ rw no_other refl);
      second_handed = ap (λ (x : Systemed Q U). x.handed) second_is ∙ no_other;
    }

module _ {P V Q U : Type 0} (mean : P → Meaning V) (other : Q → Meaning U) (s : Setting V) (r : Setting U)
    (names : ChainNames) (y : TwoSystems P V Q U) (lines : List ℕ) (u : FractionUnit) (a b : Shown) where
  -- nothing was performed yet, and the outputs are open
  pub opens : lines ≡ [] → IsChainAt mean other s r (chain_opening V U) y → s.fractions ≡ u
      → HasWritten (opening_writes names u) a b → HasCome mean other s r names [] y lines a b
  opens none at unit w = record {
    replies = [];
    worlds = chain_opening V U;
    answers = ChainOpens;
    at = at;
    fit_middle = All-nil FitsRecord;
    fit_released = All-nil FitsRecord;
    gathered = subst (λ (l : List ℕ). HasGathered (writes_of names s.fractions []) l a b) (sym none)
        (none_gathered (writes_of names s.fractions []) a b
        (subst (λ (ws : List Write). HasWritten ws a b) (sym (append-nil (opening_writes names s.fractions)))
        (subst (λ (x : FractionUnit). HasWritten (opening_writes names x) a b) (sym unit) w)));
  }

-- where nothing was performed yet, an opening was begun
nothing_begun : {V U : Type 0} (s : Setting V) (r : Setting U) (names : ChainNames) (events : List ChainEvent)
    (a b : Shown) → HasBegun (opening_writes names s.fractions) a b → HasBegunSome s r names events a b
nothing_begun {V} {U} s r names events a b begun = (
  writes_of names s.fractions [],
  inl (record {
    before = [];
    after = events;
    events_are = refl;
    replies = [];
    worlds = chain_opening V U;
    answers = ChainOpens;
    writes_are = refl;
  }),
  begun_before (opening_writes names s.fractions) [] a b begun,
)

-- the outputs could not be opened, so nothing was performed
pub not_opened : {A P V Q U : Type 0} (q : Result A RunError) (error : OutputError) (mean : P → Meaning V)
    (other : Q → Meaning U) (s : Setting V) (r : Setting U) (names : ChainNames) (events : List ChainEvent)
    (y : TwoSystems P V Q U) (lines : List ℕ) (u : FractionUnit) (a b : Shown) → q ≡ Err (run_error_of error)
    → s.fractions ≡ u → HasBegun (opening_writes names u) a b → GoesOn q mean other s r names events y lines a b
not_opened {A} {P} {V} {Q} {U} q error mean other s r names events y lines u a b is unit begun =
    subst (λ (x : Result A RunError). GoesOn x mean other s r names events y lines a b) (sym is) (go error)
  where
    none : HasBegunSome s r names events a b
    none = nothing_begun s r names events a b
        (subst (λ (x : FractionUnit). HasBegun (opening_writes names x) a b) (sym unit) begun)

    go : (error : OutputError) → GoesOn {A = A} (Err (run_error_of error)) mean other s r names events y lines a b
    go output.WriteFault = none
    go output.NoMemory = none

-- an error is one of whatever it stands for
pub same_error : {B P V Q U : Type 0} (q : Result B RunError) (e : RunError) (mean : P → Meaning V)
    (other : Q → Meaning U) (s : Setting V) (r : Setting U) (names : ChainNames) (events : List ChainEvent)
    (y : TwoSystems P V Q U) (lines : List ℕ) (a b : Shown) → q ≡ Err e
    → GoesOn {A = ⊤} (Err e) mean other s r names events y lines a b
    → GoesOn q mean other s r names events y lines a b
same_error {B} {P} {V} {Q} {U} q e mean other s r names events y lines a b is h =
    subst (λ (x : Result B RunError). GoesOn x mean other s r names events y lines a b) (sym is) (go e h)
  where
    go : (e : RunError) → GoesOn {A = ⊤} (Err e) mean other s r names events y lines a b
        → GoesOn {A = B} (Err e) mean other s r names events y lines a b
    go (run.Limit limit) h = h
    go run.WriteFault h = h
    go run.NoMemory h = h

-- the same events, by another name
pub goes_same : {A P V Q U : Type 0} (q : Result A RunError) (mean : P → Meaning V) (other : Q → Meaning U)
    (s : Setting V) (r : Setting U) (names : ChainNames) (events all : List ChainEvent) (y : TwoSystems P V Q U)
    (lines : List ℕ) (a b : Shown) → events ≡ all → GoesOn q mean other s r names events y lines a b
    → GoesOn q mean other s r names all y lines a b
goes_same {A} {P} {V} {Q} {U} q mean other s r names events all y lines a b same h =
    subst (λ (l : List ChainEvent). GoesOn q mean other s r names l y lines a b) same h

-- The end

abbrev failed : RunError → Result ⊤ RunError
failed e = Err e

module _ {V U : Type 0} (s : Setting V) (r : Setting U) (names : ChainNames) (events : List ChainEvent) where
  some_begun : (a b : Shown) → HasBegunSome s r names events a b → HasBegunChain s r names events a b
  some_begun a b (writes, (inl some), begun) = (writes, inl some, begun)
  some_begun a b (writes, (inr until), begun) = (writes, inr (inl until), begun)

  -- nothing was created yet
  pub begun_nothing : (a b : Shown) → HasBegun (opening_writes names s.fractions) a b
      → HasBegunChain s r names events a b
  begun_nothing a b begun = some_begun a b (nothing_begun s r names events a b begun)

  -- Both systems keep the promise.
  pub promised : (a b : Shown) → HasChained s r names events a b → KeepsChainPromise s r names events b
  promised a b h =
      let l = h.leaves in
      let there = stands s r events l.lines l.worlds l.performs in
      let alone = first_alone s r events l.lines l.worlds l.performs in
      let first = first_leaves s r events h.report h.middle h.released h.first_moves h.second_moves l alone.0 alone.1 in
      let second = second_leaves s r events h.report h.middle h.released h.first_moves h.second_moves l
      there.performed in record {
        worlds = l.worlds;
        lines = l.lines;
        performs = l.performs;
        middle = h.middle;
        released = h.released;
        first_moves = h.first_moves;
        second_moves = h.second_moves;
        middle_written = h.files.middle_is;
        released_written = h.files.released_is;
        first_written = h.files.first_is;
        second_written = h.files.second_is;
        first = keeps_one s _ _ h.middle h.first_moves first;
        second = subst (λ (packets : List Packet). KeepsOne (record r { packets = packets }) l.worlds.second h.released
            h.second_moves) (sym l.middle_is)
            (keeps_one (behind r l.worlds.first) _ _ h.released h.second_moves second);
        waits_always = λ part rest is early c performs.
            let now = stands s r part early c performs in (
              waits_well s c.first now.sound,
              waits_well (behind r c.first) c.second (second_sound s r c now),
            );
      }

  module _ (apart : AreApart names) (a b : Shown) where
    pub finished_whole : (w : Result ⊤ OutputError) → Finishes w s r names events a b
        → OnOk (run_result_of w) (HasChained s r names events a b)
    finished_whole (Ok done) h = has_chained s r names events h.0 a b apart h.1 h.2
    finished_whole (Err error) h = tt

    pub finished_promised : (w : Result ⊤ OutputError) → Finishes w s r names events a b
        → OnOk (run_result_of w) (KeepsChainPromise s r names events b)
    finished_promised (Ok done) h = promised a b (has_chained s r names events h.0 a b apart h.1 h.2)
    finished_promised (Err error) h = tt

    pub finished_begun : (w : Result ⊤ OutputError) → Finishes w s r names events a b
        → HasBegunChain s r names events a b
    finished_begun (Ok done) h = (h.0, inr (inr h.1), begun_all h.0 a b h.2)
    finished_begun (Err error) h = h

    pub stopped_limit : {P Q : Type 0} (mean : P → Meaning V) (other : Q → Meaning U) (y : TwoSystems P V Q U)
        (lines : List ℕ) (e : RunError) (limit : Limit)
        → GoesOn {A = ChainNumbers} (Err e) mean other s r names events y lines a b
        → failed e ≡ failed (run.Limit limit) → HasStopped s r names events limit a b
    stopped_limit {P} {Q} mean other y lines (run.Limit l) limit h same =
        let one : l ≡ limit = cc in
        subst (λ (k : Limit). HasStopped s r names events k a b) one
        (has_stopped s r names events h.writes a b apart l h.until h.written)
    stopped_limit {P} {Q} mean other y lines run.WriteFault limit h same = absurd (cc)
    stopped_limit {P} {Q} mean other y lines run.NoMemory limit h same = absurd (cc)

    pub stopped_begun : {P Q : Type 0} (mean : P → Meaning V) (other : Q → Meaning U) (y : TwoSystems P V Q U)
        (lines : List ℕ) (e : RunError) → GoesOn {A = ChainNumbers} (Err e) mean other s r names events y lines a b
        → HasBegunChain s r names events a b
    stopped_begun {P} {Q} mean other y lines (run.Limit l) h =
        (h.writes, inr (inl (l, h.until)), begun_all h.writes a b h.written)
    stopped_begun {P} {Q} mean other y lines run.WriteFault h = some_begun a b h
    stopped_begun {P} {Q} mean other y lines run.NoMemory h = some_begun a b h
