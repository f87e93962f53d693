-- A snapshot of the master is made.
use Rattle.std.proofs.Common.{◌≡◌, ℕ, ◌<◌, ◌≤◌, lit≤, List, [], length, refl, sym, ap, ◌∙◌, subst, inl, inr, ◌⊎◌}
use Rattle.std.proofs.Common.{Option, Some, None, arith, true, false}
use Rattle.std.specs.Prelude.{slice_index, sum, ◌^◌}
use Rattle.std.specs.Option.{ForSome}
use Rattle.std.proofs.lemmas.Bool.{cases_lt}
use Rattle.plain_text.specs.declared.limit.TheConstants.{MOST_MOVES}
use Rattle.input_logger.specs.Inputs.{Fed}
use Rattle.entry_order.specs.Log.{entries}
use Rattle.plain_machine.specs.Program.{Meaning}
use Rattle.plain_machine.specs.History.{Step, log_of, IsHistory}
use Rattle.box_program.specs.Hands.{FitsProgram}
use Rattle.master_core.specs.declared.parts.ThreadPart.{ThreadPart}
use Rattle.master_core.specs.Mastered.{value_of}
use Rattle.master_core.specs.Deltas.{HasCounts}
use Rattle.master_core.proofs.Moments.{none_past_threads}
use Rattle.snapshot_store.specs.Stored.{Snapshot, Snapshots, HasTaken}
use Rattle.recovery_world.specs.declared.event.Event.TheVariants as event
use Rattle.recovery_world.specs.declared.event.Outcome.TheVariants as outcome
use Rattle.recovery_world.specs.World.{Setting, World, inputs_fed}
use Rattle.recovery_world.specs.Limits.{OnWithin}
use Rattle.recovery_laws.proofs.KeptWorlds.{within_sound}
use Rattle.recovery_laws.proofs.AcceptedRuns.{made_length}
use Rattle.output_releases.specs.FromSystemParts.{Parts, AreParts}
use Rattle.output_releases.specs.FromSystemParts.{IsSnapshot, StandsFor}
use Rattle.output_releases.specs.FromSystemParts.{MovesOn, ComesTo}
use Rattle.snapshot_steps.proofs.StoreLemmas.{log_short, total_is}

module _ {P V : Type 0} (m : Meaning V) (s : Setting V) (w : World V) (y : Parts P V) (st : StandsFor m s w y) where
  legal : IsHistory s.meaning (inputs_fed s w.fed) s.threads w.past
  legal = st.sound.firm.legal

  -- a master that is down makes none
  pub down_snaps : y.up ≡ false → (next : World V) × ComesTo event.Snap outcome.Down s w next × StandsFor m s next y
  down_snaps down = (w, ((inl (sym st.master.up ∙ down, refl, refl), refl), st.within), st)

  -- how many entries the master has
  counts_are : (counts : List ℕ) → HasCounts y.master.threads counts → (t : ℕ)
      → slice_index counts t ≡ entries t (log_of w.past)
  counts_are counts counted t = go (cases_lt t s.threads)
    where
      none : ThreadPart
      none = record { counts = record { taken = 0; entries = 0; outputs = 0 }; hand = None; stamp = [] }

      go : (t < s.threads) ⊎ (s.threads ≤ t) → slice_index counts t ≡ entries t (log_of w.past)
      go (inl low) =
          counted.each t none (let k = st.master.stands.threads_are in omega (arith, low, k))
          ∙ (st.master.stands.thread t none low).logged
      go (inr high) =
          counted.none t (let k = st.master.stands.threads_are in omega (arith, high, k))
          ∙ sym (none_past_threads s.meaning (inputs_fed s w.fed) s.threads w.past t legal high)

  total_of_past : (counts : List ℕ) (n : ℕ) → HasCounts y.master.threads counts → length counts ≡ 16
      → (sum counts < 2 ^ 64 → n ≡ sum counts) → y.inputs.threads ≤ 16 → y.moves ≤ MOST_MOVES
      → n ≡ length (log_of w.past)
  total_of_past counts n counted long is few moves =
      let threads = ap (λ (f : Fed). f.threads) st.inputs.inputs in
      let all = total_is s.meaning (inputs_fed s w.fed) s.threads w.past counts legal (omega (arith, threads, few)) long
      (counts_are counts counted) in
      let short = log_short w.past in
      let past = st.master.past in
      let made = st.master.moves in
      let most : MOST_MOVES ≤ 2000000 = lit≤ tt in
      is (omega (arith, all, short, past, made, moves, most)) ∙ all

  -- the snapshot of now
  snapshot_now : (moves : ℕ) (copy : Option (Snapshot V))
      → (taken : HasTaken s.meaning y.store.stored y.master moves copy) → moves ≡ length y.schedule
      → IsSnapshot s w.past taken.copy
  snapshot_now moves copy taken count = record {
    stands = taken.stands s.threads w.stored w.past st.snapshots.first.stands st.master.stands st.sound.firm.stored;
    moves_are = taken.moves_are ∙ count ∙ ap length st.master.schedule ∙ made_length w.past;
  }

  -- one that is up is copied
  pub snaps : (store : Snapshots V) (moves n : ℕ) (counts : List ℕ) → y.up ≡ true
      → HasTaken s.meaning y.store.stored y.master moves store.copy → store.stored ≡ y.store.stored
      → moves ≡ length y.schedule → HasCounts y.master.threads counts → length counts ≡ 16
      → (sum counts < 2 ^ 64 → n ≡ sum counts) → y.inputs.threads ≤ 16 → y.moves ≤ MOST_MOVES
      → (next : World V)
      × ComesTo event.Snap (outcome.Copied n) s w next
      × StandsFor m s next (record y { store = store })
  snaps store moves n counts up taken same count counted long is few most = (
    next,
    on,
    record {
      sound = within_sound s w event.Snap (outcome.Copied n) [] next st.sound on;
      within = st.within;
      inputs = record {
        meaning = st.inputs.meaning;
        fractions = st.inputs.fractions;
        inputs = st.inputs.inputs;
        left = st.inputs.left;
        clock = st.inputs.clock;
        generator = st.inputs.generator;
      };
      master = record {
        up = st.master.up;
        stands = st.master.stands;
        schedule = st.master.schedule;
        past = st.master.past;
        moves = st.master.moves;
        bytes = st.master.bytes;
      };
      snapshots = record {
        first = subst (λ (x : Snapshot V). IsSnapshot s w.stored x) (sym same) st.snapshots.first;
        copied = λ moment this. (
          taken.copy,
          taken.is,
          subst (λ (l : List (Step V)). IsSnapshot s l taken.copy) (same_moment w.past moment this)
              (snapshot_now moves store.copy taken count),
        );
        none = λ gone. absurd (cc);
      };
      ended = st.ended;
      guide = st.guide;
      sent = st.sent;
      logger = record {
        epoch = st.logger.epoch;
        holds = st.logger.holds;
        held = st.logger.held;
        waiting = st.logger.waiting;
        released = st.logger.released;
      };
      released = st.released;
    },
  )
    where
      next : World V
      next = record w { copy = Some w.past }

      same_moment : (a b : List (Step V)) → Some a ≡ Some b → a ≡ b
      same_moment a b e = cc

      on : OnWithin s w event.Snap (outcome.Copied n) [] next
      on = (
        (
          inr (
            sym st.master.up ∙ up,
            ap (λ (k : ℕ). outcome.Copied k) (total_of_past counts n counted long is few most),
            refl,
          ),
          refl,
        ),
        st.within,
      )

-- the same, for the parts as they were
pub snap_moves : {P V : Type 0} (meaning : P → Meaning V) (y old : Parts P V) (store : Snapshots V) (moves n : ℕ)
    (counts : List ℕ) → y ≡ old → y.up ≡ true
    → HasTaken (meaning y.program) y.store.stored y.master moves store.copy → store.stored ≡ y.store.stored
    → moves ≡ length y.schedule → HasCounts y.master.threads counts → length counts ≡ 16
    → (sum counts < 2 ^ 64 → n ≡ sum counts) → y.inputs.threads ≤ 16 → y.moves ≤ MOST_MOVES
    → MovesOn (meaning old.program) (ComesTo event.Snap (outcome.Copied n)) old (record y { store = store })
snap_moves {P} {V} meaning y old store moves n counts same up taken kept count counted long is few most =
    subst (λ (z : Parts P V).
    MovesOn (meaning z.program) (ComesTo event.Snap (outcome.Copied n)) z (record y { store = store })) same (
      refl,
      λ s w st.
          snaps (meaning y.program) s w y st store moves n counts up
          (subst (λ (k : Meaning V). HasTaken k y.store.stored y.master moves store.copy) (sym st.inputs.meaning) taken)
          kept count counted long is few most,
    )

-- the parts stay such where a snapshot is made
pub parts_taken : {P V : Type 0} (m : Meaning V) (may_have : ℕ → V → Type 0) (y : Parts P V) (store : Snapshots V)
    (moves : ℕ) → AreParts m may_have y → HasTaken m y.store.stored y.master moves store.copy
    → ForSome store.copy (λ c. FitsProgram m may_have value_of c.master.vars) → store.stored ≡ y.store.stored
    → AreParts m may_have (record y { store = store })
parts_taken {P} {V} m may_have y store moves are taken fits same = record {
  fits = are.fits;
  some_threads = are.some_threads;
  few_threads = are.few_threads;
  master = are.master;
  logger = are.logger;
  sent = are.sent;
  stored_fits = subst (λ (q : Snapshot V). FitsProgram m may_have value_of q.master.vars) (sym same) are.stored_fits;
  copy_fits = fits;
  stored = subst (λ (q : Snapshot V). length q.master.threads ≡ y.inputs.threads) (sym same) are.stored;
  copied = λ q is.
      let e = taken.is in
      let one : taken.copy ≡ q = cc in
      subst (λ (z : Snapshot V). length z.master.threads ≡ y.inputs.threads) one
      (ap length taken.threads_are ∙ are.master);
  few_packets = are.few_packets;
  left = are.left;
  fed = are.fed;
  moves = are.moves;
  bytes = are.bytes;
}
