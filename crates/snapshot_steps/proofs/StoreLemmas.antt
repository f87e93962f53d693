-- A snapshot is stored: what it covers is held no more, and what is due then is released.
use Rattle.std.proofs.Common.{◌≡◌, ℕ, suc, ◌+◌, lit≤, ◌<◌, ◌≤◌, List, [], ◌∷◌, ◌++◌, length, refl, sym, ap, ◌∙◌, subst}
use Rattle.std.proofs.Common.{inl, inr, ◌⊎◌, Option, Some, None, arith, false}
use Rattle.std.specs.Prelude.{slice_index, ◌↔◌, IsSome, nat_le, sum, ◌^◌}
use Rattle.plain_text.specs.declared.limit.TheConstants.{MOST_MOVES}
use Rattle.plain_text.specs.declared.packet.Packet.{Packet}
use Rattle.entry_order.specs.Stamps.{sum_below}
use Rattle.entry_order.proofs.Weights.{sum_below_same, sum_below_list}
use Rattle.plain_machine.proofs.LoggedEffects.{entry_thread}
use Rattle.box_program.specs.Hands.{FitsProgram}
use Rattle.master_core.specs.Mastered.{value_of}
use Rattle.output_releases.specs.Released.{NotesReleased}
use Rattle.input_logger.specs.Inputs.{Fed}
use Rattle.plain_text.specs.declared.kind.Kind.TheVariants.{Log, Out}
use Rattle.entry_order.specs.Log.{Entry, IsLog, IsIn, entries}
use Rattle.entry_order.specs.Closed.{IsMissing, IsFrontier}
use Rattle.entry_order.specs.Stamps.{IsOutputStamp}
use Rattle.entry_order.proofs.Missing.{due_within, within_due}
use Rattle.access_log.specs.declared.entry.StampedEntry.{StampedEntry}
use Rattle.access_log.specs.declared.entry.Output.{Output}
use Rattle.access_log.specs.Held.{lane, entry_at, IsKnown as IsKnownLane}
use Rattle.access_log.specs.Lanes.{CoversUpTo}
use Rattle.dup_filter.specs.Numbers.{WasMarked}
use Rattle.link_store.specs.declared.address.Address.{Address}
use Rattle.link_store.specs.Links.{address, frame_at}
use Rattle.plain_machine.specs.Program.{Meaning}
use Rattle.plain_machine.specs.History.{Act, Took, Did, Emitted, Ended, Step, log_more, log_of, IsHistory}
use Rattle.plain_machine.specs.Agree.{IsEarlier}
use Rattle.plain_machine.proofs.Histories.{earlier_log, earlier_history}
use Rattle.std.proofs.lemmas.Bool.{cases_lt}
use Rattle.std.proofs.lemmas.Bool.Decides.{nat_tests}
use Rattle.master_core.specs.declared.parts.ThreadPart.{ThreadPart}
use Rattle.master_core.specs.Holding.{held_entries, HoldsOf}
use Rattle.master_core.specs.Stepping.{emission_of_output}
use Rattle.master_core.specs.Deltas.{HasCounts}
use Rattle.master_core.proofs.Frontiers.{frontier_of, within_frontiers, frontiers_within, frontiers_are_defined}
use Rattle.master_core.proofs.Holdings.{covering_holds, covers_each, covering_keeps}
use Rattle.master_core.proofs.Moments.{moment_log, moment_entries, none_past_threads}
use Rattle.master_core.proofs.CountedEntries.{entries_sum}
use Rattle.output_logger.specs.Logger.{Logger, IsDue, ReleasesOnce, Parts as LoggerParts}
use Rattle.recovery_world.specs.World.{Setting, Sent, World, inputs_fed}
use Rattle.recovery_world.specs.Events.{On, MayGo, Parts as WorldParts, entries_of_line}
use Rattle.output_releases.specs.FromSystemParts.{Parts, AreParts}
use Rattle.output_releases.specs.FromSystemParts.{AreOutputs, IsSentEntry, IsSentOutput, IsSnapshot, StandsFor}
use Rattle.recovery_world.specs.declared.event.Event.TheVariants as event
use Rattle.recovery_world.specs.declared.event.Outcome.{Outcome}
use Rattle.recovery_world.specs.declared.event.Outcome.TheVariants as outcome
use Rattle.recovery_laws.proofs.KeptWorlds.{line_entries, entries_line, within_sound}
use Rattle.event_replies.specs.declared.reply.Reply.{Reply}
use Rattle.link_store.specs.Sending.{Sending, length_at, lengths_of, entry_address, output_address, HasEntryFrame}
use Rattle.link_store.specs.Sending.{HasOutputFrame, ForgetsCovered}
use Rattle.output_releases.specs.Released.{names_of}
use Rattle.output_releases.proofs.FromSystemParts.{line_log, past_in, past_good, holds_log, holds_moves}
use Rattle.output_releases.proofs.FromSystemParts.{entry_frame_stays, output_frame_stays}
use Rattle.output_releases.proofs.FromSystemParts.{marks_stay}
use Rattle.output_releases.proofs.OutputLists.{parts_world, names_as, names_more, noted_more, releases_as}
use Rattle.output_releases.proofs.Answering.{AnswersTo}
use Rattle.snapshot_store.specs.Stored.{Snapshot, Snapshots}
use Rattle.plain_machine.proofs.OneLine.{earlier_length}

-- How many entries there are in all

-- no more than moves
pub log_short : {V : Type 0} (steps : List (Step V)) → length (log_of steps) ≤ length steps
log_short [] = omega arith
log_short {V} (x ∷ steps) = go x.act (log_short steps)
  where
    go : (a : Act V) → length (log_of steps) ≤ length steps → length (log_more a (log_of steps)) ≤ suc (length steps)
    go (Took k) h = omega (arith, h)
    go (Did e left) h = omega (arith, h)
    go (Emitted o) h = omega (arith, h)
    go (Ended k) h = omega (arith, h)

pub total_is : {V : Type 0} (m : Meaning V) (inputs : ℕ → List Packet) (threads : ℕ) (steps : List (Step V))
    (counts : List ℕ) → IsHistory m inputs threads steps → threads ≤ 16 → length counts ≡ 16
    → ((t : ℕ) → slice_index counts t ≡ entries t (log_of steps)) → sum counts ≡ length (log_of steps)
total_is m inputs threads steps counts hist few long are =
    sym (sum_below_list counts)
    ∙ ap (λ (k : ℕ). sum_below k (λ u. slice_index counts u)) long
    ∙ sum_below_same 16 (λ u. slice_index counts u) (λ t. entries t (log_of steps)) (λ u low. are u)
    ∙ entries_sum 16 (log_of steps)
    (λ e i. let k = entry_thread m inputs threads steps e hist i in omega (arith, k, few))

module _ {P V : Type 0} (m : Meaning V) (s : Setting V) (w : World V) (y : Parts P V) (st : StandsFor m s w y)
    (copy : List (Step V)) (copy_is : w.copy ≡ Some copy) where
  legal : IsHistory s.meaning (inputs_fed s w.fed) s.threads w.past
  legal = st.sound.firm.legal

  moments : IsEarlier w.stored copy × IsEarlier copy w.past
  moments = st.sound.firm.copied copy copy_is

  good : IsLog (log_of copy)
  good = moment_log s.meaning (inputs_fed s w.fed) s.threads w.past copy legal moments.1

  copy_in : (e : Entry) → IsIn e (log_of copy) → IsIn e (line_log s w st.sound.firm)
  copy_in e i = past_in s w st.sound.firm e (earlier_log copy w.past e moments.1 i)

  stored_copy : (e : Entry) → IsIn e (log_of w.stored) → IsIn e (log_of copy)
  stored_copy e i = earlier_log w.stored copy e moments.0 i

  -- how many entries of each thread the snapshot has
  module _ (snap : Snapshot V) (has : IsSnapshot s copy snap) (counts : List ℕ)
      (counted : HasCounts snap.master.threads counts) where
    pub counts_are : (t : ℕ) → slice_index counts t ≡ entries t (log_of copy)
    counts_are t = go (cases_lt t s.threads)
      where
        none : ThreadPart
        none = record { counts = record { taken = 0; entries = 0; outputs = 0 }; hand = None; stamp = [] }

        go : (t < s.threads) ⊎ (s.threads ≤ t) → slice_index counts t ≡ entries t (log_of copy)
        go (inl low) =
            counted.each t none (let k = has.stands.threads_are in omega (arith, low, k))
            ∙ (has.stands.thread t none low).logged
        go (inr high) =
            counted.none t (let k = has.stands.threads_are in omega (arith, high, k))
            ∙ sym (none_past_threads s.meaning (inputs_fed s w.fed) s.threads copy t copy_legal high)
          where
            copy_legal : IsHistory s.meaning (inputs_fed s w.fed) s.threads copy
            copy_legal = earlier_history s.meaning (inputs_fed s w.fed) s.threads copy w.past moments.1 legal

    -- and in all
    pub total_of : (n : ℕ) → length counts ≡ 16 → (sum counts < 2 ^ 64 → n ≡ sum counts) → y.inputs.threads ≤ 16
        → y.moves ≤ MOST_MOVES → n ≡ length (log_of copy)
    total_of n long is few moves =
        let threads = ap (λ (f : Fed). f.threads) st.inputs.inputs in
        let all = total_is s.meaning (inputs_fed s w.fed) s.threads copy counts
        (earlier_history s.meaning (inputs_fed s w.fed) s.threads copy w.past moments.1 legal)
        (omega (arith, threads, few)) long counts_are in
        let short = log_short copy in
        let earlier = earlier_length copy w.past moments.1 in
        let past = st.master.past in
        let made = st.master.moves in
        let most : MOST_MOVES ≤ 2000000 = lit≤ tt in
        is (omega (arith, all, short, earlier, past, made, moves, most)) ∙ all

    -- no lane covers more
    pub covered_low : (t : ℕ) → (lane y.logger.held t).covered ≤ slice_index counts t
    covered_low t =
        let a = st.logger.holds.covered t in
        let b = moment_entries t copy w.stored moments.0 in
        let c = counts_are t in
        omega (arith, a, b, c)

    module _ (now : Logger) (long : length now.held ≡ length y.logger.held)
        (lanes : length y.logger.held ≡ y.inputs.threads)
        (covers : (t : ℕ) → t < length y.logger.held
        → CoversUpTo (lane y.logger.held t) (lane now.held t) (slice_index counts t)) where
      count_past : (t : ℕ) → length y.logger.held ≤ t → entries t (log_of copy) ≡ 0
      count_past t high =
          none_past_threads s.meaning (inputs_fed s w.fed) s.threads copy t
          (earlier_history s.meaning (inputs_fed s w.fed) s.threads copy w.past moments.1 legal)
          (let f = ap (λ (x : Fed). x.threads) st.inputs.inputs in omega (arith, high, lanes, f))

      covers_all : (t : ℕ) → CoversUpTo (lane y.logger.held t) (lane now.held t) (entries t (log_of copy))
      covers_all =
          covers_each (log_of copy) y.logger.held now.held counts long count_past (λ t low. counts_are t) covers

      pub holds : HoldsOf (entries_of_line w) (log_of copy) now.held
      holds = covering_holds (entries_of_line w) (log_of w.stored) (log_of copy) y.logger.held now.held
          st.logger.holds covers_all

      pub held_is : (e : Entry) → IsIn e (held_entries now.held) ↔ (IsIn e w.held × (IsIn e (log_of copy) → ⊥))
      held_is e = (
        λ i. let h = k.0 i in (((st.logger.held e).0 h.0).0, h.1),
        λ h. k.1 ((st.logger.held e).1 (h.0, λ i. h.1 (stored_copy e i)), h.1),
      )
        where
          k : IsIn e (held_entries now.held) ↔ (IsIn e (held_entries y.logger.held) × (IsIn e (log_of copy) → ⊥))
          k = covering_keeps (line_log s w st.sound.firm) (log_of w.stored) (log_of copy) y.logger.held now.held e
              st.sound.firm.log good copy_in (holds_log s w st.sound.firm y.logger.held st.logger.holds) covers_all

      -- how far the entries of the past are held then, or stored
      reaches : IsFrontier (log_of w.past) (log_of copy) (held_entries now.held) (frontier_of now.held)
      reaches = record {
        below = λ e i low. all.below e (past_in s w st.sound.firm e i) low;
        next = λ e i at. all.next e (past_in s w st.sound.firm e i) at;
      }
        where
          all : IsFrontier (line_log s w st.sound.firm) (log_of copy) (held_entries now.held) (frontier_of now.held)
          all =
              frontiers_are_defined (line_log s w st.sound.firm) (log_of copy) now.held st.sound.firm.log good copy_in
              (holds_moves (entries_of_line w) (line_log s w st.sound.firm) (log_of copy) now.held
              (λ f k. line_entries s w st.sound.firm f k) (λ f k. entries_line s w st.sound.firm f k) holds)

      abbrev then_stored : World V
      then_stored = record w { stored = copy; copy = None }

      miss_out : (u k : ℕ) (e : Entry) → IsMissing (log_of w.past) (log_of copy) (held_entries now.held) u k e
          → IsMissing (log_of w.past) (log_of copy) w.held u k e
      miss_out u k e h = record {
        precedes = h.precedes;
        not_held = λ i. h.not_held ((held_is e).1 (i, h.not_stored));
        not_stored = h.not_stored;
      }

      miss_in : (u k : ℕ) (e : Entry) → IsMissing (log_of w.past) (log_of copy) w.held u k e
          → IsMissing (log_of w.past) (log_of copy) (held_entries now.held) u k e
      miss_in u k e h =
          record { precedes = h.precedes; not_held = λ i. h.not_held ((held_is e).0 i).0; not_stored = h.not_stored }

      due_is : (o : Output) (z : Sent) → emission_of_output o ≡ z.emission
          → IsOutputStamp (log_of w.past) z.emission.thread z.after (λ u. slice_index o.stamp u)
          → IsDue now.held o ↔ MayGo then_stored z
      due_is o z is stamp = (
        λ within e miss.
            due_within (log_of w.past) (log_of copy) (held_entries now.held) z.emission.thread z.after
            (λ u. slice_index o.stamp u) (frontier_of now.held) (past_good s w st.sound.firm) stamp reaches
            (within_frontiers now.held o.stamp within) e (miss_in z.emission.thread z.after e miss),
        λ may.
            frontiers_within now.held o.stamp (within_due (log_of w.past) (log_of copy) (held_entries now.held)
            z.emission.thread z.after (λ u. slice_index o.stamp u) (frontier_of now.held) (past_good s w st.sound.firm)
            stamp reaches (λ e miss. may e (miss_out z.emission.thread z.after e miss))),
      )

      -- what was known is known
      known_on : (t n : ℕ) → IsKnownLane (lane y.logger.held t) n → IsKnownLane (lane now.held t) n
      known_on t n (inl low) =
          let a = st.logger.holds.covered t in
          let b = moment_entries t copy w.stored moments.0 in
          let c = (covers_all t).covered in
          inl (omega (arith, low, a, b, c))
      known_on t n (inr there) = go (cases_lt (entries t (log_of copy)) n)
        where
          go : (entries t (log_of copy) < n) ⊎ (n ≤ entries t (log_of copy)) → IsKnownLane (lane now.held t) n
          go (inr low) = let c = (covers_all t).covered in inl (omega (arith, low, c))
          go (inl high) =
              let test : nat_le n (entries t (log_of copy)) ≡ false = grind (arith, nat_tests) in
              let same : entry_at (lane now.held t) n ≡ entry_at (lane y.logger.held t) n =
              (covers_all t).held n ∙ rw test refl in
              inr (subst (λ (o : Option StampedEntry). IsSome o) (sym same) there)

      module _ (links : Sending) (forgets : ForgetsCovered y.sent links counts) where
        entry_on : (e : Entry) → IsSentEntry (log_of w.past) y.logger.held y.sent e
            → IsSentEntry (log_of w.past) now.held links e
        entry_on e h = record {
          stamped = h.stamped;
          plain = h.plain;
          stamp = h.stamp;
          size = ap (λ (l : List (List ℕ)). length_at l e.thread e.number) forgets.entries ∙ h.size;
          there = go (forgets.each (entry_address y.sent e.thread e.number)) h.there;
        }
          where
            at_new : frame_at links.frames (entry_address links e.thread e.number)
                ≡ frame_at links.frames (entry_address y.sent e.thread e.number)
            at_new = ap (λ (k : ℕ). frame_at links.frames (address k Log e.thread e.number)) forgets.epoch

            go : (frame_at links.frames (entry_address y.sent e.thread e.number)
                ≡ frame_at y.sent.frames (entry_address y.sent e.thread e.number))
                ⊎ ((frame_at links.frames (entry_address y.sent e.thread e.number) ≡ None)
                × (y.sent.epoch ≡ y.sent.epoch) × (Log ≡ Log) × (e.number ≤ slice_index counts e.thread))
                → HasEntryFrame y.sent h.stamped
                ⊎ ((frame_at y.sent.frames (entry_address y.sent e.thread e.number) ≡ None)
                × IsKnownLane (lane y.logger.held e.thread) e.number)
                → HasEntryFrame links h.stamped
                ⊎ ((frame_at links.frames (entry_address links e.thread e.number) ≡ None)
                × IsKnownLane (lane now.held e.thread) e.number)
            go (inr gone) b =
                let c = (covers_all e.thread).covered in
                let k = counts_are e.thread in
                let low = gone.3 in
                inr (at_new ∙ gone.0, inl (omega (arith, c, k, low)))
            go (inl same) (inl frame) =
                inl (entry_frame_stays y.sent links h.stamped forgets.epoch forgets.threads
                (subst (λ (f : Entry).
                frame_at links.frames (entry_address y.sent f.thread f.number)
                ≡ frame_at y.sent.frames (entry_address y.sent f.thread f.number)) (sym h.plain) same) frame)
            go (inl same) (inr (none, known)) = inr (at_new ∙ same ∙ none, known_on e.thread e.number known)

        out_frames : (t n : ℕ)
            → frame_at links.frames (output_address y.sent t n) ≡ frame_at y.sent.frames (output_address y.sent t n)
        out_frames t n = go (forgets.each (output_address y.sent t n))
          where
            go : (frame_at links.frames (output_address y.sent t n)
                ≡ frame_at y.sent.frames (output_address y.sent t n))
                ⊎ ((frame_at links.frames (output_address y.sent t n) ≡ None) × (y.sent.epoch ≡ y.sent.epoch)
                × (Out ≡ Log) × (n ≤ slice_index counts t))
                → frame_at links.frames (output_address y.sent t n) ≡ frame_at y.sent.frames (output_address y.sent t n)
            go (inl same) = same
            go (inr k) = absurd (let kind = k.2 in cc)

        output_on : (o : Sent) → ((t n : ℕ) → WasMarked y.logger.released t n → WasMarked now.released t n)
            → IsSentOutput (log_of w.past) y.logger.released y.sent o
            → IsSentOutput (log_of w.past) now.released links o
        output_on o marks h = record {
          stamped = h.stamped;
          plain = h.plain;
          stamp = h.stamp;
          size = ap (λ (l : List (List ℕ)). length_at l o.emission.thread o.emission.number) forgets.outputs ∙ h.size;
          there = go h.there;
        }
          where
            go : HasOutputFrame y.sent h.stamped
                ⊎ ((frame_at y.sent.frames (output_address y.sent o.emission.thread o.emission.number) ≡ None)
                × WasMarked y.logger.released o.emission.thread o.emission.number)
                → HasOutputFrame links h.stamped
                ⊎ ((frame_at links.frames (output_address links o.emission.thread o.emission.number) ≡ None)
                × WasMarked now.released o.emission.thread o.emission.number)
            go (inl frame) = inl (output_frame_stays y.sent links h.stamped forgets.epoch forgets.threads
                (out_frames h.stamped.thread h.stamped.number) frame)
            go (inr (none, was)) = inr (
              ap (λ (k : ℕ). frame_at links.frames (address k Out o.emission.thread o.emission.number)) forgets.epoch
                  ∙ out_frames o.emission.thread o.emission.number
                  ∙ none,
              marks o.emission.thread o.emission.number was,
            )

        later_on : (a : Address) → w.epoch < a.epoch → frame_at links.frames a ≡ None
        later_on a later = go (forgets.each a)
          where
            go : (frame_at links.frames a ≡ frame_at y.sent.frames a)
                ⊎ ((frame_at links.frames a ≡ None) × (a.epoch ≡ y.sent.epoch) × (a.kind ≡ Log)
                × (a.number ≤ slice_index counts a.thread)) → frame_at links.frames a ≡ None
            go (inl same) = same ∙ st.sent.none_later a later
            go (inr k) = k.0

        -- the snapshot is stored, and what is due then is released
        pub stores : (store : Snapshots V) (before out go : List Output) (reply : Reply) → out ≡ before ++ go
            → store.stored ≡ snap → store.copy ≡ None → now.epoch ≡ y.logger.epoch
            → LoggerParts (IsDue now.held) y.logger.waiting go now.waiting
            → ReleasesOnce y.logger.released now.released go
            → reply ≡ record { outcome = outcome.Covers (length (log_of copy)); released = names_of go }
            → AnswersTo m s w event.Store reply before out
            (record y { store = store; sent = links; logger = now; released = y.released ++ names_of go })
        stores store before out go reply appends stored none epoch parts once is = (
          next,
          (
            (
              r.0,
              (
                subst (λ (q : Outcome). On s w event.Store q r.0 next) (sym (ap (λ (k : Reply). k.outcome) is)) on,
                st.within,
              ),
              ap (λ (k : Reply). k.released) is ∙ names_as (log_of w.past) go r.0 r.3,
            ),
            releases_as (log_of w.past) before out go w next r.0 r.3 appends refl,
          ),
          record {
            sound =
                within_sound s w event.Store (outcome.Covers (length (log_of copy))) r.0 next st.sound (on, st.within);
            within = st.within;
            inputs = record {
              meaning = st.inputs.meaning;
              fractions = st.inputs.fractions;
              inputs = st.inputs.inputs;
              left = st.inputs.left;
              clock = st.inputs.clock;
              generator = st.inputs.generator;
            };
            master = record {
              up = st.master.up;
              stands = st.master.stands;
              schedule = st.master.schedule;
              past = st.master.past;
              moves = st.master.moves;
              bytes = st.master.bytes;
            };
            snapshots = record {
              first = subst (λ (x : Snapshot V). IsSnapshot s copy x) (sym stored) has;
              copied = λ moment gone. absurd (cc);
              none = λ gone. none;
            };
            ended = st.ended;
            guide = st.guide;
            sent = record {
              epoch = forgets.epoch ∙ st.sent.epoch;
              entry_sent = λ e i. entry_on e (st.sent.entry_sent e i);
              output_sent = λ o sends. output_on o marks (st.sent.output_sent o sends);
              entry_counts =
                  λ u. ap (λ (l : List (List ℕ)). length (lengths_of l u)) forgets.entries ∙ st.sent.entry_counts u;
              output_counts =
                  λ u. ap (λ (l : List (List ℕ)). length (lengths_of l u)) forgets.outputs ∙ st.sent.output_counts u;
              none_later = later_on;
            };
            logger = record {
              epoch = epoch ∙ st.logger.epoch;
              holds = holds;
              held = held_is;
              waiting = r.4;
              released = noted_more (log_of w.past) y.logger.released now.released go w.released r.0 once r.3
                  st.logger.released;
            };
            released = names_more w y (log_of w.past) go r.0 st.released r.3;
          },
        )
          where
            marks : (t n : ℕ) → WasMarked y.logger.released t n → WasMarked now.released t n
            marks = marks_stay y.logger.released now.released go once

            r : (freed : List Sent) × (still : List Sent) × WorldParts (MayGo then_stored) w.waiting freed still
                × AreOutputs (log_of w.past) go freed × AreOutputs (log_of w.past) now.waiting still
            r = parts_world (log_of w.past) (IsDue now.held) (MayGo then_stored) due_is y.logger.waiting w.waiting go
                now.waiting st.logger.waiting parts

            next : World V
            next = record w { stored = copy; copy = None; waiting = r.1; released = w.released ++ r.0 }

            on : On s w event.Store (outcome.Covers (length (log_of copy))) r.0 next
            on = inr (copy, copy_is, refl, record { stay = r.1; parts = r.2; new_is = refl })

-- The calls of a store, and what they tell.

pub store_same : {P V : Type 0} (view : Parts P V) (store : Snapshots V) → store ≡ view.store
    → view ≡ record view { store = store }
store_same {P} {V} view store is = ap (λ (q : Snapshots V). record view { store = q }) (sym is)

-- no snapshot is under way in the world where none is in memory
pub no_copy : {P V : Type 0} (m : Meaning V) (s : Setting V) (w : World V) (y : Parts P V) → StandsFor m s w y
    → y.store.copy ≡ None → w.copy ≡ None
no_copy {P} {V} m s w y st none = go w.copy refl
  where
    go : (o : Option (List (Step V))) → w.copy ≡ o → o ≡ None
    go None is = refl
    go (Some moment) is = let there = (st.snapshots.copied moment is).1 in absurd (cc)

-- and one is where one is
pub some_copy : {P V : Type 0} (m : Meaning V) (s : Setting V) (w : World V) (y : Parts P V) (x : Snapshot V)
    → StandsFor m s w y → y.store.copy ≡ Some x
    → (copy : List (Step V)) × (w.copy ≡ Some copy) × IsSnapshot s copy x
some_copy {P} {V} m s w y x st there = go w.copy refl
  where
    go : (o : Option (List (Step V))) → w.copy ≡ o
        → (copy : List (Step V)) × (w.copy ≡ Some copy) × IsSnapshot s copy x
    go None is = let none = st.snapshots.none is in absurd (cc)
    go (Some moment) is =
        let k = st.snapshots.copied moment is in
        let same : k.0 ≡ x = let a = k.1 in cc in
        (moment, is, subst (λ (q : Snapshot V). IsSnapshot s moment q) same k.2)

-- a snapshot is under way where its counts came
pub copy_there : {V : Type 0} (copy : Option (Snapshot V)) (r : Option (List ℕ)) (counts : List ℕ)
    → (r ≡ None) ↔ (copy ≡ None) → r ≡ Some counts → (x : Snapshot V) × (copy ≡ Some x)
copy_there None r counts none is = let gone = none.1 refl in absurd (cc)
copy_there (Some x) r counts none is = (x, refl)

-- the parts stay such where a snapshot is stored
pub parts_stored : {P V : Type 0} (m : Meaning V) (may_have : ℕ → V → Type 0) (y : Parts P V) (x : Snapshot V)
    (store : Snapshots V) (links : Sending) (now : Logger) (names : List (ℕ × ℕ)) → AreParts m may_have y
    → y.store.copy ≡ Some x → store.stored ≡ x → store.copy ≡ None → links.threads ≡ y.sent.threads
    → length now.held ≡ length y.logger.held
    → AreParts m may_have (record y { store = store; sent = links; logger = now; released = names })
parts_stored {P} {V} m may_have y x store links now names are there stored none sent held = record {
  fits = are.fits;
  some_threads = are.some_threads;
  few_threads = are.few_threads;
  master = are.master;
  logger = held ∙ are.logger;
  sent = sent ∙ are.sent;
  stored_fits =
      subst (λ (q : Snapshot V). FitsProgram m may_have value_of q.master.vars) (sym stored) (are.copy_fits x there);
  copy_fits = λ q is. absurd (cc);
  stored = subst (λ (q : Snapshot V). length q.master.threads ≡ y.inputs.threads) (sym stored) (are.copied x there);
  copied = λ q is. absurd (cc);
  few_packets = are.few_packets;
  left = are.left;
  fed = are.fed;
  moves = are.moves;
  bytes = are.bytes;
}

-- what was released is noted and listed
pub noted_stored : {P V : Type 0} (view now new : Parts P V) (store : Snapshots V) (links : Sending) (logger : Logger)
    (outputs go : List Output) (list : List (ℕ × ℕ)) → view ≡ now → outputs ≡ go
    → NotesReleased outputs list (record view { store = store; sent = links; logger = logger }) new
    → (list ≡ names_of go)
    × (record view { store = store; sent = links; logger = logger; released = view.released ++ names_of go } ≡ new)
noted_stored {P} {V} view now new store links logger outputs go list same is noted = (
  names,
  ap (λ (l : List (ℕ × ℕ)). record view { store = store; sent = links; logger = logger; released = view.released ++ l })
      (sym names)
      ∙ sym noted.new_is,
)
  where
    names : list ≡ names_of go
    names = noted.list_is ∙ ap names_of is
