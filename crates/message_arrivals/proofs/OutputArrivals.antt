-- An output arrives at the output logger of a system: it stands for the world after it.
use Rattle.std.proofs.Common.{◌≡◌, ℕ, ◌+◌, ◌<◌, ◌≤◌, ◌≢◌, List, [], ◌∷◌, ◌++◌, refl, sym, ap, ◌∙◌, subst, inl, inr, ◌⊎◌}
use Rattle.std.proofs.Common.{Option, Some, None, Result, Ok, arith}
use Rattle.std.specs.Prelude.{slice_index, ◌↔◌}
use Rattle.std.proofs.lemmas.List.{append-nil}
use Rattle.plain_text.specs.declared.memory.NoMemory.{NoMemory}
use Rattle.entry_order.specs.Log.{Entry, IsLog, IsIn}
use Rattle.entry_order.specs.Closed.{IsMissing, IsFirstMissing}
use Rattle.entry_order.specs.Stamps.{IsOutputStamp}
use Rattle.entry_order.proofs.Missing.{due_within, first_missing}
use Rattle.access_log.specs.declared.entry.Output.{Output}
use Rattle.access_log.specs.Held.{Lane, IsFirstMissing as IsFirstMissingLane}
use Rattle.plain_machine.specs.declared.emission.Emission.{Emission}
use Rattle.plain_machine.specs.Program.{Meaning}
use Rattle.plain_machine.specs.History.{log_of, sent_of, outputs, IsHistory}
use Rattle.plain_machine.specs.Agree.{SendsAfter}
use Rattle.plain_machine.proofs.Histories.{history_log, earlier_log}
use Rattle.master_core.specs.Holding.{held_entries, HoldsOf}
use Rattle.master_core.specs.Stepping.{emission_of_output}
use Rattle.master_core.proofs.Frontiers.{frontier_of, frontier_is, within_frontiers}
use Rattle.master_core.proofs.Moments.{moment_log}
use Rattle.dup_filter.specs.Numbers.{Numbers, WasMarked}
use Rattle.output_logger.specs.declared.took.OutputTook.{OutputTook}
use Rattle.output_logger.specs.declared.took.OutputTook.TheVariants as took_of
use Rattle.output_logger.specs.Logger.{Logger, IsDue, ReleasesOnce, appended, HasArrived as HasArrivedThere}
use Rattle.output_logger.proofs.NameLemmas.{appended_append}
use Rattle.recovery_world.specs.declared.event.Event.TheVariants as event
use Rattle.recovery_world.specs.declared.event.Outcome.{Outcome}
use Rattle.recovery_world.specs.declared.event.Outcome.TheVariants as outcome
use Rattle.recovery_world.specs.World.{Setting, Sent, World, inputs_fed}
use Rattle.recovery_world.specs.Events.{HasNumber, IsOutputOf, HasArrived, IsAmong, MayGo, On, entries_of_line}
use Rattle.recovery_world.specs.Files.{sent_names}
use Rattle.output_releases.proofs.FromRecoveryLaws.{within_sound}
use Rattle.output_releases.proofs.FromRecoveryLaws.{number_high}
use Rattle.output_releases.specs.FromEventReplies.{Reply}
use Rattle.link_store.specs.Sending.{Sending, output_address, HasOutputFrame}
use Rattle.output_releases.specs.FromSystemParts.{Parts}
use Rattle.output_releases.specs.FromSystemParts.{IsSentEntry, IsSentOutput, AreOutputs, StandsFor}
use Rattle.output_releases.proofs.OutputLists.{outputs_more, named_as, noted_more, releases_as, sent_names_both}
use Rattle.output_releases.proofs.ReleasedLists.{releases_none}
use Rattle.output_releases.proofs.FromSystemParts.{output_from_one}
use Rattle.output_releases.proofs.FromSystemParts.{there_sent}
use Rattle.output_releases.proofs.FromSystemParts.{frontiers}
use Rattle.output_releases.proofs.FromSystemParts.{marks_stay}
use Rattle.link_store.specs.Links.{frame_at}
use Rattle.output_releases.proofs.Answering.{AnswersTo, in_setting, stays}
use Rattle.message_arrivals.specs.Arriving.{GoesNext}

-- the output of the past that this one is, with the stamp of its predecessors
pub record IsSentByPast {V : Type 0} (w : World V) (t j : ℕ) (x : Output) : Type 0 where
  pub sent : Sent
  pub plain : emission_of_output x ≡ sent.emission
  pub stamp : IsOutputStamp (log_of w.past) sent.emission.thread sent.after (λ u. slice_index x.stamp u)
  pub sends : SendsAfter w.past sent.emission sent.after
  pub named : HasNumber t j sent

not_both : (found : Option Output) (x : Output) → found ≡ None → found ≡ Some x → ⊥
not_both found x none some = cc

same_some : (found : Option Output) (x z : Output) → found ≡ Some x → found ≡ Some z → z ≡ x
same_some found x z a b = cc

-- its frame is on the links
pub record IsOnLinks {V : Type 0} (w : World V) (links : Sending) (t j : ℕ) : Type 0 where
  pub output : Output
  pub frame : HasOutputFrame links output
  pub thread : output.thread ≡ t
  pub number : output.number ≡ j
  pub of : IsSentByPast w t j output

-- what is found of it is the output, and nothing is missing for it
module _ {V : Type 0} (w : World V) (links : Sending) (l : Logger) (t j : ℕ) (there : IsOnLinks w links t j)
    (found : Option Output)
    (gives : (o : Output) → HasOutputFrame links o → o.thread ≡ t → o.number ≡ j → found ≡ Some o) where
  found_there : found ≡ Some there.output
  found_there = gives there.output there.frame there.thread there.number

  pub not_none : found ≡ None → ⊥
  not_none none = not_both found there.output none found_there

  pub taken_is : (x : Output) → found ≡ Some x → GoesNext links l t j → IsSentByPast w t j x × IsDue l.held x
  taken_is x some goes =
      let same = same_some found x there.output some found_there in (
        subst (λ (z : Output). IsSentByPast w t j z) same there.of,
        subst (λ (z : Output). IsDue l.held z) same
            (goes.due there.output there.frame there.thread there.number),
      )

-- an output that was sent is so, where more were released
more_released : (log : List Entry) (sent : Sending) (noted now_noted : List Numbers) (o : Sent)
    → ((t n : ℕ) → WasMarked noted t n → WasMarked now_noted t n) → IsSentOutput log noted sent o
    → IsSentOutput log now_noted sent o
more_released log sent noted now_noted o marks h =
    record { stamped = h.stamped; plain = h.plain; stamp = h.stamp; size = h.size; there = go h.there }
  where
    go : HasOutputFrame sent h.stamped
        ⊎ ((frame_at sent.frames (output_address sent o.emission.thread o.emission.number) ≡ None)
        × WasMarked noted o.emission.thread o.emission.number)
        → HasOutputFrame sent h.stamped
        ⊎ ((frame_at sent.frames (output_address sent o.emission.thread o.emission.number) ≡ None)
        × WasMarked now_noted o.emission.thread o.emission.number)
    go (inl k) = inl k
    go (inr (none, was)) = inr (none, marks o.emission.thread o.emission.number was)

-- nothing more was noted
noted_same : (old new : List Numbers) (before : List Sent) → ReleasesOnce old new []
    → ((t n : ℕ) → WasMarked old t n ↔ ((o : Sent) × HasNumber t n o × IsAmong o before)) → (t n : ℕ)
    → WasMarked new t n ↔ ((o : Sent) × HasNumber t n o × IsAmong o before)
noted_same old new before once noted t n =
    (λ k. (noted t n).0 (to ((once.marked t n).0 k)), λ h. (once.marked t n).1 (inr ((noted t n).1 h)))
  where
    to : ⊥ ⊎ WasMarked old t n → WasMarked old t n
    to (inl never) = absurd never
    to (inr k) = k

module _ {P V : Type 0} (m : Meaning V) (s : Setting V) (w : World V) (y : Parts P V) (st : StandsFor m s w y) (t j : ℕ)
    (low : t < y.inputs.threads) where
  legal : IsHistory s.meaning (inputs_fed s w.fed) s.threads w.past
  legal = st.sound.firm.legal

  good : IsLog (log_of w.past)
  good = history_log s.meaning (inputs_fed s w.fed) s.threads w.past legal

  good_stored : IsLog (log_of w.stored)
  good_stored = moment_log s.meaning (inputs_fed s w.fed) s.threads w.past w.stored legal st.sound.firm.stored

  stored_in : (e : Entry) → IsIn e (log_of w.stored) → IsIn e (log_of w.past)
  stored_in e i = earlier_log w.stored w.past e st.sound.firm.stored i

  here : t < s.threads
  here = in_setting m s w y st t low

  -- there is no output of this number
  pub out_none : (reply : Reply) (out : List Output) → reply ≡ record { outcome = outcome.Nothing; released = [] }
      → (j ≡ 0) ⊎ (outputs t (sent_of w.past) < j) → AnswersTo m s w (event.Out t j) reply out out y
  out_none reply out is none =
      stays m s w y st (event.Out t j) outcome.Nothing reply out is (inr (here, (inl (never none, refl, refl), refl)))
    where
      never : (j ≡ 0) ⊎ (outputs t (sent_of w.past) < j) → (o : Sent) → IsOutputOf w t j o → ⊥
      never (inl zero) o of =
          let k = output_from_one s.meaning (inputs_fed s w.fed) s.threads w.past o.emission o.after legal of.0 in
          absurd (omega (arith, k, of.1.1, zero))
      never (inr high) o of =
          let k = number_high s.meaning (inputs_fed s w.fed) s.threads w.past o.emission o.after legal of.0 in
          let same : outputs o.emission.thread (sent_of w.past) ≡ outputs t (sent_of w.past) =
          ap (λ (u : ℕ). outputs u (sent_of w.past)) of.1.0 in
          absurd (omega (arith, k, of.1.1, high, same))

  -- it is that of its frame
  pub out_is : (found : Option Output) (x : Output)
      → ((o : Output) → HasOutputFrame y.sent o → o.thread ≡ t → o.number ≡ j → found ≡ Some o)
      → (frame_at y.sent.frames (output_address y.sent t j) ≡ None → found ≡ None) → found ≡ Some x → 1 ≤ j
      → j ≤ outputs t (sent_of w.past) → IsSentByPast w t j x
  out_is found x gives forgotten some from_one few = go (there_sent m s w y st t j from_one few)
    where
      go : (o : Sent) × SendsAfter w.past o.emission o.after × HasNumber t j o
          × IsSentOutput (log_of w.past) y.logger.released y.sent o → IsSentByPast w t j x
      go (o, sends, named, sent) = at sent.there
        where
          of : IsSentByPast w t j sent.stamped
          of = record { sent = o; plain = sent.plain; stamp = sent.stamp; sends = sends; named = named }

          at : HasOutputFrame y.sent sent.stamped
              ⊎ ((frame_at y.sent.frames (output_address y.sent o.emission.thread o.emission.number) ≡ None)
              × WasMarked y.logger.released o.emission.thread o.emission.number) → IsSentByPast w t j x
          at (inl h) =
              let q = gives sent.stamped h (ap (λ (z : Emission). z.thread) sent.plain ∙ named.0)
              (ap (λ (z : Emission). z.number) sent.plain ∙ named.1) in
              subst (λ (z : Output). IsSentByPast w t j z) (same_some found x sent.stamped some q) of
          at (inr (none, was)) =
              let gone = forgotten (ap (λ (u : ℕ). frame_at y.sent.frames (output_address y.sent u j)) (sym named.0)
              ∙ ap (λ (k : ℕ). frame_at y.sent.frames (output_address y.sent o.emission.thread k)) (sym named.1)
              ∙ none) in
              absurd (not_both found x gone some)

  -- what arrived before
  arrived_here : HasArrivedThere y.logger t j → HasArrived w t j
  arrived_here (inl k) = let h = (st.logger.released t j).0 k in (h.0, h.1, inl h.2)
  arrived_here (inr k) =
      let h = (named_as (log_of w.past) y.logger.waiting w.waiting st.logger.waiting t j).0 k in (h.0, h.1, inr h.2)

  arrived_there : HasArrived w t j → HasArrivedThere y.logger t j
  arrived_there (o, is, inl i) = inl ((st.logger.released t j).1 (o, is, i))
  arrived_there (o, is, inr i) =
      inr ((named_as (log_of w.past) y.logger.waiting w.waiting st.logger.waiting t j).1 (o, is, i))

  -- its frame is not on the links any more
  pub out_old : (found : Option Output)
      → ((o : Output) → HasOutputFrame y.sent o → o.thread ≡ t → o.number ≡ j → found ≡ Some o) → found ≡ None → 1 ≤ j
      → j ≤ outputs t (sent_of w.past) → (reply : Reply) (out : List Output)
      → reply ≡ record { outcome = outcome.Again; released = [] } → AnswersTo m s w (event.Out t j) reply out out y
  out_old found gives none from_one few reply out is = go (there_sent m s w y st t j from_one few)
    where
      go : (o : Sent) × SendsAfter w.past o.emission o.after × HasNumber t j o
          × IsSentOutput (log_of w.past) y.logger.released y.sent o → AnswersTo m s w (event.Out t j) reply out out y
      go (o, sends, named, sent) = at sent.there
        where
          at : HasOutputFrame y.sent sent.stamped
              ⊎ ((frame_at y.sent.frames (output_address y.sent o.emission.thread o.emission.number) ≡ None)
              × WasMarked y.logger.released o.emission.thread o.emission.number)
              → AnswersTo m s w (event.Out t j) reply out out y
          at (inl h) =
              let q = gives sent.stamped h (ap (λ (z : Emission). z.thread) sent.plain ∙ named.0)
              (ap (λ (z : Emission). z.number) sent.plain ∙ named.1) in
              absurd (not_both found sent.stamped none q)
          at (inr (gone, was)) =
              let marked : WasMarked y.logger.released t j = subst (λ (k : ℕ). WasMarked y.logger.released t k) named.1
              (subst (λ (u : ℕ). WasMarked y.logger.released u o.emission.number) named.0 was) in
              stays m s w y st (event.Out t j) outcome.Again reply out is
              (inr (here, (inr (inl (o, (sends, named), arrived_here (inl marked), refl, refl)), refl)))

  -- it has not arrived, so its frame is on the links
  pub frame_there : (HasArrivedThere y.logger t j → ⊥) → 1 ≤ j → j ≤ outputs t (sent_of w.past)
      → IsOnLinks w y.sent t j
  frame_there fresh from_one few = go (there_sent m s w y st t j from_one few)
    where
      go : (o : Sent) × SendsAfter w.past o.emission o.after × HasNumber t j o
          × IsSentOutput (log_of w.past) y.logger.released y.sent o → IsOnLinks w y.sent t j
      go (o, sends, named, sent) = at sent.there
        where
          at : HasOutputFrame y.sent sent.stamped
              ⊎ ((frame_at y.sent.frames (output_address y.sent o.emission.thread o.emission.number) ≡ None)
              × WasMarked y.logger.released o.emission.thread o.emission.number) → IsOnLinks w y.sent t j
          at (inl h) = record {
            output = sent.stamped;
            frame = h;
            thread = ap (λ (z : Emission). z.thread) sent.plain ∙ named.0;
            number = ap (λ (z : Emission). z.number) sent.plain ∙ named.1;
            of = record { sent = o; plain = sent.plain; stamp = sent.stamp; sends = sends; named = named };
          }
          at (inr (none, was)) =
              let marked : WasMarked y.logger.released t j = subst (λ (k : ℕ). WasMarked y.logger.released t k) named.1
              (subst (λ (u : ℕ). WasMarked y.logger.released u o.emission.number) named.0 was) in
              absurd (fresh (inl marked))

  module _ (x : Output) (of : IsSentByPast w t j x) where
    pub own_thread : x.thread ≡ t
    own_thread = ap (λ (q : Emission). q.thread) of.plain ∙ of.named.0

    pub own_number : x.number ≡ j
    own_number = ap (λ (q : Emission). q.number) of.plain ∙ of.named.1

    pub to_own : HasArrivedThere y.logger x.thread x.number → HasArrivedThere y.logger t j
    to_own h = subst (λ (k : ℕ). HasArrivedThere y.logger t k) own_number
        (subst (λ (u : ℕ). HasArrivedThere y.logger u x.number) own_thread h)

    from_own : HasArrivedThere y.logger t j → HasArrivedThere y.logger x.thread x.number
    from_own h = subst (λ (u : ℕ). HasArrivedThere y.logger u x.number) (sym own_thread)
        (subst (λ (k : ℕ). HasArrivedThere y.logger t k) (sym own_number) h)

    -- it arrived before
    pub out_again : HasArrivedThere y.logger x.thread x.number → (reply : Reply) (out : List Output)
        → reply ≡ record { outcome = outcome.Again; released = [] } → AnswersTo m s w (event.Out t j) reply out out y
    out_again h reply out is = stays m s w y st (event.Out t j) outcome.Again reply out is
        (inr (here, (inr (inl (of.sent, (of.sends, of.named), arrived_here (to_own h), refl, refl)), refl)))

    -- what is missing for the one is missing for the other
    miss_out : (e : Entry)
        → IsMissing (log_of w.past) (log_of w.stored) (held_entries y.logger.held) of.sent.emission.thread
        of.sent.after e → IsMissing (log_of w.past) (log_of w.stored) w.held of.sent.emission.thread of.sent.after e
    miss_out e h = record {
      precedes = h.precedes;
      not_held = λ i. h.not_held ((st.logger.held e).1 (i, h.not_stored));
      not_stored = h.not_stored;
    }

    miss_in : (e : Entry) → IsMissing (log_of w.past) (log_of w.stored) w.held of.sent.emission.thread of.sent.after e
        → IsMissing (log_of w.past) (log_of w.stored) (held_entries y.logger.held) of.sent.emission.thread
        of.sent.after e
    miss_in e h = record {
      precedes = h.precedes;
      not_held = λ i. h.not_held ((st.logger.held e).0 i).0;
      not_stored = h.not_stored;
    }

    -- nothing is missing for it
    pub may_go : IsDue y.logger.held x → MayGo w of.sent
    may_go within e miss =
        due_within (log_of w.past) (log_of w.stored) (held_entries y.logger.held) of.sent.emission.thread of.sent.after
        (λ u. slice_index x.stamp u) (frontier_of y.logger.held) good of.stamp
        (frontiers s w st.sound.firm y.logger.held st.logger.holds) (within_frontiers y.logger.held x.stamp within) e
        (miss_in e miss)

    -- an entry is the first missing one for it
    pub lacks : (u k : ℕ) → IsFirstMissingLane y.logger.held x.stamp u k
        → (e : Entry) × IsFirstMissing (log_of w.past) (log_of w.stored) w.held of.sent.emission.thread of.sent.after e
        × (e.thread ≡ u) × (e.number ≡ k)
    lacks u k first = (
      r.0,
      record { missing = miss_out r.0 r.1.missing; first = λ f h. r.1.first f (miss_in f h) },
      r.2,
      r.3 ∙ sym above.1,
    )
      where
        above : (frontier_of y.logger.held u < slice_index x.stamp u) × (k ≡ frontier_of y.logger.held u + 1)
        above = first.above (frontier_of y.logger.held u) (frontier_is y.logger.held u)

        r : (e : Entry)
            × IsFirstMissing (log_of w.past) (log_of w.stored) (held_entries y.logger.held) of.sent.emission.thread
            of.sent.after e × (e.thread ≡ u) × (e.number ≡ frontier_of y.logger.held u + 1)
        r =
            first_missing (log_of w.past) (log_of w.stored) (held_entries y.logger.held) of.sent.emission.thread
            of.sent.after (λ v. slice_index x.stamp v) (frontier_of y.logger.held) u good of.stamp
            (frontiers s w st.sound.firm y.logger.held st.logger.holds) above.0
            (λ v less. first.least v (frontier_of y.logger.held v) less (frontier_is y.logger.held v))

    module _ (now : Logger) (held : now.held ≡ y.logger.held) (epoch : now.epoch ≡ y.logger.epoch)
        (fresh : HasArrivedThere y.logger x.thread x.number → ⊥) where
      -- it is released
      pub out_released : (before out : List Output) (reply : Reply) → IsDue y.logger.held x
          → now.waiting ≡ y.logger.waiting → out ≡ before ++ x ∷ []
          → ReleasesOnce y.logger.released now.released (appended before out)
          → reply ≡ record { outcome = outcome.Released; released = [] }
          → AnswersTo m s w (event.Out t j) reply before out
          (record y { logger = now; released = y.released ++ (t, j) ∷ [] })
      out_released before out reply due waiting more once is = (
        next,
        (
          (
            [],
            (
              subst (λ (q : Outcome). On s w (event.Out t j) q [] next) (sym (ap (λ (k : Reply). k.outcome) is)) on,
              st.within,
            ),
            ap (λ (k : Reply). k.released) is,
          ),
          releases_as (log_of w.past) before out (x ∷ []) w next (of.sent ∷ []) are more refl,
        ),
        record {
          sound = within_sound s w (event.Out t j) outcome.Released [] next st.sound (on, st.within);
          within = st.within;
          inputs = record {
            meaning = st.inputs.meaning;
            fractions = st.inputs.fractions;
            inputs = st.inputs.inputs;
            left = st.inputs.left;
            clock = st.inputs.clock;
            generator = st.inputs.generator;
          };
          snapshots = st.snapshots;
          ended = st.ended;
          guide = st.guide;
          master = record {
            up = st.master.up;
            stands = st.master.stands;
            schedule = st.master.schedule;
            past = st.master.past;
            moves = st.master.moves;
            bytes = st.master.bytes;
          };
          sent = record {
            epoch = st.sent.epoch;
            entry_sent = λ e i.
                subst (λ (h : List Lane). IsSentEntry (log_of w.past) h y.sent e) (sym held) (st.sent.entry_sent e i);
            output_sent = λ o i.
                more_released (log_of w.past) y.sent y.logger.released now.released o marks (st.sent.output_sent o i);
            entry_counts = st.sent.entry_counts;
            output_counts = st.sent.output_counts;
            none_later = st.sent.none_later;
          };
          logger = record {
            epoch = epoch ∙ st.logger.epoch;
            holds =
                subst (λ (h : List Lane). HoldsOf (entries_of_line w) (log_of w.stored) h) (sym held) st.logger.holds;
            held = λ e.
                subst (λ (h : List Lane). IsIn e (held_entries h) ↔ (IsIn e w.held × (IsIn e (log_of w.stored) → ⊥)))
                (sym held) (st.logger.held e);
            waiting =
                subst (λ (l : List Output). AreOutputs (log_of w.past) l w.waiting) (sym waiting) st.logger.waiting;
            released = noted_more (log_of w.past) y.logger.released now.released (x ∷ []) w.released (of.sent ∷ [])
                once_one are st.logger.released;
          };
          released =
              ap (λ (l : List (ℕ × ℕ)). l ++ (t, j) ∷ []) st.released
              ∙ ap (λ (u : ℕ). sent_names w.released ++ (u, j) ∷ []) (sym of.named.0)
              ∙ ap (λ (k : ℕ). sent_names w.released ++ (of.sent.emission.thread, k) ∷ []) (sym of.named.1)
              ∙ sym (sent_names_both w.released (of.sent ∷ []));
        },
      )
        where
          next : World V
          next = record w { released = w.released ++ of.sent ∷ [] }

          on : On s w (event.Out t j) outcome.Released [] next
          on = inr (
            here,
            (
              inr (inr (inl
                  (of.sent, (of.sends, of.named), (λ h. fresh (from_own (arrived_there h))), may_go due, refl, refl))),
              refl,
            ),
          )

          are : AreOutputs (log_of w.past) (x ∷ []) (of.sent ∷ [])
          are = (of.plain, of.stamp, tt)

          once_one : ReleasesOnce y.logger.released now.released (x ∷ [])
          once_one = subst (λ (l : List Output). ReleasesOnce y.logger.released now.released l)
              (ap (appended before) more ∙ appended_append before (x ∷ [])) once

          marks : (u k : ℕ) → WasMarked y.logger.released u k → WasMarked now.released u k
          marks = marks_stay y.logger.released now.released (x ∷ []) once_one

      -- it waits for an entry
      pub out_waits : (before out : List Output) (reply : Reply) (u k : ℕ)
          → IsFirstMissingLane y.logger.held x.stamp u k → now.waiting ≡ y.logger.waiting ++ x ∷ [] → out ≡ before
          → ReleasesOnce y.logger.released now.released (appended before out)
          → reply ≡ record { outcome = outcome.Waits u k; released = [] }
          → AnswersTo m s w (event.Out t j) reply before before (record y { logger = now })
      out_waits before out reply u k first waiting same once is = (
        next,
        (
          (
            [],
            (
              subst (λ (q : Outcome). On s w (event.Out t j) q [] next) (sym (ap (λ (k : Reply). k.outcome) is)) on,
              st.within,
            ),
            ap (λ (k : Reply). k.released) is,
          ),
          releases_none before w next refl,
        ),
        record {
          sound = within_sound s w (event.Out t j) (outcome.Waits u k) [] next st.sound (on, st.within);
          within = st.within;
          inputs = record {
            meaning = st.inputs.meaning;
            fractions = st.inputs.fractions;
            inputs = st.inputs.inputs;
            left = st.inputs.left;
            clock = st.inputs.clock;
            generator = st.inputs.generator;
          };
          snapshots = st.snapshots;
          ended = st.ended;
          guide = st.guide;
          master = record {
            up = st.master.up;
            stands = st.master.stands;
            schedule = st.master.schedule;
            past = st.master.past;
            moves = st.master.moves;
            bytes = st.master.bytes;
          };
          sent = record {
            epoch = st.sent.epoch;
            entry_sent = λ e i.
                subst (λ (h : List Lane). IsSentEntry (log_of w.past) h y.sent e) (sym held) (st.sent.entry_sent e i);
            output_sent = λ o i.
                more_released (log_of w.past) y.sent y.logger.released now.released o marks (st.sent.output_sent o i);
            entry_counts = st.sent.entry_counts;
            output_counts = st.sent.output_counts;
            none_later = st.sent.none_later;
          };
          logger = record {
            epoch = epoch ∙ st.logger.epoch;
            holds =
                subst (λ (h : List Lane). HoldsOf (entries_of_line w) (log_of w.stored) h) (sym held) st.logger.holds;
            held = λ e.
                subst (λ (h : List Lane). IsIn e (held_entries h) ↔ (IsIn e w.held × (IsIn e (log_of w.stored) → ⊥)))
                (sym held) (st.logger.held e);
            waiting =
                subst (λ (l : List Output). AreOutputs (log_of w.past) l (w.waiting ++ of.sent ∷ [])) (sym waiting)
                (outputs_more (log_of w.past) y.logger.waiting w.waiting x of.sent st.logger.waiting of.plain of.stamp);
            released = noted_same y.logger.released now.released w.released once_none st.logger.released;
          };
          released = st.released;
        },
      )
        where
          next : World V
          next = record w { waiting = w.waiting ++ of.sent ∷ [] }

          missing : (e : Entry)
              × IsFirstMissing (log_of w.past) (log_of w.stored) w.held of.sent.emission.thread of.sent.after e
              × (e.thread ≡ u)
              × (e.number ≡ k)
          missing = lacks u k first

          on : On s w (event.Out t j) (outcome.Waits u k) [] next
          on =
              inr (
                here,
                (
                  inr (inr (inr (
                    of.sent,
                    (of.sends, of.named),
                    (λ h. fresh (from_own (arrived_there h))),
                    missing.0,
                    missing.1,
                    ap (λ (v : ℕ). outcome.Waits v k) (sym missing.2)
                        ∙ ap (λ (i : ℕ). outcome.Waits missing.0.thread i) (sym missing.3),
                    refl,
                  ))),
                  refl,
                ),
              )

          once_none : ReleasesOnce y.logger.released now.released []
          once_none = subst (λ (l : List Output). ReleasesOnce y.logger.released now.released l)
              (ap (appended before) (same ∙ sym (append-nil before)) ∙ appended_append before []) once

          marks : (u k : ℕ) → WasMarked y.logger.released u k → WasMarked now.released u k
          marks = marks_stay y.logger.released now.released [] once_none

-- its thread and number are noted, and frames forgotten
pub pushed_parts : {P V : Type 0} (view now : Parts P V) (links : Sending) (logger : Logger) (names : List (ℕ × ℕ))
    (name : ℕ × ℕ) → view ≡ now → names ≡ view.released ++ name ∷ []
    → record view { sent = links; logger = logger; released = view.released ++ name ∷ [] }
    ≡ record view { sent = links; logger = logger; released = names }
pushed_parts view now links logger names name same is =
    ap (λ (l : List (ℕ × ℕ)). record view { sent = links; logger = logger; released = l }) (sym is)

-- a system stands for the same world as its parts as its code has them
pub stands_before : {P V : Type 0} (m : Meaning V) (s : Setting V) (w : World V) (view now : Parts P V) → view ≡ now
    → StandsFor m s w now → StandsFor m s w view
stands_before {P} {V} m s w view now same st = subst (λ (q : Parts P V). StandsFor m s w q) (sym same) st

-- One answer is not another.

pub not_again_released : (r : Result OutputTook NoMemory) → r ≡ Ok took_of.Release → r ≡ Ok took_of.Again → ⊥
not_again_released r a b = cc

pub not_again_waits : (r : Result OutputTook NoMemory) (u k : ℕ) → r ≡ Ok (took_of.Wait u k) → r ≡ Ok took_of.Again → ⊥
not_again_waits r u k a b = cc

pub waits_not_released : (r : Result OutputTook NoMemory) (u k : ℕ) → r ≡ Ok (took_of.Wait u k) → r ≢ Ok took_of.Release
waits_not_released r u k a b = cc

-- it arrived before, where it is of the present epoch
pub was_again : (r : Result OutputTook NoMemory) (took : OutputTook) (epoch present : ℕ) → r ≡ Ok took
    → (took ≡ took_of.Again) ⊎ (took ≡ took_of.OldEpoch) → epoch ≡ present → (r ≡ Ok took_of.OldEpoch → epoch < present)
    → (r ≡ Ok took_of.Again) × (r ≢ Ok took_of.Release) × ((u k : ℕ) → r ≢ Ok (took_of.Wait u k))
was_again r took epoch present is (inl again) same old =
    (is ∙ ap Ok again, (λ new. let at = is ∙ ap Ok again in cc), λ u k new. let at = is ∙ ap Ok again in cc)
was_again r took epoch present is (inr other) same old =
    let late = old (is ∙ ap Ok other) in absurd (omega (arith, late, same))
