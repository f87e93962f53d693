-- An entry arrives at the output logger of a system: it stands for the world after it.
use Rattle.std.proofs.Common.{◌≡◌, ℕ, ◌<◌, ◌≤◌, ◌≢◌, List, [], ◌∷◌, ◌++◌, length, refl, sym, ap, ◌∙◌, subst, inl, inr}
use Rattle.std.proofs.Common.{◌⊎◌, Option, Some, None, Result, Ok, arith}
use Rattle.plain_text.specs.declared.memory.NoMemory.{NoMemory}
use Rattle.output_logger.specs.declared.took.EntryTook.{EntryTook}
use Rattle.output_logger.specs.declared.took.EntryTook.TheVariants as took_of
use Rattle.std.proofs.lemmas.Bool.{cases_lt}
use Rattle.std.specs.Prelude.{slice_index, ◌↔◌}
use Rattle.entry_order.proofs.ClosedParts.{Or, in_or}
use Rattle.plain_text.specs.declared.kind.Kind.TheVariants.{Log, Out}
use Rattle.entry_order.specs.Log.{Entry, IsLog, IsIn, entries}
use Rattle.entry_order.specs.Closed.{IsMissing}
use Rattle.entry_order.specs.Stamps.{IsStamp, IsOutputStamp}
use Rattle.entry_order.proofs.Missing.{due_within, within_due}
use Rattle.entry_order.proofs.Order.{is_or, number_within, entry_there}
use Rattle.access_log.specs.declared.entry.StampedEntry.{StampedEntry}
use Rattle.access_log.specs.declared.entry.Output.{Output}
use Rattle.access_log.specs.Held.{Lane, lane, IsKnown as IsKnownLane}
use Rattle.access_log.specs.Lanes.{PutsEntry}
use Rattle.link_store.specs.declared.address.Address.{Address}
use Rattle.link_store.specs.Links.{address, frame_at, IsUpTo}
use Rattle.dup_filter.specs.Numbers.{Numbers, WasMarked}
use Rattle.wire_frames.specs.declared.frame.Frame.TheVariants as frame
use Rattle.wire_frames.specs.Layout.{IsFrame}
use Rattle.wire_frames.specs.Writing.{CanPutEntry, CanPutOutput}
use Rattle.plain_machine.specs.Program.{Meaning}
use Rattle.plain_machine.specs.History.{log_of, outputs, IsHistory}
use Rattle.plain_machine.proofs.Histories.{history_log, earlier_log}
use Rattle.master_core.specs.Holding.{held_entries, HoldsOf}
use Rattle.master_core.specs.Stepping.{plain_entry, emission_of_output}
use Rattle.master_core.proofs.Holdings.{one_more_holds, one_more_held}
use Rattle.master_core.proofs.Frontiers.{frontier_of, within_frontiers, frontiers_within}
use Rattle.master_core.proofs.Moments.{moment_log}
use Rattle.output_logger.specs.Logger.{Logger, IsDue, ReleasesOnce, Parts as LoggerParts}
use Rattle.output_logger.proofs.KeptLemmas.{more_with_entry}
use Rattle.recovery_world.specs.declared.event.Event.TheVariants as event
use Rattle.recovery_world.specs.declared.event.Outcome.{Outcome}
use Rattle.recovery_world.specs.declared.event.Outcome.TheVariants as outcome
use Rattle.recovery_world.specs.World.{Setting, Sent, World, inputs_fed}
use Rattle.recovery_world.specs.Events.{IsKnown, IsEntryOf, MayGo, On, Parts as WorldParts, entries_of_line}
use Rattle.output_releases.proofs.FromRecoveryLaws.{within_sound}
use Rattle.output_releases.specs.FromEventReplies.{Reply}
use Rattle.link_store.specs.Sending.{Sending, length_at, lengths_of, entry_address, output_address, HasEntryFrame}
use Rattle.link_store.specs.Sending.{HasOutputFrame, ForgetsEntries}
use Rattle.output_releases.specs.FromSystemParts.{Parts, AreParts}
use Rattle.output_releases.specs.FromSystemParts.{IsSentEntry, IsSentOutput, AreOutputs, StandsFor}
use Rattle.output_releases.specs.Released.{names_of, NotesReleased}
use Rattle.output_releases.proofs.FromSystemParts.{line_log, past_in, past_stamp, past_of_line, holds_log, known_there}
use Rattle.output_releases.proofs.FromSystemParts.{there_known, frontiers}
use Rattle.output_releases.proofs.FromSystemParts.{marks_stay}
use Rattle.output_releases.proofs.OutputLists.{parts_world, names_as, names_more, noted_more, releases_as}
use Rattle.output_releases.proofs.Answering.{AnswersTo, in_setting, stays}

-- Frames, where those of the first entries of a thread are forgotten

-- an entry's frame on the links, or none, where it is known
abbrev KeptAs : StampedEntry → Entry → List Lane → Sending → Type 0
KeptAs x e held sent =
    HasEntryFrame sent x
    ⊎ ((frame_at sent.frames (entry_address sent e.thread e.number) ≡ None) × IsKnownLane (lane held e.thread) e.number)

abbrev Kept : List Lane → Sending → StampedEntry → Type 0
Kept held sent x =
    HasEntryFrame sent x
    ⊎ ((frame_at sent.frames (entry_address sent x.thread x.number) ≡ None) × IsKnownLane (lane held x.thread) x.number)

module _ (held now_held : List Lane) (sent now_sent : Sending) (t known : ℕ)
    (forgets : ForgetsEntries sent now_sent t known) (reached : (n : ℕ) → n ≤ known → IsKnownLane (lane now_held t) n)
    (grows : (u n : ℕ) → IsKnownLane (lane held u) n → IsKnownLane (lane now_held u) n) (noted now_noted : List Numbers)
    (marks : (u n : ℕ) → WasMarked noted u n → WasMarked now_noted u n) where
  entry_stays : (x : StampedEntry) → (IsUpTo (entry_address sent t known) (entry_address sent x.thread x.number) → ⊥)
      → HasEntryFrame sent x → HasEntryFrame now_sent x
  entry_stays x apart h = record {
    can = subst (λ (k : ℕ). CanPutEntry now_sent.epoch k x) (sym forgets.threads)
        (subst (λ (k : ℕ). CanPutEntry k sent.threads x) (sym forgets.epoch) h.can);
    bytes = h.bytes;
    is = subst (λ (k : ℕ). IsFrame h.bytes (frame.Entry now_sent.epoch k x)) (sym forgets.threads)
        (subst (λ (k : ℕ). IsFrame h.bytes (frame.Entry k sent.threads x)) (sym forgets.epoch) h.is);
    there =
        ap (λ (k : ℕ). frame_at now_sent.frames (address k Log x.thread x.number)) forgets.epoch
        ∙ forgets.forgets.others (entry_address sent x.thread x.number) apart
        ∙ h.there;
  }

  kept_on : (x : StampedEntry) → Kept held sent x → Kept now_held now_sent x
  kept_on x k = go (is_or x.thread t) (cases_lt known x.number) k
    where
      gone : x.thread ≡ t → x.number ≤ known
          → (frame_at now_sent.frames (entry_address now_sent x.thread x.number) ≡ None)
          × IsKnownLane (lane now_held x.thread) x.number
      gone own low = (
        ap (λ (k : ℕ). frame_at now_sent.frames (address k Log x.thread x.number)) forgets.epoch
            ∙ forgets.forgets.forgotten (entry_address sent x.thread x.number)
            (record { epoch = refl; kind = refl; thread = own; number = low }),
        subst (λ (u : ℕ). IsKnownLane (lane now_held u) x.number) (sym own) (reached x.number low),
      )

      kept_there : (IsUpTo (entry_address sent t known) (entry_address sent x.thread x.number) → ⊥) → Kept held sent x
          → Kept now_held now_sent x
      kept_there apart (inl h) = inl (entry_stays x apart h)
      kept_there apart (inr (none, is_known)) =
          inr (
            ap (λ (k : ℕ). frame_at now_sent.frames (address k Log x.thread x.number)) forgets.epoch
                ∙ forgets.forgets.others (entry_address sent x.thread x.number) apart
                ∙ none,
            grows x.thread x.number is_known,
          )

      go : (x.thread ≡ t) ⊎ (x.thread ≢ t) → (known < x.number) ⊎ (x.number ≤ known) → Kept held sent x
          → Kept now_held now_sent x
      go (inl own) (inr low) k = inr (gone own low)
      go (inl own) (inl high) k = kept_there (λ up. let n = up.number in absurd (omega (arith, n, high))) k
      go (inr other) b k = kept_there (λ up. other up.thread) k

  -- an entry's frame was sent as before
  pub entry_still : (log : List Entry) (e : Entry) → IsSentEntry log held sent e → IsSentEntry log now_held now_sent e
  entry_still log e h = record {
    stamped = h.stamped;
    plain = h.plain;
    stamp = h.stamp;
    size = ap (λ (l : List (List ℕ)). length_at l e.thread e.number) forgets.entries ∙ h.size;
    there = subst (λ (z : Entry). KeptAs h.stamped z now_held now_sent) h.plain
        (kept_on h.stamped (subst (λ (z : Entry). KeptAs h.stamped z held sent) (sym h.plain) h.there));
  }

  -- so was an output's
  pub output_still : (log : List Entry) (o : Sent) → IsSentOutput log noted sent o
      → IsSentOutput log now_noted now_sent o
  output_still log o h = record {
    stamped = h.stamped;
    plain = h.plain;
    stamp = h.stamp;
    size = ap (λ (l : List (List ℕ)). length_at l o.emission.thread o.emission.number) forgets.outputs ∙ h.size;
    there = go h.there;
  }
    where
      other_kind : Out ≡ Log → ⊥
      other_kind is = cc

      go : HasOutputFrame sent h.stamped
          ⊎ ((frame_at sent.frames (output_address sent o.emission.thread o.emission.number) ≡ None)
          × WasMarked noted o.emission.thread o.emission.number)
          → HasOutputFrame now_sent h.stamped
          ⊎ ((frame_at now_sent.frames (output_address now_sent o.emission.thread o.emission.number) ≡ None)
          × WasMarked now_noted o.emission.thread o.emission.number)
      go (inl k) = inl (record {
        can = subst (λ (n : ℕ). CanPutOutput now_sent.epoch n h.stamped) (sym forgets.threads)
            (subst (λ (n : ℕ). CanPutOutput n sent.threads h.stamped) (sym forgets.epoch) k.can);
        bytes = k.bytes;
        is = subst (λ (n : ℕ). IsFrame k.bytes (frame.Output now_sent.epoch n h.stamped)) (sym forgets.threads)
            (subst (λ (n : ℕ). IsFrame k.bytes (frame.Output n sent.threads h.stamped)) (sym forgets.epoch) k.is);
        there =
            ap (λ (n : ℕ). frame_at now_sent.frames (address n Out h.stamped.thread h.stamped.number)) forgets.epoch
            ∙ forgets.forgets.others (output_address sent h.stamped.thread h.stamped.number) (λ up. other_kind up.kind)
            ∙ k.there;
      })
      go (inr (none, was)) = inr (
        ap (λ (n : ℕ). frame_at now_sent.frames (address n Out o.emission.thread o.emission.number)) forgets.epoch
            ∙ forgets.forgets.others (output_address sent o.emission.thread o.emission.number)
            (λ up. other_kind up.kind)
            ∙ none,
        marks o.emission.thread o.emission.number was,
      )

-- no frame of a later epoch comes to be there
none_later_forgotten : (now : ℕ) (sent links : Sending) (t known : ℕ) → ForgetsEntries sent links t known
    → sent.epoch ≡ now → ((a : Address) → now < a.epoch → frame_at sent.frames a ≡ None) → (a : Address) → now < a.epoch
    → frame_at links.frames a ≡ None
none_later_forgotten now sent links t known forgets at none a later =
    forgets.forgets.others a (λ up. let e : a.epoch ≡ sent.epoch = up.epoch in absurd (omega (arith, e, at, later)))
    ∙ none a later

-- the entry of the past that this one is, with its stamp
pub record IsOfPast {V : Type 0} (w : World V) (t n : ℕ) (x : StampedEntry) : Type 0 where
  pub here : IsIn (plain_entry x) (log_of w.past)
  pub stamp : IsStamp (log_of w.past) (plain_entry x) (λ u. slice_index x.stamp u)
  pub thread : x.thread ≡ t
  pub number : x.number ≡ n

not_both : (found : Option StampedEntry) (x : StampedEntry) → found ≡ None → found ≡ Some x → ⊥
not_both found x none some = cc

same_some : (found : Option StampedEntry) (x z : StampedEntry) → found ≡ Some x → found ≡ Some z → z ≡ x
same_some found x z a b = cc

module _ {P V : Type 0} (m : Meaning V) (s : Setting V) (w : World V) (y : Parts P V) (st : StandsFor m s w y) where
  legal : IsHistory s.meaning (inputs_fed s w.fed) s.threads w.past
  legal = st.sound.firm.legal

  good : IsLog (log_of w.past)
  good = history_log s.meaning (inputs_fed s w.fed) s.threads w.past legal

  good_stored : IsLog (log_of w.stored)
  good_stored = moment_log s.meaning (inputs_fed s w.fed) s.threads w.past w.stored legal st.sound.firm.stored

  stored_in : (e : Entry) → IsIn e (log_of w.stored) → IsIn e (log_of w.past)
  stored_in e i = earlier_log w.stored w.past e st.sound.firm.stored i

  module _ (t n : ℕ) (low : t < y.inputs.threads) where
    -- there is no entry of this number
    pub log_none : (reply : Reply) (out : List Output) → reply ≡ record { outcome = outcome.Nothing; released = [] }
        → (n ≡ 0) ⊎ (entries t (log_of w.past) < n) → AnswersTo m s w (event.Log t n) reply out out y
    log_none reply out is none = stays m s w y st (event.Log t n) outcome.Nothing reply out is
        (inr (in_setting m s w y st t low, inl (never none, refl, refl, refl)))
      where
        never : (n ≡ 0) ⊎ (entries t (log_of w.past) < n) → (e : Entry) → IsEntryOf w t n e → ⊥
        never (inl zero) e of =
            let k = number_within (log_of w.past) e good of.0 in absurd (omega (arith, k, of.2, zero))
        never (inr high) e of =
            let k = number_within (log_of w.past) e good of.0 in
            let same : entries e.thread (log_of w.past) ≡ entries t (log_of w.past) =
            ap (λ (u : ℕ). entries u (log_of w.past)) of.1 in
            absurd (omega (arith, k, of.2, high, same))

    -- there is one, and what was sent of it
    there_sent : 1 ≤ n → n ≤ entries t (log_of w.past)
        → (e : Entry) × IsIn e (log_of w.past) × (e.thread ≡ t) × (e.number ≡ n)
        × IsSentEntry (log_of w.past) y.logger.held y.sent e
    there_sent from_one few =
        let e = entry_there (log_of w.past) t n good from_one few in (e.0, e.1, e.2, e.3, st.sent.entry_sent e.0 e.1)

    to_world : (e : Entry) → IsIn e (held_entries y.logger.held) ⊎ IsIn e (log_of w.stored) → IsKnown w e
    to_world e (inl h) = inl ((st.logger.held e).0 h).0
    to_world e (inr h) = inr h

    to_system : (e : Entry) → IsKnown w e → IsIn e (held_entries y.logger.held) ⊎ IsIn e (log_of w.stored)
    to_system e k = go (in_or e (log_of w.stored)) k
      where
        go : Or (IsIn e (log_of w.stored)) → IsKnown w e
            → IsIn e (held_entries y.logger.held) ⊎ IsIn e (log_of w.stored)
        go (inl old) k = inr old
        go (inr new) (inl h) = inl ((st.logger.held e).1 (h, new))
        go (inr new) (inr h) = inr h

    -- it is known
    known_here : (e : Entry) → IsEntryOf w t n e → IsKnownLane (lane y.logger.held e.thread) e.number → (reply : Reply)
        (out : List Output) → reply ≡ record { outcome = outcome.Known; released = [] }
        → AnswersTo m s w (event.Log t n) reply out out y
    known_here e of k reply out is = stays m s w y st (event.Log t n) outcome.Known reply out is (inr (
      in_setting m s w y st t low,
      inr (inl
          (e, of, to_world e (known_there s w st.sound.firm y.logger.held st.logger.holds e of.0 k), refl, refl, refl)),
    ))

    pub log_known : (x : StampedEntry) → IsOfPast w t n x → IsKnownLane (lane y.logger.held x.thread) x.number
        → (reply : Reply) (out : List Output) → reply ≡ record { outcome = outcome.Known; released = [] }
        → AnswersTo m s w (event.Log t n) reply out out y
    log_known x of k reply out is = known_here (plain_entry x) (of.here, of.thread, of.number) k reply out is

    -- its frame is not on the links any more
    pub log_old : (found : Option StampedEntry)
        → ((e : StampedEntry) → HasEntryFrame y.sent e → e.thread ≡ t → e.number ≡ n → found ≡ Some e) → found ≡ None
        → 1 ≤ n → n ≤ entries t (log_of w.past) → (reply : Reply) (out : List Output)
        → reply ≡ record { outcome = outcome.Known; released = [] } → AnswersTo m s w (event.Log t n) reply out out y
    log_old found gives none from_one few reply out is = go (there_sent from_one few)
      where
        go : (e : Entry) × IsIn e (log_of w.past) × (e.thread ≡ t) × (e.number ≡ n)
            × IsSentEntry (log_of w.past) y.logger.held y.sent e → AnswersTo m s w (event.Log t n) reply out out y
        go (e, i, a, b, sent) = at sent.there
          where
            at : KeptAs sent.stamped e y.logger.held y.sent → AnswersTo m s w (event.Log t n) reply out out y
            at (inl h) =
                let some = gives sent.stamped h (ap (λ (z : Entry). z.thread) sent.plain ∙ a)
                (ap (λ (z : Entry). z.number) sent.plain ∙ b) in
                absurd (not_both found sent.stamped none some)
            at (inr h) = known_here e (i, a, b) h.1 reply out is

    -- the entry that its frame says
    pub log_found : (found : Option StampedEntry) (x : StampedEntry)
        → ((e : StampedEntry) → HasEntryFrame y.sent e → e.thread ≡ t → e.number ≡ n → found ≡ Some e)
        → (frame_at y.sent.frames (entry_address y.sent t n) ≡ None → found ≡ None) → found ≡ Some x → 1 ≤ n
        → n ≤ entries t (log_of w.past) → IsOfPast w t n x
    log_found found x gives forgotten some from_one few = go (there_sent from_one few)
      where
        go : (e : Entry) × IsIn e (log_of w.past) × (e.thread ≡ t) × (e.number ≡ n)
            × IsSentEntry (log_of w.past) y.logger.held y.sent e → IsOfPast w t n x
        go (e, i, a, b, sent) = at sent.there
          where
            of : IsOfPast w t n sent.stamped
            of = record {
              here = subst (λ (z : Entry). IsIn z (log_of w.past)) (sym sent.plain) i;
              stamp = subst (λ (z : Entry). IsStamp (log_of w.past) z (λ u. slice_index sent.stamped.stamp u))
                  (sym sent.plain) sent.stamp;
              thread = ap (λ (z : Entry). z.thread) sent.plain ∙ a;
              number = ap (λ (z : Entry). z.number) sent.plain ∙ b;
            }

            at : KeptAs sent.stamped e y.logger.held y.sent → IsOfPast w t n x
            at (inl h) = subst (λ (z : StampedEntry). IsOfPast w t n z)
                (same_some found x sent.stamped some (gives sent.stamped h of.thread of.number)) of
            at (inr h) =
                let none = forgotten (ap (λ (u : ℕ). frame_at y.sent.frames (entry_address y.sent u n)) (sym a)
                ∙ ap (λ (k : ℕ). frame_at y.sent.frames (entry_address y.sent e.thread k)) (sym b)
                ∙ h.0) in
                absurd (not_both found x none some)

    module _ (x : StampedEntry) (of : IsOfPast w t n x) (now : Logger)
        (fresh : IsKnownLane (lane y.logger.held x.thread) x.number → ⊥)
        (puts : PutsEntry (lane y.logger.held x.thread) (lane now.held x.thread) x.number x)
        (others : (u : ℕ) → u ≢ x.thread → lane now.held u ≡ lane y.logger.held u) where
      holds : HoldsOf (entries_of_line w) (log_of w.stored) now.held
      holds =
          one_more_holds (entries_of_line w) (log_of w.stored) y.logger.held now.held x st.logger.holds
          (past_of_line s w st.sound.firm (plain_entry x) of.here)
          (past_stamp s w st.sound.firm (plain_entry x) (λ u. slice_index x.stamp u) of.here of.stamp) puts others

      new_one : IsIn (plain_entry x) (log_of w.stored) → ⊥
      new_one i = fresh (there_known s w st.sound.firm y.logger.held st.logger.holds (plain_entry x) (inr i))

      held_is : (e : Entry)
          → IsIn e (held_entries now.held) ↔ (IsIn e (plain_entry x ∷ w.held) × (IsIn e (log_of w.stored) → ⊥))
      held_is e = (λ i. out (k.0 i), λ h. k.1 (back h.0 h.1))
        where
          k : IsIn e (held_entries now.held) ↔ ((plain_entry x ≡ e) ⊎ IsIn e (held_entries y.logger.held))
          k = one_more_held (line_log s w st.sound.firm) (log_of w.stored) y.logger.held now.held x e st.sound.firm.log
              (holds_log s w st.sound.firm y.logger.held st.logger.holds)
              (past_in s w st.sound.firm (plain_entry x) of.here) puts others

          out : (plain_entry x ≡ e) ⊎ IsIn e (held_entries y.logger.held)
              → IsIn e (plain_entry x ∷ w.held) × (IsIn e (log_of w.stored) → ⊥)
          out (inl same) = (inl same, λ i. new_one (subst (λ (z : Entry). IsIn z (log_of w.stored)) (sym same) i))
          out (inr i) = let h = (st.logger.held e).0 i in (inr h.0, h.1)

          back : IsIn e (plain_entry x ∷ w.held) → (IsIn e (log_of w.stored) → ⊥)
              → (plain_entry x ≡ e) ⊎ IsIn e (held_entries y.logger.held)
          back (inl same) new = inl same
          back (inr i) new = inr ((st.logger.held e).1 (i, new))

      -- what is missing for the one is missing for the other
      miss_out : (u k : ℕ) (e : Entry) → IsMissing (log_of w.past) (log_of w.stored) (held_entries now.held) u k e
          → IsMissing (log_of w.past) (log_of w.stored) (plain_entry x ∷ w.held) u k e
      miss_out u k e h = record {
        precedes = h.precedes;
        not_held = λ i. h.not_held ((held_is e).1 (i, h.not_stored));
        not_stored = h.not_stored;
      }

      miss_in : (u k : ℕ) (e : Entry) → IsMissing (log_of w.past) (log_of w.stored) (plain_entry x ∷ w.held) u k e
          → IsMissing (log_of w.past) (log_of w.stored) (held_entries now.held) u k e
      miss_in u k e h =
          record { precedes = h.precedes; not_held = λ i. h.not_held ((held_is e).0 i).0; not_stored = h.not_stored }

      due_is : (o : Output) (z : Sent) → emission_of_output o ≡ z.emission
          → IsOutputStamp (log_of w.past) z.emission.thread z.after (λ u. slice_index o.stamp u)
          → IsDue now.held o ↔ MayGo (record w { held = plain_entry x ∷ w.held }) z
      due_is o z is stamp = (
        λ within e miss.
            due_within (log_of w.past) (log_of w.stored) (held_entries now.held) z.emission.thread z.after
            (λ u. slice_index o.stamp u) (frontier_of now.held) good stamp (frontiers s w st.sound.firm now.held holds)
            (within_frontiers now.held o.stamp within) e (miss_in z.emission.thread z.after e miss),
        λ may.
            frontiers_within now.held o.stamp (within_due (log_of w.past) (log_of w.stored) (held_entries now.held)
            z.emission.thread z.after (λ u. slice_index o.stamp u) (frontier_of now.held) good stamp
            (frontiers s w st.sound.firm now.held holds) (λ e miss. may e (miss_out z.emission.thread z.after e miss))),
      )

      -- it is held now, and what is due then is released
      pub log_new : (links : Sending) (known : ℕ) (before out go : List Output) (reply : Reply) → out ≡ before ++ go
          → now.epoch ≡ y.logger.epoch → LoggerParts (IsDue now.held) y.logger.waiting go now.waiting
          → ReleasesOnce y.logger.released now.released go → ((k : ℕ) → k ≤ known → IsKnownLane (lane now.held t) k)
          → ForgetsEntries y.sent links t known → reply ≡ record { outcome = outcome.New; released = names_of go }
          → AnswersTo m s w (event.Log t n) reply before out
          (record y { sent = links; logger = now; released = y.released ++ names_of go })
      log_new links known before out go reply appends epoch parts once reached forgets is = (
        next,
        (
          (
            r.0,
            (
              subst (λ (q : Outcome). On s w (event.Log t n) q r.0 next) (sym (ap (λ (k : Reply). k.outcome) is)) on,
              st.within,
            ),
            ap (λ (k : Reply). k.released) is ∙ names_as (log_of w.past) go r.0 r.3,
          ),
          releases_as (log_of w.past) before out go w next r.0 r.3 appends refl,
        ),
        record {
          sound = within_sound s w (event.Log t n) outcome.New r.0 next st.sound (on, st.within);
          within = st.within;
          inputs = record {
            meaning = st.inputs.meaning;
            fractions = st.inputs.fractions;
            inputs = st.inputs.inputs;
            left = st.inputs.left;
            clock = st.inputs.clock;
            generator = st.inputs.generator;
          };
          snapshots = st.snapshots;
          ended = st.ended;
          guide = st.guide;
          master = record {
            up = st.master.up;
            stands = st.master.stands;
            schedule = st.master.schedule;
            past = st.master.past;
            moves = st.master.moves;
            bytes = st.master.bytes;
          };
          sent = record {
            epoch = forgets.epoch ∙ st.sent.epoch;
            entry_sent = λ e i. entry_still y.logger.held now.held y.sent links t known forgets reached grows
                y.logger.released now.released marks (log_of w.past) e (st.sent.entry_sent e i);
            output_sent = λ o sends. output_still y.logger.held now.held y.sent links t known forgets reached grows
                y.logger.released now.released marks (log_of w.past) o (st.sent.output_sent o sends);
            entry_counts =
                λ u. ap (λ (l : List (List ℕ)). length (lengths_of l u)) forgets.entries ∙ st.sent.entry_counts u;
            output_counts =
                λ u. ap (λ (l : List (List ℕ)). length (lengths_of l u)) forgets.outputs ∙ st.sent.output_counts u;
            none_later = none_later_forgotten w.epoch y.sent links t known forgets st.sent.epoch st.sent.none_later;
          };
          logger = record {
            epoch = epoch ∙ st.logger.epoch;
            holds = holds;
            held = held_is;
            waiting = r.4;
            released =
                noted_more (log_of w.past) y.logger.released now.released go w.released r.0 once r.3 st.logger.released;
          };
          released = names_more w y (log_of w.past) go r.0 st.released r.3;
        },
      )
        where
          r : (freed : List Sent) × (still : List Sent)
              × WorldParts (MayGo (record w { held = plain_entry x ∷ w.held })) w.waiting freed still
              × AreOutputs (log_of w.past) go freed × AreOutputs (log_of w.past) now.waiting still
          r = parts_world (log_of w.past) (IsDue now.held) (MayGo (record w { held = plain_entry x ∷ w.held })) due_is
              y.logger.waiting w.waiting go now.waiting st.logger.waiting parts

          next : World V
          next = record w { held = plain_entry x ∷ w.held; waiting = r.1; released = w.released ++ r.0 }

          on : On s w (event.Log t n) outcome.New r.0 next
          on = inr (
            in_setting m s w y st t low,
            inr (inr (
              plain_entry x,
              (of.here, of.thread, of.number),
              (λ k. fresh (there_known s w st.sound.firm y.logger.held st.logger.holds (plain_entry x)
                  (to_system (plain_entry x) k))),
              refl,
              record { stay = r.1; parts = r.2; new_is = refl },
            )),
          )

          grows : (u k : ℕ) → IsKnownLane (lane y.logger.held u) k → IsKnownLane (lane now.held u) k
          grows u k h = more_with_entry y.logger.held now.held x.thread x.number x puts others u k h

          marks : (u k : ℕ) → WasMarked y.logger.released u k → WasMarked now.released u k
          marks = marks_stay y.logger.released now.released go once

-- From the parts of a system as its code has them to those before and after a call.

-- what was released is noted and listed
pub noted_new : {P V : Type 0} (view now new : Parts P V) (links : Sending) (logger : Logger) (outputs go : List Output)
    (list : List (ℕ × ℕ)) → view ≡ now → outputs ≡ go
    → NotesReleased outputs list (record view { sent = links; logger = logger }) new
    → (list ≡ names_of go)
    × (record view { sent = links; logger = logger; released = view.released ++ names_of go } ≡ new)
noted_new {P} {V} view now new links logger outputs go list same is noted = (
  names,
  ap (λ (l : List (ℕ × ℕ)). record view { sent = links; logger = logger; released = view.released ++ l }) (sym names)
      ∙ sym noted.new_is,
)
  where
    names : list ≡ names_of go
    names = noted.list_is ∙ ap names_of is

-- one answer is not the other
pub not_known : (r : Result EntryTook NoMemory) → r ≡ Ok took_of.New → r ≡ Ok took_of.Known → ⊥
not_known r a b = cc

-- the entry was known, where it is not new and of the present epoch
pub was_known : (r : Result EntryTook NoMemory) (took : EntryTook) (epoch present : ℕ) → r ≡ Ok took
    → (took ≡ took_of.Known) ⊎ (took ≡ took_of.OldEpoch) → epoch ≡ present → (r ≡ Ok took_of.OldEpoch → epoch < present)
    → (r ≡ Ok took_of.Known) × (r ≢ Ok took_of.New)
was_known r took epoch present is (inl known) same old = (is ∙ ap Ok known, λ new. let at = is ∙ ap Ok known in cc)
was_known r took epoch present is (inr other) same old =
    let late = old (is ∙ ap Ok other) in absurd (omega (arith, late, same))

-- nothing changed
pub same_parts : {P V : Type 0} (view now : Parts P V) (logger : Logger) → view ≡ now → logger ≡ view.logger
    → view ≡ record view { logger = logger }
same_parts view now logger is same = ap (λ (l : Logger). record view { logger = l }) (sym same)

-- the parts of a system stay such, where an entry or an output was taken
pub parts_still : {P V : Type 0} (m : Meaning V) (may_have : ℕ → V → Type 0) (y : Parts P V) (links : Sending)
    (now : Logger) (names : List (ℕ × ℕ)) → AreParts m may_have y → links.threads ≡ y.sent.threads
    → length now.held ≡ length y.logger.held
    → AreParts m may_have (record y { sent = links; logger = now; released = names })
parts_still {P} {V} m may_have y links now names are sent held = record {
  fits = are.fits;
  some_threads = are.some_threads;
  few_threads = are.few_threads;
  master = are.master;
  logger = held ∙ are.logger;
  sent = sent ∙ are.sent;
  stored_fits = are.stored_fits;
  copy_fits = are.copy_fits;
  stored = are.stored;
  copied = are.copied;
  few_packets = are.few_packets;
  left = are.left;
  fed = are.fed;
  moves = are.moves;
  bytes = are.bytes;
}
