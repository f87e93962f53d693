-- What is on the links after a move of the master.
use Rattle.std.proofs.Common.{◌≡◌, ℕ, zero, suc, ◌+◌, ◌<◌, ◌≢◌, List, [], ◌∷◌, ◌++◌, length, length-append, refl, sym}
use Rattle.std.proofs.Common.{ap, ◌∙◌, subst, inl, inr, ◌⊎◌, arith, add-one, Option, Some, None, true, false, nat_eq}
use Rattle.std.specs.Prelude.{slice_get, slice_index}
use Rattle.std.proofs.lemmas.List.{get_or-set_same, get_or-set_other}
use Rattle.drawn_words.specs.Drawn.{Drawn}
use Rattle.plain_text.specs.declared.packet.Packet.{Packet}
use Rattle.plain_text.specs.declared.kind.Kind.TheVariants.{Log, Out}
use Rattle.entry_order.specs.Log.{Entry, entries, IsLog, IsIn}
use Rattle.entry_order.specs.Stamps.{IsStamp, IsOutputStamp}
use Rattle.entry_order.proofs.Order.{is_or, number_within, entries_step}
use Rattle.entry_order.proofs.Parts.{stamp_stays}
use Rattle.access_log.specs.declared.entry.StampedEntry.{StampedEntry}
use Rattle.access_log.specs.declared.entry.Output.{Output}
use Rattle.access_log.specs.Held.{Lane, lane, IsKnown}
use Rattle.link_store.specs.declared.address.Address.{Address}
use Rattle.link_store.specs.Links.{frame_at, Sends}
use Rattle.wire_frames.specs.declared.frame.Frame.TheVariants as frame_of
use Rattle.wire_frames.specs.Layout.{IsFrame}
use Rattle.wire_frames.specs.Writing.{CanPutEntry, CanPutOutput}
use Rattle.plain_machine.specs.declared.emission.Emission.{Emission}
use Rattle.plain_machine.specs.declared.plain_move.PlainMove.{PlainMove}
use Rattle.plain_machine.specs.Program.{Meaning}
use Rattle.plain_machine.specs.Machine.{Thread}
use Rattle.plain_machine.specs.History.{Act, Took, Did, Emitted, Ended, Step, log_of, sent_of, outputs, IsHistory}
use Rattle.plain_machine.specs.Agree.{SendsAfter}
use Rattle.plain_machine.proofs.Histories.{is_eq, not_eq}
use Rattle.snapshot_store.specs.FromMasterCore.{Mastered}
use Rattle.snapshot_store.specs.FromMasterCore.{plain_entry, emission_of_output}
use Rattle.snapshot_store.proofs.FromMasterCore.{other_output}
use Rattle.recovery_world.specs.World.{Sent, World}
use Rattle.recovery_world.specs.Events.{bytes_sent}
use Rattle.replay_guide.proofs.FromRecoveryLaws.{sent_after}
use Rattle.replay_guide.proofs.FromRecoveryLaws.{number_high}
use Rattle.link_store.specs.Sending.{Sending, lengths_of, length_at, one_longer, entry_size, output_size}
use Rattle.link_store.specs.Sending.{entry_address, output_address, HasEntryFrame, HasOutputFrame, SendsEntry}
use Rattle.link_store.specs.Sending.{SendsOutput}
use Rattle.system_parts.specs.Parts.{Parts}
use Rattle.system_parts.specs.SystemStanding.{IsSentEntry, IsSentOutput, HasSent}
use Rattle.dup_filter.specs.Numbers.{Numbers, WasMarked}

-- One more length

-- the lengths of the thread, and of another
lengths_same : (lengths : List (List ℕ)) (t size : ℕ) → t < length lengths
    → lengths_of (one_longer lengths t size) t ≡ lengths_of lengths t ++ size ∷ []
lengths_same lengths t size low = get_or-set_same lengths t (lengths_of lengths t ++ size ∷ []) [] low

lengths_other : (lengths : List (List ℕ)) (t u size : ℕ) → u ≢ t
    → lengths_of (one_longer lengths t size) u ≡ lengths_of lengths u
lengths_other lengths t u size other = get_or-set_other lengths t u (lengths_of lengths t ++ size ∷ []) [] other

-- the items of a list with one more
get_old : (xs : List ℕ) (n k size : ℕ) → slice_get xs n ≡ Some k → slice_get (xs ++ size ∷ []) n ≡ Some k
get_old [] n k size e = absurd (cc)
get_old (x ∷ xs) zero k size e = e
get_old (x ∷ xs) (suc n) k size e = get_old xs n k size e

get_new : (xs : List ℕ) (n size : ℕ) → n ≡ length xs → slice_get (xs ++ size ∷ []) n ≡ Some size
get_new [] zero size e = refl
get_new [] (suc n) size e = absurd (omega arith)
get_new (x ∷ xs) zero size e = absurd (omega arith)
get_new (x ∷ xs) (suc n) size e = get_new xs n size (omega arith)

-- the lengths of older frames stay
pub length_stays : (lengths : List (List ℕ)) (t size u n k : ℕ) → t < length lengths → length_at lengths u n ≡ Some k
    → length_at (one_longer lengths t size) u n ≡ Some k
length_stays lengths t size u zero k low is = absurd (cc)
length_stays lengths t size u (suc n) k low is = go (is_or u t)
  where
    go : (u ≡ t) ⊎ (u ≢ t) → slice_get (lengths_of (one_longer lengths t size) u) n ≡ Some k
    go (inl same) =
        subst (λ (v : ℕ). slice_get (lengths_of (one_longer lengths t size) v) n ≡ Some k) (sym same)
        (subst (λ (l : List ℕ). slice_get l n ≡ Some k) (sym (lengths_same lengths t size low)) (get_old
        (lengths_of lengths t) n k size (subst (λ (v : ℕ). slice_get (lengths_of lengths v) n ≡ Some k) same is)))
    go (inr other) = subst (λ (l : List ℕ). slice_get l n ≡ Some k) (sym (lengths_other lengths t u size other)) is

-- the new frame has its length
pub length_new : (lengths : List (List ℕ)) (t size n : ℕ) → t < length lengths → n ≡ length (lengths_of lengths t) + 1
    → length_at (one_longer lengths t size) t n ≡ Some size
length_new lengths t size n low is =
    subst (λ (k : ℕ). length_at (one_longer lengths t size) t k ≡ Some size)
    (sym (is ∙ add-one (length (lengths_of lengths t))))
    (subst (λ (l : List ℕ). slice_get l (length (lengths_of lengths t)) ≡ Some size)
    (sym (lengths_same lengths t size low)) (get_new (lengths_of lengths t) (length (lengths_of lengths t)) size refl))

-- one thread has one frame more
pub count_same : (lengths : List (List ℕ)) (t size : ℕ) → t < length lengths
    → length (lengths_of (one_longer lengths t size) t) ≡ length (lengths_of lengths t) + 1
count_same lengths t size low =
    ap length (lengths_same lengths t size low) ∙ length-append (lengths_of lengths t) (size ∷ [])

pub count_other : (lengths : List (List ℕ)) (t u size : ℕ) → u ≢ t
    → length (lengths_of (one_longer lengths t size) u) ≡ length (lengths_of lengths u)
count_other lengths t u size other = ap length (lengths_other lengths t u size other)

-- Frames that stay

-- the frame at its address stays
pub entry_frame_stays : (old new : Sending) (e : StampedEntry) → new.epoch ≡ old.epoch → new.threads ≡ old.threads
    → frame_at new.frames (entry_address old e.thread e.number)
    ≡ frame_at old.frames (entry_address old e.thread e.number) → HasEntryFrame old e → HasEntryFrame new e
entry_frame_stays old new e epoch threads same h = record {
  can = subst (λ (n : ℕ). CanPutEntry n new.threads e) (sym epoch)
      (subst (λ (n : ℕ). CanPutEntry old.epoch n e) (sym threads) h.can);
  bytes = h.bytes;
  is = subst (λ (n : ℕ). IsFrame h.bytes (frame_of.Entry n new.threads e)) (sym epoch)
      (subst (λ (n : ℕ). IsFrame h.bytes (frame_of.Entry old.epoch n e)) (sym threads) h.is);
  there = subst (λ (n : ℕ).
      frame_at new.frames (record { epoch = n; kind = Log; thread = e.thread; number = e.number }) ≡ Some h.bytes)
      (sym epoch) (same ∙ h.there);
}

pub output_frame_stays : (old new : Sending) (o : Output) → new.epoch ≡ old.epoch → new.threads ≡ old.threads
    → frame_at new.frames (output_address old o.thread o.number)
    ≡ frame_at old.frames (output_address old o.thread o.number) → HasOutputFrame old o → HasOutputFrame new o
output_frame_stays old new o epoch threads same h = record {
  can = subst (λ (n : ℕ). CanPutOutput n new.threads o) (sym epoch)
      (subst (λ (n : ℕ). CanPutOutput old.epoch n o) (sym threads) h.can);
  bytes = h.bytes;
  is = subst (λ (n : ℕ). IsFrame h.bytes (frame_of.Output n new.threads o)) (sym epoch)
      (subst (λ (n : ℕ). IsFrame h.bytes (frame_of.Output old.epoch n o)) (sym threads) h.is);
  there = subst (λ (n : ℕ).
      frame_at new.frames (record { epoch = n; kind = Out; thread = o.thread; number = o.number }) ≡ Some h.bytes)
      (sym epoch) (same ∙ h.there);
}

-- an older entry, or output, is still sent as it was
pub entry_stays_sent : (log more : List Entry) (held : List Lane) (old new : Sending) (e : Entry)
    → new.epoch ≡ old.epoch → new.threads ≡ old.threads → ((stamp : ℕ → ℕ) → IsStamp log e stamp → IsStamp more e stamp)
    → ((k : ℕ) → length_at old.entries e.thread e.number ≡ Some k → length_at new.entries e.thread e.number ≡ Some k)
    → frame_at new.frames (entry_address old e.thread e.number)
    ≡ frame_at old.frames (entry_address old e.thread e.number) → IsSentEntry log held old e
    → IsSentEntry more held new e
entry_stays_sent log more held old new e epoch threads stamps lengths same h = record {
  stamped = h.stamped;
  plain = h.plain;
  stamp = stamps (λ u. slice_index h.stamped.stamp u) h.stamp;
  size = lengths (entry_size h.stamped) h.size;
  there = go h.there;
}
  where
    go : HasEntryFrame old h.stamped
        ⊎ ((frame_at old.frames (entry_address old e.thread e.number) ≡ None) × IsKnown (lane held e.thread) e.number)
        → HasEntryFrame new h.stamped
        ⊎ ((frame_at new.frames (entry_address new e.thread e.number) ≡ None) × IsKnown (lane held e.thread) e.number)
    go (inl there) =
        inl (entry_frame_stays old new h.stamped epoch threads
        (subst (λ (f : Entry).
        frame_at new.frames (entry_address old f.thread f.number)
        ≡ frame_at old.frames (entry_address old f.thread f.number)) (sym h.plain) same) there)
    go (inr (none, known)) = inr (
      subst (λ (n : ℕ).
          frame_at new.frames (record { epoch = n; kind = Log; thread = e.thread; number = e.number }) ≡ None)
          (sym epoch) (same ∙ none),
      known,
    )

pub output_stays_sent : (log more : List Entry) (released : List Numbers) (old new : Sending) (o : Sent)
    → new.epoch ≡ old.epoch → new.threads ≡ old.threads
    → ((stamp : ℕ → ℕ) → IsOutputStamp log o.emission.thread o.after stamp
    → IsOutputStamp more o.emission.thread o.after stamp)
    → ((k : ℕ) → length_at old.outputs o.emission.thread o.emission.number ≡ Some k
    → length_at new.outputs o.emission.thread o.emission.number ≡ Some k)
    → frame_at new.frames (output_address old o.emission.thread o.emission.number)
    ≡ frame_at old.frames (output_address old o.emission.thread o.emission.number) → IsSentOutput log released old o
    → IsSentOutput more released new o
output_stays_sent log more released old new o epoch threads stamps lengths same h = record {
  stamped = h.stamped;
  plain = h.plain;
  stamp = stamps (λ u. slice_index h.stamped.stamp u) h.stamp;
  size = lengths (output_size h.stamped) h.size;
  there = go h.there;
}
  where
    go : HasOutputFrame old h.stamped
        ⊎ ((frame_at old.frames (output_address old o.emission.thread o.emission.number) ≡ None)
        × WasMarked released o.emission.thread o.emission.number)
        → HasOutputFrame new h.stamped
        ⊎ ((frame_at new.frames (output_address new o.emission.thread o.emission.number) ≡ None)
        × WasMarked released o.emission.thread o.emission.number)
    go (inl there) =
        inl (output_frame_stays old new h.stamped epoch threads
        (subst (λ (f : Emission).
        frame_at new.frames (output_address old f.thread f.number)
        ≡ frame_at old.frames (output_address old f.thread f.number)) (sym h.plain) same) there)
    go (inr (none, marked)) = inr (
      subst (λ (n : ℕ).
          frame_at new.frames (record { epoch = n; kind = Out; thread = o.emission.thread; number = o.emission.number })
          ≡ None) (sym epoch) (same ∙ none),
      marked,
    )

-- a frame sent in this epoch is none of a later one
none_later_still : (now : ℕ) (old new : Sending) (at : Address) (frame : List ℕ) → at.epoch ≡ now
    → Sends old.frames new.frames at frame → ((a : Address) → now < a.epoch → frame_at old.frames a ≡ None)
    → (a : Address) → now < a.epoch → frame_at new.frames a ≡ None
none_later_still now old new at frame here sends none a later =
    sends.others a
    (λ same. let q : a.epoch ≡ at.epoch = ap (λ (z : Address). z.epoch) same in absurd (omega (arith, q, here, later)))
    ∙ none a later

-- how many outputs a thread has, with one more
outputs_same : (o : Emission) (sent : List Emission) → outputs o.thread (o ∷ sent) ≡ outputs o.thread sent + 1
outputs_same o sent = let k : nat_eq o.thread o.thread ≡ true = is_eq o.thread o.thread refl in rw k refl

outputs_other : (u : ℕ) (o : Emission) (sent : List Emission) → o.thread ≢ u → outputs u (o ∷ sent) ≡ outputs u sent
outputs_other u o sent other = let k : nat_eq o.thread u ≡ false = not_eq o.thread u other in rw k refl

-- What was sent after a move

-- what the parts have sent of the world
abbrev pub SentOf : {P V : Type 0} → World V → Parts P V → Type 0
SentOf w y = HasSent w.epoch w.past y.logger.held y.logger.released y.sent

-- the world after a move, and the parts after it was noted
abbrev pub after_step : {V : Type 0} → World V → Step V → ℕ → World V
after_step w step drawn =
    record w { past = step ∷ w.past; drawn = drawn; moves = w.moves + 1; bytes = w.bytes + bytes_sent step.act }

abbrev pub after_note : {P V : Type 0} → Parts P V → Drawn → Mastered V → List PlainMove → ℕ → ℕ → Sending → Parts P V
after_note y g q schedule moves bytes sent =
    record y { generator = g; master = q; schedule = schedule; moves = moves; bytes = bytes; sent = sent }

-- a move that sends nothing out sends no output
sends_old : {V : Type 0} (a : Act V) (past : List (Step V)) (o : Emission) (n : ℕ)
    → ((p : Emission) → a ≡ Emitted p → ⊥)
    → ((a ≡ Emitted o) × (entries o.thread (log_of past) ≡ n)) ⊎ SendsAfter past o n → SendsAfter past o n
sends_old a past o n none (inl (is, at)) = absurd (none o is)
sends_old a past o n none (inr i) = i

module _ {P V : Type 0} (w : World V) (y : Parts P V) (drawn : ℕ) (g : Drawn) (q : Mastered V)
    (schedule : List PlainMove) (moves bytes : ℕ) (t : ℕ) (after : Thread) (h : SentOf w y) where
  pub sent_took : (k : ℕ)
      → SentOf (after_step w (record { thread = t; act = Took k; after = after }) drawn)
      (after_note y g q schedule moves bytes y.sent)
  sent_took k = record {
    epoch = h.epoch;
    entry_sent = h.entry_sent;
    output_sent = λ o i. h.output_sent o (sends_old (Took k) w.past o.emission o.after (λ p e. cc) i);
    entry_counts = h.entry_counts;
    output_counts = h.output_counts;
    none_later = h.none_later;
  }

  pub sent_ended : (k : ℕ)
      → SentOf (after_step w (record { thread = t; act = Ended k; after = after }) drawn)
      (after_note y g q schedule moves bytes y.sent)
  sent_ended k = record {
    epoch = h.epoch;
    entry_sent = h.entry_sent;
    output_sent = λ o i. h.output_sent o (sends_old (Ended k) w.past o.emission o.after (λ p e. cc) i);
    entry_counts = h.entry_counts;
    output_counts = h.output_counts;
    none_later = h.none_later;
  }

  pub sent_did : (e : StampedEntry) (left : Option V) (sent : Sending) → IsLog (plain_entry e ∷ log_of w.past)
      → e.thread < length y.sent.entries
      → IsStamp (plain_entry e ∷ log_of w.past) (plain_entry e) (λ u. slice_index e.stamp u) → SendsEntry y.sent sent e
      → SentOf (after_step w (record { thread = t; act = Did (plain_entry e) left; after = after }) drawn)
      (after_note y g q schedule moves bytes sent)
  sent_did e left sent good low stamp sends = record {
    epoch = sends.epoch ∙ h.epoch;
    entry_sent = entry;
    output_sent = λ o i. output o (sends_old (Did (plain_entry e) left) w.past o.emission o.after (λ p is. cc) i);
    entry_counts = λ u. counts u (entries_step u (plain_entry e) log);
    output_counts = λ u. ap (λ (l : List (List ℕ)). length (lengths_of l u)) sends.outputs ∙ h.output_counts u;
    none_later = none_later_still w.epoch y.sent sent (entry_address y.sent e.thread e.number) sends.frame.bytes h.epoch
        sends.sends h.none_later;
  }
    where
      log : List Entry
      log = log_of w.past

      number : e.number ≡ length (lengths_of y.sent.entries e.thread) + 1
      number = let a = good.0 in let b = h.entry_counts e.thread in omega (arith, a, b)

      entry : (f : Entry) → IsIn f (plain_entry e ∷ log) → IsSentEntry (plain_entry e ∷ log) y.logger.held sent f
      entry f (inl same) = subst (λ (x : Entry). IsSentEntry (plain_entry e ∷ log) y.logger.held sent x) same (record {
        stamped = e;
        plain = refl;
        stamp = stamp;
        size = subst (λ (l : List (List ℕ)). length_at l e.thread e.number ≡ Some (entry_size e)) (sym sends.entries)
            (length_new y.sent.entries e.thread (entry_size e) e.number low number);
        there = inl sends.frame;
      })
      entry f (inr i) =
          entry_stays_sent log (plain_entry e ∷ log) y.logger.held y.sent sent f sends.epoch sends.threads
          (λ s k. stamp_stays (plain_entry e) log f s good i k)
          (λ k is. subst (λ (l : List (List ℕ)). length_at l f.thread f.number ≡ Some k) (sym sends.entries)
          (length_stays y.sent.entries e.thread (entry_size e) f.thread f.number k low is))
          (sends.sends.others (entry_address y.sent f.thread f.number) other) (h.entry_sent f i)
        where
          other : entry_address y.sent f.thread f.number ≢ entry_address y.sent e.thread e.number
          other same =
              let th : f.thread ≡ e.thread = ap (λ (a : Address). a.thread) same in
              let no : f.number ≡ e.number = ap (λ (a : Address). a.number) same in
              let within = (number_within log f good.2 i).1 in
              let count : entries f.thread log ≡ entries e.thread log = ap (λ (u : ℕ). entries u log) th in
              let next = good.0 in
              omega (arith, no, within, count, next)

      output : (o : Sent) → SendsAfter w.past o.emission o.after
          → IsSentOutput (plain_entry e ∷ log) y.logger.released sent o
      output o i =
          output_stays_sent log (plain_entry e ∷ log) y.logger.released y.sent sent o sends.epoch sends.threads
          (λ s k.
          other_output log (plain_entry e) o.emission.thread o.after s good (sent_after w.past o.emission o.after i) k)
          (λ k is. subst (λ (l : List (List ℕ)). length_at l o.emission.thread o.emission.number ≡ Some k)
          (sym sends.outputs) is)
          (sends.sends.others (output_address y.sent o.emission.thread o.emission.number)
          (λ same. let kind : Out ≡ Log = ap (λ (a : Address). a.kind) same in cc)) (h.output_sent o i)

      counts : (u : ℕ)
          → ((entries u (plain_entry e ∷ log) ≡ entries u log) × (e.thread ≢ u))
          ⊎ ((e.thread ≡ u) × (entries u (plain_entry e ∷ log) ≡ entries u log + 1))
          → length (lengths_of sent.entries u) ≡ entries u (plain_entry e ∷ log)
      counts u (inl (same, other)) =
          ap (λ (l : List (List ℕ)). length (lengths_of l u)) sends.entries
          ∙ count_other y.sent.entries e.thread u (entry_size e) (λ k. other (sym k)) ∙ h.entry_counts u ∙ sym same
      counts u (inr (th, more)) =
          subst (λ (v : ℕ). length (lengths_of sent.entries v) ≡ entries v log + 1) th
          (ap (λ (l : List (List ℕ)). length (lengths_of l e.thread)) sends.entries
          ∙ count_same y.sent.entries e.thread (entry_size e) low
          ∙ ap (λ (n : ℕ). n + 1) (h.entry_counts e.thread))
          ∙ sym more

  pub sent_emitted : (m : Meaning V) (inputs : ℕ → List Packet) (threads : ℕ) (o : Output) (sent : Sending)
      → IsHistory m inputs threads w.past → IsLog (log_of w.past) → o.number ≡ outputs o.thread (sent_of w.past) + 1
      → o.thread < length y.sent.outputs
      → IsOutputStamp (log_of w.past) o.thread (entries o.thread (log_of w.past)) (λ u. slice_index o.stamp u)
      → SendsOutput y.sent sent o
      → SentOf (after_step w (record { thread = t; act = Emitted (emission_of_output o); after = after }) drawn)
      (after_note y g q schedule moves bytes sent)
  sent_emitted m inputs threads o sent hist good numbered low stamp sends = record {
    epoch = sends.epoch ∙ h.epoch;
    entry_sent = entry;
    output_sent = output;
    entry_counts = λ u. ap (λ (l : List (List ℕ)). length (lengths_of l u)) sends.entries ∙ h.entry_counts u;
    output_counts = λ u. counts u (is_or o.thread u);
    none_later = none_later_still w.epoch y.sent sent (output_address y.sent o.thread o.number) sends.frame.bytes
        h.epoch sends.sends h.none_later;
  }
    where
      log : List Entry
      log = log_of w.past

      number : o.number ≡ length (lengths_of y.sent.outputs o.thread) + 1
      number = let b = h.output_counts o.thread in omega (arith, numbered, b)

      entry : (f : Entry) → IsIn f log → IsSentEntry log y.logger.held sent f
      entry f i =
          entry_stays_sent log log y.logger.held y.sent sent f sends.epoch sends.threads (λ s k. k)
          (λ k is. subst (λ (l : List (List ℕ)). length_at l f.thread f.number ≡ Some k) (sym sends.entries) is)
          (sends.sends.others (entry_address y.sent f.thread f.number)
          (λ same. let kind : Log ≡ Out = ap (λ (a : Address). a.kind) same in cc)) (h.entry_sent f i)

      output : (x : Sent)
          → ((let a : Act V = Emitted (emission_of_output o) in a ≡ Emitted x.emission)
          × (entries x.emission.thread log ≡ x.after))
          ⊎ SendsAfter w.past x.emission x.after → IsSentOutput log y.logger.released sent x
      output x (inl (is, at)) =
          let same : emission_of_output o ≡ x.emission = cc in
          record {
            stamped = o;
            plain = same;
            stamp = subst (λ (n : ℕ). IsOutputStamp log x.emission.thread n (λ u. slice_index o.stamp u)) at (subst
                (λ (z : Emission). IsOutputStamp log z.thread (entries z.thread log) (λ u. slice_index o.stamp u))
                same stamp);
            size = subst (λ (z : Emission). length_at sent.outputs z.thread z.number ≡ Some (output_size o)) same
                (subst (λ (l : List (List ℕ)). length_at l o.thread o.number ≡ Some (output_size o)) (sym sends.outputs)
                (length_new y.sent.outputs o.thread (output_size o) o.number low number));
            there = inl sends.frame;
          }
      output x (inr i) =
          output_stays_sent log log y.logger.released y.sent sent x sends.epoch sends.threads (λ s k. k)
          (λ k is.
          subst (λ (l : List (List ℕ)). length_at l x.emission.thread x.emission.number ≡ Some k) (sym sends.outputs)
          (length_stays y.sent.outputs o.thread (output_size o) x.emission.thread x.emission.number k low is))
          (sends.sends.others (output_address y.sent x.emission.thread x.emission.number) other) (h.output_sent x i)
        where
          other : output_address y.sent x.emission.thread x.emission.number ≢ output_address y.sent o.thread o.number
          other same =
              let th : x.emission.thread ≡ o.thread = ap (λ (a : Address). a.thread) same in
              let no : x.emission.number ≡ o.number = ap (λ (a : Address). a.number) same in
              let within = number_high m inputs threads w.past x.emission x.after hist i in
              let count : outputs x.emission.thread (sent_of w.past) ≡ outputs o.thread (sent_of w.past) =
              ap (λ (u : ℕ). outputs u (sent_of w.past)) th in
              omega (arith, no, within, count, numbered)

      counts : (u : ℕ) → (o.thread ≡ u) ⊎ (o.thread ≢ u)
          → length (lengths_of sent.outputs u) ≡ outputs u (emission_of_output o ∷ sent_of w.past)
      counts u (inl th) =
          subst (λ (v : ℕ). length (lengths_of sent.outputs v) ≡ outputs v (emission_of_output o ∷ sent_of w.past)) th
          (ap (λ (l : List (List ℕ)). length (lengths_of l o.thread)) sends.outputs
          ∙ count_same y.sent.outputs o.thread (output_size o) low
          ∙ ap (λ (n : ℕ). n + 1) (h.output_counts o.thread)
          ∙ sym (outputs_same (emission_of_output o) (sent_of w.past)))
      counts u (inr other) =
          ap (λ (l : List (List ℕ)). length (lengths_of l u)) sends.outputs
          ∙ count_other y.sent.outputs o.thread u (output_size o) (λ k. other (sym k))
          ∙ h.output_counts u
          ∙ sym (outputs_other u (emission_of_output o) (sent_of w.past) other)
