-- What was sent, as it is after a recovery: the lengths of what the stored snapshot made, and its outputs on the links.
use Rattle.std.proofs.Common.{◌≡◌, ◌≢◌, ℕ, zero, suc, ◌+◌, ◌<◌, ◌≤◌, List, [], ◌∷◌, length, take, refl, sym, ap, ◌∙◌, subst}
use Rattle.std.proofs.Common.{inl, inr, ◌⊎◌, arith, Some, None}
use Rattle.std.specs.Prelude.{slice_get, slice_index}
use Rattle.std.proofs.lemmas.Bool.{cases_lt}
use Rattle.std.proofs.lemmas.List.{length-take-le}
use Rattle.plain_text.specs.declared.packet.Packet.{Packet}
use Rattle.plain_text.specs.declared.kind.Kind.TheVariants.{Log, Out}
use Rattle.entry_order.specs.Log.{Entry, entries, IsIn}
use Rattle.entry_order.proofs.Order.{number_within}
use Rattle.plain_machine.proofs.QuietMoves.{sends_later}
use Rattle.access_log.specs.declared.entry.Output.{Output}
use Rattle.access_log.specs.Held.{Lane, lane}
use Rattle.dup_filter.specs.Numbers.{Numbers, WasMarked}
use Rattle.link_store.specs.declared.address.Address.{Address}
use Rattle.link_store.specs.Links.{frame_at, IsOutputOf}
use Rattle.plain_machine.specs.declared.emission.Emission.{Emission}
use Rattle.plain_machine.specs.Program.{Meaning}
use Rattle.plain_machine.specs.History.{Step, log_of, sent_of, outputs, IsHistory}
use Rattle.plain_machine.specs.Agree.{SendsAfter}
use Rattle.plain_machine.proofs.Histories.{history_log, earlier_history, earlier_log, earlier_outputs}
use Rattle.plain_machine.proofs.LoggedEffects.{entry_thread}
use Rattle.master_core.specs.declared.parts.ThreadPart.{ThreadPart}
use Rattle.master_core.proofs.Moments.{none_past_threads}
use Rattle.snapshot_store.specs.Stored.{Snapshot}
use Rattle.recovery_world.specs.World.{Setting, Sent, World, inputs_fed}
use Rattle.recovery_laws.specs.Sound.{Sound}
use Rattle.recovery_laws.proofs.SoundParts.{sent_after}
use Rattle.recovery_laws.proofs.Settlings.{number_high}
use Rattle.recovery_laws.proofs.Finishes.{sends_thread}
use Rattle.link_store.specs.Sending.{Sending, lengths_of, length_at, entry_size, output_size, entry_address}
use Rattle.link_store.specs.Sending.{output_address, HasOutputFrame}
use Rattle.system_parts.specs.SystemStanding.{IsSentEntry, IsSentOutput, HasSent, IsSnapshot}
use Rattle.crash_recovery.proofs.EarlierStamps.{stamp_back, output_back, few_entries}
use Rattle.crash_recovery.specs.Recovering.{HasMade, TurnsLinks}
use Rattle.system_parts.proofs.OutputNumbers.{output_there}

-- Lengths that stay

get_taken : (xs : List ℕ) (k n size : ℕ) → n < k → slice_get xs n ≡ Some size → slice_get (take k xs) n ≡ Some size
get_taken [] k n size low is = absurd (cc)
get_taken (x ∷ xs) zero n size low is = absurd (omega (arith, low))
get_taken (x ∷ xs) (suc k) zero size low is = is
get_taken (x ∷ xs) (suc k) (suc n) size low is = get_taken xs k n size (omega (arith, low)) is

length_cut : (old new : List (List ℕ)) (t n k size : ℕ) → lengths_of new t ≡ take k (lengths_of old t) → n ≤ k
    → length_at old t n ≡ Some size → length_at new t n ≡ Some size
length_cut old new t zero k size cut low is = absurd (cc)
length_cut old new t (suc n) k size cut low is = subst (λ (l : List ℕ). slice_get l n ≡ Some size) (sym cut)
    (get_taken (lengths_of old t) k n size (omega (arith, low)) is)

-- A thread that there is none of sends nothing.
no_outputs : {V : Type 0} (m : Meaning V) (inputs : ℕ → List Packet) (threads : ℕ) (steps : List (Step V)) (t : ℕ)
    → IsHistory m inputs threads steps → threads ≤ t → outputs t (sent_of steps) ≡ 0
no_outputs m inputs threads steps t h high = go (cases_lt 0 (outputs t (sent_of steps)))
  where
    go : (0 < outputs t (sent_of steps)) ⊎ (outputs t (sent_of steps) ≤ 0) → outputs t (sent_of steps) ≡ 0
    go (inr none) = omega (arith, none)
    go (inl some) =
        let g = output_there m inputs threads steps t 1 h (omega arith) (omega (arith, some)) in
        let low = (sends_thread m inputs threads steps g.0 g.1 h g.2).0 in
        let own : g.0.thread ≡ t = g.3 in
        absurd (omega (arith, low, own, high))

-- What was sent
module _ {V : Type 0} (s : Setting V) (w : World V) (sound : Sound s w) (held now_held : List Lane)
    (released now_released : List Numbers) (old new : Sending) (snap : Snapshot V) (kept : IsSnapshot s w.stored snap)
    (turns : TurnsLinks snap.master s.threads old new)
    (marks : (t n : ℕ) → WasMarked released t n → WasMarked now_released t n)
    (covered : (t : ℕ) → (lane now_held t).covered ≡ entries t (log_of w.stored))
    (h : HasSent w.epoch w.past held released old) where
  legal : IsHistory s.meaning (inputs_fed s w.fed) s.threads w.past
  legal = sound.firm.legal

  first_legal : IsHistory s.meaning (inputs_fed s w.fed) s.threads w.stored
  first_legal = earlier_history s.meaning (inputs_fed s w.fed) s.threads w.stored w.past sound.firm.stored legal

  epoch_is : new.epoch ≡ w.epoch + 1
  epoch_is = turns.epoch ∙ ap (λ (k : ℕ). k + 1) h.epoch

  blank : ThreadPart
  blank = record { counts = record { taken = 0; entries = 0; outputs = 0 }; hand = None; stamp = [] }

  cut_entries : (t : ℕ) → t < s.threads
      → lengths_of new.entries t ≡ take (entries t (log_of w.stored)) (lengths_of old.entries t)
  cut_entries t low =
      turns.entries t low blank
      ∙ ap (λ (k : ℕ). take k (lengths_of old.entries t)) (kept.stands.thread t blank low).logged

  cut_outputs : (t : ℕ) → t < s.threads
      → lengths_of new.outputs t ≡ take (outputs t (sent_of w.stored)) (lengths_of old.outputs t)
  cut_outputs t low =
      turns.outputs t low blank
      ∙ ap (λ (k : ℕ). take k (lengths_of old.outputs t)) (kept.stands.thread t blank low).outputs

  entry_again : (e : Entry) → IsIn e (log_of w.stored) → IsSentEntry (log_of w.stored) now_held new e
  entry_again e i = record {
    stamped = was.stamped;
    plain = was.plain;
    stamp = stamp_back s.meaning (inputs_fed s w.fed) s.threads w.past w.stored legal sound.firm.stored e
        (λ u. slice_index was.stamped.stamp u) i was.stamp;
    size = length_cut old.entries new.entries e.thread e.number (entries e.thread (log_of w.stored))
        (entry_size was.stamped)
        (cut_entries e.thread (entry_thread s.meaning (inputs_fed s w.fed) s.threads w.stored e first_legal i))
        low was.size;
    there = inr (
      go (turns.only (entry_address new e.thread e.number)),
      inl (let c = covered e.thread in omega (arith, c, low)),
    );
  }
    where
      was : IsSentEntry (log_of w.past) held old e
      was = h.entry_sent e (earlier_log w.stored w.past e sound.firm.stored i)

      low : e.number ≤ entries e.thread (log_of w.stored)
      low = (number_within (log_of w.stored) e
          (history_log s.meaning (inputs_fed s w.fed) s.threads w.stored first_legal) i).1

      go : (frame_at new.frames (entry_address new e.thread e.number) ≡ None)
          ⊎ (IsOutputOf new.epoch (entry_address new e.thread e.number)
          × HasMade snap.master s.threads e.thread e.number
          × (frame_at old.frames (output_address old e.thread e.number) ≢ None))
          → frame_at new.frames (entry_address new e.thread e.number) ≡ None
      go (inl none) = none
      go (inr k) = absurd (let no = k.0.1 in cc)

  output_again : (o : Sent) → SendsAfter w.stored o.emission o.after → IsSentOutput (log_of w.stored) now_released new o
  output_again o sends = at was.there
    where
      was : IsSentOutput (log_of w.past) released old o
      was = h.output_sent o (sends_later w.stored w.past o.emission o.after sound.firm.stored sends)

      low : o.emission.number ≤ outputs o.emission.thread (sent_of w.stored)
      low = number_high s.meaning (inputs_fed s w.fed) s.threads w.stored o.emission o.after first_legal sends

      thread : o.emission.thread < s.threads
      thread = (sends_thread s.meaning (inputs_fed s w.fed) s.threads w.stored o.emission o.after first_legal sends).0

      sized : (size : ℕ) → length_at old.outputs o.emission.thread o.emission.number ≡ Some size
          → length_at new.outputs o.emission.thread o.emission.number ≡ Some size
      sized size is = length_cut old.outputs new.outputs o.emission.thread o.emission.number
          (outputs o.emission.thread (sent_of w.stored)) size (cut_outputs o.emission.thread thread) low is

      -- as it is now, where it stays on the links or was released
      sent_as : HasOutputFrame new was.stamped
          ⊎ ((frame_at new.frames (output_address new o.emission.thread o.emission.number) ≡ None)
          × WasMarked now_released o.emission.thread o.emission.number)
          → IsSentOutput (log_of w.stored) now_released new o
      sent_as there = record {
        stamped = was.stamped;
        plain = was.plain;
        stamp = output_back s.meaning (inputs_fed s w.fed) s.threads w.past w.stored legal sound.firm.stored
            o.emission.thread o.after (λ u. slice_index was.stamped.stamp u)
            (sent_after w.stored o.emission o.after sends) was.stamp;
        size = length_cut old.outputs new.outputs o.emission.thread o.emission.number
            (outputs o.emission.thread (sent_of w.stored)) (output_size was.stamped)
            (cut_outputs o.emission.thread thread) low was.size;
        there = there;
      }

      made : HasMade snap.master s.threads was.stamped.thread was.stamped.number
      made few d =
          let own : was.stamped.thread ≡ o.emission.thread = ap (λ (q : Emission). q.thread) was.plain in
          let number : was.stamped.number ≡ o.emission.number = ap (λ (q : Emission). q.number) was.plain in
          let count = (kept.stands.thread was.stamped.thread d few).outputs in
          let same : outputs was.stamped.thread (sent_of w.stored) ≡ outputs o.emission.thread (sent_of w.stored) =
          ap (λ (t : ℕ). outputs t (sent_of w.stored)) own in
          omega (arith, number, count, same, low)

      none : frame_at old.frames (output_address old o.emission.thread o.emission.number) ≡ None
          → (frame_at new.frames (output_address new o.emission.thread o.emission.number) ≡ None)
          ⊎ (IsOutputOf new.epoch (output_address new o.emission.thread o.emission.number)
          × HasMade snap.master s.threads o.emission.thread o.emission.number
          × (frame_at old.frames (output_address old o.emission.thread o.emission.number) ≢ None))
          → frame_at new.frames (output_address new o.emission.thread o.emission.number) ≡ None
      none gone (inl is) = is
      none gone (inr k) = absurd (k.2 gone)

      at : HasOutputFrame old was.stamped
          ⊎ ((frame_at old.frames (output_address old o.emission.thread o.emission.number) ≡ None)
          × WasMarked released o.emission.thread o.emission.number)
          → IsSentOutput (log_of w.stored) now_released new o
      at (inl frame) = sent_as (inl (turns.stay was.stamped frame made))
      at (inr (gone, marked)) = sent_as (inr (
        none gone (turns.only (output_address new o.emission.thread o.emission.number)),
        marks o.emission.thread o.emission.number marked,
      ))

  pub sent_again : HasSent (w.epoch + 1) w.stored now_held now_released new
  sent_again = record {
    epoch = epoch_is;
    entry_sent = entry_again;
    output_sent = output_again;
    entry_counts = λ t. counted_entries t (cases_lt t s.threads);
    output_counts = λ t. counted_outputs t (cases_lt t s.threads);
    none_later = λ a later. last a later (turns.only a);
  }
    where
      counted_entries : (t : ℕ) → (t < s.threads) ⊎ (s.threads ≤ t)
          → length (lengths_of new.entries t) ≡ entries t (log_of w.stored)
      counted_entries t (inl low) =
          let few = few_entries s.meaning (inputs_fed s w.fed) s.threads w.past w.stored legal sound.firm.stored t in
          let all = h.entry_counts t in
          ap (λ (l : List ℕ). length l) (cut_entries t low)
          ∙ length-take-le (entries t (log_of w.stored)) (lengths_of old.entries t) (omega (arith, few, all))
      counted_entries t (inr high) =
          ap (λ (l : List ℕ). length l) (turns.others t high).0
          ∙ (h.entry_counts t
          ∙ (none_past_threads s.meaning (inputs_fed s w.fed) s.threads w.past t legal high
          ∙ sym (none_past_threads s.meaning (inputs_fed s w.fed) s.threads w.stored t first_legal high)))

      counted_outputs : (t : ℕ) → (t < s.threads) ⊎ (s.threads ≤ t)
          → length (lengths_of new.outputs t) ≡ outputs t (sent_of w.stored)
      counted_outputs t (inl low) =
          let few = earlier_outputs t w.stored w.past sound.firm.stored in
          let all = h.output_counts t in
          ap (λ (l : List ℕ). length l) (cut_outputs t low)
          ∙ length-take-le (outputs t (sent_of w.stored)) (lengths_of old.outputs t) (omega (arith, few, all))
      counted_outputs t (inr high) =
          ap (λ (l : List ℕ). length l) (turns.others t high).1
          ∙ (h.output_counts t
          ∙ (no_outputs s.meaning (inputs_fed s w.fed) s.threads w.past t legal high
          ∙ sym (no_outputs s.meaning (inputs_fed s w.fed) s.threads w.stored t first_legal high)))

      last : (a : Address) → w.epoch + 1 < a.epoch
          → (frame_at new.frames a ≡ None)
          ⊎ (IsOutputOf new.epoch a
          × HasMade snap.master s.threads a.thread a.number
          × (frame_at old.frames (output_address old a.thread a.number) ≢ None)) → frame_at new.frames a ≡ None
      last a later (inl none) = none
      last a later (inr k) = let e = k.0.0 in let is = epoch_is in absurd (omega (arith, later, e, is))
