-- What arrives by its kind, from an earlier epoch, or cut.
use Rattle.std.proofs.Common.{◌∷◌, ◌≡◌, ℕ, zero, suc, ◌+◌, ◌*◌, ◌<◌, ◌≤◌, List, [], length, refl, sym, ap, ◌∙◌, subst}
use Rattle.std.proofs.Common.{inl, inr, ◌⊎◌, Some, None, arith}
use Rattle.std.specs.Prelude.{slice_get, slice_index_or, ◌-◌}
use Rattle.std.proofs.lemmas.Bool.{cases_lt}
use Rattle.std.proofs.lemmas.Option.{slice_get_within, slice_get-get_or}
use Rattle.plain_text.specs.declared.kind.Kind.{Kind}
use Rattle.plain_text.specs.declared.kind.Kind.TheVariants as kind
use Rattle.entry_order.specs.Log.{Entry, IsLog, IsIn}
use Rattle.entry_order.proofs.Order.{entry_there}
use Rattle.access_log.specs.declared.entry.Output.{Output}
use Rattle.input_logger.specs.Inputs.{Fed}
use Rattle.plain_machine.specs.declared.emission.Emission.{Emission}
use Rattle.plain_machine.specs.Program.{Meaning}
use Rattle.plain_machine.specs.History.{log_of, IsHistory}
use Rattle.plain_machine.proofs.Histories.{history_log}
use Rattle.plain_machine.proofs.LoggedEffects.{entry_thread}
use Rattle.wire_frames.specs.Layout.{nonzero}
use Rattle.recovery_world.specs.declared.event.Event.{Event}
use Rattle.recovery_world.specs.declared.event.Event.TheVariants as event
use Rattle.recovery_world.specs.declared.event.Outcome.{Outcome}
use Rattle.recovery_world.specs.declared.event.Outcome.TheVariants as outcome
use Rattle.recovery_world.specs.World.{Setting, Sent, Ended as EndedEpoch, World, inputs_fed}
use Rattle.recovery_world.specs.Events.{EndedWith, count_of, WasSent, IsFrameLength, HasNone, On}
use Rattle.master_core.specs.declared.parts.Counts.{Counts}
use Rattle.output_releases.specs.FromEventReplies.{Reply}
use Rattle.link_store.specs.Sending.{length_at, lengths_of, entry_size, output_size}
use Rattle.output_releases.specs.FromSystemParts.{Parts}
use Rattle.output_releases.specs.FromSystemParts.{AreCounts, StandsFor}
use Rattle.output_releases.specs.FromSystemParts.{MovesOn, Releasing, Replies}
use Rattle.message_arrivals.specs.Arriving.{HadSent, arrival_of, counted}
use Rattle.output_releases.proofs.Answering.{in_setting}
use Rattle.output_releases.proofs.FromSystemParts.{output_there}
use Rattle.message_arrivals.proofs.ThreadCounts.{entry_long, output_long}

-- what the one comes to, the other comes to
pub moves_as : {P V : Type 0} (m : Meaning V) (ev other : Event) (reply : Reply) (before out : List Output)
    (view now new : Parts P V) → view ≡ now
    → ((s : Setting V) (w : World V) → StandsFor m s w view → (to : Outcome) (freed : List Sent) (next : World V)
    → On s w ev to freed next → On s w other to freed next)
    → MovesOn m (Releasing before out (Replies ev reply)) now new
    → MovesOn m (Releasing before out (Replies other reply)) now new
moves_as {P} {V} m ev other reply before out view now new same as_other moves = (
  moves.0,
  λ s w st.
      let r = moves.1 s w st in
      let answers = r.1.0 in (
        r.0,
        (
          (
            answers.0,
            (
              as_other s w (subst (λ (q : Parts P V). StandsFor m s w q) (sym same) st) reply.outcome answers.0 r.0
                  answers.1.0,
              answers.1.1,
            ),
            answers.2,
          ),
          r.1.1,
        ),
        r.2,
      ),
)

some_same : (a b : ℕ) → Some a ≡ Some b → a ≡ b
some_same a b is = cc

none_is_none : (a : ℕ) → None ≡ Some a → ⊥
none_is_none a is = cc

-- the frame of this number is among those sent
counted_length : (lengths : List (List ℕ)) (t n whole : ℕ) → Some whole ≡ length_at lengths t n
    → (1 ≤ n) × (n ≤ length (lengths_of lengths t))
counted_length lengths t zero whole is = absurd (none_is_none whole (sym is))
counted_length lengths t (suc n) whole is =
    let low = slice_get_within (lengths_of lengths t) n whole (sym is) in (omega arith, omega (arith, low))

-- an epoch whose counts were found is there
some_within : (ended : List (List Counts)) (i t : ℕ) (c : Counts) → slice_get (slice_index_or ended i []) t ≡ Some c
    → i < length ended
some_within [] i t c is = absurd (cc)
some_within (x ∷ ended) zero t c is = omega arith
some_within (x ∷ ended) (suc i) t c is = let low = some_within ended i t c is in omega (arith, low)

module _ {P V : Type 0} (m : Meaning V) (s : Setting V) (w : World V) (y : Parts P V) (st : StandsFor m s w y) where
  legal : IsHistory s.meaning (inputs_fed s w.fed) s.threads w.past
  legal = st.sound.firm.legal

  good : IsLog (log_of w.past)
  good = history_log s.meaning (inputs_fed s w.fed) s.threads w.past legal

  own : (f : Entry) → IsIn f (log_of w.past) → f.thread < s.threads
  own f i = entry_thread s.meaning (inputs_fed s w.fed) s.threads w.past f legal i

  no_thread : (t : ℕ) → y.inputs.threads ≤ t → s.threads ≤ t
  no_thread t high =
      let same : y.inputs.threads ≡ s.threads = ap (λ (f : Fed). f.threads) st.inputs.inputs in
      omega (arith, high, same)

  -- of a thread that there is none of
  pub arrives_nowhere : (k : Kind) (t n : ℕ) → y.inputs.threads ≤ t → On s w (arrival_of k t n) outcome.Nothing [] w
  arrives_nowhere kind.Log t n high = inl (no_thread t high, refl, refl, refl)
  arrives_nowhere kind.Out t n high = inl (no_thread t high, refl, refl, refl)

  -- Late messages

  pub late_now : (epoch : ℕ) (k : Kind) (t n : ℕ) → epoch ≡ y.logger.epoch → (to : Outcome) (freed : List Sent)
      (next : World V) → On s w (arrival_of k t n) to freed next → On s w (event.Late epoch k t n) to freed next
  late_now epoch kind.Log t n is to freed next (inl none) = inl none
  late_now epoch kind.Log t n is to freed next (inr (low, on)) = inr (low, inl (is ∙ st.logger.epoch, on))
  late_now epoch kind.Out t n is to freed next (inl none) = inl none
  late_now epoch kind.Out t n is to freed next (inr (low, on)) = inr (low, inl (is ∙ st.logger.epoch, on))

  -- what the counts in memory say of an earlier epoch is what its master did
  module _ (epoch : ℕ) (k : Kind) (t n : ℕ) where
    epoch_in : HadSent y.ended epoch k t n → epoch < w.epoch
    epoch_in h =
        let low = some_within y.ended (epoch - 1) t h.counts h.there in
        let there = st.ended.there in
        let all = st.ended.all in
        let from = h.from in
        omega (arith, low, there, all, from)

    epoch_there : HadSent y.ended epoch k t n → (x : EndedEpoch) × EndedWith w epoch x
    epoch_there h =
        let before = epoch_in h in
        let all = st.ended.all in
        let from = h.from in
        let none : EndedEpoch = record { entries = λ u. 0; outputs = λ u. 0 } in
        let low : w.epoch - epoch - 1 < length w.ended = omega (arith, before, all, from) in (
          slice_index_or w.ended (w.epoch - epoch - 1) none,
          (from, before, slice_get-get_or w.ended (w.epoch - epoch - 1) none low),
        )

    counts_are : (x : EndedEpoch) → EndedWith w epoch x → AreCounts s.threads x (slice_index_or y.ended (epoch - 1) [])
    counts_are x with = st.ended.each epoch x with.0 with.1 with.2

    kind_counts : (j : Kind) (x : EndedEpoch) (c : Counts) → (c.entries ≡ x.entries t) × (c.outputs ≡ x.outputs t)
        → counted j c ≡ count_of j x t
    kind_counts kind.Log x c is = is.0
    kind_counts kind.Out x c is = is.1

    was_sent : HadSent y.ended epoch k t n → WasSent w epoch k t n
    was_sent h =
        let x = epoch_there h in
        let c = (counts_are x.0 x.1).each t h.counts h.there in
        (x.0, x.1, h.first, subst (λ (j : ℕ). n ≤ j) (kind_counts k x.0 h.counts c) h.last)

    thread_in : HadSent y.ended epoch k t n → t < s.threads
    thread_in h =
        let x = epoch_there h in
        let low = slice_get_within (slice_index_or y.ended (epoch - 1) []) t h.counts h.there in
        let long = (counts_are x.0 x.1).long in
        omega (arith, low, long)

    had_sent : t < s.threads → WasSent w epoch k t n → HadSent y.ended epoch k t n
    had_sent low (x, with, first, last) =
        let is = counts_are x with in
        let none : Counts = record { taken = 0; entries = 0; outputs = 0 } in
        let long = is.long in
        let there = slice_get-get_or (slice_index_or y.ended (epoch - 1) []) t none (omega (arith, low, long)) in
        record {
          from = with.0;
          counts = slice_index_or (slice_index_or y.ended (epoch - 1) []) t none;
          there = there;
          first = first;
          last = subst (λ (j : ℕ). n ≤ j) (sym (kind_counts k x _ (is.each t _ there))) last;
        }

    pub late_old : (epoch ≡ y.logger.epoch → ⊥) → HadSent y.ended epoch k t n
        → On s w (event.Late epoch k t n) outcome.Old [] w
    late_old other h =
        inr (thread_in h, inr (inl ((λ is. other (is ∙ sym st.logger.epoch)), was_sent h, refl, refl, refl)))

    pub late_never : (epoch ≡ y.logger.epoch → ⊥) → (HadSent y.ended epoch k t n → ⊥)
        → On s w (event.Late epoch k t n) outcome.Nothing [] w
    late_never other none = go (cases_lt t s.threads)
      where
        go : (t < s.threads) ⊎ (s.threads ≤ t) → On s w (event.Late epoch k t n) outcome.Nothing [] w
        go (inl low) = inr (
          low,
          inr (inr ((λ is. other (is ∙ sym st.logger.epoch)), (λ sent. none (had_sent low sent)), refl, refl, refl)),
        )
        go (inr high) = inl (high, refl, refl, refl)

  -- Frames that come cut

  no_frame : (k : Kind) (t n : ℕ) → (k ≡ kind.Log → None ≡ length_at y.sent.entries t n)
      → (k ≡ kind.Out → None ≡ length_at y.sent.outputs t n) → HasNone w k t n
  no_frame kind.Log t n entry output =
      λ (e : Entry) (i, a, b).
      let sent = st.sent.entry_sent e i in
      absurd (none_is_none (entry_size sent.stamped) (entry refl ∙ ap (λ (u : ℕ). length_at y.sent.entries u n) (sym a)
      ∙ ap (λ (j : ℕ). length_at y.sent.entries e.thread j) (sym b) ∙ sent.size))
  no_frame kind.Out t n entry output =
      λ (o : Sent) (sends, (a, b)).
      let sent = st.sent.output_sent o sends in
      absurd (none_is_none (output_size sent.stamped)
      (output refl ∙ ap (λ (u : ℕ). length_at y.sent.outputs u n) (sym a)
      ∙ ap (λ (j : ℕ). length_at y.sent.outputs o.emission.thread j) (sym b) ∙ sent.size))

  frame_length : (k : Kind) (t n whole : ℕ) → (k ≡ kind.Log → Some whole ≡ length_at y.sent.entries t n)
      → (k ≡ kind.Out → Some whole ≡ length_at y.sent.outputs t n) → IsFrameLength s w k t n whole
  frame_length kind.Log t n whole entry output =
      let few = counted_length y.sent.entries t n whole (entry refl) in
      let count = st.sent.entry_counts t in
      let e = entry_there (log_of w.past) t n good few.0 (omega (arith, few, count)) in
      let sent = st.sent.entry_sent e.0 e.1 in (
        e.0,
        (e.1, e.2, e.3),
        entry_long (log_of w.past) s.threads e.0 sent.stamped.stamp whole good own sent.stamp
            (some_same whole (entry_size sent.stamped)
            (entry refl ∙ ap (λ (u : ℕ). length_at y.sent.entries u n) (sym e.2)
            ∙ ap (λ (j : ℕ). length_at y.sent.entries e.0.thread j) (sym e.3) ∙ sent.size)),
      )
  frame_length kind.Out t n whole entry output =
      let few = counted_length y.sent.outputs t n whole (output refl) in
      let count = st.sent.output_counts t in
      let o =
      output_there s.meaning (inputs_fed s w.fed) s.threads w.past t n legal few.0 (omega (arith, few, count)) in
      let here : Sent = record { emission = o.0; after = o.1 } in
      let sent = st.sent.output_sent here o.2 in (
        here,
        (o.2, (o.3, o.4)),
        output_long (log_of w.past) s.threads here sent.stamped.stamp whole good own sent.stamp
            (some_same whole (output_size sent.stamped)
            (output refl ∙ ap (λ (u : ℕ). length_at y.sent.outputs u n) (sym o.3)
            ∙ ap (λ (j : ℕ). length_at y.sent.outputs o.0.thread j) (sym o.4) ∙ sent.size)
            ∙ ap (λ (q : Emission). 47 + 8 * length (nonzero sent.stamped.stamp) + length q.packet.bytes) sent.plain),
      )

  pub cut_nowhere : (k : Kind) (t n len : ℕ) → y.inputs.threads ≤ t → On s w (event.Cut k t n len) outcome.Nothing [] w
  cut_nowhere k t n len high = inl (no_thread t high, refl, refl, refl)

  pub cut_nothing : (k : Kind) (t n len : ℕ) → t < y.inputs.threads
      → (k ≡ kind.Log → None ≡ length_at y.sent.entries t n) → (k ≡ kind.Out → None ≡ length_at y.sent.outputs t n)
      → On s w (event.Cut k t n len) outcome.Nothing [] w
  cut_nothing k t n len low entry output =
      inr (in_setting m s w y st t low, inl (no_frame k t n entry output, refl, refl, refl))

  pub cut_short : (k : Kind) (t n len whole : ℕ) → t < y.inputs.threads
      → (k ≡ kind.Log → Some whole ≡ length_at y.sent.entries t n)
      → (k ≡ kind.Out → Some whole ≡ length_at y.sent.outputs t n) → len < whole
      → On s w (event.Cut k t n len) outcome.Short [] w
  cut_short k t n len whole low entry output short = inr
      (in_setting m s w y st t low, inr (inl (whole, frame_length k t n whole entry output, short, refl, refl, refl)))

  pub cut_whole : (k : Kind) (t n len whole : ℕ) → t < y.inputs.threads
      → (k ≡ kind.Log → Some whole ≡ length_at y.sent.entries t n)
      → (k ≡ kind.Out → Some whole ≡ length_at y.sent.outputs t n) → whole ≤ len → (to : Outcome) (freed : List Sent)
      (next : World V) → On s w (arrival_of k t n) to freed next → On s w (event.Cut k t n len) to freed next
  cut_whole k t n len whole low entry output long to freed next on = go k (frame_length k t n whole entry output) on
    where
      go : (k : Kind) → IsFrameLength s w k t n whole → On s w (arrival_of k t n) to freed next
          → On s w (event.Cut k t n len) to freed next
      go kind.Log long_as (inl none) = inl none
      go kind.Log long_as (inr (in_it, on)) = inr (in_it, inr (inr (whole, long_as, long, on)))
      go kind.Out long_as (inl none) = inl none
      go kind.Out long_as (inr (in_it, on)) = inr (in_it, inr (inr (whole, long_as, long, on)))
