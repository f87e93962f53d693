-- The links at a recovery: each thread is turned back, and a new epoch begins.
use Rattle.std.proofs.Common.{◌≡◌, ◌≢◌, ℕ, zero, suc, ◌+◌, ◌<◌, ◌≤◌, List, [], Option, Some, None, length, take, refl}
use Rattle.std.proofs.Common.{sym, ap, ◌∙◌, subst, inl, inr, ◌⊎◌, arith}
use Rattle.std.specs.Prelude.{slice_index_or, slice_set, HoldsAt}
use Rattle.std.proofs.lemmas.Bool.{cases_lt}
use Rattle.std.proofs.lemmas.List.{get_or-set_same, get_or-set_other, get_or_past, get_or_default, set_past}
use Rattle.plain_text.specs.declared.kind.Kind.TheVariants.{Out}
use Rattle.entry_order.proofs.Order.{is_or}
use Rattle.link_store.specs.declared.address.Address.{Address}
use Rattle.link_store.specs.Links.{address, frame_at, Forgets, IsPast, IsOutputOf}
use Rattle.master_core.specs.declared.parts.Counts.{Counts}
use Rattle.master_core.specs.declared.parts.ThreadPart.{ThreadPart}
use Rattle.master_core.specs.Mastered.{Mastered}
use Rattle.link_store.specs.Sending.{Sending, lengths_of, output_address, BeginsEpoch, TurnsBack}
use Rattle.crash_recovery.specs.Recovering.{HasMade, TurnsLinks}
use Rattle.system_parts.proofs.SentLemmas.{output_frame_stays}

-- The lengths of a thread's frames, turned back

none_taken : (n : ℕ) → take {A = ℕ} n [] ≡ []
none_taken zero = refl
none_taken (suc n) = refl

turned_there : (lengths : List (List ℕ)) (t n : ℕ)
    → lengths_of (slice_set lengths t (take n (lengths_of lengths t))) t ≡ take n (lengths_of lengths t)
turned_there lengths t n = go (cases_lt t (length lengths))
  where
    go : (t < length lengths) ⊎ (length lengths ≤ t)
        → lengths_of (slice_set lengths t (take n (lengths_of lengths t))) t ≡ take n (lengths_of lengths t)
    go (inl low) = get_or-set_same lengths t (take n (lengths_of lengths t)) [] low
    go (inr high) =
        let none : lengths_of lengths t ≡ [] = get_or_past lengths t [] high in
        ap (λ (l : List (List ℕ)). lengths_of l t) (set_past lengths t (take n (lengths_of lengths t)) high)
        ∙ (none ∙ sym (ap (λ (l : List ℕ). take n l) none ∙ none_taken n))

turned_other : (lengths : List (List ℕ)) (t u n : ℕ) → u ≢ t
    → lengths_of (slice_set lengths t (take n (lengths_of lengths t))) u ≡ lengths_of lengths u
turned_other lengths t u n other = get_or-set_other lengths t u (take n (lengths_of lengths t)) [] other

-- The links after so many threads were turned back, in the same epoch
pub record TurnedBack {V : Type 0} (master : Mastered V) (count : ℕ) (old mid : Sending) : Type 0 where
  pub kept : (a : Address) → (IsOutputOf old.epoch a → HasMade master count a.thread a.number)
      → frame_at mid.frames a ≡ frame_at old.frames a
  pub gone : (a : Address) → IsOutputOf old.epoch a → a.thread < count
      → HoldsAt (λ (part : ThreadPart). part.counts.outputs < a.number) master.threads a.thread
      → frame_at mid.frames a ≡ None
  pub entries : (t : ℕ) → t < count → HoldsAt
      (λ (part : ThreadPart). lengths_of mid.entries t ≡ take part.counts.entries (lengths_of old.entries t))
      master.threads t
  pub outputs : (t : ℕ) → t < count → HoldsAt
      (λ (part : ThreadPart). lengths_of mid.outputs t ≡ take part.counts.outputs (lengths_of old.outputs t))
      master.threads t
  pub others : (t : ℕ) → count ≤ t
      → (lengths_of mid.entries t ≡ lengths_of old.entries t) × (lengths_of mid.outputs t ≡ lengths_of old.outputs t)
  pub epoch : mid.epoch ≡ old.epoch
  pub threads : mid.threads ≡ old.threads

pub turned_none : {V : Type 0} (master : Mastered V) (old : Sending) → TurnedBack master 0 old old
turned_none master old = record {
  kept = λ a made. refl;
  gone = λ a of low past. absurd (omega (arith, low));
  entries = λ t low. absurd (omega (arith, low));
  outputs = λ t low. absurd (omega (arith, low));
  others = λ t high. (refl, refl);
  epoch = refl;
  threads = refl;
}

still_none : (P : Address → Type 0) (old new : List (Address × List ℕ)) (a : Address) → Forgets P old new
    → frame_at old a ≡ None → frame_at new a ≡ None
still_none P old new a f none = go (frame_at new a) refl
  where
    go : (o : Option (List ℕ)) → frame_at new a ≡ o → frame_at new a ≡ None
    go None is = is
    go (Some x) is = f.others a (λ p. let gone = f.forgotten a p in cc) ∙ none

pub turned_more : {V : Type 0} (master : Mastered V) (t : ℕ) (counts : Counts) (old mid new : Sending)
    → HoldsAt (λ (part : ThreadPart). counts ≡ part.counts) master.threads t → TurnedBack master t old mid
    → TurnsBack mid new t counts.entries counts.outputs → TurnedBack master (t + 1) old new
turned_more {V} master t counts old mid new is h b = record {
  kept = λ a made. stays a made;
  gone = λ a of low past. goes a of (is_or a.thread t) low past;
  entries = λ u low. one_entries u (is_or u t) low;
  outputs = λ u low. one_outputs u (is_or u t) low;
  others = λ u high.
      let apart : u ≢ t = omega (arith, high) in
      let before = h.others u (omega (arith, high)) in (
        ap (λ (l : List (List ℕ)). lengths_of l u) b.entries
            ∙ (turned_other mid.entries t u counts.entries apart ∙ before.0),
        ap (λ (l : List (List ℕ)). lengths_of l u) b.outputs
            ∙ (turned_other mid.outputs t u counts.outputs apart ∙ before.1),
      );
  epoch = b.epoch ∙ h.epoch;
  threads = b.threads ∙ h.threads;
}
  where
    blank : ThreadPart
    blank = record { counts = counts; hand = None; stamp = [] }

    stays : (a : Address) → (IsOutputOf old.epoch a → HasMade master (t + 1) a.thread a.number)
        → frame_at new.frames a ≡ frame_at old.frames a
    stays a made =
        b.forgets.others a (λ past. off past) ∙ h.kept a (λ of low. made of (omega (arith, low)))
      where
        off : IsPast (output_address mid t counts.outputs) a → ⊥
        off past =
            let own = past.thread in
            let most : a.number ≤ (slice_index_or master.threads a.thread blank).counts.outputs =
            made (past.epoch ∙ h.epoch, past.kind) (omega (arith, own)) blank in
            let there : (slice_index_or master.threads a.thread blank).counts.outputs ≡ counts.outputs =
            ap (λ (u : ℕ). (slice_index_or master.threads u blank).counts.outputs) own
            ∙ sym (ap (λ (k : Counts). k.outputs) (is blank)) in
            let above = past.number in
            omega (arith, most, there, above)

    goes : (a : Address) → IsOutputOf old.epoch a → (a.thread ≡ t) ⊎ (a.thread ≢ t) → a.thread < t + 1
        → HoldsAt (λ (part : ThreadPart). part.counts.outputs < a.number) master.threads a.thread
        → frame_at new.frames a ≡ None
    goes a of (inl same) low past = b.forgets.forgotten a (record {
      epoch = of.0 ∙ sym h.epoch;
      kind = of.1;
      thread = same;
      number =
          let above = past blank in
          let there : (slice_index_or master.threads a.thread blank).counts.outputs ≡ counts.outputs =
          ap (λ (u : ℕ). (slice_index_or master.threads u blank).counts.outputs) same
          ∙ sym (ap (λ (k : Counts). k.outputs) (is blank)) in
          omega (arith, above, there);
    })
    goes a of (inr other) low past =
        still_none (IsPast (output_address mid t counts.outputs)) mid.frames new.frames a b.forgets
        (h.gone a of (omega (arith, low, other)) past)

    here_entries : lengths_of new.entries t ≡ take counts.entries (lengths_of old.entries t)
    here_entries =
        ap (λ (l : List (List ℕ)). lengths_of l t) b.entries
        ∙ (turned_there mid.entries t counts.entries
        ∙ ap (λ (l : List ℕ). take counts.entries l) (h.others t (omega arith)).0)

    here_outputs : lengths_of new.outputs t ≡ take counts.outputs (lengths_of old.outputs t)
    here_outputs =
        ap (λ (l : List (List ℕ)). lengths_of l t) b.outputs
        ∙ (turned_there mid.outputs t counts.outputs
        ∙ ap (λ (l : List ℕ). take counts.outputs l) (h.others t (omega arith)).1)

    one_entries : (u : ℕ) → (u ≡ t) ⊎ (u ≢ t) → u < t + 1
        → HoldsAt
        (λ (part : ThreadPart). lengths_of new.entries u ≡ take part.counts.entries (lengths_of old.entries u))
        master.threads u
    one_entries u (inl same) low =
        subst
        (λ (v : ℕ).
        HoldsAt (λ (part : ThreadPart). lengths_of new.entries v ≡ take part.counts.entries (lengths_of old.entries v))
        master.threads v) (sym same)
        (λ d. here_entries ∙ ap (λ (k : Counts). take k.entries (lengths_of old.entries t)) (is d))
    one_entries u (inr apart) low = λ d.
        ap (λ (l : List (List ℕ)). lengths_of l u) b.entries
        ∙ (turned_other mid.entries t u counts.entries apart ∙ h.entries u (omega (arith, low, apart)) d)

    one_outputs : (u : ℕ) → (u ≡ t) ⊎ (u ≢ t) → u < t + 1
        → HoldsAt
        (λ (part : ThreadPart). lengths_of new.outputs u ≡ take part.counts.outputs (lengths_of old.outputs u))
        master.threads u
    one_outputs u (inl same) low =
        subst
        (λ (v : ℕ).
        HoldsAt (λ (part : ThreadPart). lengths_of new.outputs v ≡ take part.counts.outputs (lengths_of old.outputs v))
        master.threads v) (sym same)
        (λ d. here_outputs ∙ ap (λ (k : Counts). take k.outputs (lengths_of old.outputs t)) (is d))
    one_outputs u (inr apart) low = λ d.
        ap (λ (l : List (List ℕ)). lengths_of l u) b.outputs
        ∙ (turned_other mid.outputs t u counts.outputs apart ∙ h.outputs u (omega (arith, low, apart)) d)

-- Then the next epoch begins
pub turns_then : {V : Type 0} (master : Mastered V) (count : ℕ) (old mid new : Sending) → count ≤ length master.threads
    → TurnedBack master count old mid → BeginsEpoch mid new → TurnsLinks master count old new
turns_then {V} master count old mid new there h b = record {
  stay = λ o has made. b.stay o
      (output_frame_stays old mid o h.epoch h.threads (h.kept (output_address old o.thread o.number) (λ of. made)) has);
  only = λ a. one a (b.only a);
  entries = λ t low d. ap (λ (l : List (List ℕ)). lengths_of l t) b.entries ∙ h.entries t low d;
  outputs = λ t low d. ap (λ (l : List (List ℕ)). lengths_of l t) b.outputs ∙ h.outputs t low d;
  others = λ t high.
      let k = h.others t high in (
        ap (λ (l : List (List ℕ)). lengths_of l t) b.entries ∙ k.0,
        ap (λ (l : List (List ℕ)). lengths_of l t) b.outputs ∙ k.1,
      );
  epoch = b.epoch ∙ ap (λ (n : ℕ). n + 1) h.epoch;
  threads = b.threads ∙ h.threads;
}
  where
    blank : ThreadPart
    blank = record { counts = record { taken = 0; entries = 0; outputs = 0 }; hand = None; stamp = [] }

    same_part : (t : ℕ) (d : ThreadPart) → t < count
        → (slice_index_or master.threads t d).counts.outputs ≡ (slice_index_or master.threads t blank).counts.outputs
    same_part t d low = ap (λ (part : ThreadPart). part.counts.outputs)
        (get_or_default master.threads t d blank (omega (arith, low, there)))

    one : (a : Address) → (frame_at new.frames a ≡ None)
        ⊎ (IsOutputOf new.epoch a × (frame_at mid.frames (output_address mid a.thread a.number) ≢ None))
        → (frame_at new.frames a ≡ None)
        ⊎ (IsOutputOf new.epoch a
        × HasMade master count a.thread a.number
        × (frame_at old.frames (output_address old a.thread a.number) ≢ None))
    one a (inl none) = inl none
    one a (inr (of, some)) = inr (of, made, λ none. some (at_mid ∙ (h.kept at (λ is. made) ∙ none)))
      where
        at : Address
        at = output_address old a.thread a.number

        at_mid : frame_at mid.frames (output_address mid a.thread a.number) ≡ frame_at mid.frames at
        at_mid = ap (λ (n : ℕ). frame_at mid.frames (address n Out a.thread a.number)) h.epoch

        made : HasMade master count a.thread a.number
        made low d = go (cases_lt (slice_index_or master.threads a.thread blank).counts.outputs a.number)
          where
            go : ((slice_index_or master.threads a.thread blank).counts.outputs < a.number)
                ⊎ (a.number ≤ (slice_index_or master.threads a.thread blank).counts.outputs)
                → a.number ≤ (slice_index_or master.threads a.thread d).counts.outputs
            go (inr few) = let same = same_part a.thread d low in omega (arith, few, same)
            go (inl above) = absurd (some (at_mid ∙ h.gone at (refl, refl) low (λ e.
                let same = same_part a.thread e low in omega (arith, above, same))))
