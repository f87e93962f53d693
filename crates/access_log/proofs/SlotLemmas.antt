-- Looking up an entry in slots and in the map past them.
use Rattle.std.proofs.Common.{◌≡◌, ℕ, zero, suc, ◌+◌, ◌-◌, ◌≤◌, ◌<◌, ◌≢◌, ◌↔◌, true, false, cond, List, [], ◌∷◌, ◌++◌}
use Rattle.std.proofs.Common.{Option, Some, None, IsSome, ◌^◌, length, slice_index_or, slice_get, slice_set}
use Rattle.std.proofs.Common.{option_to_list, IfSome, drop, min, leb, length-drop, length-append, length-set}
use Rattle.std.proofs.Common.{length-set, refl, sym, ap, ◌∙◌, ⊎_elim, arith}
use Rattle.std.specs.Map.{lookup}
use Rattle.std.specs.BTreeMap.{is_at}
use Rattle.std.specs.Ordering.{nat_cmp}
use Rattle.std.proofs.lemmas.Grind.{common_steps}
use Rattle.std.proofs.lemmas.Bool.{cases_lt}
use Rattle.std.proofs.lemmas.List.{length_push, get_or-drop, get_or-set_same, get_or-set_other}
use Rattle.std.proofs.Math.ListN.{get_or-eq_default, get_or-append}
use Rattle.std.proofs.Math.Seq.{get_or-append_seam}
use Rattle.access_log.specs.Held.{Lane}
use Rattle.access_log.specs.Lanes.{PutsEntry}
use Rattle.std.proofs.lemmas.Bool.Decides.{nat_tests}
use Rattle.access_log.specs.declared.entry.StampedEntry.{StampedEntry}
use Rattle.access_log.specs.Slots.{in_slots, IsSlotted, RetainsSlots}
use Rattle.thread_clock.specs.Clock.{AtMost}

none_from : {X : Type 0} (o : Option X) → (IsSome o → ⊥) → o ≡ None
none_from None h = refl
none_from (Some x) h = absurd (h refl)

none_of_some : {X : Type 0} (o : Option X) → IsSome o → ((x : X) → o ≡ Some x → ⊥) → ⊥
none_of_some None some h = cc
none_of_some (Some x) some h = h x refl

abbrev pub at : List (ℕ × StampedEntry) → ℕ → Option StampedEntry
at entries n = lookup (is_at (nat_cmp n)) entries

pub is_at-apart : (a b : ℕ) → a ≢ b → is_at (nat_cmp a) b ≡ false
is_at-apart a b h = grind (arith, common_steps, nat_tests)

pub is_at-same : (a b : ℕ) → a ≡ b → is_at (nat_cmp a) b ≡ true
is_at-same a b h = grind (arith, common_steps, nat_tests)

at-apart : (k n : ℕ) (e : StampedEntry) (entries : List (ℕ × StampedEntry)) → n ≢ k
    → at ((k, e) ∷ entries) n ≡ at entries n
at-apart k n e entries h = ap (λ b. cond b (Some e) (at entries n)) (is_at-apart n k h)

pub at-same : (k n : ℕ) (e : StampedEntry) (entries : List (ℕ × StampedEntry)) → n ≡ k
    → at ((k, e) ∷ entries) n ≡ Some e
at-same k n e entries h = ap (λ b. cond b (Some e) (at entries n)) (is_at-same n k h)

-- a number up to the first is not in the slots
pub at-before : (from : ℕ) (contiguous : List (Option StampedEntry)) (out_of_order : List (ℕ × StampedEntry)) (n : ℕ)
    → n ≤ from → at (in_slots from contiguous ++ out_of_order) n ≡ at out_of_order n
at-before from [] out_of_order n h = refl
at-before from (None ∷ contiguous) out_of_order n h = at-before (from + 1) contiguous out_of_order n (omega arith)
at-before from (Some e ∷ contiguous) out_of_order n h =
    let apart : n ≢ from + 1 = λ q. omega arith in
    at-apart (from + 1) n e _ apart ∙ at-before (from + 1) contiguous out_of_order n (omega arith)

-- nor is one past the last
pub at-past : (from : ℕ) (contiguous : List (Option StampedEntry)) (out_of_order : List (ℕ × StampedEntry)) (n : ℕ)
    → from + length contiguous < n → at (in_slots from contiguous ++ out_of_order) n ≡ at out_of_order n
at-past from [] out_of_order n h = refl
at-past from (None ∷ contiguous) out_of_order n h = at-past (from + 1) contiguous out_of_order n (omega arith)
at-past from (Some e ∷ contiguous) out_of_order n h =
    let apart : n ≢ from + 1 = λ q. omega arith in
    at-apart (from + 1) n e _ apart ∙ at-past (from + 1) contiguous out_of_order n (omega arith)

-- the others are in their slots
pub at-inside : (from : ℕ) (contiguous : List (Option StampedEntry)) (out_of_order : List (ℕ × StampedEntry)) (n i : ℕ)
    → n ≡ from + i + 1 → i < length contiguous → at out_of_order n ≡ None
    → at (in_slots from contiguous ++ out_of_order) n ≡ slice_index_or contiguous i None
at-inside from [] out_of_order n i e h none = absurd (omega arith)
at-inside from (None ∷ contiguous) out_of_order n zero e h none =
    at-before (from + 1) contiguous out_of_order n (omega arith) ∙ none
at-inside from (None ∷ contiguous) out_of_order n (suc i) e h none =
    at-inside (from + 1) contiguous out_of_order n i (omega arith) (omega arith) none
at-inside from (Some x ∷ contiguous) out_of_order n zero e h none = at-same (from + 1) n x _ (omega arith)
at-inside from (Some x ∷ contiguous) out_of_order n (suc i) e h none =
    let apart : n ≢ from + 1 = λ q. omega arith in
    at-apart (from + 1) n x _ apart ∙ at-inside (from + 1) contiguous out_of_order n i (omega arith) (omega arith) none

-- the first of the map may be a slot as well
pub in_slots-push : (from : ℕ) (contiguous : List (Option StampedEntry)) (k : ℕ) (e : StampedEntry)
    (out_of_order : List (ℕ × StampedEntry)) → k ≡ from + length contiguous + 1
    → in_slots from (contiguous ++ Some e ∷ []) ++ out_of_order ≡ in_slots from contiguous ++ (k, e) ∷ out_of_order
in_slots-push from [] k e out_of_order h = let same : from + 1 ≡ k = omega arith in ap (λ m. (m, e) ∷ out_of_order) same
in_slots-push from (None ∷ contiguous) k e out_of_order h =
    in_slots-push (from + 1) contiguous k e out_of_order (omega arith)
in_slots-push from (Some x ∷ contiguous) k e out_of_order h =
    ap (λ l. (from + 1, x) ∷ l) (in_slots-push (from + 1) contiguous k e out_of_order (omega arith))

-- no more slots are full than there are
pub length-in_slots : (from : ℕ) (contiguous : List (Option StampedEntry))
    → length (in_slots from contiguous) ≤ length contiguous
length-in_slots from [] = omega arith
length-in_slots from (None ∷ contiguous) = let rest = length-in_slots (from + 1) contiguous in omega arith
length-in_slots from (Some x ∷ contiguous) = let rest = length-in_slots (from + 1) contiguous in omega arith

-- of slots that are emptied no more are full
pub length-in_slots-fewer : (from : ℕ) (old new : List (Option StampedEntry)) → length new ≡ length old
    → ((i : ℕ) (e : StampedEntry) → slice_index_or new i None ≡ Some e → slice_index_or old i None ≡ Some e)
    → length (in_slots from new) ≤ length (in_slots from old)
length-in_slots-fewer from [] [] s h = omega arith
length-in_slots-fewer from [] (y ∷ new) s h = absurd (omega arith)
length-in_slots-fewer from (x ∷ old) [] s h = absurd (omega arith)
length-in_slots-fewer from (None ∷ old) (None ∷ new) s h =
    length-in_slots-fewer (from + 1) old new (omega arith) (λ i. h (suc i))
length-in_slots-fewer from (Some x ∷ old) (None ∷ new) s h =
    let rest = length-in_slots-fewer (from + 1) old new (omega arith) (λ i. h (suc i)) in omega arith
length-in_slots-fewer from (None ∷ old) (Some y ∷ new) s h = let no = h 0 y refl in cc
length-in_slots-fewer from (Some x ∷ old) (Some y ∷ new) s h =
    let rest = length-in_slots-fewer (from + 1) old new (omega arith) (λ i. h (suc i)) in omega arith

-- an empty slot that is filled adds one
pub length-in_slots-set : (from : ℕ) (contiguous : List (Option StampedEntry)) (i : ℕ) (e : StampedEntry)
    → i < length contiguous → slice_index_or contiguous i None ≡ None
    → length (in_slots from (slice_set contiguous i (Some e))) ≡ length (in_slots from contiguous) + 1
length-in_slots-set from [] i e h none = absurd (omega arith)
length-in_slots-set from (None ∷ contiguous) zero e h none = omega arith
length-in_slots-set from (Some x ∷ contiguous) zero e h none = cc
length-in_slots-set from (None ∷ contiguous) (suc i) e h none =
    length-in_slots-set (from + 1) contiguous i e (omega arith) none
length-in_slots-set from (Some x ∷ contiguous) (suc i) e h none =
    let rest = length-in_slots-set (from + 1) contiguous i e (omega arith) none in omega arith

-- what is held stands past what is covered, at a number of 64 bits
pub slotted_numbers : (covered : ℕ) (contiguous : List (Option StampedEntry)) (out_of_order : List (ℕ × StampedEntry))
    → IsSlotted covered contiguous out_of_order → (n : ℕ) → IsSome (at (in_slots covered contiguous ++ out_of_order) n)
    → (covered < n) × (n < 2 ^ 64)
slotted_numbers covered contiguous out_of_order is n h =
    ⊎_elim
    (λ above. ⊎_elim (λ past. (above, is.small n (rw (at-past covered contiguous out_of_order n past) at h)))
    (λ within. let fits = is.fits in (above, omega arith)) (cases_lt (covered + length contiguous) n))
    (λ before.
    let past = is.past n (rw (at-before covered contiguous out_of_order n before) at h) in absurd (omega arith))
    (cases_lt covered n)

-- past the slots and before them is only the map
pub no_later : (covered : ℕ) (contiguous : List (Option StampedEntry)) (out_of_order : List (ℕ × StampedEntry))
    → IsSlotted covered contiguous out_of_order → (n : ℕ) → n ≤ covered + length contiguous → at out_of_order n ≡ None
no_later covered contiguous out_of_order is n h = none_from _ (λ some. let past = is.past n some in omega arith)

-- one more slot
pub length-in_slots-push : (from : ℕ) (contiguous : List (Option StampedEntry)) (o : Option StampedEntry)
    → length (in_slots from (contiguous ++ o ∷ [])) ≡ length (in_slots from contiguous) + length (option_to_list o)
length-in_slots-push from [] None = refl
length-in_slots-push from [] (Some e) = refl
length-in_slots-push from (None ∷ contiguous) o = length-in_slots-push (from + 1) contiguous o
length-in_slots-push from (Some x ∷ contiguous) o =
    let rest = length-in_slots-push (from + 1) contiguous o in omega arith

pub at-outside : (from : ℕ) (contiguous : List (Option StampedEntry)) (out_of_order : List (ℕ × StampedEntry)) (n : ℕ)
    → (from < n → n ≤ from + length contiguous → ⊥)
    → at (in_slots from contiguous ++ out_of_order) n ≡ at out_of_order n
at-outside from contiguous out_of_order n h =
    ⊎_elim
    (λ above. ⊎_elim (λ past. at-past from contiguous out_of_order n past) (λ within. absurd (h above within))
    (cases_lt (from + length contiguous) n)) (λ before. at-before from contiguous out_of_order n before)
    (cases_lt from n)

-- the first entry of the map, moved into a slot
pub IsSlotted-gathered : (covered : ℕ) (contiguous : List (Option StampedEntry))
    (out_of_order rest : List (ℕ × StampedEntry)) (k : ℕ) (e : StampedEntry) → IsSlotted covered contiguous out_of_order
    → out_of_order ≡ (k, e) ∷ rest → at rest k ≡ None → k ≡ covered + length contiguous + 1
    → IsSlotted covered (contiguous ++ Some e ∷ []) rest
IsSlotted-gathered covered contiguous out_of_order rest k e is same gone next =
    let one : length (contiguous ++ Some e ∷ []) ≡ length contiguous + 1 = length_push contiguous (Some e) in
    let kept : (n : ℕ) → IsSome (at rest n) → n ≢ k =
    λ n some q. let no : at rest n ≡ None = rw q gone in let some' = rw no at some in cc in
    let old : (n : ℕ) → IsSome (at rest n) → IsSome (at out_of_order n) =
    λ n some. rw (same, at-apart k n e rest (kept n some)) some in
    let here : IsSome (at out_of_order k) = rw (same, at-same k k e rest refl) refl in
    let small = is.small k here in
    let fewer : length out_of_order ≡ length rest + 1 = rw same (omega arith) in
    let few = is.few in
    record {
      past = λ n some. let past = is.past n (old n some) in let apart = kept n some in grind arith;
      small = λ n some. is.small n (old n some);
      fits = omega arith;
      few = omega arith;
    }

-- what `pop_first` took is the first entry
pub popped : (o : Option (ℕ × StampedEntry)) (out_of_order rest : List (ℕ × StampedEntry)) (k : ℕ) (e : StampedEntry)
    → slice_get out_of_order 0 ≡ Some (k, e) → IsSome o → IfSome o (λ p. out_of_order ≡ p ∷ rest) → o ≡ Some (k, e)
popped None out_of_order rest k e first some took = cc
popped (Some p) [] rest k e first some took = cc
popped (Some p) (x ∷ out_of_order) rest k e first some took =
    let here : x ≡ (k, e) = cc in
    let same : x ≡ p = cc in
    ap Some (sym same ∙ here)

-- covered up to a count: the slots up to it are dropped, and so are the entries of the map
pub at-covered : (covered : ℕ) (contiguous : List (Option StampedEntry)) (out_of_order after : List (ℕ × StampedEntry))
    (count : ℕ) → IsSlotted covered contiguous out_of_order → covered ≤ count
    → ((n : ℕ) → at after n ≡ cond (leb n count) None (at out_of_order n)) → (n : ℕ)
    → at (in_slots count (drop (min (length contiguous) (count - covered)) contiguous) ++ after) n
    ≡ cond (leb n count) None (at (in_slots covered contiguous ++ out_of_order) n)
at-covered covered contiguous out_of_order after count is rising dropped n =
    let kept = drop (min (length contiguous) (count - covered)) contiguous in
    let left : length kept ≡ length contiguous - min (length contiguous) (count - covered) = length-drop _ contiguous in
    ⊎_elim
    (λ above.
    let past_count : leb n count ≡ false = grind (arith, nat_tests) in
    let same : at after n ≡ at out_of_order n = dropped n ∙ ap (λ b. cond b None (at out_of_order n)) past_count in
    ⊎_elim
    (λ past.
    at-past count kept after n (omega arith) ∙ same ∙ sym (at-past covered contiguous out_of_order n past)
    ∙ sym (ap (λ b. cond b None (at (in_slots covered contiguous ++ out_of_order) n)) past_count))
    (λ within.
    let none = no_later covered contiguous out_of_order is n within in
    let i : ℕ = n - count - 1 in
    let place : min (length contiguous) (count - covered) + i ≡ n - covered - 1 = omega arith in
    at-inside count kept after n i (omega arith) (omega arith) (same ∙ none)
    ∙ get_or-drop _ contiguous i None
    ∙ ap (λ j. slice_index_or contiguous j None) place
    ∙ sym (at-inside covered contiguous out_of_order n (n - covered - 1) (omega arith) (omega arith) none)
    ∙ sym (ap (λ b. cond b None (at (in_slots covered contiguous ++ out_of_order) n)) past_count))
    (cases_lt (covered + length contiguous) n))
    (λ up.
    let up_to : leb n count ≡ true = grind (arith, nat_tests) in
    at-before count kept after n up ∙ dropped n ∙ ap (λ b. cond b None (at out_of_order n)) up_to
    ∙ sym (ap (λ b. cond b None (at (in_slots covered contiguous ++ out_of_order) n)) up_to)) (cases_lt count n)

-- a slot of each list
pub RetainsSlots-all : (old new : List (Option StampedEntry)) (frontiers : List ℕ) (i : ℕ) → length old ≤ i
    → length new ≡ length old
    → ((k : ℕ) (e : StampedEntry) → k < i
    → (slice_index_or new k None ≡ Some e) ↔ ((slice_index_or old k None ≡ Some e) × AtMost e.stamp frontiers))
    → RetainsSlots old new frontiers
RetainsSlots-all old new frontiers i all same held = record {
  slots = same;
  held = λ k e. ⊎_elim (λ h. held k e h)
      (λ h.
      let o : slice_index_or old k None ≡ None = get_or-eq_default old None (omega arith) in
      let n : slice_index_or new k None ≡ None = get_or-eq_default new None (omega arith) in
      rw (o, n) (λ q. cc, λ q. q.0)) (cases_lt k i);
}

-- entries retained in the slots and in the map
pub at-retained : (covered : ℕ) (old new : List (Option StampedEntry)) (before after : List (ℕ × StampedEntry))
    (frontiers : List ℕ) → IsSlotted covered old before → RetainsSlots old new frontiers
    → ((n : ℕ) (e : StampedEntry) → (at after n ≡ Some e) ↔ ((at before n ≡ Some e) × AtMost e.stamp frontiers))
    → (n : ℕ) (e : StampedEntry)
    → (at (in_slots covered new ++ after) n ≡ Some e)
    ↔ ((at (in_slots covered old ++ before) n ≡ Some e) × AtMost e.stamp frontiers)
at-retained covered old new before after frontiers is slots map n e =
    let len = slots.slots in
    let outside : (covered < n → n ≤ covered + length old → ⊥)
    → (at (in_slots covered new ++ after) n ≡ Some e)
    ↔ ((at (in_slots covered old ++ before) n ≡ Some e) × AtMost e.stamp frontiers) = λ out.
    rw (at-outside covered new after n (λ a b. out a (omega arith)), at-outside covered old before n out) (map n e) in
    ⊎_elim
    (λ above. ⊎_elim (λ past. outside (λ a b. omega arith))
    (λ within.
    let none = no_later covered old before is n within in
    let none_after : at after n ≡ None = none_from _ (λ some.
    none_of_some (at after n) some (λ x q. let p = (map n x).0 q in let both : None ≡ Some x = sym none ∙ p.0 in cc)) in
    let i : ℕ = n - covered - 1 in
    rw (
      at-inside covered new after n i (omega arith) (omega arith) none_after,
      at-inside covered old before n i (omega arith) (omega arith) none,
    ) (slots.held i e)) (cases_lt (covered + length old) n)) (λ up. outside (λ a b. omega arith)) (cases_lt covered n)

-- the lane of such slots and such a map
abbrev slotted : ℕ → List (Option StampedEntry) → List (ℕ × StampedEntry) → Lane
slotted covered contiguous out_of_order =
    record { covered = covered; entries = in_slots covered contiguous ++ out_of_order }

-- equal look-ups, where the slots and the map agree
at-other : (covered : ℕ) (old new : List (Option StampedEntry)) (before after : List (ℕ × StampedEntry)) (n : ℕ)
    → IsSlotted covered old before → at after n ≡ at before n
    → ((i : ℕ) → n ≡ covered + i + 1 → i < length old
    → (i < length new) × (slice_index_or new i None ≡ slice_index_or old i None))
    → (covered + length old < n → covered + length new < n)
    → at (in_slots covered new ++ after) n ≡ at (in_slots covered old ++ before) n
at-other covered old new before after n is map slots past =
    ⊎_elim
    (λ above. ⊎_elim (λ out. at-past covered new after n (past out) ∙ map ∙ sym (at-past covered old before n out))
    (λ within.
    let none = no_later covered old before is n within in
    let i : ℕ = n - covered - 1 in
    let place : n ≡ covered + i + 1 = omega arith in
    let here : i < length old = omega arith in
    let both = slots i place here in
    at-inside covered new after n i place both.0 (map ∙ none)
    ∙ both.1
    ∙ sym (at-inside covered old before n i place here none)) (cases_lt (covered + length old) n))
    (λ up. at-before covered new after n up ∙ map ∙ sym (at-before covered old before n up)) (cases_lt covered n)

-- an empty slot filled
pub PutsEntry-slot : (covered : ℕ) (contiguous : List (Option StampedEntry)) (out_of_order : List (ℕ × StampedEntry))
    (number i : ℕ) (e : StampedEntry) → IsSlotted covered contiguous out_of_order → number ≡ covered + i + 1
    → i < length contiguous → at (in_slots covered contiguous ++ out_of_order) number ≡ None
    → PutsEntry (slotted covered contiguous out_of_order)
    (slotted covered (slice_set contiguous i (Some e)) out_of_order) number e
PutsEntry-slot covered contiguous out_of_order number i e is place within free =
    let none = no_later covered contiguous out_of_order is number (omega arith) in
    let same : length (slice_set contiguous i (Some e)) ≡ length contiguous = length-set contiguous i (Some e) in
    let empty : slice_index_or contiguous i None ≡ None =
    sym (at-inside covered contiguous out_of_order number i place within none) ∙ free in
    let full = length-in_slots-set covered contiguous i e within empty in
    record {
      put =
          at-inside covered (slice_set contiguous i (Some e)) out_of_order number i place (omega arith) none
          ∙ get_or-set_same contiguous i (Some e) None within;
      others =
          λ n apart. at-other covered contiguous (slice_set contiguous i (Some e)) out_of_order out_of_order n is refl
          (λ k at_k here.
          let other : k ≢ i = λ q. apart (omega arith) in
          (omega arith, get_or-set_other contiguous i k (Some e) None other)) (λ out. omega arith);
      covered = refl;
      counted = simp length-append (omega arith);
    }

-- the next slot
pub PutsEntry-push : (covered : ℕ) (contiguous : List (Option StampedEntry)) (out_of_order : List (ℕ × StampedEntry))
    (number : ℕ) (e : StampedEntry) → IsSlotted covered contiguous out_of_order
    → number ≡ covered + length contiguous + 1 → at out_of_order number ≡ None
    → PutsEntry (slotted covered contiguous out_of_order) (slotted covered (contiguous ++ Some e ∷ []) out_of_order)
    number e
PutsEntry-push covered contiguous out_of_order number e is place none =
    let same : length (contiguous ++ Some e ∷ []) ≡ length contiguous + 1 = length_push contiguous (Some e) in
    let full = length-in_slots-push covered contiguous (Some e) in
    record {
      put =
          at-inside covered (contiguous ++ Some e ∷ []) out_of_order number (length contiguous) place (omega arith) none
          ∙ get_or-append_seam contiguous (Some e) [] None;
      others = λ n apart. at-other covered contiguous (contiguous ++ Some e ∷ []) out_of_order out_of_order n is refl
          (λ k at_k here. (omega arith, get_or-append contiguous (Some e ∷ []) None k here))
          (λ out. let other : n ≢ number = apart in grind arith);
      covered = refl;
      counted = simp length-append (omega arith);
    }

pub IsSlotted-pushed : (covered : ℕ) (contiguous : List (Option StampedEntry)) (out_of_order : List (ℕ × StampedEntry))
    (number : ℕ) (e : StampedEntry) → IsSlotted covered contiguous out_of_order
    → number ≡ covered + length contiguous + 1 → number < 2 ^ 64 → at out_of_order number ≡ None
    → length contiguous + 1 + length out_of_order ≤ 2 ^ 56 → IsSlotted covered (contiguous ++ Some e ∷ []) out_of_order
IsSlotted-pushed covered contiguous out_of_order number e is place fits none few =
    let one : length (contiguous ++ Some e ∷ []) ≡ length contiguous + 1 = length_push contiguous (Some e) in
    let kept : (n : ℕ) → IsSome (at out_of_order n) → n ≢ number =
    λ n some q. let no : at out_of_order n ≡ None = rw q none in let some' = rw no at some in cc in
    record {
      past = λ n some. let past = is.past n some in let apart = kept n some in grind arith;
      small = is.small;
      fits = omega arith;
      few = omega arith;
    }

-- a new entry of the map
pub PutsEntry-out_of_order : (covered : ℕ) (contiguous : List (Option StampedEntry))
    (before after : List (ℕ × StampedEntry)) (number : ℕ) (e : StampedEntry) → IsSlotted covered contiguous before
    → covered + length contiguous < number → at after number ≡ Some e
    → ((n : ℕ) → is_at (nat_cmp number) n ≡ false → at after n ≡ at before n) → length after ≡ length before + 1
    → PutsEntry (slotted covered contiguous before) (slotted covered contiguous after) number e
PutsEntry-out_of_order covered contiguous before after number e is past put others counted =
    record {
      put = at-past covered contiguous after number past ∙ put;
      others = λ n apart.
          let other : number ≢ n = λ q. apart (sym q) in
          at-other covered contiguous contiguous before after n is (others n (is_at-apart number n other))
          (λ k at_k here. (here, refl)) (λ out. out);
      covered = refl;
      counted = simp length-append (omega arith);
    }
