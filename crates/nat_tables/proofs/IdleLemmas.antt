-- The first idle mapping of rows, by times up to which they are live.
use Rattle.std.proofs.Common.{◌≡◌, ◌==◌, ℕ, zero, suc, ◌+◌, ◌<◌, ◌≤◌, Bool, true, false, List, [], ◌∷◌, ◌++◌, length}
use Rattle.std.proofs.Common.{set}
use Rattle.std.proofs.Common.{refl, sym, ap, subst, ◌∙◌, arith, ⊎_elim, Option, Some, None, length-append}
use Rattle.std.specs.Prelude.{◌≢◌, max, nat_lt, not, if◌then◌else◌}
use Rattle.std.specs.List.{sum_by}
use Rattle.std.proofs.lemmas.Bool.{eqb-true, cases_lt}
use Rattle.std.proofs.lemmas.Bool.Decides.{nat_tests}
use Rattle.std.proofs.lemmas.List.{length-set, get_or-set_same, get_or-set_other}
use Rattle.std.proofs.lemmas.List.Sums.{sum_by-set}
use Rattle.nat_tables.specs.declared.entries.Endpoint.{Endpoint}
use Rattle.nat_tables.specs.declared.slot.Slot.{Slot}
use Rattle.nat_tables.specs.declared.phase.Segment.{Segment}
use Rattle.nat_tables.specs.Phases.{timer, is_kept}
use Rattle.nat_tables.specs.declared.phase.Phase.{Phase}
use Rattle.nat_tables.specs.Forwards.{is_idle, refreshed, first_idle, without_idle, slot_of, refresh, mark, with_phase}
use Rattle.nat_tables.specs.Keys.{same_endpoint}
use Rattle.nat_tables.specs.Ports.{one_if}
use Rattle.nat_tables.specs.Rows.{present, row_at}
use Rattle.nat_tables.specs.Times.{never, time_at, AreFrom, IsFirstBefore}
use Rattle.nat_tables.specs.Idling.{IsLiveUntil, AreLiveUntil, row_is_idle, NoneIsIdle, IsFirstIdle}
use Rattle.nat_tables.proofs.RowLemmas.{row_set_same, row_set_other, row_added, row_kept}

abbrev Row : Type 0
Row = Option (Endpoint × Slot)

row_past : (rows : List Row) (at : ℕ) → length rows ≤ at → row_at rows at ≡ None
row_past [] at past = refl
row_past (row ∷ rows) zero past = absurd (omega arith)
row_past (row ∷ rows) (suc at) past = row_past rows at (omega arith)

-- Times and rows after a change

pub live_noted : (times : List ℕ) (rows : List Row) (at time : ℕ) → AreLiveUntil times rows
    → IsLiveUntil time (row_at rows at) → AreLiveUntil (set times at time) rows
live_noted times rows at time live later k less = by (let s = length-set times at time in omega arith) (k == at) refl
  where
    by : k < length times → (b : Bool) → (k == at) ≡ b → IsLiveUntil (time_at (set times at time) k) (row_at rows k)
    by within true e =
        let here : at ≡ k = sym (eqb-true _ _ e) in
        let same : time_at (set times at time) at ≡ time =
        get_or-set_same times at time never (let inside : at < length times = rw here within in omega arith) in
        subst (λ (j : ℕ). IsLiveUntil (time_at (set times at time) j) (row_at rows j)) here (rw same later)
    by within false e =
        let apart : k ≢ at = (λ same. grind (arith, nat_tests)) in
        rw (get_or-set_other times at k time never apart) (live k within)

-- another mapping in a row, if there is the row
row_put : (rows : List Row) (at time : ℕ) (row : Row) → IsLiveUntil time row
    → IsLiveUntil time (row_at (set rows at row) at)
row_put rows at time row live =
    ⊎_elim (λ inside. rw (row_set_same rows at row inside) live)
    (λ past. rw (row_past (set rows at row) at (let s = length-set rows at row in omega arith)) tt)
    (cases_lt at (length rows))

row_changed : (times : List ℕ) (rows : List Row) (at : ℕ) (row : Row) → AreLiveUntil times rows
    → (at < length times → IsLiveUntil (time_at times at) row) → AreLiveUntil times (set rows at row)
row_changed times rows at row live new k less = by (k == at) refl
  where
    by : (b : Bool) → (k == at) ≡ b → IsLiveUntil (time_at times k) (row_at (set rows at row) k)
    by true e =
        let here : at ≡ k = sym (eqb-true _ _ e) in
        let inside : at < length times = rw here less in
        subst (λ (j : ℕ). IsLiveUntil (time_at times j) (row_at (set rows at row) j)) here
        (row_put rows at (time_at times at) row (new inside))
    by false e =
        let apart : k ≢ at = (λ same. grind (arith, nat_tests)) in
        rw (row_set_other rows at k row apart) (live k less)

pub live_cleared : (times : List ℕ) (rows : List Row) (at : ℕ) → AreLiveUntil times rows
    → AreLiveUntil times (set rows at None)
live_cleared times rows at live = row_changed times rows at None live (λ inside. tt)

pub live_refreshed : (times : List ℕ) (rows : List Row) (at now : ℕ) (own : Endpoint) (slot : Slot)
    → AreLiveUntil times rows
    → row_at rows at ≡ Some (own, slot) → AreLiveUntil times (set rows at (Some (own, refreshed now slot)))
live_refreshed times rows at now own slot live is =
    row_changed times rows at (Some (own, refreshed now slot)) live
    (λ inside.
    let old : IsLiveUntil (time_at times at) (Some (own, slot)) = rw is at (live at inside) in
    λ k. let o = old k in omega arith)

-- another mapping and its time in a row
pub live_marked : (times : List ℕ) (rows : List Row) (at time : ℕ) (row : Row) → AreLiveUntil times rows
    → IsLiveUntil time row → AreLiveUntil (set times at time) (set rows at row)
live_marked times rows at time row live new k less =
    by (let s = length-set times at time in omega arith) (k == at) refl
  where
    by : k < length times → (b : Bool) → (k == at) ≡ b
        → IsLiveUntil (time_at (set times at time) k) (row_at (set rows at row) k)
    by within true e =
        let here : at ≡ k = sym (eqb-true _ _ e) in
        let inside : at < length times = rw here within in
        let same : time_at (set times at time) at ≡ time = get_or-set_same times at time never (omega arith) in
        subst (λ (j : ℕ). IsLiveUntil (time_at (set times at time) j) (row_at (set rows at row) j)) here
        (rw same (row_put rows at time row new))
    by within false e =
        let apart : k ≢ at = (λ same. grind (arith, nat_tests)) in
        rw (get_or-set_other times at k time never apart, row_set_other rows at k row apart) (live k within)

pub live_pushed : (times : List ℕ) (rows : List Row) (at time : ℕ) (key : Endpoint) (slot : Slot)
    → AreLiveUntil times rows → length rows < length times → at ≡ length rows
    → IsLiveUntil time (Some (key, slot))
    → AreLiveUntil (set times at time) (rows ++ Some (key, slot) ∷ [])
live_pushed times rows at time key slot live room last later k less =
    by (let s = length-set times at time in omega arith) (k == at) refl
  where
    by : k < length times → (b : Bool) → (k == at) ≡ b
        → IsLiveUntil (time_at (set times at time) k) (row_at (rows ++ Some (key, slot) ∷ []) k)
    by within true e =
        let here : at ≡ k = sym (eqb-true _ _ e) in
        let same : time_at (set times at time) at ≡ time = get_or-set_same times at time never (omega arith) in
        let there : row_at (rows ++ Some (key, slot) ∷ []) at ≡ Some (key, slot) =
        rw last (row_added rows (Some (key, slot))) in
        subst (λ (j : ℕ). IsLiveUntil (time_at (set times at time) j) (row_at (rows ++ Some (key, slot) ∷ []) j)) here
        (rw (same, there) later)
    by within false e =
        let apart : k ≢ at = (λ same. grind (arith, nat_tests)) in
        let other : k ≢ length rows = (λ same. apart (same ∙ sym last)) in
        rw (get_or-set_other times at k time never apart, row_kept rows (Some (key, slot)) k other) (live k within)

-- no row needs a time
pub live_none : (rows : List Row) → AreLiveUntil [] rows
live_none rows at less = absurd (omega arith)

-- A live mapping that is not kept is before its time

pub idle_by : (now : ℕ) (e : Endpoint × Slot) → is_kept e.1.phase ≡ false → is_idle now e ≡ false
    → now < e.1.last + timer e.0.protocol e.1.phase
idle_by now e other live = by (nat_lt now (e.1.last + timer e.0.protocol e.1.phase)) refl (rw other at live)
  where
    by : (b : Bool) → nat_lt now (e.1.last + timer e.0.protocol e.1.phase) ≡ b → not b ≡ false
        → now < e.1.last + timer e.0.protocol e.1.phase
    by true q t = grind (arith, nat_tests)
    by false q t = absurd (cc)

-- The first idle mapping

not_idle : (now time : ℕ) (row : Row) → IsLiveUntil time row → now ≤ time → row_is_idle now row ≡ false
not_idle now time None live from = refl
not_idle now time (Some e) live from = by (is_kept e.1.phase) refl
  where
    by : (b : Bool) → is_kept e.1.phase ≡ b → is_idle now e ≡ false
    by true q = rw q refl
    by false q =
        let before : time < e.1.last + timer e.0.protocol e.1.phase = live q in
        let later : nat_lt now (e.1.last + timer e.0.protocol e.1.phase) ≡ true = grind (arith, nat_tests) in
        rw (q, later) refl

pub idle_inside : (now : ℕ) (rows : List Row) (at : ℕ) → row_is_idle now (row_at rows at) ≡ true → at < length rows
idle_inside now [] at idle = absurd (cc)
idle_inside now (row ∷ rows) zero idle = omega arith
idle_inside now (row ∷ rows) (suc at) idle = let h = idle_inside now rows at idle in omega arith

pub first_found : (start now : ℕ) (times : List ℕ) (rows : List Row) (at : ℕ) → AreLiveUntil times rows
    → IsFirstBefore start now times at → row_is_idle now (row_at rows at) ≡ true → IsFirstIdle start now rows at
first_found start now times rows at live first idle = record {
  from = first.from;
  idle = idle;
  others = λ k past less.
      let inside = first.inside in
      not_idle now (time_at times k) (row_at rows k) (live k (omega arith)) (first.others k past less);
}

-- where the times from this one on let no mapping be idle, the first idle one stands in a row past the times

timed_live : (start now : ℕ) (times : List ℕ) (rows : List Row) → AreLiveUntil times rows → AreFrom start now times
    → (k : ℕ) → start ≤ k → k < max (length times) start → row_is_idle now (row_at rows k) ≡ false
timed_live start now times rows live from k past less =
    not_idle now (time_at times k) (row_at rows k) (live k (omega arith)) (from k past)

pub none_found : (start now : ℕ) (times : List ℕ) (rows : List Row) → AreLiveUntil times rows
    → AreFrom start now times → NoneIsIdle (max (length times) start) now rows → NoneIsIdle start now rows
none_found start now times rows live from none at past =
    ⊎_elim (λ timed. timed_live start now times rows live from at past timed) (λ past. none at past)
    (cases_lt at (max (length times) start))

pub later_found : (start now : ℕ) (times : List ℕ) (rows : List Row) (at : ℕ) → AreLiveUntil times rows
    → AreFrom start now times → IsFirstIdle (max (length times) start) now rows at → IsFirstIdle start now rows at
later_found start now times rows at live from first = record {
  from = let f = first.from in omega arith;
  idle = first.idle;
  others = λ k past less.
      ⊎_elim (λ timed. timed_live start now times rows live from k past timed) (λ later. first.others k later less)
      (cases_lt k (max (length times) start));
}

-- one more row that is not idle, and the end of the rows
abbrev pub NoneSoFar : ℕ → ℕ → ℕ → List Row → Type 0
NoneSoFar start at now rows = (k : ℕ) → start ≤ k → k < at → row_is_idle now (row_at rows k) ≡ false

pub none_more : (start at now : ℕ) (rows : List Row) → NoneSoFar start at now rows
    → row_is_idle now (row_at rows at) ≡ false → NoneSoFar start (at + 1) now rows
none_more start at now rows none here k past less = by (k == at) refl
  where
    by : (b : Bool) → (k == at) ≡ b → row_is_idle now (row_at rows k) ≡ false
    by true e = subst (λ (j : ℕ). row_is_idle now (row_at rows j) ≡ false) (sym (eqb-true _ _ e)) here
    by false e = none k past (grind (arith, nat_tests))

pub none_left : (start at now : ℕ) (rows : List Row) → NoneSoFar start at now rows → length rows ≤ at
    → NoneIsIdle start now rows
none_left start at now rows none all k past =
    ⊎_elim (λ less. none k past less) (λ later. rw (row_past rows k (omega arith)) refl) (cases_lt k at)

pub none_is : (now : ℕ) (rows : List Row) → NoneIsIdle 0 now rows → first_idle now (present rows) ≡ None
none_is now [] none = refl
none_is now (None ∷ rows) none = none_is now rows (λ k past. none (suc k) (omega arith))
none_is now (Some e ∷ rows) none =
    rw (none 0 (omega arith)) (none_is now rows (λ k past. none (suc k) (omega arith)))

pub later_first : (now : ℕ) (row : Row) (rows : List Row) (at : ℕ) → IsFirstIdle 0 now (row ∷ rows) (suc at)
    → IsFirstIdle 0 now rows at
later_first now row rows at first = record {
  from = omega arith;
  idle = first.idle;
  others = λ k past less. first.others (suc k) (omega arith) (omega arith);
}

pub first_is : (now : ℕ) (rows : List Row) (at : ℕ) (entry : Endpoint × Slot) → IsFirstIdle 0 now rows at
    → row_at rows at ≡ Some entry → first_idle now (present rows) ≡ Some entry
first_is now [] at entry first is = absurd (cc)
first_is now (None ∷ rows) zero entry first is = absurd (cc)
first_is now (Some e ∷ rows) zero entry first is = rw first.idle is
first_is now (None ∷ rows) (suc at) entry first is = first_is now rows at entry (later_first now None rows at first) is
first_is now (Some e ∷ rows) (suc at) entry first is =
    rw (first.others 0 (omega arith) (omega arith))
    (first_is now rows at entry (later_first now (Some e) rows at first) is)

pub first_removed : (now : ℕ) (rows : List Row) (at : ℕ) → IsFirstIdle 0 now rows at
    → without_idle now (present rows) ≡ present (set rows at None)
first_removed now [] at first = absurd (let h = first.idle in cc)
first_removed now (None ∷ rows) zero first = absurd (let h = first.idle in cc)
first_removed now (Some e ∷ rows) zero first = rw first.idle refl
first_removed now (None ∷ rows) (suc at) first = first_removed now rows at (later_first now None rows at first)
first_removed now (Some e ∷ rows) (suc at) first =
    rw (first.others 0 (omega arith) (omega arith))
    (ap (λ rest. e ∷ rest) (first_removed now rows at (later_first now (Some e) rows at first)))

-- an idle row is not empty
pub idle_some : (now : ℕ) (rows : List Row) (at : ℕ) → IsFirstIdle 0 now rows at → None ≡ row_at rows at → ⊥
idle_some now rows at first none = let h = rw (← none) at first.idle in cc

-- how many times are before this one
abbrev pub before_count : ℕ → List ℕ → ℕ
before_count now times = sum_by (λ time. one_if (nat_lt time now)) times

pub fewer_before : (start now : ℕ) (times : List ℕ) (at time : ℕ) → IsFirstBefore start now times at → now ≤ time
    → before_count now (set times at time) < before_count now times
fewer_before start now times at time first later =
    let sums = sum_by-set (λ t. one_if (nat_lt t now)) times at time never first.inside in
    let old : nat_lt (time_at times at) now ≡ true = (let b = first.before in grind (arith, nat_tests)) in
    let new : nat_lt time now ≡ false = grind (arith, nat_tests) in
    let less = rw (old, new) at sums in omega arith

-- a mapping that is not there is not marked, not refreshed, and in no other phase

pub unmarked : (key : Endpoint) (seconds : ℕ) (segment : Segment) (es : List (Endpoint × Slot)) → slot_of key es ≡ None
    → es ≡ mark key seconds segment es
unmarked key seconds segment [] none = refl
unmarked key seconds segment (e ∷ es) none = by (same_endpoint key e.0) refl none (unmarked key seconds segment es)
  where
    by : (b : Bool) → same_endpoint key e.0 ≡ b → (if b then Some e.1 else slot_of key es) ≡ None
        → (slot_of key es ≡ None → es ≡ mark key seconds segment es)
        → e ∷ es ≡ mark key seconds segment (e ∷ es)
    by true q is behind = absurd (cc)
    by false q is behind = rw q (ap (λ rest. e ∷ rest) (behind is))

pub unused : (key : Endpoint) (now : ℕ) (es : List (Endpoint × Slot)) → slot_of key es ≡ None → es ≡ refresh key now es
unused key now [] none = refl
unused key now (e ∷ es) none = by (same_endpoint key e.0) refl (unused key now es)
  where
    by : (b : Bool) → same_endpoint key e.0 ≡ b → (slot_of key es ≡ None → es ≡ refresh key now es)
        → e ∷ es ≡ refresh key now (e ∷ es)
    by true q behind = absurd (let h = rw q at none in cc)
    by false q behind = rw q (ap (λ rest. e ∷ rest) (behind (rw q at none)))

pub not_in_phase : (key : Endpoint) (phase : Phase) (es : List (Endpoint × Slot)) → slot_of key es ≡ None
    → es ≡ with_phase key phase es
not_in_phase key phase [] none = refl
not_in_phase key phase (e ∷ es) none = by (same_endpoint key e.0) refl none (not_in_phase key phase es)
  where
    by : (b : Bool) → same_endpoint key e.0 ≡ b → (if b then Some e.1 else slot_of key es) ≡ None
        → (slot_of key es ≡ None → es ≡ with_phase key phase es)
        → e ∷ es ≡ with_phase key phase (e ∷ es)
    by true q is behind = absurd (cc)
    by false q is behind = rw q (ap (λ rest. e ∷ rest) (behind is))
