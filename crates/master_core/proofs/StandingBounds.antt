-- The parts of a master that stands for a legal list of moves are within the bounds.
use Rattle.std.proofs.Common.{◌≡◌, ℕ, zero, suc, ◌+◌, ◌^◌, ◌≤◌, ◌<◌, ◌≢◌, add-one, List, [], ◌∷◌, length, take, refl}
use Rattle.std.proofs.Common.{sym, ap, ◌∙◌, subst, inl, inr, ◌⊎◌, arith, Bool, true, false, Option, Some, None, Ok}
use Rattle.std.specs.Prelude.{cond, sum_by, slice_get, slice_index_or}
use Rattle.std.proofs.Math.Seq.{take-length}
use Rattle.std.proofs.lemmas.List.Sums.{sum_by_more}
use Rattle.plain_text.specs.declared.packet.Packet.{Packet}
use Rattle.entry_order.specs.Log.{Entry, entries, places, touches}
use Rattle.entry_order.specs.Stamps.{sum_below}
use Rattle.entry_order.proofs.Order.{is_or}
use Rattle.box_program.specs.Hands.{local_in}
use Rattle.plain_machine.specs.declared.local.Move.{Move}
use Rattle.plain_machine.specs.declared.local.Move.TheVariants.{Access, Read, Clock, Draw, Emit, End}
use Rattle.plain_machine.specs.declared.plain_move.PlainMove.{PlainMove}
use Rattle.plain_machine.specs.Program.{Meaning}
use Rattle.plain_machine.specs.Machine.{Hand, Thread, Effect, Moves, holding, take_move, hand_move, held_move}
use Rattle.plain_machine.specs.History.{Step, log_of, thread_after, value_after, play, IsHistory}
use Rattle.plain_machine.proofs.Histories.{is_eq, not_eq}
use Rattle.plain_machine.proofs.LoggedEffects.{entry_thread}
use Rattle.plain_machine.proofs.PlayedLists.{play_history}
use Rattle.master_core.specs.declared.parts.ThreadPart.{ThreadPart}
use Rattle.master_core.specs.declared.parts.VarPart.{VarPart}
use Rattle.master_core.specs.Mastered.{Mastered, IsBounded, in_hand_count, moves_made}
use Rattle.master_core.specs.MasterStanding.{Stands}
use Rattle.master_core.proofs.CountedEntries.{entries_sum}
use Rattle.master_core.proofs.FreshLemmas.{fresh_part}

-- a packet in hand was taken
abbrev WasTaken : Thread → Type 0
WasTaken th = in_hand_count (local_in th.hand) ≤ th.taken

-- so it is after a move with it
hand_taken : {V : Type 0} (m : Meaning V) (value : ℕ → V) (taken : ℕ) (h : Hand) (a : Option ℕ) (w : Move)
    (after : Thread) (d : Effect V) → 1 ≤ taken → hand_move m value taken h a w ≡ Moves after d → WasTaken after
hand_taken m value taken h None (Access v) after d low e =
    let same : holding taken h.packet (m.touch v (value v) h.place).1 ≡ after = cc in subst WasTaken same low
hand_taken m value taken h (Some a) (Access v) after d low e = absurd (cc)
hand_taken m value taken h None (Read v) after d low e =
    let same : holding taken h.packet (m.look v (value v) h.place) ≡ after = cc in subst WasTaken same low
hand_taken m value taken h (Some a) (Read v) after d low e = absurd (cc)
hand_taken m value taken h None Clock after d low e = absurd (cc)
hand_taken m value taken h (Some a) Clock after d low e =
    let same : holding taken h.packet (m.told a h.place) ≡ after = cc in subst WasTaken same low
hand_taken m value taken h None Draw after d low e = absurd (cc)
hand_taken m value taken h (Some a) Draw after d low e =
    let same : holding taken h.packet (m.told a h.place) ≡ after = cc in subst WasTaken same low
hand_taken m value taken h None Emit after d low e =
    let same : holding taken h.packet (m.emitted h.place) ≡ after = cc in subst WasTaken same low
hand_taken m value taken h (Some a) Emit after d low e = absurd (cc)
hand_taken m value taken h None End after d low e =
    let none : Thread = record { taken = taken; hand = None } in
    let same : none ≡ after = cc in subst WasTaken same (omega arith)
hand_taken m value taken h (Some a) End after d low e = absurd (cc)

-- and after each move
held_taken : {V : Type 0} (m : Meaning V) (packets : List Packet) (value : ℕ → V) (taken : ℕ) (a : Option ℕ)
    (hand : Option Hand) (after : Thread) (d : Effect V) → in_hand_count (local_in hand) ≤ taken
    → held_move m packets value taken a hand ≡ Moves after d → WasTaken after
held_taken m packets value taken a (Some h) after d low e = hand_taken m value taken h a (m.next h.place) after d low e
held_taken {V} m packets value taken a None after d low e = go a (slice_get packets taken) e
  where
    go : (a : Option ℕ) (i : Option Packet) → take_move m taken a i ≡ Moves after d → WasTaken after
    go None None e = absurd (cc)
    go None (Some p) e = let same : holding (taken + 1) p (m.begin p) ≡ after = cc in subst WasTaken same (omega arith)
    go (Some a) i e = absurd (cc)

was_taken : {V : Type 0} (m : Meaning V) (inputs : ℕ → List Packet) (threads : ℕ) (steps : List (Step V))
    → IsHistory m inputs threads steps → (t : ℕ) → WasTaken (thread_after steps t)
was_taken m inputs threads [] h t = omega arith
was_taken {V} m inputs threads (x ∷ earlier) h t =
    go (is_or x.thread t) (was_taken m inputs threads earlier h.1 t) (was_taken m inputs threads earlier h.1 x.thread)
  where
    go : (x.thread ≡ t) ⊎ (x.thread ≢ t) → WasTaken (thread_after earlier t) → WasTaken (thread_after earlier x.thread)
        → WasTaken (thread_after (x ∷ earlier) t)
    go (inl same) old mine = rw (is_eq x.thread t same) (held_taken m (inputs x.thread) (value_after m earlier)
        (thread_after earlier x.thread).taken h.0.1 (thread_after earlier x.thread).hand x.after h.0.2 mine h.0.3)
    go (inr apart) old mine = rw (not_eq x.thread t apart) old

-- a variable has at most as many touches as there are entries
places_few : (v : ℕ) (log : List Entry) → places v log ≤ length log
places_few v [] = omega arith
places_few v (e ∷ log) = go (touches v e.what) (places_few v log)
  where
    go : (b : Bool) → places v log ≤ length log → cond b (places v log + 1) (places v log) ≤ length (e ∷ log)
    go true low = omega arith
    go false low = omega arith

-- the first threads have as many entries as the log has of them
parts_sum : (threads : List ThreadPart) (log : List Entry) (n : ℕ) → n ≤ length threads
    → ((t : ℕ) → t < length threads → (slice_index_or threads t fresh_part).counts.entries ≡ entries t log)
    → sum_by (λ p. p.counts.entries) (take n threads) ≡ sum_below n (λ t. entries t log)
parts_sum threads log zero low are = refl
parts_sum threads log (suc n) low are =
    let a : sum_by (λ p. p.counts.entries) (take n threads) ≡ sum_below n (λ t. entries t log) =
    parts_sum threads log n (omega arith) are in
    let b : sum_by (λ p. p.counts.entries) (take (n + 1) threads)
    ≡ sum_by (λ p. p.counts.entries) (take n threads) + (slice_index_or threads n fresh_part).counts.entries =
    sum_by_more (λ p. p.counts.entries) threads n fresh_part (omega arith) in
    let c : sum_by (λ p. p.counts.entries) (take (suc n) threads)
    ≡ sum_by (λ p. p.counts.entries) (take n threads) + (slice_index_or threads n fresh_part).counts.entries =
    subst (λ (k : ℕ).
    sum_by (λ p. p.counts.entries) (take k threads)
    ≡ sum_by (λ p. p.counts.entries) (take n threads) + (slice_index_or threads n fresh_part).counts.entries)
    (add-one n) b in
    let d : (slice_index_or threads n fresh_part).counts.entries ≡ entries n log = are n (omega arith) in
    omega arith

pub standing_bounded : {V : Type 0} (m : Meaning V) (inputs : ℕ → List Packet) (threads : ℕ) (moves : List PlainMove)
    (steps : List (Step V)) (q : Mastered V) → play m inputs threads moves ≡ Ok steps → Stands m threads steps q
    → threads ≤ 16 → length q.vars ≡ m.vars
    → ((t : ℕ) (d : ThreadPart) → t < threads → moves_made (slice_index_or q.threads t d) ≤ 2 ^ 56)
    → IsBounded q.vars q.threads
standing_bounded {V} m inputs threads moves steps q legal is few count room = record {
  few = omega (arith, is.threads_are);
  made = λ t d low. room t d (omega (arith, is.threads_are));
  taken = λ t d low.
      let th = is.thread t d (omega (arith, is.threads_are)) in
      let had : in_hand_count (local_in (thread_after steps t).hand) ≤ (thread_after steps t).taken =
      was_taken m inputs threads steps history t in
      let held : in_hand_count (slice_index_or q.threads t d).hand
      ≡ in_hand_count (local_in (thread_after steps t).hand) = ap in_hand_count th.hand in
      omega (arith, th.taken);
  places = λ v d low.
      let x : (slice_index_or q.vars v d).places ≡ places v (log_of steps) = (is.var v d (omega arith)).places in
      let k : places v (log_of steps) ≤ length (log_of steps) = places_few v (log_of steps) in
      omega (arith, entries_are);
}
  where
    history : IsHistory m inputs threads steps
    history = (play_history m inputs threads moves steps legal).0

    entries_are : sum_by (λ p. p.counts.entries) q.threads ≡ length (log_of steps)
    entries_are =
        ap (λ (parts : List ThreadPart). sum_by (λ p. p.counts.entries) parts) (sym (take-length q.threads))
        ∙ (parts_sum q.threads (log_of steps) (length q.threads) (omega arith)
        (λ t low. (is.thread t fresh_part (omega (arith, is.threads_are))).logged)
        ∙ entries_sum (length q.threads) (log_of steps) (λ e i.
        let k : e.thread < threads = entry_thread m inputs threads steps e history i in omega (arith, is.threads_are)))
