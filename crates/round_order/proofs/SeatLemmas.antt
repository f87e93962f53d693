-- What the threads of a round have after one more move.
use Rattle.std.proofs.Common.{◌≡◌, ℕ, ◌+◌, ◌≤◌, ◌≢◌, List, [], ◌∷◌, refl, sym, ap, ◌∙◌, subst, inl, inr, ◌⊎◌, arith}
use Rattle.std.proofs.Common.{Option, Some, None}
use Rattle.std.specs.Prelude.{slice_get, slice_index}
use Rattle.plain_text.specs.declared.packet.Packet.{Packet}
use Rattle.entry_order.specs.Log.{Entry, entries}
use Rattle.entry_order.proofs.Order.{number_within}
use Rattle.box_program.specs.Hands.{local_in}
use Rattle.plain_machine.specs.declared.local.Move.{Move}
use Rattle.plain_machine.specs.declared.local.Move.TheVariants.{Access, Read, Clock, Draw, Emit, End}
use Rattle.plain_machine.specs.Program.{Meaning}
use Rattle.plain_machine.specs.Machine.{Hand, Thread, Effect, Takes, Touches, Looks, HearsClock, HearsDraw, Sends, Ends}
use Rattle.plain_machine.specs.Machine.{Moves, holding, sent_packet, take_move, hand_move, held_move}
use Rattle.plain_machine.specs.History.{Act, Took, Did, Emitted, Ended, Step, log_more, log_of, sent_of, outputs}
use Rattle.plain_machine.specs.History.{moves_of, thread_after}
use Rattle.plain_machine.proofs.Histories.{is_eq}
use Rattle.master_core.specs.declared.parts.ThreadPart.{ThreadPart}
use Rattle.master_core.specs.Mastered.{in_hand_count, moves_made}
use Rattle.round_order.specs.Receipts.{Receipt, Receipts, after, act_at, IsLogged, IsUnlogged}
use Rattle.round_order.specs.Linked.{IsKnown, IsJoinOf}
use Rattle.round_order.specs.Home.{IsSeat, IsEntryOf, count}
use Rattle.round_order.specs.Growth.{with_one, IsRound, IsNextOf, stamp_after, part_after}
use Rattle.round_order.proofs.LoggedMoves.{at_entry, log_step}
use Rattle.round_order.proofs.MoreReceipts.{updated, not_updated, in_new, known_more, join_stays}
use Rattle.round_order.proofs.RoundCounts.{own_number, legal_at, past_grows}

-- where a move leaves its thread
abbrev Leads : {V : Type 0} → ℕ → ℕ → Thread → Effect V → Type 0
Leads taken held after Takes = (held ≡ 0) × (after.taken ≡ taken + 1) × (in_hand_count (local_in after.hand) ≡ 1)
Leads taken held after (Touches v left) = (held ≡ 1) × (after.taken ≡ taken) × (in_hand_count (local_in after.hand) ≡ 1)
Leads taken held after (Looks v) = (held ≡ 1) × (after.taken ≡ taken) × (in_hand_count (local_in after.hand) ≡ 1)
Leads taken held after (HearsClock a) = (held ≡ 1) × (after.taken ≡ taken) × (in_hand_count (local_in after.hand) ≡ 1)
Leads taken held after (HearsDraw a) = (held ≡ 1) × (after.taken ≡ taken) × (in_hand_count (local_in after.hand) ≡ 1)
Leads taken held after (Sends packet) = (held ≡ 1) × (after.taken ≡ taken) × (in_hand_count (local_in after.hand) ≡ 1)
Leads taken held after Ends = (held ≡ 1) × (after.taken ≡ taken) × (in_hand_count (local_in after.hand) ≡ 0)

leads_same : {V : Type 0} (taken held : ℕ) (a b : Thread) (d e : Effect V) → a ≡ b → d ≡ e → Leads taken held a d
    → Leads taken held b e
leads_same {V} taken held a b d e th eff h =
    subst (λ (z : Thread). Leads taken held z e) th (subst (λ (z : Effect V). Leads taken held a z) eff h)

hand_leads : {V : Type 0} (m : Meaning V) (value : ℕ → V) (taken : ℕ) (h : Hand) (a : Option ℕ) (w : Move)
    (after : Thread) (d : Effect V) → hand_move m value taken h a w ≡ Moves after d → Leads taken 1 after d
hand_leads m value taken h None (Access v) after d e =
    leads_same taken 1 (holding taken h.packet (m.touch v (value v) h.place).1) after
    (Touches v (m.touch v (value v) h.place).0) d (cc) (cc) (refl, refl, refl)
hand_leads m value taken h (Some a) (Access v) after d e = absurd (cc)
hand_leads m value taken h None (Read v) after d e = leads_same taken 1
    (holding taken h.packet (m.look v (value v) h.place)) after (Looks v) d (cc) (cc) (refl, refl, refl)
hand_leads m value taken h (Some a) (Read v) after d e = absurd (cc)
hand_leads m value taken h None Clock after d e = absurd (cc)
hand_leads m value taken h (Some a) Clock after d e =
    leads_same taken 1 (holding taken h.packet (m.told a h.place)) after (HearsClock a) d (cc) (cc) (refl, refl, refl)
hand_leads m value taken h None Draw after d e = absurd (cc)
hand_leads m value taken h (Some a) Draw after d e =
    leads_same taken 1 (holding taken h.packet (m.told a h.place)) after (HearsDraw a) d (cc) (cc) (refl, refl, refl)
hand_leads m value taken h None Emit after d e = leads_same taken 1 (holding taken h.packet (m.emitted h.place)) after
    (Sends (sent_packet m h)) d (cc) (cc) (refl, refl, refl)
hand_leads m value taken h (Some a) Emit after d e = absurd (cc)
hand_leads m value taken h None End after d e =
    leads_same taken 1 (record { taken = taken; hand = None }) after Ends d (cc) (cc) (refl, refl, refl)
hand_leads m value taken h (Some a) End after d e = absurd (cc)

move_leads : {V : Type 0} (m : Meaning V) (packets : List Packet) (value : ℕ → V) (taken : ℕ) (a : Option ℕ)
    (hand : Option Hand) (after : Thread) (d : Effect V) → held_move m packets value taken a hand ≡ Moves after d
    → Leads taken (in_hand_count (local_in hand)) after d
move_leads m packets value taken a (Some h) after d e = hand_leads m value taken h a (m.next h.place) after d e
move_leads {V} m packets value taken a None after d e = go a (slice_get packets taken) e
  where
    go : (a : Option ℕ) (i : Option Packet) → take_move m taken a i ≡ Moves after d → Leads taken 0 after d
    go None None e = absurd (cc)
    go None (Some p) e =
        leads_same taken 0 (holding (taken + 1) p (m.begin p)) after Takes d (cc) (cc) (refl, refl, refl)
    go (Some a) i e = absurd (cc)

-- a move is logged or not
pub one_or_none : {V : Type 0} (r : Receipt V) → ((e : Entry) × IsLogged r e) ⊎ IsUnlogged r
one_or_none {V} r = go (log_step r.step.act [])
  where
    go : (((e : Entry) (left : Option V) → r.step.act ≡ Did e left → ⊥) × (log_more r.step.act [] ≡ []))
        ⊎ ((e : Entry) × (left : Option V) × (r.step.act ≡ Did e left) × (log_more r.step.act [] ≡ e ∷ []))
        → ((e : Entry) × IsLogged r e) ⊎ IsUnlogged r
    go (inl (never, same)) = inr (λ e l. never e l.0 l.1)
    go (inr (e, left, is, more)) = inl (e, (left, is))

module _ {V : Type 0} (m : Meaning V) (inputs : ℕ → List Packet) (threads : ℕ) (past : List (Step V)) (rs : Receipts V)
    (part : ThreadPart) (r : Receipt V) (next : IsNextOf m inputs threads past rs part r) where
  -- the entry of the move is the next one of its thread
  pub number : (e : Entry) → IsLogged r e → (e.thread ≡ r.step.thread) × (e.number ≡ count past rs r.step.thread + 1)
  number e (left, is) = at_entry r.step.thread r.step.after.taken r.place (after (rs r.step.thread) past) next.alone.0 e
      left (sym next.alone.2 ∙ is)

module _ {V : Type 0} (m : Meaning V) (inputs : ℕ → List Packet) (threads : ℕ) (past : List (Step V)) (rs : Receipts V)
    (part : ThreadPart) (r : Receipt V) (round : IsRound m inputs threads past rs)
    (next : IsNextOf m inputs threads past rs part r) where
  -- What the other threads have

  pub seat_stays : (u : ℕ) (other : ThreadPart) → u ≢ r.step.thread → IsSeat past rs u other
      → IsSeat past (with_one rs r) u other
  seat_stays u other apart seat = record {
    taken = seat.taken ∙ ap (λ (l : List (Receipt V)). (thread_after (after l past) u).taken) back;
    logged = seat.logged ∙ counted;
    outputs = seat.outputs ∙ ap (λ (l : List (Receipt V)). outputs u (sent_of (after l past))) back;
    hand = seat.hand ∙ ap (λ (l : List (Receipt V)). local_in (thread_after (after l past) u).hand) back;
    made = seat.made ∙ ap (λ (l : List (Receipt V)). moves_of u (after l past)) back;
    stamp = join_stays m inputs threads past rs round.linked r (IsEntryOf u (count past (with_one rs r) u))
        (λ w. slice_index other.stamp w) not_mine
        (subst (λ (n : ℕ). IsJoinOf past rs (IsEntryOf u n) (λ w. slice_index other.stamp w)) counted seat.stamp);
  }
    where
      back : rs u ≡ with_one rs r u
      back = sym (not_updated r.step.thread u (r ∷ rs r.step.thread) rs apart)

      counted : count past rs u ≡ count past (with_one rs r) u
      counted = ap (λ (l : List (Receipt V)). entries u (log_of (after l past))) back

      not_mine : (d : Entry) → IsLogged r d → IsEntryOf u (count past (with_one rs r) u) d → ⊥
      not_mine d l of_u = apart (sym of_u.0 ∙ (number m inputs threads past rs part r next d l).0)

  -- What its thread has

  own_is : with_one rs r r.step.thread ≡ r ∷ rs r.step.thread
  own_is = updated r.step.thread (r ∷ rs r.step.thread) rs

  leads : Leads (thread_after (after (rs r.step.thread) past) r.step.thread).taken
      (in_hand_count (local_in (thread_after (after (rs r.step.thread) past) r.step.thread).hand)) r.step.after
      next.alone.0
  leads = move_leads m (inputs r.step.thread) (λ v. r.found)
      (thread_after (after (rs r.step.thread) past) r.step.thread).taken r.answer
      (thread_after (after (rs r.step.thread) past) r.step.thread).hand r.step.after next.alone.0 next.alone.1

  -- the stamp of the thread's last entry, where the move is logged and where it is not
  logged_stamp : (e : Entry) → IsLogged r e → (n : ℕ) → n ≡ count past rs r.step.thread + 1
      → IsJoinOf past (with_one rs r) (IsEntryOf r.step.thread n) (λ u. slice_index r.stamp u)
  logged_stamp e l n is = record {
    above = λ d st of_t known u. above d st of_t u (known_more m inputs threads past rs round.linked r d st known);
    reached = λ u. inr (
      e,
      (λ w. slice_index r.stamp w),
      (
        (number m inputs threads past rs part r next e l).0,
        (number m inputs threads past rs part r next e l).1 ∙ sym is,
      ),
      inl (r, in_new m inputs threads past rs round.linked r, l, λ w. refl),
      refl,
    );
  }
    where
      above : (d : Entry) (st : ℕ → ℕ) → IsEntryOf r.step.thread n d → (u : ℕ)
          → (IsLogged r d × ((w : ℕ) → slice_index r.stamp w ≡ st w)) ⊎ IsKnown past rs d st
          → st u ≤ slice_index r.stamp u
      above d st of_t u (inl (ld, same)) = omega (arith, same u)
      above d st of_t u (inr (inl (f, here, lf, same))) =
          let at = legal_at m inputs threads past round.opening rs round.linked f here in
          let a : d.thread ≡ f.step.thread =
          (at_entry f.step.thread f.step.after.taken f.place at.0 at.1.0 d lf.0 (sym at.1.2 ∙ lf.1)).0 in
          let k : d.number ≤ count past rs f.step.thread =
          own_number m inputs past f.step.thread (rs f.step.thread) f d (round.linked.alone f.step.thread) here lf in
          let c : count past rs f.step.thread ≡ count past rs r.step.thread =
          ap (λ (w : ℕ). count past rs w) (sym a ∙ of_t.0) in
          absurd (omega (arith, of_t.1))
      above d st of_t u (inr (inr (old, st_is))) =
          let k : (1 ≤ d.number) × (d.number ≤ entries d.thread (log_of past)) =
          number_within (log_of past) d round.opening old in
          let c : entries d.thread (log_of past) ≡ entries r.step.thread (log_of past) =
          ap (λ (w : ℕ). entries w (log_of past)) of_t.0 in
          let g : entries r.step.thread (log_of past) ≤ count past rs r.step.thread =
          past_grows r.step.thread (rs r.step.thread) past in
          absurd (omega (arith, of_t.1))

  unlogged_stamp : IsUnlogged r
      → IsJoinOf past (with_one rs r) (IsEntryOf r.step.thread (count past rs r.step.thread))
      (λ u. slice_index part.stamp u)
  unlogged_stamp none =
      join_stays m inputs threads past rs round.linked r (IsEntryOf r.step.thread (count past rs r.step.thread))
      (λ u. slice_index part.stamp u) (λ d l of_t. none d l) next.seat.stamp

  held_is : in_hand_count part.hand
      ≡ in_hand_count (local_in (thread_after (after (rs r.step.thread) past) r.step.thread).hand)
  held_is = ap in_hand_count next.seat.hand

  here : thread_after (r.step ∷ after (rs r.step.thread) past) r.step.thread ≡ r.step.after
  here = rw (is_eq r.step.thread r.step.thread refl) refl

  abbrev Acts : Effect V → Type 0
  Acts d = r.step.act ≡ act_at r.step.thread (after (rs r.step.thread) past) r.step.after.taken r.place d

  abbrev LeadsOn : Effect V → Type 0
  LeadsOn d = Leads (thread_after (after (rs r.step.thread) past) r.step.thread).taken
      (in_hand_count (local_in (thread_after (after (rs r.step.thread) past) r.step.thread).hand)) r.step.after d

  taken_is : (d : Effect V) → Acts d → LeadsOn d → (part_after part r).counts.taken ≡ r.step.after.taken
  taken_is Takes is l = rw is (ap (λ n. n + 1) next.seat.taken ∙ sym l.1)
  taken_is (Touches v left) is l = rw is (next.seat.taken ∙ sym l.1)
  taken_is (Looks v) is l = rw is (next.seat.taken ∙ sym l.1)
  taken_is (HearsClock a) is l = rw is (next.seat.taken ∙ sym l.1)
  taken_is (HearsDraw a) is l = rw is (next.seat.taken ∙ sym l.1)
  taken_is (Sends packet) is l = rw is (next.seat.taken ∙ sym l.1)
  taken_is Ends is l = rw is (next.seat.taken ∙ sym l.1)

  entries_is : (d : Effect V) → Acts d
      → (part_after part r).counts.entries ≡ entries r.step.thread (log_of (r.step ∷ after (rs r.step.thread) past))
  entries_is Takes is = rw is next.seat.logged
  entries_is (Touches v left) is =
      rw is (rw (is_eq r.step.thread r.step.thread refl) (ap (λ n. n + 1) next.seat.logged))
  entries_is (Looks v) is = rw is (rw (is_eq r.step.thread r.step.thread refl) (ap (λ n. n + 1) next.seat.logged))
  entries_is (HearsClock a) is = rw is (rw (is_eq r.step.thread r.step.thread refl) (ap (λ n. n + 1) next.seat.logged))
  entries_is (HearsDraw a) is = rw is (rw (is_eq r.step.thread r.step.thread refl) (ap (λ n. n + 1) next.seat.logged))
  entries_is (Sends packet) is = rw is next.seat.logged
  entries_is Ends is = rw is next.seat.logged

  outputs_is : (d : Effect V) → Acts d
      → (part_after part r).counts.outputs ≡ outputs r.step.thread (sent_of (r.step ∷ after (rs r.step.thread) past))
  outputs_is Takes is = rw is next.seat.outputs
  outputs_is (Touches v left) is = rw is next.seat.outputs
  outputs_is (Looks v) is = rw is next.seat.outputs
  outputs_is (HearsClock a) is = rw is next.seat.outputs
  outputs_is (HearsDraw a) is = rw is next.seat.outputs
  outputs_is (Sends packet) is = rw is (rw (is_eq r.step.thread r.step.thread refl) (ap (λ n. n + 1) next.seat.outputs))
  outputs_is Ends is = rw is next.seat.outputs

  more : moves_of r.step.thread (r.step ∷ after (rs r.step.thread) past)
      ≡ moves_of r.step.thread (after (rs r.step.thread) past) + 1
  more = rw (is_eq r.step.thread r.step.thread refl) refl

  made_is : (d : Effect V) → Acts d → LeadsOn d
      → moves_made (part_after part r) ≡ moves_of r.step.thread (r.step ∷ after (rs r.step.thread) past)
  made_is Takes is l = rw is (omega (arith, held_is, next.held, next.seat.made, more, l.0, l.2))
  made_is (Touches v left) is l = rw is (omega (arith, held_is, next.held, next.seat.made, more, l.0, l.2))
  made_is (Looks v) is l = rw is (omega (arith, held_is, next.held, next.seat.made, more, l.0, l.2))
  made_is (HearsClock a) is l = rw is (omega (arith, held_is, next.held, next.seat.made, more, l.0, l.2))
  made_is (HearsDraw a) is l = rw is (omega (arith, held_is, next.held, next.seat.made, more, l.0, l.2))
  made_is (Sends packet) is l = rw is (omega (arith, held_is, next.held, next.seat.made, more, l.0, l.2))
  made_is Ends is l = rw is (omega (arith, held_is, next.held, next.seat.made, more, l.0, l.2))

  -- an effect that is logged, or not
  stamp_kind : (((e : Entry) (left : Option V) → r.step.act ≡ Did e left → ⊥)
      × ((part_after part r).stamp ≡ part.stamp))
      ⊎ ((e : Entry) × IsLogged r e × ((part_after part r).stamp ≡ r.stamp))
  stamp_kind = go r.step.act refl
    where
      go : (a : Act V) → r.step.act ≡ a
          → (((e : Entry) (left : Option V) → r.step.act ≡ Did e left → ⊥)
          × (stamp_after a part.stamp r.stamp ≡ part.stamp))
          ⊎ ((e : Entry) × IsLogged r e × (stamp_after a part.stamp r.stamp ≡ r.stamp))
      go (Took k) is = inl ((λ e left h. let q : Took k ≡ Did e left = sym is ∙ h in cc), refl)
      go (Did e left) is = inr (e, (left, is), refl)
      go (Emitted o) is = inl ((λ e left h. let q : Emitted o ≡ Did e left = sym is ∙ h in cc), refl)
      go (Ended k) is = inl ((λ e left h. let q : Ended k ≡ Did e left = sym is ∙ h in cc), refl)

  stamp_is : (n : ℕ) → n ≡ entries r.step.thread (log_of (r.step ∷ after (rs r.step.thread) past))
      → IsJoinOf past (with_one rs r) (IsEntryOf r.step.thread n) (λ u. slice_index (part_after part r).stamp u)
  stamp_is n is = go stamp_kind
    where
      counted : n ≡ (part_after part r).counts.entries
      counted = is ∙ sym (entries_is next.alone.0 next.alone.2)

      go : (((e : Entry) (left : Option V) → r.step.act ≡ Did e left → ⊥) × ((part_after part r).stamp ≡ part.stamp))
          ⊎ ((e : Entry) × IsLogged r e × ((part_after part r).stamp ≡ r.stamp))
          → IsJoinOf past (with_one rs r) (IsEntryOf r.step.thread n) (λ u. slice_index (part_after part r).stamp u)
      go (inl (none, same)) = subst
          (λ (s : List ℕ). IsJoinOf past (with_one rs r) (IsEntryOf r.step.thread n) (λ u. slice_index s u)) (sym same)
          (subst (λ (k : ℕ). IsJoinOf past (with_one rs r) (IsEntryOf r.step.thread k) (λ u. slice_index part.stamp u))
          (sym (is ∙ quiet)) (unlogged_stamp (λ e l. none e l.0 l.1)))
        where
          quiet : entries r.step.thread (log_of (r.step ∷ after (rs r.step.thread) past)) ≡ count past rs r.step.thread
          quiet = pick (log_step r.step.act (log_of (after (rs r.step.thread) past)))
            where
              pick : (((e : Entry) (left : Option V) → r.step.act ≡ Did e left → ⊥)
                  × (log_more r.step.act (log_of (after (rs r.step.thread) past))
                  ≡ log_of (after (rs r.step.thread) past)))
                  ⊎ ((e : Entry) × (left : Option V) × (r.step.act ≡ Did e left)
                  × (log_more r.step.act (log_of (after (rs r.step.thread) past))
                  ≡ e ∷ log_of (after (rs r.step.thread) past)))
                  → entries r.step.thread (log_of (r.step ∷ after (rs r.step.thread) past))
                  ≡ count past rs r.step.thread
              pick (inl (never, log)) = ap (λ (l : List Entry). entries r.step.thread l) log
              pick (inr (e, left, did, log)) = absurd (none e left did)
      go (inr (e, l, same)) =
          subst (λ (s : List ℕ). IsJoinOf past (with_one rs r) (IsEntryOf r.step.thread n) (λ u. slice_index s u))
          (sym same) (logged_stamp e l n (is ∙ logged))
        where
          logged : entries r.step.thread (log_of (r.step ∷ after (rs r.step.thread) past))
              ≡ count past rs r.step.thread + 1
          logged =
              let log : log_of (r.step ∷ after (rs r.step.thread) past) ≡ e ∷ log_of (after (rs r.step.thread) past) =
              ap (λ (a : Act V). log_more a (log_of (after (rs r.step.thread) past))) l.1 in
              ap (λ (k : List Entry). entries r.step.thread k) log
              ∙ rw (is_eq e.thread r.step.thread (number m inputs threads past rs part r next e l).0) refl

  -- a packet in hand was taken
  pub held_grows : in_hand_count (part_after part r).hand ≤ (part_after part r).counts.taken
  held_grows = go next.alone.0 next.alone.2 leads
    where
      go : (d : Effect V) → Acts d → LeadsOn d
          → in_hand_count (local_in r.step.after.hand) ≤ (part_after part r).counts.taken
      go Takes is l = rw is (omega (arith, l.2))
      go (Touches v left) is l = rw is (omega (arith, held_is, next.held, l.0, l.2))
      go (Looks v) is l = rw is (omega (arith, held_is, next.held, l.0, l.2))
      go (HearsClock a) is l = rw is (omega (arith, held_is, next.held, l.0, l.2))
      go (HearsDraw a) is l = rw is (omega (arith, held_is, next.held, l.0, l.2))
      go (Sends packet) is l = rw is (omega (arith, held_is, next.held, l.0, l.2))
      go Ends is l = rw is (omega (arith, l.2))

  pub seat_grows : IsSeat past (with_one rs r) r.step.thread (part_after part r)
  seat_grows = record {
    taken =
        taken_is next.alone.0 next.alone.2 leads
        ∙ (sym (ap (λ (th : Thread). th.taken) here)
        ∙ ap (λ (l : List (Receipt V)). (thread_after (after l past) r.step.thread).taken) back);
    logged = entries_is next.alone.0 next.alone.2 ∙ counted;
    outputs =
        outputs_is next.alone.0 next.alone.2
        ∙ ap (λ (l : List (Receipt V)). outputs r.step.thread (sent_of (after l past))) back;
    hand =
        sym (ap (λ (th : Thread). local_in th.hand) here)
        ∙ ap (λ (l : List (Receipt V)). local_in (thread_after (after l past) r.step.thread).hand) back;
    made =
        made_is next.alone.0 next.alone.2 leads
        ∙ ap (λ (l : List (Receipt V)). moves_of r.step.thread (after l past)) back;
    stamp = stamp_is (count past (with_one rs r) r.step.thread) (sym counted);
  }
    where
      back : r ∷ rs r.step.thread ≡ with_one rs r r.step.thread
      back = sym own_is

      counted : entries r.step.thread (log_of (r.step ∷ after (rs r.step.thread) past))
          ≡ count past (with_one rs r) r.step.thread
      counted = ap (λ (l : List (Receipt V)). entries r.step.thread (log_of (after l past))) back
