-- Each move of a round shows its receipt, at its place in the woven order.
use Rattle.std.proofs.Common.{◌≡◌, ℕ, ◌-◌, ◌≤◌, ◌<◌, inl, List, [], ◌∷◌, refl, sym, ap, ◌∙◌, subst, cond}
use Rattle.std.proofs.Common.{Option, Some, None, Ok, arith}
use Rattle.std.specs.Prelude.{slice_get, slice_index, is_some}
use Rattle.plain_text.specs.declared.packet.Packet.{Packet}
use Rattle.entry_order.specs.Log.{Entry}
use Rattle.entry_order.specs.Stamps.{IsStamp}
use Rattle.access_log.specs.Held.{Lane}
use Rattle.box_program.specs.Hands.{local_in}
use Rattle.plain_machine.specs.Line.{LastTaken}
use Rattle.plain_machine.proofs.Hands.{hand_input}
use Rattle.plain_machine.specs.declared.local.Local.{Local}
use Rattle.plain_machine.specs.declared.plain_move.PlainMove.{PlainMove}
use Rattle.plain_machine.specs.Program.{Meaning}
use Rattle.plain_machine.specs.Machine.{Hand, Thread}
use Rattle.plain_machine.specs.History.{Did, Step, log_of, thread_after, play}
use Rattle.master_core.specs.declared.parts.ThreadPart.{ThreadPart}
use Rattle.master_core.specs.Stepping.{Shows}
use Rattle.round_order.specs.Receipts.{Receipt, Receipts, own, after}
use Rattle.round_order.specs.Linked.{IsLinked}
use Rattle.round_order.proofs.OrderFronts.{IsFront, front_rest}
use Rattle.round_order.proofs.OwnReceipts.{seat_own}
use Rattle.round_order.proofs.WovenSteps.{all_go}
use Rattle.var_locks.specs.Notes.{packet_in, input_number}
use Rattle.round_events.specs.Guided.{KeepsTo}
use Rattle.round_events.specs.Leading.{AllKeep}
use Rattle.round_events.proofs.Noting.{note_keeps}
use Rattle.round_events.proofs.Showing.{IsThere, shows}
use Rattle.round_events.proofs.Stamping.{newest_stamp, IsNextStamp, next_stamps}
use Rattle.round_join.specs.declared.noting.Made.{Made}
use Rattle.round_join.proofs.SeatNotes.{IsBeside}
use Rattle.round_join.proofs.DrawnTurns.{AreOrdered}
use Rattle.round_join.proofs.Joining.{AreShown}

-- with a packet in hand, it is the input that was taken last
packet_is : (inputs : List Packet) (th : Thread) (part : ThreadPart) (p : Packet) (place : Local)
    → part.counts.taken ≡ th.taken → part.hand ≡ local_in th.hand
    → ((h : Hand) → th.hand ≡ Some h → LastTaken inputs th h) → slice_get inputs (input_number part) ≡ Some p
    → part.hand ≡ Some place → packet_in th.hand ≡ p
packet_is inputs th part p place taken hand last fed is = go th.hand refl
  where
    go : (o : Option Hand) → th.hand ≡ o → packet_in o ≡ p
    go None none =
        let k : Some place ≡ None = sym is ∙ (hand ∙ ap (λ (o : Option Hand). local_in o) none) in absurd (cc)
    go (Some h) has =
        let k = last h has in
        let number : input_number part ≡ part.counts.taken - 1 =
        ap (λ (o : Option Local). cond (is_some o) (part.counts.taken - 1) part.counts.taken) is in
        let before : part.counts.taken - 1 ≡ k.0 = (let q = k.1 in omega (arith, taken, q)) in
        let both : Some h.packet ≡ Some p =
        sym k.2 ∙ (ap (λ (i : ℕ). slice_get inputs i) (sym (number ∙ before)) ∙ fed) in
        cc

module _ {V : Type 0} (m : Meaning V) (guide : List Lane) (inputs : ℕ → List Packet) (threads : ℕ)
    (moves : List PlainMove) (past : List (Step V)) (rs : Receipts V) (few : threads ≤ 16)
    (played : play m inputs threads moves ≡ Ok past) (linked : IsLinked m inputs threads past rs)
    (first : ℕ → ThreadPart)
    (opens : (u : ℕ) → u < threads → IsNextStamp (log_of past) u (first u).stamp) where
  -- the moves stand beside the receipts of an order
  abbrev pub InOrder : List Made → List (Receipt V) → Type 0
  InOrder drawn order = AreOrdered (IsBeside m guide inputs past first) drawn order

  -- each keeps to the guide
  pub all_keep : (drawn : List Made) (order : List (Receipt V)) → InOrder drawn order → AllKeep guide order
  all_keep [] [] ordered = tt
  all_keep [] (r ∷ order) ordered = absurd ordered
  all_keep (x ∷ drawn) [] ordered = absurd ordered
  all_keep (x ∷ drawn) (r ∷ order) ((t, rest, of, mine, b), ordered) = (
    subst (λ (z : Receipt V). KeepsTo guide z.stamp z.step.act) (sym b.is)
        (note_keeps m guide t b.note (thread_after (after rest past) t).hand b.done b.guided),
    all_keep drawn order ordered,
  )

  -- what holds of a note at its place
  module _ (r : Receipt V) (earlier : List (Receipt V)) (front : IsFront m inputs past rs (r ∷ earlier)) (t : ℕ)
      (rest : List (Receipt V)) (x : Made) (of : r.step.thread ≡ t) (mine : own t earlier ≡ rest)
      (b : IsBeside m guide inputs past first t r rest x) where
    behind : IsFront m inputs past rs earlier
    behind = front_rest m inputs past rs r earlier front

    low : t < threads
    low = subst (λ (u : ℕ). u < threads) of (linked.below r (front.within r (inl refl)))

    thread_is : thread_after (after earlier past) t ≡ thread_after (after rest past) t
    thread_is = (seat_own m inputs past t earlier behind.alone).thread
        ∙ ap (λ (l : List (Receipt V)). thread_after (after l past) t) mine

    stamped : (e : Entry) (left : Option V) → r.step.act ≡ Did e left
        → IsStamp (log_of (r.step ∷ after earlier past)) e (λ u. slice_index r.stamp u)
    stamped e left is =
        ((all_go m inputs threads moves past rs few played linked (r ∷ earlier) front).stamps r e (inl refl)
        (left, is)).1

    next : IsNextStamp (log_of (after earlier past)) t b.note.before.stamp
    next = subst (λ (l : List ℕ). IsNextStamp (log_of (after earlier past)) t l)
        (ap (λ (l : List (Receipt V)). newest_stamp (first t).stamp l) mine ∙ b.before.stamp)
        (next_stamps m inputs threads moves past rs few played linked (λ u. (first u).stamp) opens earlier behind t low)

    taken : (h : Hand) → (thread_after (after rest past) t).hand ≡ Some h
        → LastTaken (inputs t) (thread_after (after rest past) t) h
    taken h is = subst (λ (th : Thread). LastTaken (inputs t) th h) thread_is
        (hand_input m inputs threads (after earlier past)
        (all_go m inputs threads moves past rs few played linked earlier behind).history t h
        (ap (λ (th : Thread). th.hand) thread_is ∙ is))

    there : IsThere m t b.note (thread_after (after rest past) t).hand (after earlier past)
    there = record {
      stamped = subst (λ (z : Receipt V). (e : Entry) (left : Option V) → z.step.act ≡ Did e left
          → IsStamp (log_of (z.step ∷ after earlier past)) e (λ u. slice_index z.stamp u)) b.is stamped;
      next = next;
      packet = λ p place passed hand. packet_is (inputs t) (thread_after (after rest past) t) b.note.before p place
          b.before.taken b.before.hand taken (b.fed p passed) hand;
    }

    pub is_shown : Shows (after earlier past) x.stepped r.step
    is_shown = subst (λ (z : Receipt V). Shows (after earlier past) x.stepped z.step) (sym b.is)
        (shows m t b.note (thread_after (after rest past) t).hand (after earlier past) there x.stepped b.done
        b.made.shown)

  pub are_shown : (drawn : List Made) (order : List (Receipt V)) → IsFront m inputs past rs order
      → InOrder drawn order → AreShown past drawn order
  are_shown [] [] front ordered = tt
  are_shown [] (r ∷ order) front ordered = absurd ordered
  are_shown (x ∷ drawn) [] front ordered = absurd ordered
  are_shown (x ∷ drawn) (r ∷ order) front ((t, rest, of, mine, b), ordered) = (
    b.made.thread ∙ sym of,
    sym b.leaves.answer,
    is_shown r order front t rest x of mine b,
    are_shown drawn order (front_rest m inputs past rs r order front) ordered,
  )
