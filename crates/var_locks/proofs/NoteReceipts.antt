-- A note of a move is read as the receipt that the law on moves of parts is about.
use Rattle.std.proofs.Common.{◌≡◌, ℕ, ◌+◌, ◌⊎◌, inl, inr, List, refl, sym, ap, ◌∙◌, subst, Option, Some, None}
use Rattle.std.specs.Prelude.{slice_get, slice_index, cond, is_some, ◌-◌}
use Rattle.plain_text.specs.declared.packet.Packet.{Packet}
use Rattle.entry_order.specs.declared.what.What.{What}
use Rattle.entry_order.specs.declared.what.What.TheVariants as what
use Rattle.access_log.specs.declared.entry.StampedEntry.{StampedEntry}
use Rattle.plain_machine.specs.declared.local.Local.{Local}
use Rattle.plain_machine.specs.declared.local.Move.TheVariants as move
use Rattle.plain_machine.specs.Program.{Meaning}
use Rattle.plain_machine.specs.Machine.{Hand}
use Rattle.plain_machine.specs.History.{Step, thread_after}
use Rattle.box_program.specs.Hands.{local_in}
use Rattle.master_core.specs.declared.parts.VarPart.{VarPart}
use Rattle.master_core.specs.declared.step.Trace.{Trace}
use Rattle.master_core.specs.declared.step.Trace.TheVariants as trace
use Rattle.master_core.specs.Effects.{LogsEntry, TouchesParts, ReadsParts, after_entry, after_read, next_entry}
use Rattle.master_core.specs.Effects.{HasStamp}
use Rattle.round_order.specs.Receipts.{Receipt, Receipts, after}
use Rattle.round_order.specs.Growth.{IsPrivate, Touches, Reads}
use Rattle.round_order.specs.PartMoves as moves
use Rattle.round_order.proofs.PartReceipts as parts
use Rattle.var_locks.specs.declared.view.Note.{Note}
use Rattle.var_locks.specs.Notes.{IsOwn, IsOwnBy, IsOwnEntry, IsOnVariable, packet_in, packet_or, place_or, found_or}
use Rattle.var_locks.specs.Notes.{entry_receipt, receipt_by, read_note, input_number}

-- with no place in hand there is no packet; with one there is a packet
none_in : (h : Option Hand) → None ≡ local_in h → h ≡ None
none_in None is = refl
none_in (Some h) is = let k : None ≡ Some h.place = is in cc

some_in : (h : Option Hand) (place : Local) → Some place ≡ local_in h
    → h ≡ Some (record { packet = packet_in h; place = place })
some_in None place is = let k : Some place ≡ None = is in cc
some_in (Some h) place is =
    let k : place ≡ h.place = cc in ap (λ (z : Local). Some (record { packet = h.packet; place = z })) (sym k)

module _ {V : Type 0} (m : Meaning V) (inputs : ℕ → List Packet) (threads : ℕ) (past : List (Step V)) (rs : Receipts V)
    (t : ℕ) (n : Note V) (has : moves.HasPart threads past rs t n.before) where
  abbrev hand : Option Hand
  hand = (thread_after (after (rs t) past) t).hand

  -- The receipt is of the thread's next move, which leaves it the part after it, and is private.
  abbrev pub IsOwnReceipt : Receipt V → Type 0
  IsOwnReceipt r = (r.step.thread ≡ t) × moves.Leaves m inputs threads past rs n.before r n.after × IsPrivate n.before r

  in_hand : (place : Local) → n.before.hand ≡ Some place
      → moves.HasHand past rs t (packet_in (thread_after (after (rs t) past) t).hand) place
  in_hand place is = some_in (thread_after (after (rs t) past) t).hand place (sym is ∙ has.seat.hand)

  -- the entry with its stamp is the part's next one
  stamped : (what : What) (join : ℕ → ℕ) (next : Local) (e : StampedEntry)
      → LogsEntry t what join next n.before e n.after → HasStamp (next_entry t n.before what e.stamp) join
  stamped what join next e logs = subst (λ (f : StampedEntry). HasStamp f join) logs.entry logs.stamp

  heard : (e : StampedEntry) (w : What) → IsOwnEntry m t n e w
      → IsOwnReceipt (entry_receipt m t (packet_in (thread_after (after (rs t) past) t).hand) n e w)
  heard e (what.Access v s) is = absurd is
  heard e (what.Read v s) is = absurd is
  heard e (what.Clock a) (place, next, is) =
      let packet : Packet = packet_in (thread_after (after (rs t) past) t).hand in
      let k = parts.hears_time m inputs threads past rs t n.before has packet place (in_hand place is.hand) a e.stamp
      next (stamped (what.Clock a) (λ u. slice_index n.before.stamp u) (m.told a place) e is.hears) in
      subst (λ (z : Local). IsOwnReceipt (moves.hear_receipt m t n.before packet z (what.Clock a) a e.stamp))
      (sym (ap place_or is.hand)) (refl, (k.0.0, k.0.1 ∙ sym is.hears.thread), k.1)
  heard e (what.Draw a) (place, next, is) =
      let packet : Packet = packet_in (thread_after (after (rs t) past) t).hand in
      let k = parts.hears_word m inputs threads past rs t n.before has packet place (in_hand place is.hand) a e.stamp
      next (stamped (what.Draw a) (λ u. slice_index n.before.stamp u) (m.told a place) e is.hears) in
      subst (λ (z : Local). IsOwnReceipt (moves.hear_receipt m t n.before packet z (what.Draw a) a e.stamp))
      (sym (ap place_or is.hand)) (refl, (k.0.0, k.0.1 ∙ sym is.hears.thread), k.1)

  own_by : ((packet : Packet) → n.packet ≡ Some packet → slice_get (inputs t) (input_number n.before) ≡ Some packet)
      → (tr : Trace) → IsOwnBy m t n tr
      → IsOwnReceipt (receipt_by m t (packet_in (thread_after (after (rs t) past) t).hand) n tr)
  own_by fed (trace.Took k) (packet, is) =
      let none : (thread_after (after (rs t) past) t).hand ≡ None =
      none_in (thread_after (after (rs t) past) t).hand (sym is.hand ∙ has.seat.hand) in
      let input : slice_get (inputs t) n.before.counts.taken ≡ Some packet =
      ap
      (λ (o : Option Local). slice_get (inputs t) (cond (is_some o) (n.before.counts.taken - 1) n.before.counts.taken))
      (sym is.hand)
      ∙ fed packet is.passed in
      let k = parts.takes m inputs threads past rs t n.before has packet none input in
      subst (λ (z : Packet). IsOwnReceipt (moves.take_receipt m t n.before z)) (sym (ap packet_or is.passed))
      (refl, (k.0.0, k.0.1 ∙ sym is.thread), k.1)
  own_by fed (trace.Did e) is = heard e e.what is
  own_by fed (trace.Emitted k) (place, is) =
      let packet : Packet = packet_in (thread_after (after (rs t) past) t).hand in
      let k = parts.emits m inputs threads past rs t n.before has packet place (in_hand place is.hand) is.next in
      subst (λ (z : Local). IsOwnReceipt (moves.emit_receipt m t n.before packet z)) (sym (ap place_or is.hand))
      (refl, (k.0.0, k.0.1 ∙ sym is.thread), k.1)
  own_by fed (trace.Ended k) (place, is) =
      let packet : Packet = packet_in (thread_after (after (rs t) past) t).hand in
      let k = parts.ends m inputs threads past rs t n.before has packet place (in_hand place is.hand) is.next in
      (refl, (k.0.0, k.0.1 ∙ sym is.thread), k.1)

  pub own_receipt : ((packet : Packet) → n.packet ≡ Some packet
      → slice_get (inputs t) (input_number n.before) ≡ Some packet) → IsOwn m t n
      → IsOwnReceipt (read_note m t (thread_after (after (rs t) past) t).hand n)
  own_receipt fed is = own_by fed n.trace is

  -- It is of a touch of variable v, or of a read of it, that found x and left y.
  abbrev pub IsReceiptOn : ℕ → VarPart V → VarPart V → Receipt V → Type 0
  IsReceiptOn v x y r =
      (r.step.thread ≡ t)
      × moves.Leaves m inputs threads past rs n.before r n.after
      × (Touches v n.before x y r ⊎ Reads v n.before x y r)

  pub receipt_on : (v : ℕ) (x y : VarPart V) (place : Local) (e : StampedEntry) → IsOnVariable m t v n x y place e
      → IsReceiptOn v x y (read_note m t (thread_after (after (rs t) past) t).hand n)
  receipt_on v x y place e is = go is.does
    where
      packet : Packet
      packet = packet_in (thread_after (after (rs t) past) t).hand

      go : ((m.next place ≡ move.Access v) × TouchesParts m t v place n.before x e n.after y)
          ⊎ ((m.next place ≡ move.Read v) × ReadsParts m t v place n.before x e n.after y)
          → IsReceiptOn v x y (read_note m t (thread_after (after (rs t) past) t).hand n)
      go (inl (next, does)) =
          let pk : Packet = packet_in (thread_after (after (rs t) past) t).hand in
          let k =
          parts.touches m inputs threads past rs t n.before has pk place (in_hand place is.hand) v x e.stamp next
          (stamped (what.Access v (x.places + 1)) (λ u. Rattle.master_core.specs.Effects.before_touch n.before x u)
          (m.touch v x.value place).1 e does.logs) in
          let read : read_note m t (thread_after (after (rs t) past) t).hand n
          ≡ moves.touch_receipt m t n.before pk place v x e.stamp =
          ap (λ (z : Trace). receipt_by m t pk n z) is.trace
          ∙ (ap (λ (w : What). entry_receipt m t pk n e w) (ap (λ (f : StampedEntry). f.what) does.logs.entry)
          ∙ (ap (λ (z : Local). moves.touch_receipt m t n.before pk z v (found_or m n.found) e.stamp)
          (ap place_or is.hand)
          ∙ ap (λ (z : VarPart V). moves.touch_receipt m t n.before pk place v z e.stamp)
          (ap (found_or m) is.found))) in
          subst (λ (r : Receipt V). IsReceiptOn v x y r) (sym read) (
            refl,
            (k.0.0, k.0.1 ∙ sym does.logs.thread),
            inl (subst
                (λ (z : VarPart V). Touches v n.before x z (moves.touch_receipt m t n.before pk place v x e.stamp))
                (sym does.variable) k.1),
          )
      go (inr (next, does)) =
          let pk : Packet = packet_in (thread_after (after (rs t) past) t).hand in
          let k = parts.reads m inputs threads past rs t n.before has pk place (in_hand place is.hand) v x e.stamp
          y.readers next
          (stamped (what.Read v x.places) (λ u. Rattle.master_core.specs.Effects.before_read n.before x u)
          (m.look v x.value place) e does.logs) does.joined in
          let read : read_note m t (thread_after (after (rs t) past) t).hand n
          ≡ moves.read_receipt m t n.before pk place v x e.stamp =
          ap (λ (z : Trace). receipt_by m t pk n z) is.trace
          ∙ (ap (λ (w : What). entry_receipt m t pk n e w) (ap (λ (f : StampedEntry). f.what) does.logs.entry)
          ∙ (ap (λ (z : Local). moves.read_receipt m t n.before pk z v (found_or m n.found) e.stamp)
          (ap place_or is.hand)
          ∙ ap (λ (z : VarPart V). moves.read_receipt m t n.before pk place v z e.stamp) (ap (found_or m) is.found))) in
          subst (λ (r : Receipt V). IsReceiptOn v x y r) (sym read) (
            refl,
            (k.0.0, k.0.1 ∙ sym does.logs.thread),
            inr (subst (λ (z : VarPart V). Reads v n.before x z (moves.read_receipt m t n.before pk place v x e.stamp))
                (sym does.variable) k.1),
          )
