-- A move that is made with the part of its thread and of its variable is the next move of the thread.
use Rattle.std.proofs.Common.{◌≡◌, ℕ, ◌+◌, ◌<◌, List, refl, sym, ap, ◌∙◌, subst, Option, Some, None}
use Rattle.std.specs.Prelude.{max, slice_get, slice_index}
use Rattle.plain_text.specs.declared.packet.Packet.{Packet}
use Rattle.entry_order.specs.declared.what.What.{What}
use Rattle.entry_order.specs.declared.what.What.TheVariants.{Access as Touched, Read as Looked, Clock as Told}
use Rattle.entry_order.specs.declared.what.What.TheVariants.{Draw as Drawn}
use Rattle.entry_order.specs.Log.{Entry}
use Rattle.entry_order.specs.Stamps.{bumped}
use Rattle.plain_machine.specs.declared.local.Local.{Local}
use Rattle.plain_machine.specs.declared.local.Move.{Move}
use Rattle.plain_machine.specs.declared.local.Move.TheVariants.{Access, Read, Clock, Draw, Emit, End}
use Rattle.plain_machine.specs.Program.{Meaning}
use Rattle.plain_machine.specs.Machine.{Hand, Thread, Takes, Touches as TouchesVar, Looks, HearsClock, HearsDraw, Sends}
use Rattle.plain_machine.specs.Machine.{Ends, Moved, sent_packet, hand_move, held_move, take_move, thread_move}
use Rattle.plain_machine.specs.History.{Took, Did, Emitted, Ended, Step, log_of, entry_of, thread_after}
use Rattle.master_core.specs.declared.parts.VarPart.{VarPart}
use Rattle.master_core.specs.declared.parts.ThreadPart.{ThreadPart}
use Rattle.master_core.specs.Stepping.{plain_entry}
use Rattle.master_core.specs.Effects.{after_take, after_entry, after_emit, after_end, next_entry, HasStamp}
use Rattle.master_core.specs.Effects.{before_touch, before_read, after_touch, after_read}
use Rattle.round_order.specs.Receipts.{Receipt, Receipts, after}
use Rattle.round_order.specs.Linked.{IsOwnMove}
use Rattle.round_order.specs.Home.{IsSeat}
use Rattle.round_order.specs.Growth.{IsNextOf, IsPrivate, Touches, Reads}
use Rattle.round_order.specs.PartMoves as moves

module _ {V : Type 0} (m : Meaning V) (inputs : ℕ → List Packet) (threads : ℕ) (past : List (Step V)) (rs : Receipts V)
    (t : ℕ) (part : ThreadPart) (has : moves.HasPart threads past rs t part) where
  abbrev th : Thread
  th = thread_after (after (rs t) past) t

  next_of : (r : Receipt V) → r.step.thread ≡ t → IsOwnMove m inputs (after (rs r.step.thread) past) r
      → IsNextOf m inputs threads past rs part r
  next_of r same alone = record {
    below = subst (λ (u : ℕ). u < threads) (sym same) has.below;
    alone = alone;
    seat = subst (λ (u : ℕ). IsSeat past rs u part) (sym same) has.seat;
    held = has.held;
  }

  -- the entry of the part is the next one of the thread
  entry_is : (what : What) (stamp : List ℕ)
      → plain_entry (next_entry t part what stamp) ≡ entry_of t (log_of (after (rs t) past)) what
  entry_is what stamp =
      ap (λ (n : ℕ). let e : Entry = record { thread = t; number = n + 1; what = what } in e) has.seat.logged

  -- the move with the packet in hand
  hand_moves : (value : ℕ → V) (packet : Packet) (place : Local) (answer : Option ℕ) (next : Move) (z : Moved V)
      → moves.HasHand past rs t packet place → m.next place ≡ next
      → hand_move m value part.counts.taken (record { packet = packet; place = place }) answer next ≡ z
      → thread_move m (inputs t) value (thread_after (after (rs t) past) t) answer ≡ z
  hand_moves value packet place answer next z hand is made =
      ap (λ (o : Option Hand). held_move m (inputs t) value (thread_after (after (rs t) past) t).taken answer o) hand
      ∙ (ap (λ (n : ℕ). hand_move m value n (record { packet = packet; place = place }) answer (m.next place))
      (sym has.seat.taken)
      ∙ (ap (λ (w : Move). hand_move m value part.counts.taken (record { packet = packet; place = place }) answer w) is
      ∙ made))

  module _ (packet : Packet) where
    pub takes : (thread_after (after (rs t) past) t).hand ≡ None → slice_get (inputs t) part.counts.taken ≡ Some packet
        → moves.Leaves m inputs threads past rs part (moves.take_receipt m t part packet)
        (after_take part (m.begin packet))
        × IsPrivate part (moves.take_receipt m t part packet)
    takes none input = (
      (
        next_of (moves.take_receipt m t part packet) refl (
          Takes,
          ap (λ (o : Option Hand).
              held_move m (inputs t) (λ v. m.fresh 0) (thread_after (after (rs t) past) t).taken None o) none
              ∙ (ap (λ (n : ℕ). take_move m n None (slice_get (inputs t) n)) (sym has.seat.taken)
              ∙ ap (λ (i : Option Packet). take_move m part.counts.taken None i) input),
          refl,
        ),
        refl,
      ),
      record {
        no_touch = λ v left a. let k : Took (part.counts.taken + 1) ≡ Did a.0 (Some left) = a.1 in cc;
        no_read = λ v a. let k : Took (part.counts.taken + 1) ≡ Did a.0 None = a.1 in cc;
        stamp = λ e l u. let k : Took (part.counts.taken + 1) ≡ Did e l.0 = l.1 in cc;
        none = λ n u. refl;
      },
    )

    module _ (place : Local) (hand : moves.HasHand past rs t packet place) where
      abbrev h : Hand
      h = record { packet = packet; place = place }

      pub ends : m.next place ≡ End
          → moves.Leaves m inputs threads past rs part (moves.end_receipt m t part) (after_end part)
          × IsPrivate part (moves.end_receipt m t part)
      ends is = (
        (
          next_of (moves.end_receipt m t part) refl
              (Ends, hand_moves (λ v. m.fresh 0) packet place None End _ hand is refl, refl),
          refl,
        ),
        record {
          no_touch = λ v left a. let k : Ended part.counts.taken ≡ Did a.0 (Some left) = a.1 in cc;
          no_read = λ v a. let k : Ended part.counts.taken ≡ Did a.0 None = a.1 in cc;
          stamp = λ e l u. let k : Ended part.counts.taken ≡ Did e l.0 = l.1 in cc;
          none = λ n u. refl;
        },
      )

      pub emits : m.next place ≡ Emit
          → moves.Leaves m inputs threads past rs part (moves.emit_receipt m t part packet place)
          (after_emit part (m.emitted place))
          × IsPrivate part (moves.emit_receipt m t part packet place)
      emits is = (
        (
          next_of (moves.emit_receipt m t part packet place) refl (
            Sends (sent_packet m h),
            hand_moves (λ v. m.fresh 0) packet place None Emit _ hand is refl,
            ap (λ (n : ℕ).
                Emitted (record { thread = t; number = n + 1; input = part.counts.taken; packet = sent_packet m h }))
                has.seat.outputs,
          ),
          refl,
        ),
        record {
          no_touch =
              λ v left a. let k : (moves.emit_receipt m t part packet place).step.act ≡ Did a.0 (Some left) = a.1 in cc;
          no_read = λ v a. let k : (moves.emit_receipt m t part packet place).step.act ≡ Did a.0 None = a.1 in cc;
          stamp = λ e l u. let k : (moves.emit_receipt m t part packet place).step.act ≡ Did e l.0 = l.1 in cc;
          none = λ n u. refl;
        },
      )

      -- an answer is on no variable
      heard : (what : What) (a : ℕ) (stamp : List ℕ) → ((v s : ℕ) → what ≡ Touched v s → ⊥)
          → ((v s : ℕ) → what ≡ Looked v s → ⊥)
          → HasStamp (next_entry t part what stamp) (λ u. slice_index part.stamp u)
          → IsPrivate part (moves.hear_receipt m t part packet place what a stamp)
      heard what a stamp no_touch no_read st = record {
        no_touch = λ v left (e, is, w).
            let k : Did (plain_entry (next_entry t part what stamp)) None ≡ Did e (Some left) = is in cc;
        no_read = λ v (e, is, w).
            let k : Did (plain_entry (next_entry t part what stamp)) None ≡ Did e None = is in
            let same : plain_entry (next_entry t part what stamp) ≡ e = cc in
            no_read v 0 (ap (λ (f : Entry). f.what) same ∙ w);
        stamp = λ e l u.
            let k : Did (plain_entry (next_entry t part what stamp)) None ≡ Did e l.0 = l.1 in
            let same : plain_entry (next_entry t part what stamp) ≡ e = cc in
            subst (λ (f : Entry). slice_index stamp u ≡ bumped f (λ w. slice_index part.stamp w) u) same (st u);
        none = λ n u. absurd (n (plain_entry (next_entry t part what stamp)) (None, refl));
      }

      pub hears_time : (a : ℕ) (stamp : List ℕ) → m.next place ≡ Clock
          → HasStamp (next_entry t part (Told a) stamp) (λ u. slice_index part.stamp u)
          → moves.Leaves m inputs threads past rs part (moves.hear_receipt m t part packet place (Told a) a stamp)
          (after_entry part (m.told a place) stamp)
          × IsPrivate part (moves.hear_receipt m t part packet place (Told a) a stamp)
      hears_time a stamp is st = (
        (
          next_of (moves.hear_receipt m t part packet place (Told a) a stamp) refl (
            HearsClock a,
            hand_moves (λ v. m.fresh 0) packet place (Some a) Clock _ hand is refl,
            ap (λ (e : Entry). Did e None) (entry_is (Told a) stamp),
          ),
          refl,
        ),
        heard (Told a) a stamp (λ v s k. cc) (λ v s k. cc) st,
      )

      pub hears_word : (a : ℕ) (stamp : List ℕ) → m.next place ≡ Draw
          → HasStamp (next_entry t part (Drawn a) stamp) (λ u. slice_index part.stamp u)
          → moves.Leaves m inputs threads past rs part (moves.hear_receipt m t part packet place (Drawn a) a stamp)
          (after_entry part (m.told a place) stamp)
          × IsPrivate part (moves.hear_receipt m t part packet place (Drawn a) a stamp)
      hears_word a stamp is st = (
        (
          next_of (moves.hear_receipt m t part packet place (Drawn a) a stamp) refl (
            HearsDraw a,
            hand_moves (λ v. m.fresh 0) packet place (Some a) Draw _ hand is refl,
            ap (λ (e : Entry). Did e None) (entry_is (Drawn a) stamp),
          ),
          refl,
        ),
        heard (Drawn a) a stamp (λ v s k. cc) (λ v s k. cc) st,
      )

      pub touches : (v : ℕ) (x : VarPart V) (stamp : List ℕ) → m.next place ≡ Access v
          → HasStamp (next_entry t part (Touched v (x.places + 1)) stamp) (before_touch part x)
          → moves.Leaves m inputs threads past rs part (moves.touch_receipt m t part packet place v x stamp)
          (after_entry part (m.touch v x.value place).1 stamp)
          × Touches v part x (after_touch m v place x stamp) (moves.touch_receipt m t part packet place v x stamp)
      touches v x stamp is st = (
        (
          next_of (moves.touch_receipt m t part packet place v x stamp) refl (
            TouchesVar v (m.touch v x.value place).0,
            hand_moves (λ w. x.value) packet place None (Access v) _ hand is refl,
            ap (λ (e : Entry). Did e (Some (m.touch v x.value place).0)) (entry_is (Touched v (x.places + 1)) stamp),
          ),
          refl,
        ),
        record {
          touch = (plain_entry (next_entry t part (Touched v (x.places + 1)) stamp), refl, refl);
          found = refl;
          place = refl;
          stamp = st;
          left = refl;
        },
      )

      pub reads : (v : ℕ) (x : VarPart V) (stamp readers : List ℕ) → m.next place ≡ Read v
          → HasStamp (next_entry t part (Looked v x.places) stamp) (before_read part x)
          → ((u : ℕ) → slice_index readers u ≡ max (slice_index x.readers u) (slice_index stamp u))
          → moves.Leaves m inputs threads past rs part (moves.read_receipt m t part packet place v x stamp)
          (after_entry part (m.look v x.value place) stamp)
          × Reads v part x (after_read x readers) (moves.read_receipt m t part packet place v x stamp)
      reads v x stamp readers is st joined = (
        (
          next_of (moves.read_receipt m t part packet place v x stamp) refl (
            Looks v,
            hand_moves (λ w. x.value) packet place None (Read v) _ hand is refl,
            ap (λ (e : Entry). Did e None) (entry_is (Looked v x.places) stamp),
          ),
          refl,
        ),
        record {
          read = (plain_entry (next_entry t part (Looked v x.places) stamp), refl, refl);
          found = refl;
          place = refl;
          stamp = st;
          readers = joined;
          left = refl;
        },
      )
