-- What the receipts of a thread leave it is what its notes say.
use Rattle.std.proofs.Common.{◌≡◌, ℕ, ◌+◌, ◌⊎◌, inl, inr, List, [], ◌∷◌, refl, sym, ap, ◌∙◌, subst, cond, Bool}
use Rattle.std.proofs.Common.{Option, Some}
use Rattle.plain_text.specs.declared.packet.Packet.{Packet}
use Rattle.entry_order.specs.declared.what.What.{What}
use Rattle.entry_order.specs.declared.what.What.TheVariants as what
use Rattle.access_log.specs.Held.{Lane}
use Rattle.access_log.specs.declared.entry.StampedEntry.{StampedEntry}
use Rattle.box_program.specs.Hands.{local_in}
use Rattle.plain_machine.specs.declared.local.Local.{Local}
use Rattle.plain_machine.specs.declared.local.Move.TheVariants as move
use Rattle.plain_machine.specs.Program.{Meaning}
use Rattle.plain_machine.specs.Machine.{Hand, Thread}
use Rattle.plain_machine.specs.History.{Step, thread_after}
use Rattle.plain_machine.proofs.Histories.{is_eq}
use Rattle.master_core.specs.declared.parts.VarPart.{VarPart}
use Rattle.master_core.specs.declared.parts.ThreadPart.{ThreadPart}
use Rattle.master_core.specs.declared.step.Trace.{Trace}
use Rattle.master_core.specs.declared.step.Trace.TheVariants as trace
use Rattle.master_core.specs.Effects.{TouchesParts, ReadsParts}
use Rattle.round_order.specs.Receipts.{Receipt, after}
use Rattle.round_order.specs.Growth.{stamp_after}
use Rattle.var_locks.specs.declared.view.Note.{Note}
use Rattle.var_locks.specs.Notes.{IsOwnBy, IsOwnEntry, IsOnVariable, packet_in, packet_or, place_or, entry_receipt}
use Rattle.var_locks.specs.Notes.{receipt_by, read_note, read_notes, told_by, answer_in}
use Rattle.round_events.specs.Done.{IsDone, AreDone}
use Rattle.round_events.proofs.Noting.{touch_read, look_read}
use Rattle.round_events.proofs.Stamping.{newest_stamp}

-- The receipt is of thread t, was told this answer, and leaves the thread what the note says.
pub record Leaves {V : Type 0} (t : ℕ) (n : Note V) (r : Receipt V) (told : Option ℕ) : Type 0 where
  pub thread : r.step.thread ≡ t
  pub answer : r.answer ≡ told
  pub stamp : stamp_after r.step.act n.before.stamp r.stamp ≡ n.after.stamp
  pub taken : n.after.counts.taken ≡ r.step.after.taken
  pub hand : n.after.hand ≡ local_in r.step.after.hand

module _ {V : Type 0} (m : Meaning V) (t : ℕ) (n : Note V) (hand : Option Hand) where
  heard : (e : StampedEntry) (w : What) → IsOwnEntry m t n e w
      → Leaves t n (entry_receipt m t (packet_in hand) n e w) (told_by w)
  heard e (what.Access v s) is = absurd is
  heard e (what.Read v s) is = absurd is
  heard e (what.Clock a) (place, next, is) = record {
    thread = refl;
    answer = refl;
    stamp = sym (ap (λ (q : ThreadPart). q.stamp) is.hears.thread);
    taken = ap (λ (q : ThreadPart). q.counts.taken) is.hears.thread;
    hand = ap (λ (q : ThreadPart). q.hand) is.hears.thread
        ∙ sym (ap (λ (o : Option Local). Some (m.told a (place_or o))) is.hand);
  }
  heard e (what.Draw a) (place, next, is) = record {
    thread = refl;
    answer = refl;
    stamp = sym (ap (λ (q : ThreadPart). q.stamp) is.hears.thread);
    taken = ap (λ (q : ThreadPart). q.counts.taken) is.hears.thread;
    hand = ap (λ (q : ThreadPart). q.hand) is.hears.thread
        ∙ sym (ap (λ (o : Option Local). Some (m.told a (place_or o))) is.hand);
  }

  own_leaves : (tr : Trace) → IsOwnBy m t n tr → Leaves t n (receipt_by m t (packet_in hand) n tr) (answer_in tr)
  own_leaves (trace.Took k) (packet, is) = record {
    thread = refl;
    answer = refl;
    stamp = sym (ap (λ (q : ThreadPart). q.stamp) is.thread);
    taken = ap (λ (q : ThreadPart). q.counts.taken) is.thread;
    hand = ap (λ (q : ThreadPart). q.hand) is.thread
        ∙ sym (ap (λ (o : Option Packet). Some (m.begin (packet_or o))) is.passed);
  }
  own_leaves (trace.Did e) is = heard e e.what is
  own_leaves (trace.Emitted k) (place, is) = record {
    thread = refl;
    answer = refl;
    stamp = sym (ap (λ (q : ThreadPart). q.stamp) is.thread);
    taken = ap (λ (q : ThreadPart). q.counts.taken) is.thread;
    hand = ap (λ (q : ThreadPart). q.hand) is.thread
        ∙ sym (ap (λ (o : Option Local). Some (m.emitted (place_or o))) is.hand);
  }
  own_leaves (trace.Ended k) (place, is) = record {
    thread = refl;
    answer = refl;
    stamp = sym (ap (λ (q : ThreadPart). q.stamp) is.thread);
    taken = ap (λ (q : ThreadPart). q.counts.taken) is.thread;
    hand = ap (λ (q : ThreadPart). q.hand) is.thread;
  }

  on_leaves : (v : ℕ) (x y : VarPart V) (place : Local) (e : StampedEntry) → IsOnVariable m t v n x y place e
      → Leaves t n (read_note m t hand n) (answer_in n.trace)
  on_leaves v x y place e is = go is.does
    where
      told : (w : What) → e.what ≡ w → told_by w ≡ answer_in n.trace
      told w same = ap told_by (sym same) ∙ sym (ap answer_in is.trace)

      go : ((m.next place ≡ move.Access v) × TouchesParts m t v place n.before x e n.after y)
          ⊎ ((m.next place ≡ move.Read v) × ReadsParts m t v place n.before x e n.after y)
          → Leaves t n (read_note m t hand n) (answer_in n.trace)
      go (inl (next, does)) = subst (λ (r : Receipt V). Leaves t n r (answer_in n.trace))
          (sym (touch_read m [] t n hand v x y place e is does)) (record {
            thread = refl;
            answer = told (what.Access v (x.places + 1)) (ap (λ (f : StampedEntry). f.what) does.logs.entry);
            stamp = sym (ap (λ (q : ThreadPart). q.stamp) does.logs.thread);
            taken = ap (λ (q : ThreadPart). q.counts.taken) does.logs.thread;
            hand = ap (λ (q : ThreadPart). q.hand) does.logs.thread;
          })
      go (inr (next, does)) = subst (λ (r : Receipt V). Leaves t n r (answer_in n.trace))
          (sym (look_read m [] t n hand v x y place e is does)) (record {
            thread = refl;
            answer = told (what.Read v x.places) (ap (λ (f : StampedEntry). f.what) does.logs.entry);
            stamp = sym (ap (λ (q : ThreadPart). q.stamp) does.logs.thread);
            taken = ap (λ (q : ThreadPart). q.counts.taken) does.logs.thread;
            hand = ap (λ (q : ThreadPart). q.hand) does.logs.thread;
          })

  pub note_leaves : IsDone m t n → Leaves t n (read_note m t hand n) (answer_in n.trace)
  note_leaves (inl own) = own_leaves n.trace own
  note_leaves (inr (v, x, y, place, e, is)) = on_leaves v x y place e is

-- The thread has this part after the history, whose newest stamp of it is this one.
pub record HasPart {V : Type 0} (steps : List (Step V)) (t : ℕ) (newest : List ℕ) (part : ThreadPart) : Type 0 where
  pub taken : part.counts.taken ≡ (thread_after steps t).taken
  pub hand : part.hand ≡ local_in (thread_after steps t).hand
  pub stamp : newest ≡ part.stamp

-- one more move
more_part : {V : Type 0} (m : Meaning V) (t : ℕ) (n : Note V) (steps : List (Step V)) (stamp : List ℕ)
    → IsDone m t n → HasPart steps t stamp n.before
    → HasPart ((read_note m t (thread_after steps t).hand n).step ∷ steps) t
    (stamp_after (read_note m t (thread_after steps t).hand n).step.act stamp
    (read_note m t (thread_after steps t).hand n).stamp) n.after
more_part {V} m t n steps stamp done has =
    let hand = (thread_after steps t).hand in
    let k = note_leaves m t n hand done in
    let at : thread_after ((read_note m t hand n).step ∷ steps) t ≡ (read_note m t hand n).step.after =
    ap (λ (b : Bool). cond b (read_note m t hand n).step.after (thread_after steps t))
    (is_eq (read_note m t hand n).step.thread t k.thread) in record {
      taken = k.taken ∙ sym (ap (λ (th : Thread). th.taken) at);
      hand = k.hand ∙ sym (ap (λ (th : Thread). local_in th.hand) at);
      stamp = ap
          (λ (l : List ℕ). stamp_after (read_note m t hand n).step.act l (read_note m t hand n).stamp) has.stamp
          ∙ k.stamp;
    }

-- The part that the notes of a thread lead to is the one that it has after their receipts.
pub part_of : {V : Type 0} (m : Meaning V) (guide : List Lane) (past : List (Step V)) (t : ℕ) (first : ThreadPart)
    (notes : List (Note V)) (part : ThreadPart) → HasPart past t first.stamp first
    → AreDone m guide t first notes part
    → HasPart (after (read_notes m past t notes) past) t (newest_stamp first.stamp (read_notes m past t notes)) part
part_of {V} m guide past t first [] part opens same =
    subst (λ (q : ThreadPart). HasPart past t first.stamp q) (sym same) opens
part_of {V} m guide past t first (n ∷ notes) part opens (is, done, guided, before) =
    subst (λ (q : ThreadPart). HasPart (after (read_notes m past t (n ∷ notes)) past) t
    (newest_stamp first.stamp (read_notes m past t (n ∷ notes))) q) is
    (more_part m t n (after (read_notes m past t notes) past)
    (newest_stamp first.stamp (read_notes m past t notes)) done
    (part_of m guide past t first notes n.before opens before))
