-- What a call answered of a move is what its receipt shows at its place in the woven order.
use Rattle.std.proofs.Common.{◌≡◌, ℕ, ◌+◌, ◌⊎◌, inl, inr, List, [], ◌∷◌, sym, ap, ◌∙◌, subst, Option, Some}
use Rattle.std.proofs.Common.{None}
use Rattle.std.specs.Prelude.{slice_index}
use Rattle.plain_text.specs.declared.packet.Packet.{Packet}
use Rattle.entry_order.specs.declared.what.What.{What}
use Rattle.entry_order.specs.declared.what.What.TheVariants as what
use Rattle.entry_order.specs.Log.{Entry, entries}
use Rattle.entry_order.specs.Stamps.{IsStamp, IsOutputStamp}
use Rattle.access_log.specs.declared.entry.StampedEntry.{StampedEntry}
use Rattle.access_log.specs.declared.entry.Output.{Output}
use Rattle.plain_machine.specs.declared.local.Local.{Local}
use Rattle.plain_machine.specs.declared.local.Move.TheVariants as move
use Rattle.plain_machine.specs.Program.{Meaning}
use Rattle.plain_machine.specs.Machine.{Hand}
use Rattle.plain_machine.specs.History.{Act, Took, Did, Emitted, Ended, Step, log_of}
use Rattle.master_core.specs.declared.parts.VarPart.{VarPart}
use Rattle.master_core.specs.declared.step.Trace.{Trace}
use Rattle.master_core.specs.declared.step.Trace.TheVariants as trace
use Rattle.master_core.specs.declared.step.Stepped.{Stepped}
use Rattle.master_core.specs.declared.step.Stepped.TheVariants as stepped
use Rattle.master_core.specs.Stepping.{plain_entry, emission_of_output, DidEntry, Shows}
use Rattle.master_core.specs.Effects.{TouchesParts, ReadsParts, next_entry, next_output}
use Rattle.round_order.specs.Receipts.{Receipt}
use Rattle.var_locks.specs.declared.view.Note.{Note}
use Rattle.var_locks.specs.Notes.{IsOwn, IsOwnBy, IsOwnEntry, IsOnVariable, packet_in, place_or, entry_receipt}
use Rattle.var_locks.specs.Notes.{receipt_by, read_note}
use Rattle.round_events.specs.Done.{IsDone}
use Rattle.round_events.specs.Shown.{IsShown}
use Rattle.round_events.proofs.Noting.{touch_read, look_read}

did_only : (a b : StampedEntry) → trace.Did a ≡ trace.Did b → a ≡ b
did_only a b e = cc

module _ {V : Type 0} (m : Meaning V) (t : ℕ) (n : Note V) (hand : Option Hand) (past : List (Step V)) where
  abbrev r : Receipt V
  r = read_note m t hand n

  -- what holds of the receipt there: each entry that it has has its stamp, and what is sent out has that of the thread;
  -- and the packet in hand is the one that was passed
  pub record IsThere : Type 0 where
    pub stamped : (e : Entry) (left : Option V) → (read_note m t hand n).step.act ≡ Did e left
        → IsStamp (log_of ((read_note m t hand n).step ∷ past)) e (λ u. slice_index (read_note m t hand n).stamp u)
    pub next : IsOutputStamp (log_of past) t (entries t (log_of past)) (λ u. slice_index n.before.stamp u)
    pub packet : (p : Packet) (place : Local) → n.packet ≡ Some p → n.before.hand ≡ Some place → packet_in hand ≡ p

  -- an entry, by the receipt
  did : IsThere → (e : StampedEntry) (w : What) (left : Option V)
      → (read_note m t hand n).step.act ≡ Did (plain_entry (next_entry t n.before w e.stamp)) left
      → (read_note m t hand n).stamp ≡ e.stamp → e ≡ next_entry t n.before w e.stamp
      → DidEntry past e (read_note m t hand n).step
  did there e w left act stamp is =
      let mine : (read_note m t hand n).step.act ≡ Did (plain_entry e) left =
      act ∙ ap (λ (f : StampedEntry). Did (plain_entry f) left) (sym is) in (
        (left, mine),
        subst (λ (l : List ℕ).
            IsStamp (log_of ((read_note m t hand n).step ∷ past)) (plain_entry e) (λ u. slice_index l u)) stamp
            (there.stamped (plain_entry e) left mine),
      )

  on_did : IsThere → (v : ℕ) (x y : VarPart V) (place : Local) (e : StampedEntry) → IsOnVariable m t v n x y place e
      → DidEntry past e (read_note m t hand n).step
  on_did there v x y place e is = go is.does
    where
      go : ((m.next place ≡ move.Access v) × TouchesParts m t v place n.before x e n.after y)
          ⊎ ((m.next place ≡ move.Read v) × ReadsParts m t v place n.before x e n.after y)
          → DidEntry past e (read_note m t hand n).step
      go (inl (next, does)) =
          let same = touch_read m [] t n hand v x y place e is does in
          did there e (what.Access v (x.places + 1)) (Some (m.touch v x.value place).0)
          (ap (λ (q : Receipt V). q.step.act) same) (ap (λ (q : Receipt V). q.stamp) same) does.logs.entry
      go (inr (next, does)) =
          let same = look_read m [] t n hand v x y place e is does in
          did there e (what.Read v x.places) None (ap (λ (q : Receipt V). q.step.act) same)
          (ap (λ (q : Receipt V). q.stamp) same) does.logs.entry

  heard : IsThere → (e : StampedEntry) (w : What) → read_note m t hand n ≡ entry_receipt m t (packet_in hand) n e w
      → IsOwnEntry m t n e w → DidEntry past e (read_note m t hand n).step
  heard there e (what.Access v s) same is = absurd is
  heard there e (what.Read v s) same is = absurd is
  heard there e (what.Clock a) same (place, next, is) = did there e (what.Clock a) None
      (ap (λ (q : Receipt V). q.step.act) same) (ap (λ (q : Receipt V). q.stamp) same) is.hears.entry
  heard there e (what.Draw a) same (place, next, is) = did there e (what.Draw a) None
      (ap (λ (q : Receipt V). q.step.act) same) (ap (λ (q : Receipt V). q.stamp) same) is.hears.entry

  by_trace : (tr : Trace) → n.trace ≡ tr → read_note m t hand n ≡ receipt_by m t (packet_in hand) n tr
  by_trace tr is = ap (λ (z : Trace). receipt_by m t (packet_in hand) n z) is

  own_shows : IsThere → (st : Stepped) → IsOwn m t n → IsShown m t n st → Shows past st (read_note m t hand n).step
  own_shows there (stepped.Took k) own is =
      let own_k = subst (λ (z : Trace). IsOwnBy m t n z) is own in
      ap (λ (q : Receipt V). q.step.act) (by_trace (trace.Took k) is) ∙ ap Took (sym own_k.1.number)
  own_shows there (stepped.Did e) own is =
      let own_e = subst (λ (z : Trace). IsOwnBy m t n z) is own in
      heard there e e.what (by_trace (trace.Did e) is) own_e
  own_shows there (stepped.Emitted o) own (is, (packet, place, passed, hand_is, out)) =
      let own_o = subst (λ (z : Trace). IsOwnBy m t n z) is own in
      let pk : packet_in hand ≡ packet = there.packet packet place passed hand_is in
      let at : place_or n.before.hand ≡ place = ap place_or hand_is in (
        ap (λ (q : Receipt V). q.step.act) (by_trace (trace.Emitted o.number) is)
            ∙ (ap (λ (p : Packet).
            let a : Act V =
            Emitted (emission_of_output (next_output t n.before p (m.out p (place_or n.before.hand)))) in
            a) pk
            ∙ (ap (λ (l : Local).
            let a : Act V = Emitted (emission_of_output (next_output t n.before packet (m.out packet l))) in a) at
            ∙ ap (λ (q : Output). let a : Act V = Emitted (emission_of_output q) in a) (sym out))),
        subst (λ (q : Output).
            IsOutputStamp (log_of past) q.thread (entries q.thread (log_of past)) (λ u. slice_index q.stamp u))
            (sym out) there.next,
      )
  own_shows there (stepped.Ended k) own is =
      let own_k = subst (λ (z : Trace). IsOwnBy m t n z) is own in
      ap (λ (q : Receipt V). q.step.act) (by_trace (trace.Ended k) is) ∙ ap Ended (sym own_k.1.number)
  own_shows there stepped.Idle own is = absurd is
  own_shows there (stepped.NotTurn u k) own is = absurd is
  own_shows there stepped.NoMemory own is = absurd is

  on_shows : IsThere → (st : Stepped) → (v : ℕ) (x y : VarPart V) (place : Local) (e : StampedEntry)
      → IsOnVariable m t v n x y place e → IsShown m t n st → Shows past st (read_note m t hand n).step
  on_shows there (stepped.Took k) v x y place e on is =
      absurd (let q : trace.Did e ≡ trace.Took k = sym on.trace ∙ is in cc)
  on_shows there (stepped.Did f) v x y place e on is =
      subst (λ (z : StampedEntry). DidEntry past z (read_note m t hand n).step) (did_only e f (sym on.trace ∙ is))
      (on_did there v x y place e on)
  on_shows there (stepped.Emitted o) v x y place e on (is, rest) =
      absurd (let q : trace.Did e ≡ trace.Emitted o.number = sym on.trace ∙ is in cc)
  on_shows there (stepped.Ended k) v x y place e on is =
      absurd (let q : trace.Did e ≡ trace.Ended k = sym on.trace ∙ is in cc)
  on_shows there stepped.Idle v x y place e on is = absurd is
  on_shows there (stepped.NotTurn u k) v x y place e on is = absurd is
  on_shows there stepped.NoMemory v x y place e on is = absurd is

  pub shows : IsThere → (st : Stepped) → IsDone m t n → IsShown m t n st → Shows past st (read_note m t hand n).step
  shows there st (inl own) is = own_shows there st own is
  shows there st (inr (v, x, y, place, e, on)) is = on_shows there st v x y place e on is
