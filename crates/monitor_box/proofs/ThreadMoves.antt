-- The moves of a thread of the box, by what is next.
use Rattle.std.proofs.Common.{◌≡◌, ◌≢◌, ℕ, zero, suc, ◌+◌, ◌%◌, List, refl, subst, ◌⊎◌, inl, inr, arith, Option, Some}
use Rattle.std.proofs.Common.{None}
use Rattle.std.specs.Prelude.{slice_get, slice_index}
use Rattle.plain_text.specs.declared.packet.Packet.{Packet}
use Rattle.packet_headers.specs.View.{viewed}
use Rattle.plain_machine.specs.declared.local.Local.{Local}
use Rattle.plain_machine.specs.declared.local.Move.{Move}
use Rattle.plain_machine.specs.declared.local.Move.TheVariants.{Access, Read, Clock, Draw, Emit, End}
use Rattle.plain_machine.specs.Machine.{Hand, Thread, Effect, Takes, Touches, Looks, HearsClock, HearsDraw, Sends, Ends}
use Rattle.plain_machine.specs.Machine.{Moves, holding, sent_packet, take_move, hand_move, held_move}
use Rattle.monitor_box.specs.declared.value.MonitorValue.{MonitorValue}
use Rattle.monitor_box.specs.Monitor.{next_move, begun, touched, monitor_meaning}
use Rattle.monitor_box.specs.Lawful.{reads, asks_no_time, asks_no_word}

-- where a table or the totals are next
pub at_access : (tables at sum v : ℕ) → next_move tables at sum ≡ Access v
    → ((at ≡ 0) × (v ≡ 1 + sum % tables)) ⊎ (((at ≡ 1) × (v ≡ 0)) ⊎ ((at ≡ 2) × (v ≡ 0)))
at_access tables zero sum v e = inl (refl, grind arith)
at_access tables (suc zero) sum v e = inr (inl (refl, grind arith))
at_access tables (suc (suc zero)) sum v e = inr (inr (refl, grind arith))
at_access tables (suc (suc (suc zero))) sum v e = absurd (grind arith)
at_access tables (suc (suc (suc (suc at)))) sum v e = absurd (grind arith)

pub at_emit : (tables at sum : ℕ) → next_move tables at sum ≡ Emit → at ≡ 3
at_emit tables zero sum e = absurd (grind arith)
at_emit tables (suc zero) sum e = absurd (grind arith)
at_emit tables (suc (suc zero)) sum e = absurd (grind arith)
at_emit tables (suc (suc (suc zero))) sum e = refl
at_emit tables (suc (suc (suc (suc at)))) sum e = absurd (grind arith)

pub at_end : (tables at sum : ℕ) → next_move tables at sum ≡ End → at ≢ 1
at_end tables zero sum e k = absurd (grind arith)
at_end tables (suc zero) sum e k = absurd (grind arith)
at_end tables (suc (suc at)) sum e k = absurd (omega arith)

abbrev pub hand_of : Packet → Local → Option Hand
hand_of p l = Some (record { packet = p; place = l })

-- What holds of taking a packet, of a touch, of sending out and of the end holds of each move.
module _ (tables : ℕ) (packets : List Packet) (value : ℕ → MonitorValue) (taken : ℕ) (a : Option ℕ) (hand : Option Hand)
    (after : Thread) (d : Effect MonitorValue) (P : Option Hand → Option Hand → Effect MonitorValue → Type 0)
    (takes : (p : Packet) → slice_get packets taken ≡ Some p
    → P None (hand_of p (begun (viewed p.bytes p.original) p.original)) Takes)
    (touching : (p : Packet) (l : Local) (v : ℕ) → next_move tables l.at (slice_index l.regs 0) ≡ Access v
    → P (hand_of p l) (hand_of p (touched (value v) l).1) (Touches v (touched (value v) l).0))
    (sending : (p : Packet) (l : Local) (sent : Packet) → next_move tables l.at (slice_index l.regs 0) ≡ Emit
    → P (hand_of p l) (hand_of p (record l { at = 4 })) (Sends sent))
    (ending : (p : Packet) (l : Local) → next_move tables l.at (slice_index l.regs 0) ≡ End
    → P (hand_of p l) None Ends) where
  along : (before : Option Hand) (th : Thread) (u : Effect MonitorValue) → th ≡ after → u ≡ d → P before th.hand u
      → P before after.hand d
  along before th u q r h =
      subst (λ (x : Effect MonitorValue). P before after.hand x) r (subst (λ (x : Thread). P before x.hand u) q h)

  of_hand : (h : Hand) (a : Option ℕ) (w : Move) → next_move tables h.place.at (slice_index h.place.regs 0) ≡ w
      → hand_move (monitor_meaning tables) value taken h a w ≡ Moves after d → P (Some h) after.hand d
  of_hand h None (Access v) w e = along (Some h) (holding taken h.packet (touched (value v) h.place).1)
      (Touches v (touched (value v) h.place).0) (cc) (cc) (touching h.packet h.place v w)
  of_hand h None Emit w e = along (Some h) (holding taken h.packet (record h.place { at = 4 }))
      (Sends (sent_packet (monitor_meaning tables) h)) (cc) (cc) (sending h.packet h.place _ w)
  of_hand h None End w e =
      along (Some h) (record { taken = taken; hand = None }) Ends (cc) (cc) (ending h.packet h.place w)
  of_hand h a (Read v) w e = reads tables h.place.at (slice_index h.place.regs 0) v w
  of_hand h a Clock w e = asks_no_time tables h.place.at (slice_index h.place.regs 0) w
  of_hand h a Draw w e = asks_no_word tables h.place.at (slice_index h.place.regs 0) w
  of_hand h (Some a) (Access v) w e = absurd (cc)
  of_hand h (Some a) Emit w e = absurd (cc)
  of_hand h (Some a) End w e = absurd (cc)

  of_none : (a : Option ℕ) (i : Option Packet) → slice_get packets taken ≡ i
      → take_move (monitor_meaning tables) taken a i ≡ Moves after d → P None after.hand d
  of_none (Some a) i is e = absurd (cc)
  of_none None None is e = absurd (cc)
  of_none None (Some p) is e =
      along None (holding (taken + 1) p (begun (viewed p.bytes p.original) p.original)) Takes (cc) (cc) (takes p is)

  pub by_move : held_move (monitor_meaning tables) packets value taken a hand ≡ Moves after d → P hand after.hand d
  by_move = of_any hand
    where
      of_any : (hand : Option Hand) → held_move (monitor_meaning tables) packets value taken a hand ≡ Moves after d
          → P hand after.hand d
      of_any None e = of_none a (slice_get packets taken) refl e
      of_any (Some h) e = of_hand h a (next_move tables h.place.at (slice_index h.place.regs 0)) refl e

-- how many inputs a thread has taken after an effect
abbrev pub taken_by : Effect MonitorValue → ℕ → ℕ
taken_by Takes n = suc n
taken_by (Touches v left) n = n
taken_by (Looks v) n = n
taken_by (HearsClock a) n = n
taken_by (HearsDraw a) n = n
taken_by (Sends p) n = n
taken_by Ends n = n

module _ (tables : ℕ) (packets : List Packet) (value : ℕ → MonitorValue) (taken : ℕ) (a : Option ℕ) (after : Thread)
    (d : Effect MonitorValue) where
  told : (th : Thread) (u : Effect MonitorValue) → th ≡ after → u ≡ d → th.taken ≡ taken_by u taken
      → after.taken ≡ taken_by d taken
  told th u q r h = subst (λ (x : Effect MonitorValue). after.taken ≡ taken_by x taken) r
      (subst (λ (x : Thread). x.taken ≡ taken_by u taken) q h)

  taken_in_hand : (h : Hand) (a : Option ℕ) (w : Move)
      → hand_move (monitor_meaning tables) value taken h a w ≡ Moves after d → after.taken ≡ taken_by d taken
  taken_in_hand h None (Access v) e = told (holding taken h.packet (touched (value v) h.place).1)
      (Touches v (touched (value v) h.place).0) (cc) (cc) refl
  taken_in_hand h None (Read v) e =
      told (holding taken h.packet ((monitor_meaning tables).look v (value v) h.place)) (Looks v) (cc) (cc) refl
  taken_in_hand h (Some x) Clock e =
      told (holding taken h.packet ((monitor_meaning tables).told x h.place)) (HearsClock x) (cc) (cc) refl
  taken_in_hand h (Some x) Draw e =
      told (holding taken h.packet ((monitor_meaning tables).told x h.place)) (HearsDraw x) (cc) (cc) refl
  taken_in_hand h None Emit e = told (holding taken h.packet (record h.place { at = 4 }))
      (Sends (sent_packet (monitor_meaning tables) h)) (cc) (cc) refl
  taken_in_hand h None End e = told (record { taken = taken; hand = None }) Ends (cc) (cc) refl
  taken_in_hand h (Some x) (Access v) e = absurd (cc)
  taken_in_hand h (Some x) (Read v) e = absurd (cc)
  taken_in_hand h (Some x) Emit e = absurd (cc)
  taken_in_hand h (Some x) End e = absurd (cc)
  taken_in_hand h None Clock e = absurd (cc)
  taken_in_hand h None Draw e = absurd (cc)

  taken_next : (a : Option ℕ) (i : Option Packet) → take_move (monitor_meaning tables) taken a i ≡ Moves after d
      → after.taken ≡ taken_by d taken
  taken_next (Some x) i e = absurd (cc)
  taken_next None None e = absurd (cc)
  taken_next None (Some p) e =
      told (holding (taken + 1) p (begun (viewed p.bytes p.original) p.original)) Takes (cc) (cc) (omega arith)

  pub moved_taken : (hand : Option Hand) → held_move (monitor_meaning tables) packets value taken a hand ≡ Moves after d
      → after.taken ≡ taken_by d taken
  moved_taken None e = taken_next a (slice_get packets taken) e
  moved_taken (Some h) e = taken_in_hand h a (next_move tables h.place.at (slice_index h.place.regs 0)) e
