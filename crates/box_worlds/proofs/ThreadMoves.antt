-- What a move of a thread is, whatever the program: a take, one with a packet in hand that keeps it, or an end.
use Rattle.std.proofs.Common.{◌≡◌, ℕ, ◌+◌, List, subst, Option, Some, None}
use Rattle.std.specs.Prelude.{slice_get}
use Rattle.plain_text.specs.declared.packet.Packet.{Packet}
use Rattle.plain_machine.specs.declared.local.Local.{Local}
use Rattle.plain_machine.specs.declared.local.Move.{Move}
use Rattle.plain_machine.specs.declared.local.Move.TheVariants.{Access, Read, Clock, Draw, Emit, End}
use Rattle.plain_machine.specs.Program.{Meaning}
use Rattle.plain_machine.specs.Machine.{Hand, Thread, Effect, Takes, Touches, Looks, HearsClock, HearsDraw, Sends, Ends}
use Rattle.plain_machine.specs.Machine.{Moves, holding, sent_packet, take_move, hand_move, held_move}

-- neither a take nor an end
abbrev pub IsBetween : {V : Type 0} → Effect V → Type 0
IsBetween Takes = ⊥
IsBetween (Touches v left) = Unit {0}
IsBetween (Looks v) = Unit {0}
IsBetween (HearsClock a) = Unit {0}
IsBetween (HearsDraw a) = Unit {0}
IsBetween (Sends p) = Unit {0}
IsBetween Ends = ⊥

module _ {V : Type 0} (m : Meaning V) (packets : List Packet) (value : ℕ → V) (taken : ℕ)
    (Q : Option Hand → Thread → Effect V → Type 0)
    (takes : (p : Packet) → Q None (holding (taken + 1) p (m.begin p)) Takes)
    (goes_on : (h : Hand) (place : Local) (d : Effect V) → IsBetween d → Q (Some h) (holding taken h.packet place) d)
    (ends : (h : Hand) → Q (Some h) (record { taken = taken; hand = None }) Ends) where
  there : (hand : Option Hand) (x after : Thread) (y d : Effect V) → x ≡ after → y ≡ d → Q hand x y → Q hand after d
  there hand x after y d q r h =
      subst (λ (e : Effect V). Q hand after e) r (subst (λ (z : Thread). Q hand z y) q h)

  kept : (h : Hand) (place : Local) (after : Thread) (y d : Effect V) → IsBetween y
      → holding taken h.packet place ≡ after → y ≡ d → Q (Some h) after d
  kept h place after y d between q r =
      there (Some h) (holding taken h.packet place) after y d q r (goes_on h place y between)

  of_hand : (h : Hand) (a : Option ℕ) (w : Move) (after : Thread) (d : Effect V)
      → hand_move m value taken h a w ≡ Moves after d → Q (Some h) after d
  of_hand h None (Access v) after d e =
      kept h (m.touch v (value v) h.place).1 after (Touches v (m.touch v (value v) h.place).0) d tt (cc) (cc)
  of_hand h None (Read v) after d e = kept h (m.look v (value v) h.place) after (Looks v) d tt (cc) (cc)
  of_hand h (Some a) Clock after d e = kept h (m.told a h.place) after (HearsClock a) d tt (cc) (cc)
  of_hand h (Some a) Draw after d e = kept h (m.told a h.place) after (HearsDraw a) d tt (cc) (cc)
  of_hand h None Emit after d e = kept h (m.emitted h.place) after (Sends (sent_packet m h)) d tt (cc) (cc)
  of_hand h None End after d e =
      there (Some h) (record { taken = taken; hand = None }) after Ends d (cc) (cc) (ends h)
  of_hand h (Some a) (Access v) after d e = absurd (cc)
  of_hand h (Some a) (Read v) after d e = absurd (cc)
  of_hand h (Some a) Emit after d e = absurd (cc)
  of_hand h (Some a) End after d e = absurd (cc)
  of_hand h None Clock after d e = absurd (cc)
  of_hand h None Draw after d e = absurd (cc)

  of_take : (a : Option ℕ) (input : Option Packet) (after : Thread) (d : Effect V)
      → take_move m taken a input ≡ Moves after d → Q None after d
  of_take (Some a) input after d e = absurd (cc)
  of_take None None after d e = absurd (cc)
  of_take None (Some p) after d e =
      there None (holding (taken + 1) p (m.begin p)) after Takes d (cc) (cc) (takes p)

  pub by_move : (a : Option ℕ) (hand : Option Hand) (after : Thread) (d : Effect V)
      → held_move m packets value taken a hand ≡ Moves after d → Q hand after d
  by_move a None after d e = of_take a (slice_get packets taken) after d e
  by_move a (Some h) after d e = of_hand h a (m.next h.place) after d e
