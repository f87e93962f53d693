-- The moves of a thread of the box, each with what it found and where it goes.
use Rattle.std.proofs.Common.{◌≡◌, ℕ, ◌+◌, List, refl, subst, Option, Some, None}
use Rattle.std.specs.Prelude.{slice_get}
use Rattle.plain_text.specs.declared.packet.Packet.{Packet}
use Rattle.packet_headers.specs.View.{viewed}
use Rattle.plain_machine.specs.declared.local.Move.{Move}
use Rattle.plain_machine.specs.declared.local.Move.TheVariants.{Access, Read, Clock, Draw, Emit, End}
use Rattle.plain_machine.specs.Machine.{Hand, Thread, Effect, Takes, Touches, Looks, HearsClock, HearsDraw, Sends}
use Rattle.plain_machine.specs.Machine.{Ends as EndsIt, Moves, holding, sent_packet, take_move, hand_move, held_move}
use Rattle.balancer_box.specs.Places.{place_numbered}
use Rattle.balancer_box.specs.declared.place.Goes.{Goes}
use Rattle.balancer_box.specs.declared.place.Place.TheVariants.{Ends}
use Rattle.balancer_box.specs.declared.value.BalancerValue.{BalancerValue}
use Rattle.balancer_box.specs.Settings.{Settings}
use Rattle.balancer_box.specs.Balancer.{goes, next_move, begun, touched, told, local_at, noted_by, balancer_meaning}
use Rattle.balancer_box.specs.Ranks.{reads_none, draws_none}

abbrev pub goes_on : Hand → Goes → Option Hand
goes_on h g = Some (record { packet = h.packet; place = local_at g })

abbrev pub comes_to : Settings → Hand → Move → Type 0
comes_to s h move = next_move s (place_numbered h.place.at) (noted_by s h.place) ≡ move

-- it reads nothing, and draws nothing
abbrev pub Made : Settings → List Packet → ℕ → (ℕ → BalancerValue) → Option Hand → Option Hand
    → Effect BalancerValue → Type 0
Made s packets taken value before after Takes =
    (before ≡ None) × (p : Packet) × (slice_get packets taken ≡ Some p)
    × (after ≡ Some (record { packet = p; place = local_at (begun s (viewed p.bytes p.original)) }))
Made s packets taken value before after (Touches v left) =
    (h : Hand) × (before ≡ Some h) × comes_to s h (Access v)
    × (left ≡ (touched s.closing (place_numbered h.place.at) (value v) (noted_by s h.place)).0)
    × (after ≡ goes_on h (touched s.closing (place_numbered h.place.at) (value v) (noted_by s h.place)).1)
Made s packets taken value before after (Looks v) = ⊥
Made s packets taken value before after (HearsClock a) =
    (h : Hand) × (before ≡ Some h) × comes_to s h Clock
    × (after ≡ goes_on h (told (place_numbered h.place.at) a (noted_by s h.place)))
Made s packets taken value before after (HearsDraw a) = ⊥
Made s packets taken value before after (Sends p) =
    (h : Hand) × (before ≡ Some h) × comes_to s h Emit × (p ≡ sent_packet (balancer_meaning s) h)
    × (after ≡ goes_on h (goes Ends (noted_by s h.place)))
Made s packets taken value before after EndsIt = (h : Hand) × (before ≡ Some h) × comes_to s h End × (after ≡ None)

module _ (s : Settings) (packets : List Packet) (value : ℕ → BalancerValue) (taken : ℕ) (after : Thread)
    (d : Effect BalancerValue) where
  along : (before : Option Hand) (th : Thread) (u : Effect BalancerValue) → th ≡ after → u ≡ d
      → Made s packets taken value before th.hand u → Made s packets taken value before after.hand d
  along before th u q r h = subst (λ (x : Effect BalancerValue). Made s packets taken value before after.hand x) r
      (subst (λ (x : Thread). Made s packets taken value before x.hand u) q h)

  of_hand : (h : Hand) (a : Option ℕ) (w : Move) → next_move s (place_numbered h.place.at) (noted_by s h.place) ≡ w
      → hand_move (balancer_meaning s) value taken h a w ≡ Moves after d
      → Made s packets taken value (Some h) after.hand d
  of_hand h None (Access v) w e =
      along (Some h) (holding taken h.packet ((balancer_meaning s).touch v (value v) h.place).1)
      (Touches v ((balancer_meaning s).touch v (value v) h.place).0) (cc) (cc) (h, refl, w, refl, refl)
  of_hand h None (Read v) w e = absurd (reads_none s (place_numbered h.place.at) (noted_by s h.place) v w)
  of_hand h (Some x) Clock w e = along (Some h) (holding taken h.packet ((balancer_meaning s).told x h.place))
      (HearsClock x) (cc) (cc) (h, refl, w, refl)
  of_hand h (Some x) Draw w e = absurd (draws_none s (place_numbered h.place.at) (noted_by s h.place) w)
  of_hand h None Emit w e =
      along (Some h) (holding taken h.packet ((balancer_meaning s).emitted h.place))
      (Sends (sent_packet (balancer_meaning s) h)) (cc) (cc) (h, refl, w, refl, refl)
  of_hand h None End w e = along (Some h) (record { taken = taken; hand = None }) EndsIt (cc) (cc) (h, refl, w, refl)
  of_hand h (Some x) (Access v) w e = absurd (cc)
  of_hand h (Some x) (Read v) w e = absurd (cc)
  of_hand h (Some x) Emit w e = absurd (cc)
  of_hand h (Some x) End w e = absurd (cc)
  of_hand h None Clock w e = absurd (cc)
  of_hand h None Draw w e = absurd (cc)

  of_none : (a : Option ℕ) (i : Option Packet) → slice_get packets taken ≡ i
      → take_move (balancer_meaning s) taken a i ≡ Moves after d → Made s packets taken value None after.hand d
  of_none (Some a) i is e = absurd (cc)
  of_none None None is e = absurd (cc)
  of_none None (Some p) is e =
      along None (holding (taken + 1) p ((balancer_meaning s).begin p)) Takes (cc) (cc) (refl, p, is, refl)

  pub made : (hand : Option Hand) (a : Option ℕ)
      → held_move (balancer_meaning s) packets value taken a hand ≡ Moves after d
      → Made s packets taken value hand after.hand d
  made None a e = of_none a (slice_get packets taken) refl e
  made (Some h) a e = of_hand h a (next_move s (place_numbered h.place.at) (noted_by s h.place)) refl e
