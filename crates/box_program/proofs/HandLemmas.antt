-- The packet in hand, from its place.
use Rattle.std.proofs.Common.{◌≡◌, ℕ, List, Option, Some, None, refl, ap, ◌∙◌}
use Rattle.plain_machine.specs.FromPlainText.{Packet}
use Rattle.plain_machine.specs.declared.local.Local.{Local}
use Rattle.plain_machine.specs.Machine.{Hand, Thread}
use Rattle.box_program.specs.Hands.{local_in, input_for}

-- a thread that has this packet in hand, at this place
pub in_hand : (packets : List Packet) (th : Thread) (packet : Packet) (place : Local) (input : Option Packet)
    → local_in th.hand ≡ Some place → input ≡ Some packet → input ≡ input_for packets th.taken th.hand
    → th.hand ≡ Some (record { packet = packet; place = place })
in_hand packets th packet place input at is_packet given = go th.hand at given
  where
    go : (hand : Option Hand) → local_in hand ≡ Some place → input ≡ input_for packets th.taken hand
        → hand ≡ Some (record { packet = packet; place = place })
    go None p g = absurd (cc)
    go (Some h) p g =
        let a : h.place ≡ place = cc in
        let b : h.packet ≡ packet = cc in
        ap Some (ap (λ (l : Local). record { packet = h.packet; place = l }) a
        ∙ ap (λ (q : Packet). record { packet = q; place = place }) b)

pub no_hand : (hand : Option Hand) → local_in hand ≡ None → hand ≡ None
no_hand None e = refl
no_hand (Some h) e = absurd (cc)
