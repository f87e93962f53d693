-- Where a packet comes from and goes to.
use Rattle.std.specs.Prelude.{◌≡◌, ◌⊎◌, Some}
use Rattle.plain_text.specs.declared.packet.Packet.{Packet}
use Rattle.packet_headers.specs.declared.flow.Flow.{Flow}
use Rattle.nat_box.specs.declared.place.Class.TheVariants.{Outbound, Hairpin, Inbound}
use Rattle.nat_box.specs.Settings.{Settings}
use Rattle.nat_box.specs.Nat.{class_of_flow, class_seen}

abbrev pub IsFromInside : Settings → Flow → Type 0
IsFromInside s flow =
    (class_of_flow s flow.source flow.dest ≡ Some Outbound) ⊎ (class_of_flow s flow.source flow.dest ≡ Some Hairpin)

-- a flow, or an error of ICMP
abbrev pub GoesInside : Settings → Packet → Type 0
GoesInside s p = (class_seen s p ≡ Some Inbound) ⊎ (class_seen s p ≡ Some Hairpin)
