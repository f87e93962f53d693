-- A worked example: a datagram from port 52,037, whose checksum comes out as 0 and so is written as all ones. No packet
-- that is made has such a checksum, since the ports are few.
use Rattle.std.specs.Prelude.{◌≡◌, ℕ, List, [], ◌∷◌, refl}
use Rattle.traffic_gen.specs.declared.fields.Fields.{Fields}
use Rattle.traffic_gen.specs.declared.fields.Protocol.TheVariants.{Udp}
use Rattle.traffic_gen.specs.Frame.{frame}

abbrev pub datagram : Fields
datagram = record {
  identification = 1;
  protocol = Udp;
  source_host = 5;
  destination_host = 7;
  source_port = 52037;
}

-- its frame, which another program worked out from the tables of the headers
abbrev pub all_ones : List ℕ
all_ones =
    0x02 ∷ 0x00 ∷ 0x00 ∷ 0x00 ∷ 0x00 ∷ 0x02 ∷ 0x02 ∷ 0x00 ∷ 0x00 ∷ 0x00 ∷ 0x00 ∷ 0x01 ∷ 0x08 ∷ 0x00 ∷ 0x45 ∷ 0x00
    ∷ 0x00 ∷ 0x2e ∷ 0x00 ∷ 0x01 ∷ 0x00 ∷ 0x00 ∷ 0x40 ∷ 0x11 ∷ 0x46 ∷ 0x7f ∷ 0x0a ∷ 0x00 ∷ 0x00 ∷ 0x05 ∷ 0xc6 ∷ 0x33
    ∷ 0x64 ∷ 0x07 ∷ 0xcb ∷ 0x45 ∷ 0x00 ∷ 0x35 ∷ 0x00 ∷ 0x1a ∷ 0xff ∷ 0xff ∷ 0x00 ∷ 0x00 ∷ 0x00 ∷ 0x00 ∷ 0x00 ∷ 0x00
    ∷ 0x00 ∷ 0x00 ∷ 0x00 ∷ 0x00 ∷ 0x00 ∷ 0x00 ∷ 0x00 ∷ 0x00 ∷ 0x00 ∷ 0x00 ∷ 0x00 ∷ 0x00 ∷ []

pub zero_is_written_as_all_ones : frame datagram ≡ all_ones
zero_is_written_as_all_ones = refl
