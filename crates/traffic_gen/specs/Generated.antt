-- Packets made from a seed: packet i, from 0, is made of the words 2i and 2i + 1 of the seed.
use Rattle.std.specs.Prelude.{ℕ, zero, suc, ◌+◌, ◌*◌, ◌/◌, ◌%◌, ◌==◌, if◌then◌else◌, List, [], ◌∷◌, ◌++◌}
use Rattle.plain_text.specs.declared.packet.Packet.{Packet}
use Rattle.random_words.specs.Words.{word_of}
use Rattle.traffic_gen.specs.declared.fields.Fields.{Fields}
use Rattle.traffic_gen.specs.declared.fields.Protocol.TheVariants.{Tcp, Udp}
use Rattle.traffic_gen.specs.Frame.{frame}

-- the fields of packet i, where its words are a and b
abbrev pub fields_of : ℕ → ℕ → ℕ → Fields
fields_of i a b = record {
  identification = i % 65536;
  protocol = if a / 65536 % 2 == 0 then Tcp else Udp;
  source_host = 1 + a % 200;
  destination_host = 1 + b % 200;
  source_port = 1024 + a / 256 % 64;
}

-- packets come a millisecond apart, from 1,600,000,000 seconds on, and are captured whole
abbrev pub packet_of : ℕ → ℕ → ℕ → Packet
packet_of i a b = record {
  seconds = 1600000000 + i / 1000;
  fraction = i % 1000 * 1000;
  original = 60;
  bytes = frame (fields_of i a b);
}

-- the first n packets of a seed
abbrev pub generated : ℕ → ℕ → List Packet
generated seed zero = []
generated seed (suc i) = generated seed i ++ packet_of i (word_of seed (2 * i)) (word_of seed (2 * i + 1)) ∷ []
