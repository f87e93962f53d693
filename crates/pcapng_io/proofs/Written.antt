-- A pcapng capture is read as the savefile of its packets.
use Rattle.std.proofs.Common.{◌≡◌, ℕ, ◌≤◌, Bool, true, false, List, length, refl, sym, ap, subst, ◌∙◌}
use Rattle.plain_text.specs.declared.packet.Packet.{Packet}
use Rattle.plain_text.specs.declared.packet.Unit.TheVariants.{Nano}
use Rattle.pcap_io.specs.declared.capture.Captured.{Captured}
use Rattle.pcap_io.specs.declared.capture.Captured.TheVariants as captured
use Rattle.pcap_io.specs.Capture.{written}
use Rattle.pcap_io.specs.Captured.{IsDecided}
use Rattle.pcap_io.proofs.Verdicts.{one_answer, written_is_read}
use Rattle.pcapng_io.specs.declared.capture.AnyCaptured.{AnyCaptured}
use Rattle.pcapng_io.specs.declared.capture.AnyCaptured.TheVariants as any
use Rattle.pcapng_io.specs.Capture.{begins_ng, IsNg}
use Rattle.pcapng_io.specs.Captured.{SaysAny, IsDecidedAny, any_captured}
use Rattle.std.specs.Prelude.{not, nat_lt}
use Rattle.pcapng_io.proofs.Frames.{and_false}
use Rattle.pcapng_io.proofs.Recorded.{ng_whole}
use Rattle.pcapng_io.proofs.Verdicts.{one_ng_answer}

-- what the reader of savefiles decides
decided : (c : Captured) (a : AnyCaptured) → a ≡ any_captured c → IsDecidedAny a → IsDecided c
decided (captured.Capture u ps) a is d = tt
decided (captured.Refused f) a is d = tt
decided (captured.TooLarge l) a is d = tt
decided captured.ReadFault a is d = subst IsDecidedAny is d
decided captured.NoMemory a is d = subst IsDecidedAny is d

pub one_any_answer : (all : List ℕ) (a b : AnyCaptured) → IsDecidedAny a → IsDecidedAny b → SaysAny all a
    → SaysAny all b → a ≡ b
one_any_answer all a b da db sa sb = by_format (begins_ng all) refl where
  by_format : (t : Bool) → begins_ng all ≡ t → a ≡ b
  by_format true is = one_ng_answer all a b da db (sa.ng is) (sb.ng is)
  by_format false is =
      let x = sa.savefile is in
      let y = sb.savefile is in
      x.1 ∙ ap any_captured (one_answer all x.0 y.0 (decided x.0 a x.1 da) (decided y.0 b y.1 db) x.2 y.2) ∙ sym y.1

pub read_as_written : (all : List ℕ) (ps : List Packet) (a b : AnyCaptured) → IsNg all ps → length ps ≤ 65536
    → length all ≤ 67108864 → length (written Nano ps) ≤ 67108864 → IsDecidedAny a → IsDecidedAny b → SaysAny all a
    → SaysAny (written Nano ps) b → a ≡ b
read_as_written all ps a b capture count size written_size da db sa sb =
    let here = one_ng_answer all a (any.Capture Nano ps) da tt (sa.ng capture.begins)
    (record { unit = refl; capture = capture; count = count; size = size }) in
    let there = sb.savefile (and_false (not (nat_lt (length (written Nano ps)) 4)) _ refl) in
    let read = written_is_read Nano ps there.0 (ng_whole all ps capture).0 count written_size
    (decided there.0 b there.1 db) there.2 in
    here ∙ sym (there.1 ∙ ap any_captured read)
