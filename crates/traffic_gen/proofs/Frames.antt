-- What is true of every frame: its length, and that it verifies.
use Rattle.std.proofs.Common.{◌≡◌, ℕ, ◌+◌, ◌-◌, ◌<◌, [], ◌∷◌, ◌++◌, length, take, drop, get_or, sum, refl, sym, ap, ◌∙◌}
use Rattle.std.proofs.Common.{subst, arith}
use Rattle.std.specs.Int.{to_be_bytes, w16}
use Rattle.std.proofs.lemmas.Bool.Decides.{nat_tests}
use Rattle.inet_checksum.specs.OnesComplement.{words, ones_value, complement, Verifies}
use Rattle.traffic_gen.specs.declared.fields.Fields.{Fields}
use Rattle.traffic_gen.specs.declared.fields.Protocol.{Protocol}
use Rattle.traffic_gen.specs.declared.fields.Protocol.TheVariants.{Tcp, Udp}
use Rattle.traffic_gen.specs.Frame.{ipv4_header, pseudo_header, transport, transport_of, written_checksum}
use Rattle.traffic_gen.specs.Frame.{header_checksum, transport_checksum, frame}
use Rattle.traffic_gen.specs.Checksums.{HasRightChecksums}

length-transport_of : (p : Protocol) (source_port checksum : ℕ) → length (transport_of p source_port checksum) ≡ 26
length-transport_of Tcp source_port checksum = refl
length-transport_of Udp source_port checksum = refl

pub length-frame : (f : Fields) → length (frame f) ≡ 60
length-frame f = rw (length-transport_of f.protocol f.source_port (transport_checksum f)) refl

-- a total verifies with its complement, or with all ones where that is 0
ones_value-complement : (total : ℕ) → ones_value (total + complement (ones_value total)) ≡ 65535
ones_value-complement total = grind (arith, nat_tests)

ones_value-written : (p : Protocol) (total : ℕ)
    → ones_value (total + written_checksum p (complement (ones_value total))) ≡ 65535
ones_value-written Tcp total = ones_value-complement total
ones_value-written Udp total = grind (arith, nat_tests)

written_fits : (p : Protocol) (total : ℕ) → written_checksum p (complement (ones_value total)) < 65536
written_fits Tcp total = omega arith
written_fits Udp total = grind (arith, nat_tests)

-- a checksum adds itself to the words around it
ipv4_sum : (f : Fields) (c : ℕ) → c < 65536 → sum (words (ipv4_header f c)) ≡ sum (words (ipv4_header f 0)) + c
ipv4_sum f c fits = omega arith

transport_sum : (f : Fields) (p : Protocol) (port c : ℕ) → c < 65536
    → sum (words (pseudo_header f ++ transport_of p port c))
    ≡ sum (words (pseudo_header f ++ transport_of p port 0)) + c
transport_sum f Tcp port c fits = omega arith
transport_sum f Udp port c fits = omega arith

header_verifies : (f : Fields) → Verifies (words (ipv4_header f (header_checksum f)))
header_verifies f =
    let total = sum (words (ipv4_header f 0)) in
    ap ones_value (ipv4_sum f (complement (ones_value total)) (omega arith)) ∙ ones_value-complement total

transport_verifies : (f : Fields) → Verifies (words (pseudo_header f ++ transport f (transport_checksum f)))
transport_verifies f =
    let total = sum (words (pseudo_header f ++ transport f 0)) in
    ap ones_value (transport_sum f f.protocol f.source_port (transport_checksum f) (written_fits f.protocol total))
    ∙ ones_value-written f.protocol total

pub frame_verifies : (f : Fields) → HasRightChecksums (frame f)
frame_verifies f =
    let bytes = frame f in
    let P : ℕ → Type 0 = λ n. Verifies
    (words (take 8 (drop 26 bytes) ++ (0 ∷ get_or bytes 23 0 ∷ []) ++ to_be_bytes w16 (n - 34) ++ drop 34 bytes)) in
    record { header = header_verifies f; transport = subst P (sym (length-frame f)) (transport_verifies f) }
