-- Other addresses and another quoted port in an error of ICMP, with its checksums brought up to date (RFC 5508, REQ-4
-- and REQ-5; RFC 1624).
use Rattle.std.specs.Prelude.{◌≡◌, ℕ, ◌+◌, ◌/◌, ◌%◌, ◌<◌, ◌≤◌, Bool, nat_le, if◌then◌else◌, List, length}
use Rattle.std.specs.Prelude.{◌⊎◌, [], ◌∷◌, slice_index, slice_range, Some}
use Rattle.inet_checksum.specs.OnesComplement.{words, AreAsRight, adjusted_16, adjusted_32}
use Rattle.packet_headers.specs.Fields.{word_at, long_at, put_word}
use Rattle.packet_headers.specs.View.{is_tcp}
use Rattle.packet_headers.specs.Rewriting.{adjusted_checksum}
use Rattle.icmp_errors.specs.declared.error.IcmpError.{IcmpError}
use Rattle.icmp_errors.specs.ErrorView.{viewed_error}

-- another word at a place, and the checksum at another place adjusted to it (RFC 1624, equation 3)
abbrev pub exchanged_word : List ℕ → ℕ → ℕ → ℕ → List ℕ
exchanged_word frame checksum place word =
    put_word (put_word frame checksum (adjusted_16 (word_at frame checksum) (word_at frame place) word)) place word

-- the same with 32 bits: first the high half, then the low half
abbrev pub exchanged_long : List ℕ → ℕ → ℕ → ℕ → List ℕ
exchanged_long frame checksum place number =
    exchanged_word (exchanged_word frame checksum place (number / 65536)) checksum (place + 2) (number % 65536)

-- where the error's checksum stands, and in the quoted header its checksum and its addresses
abbrev pub icmp_checksum : IcmpError → ℕ
icmp_checksum error = error.icmp_at + 2

abbrev pub quoted_checksum : IcmpError → ℕ
quoted_checksum error = error.icmp_at + 8 + 10

abbrev pub source_place : IcmpError → ℕ
source_place error = error.icmp_at + 8 + 12

abbrev pub dest_place : IcmpError → ℕ
dest_place error = error.icmp_at + 8 + 16

-- where the quoted checksum of TCP or UDP stands, and whether the quote goes as far
abbrev pub transport_checksum : IcmpError → ℕ
transport_checksum error = error.transport_at + (if is_tcp error.protocol then 16 else 6)

abbrev pub has_transport_checksum : IcmpError → Bool
has_transport_checksum error = nat_le (transport_checksum error + 2) error.end

-- both, adjusted to another address and another port of the quoted packet
abbrev pub transport_sum : List ℕ → IcmpError → ℕ → ℕ → ℕ → ℕ → ℕ
transport_sum frame error old_address address port_place port =
    adjusted_checksum error.protocol (word_at frame (transport_checksum error)) old_address address
    (word_at frame port_place) port

abbrev pub header_sum : List ℕ → IcmpError → ℕ → ℕ → ℕ
header_sum frame error old_address address = adjusted_32 (word_at frame (quoted_checksum error)) old_address address

-- the quoted checksum of TCP or UDP is written, where it is quoted
abbrev pub with_transport_checksum : List ℕ → IcmpError → ℕ → ℕ → ℕ → ℕ → List ℕ
with_transport_checksum frame error old_address address port_place port =
    if has_transport_checksum error then
    exchanged_word frame (icmp_checksum error) (transport_checksum error)
    (transport_sum frame error old_address address port_place port)
    else frame

-- the quoted header's checksum is written, and an address of it
abbrev pub with_quoted_address : List ℕ → IcmpError → ℕ → ℕ → ℕ → List ℕ
with_quoted_address frame error place old_address address =
    exchanged_long
    (exchanged_word frame (icmp_checksum error) (quoted_checksum error) (header_sum frame error old_address address))
    (icmp_checksum error) place address

-- another address at a place of the error's IPv4 header and at a place of the quoted one, and another quoted port
abbrev pub rewritten_error : List ℕ → IcmpError → ℕ → ℕ → ℕ → ℕ → ℕ → List ℕ
rewritten_error frame error outer_place quoted_place port_place address port =
    let old_address = long_at frame quoted_place in
    let outer = exchanged_long frame 24 outer_place address in
    let transport = with_transport_checksum outer error old_address address port_place port in
    with_quoted_address (exchanged_word transport (icmp_checksum error) port_place port) error quoted_place old_address
    address

-- the error goes to this endpoint, from which the quoted packet comes
abbrev pub with_quoted_source : List ℕ → IcmpError → ℕ → ℕ → List ℕ
with_quoted_source frame error address port =
    rewritten_error frame error 30 (source_place error) error.transport_at address port

-- the error comes from this endpoint, to which the quoted packet goes
abbrev pub with_quoted_dest : List ℕ → IcmpError → ℕ → ℕ → List ℕ
with_quoted_dest frame error address port =
    rewritten_error frame error 26 (dest_place error) (error.transport_at + 2) address port

-- the places to rewrite are in the frame
pub record FitsFrame (frame : List ℕ) (error : IcmpError) (outer_place quoted_place port_place : ℕ) : Type 0 where
  pub long_enough : 34 ≤ length frame
  pub ends : error.end ≤ length frame
  pub header : error.icmp_at + 28 ≤ length frame
  pub outer : outer_place + 4 ≤ length frame
  pub quoted : quoted_place + 4 ≤ length frame
  pub port : port_place + 2 ≤ length frame

-- What stays

-- a byte is outside these fields, each of which has a place and a number of bytes
abbrev pub IsOutside : ℕ → List (ℕ × ℕ) → Type 0
IsOutside k [] = Unit {0}
IsOutside k (field ∷ fields) = ((k < field.0) ⊎ (field.0 + field.1 ≤ k)) × IsOutside k fields

abbrev pub KeepsOtherBytes : List ℕ → List ℕ → List (ℕ × ℕ) → Type 0
KeepsOtherBytes old new fields =
    (length new ≡ length old) × ((k : ℕ) → IsOutside k fields → slice_index new k ≡ slice_index old k)

-- what is rewritten: two addresses and a port, and the checksums
abbrev pub transport_fields : IcmpError → List (ℕ × ℕ)
transport_fields error = if has_transport_checksum error then (transport_checksum error, 2) ∷ [] else []

abbrev pub rewritten_fields : IcmpError → ℕ → ℕ → ℕ → List (ℕ × ℕ)
rewritten_fields error outer_place quoted_place port_place =
    (24, 2) ∷ (outer_place, 4) ∷ (icmp_checksum error, 2) ∷ (quoted_checksum error, 2) ∷ (quoted_place, 4)
    ∷ (port_place, 2) ∷ transport_fields error

abbrev pub source_fields : IcmpError → List (ℕ × ℕ)
source_fields error = rewritten_fields error 30 (source_place error) error.transport_at

abbrev pub dest_fields : IcmpError → List (ℕ × ℕ)
dest_fields error = rewritten_fields error 26 (dest_place error) (error.transport_at + 2)

-- the error's own IPv4 header is as right or as wrong as it was
abbrev pub KeepsErrorHeader : List ℕ → List ℕ → IcmpError → Type 0
KeepsErrorHeader old new error =
    AreAsRight (words (slice_range old 14 error.icmp_at)) (words (slice_range new 14 error.icmp_at))

-- where the old frame was seen as this error, the new one is seen as the same with other addresses and another port:
-- so its checksum verifies, and the quoted header's
abbrev pub SeenWithQuotedSource : List ℕ → List ℕ → IcmpError → ℕ → ℕ → Type 0
SeenWithQuotedSource old new error address port =
    (original : ℕ) → viewed_error old original ≡ Some error
    → viewed_error new original
    ≡ Some (record error { dest = address; quoted_source = address; quoted_source_port = port })

abbrev pub SeenWithQuotedDest : List ℕ → List ℕ → IcmpError → ℕ → ℕ → Type 0
SeenWithQuotedDest old new error address port =
    (original : ℕ) → viewed_error old original ≡ Some error
    → viewed_error new original
    ≡ Some (record error { source = address; quoted_dest = address; quoted_dest_port = port })
