-- Another address and port in a frame, and its checksums brought up to date (RFC 3022, section 4.1, and RFC 1624).
use Rattle.std.specs.Prelude.{◌≡◌, ◌≢◌, ℕ, ◌+◌, ◌≤◌, ◌==◌, if◌then◌else◌, List, [], ◌∷◌, ◌++◌, length, slice_range}
use Rattle.std.specs.Prelude.{false, IsOkAnd}
use Rattle.inet_checksum.specs.OnesComplement.{words, AreAsRight, adjusted_16, adjusted_32}
use Rattle.packet_headers.specs.declared.flow.Flow.{Flow}
use Rattle.packet_headers.specs.Fields.{word_at, long_at, put_word, put_long, header_checksum, protocol}
use Rattle.packet_headers.specs.View.{is_tcp, least_header, viewed, changed_flow}

-- the frame is seen, at some length on the wire, as a flow of this protocol whose transport begins at this place
abbrev pub CanRewrite : List ℕ → Flow → Type 0
CanRewrite frame flow =
    (original : ℕ)
    × IsOkAnd (viewed frame original)
    (λ seen. (seen.protocol ≡ flow.protocol) × (seen.transport_at ≡ flow.transport_at))

-- where the checksum of TCP or UDP stands
abbrev pub checksum_place : Flow → ℕ
checksum_place flow = flow.transport_at + (if is_tcp flow.protocol then 16 else 6)

-- a UDP checksum of 0 says that there is none, so it stays, and one that becomes 0 is written as all ones (RFC 768; RFC
-- 3022, section 4.1)
abbrev pub written_checksum : ℕ → ℕ → ℕ → ℕ
written_checksum number old adjusted =
    if is_tcp number then adjusted
    else (if old == 0 then 0 else (if adjusted == 0 then 65535 else adjusted))

-- a TCP or UDP checksum after an address and then a port changed
abbrev pub adjusted_checksum : ℕ → ℕ → ℕ → ℕ → ℕ → ℕ → ℕ
adjusted_checksum number old old_address address old_port port =
    written_checksum number old (adjusted_16 (adjusted_32 old old_address address) old_port port)

-- the frame with another address and port at these places, and with both checksums adjusted
abbrev pub rewritten : List ℕ → Flow → ℕ → ℕ → ℕ → ℕ → List ℕ
rewritten frame flow address_place port_place address port =
    let old_address = long_at frame address_place in
    let old_port = word_at frame port_place in
    let header = adjusted_32 (header_checksum frame) old_address address in
    let transport =
    adjusted_checksum flow.protocol (word_at frame (checksum_place flow)) old_address address old_port port in
    put_word (put_long (put_word (put_word frame 24 header) (checksum_place flow) transport) address_place address)
    port_place port

abbrev pub with_source : List ℕ → Flow → ℕ → ℕ → List ℕ
with_source frame flow address port = rewritten frame flow 26 flow.transport_at address port

abbrev pub with_dest : List ℕ → Flow → ℕ → ℕ → List ℕ
with_dest frame flow address port = rewritten frame flow 30 (flow.transport_at + 2) address port

-- the IPv4 header with its checksum is as right or as wrong as it was
abbrev pub KeepsHeader : List ℕ → List ℕ → Flow → Type 0
KeepsHeader old new flow =
    AreAsRight (words (slice_range old 14 flow.transport_at)) (words (slice_range new 14 flow.transport_at))

-- what a TCP or UDP checksum is of: the pseudo-header (RFC 768; RFC 9293, section 3.1), which has both addresses, the
-- protocol and the length of the transport, and then the transport
abbrev pub covered_words : List ℕ → List ℕ → List ℕ
covered_words frame transport =
    (word_at frame 26 ∷ word_at frame 28 ∷ word_at frame 30 ∷ word_at frame 32 ∷ protocol frame ∷ length transport ∷ [])
    ++ words transport

-- and so is the transport with its checksum and the pseudo-header, unless it is UDP with a checksum of 0. The
-- transport may end anywhere behind its shortest header, since padding may follow it, and may have had more bytes than
-- were captured, whichever they were.
abbrev pub KeepsTransport : List ℕ → List ℕ → Flow → Type 0
KeepsTransport old new flow =
    (end : ℕ) (uncaptured : List ℕ) → flow.transport_at + least_header flow.protocol ≤ end
    → (is_tcp flow.protocol ≡ false → word_at old (checksum_place flow) ≢ 0)
    → AreAsRight (covered_words old (slice_range old flow.transport_at end ++ uncaptured))
    (covered_words new (slice_range new flow.transport_at end ++ uncaptured))

-- at each length on the wire, the new frame is seen as what the old one was, with another source or destination
abbrev pub SeenWithSource : List ℕ → List ℕ → ℕ → ℕ → Type 0
SeenWithSource old new address port =
    (original : ℕ)
    → viewed new original
    ≡ changed_flow (λ (seen : Flow). record seen { source = address; source_port = port }) (viewed old original)

abbrev pub SeenWithDest : List ℕ → List ℕ → ℕ → ℕ → Type 0
SeenWithDest old new address port =
    (original : ℕ)
    → viewed new original
    ≡ changed_flow (λ (seen : Flow). record seen { dest = address; dest_port = port }) (viewed old original)
