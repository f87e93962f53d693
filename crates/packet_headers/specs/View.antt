-- What a frame is seen as: a flow, or the first test that it fails. The tests are of the headers of IPv4 (RFC 791,
-- section
-- 3.1), UDP (RFC 768) and TCP (RFC 9293, section 3.1).
use Rattle.std.specs.Prelude.{ℕ, ◌+◌, ◌-◌, ◌*◌, max, Bool, not, ◌&&◌, ◌||◌, ◌==◌, nat_lt, if◌then◌else◌, List, [], ◌∷◌}
use Rattle.std.specs.Prelude.{◌++◌, length, Result, Ok, Err}
use Rattle.packet_headers.specs.declared.flow.Flow.{Flow}
use Rattle.packet_headers.specs.declared.flow.NotFlow.{NotFlow}
use Rattle.packet_headers.specs.declared.flow.NotFlow.TheVariants.{Short, NotIpv4, BadHeaderLength, Fragment}
use Rattle.packet_headers.specs.declared.flow.NotFlow.TheVariants.{OtherProtocol, BadTotalLength}
use Rattle.packet_headers.specs.Fields.{ether_type, version, ihl, total_length, more_fragments, fragment_offset}
use Rattle.packet_headers.specs.Fields.{protocol, source_address, destination_address, header_end, source_port}
use Rattle.packet_headers.specs.Fields.{destination_port, data_offset, control_bits}

abbrev pub is_tcp : ℕ → Bool
is_tcp number = number == 6

abbrev pub is_udp : ℕ → Bool
is_udp number = number == 17

-- the bytes of the shortest TCP header, and of the UDP header
abbrev pub least_header : ℕ → ℕ
least_header number = if is_tcp number then 20 else 8

-- a total length that has no room for the headers, or goes past the end of what the frame had; one of 0, which
-- captures on the sending host have where the network card fills it in, tells nothing
abbrev pub has_bad_total_length : List ℕ → ℕ → Bool
has_bad_total_length frame original =
    not (total_length frame == 0)
    && (nat_lt (total_length frame) (4 * ihl frame + least_header (protocol frame))
    || nat_lt (max (length frame) original - 14) (total_length frame))

-- the tests of the frame up to the end of its IPv4 header, in order: where each fails, and the answer that it gives
abbrev pub header_failures : List ℕ → List (Bool × NotFlow)
header_failures frame =
    (nat_lt (length frame) 14, Short)
    ∷ (not (ether_type frame == 0x0800), NotIpv4)
    ∷ (nat_lt (length frame) 34, Short)
    ∷ (not (version frame == 4), NotIpv4)
    ∷ (nat_lt (ihl frame) 5, BadHeaderLength)
    ∷ (nat_lt (length frame) (header_end frame), Short)
    ∷ []

-- the tests of what it carries, where it had this many bytes on the wire
abbrev pub packet_failures : List ℕ → ℕ → List (Bool × NotFlow)
packet_failures frame original =
    (not (more_fragments frame == 0) || not (fragment_offset frame == 0), Fragment)
    ∷ (not (is_tcp (protocol frame)) && not (is_udp (protocol frame)), OtherProtocol)
    ∷ (has_bad_total_length frame original, BadTotalLength)
    ∷ (nat_lt (length frame) (header_end frame + least_header (protocol frame)), Short)
    ∷ (is_tcp (protocol frame) && nat_lt (data_offset frame) 5, BadHeaderLength)
    ∷ []

abbrev pub failures : List ℕ → ℕ → List (Bool × NotFlow)
failures frame original = header_failures frame ++ packet_failures frame original

-- the flow of a frame that fails none
abbrev pub flow_of : List ℕ → Flow
flow_of frame = record {
  protocol = protocol frame;
  source = source_address frame;
  source_port = source_port frame;
  dest = destination_address frame;
  dest_port = destination_port frame;
  flags = if is_tcp (protocol frame) then control_bits frame else 0;
  transport_at = header_end frame;
}

-- the answer of the first test that fails, or this value
abbrev pub first_failure : {A : Type 0} → List (Bool × NotFlow) → A → Result A NotFlow
first_failure [] value = Ok value
first_failure (test ∷ later) value = if test.0 then Err test.1 else first_failure later value

-- a frame of which these bytes were captured, and which had this many on the wire
abbrev pub viewed : List ℕ → ℕ → Result Flow NotFlow
viewed frame original = first_failure (failures frame original) (flow_of frame)

-- a view, changed so where it is a flow
abbrev pub changed_flow : (Flow → Flow) → Result Flow NotFlow → Result Flow NotFlow
changed_flow change (Ok flow) = Ok (change flow)
changed_flow change (Err answer) = Err answer
