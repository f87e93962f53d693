-- Which frames are errors of ICMP that can be followed to a flow: RFC 792, and RFC 5508, section 4.
use Rattle.std.specs.Prelude.{◌≡◌, ℕ, ◌+◌, ◌*◌, ◌≤◌, Bool, true, false, ◌&&◌, ◌||◌, ◌==◌, nat_le, if◌then◌else◌, List, length}
use Rattle.std.specs.Prelude.{slice_range, Option, Some, None, Result, Ok, Err}
use Rattle.inet_checksum.specs.OnesComplement.{words, ones_sum}
use Rattle.packet_headers.specs.declared.flow.Flow.{Flow}
use Rattle.packet_headers.specs.declared.flow.NotFlow.{NotFlow}
use Rattle.packet_headers.specs.declared.flow.NotFlow.TheVariants.{Short, NotIpv4, BadHeaderLength, Fragment}
use Rattle.packet_headers.specs.declared.flow.NotFlow.TheVariants.{OtherProtocol, BadTotalLength}
use Rattle.packet_headers.specs.Fields.{ihl, total_length, protocol, source_address, destination_address, header_end}
use Rattle.packet_headers.specs.View.{is_tcp, is_udp, viewed}
use Rattle.icmp_errors.specs.declared.error.IcmpError.{IcmpError}
use Rattle.icmp_errors.specs.ErrorFields.{icmp_type, error_end, quoted_at, quoted_version, quoted_ihl, quoted_offset}
use Rattle.icmp_errors.specs.ErrorFields.{quoted_protocol, quoted_source, quoted_dest, quoted_end}
use Rattle.icmp_errors.specs.ErrorFields.{quoted_source_port, quoted_dest_port}

-- IPv4 that is no fragment, and carries neither TCP nor UDP
abbrev pub is_other_protocol : Result Flow NotFlow → Bool
is_other_protocol (Ok flow) = false
is_other_protocol (Err Short) = false
is_other_protocol (Err NotIpv4) = false
is_other_protocol (Err BadHeaderLength) = false
is_other_protocol (Err Fragment) = false
is_other_protocol (Err OtherProtocol) = true
is_other_protocol (Err BadTotalLength) = false

-- ICMP is protocol 1; 3 is destination unreachable, 11 time exceeded, and 12 parameter problem (RFC 792)
abbrev pub is_error_type : ℕ → Bool
is_error_type number = number == 3 || number == 11 || number == 12

-- an error that was captured to its end, with room for its header of 8 bytes, for the shortest IPv4 header, and for the
-- first 8 bytes behind that
abbrev pub is_whole_error : List ℕ → Bool
is_whole_error frame =
    protocol frame == 1 && nat_le (4 * ihl frame + 36) (total_length frame)
    && nat_le (14 + total_length frame) (length frame) && is_error_type (icmp_type frame)

-- what it quotes is the first fragment of a packet of TCP or UDP, with its ports
abbrev pub quotes_flow : List ℕ → Bool
quotes_flow frame =
    quoted_version frame == 4 && nat_le 5 (quoted_ihl frame) && quoted_offset frame == 0
    && (is_tcp (quoted_protocol frame) || is_udp (quoted_protocol frame))
    && nat_le (quoted_end frame + 8) (error_end frame)

-- the bytes of a frame from a place to another verify (RFC 1071)
abbrev pub verify : List ℕ → ℕ → ℕ → Bool
verify frame from to = ones_sum (words (slice_range frame from to)) == 65535

-- the error's checksum verifies, and the quoted header's (RFC 5508, REQ-3)
abbrev pub checksums_verify : List ℕ → Bool
checksums_verify frame =
    verify frame (header_end frame) (error_end frame) && verify frame (quoted_at frame) (quoted_end frame)

-- a frame of which these bytes were captured, and which had this many on the wire
abbrev pub is_error : List ℕ → ℕ → Bool
is_error frame original =
    is_other_protocol (viewed frame original) && is_whole_error frame && quotes_flow frame && checksums_verify frame

abbrev pub error_of : List ℕ → IcmpError
error_of frame = record {
  source = source_address frame;
  dest = destination_address frame;
  protocol = quoted_protocol frame;
  quoted_source = quoted_source frame;
  quoted_source_port = quoted_source_port frame;
  quoted_dest = quoted_dest frame;
  quoted_dest_port = quoted_dest_port frame;
  icmp_at = header_end frame;
  transport_at = quoted_end frame;
  end = error_end frame;
}

abbrev pub viewed_error : List ℕ → ℕ → Option IcmpError
viewed_error frame original = if is_error frame original then Some (error_of frame) else None

-- A frame that is long enough: for its IPv4 header; then for an error of ICMP; then for the quoted ports

abbrev pub HasHeader : List ℕ → Type 0
HasHeader frame = (34 ≤ header_end frame) × (header_end frame ≤ length frame)

abbrev pub HasError : List ℕ → Type 0
HasError frame = HasHeader frame × (header_end frame + 36 ≤ error_end frame) × (error_end frame ≤ length frame)

abbrev pub HasQuote : List ℕ → Type 0
HasQuote frame =
    HasError frame × (quoted_at frame + 20 ≤ quoted_end frame) × (quoted_end frame + 8 ≤ error_end frame)

-- the frame is seen, at some length on the wire, as this error
abbrev pub IsErrorFrame : List ℕ → IcmpError → Type 0
IsErrorFrame frame error = (original : ℕ) × (viewed_error frame original ≡ Some error)
