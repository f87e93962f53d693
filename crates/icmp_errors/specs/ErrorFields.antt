-- The fields of an error of ICMP (RFC 792) in a frame, and of the IPv4 packet that it quotes, where an IPv4 header may
-- have options (RFC 791). A byte past the end of the frame reads as 0.
use Rattle.std.specs.Prelude.{ℕ, ◌+◌, ◌*◌, ◌/◌, ◌%◌, List, slice_index}
use Rattle.packet_headers.specs.Fields.{word_at, long_at, header_end, total_length}

-- ICMP begins where the IPv4 header ends, and ends where the packet does
abbrev pub icmp_type : List ℕ → ℕ
icmp_type frame = slice_index frame (header_end frame)

abbrev pub error_end : List ℕ → ℕ
error_end frame = 14 + total_length frame

-- the quoted packet follows a header of 8 bytes
abbrev pub quoted_at : List ℕ → ℕ
quoted_at frame = header_end frame + 8

abbrev pub quoted_version : List ℕ → ℕ
quoted_version frame = slice_index frame (quoted_at frame) / 16

abbrev pub quoted_ihl : List ℕ → ℕ
quoted_ihl frame = slice_index frame (quoted_at frame) % 16

abbrev pub quoted_offset : List ℕ → ℕ
quoted_offset frame = word_at frame (quoted_at frame + 6) % 8192

abbrev pub quoted_protocol : List ℕ → ℕ
quoted_protocol frame = slice_index frame (quoted_at frame + 9)

abbrev pub quoted_source : List ℕ → ℕ
quoted_source frame = long_at frame (quoted_at frame + 12)

abbrev pub quoted_dest : List ℕ → ℕ
quoted_dest frame = long_at frame (quoted_at frame + 16)

-- where the quoted IPv4 header ends, and TCP or UDP begins with its ports
abbrev pub quoted_end : List ℕ → ℕ
quoted_end frame = quoted_at frame + 4 * quoted_ihl frame

abbrev pub quoted_source_port : List ℕ → ℕ
quoted_source_port frame = word_at frame (quoted_end frame)

abbrev pub quoted_dest_port : List ℕ → ℕ
quoted_dest_port frame = word_at frame (quoted_end frame + 2)
