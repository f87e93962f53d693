-- The fields of an Ethernet frame that carries IPv4 (RFC 791), and in it UDP (RFC 768) or TCP (RFC 9293), by the names
-- that these give them. A byte past the end of the frame reads as 0.
use Rattle.std.specs.Prelude.{ℕ, ◌+◌, ◌*◌, ◌/◌, ◌%◌, ◌<◌, List, slice_index, slice_set}

-- numbers that are bytes
abbrev pub AreBytes : List ℕ → Type 0
AreBytes frame = (k : ℕ) → slice_index frame k < 256

-- numbers of 16 and 32 bits, the high byte first
abbrev pub word_at : List ℕ → ℕ → ℕ
word_at frame place = 256 * slice_index frame place + slice_index frame (place + 1)

abbrev pub long_at : List ℕ → ℕ → ℕ
long_at frame place = 65536 * word_at frame place + word_at frame (place + 2)

-- a frame with this number of 16 or of 32 bits at this place
abbrev pub put_word : List ℕ → ℕ → ℕ → List ℕ
put_word frame place word = slice_set (slice_set frame place (word / 256)) (place + 1) (word % 256)

abbrev pub put_long : List ℕ → ℕ → ℕ → List ℕ
put_long frame place number = put_word (put_word frame place (number / 65536)) (place + 2) (number % 65536)

abbrev pub ether_type : List ℕ → ℕ
ether_type frame = word_at frame 12

abbrev pub version : List ℕ → ℕ
version frame = slice_index frame 14 / 16

-- the internet header length, in words of 32 bits
abbrev pub ihl : List ℕ → ℕ
ihl frame = slice_index frame 14 % 16

abbrev pub total_length : List ℕ → ℕ
total_length frame = word_at frame 16

abbrev pub more_fragments : List ℕ → ℕ
more_fragments frame = word_at frame 20 / 8192 % 2

abbrev pub fragment_offset : List ℕ → ℕ
fragment_offset frame = word_at frame 20 % 8192

abbrev pub protocol : List ℕ → ℕ
protocol frame = slice_index frame 23

abbrev pub header_checksum : List ℕ → ℕ
header_checksum frame = word_at frame 24

abbrev pub source_address : List ℕ → ℕ
source_address frame = long_at frame 26

abbrev pub destination_address : List ℕ → ℕ
destination_address frame = long_at frame 30

-- where the IPv4 header ends
abbrev pub header_end : List ℕ → ℕ
header_end frame = 14 + 4 * ihl frame

-- the fields of the TCP or UDP header behind it
abbrev pub source_port : List ℕ → ℕ
source_port frame = word_at frame (header_end frame)

abbrev pub destination_port : List ℕ → ℕ
destination_port frame = word_at frame (header_end frame + 2)

-- the length of a TCP header, in words of 32 bits
abbrev pub data_offset : List ℕ → ℕ
data_offset frame = slice_index frame (header_end frame + 12) / 16

abbrev pub control_bits : List ℕ → ℕ
control_bits frame = slice_index frame (header_end frame + 13)
