-- What a receiver makes sure of in a frame that carries TCP or UDP over IPv4 with a header of 20 bytes: that the
-- Internet checksums (RFC 1071) of its headers verify.
use Rattle.std.specs.Prelude.{ℕ, ◌-◌, List, [], ◌∷◌, ◌++◌, length, take, drop, slice_index}
use Rattle.std.specs.Int.{to_be_bytes, w16}
use Rattle.inet_checksum.specs.OnesComplement.{words, Verifies}

-- the pseudo-header of a frame (RFC 768; RFC 9293, section 3.1): its addresses, a zero, its protocol and the length of
-- its transport
abbrev pub pseudo_header_in : List ℕ → List ℕ
pseudo_header_in bytes =
    take 8 (drop 26 bytes) ++ (0 ∷ slice_index bytes 23 ∷ []) ++ to_be_bytes w16 (length bytes - 34)

-- the header verifies, and so does the transport behind its pseudo-header
pub record HasRightChecksums (bytes : List ℕ) : Type 0 where
  pub header : Verifies (words (take 20 (drop 14 bytes)))
  pub transport : Verifies (words (pseudo_header_in bytes ++ drop 34 bytes))
