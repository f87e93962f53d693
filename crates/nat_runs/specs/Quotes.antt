-- The quoted TCP or UDP checksum of an error of ICMP stays as right or as wrong as it was, over the whole packet of
-- which the error quotes the beginning (RFC 5508, REQ-4 and REQ-5).
use Rattle.std.specs.Prelude.{◌≡◌, ◌≢◌, ◌↔◌, ℕ, ◌+◌, ◌^◌, ◌<◌, ◌≤◌, ◌==◌, if◌then◌else◌, List, [], ◌∷◌, ◌++◌}
use Rattle.std.specs.Prelude.{slice_index}
use Rattle.std.specs.Prelude.{slice_range, Some}
use Rattle.inet_checksum.specs.OnesComplement.{words, AreAsRight}
use Rattle.packet_headers.specs.Fields.{AreBytes, word_at}
use Rattle.icmp_errors.specs.declared.error.IcmpError.{IcmpError}
use Rattle.icmp_errors.specs.ErrorView.{viewed_error}
use Rattle.icmp_errors.specs.ErrorRewriting.{with_quoted_source, with_quoted_dest}

-- The quoted IPv4 header follows the 8 bytes of that of ICMP (RFC 792): in it the protocol is byte 9, the source begins
-- at 12, and the destination at 16 (RFC 791, section 3.1). The checksum of TCP, which is protocol 6, is at 16 (RFC
-- 9293, section 3.1), and that of UDP at 6 (RFC 768).

abbrev pub quoted_protocol_at : IcmpError → ℕ
quoted_protocol_at error = error.icmp_at + 8 + 9

abbrev pub quoted_source_at : IcmpError → ℕ
quoted_source_at error = error.icmp_at + 8 + 12

abbrev pub quoted_dest_at : IcmpError → ℕ
quoted_dest_at error = error.icmp_at + 8 + 16

abbrev pub checksum_at : IcmpError → ℕ
checksum_at error = error.transport_at + (if error.protocol == 6 then 16 else 6)

abbrev pub checksum_there : List ℕ → IcmpError → ℕ
checksum_there frame error = word_at frame (checksum_at error)

-- What the quoted checksum is of: the pseudo-header (RFC 768; RFC 9293, section 3.1), which has both addresses of the
-- quoted IPv4 header, its protocol and the length of the transport, and then the transport, as far as it is quoted,
-- with the bytes behind that, which are not.
abbrev pub quoted_words : List ℕ → IcmpError → ℕ → List ℕ → List ℕ
quoted_words frame error size unquoted =
    (word_at frame (quoted_source_at error) ∷ word_at frame (quoted_source_at error + 2)
    ∷ word_at frame (quoted_dest_at error) ∷ word_at frame (quoted_dest_at error + 2)
    ∷ slice_index frame (quoted_protocol_at error) ∷ size ∷ [])
    ++ words (slice_range frame error.transport_at error.end ++ unquoted)

-- It is as right as it was, whatever bytes follow and whatever the length is, unless it is of UDP and 0, which says
-- that there is none.
abbrev pub KeepsQuoted : List ℕ → List ℕ → IcmpError → Type 0
KeepsQuoted old new error =
    (size : ℕ) (unquoted : List ℕ) → (error.protocol ≢ 6 → checksum_there old error ≢ 0)
    → AreAsRight (quoted_words old error size unquoted) (quoted_words new error size unquoted)

-- and then it stays 0, and no other one of UDP becomes 0
abbrev pub KeepsNone : List ℕ → List ℕ → IcmpError → Type 0
KeepsNone old new error =
    error.protocol ≢ 6 → (checksum_there new error ≡ 0) ↔ (checksum_there old error ≡ 0)

abbrev pub KeepsQuote : List ℕ → List ℕ → IcmpError → Type 0
KeepsQuote old new error = KeepsQuoted old new error × KeepsNone old new error

-- each frame of bytes that is seen as an error whose quote goes as far as the checksum, with another endpoint
abbrev pub EachKeepsQuote : (List ℕ → IcmpError → ℕ → ℕ → List ℕ) → Type 0
EachKeepsQuote rewrite =
    (frame : List ℕ) (original : ℕ) (error : IcmpError) (address port : ℕ) → AreBytes frame
    → viewed_error frame original ≡ Some error → checksum_at error + 2 ≤ error.end → address < 2 ^ 32
    → port < 2 ^ 16 → KeepsQuote frame (rewrite frame error address port) error

abbrev pub QuotedSourceKeeps : Type 0
QuotedSourceKeeps = EachKeepsQuote (λ frame error address port. with_quoted_source frame error address port)

abbrev pub QuotedDestKeeps : Type 0
QuotedDestKeeps = EachKeepsQuote (λ frame error address port. with_quoted_dest frame error address port)
