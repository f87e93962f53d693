-- What each step of a rewriting keeps: the remainders of the error's header and of its message, and the quoted header
-- until its own address is written.
use Rattle.std.proofs.Common.{◌≡◌, ◌⊎◌, ℕ, ◌+◌, ◌*◌, ◌/◌, ◌%◌, ◌^◌, ◌<◌, ◌≤◌, Bool, true, false, List, [], length}
use Rattle.std.proofs.Common.{nat_le, if◌then◌else◌, inr, ◌∙◌, ap, sym, subst, arith, refl}
use Rattle.std.proofs.lemmas.Bool.Decides.{nat_tests}
use Rattle.inet_checksum.specs.OnesComplement.{adjusted_16, adjusted_32}
use Rattle.inet_checksum.proofs.AdjustedSums.{adjusted_16-le, adjusted_32-le, adjusted_32-residue}
use Rattle.packet_headers.specs.Fields.{AreBytes, word_at, long_at}
use Rattle.packet_headers.specs.View.{is_tcp}
use Rattle.packet_headers.specs.Rewriting.{written_checksum}
use Rattle.packet_headers.proofs.Weights.{weight}
use Rattle.packet_headers.proofs.Residues.{other_side}
use Rattle.packet_headers.proofs.Laws.{word_at-le}
use Rattle.icmp_errors.specs.declared.error.IcmpError.{IcmpError}
use Rattle.icmp_errors.specs.ErrorRewriting.{exchanged_word, exchanged_long, icmp_checksum, quoted_checksum}
use Rattle.icmp_errors.specs.ErrorRewriting.{transport_checksum, has_transport_checksum, with_transport_checksum}
use Rattle.icmp_errors.specs.ErrorRewriting.{with_quoted_address, transport_sum, header_sum}
use Rattle.icmp_errors.proofs.Exchanges.{length-exchanged, exchange_keeps_bytes, byte_beside}
use Rattle.icmp_errors.proofs.Exchanges.{exchange_inside, exchange_before, exchange_behind, exchange_around}
use Rattle.icmp_errors.proofs.Exchanges.{exchange_within}

-- where the parts of an error stand in a frame of this length
pub record Stands (size : ℕ) (error : IcmpError) : Type 0 where
  pub header_words : ℕ
  pub quoted_words : ℕ
  pub icmp_is : error.icmp_at ≡ 14 + 2 * header_words
  pub behind : 34 ≤ error.icmp_at
  pub transport_is : error.transport_at ≡ error.icmp_at + 2 * quoted_words
  pub quoted_header : error.icmp_at + 28 ≤ error.transport_at
  pub ends : error.transport_at + 8 ≤ error.end
  pub in_frame : error.end ≤ size

-- what every step keeps
pub record Keeps (old new : List ℕ) (error : IcmpError) : Type 0 where
  pub same_length : length new ≡ length old
  pub bytes : AreBytes new
  pub header : weight new 14 error.icmp_at [] % 65535 ≡ weight old 14 error.icmp_at [] % 65535
  pub message : weight new error.icmp_at error.end [] % 65535 ≡ weight old error.icmp_at error.end [] % 65535

pub then_keeps : (a b c : List ℕ) (error : IcmpError) → Keeps a b error → Keeps b c error → Keeps a c error
then_keeps a b c error first second = record {
  same_length = second.same_length ∙ first.same_length;
  bytes = second.bytes;
  header = second.header ∙ first.header;
  message = second.message ∙ first.message;
}

pub stands_along : (a b : ℕ) (error : IcmpError) → b ≡ a → Stands a error → Stands b error
stands_along a b error same stands = subst (λ (size : ℕ). Stands size error) (sym same) stands

-- ---- one word of the error's own header, and one of its message

outer_word : (frame : List ℕ) (error : IcmpError) (n place word : ℕ) → Stands (length frame) error → AreBytes frame
    → place ≡ 14 + 2 * n → 6 ≤ n → n ≤ 9 → word ≤ 65535
    → Keeps frame (exchanged_word frame 24 place word) error
outer_word frame error n place word stands bytes is from to small = record {
  same_length = length-exchanged frame 24 place word;
  bytes = exchange_keeps_bytes frame 24 place word (omega arith) (omega arith) small bytes;
  header = exchange_inside frame 14 error.icmp_at 5 n 24 place word bytes refl is (omega arith) (omega arith)
      (omega arith);
  message = ap (λ (total : ℕ). total % 65535)
      (exchange_before frame error.icmp_at error.end 24 place word (omega arith) (omega arith));
}

inner_word : (frame : List ℕ) (error : IcmpError) (n place word : ℕ) → Stands (length frame) error → AreBytes frame
    → place ≡ error.icmp_at + 2 * n → 9 ≤ n → place + 1 < error.end → word ≤ 65535
    → Keeps frame (exchanged_word frame (icmp_checksum error) place word) error
inner_word frame error n place word stands bytes is from inside small = record {
  same_length = length-exchanged frame (error.icmp_at + 2) place word;
  bytes = exchange_keeps_bytes frame (error.icmp_at + 2) place word (omega arith) (omega arith) small bytes;
  header = ap (λ (total : ℕ). total % 65535)
      (exchange_behind frame 14 error.icmp_at (error.icmp_at + 2) place word (omega arith) (omega arith)
      (omega arith));
  message = exchange_inside frame error.icmp_at error.end 1 n (error.icmp_at + 2) place word bytes refl is
      (omega arith) (omega arith) (omega arith);
}

-- ---- the outer address

pub outer_keeps : (frame : List ℕ) (error : IcmpError) (n place address : ℕ) → Stands (length frame) error
    → AreBytes frame → place ≡ 14 + 2 * n → 6 ≤ n → n ≤ 8 → address < 2 ^ 32
    → Keeps frame (exchanged_long frame 24 place address) error
outer_keeps frame error n place address stands bytes is from to small =
    let first =
    outer_word frame error n place (address / 65536) stands bytes is from (omega arith) (omega arith) in
    let half = exchanged_word frame 24 place (address / 65536) in
    let second = outer_word half error (n + 1) (place + 2) (address % 65536)
    (stands_along _ _ error first.same_length stands) first.bytes (omega arith) (omega arith) (omega arith)
    (omega arith) in
    then_keeps frame half (exchanged_word half 24 (place + 2) (address % 65536)) error first second

-- ---- the quoted checksum of TCP or UDP

written_small : (number old adjusted : ℕ) → adjusted ≤ 65535 → written_checksum number old adjusted ≤ 65535
written_small number old adjusted small = grind (arith, nat_tests)

-- its place, in words behind the beginning of ICMP
pub record ChecksumStands (error : IcmpError) : Type 0 where
  pub words_in : ℕ
  pub is : transport_checksum error ≡ error.icmp_at + 2 * words_in
  pub behind_ports : error.transport_at + 6 ≤ transport_checksum error

pub checksum_stands : (size : ℕ) (error : IcmpError) → Stands size error → ChecksumStands error
checksum_stands size error stands = by (is_tcp error.protocol) refl
  where
    by : (tcp : Bool) → is_tcp error.protocol ≡ tcp → ChecksumStands error
    by true is =
        let place : transport_checksum error ≡ error.transport_at + 16 =
        ap (λ (b : Bool). error.transport_at + (if b then 16 else 6)) is in
        record { words_in = stands.quoted_words + 8; is = omega arith; behind_ports = omega arith }
    by false is =
        let place : transport_checksum error ≡ error.transport_at + 6 =
        ap (λ (b : Bool). error.transport_at + (if b then 16 else 6)) is in
        record { words_in = stands.quoted_words + 3; is = omega arith; behind_ports = omega arith }

-- where it is quoted
pub checksum_quoted : (error : IcmpError) → has_transport_checksum error ≡ true
    → transport_checksum error + 2 ≤ error.end
checksum_quoted error has = at (transport_checksum error + 2) error.end has
  where
    at : (a b : ℕ) → nat_le a b ≡ true → a ≤ b
    at a b test = grind (arith, nat_tests)

pub transport_keeps : (frame : List ℕ) (error : IcmpError) (old_address address port_place port : ℕ)
    → Stands (length frame) error → AreBytes frame
    → Keeps frame (with_transport_checksum frame error old_address address port_place port) error
transport_keeps frame error old_address address port_place port stands bytes = by (has_transport_checksum error) refl
  where
    place : ℕ
    place = transport_checksum error

    by : (has : Bool) → has_transport_checksum error ≡ has
        → Keeps frame (if has then exchanged_word frame (icmp_checksum error) (transport_checksum error)
        (transport_sum frame error old_address address port_place port) else frame) error
    by true is =
        let at = checksum_stands (length frame) error stands in
        let inside = checksum_quoted error is in
        let old = word_at frame (transport_checksum error) in
        let adjusted = adjusted_16 (adjusted_32 old old_address address) (word_at frame port_place) port in
        let small = written_small error.protocol old adjusted
        (adjusted_16-le (adjusted_32 old old_address address) (word_at frame port_place) port) in
        inner_word frame error at.words_in (transport_checksum error) (written_checksum error.protocol old adjusted)
        stands bytes at.is (omega (arith, at.is, at.behind_ports)) (omega (arith, inside)) small
    by false is = record { same_length = refl; bytes = bytes; header = refl; message = refl }

-- ---- the quoted port

pub port_keeps : (frame : List ℕ) (error : IcmpError) (n place port : ℕ) → Stands (length frame) error
    → AreBytes frame → place ≡ error.transport_at + 2 * n → n ≤ 1 → port < 2 ^ 16
    → Keeps frame (exchanged_word frame (icmp_checksum error) place port) error
port_keeps frame error n place port stands bytes is to small =
    inner_word frame error (stands.quoted_words + n) place port stands bytes (omega arith) (omega arith) (omega arith)
    (omega arith)

-- ---- the quoted address

pub address_keeps : (frame : List ℕ) (error : IcmpError) (n place old_address address : ℕ)
    → Stands (length frame) error → AreBytes frame → place ≡ error.icmp_at + 2 * n → 10 ≤ n → n ≤ 12
    → address < 2 ^ 32 → Keeps frame (with_quoted_address frame error place old_address address) error
address_keeps frame error n place old_address address stands bytes is from to small =
    let checksum = header_sum frame error old_address address in
    let c = icmp_checksum error in
    let a = exchanged_word frame c (quoted_checksum error) checksum in
    let b = exchanged_word a c place (address / 65536) in
    let first = inner_word frame error 9 (quoted_checksum error) checksum stands bytes (omega arith) (omega arith) (omega arith)
    (adjusted_32-le (word_at frame (quoted_checksum error)) old_address address) in
    let in_a = stands_along (length frame) (length a) error first.same_length stands in
    let second = inner_word a error n place (address / 65536) in_a first.bytes is (omega arith) (omega arith)
    (omega arith) in
    let in_b = stands_along (length a) (length b) error second.same_length in_a in
    let third = inner_word b error (n + 1) (place + 2) (address % 65536) in_b second.bytes (omega arith) (omega arith)
    (omega arith) (omega arith) in
    then_keeps frame a (exchanged_word b c (place + 2) (address % 65536)) error first
    (then_keeps a b (exchanged_word b c (place + 2) (address % 65536)) error second third)

-- ---- the sum of the quoted header

pub outer_apart : (frame : List ℕ) (error : IcmpError) (place address : ℕ) → Stands (length frame) error
    → place + 4 ≤ error.icmp_at
    → weight (exchanged_long frame 24 place address) (error.icmp_at + 8) error.transport_at []
    ≡ weight frame (error.icmp_at + 8) error.transport_at []
outer_apart frame error place address stands before =
    let half = exchanged_word frame 24 place (address / 65536) in
    exchange_before half (error.icmp_at + 8) error.transport_at 24 (place + 2) (address % 65536) (omega arith)
    (omega arith)
    ∙ exchange_before frame (error.icmp_at + 8) error.transport_at 24 place (address / 65536) (omega arith)
    (omega arith)

pub transport_apart : (frame : List ℕ) (error : IcmpError) (old_address address port_place port : ℕ)
    → Stands (length frame) error
    → weight (with_transport_checksum frame error old_address address port_place port) (error.icmp_at + 8)
    error.transport_at [] ≡ weight frame (error.icmp_at + 8) error.transport_at []
transport_apart frame error old_address address port_place port stands = by (has_transport_checksum error) refl
  where
    by : (has : Bool) → has_transport_checksum error ≡ has
        → weight (if has then exchanged_word frame (icmp_checksum error) (transport_checksum error)
        (transport_sum frame error old_address address port_place port) else frame) (error.icmp_at + 8) error.transport_at []
        ≡ weight frame (error.icmp_at + 8) error.transport_at []
    by true is =
        let at = checksum_stands (length frame) error stands in
        exchange_around frame (error.icmp_at + 8) error.transport_at (icmp_checksum error) (transport_checksum error)
        (transport_sum frame error old_address address port_place port)
        (omega arith) (omega arith) (omega (arith, at.behind_ports))
    by false is = refl

pub port_apart : (frame : List ℕ) (error : IcmpError) (place port : ℕ) → Stands (length frame) error
    → error.transport_at ≤ place
    → weight (exchanged_word frame (icmp_checksum error) place port) (error.icmp_at + 8) error.transport_at []
    ≡ weight frame (error.icmp_at + 8) error.transport_at []
port_apart frame error place port stands behind =
    exchange_around frame (error.icmp_at + 8) error.transport_at (icmp_checksum error) place port (omega arith)
    (omega arith) behind

word_kept : (frame : List ℕ) (checksum place word other : ℕ) → checksum + 2 ≤ other
    → (other + 2 ≤ place) ⊎ (place + 2 ≤ other)
    → word_at (exchanged_word frame checksum place word) other ≡ word_at frame other
word_kept frame checksum place word other behind apart =
    let high = byte_beside frame checksum place word other (inr behind)
    (other_side apart (λ h. omega arith) (λ h. omega arith)) in
    let low = byte_beside frame checksum place word (other + 1) (inr (omega arith))
    (other_side apart (λ h. omega arith) (λ h. omega arith)) in
    omega arith

-- what came and what went balance
balances : (w0 w1 w2 w3 old new was address high high' low low' : ℕ) → w1 + old ≡ w0 + new
    → w2 + high' ≡ w1 + address / 65536 → w3 + low' ≡ w2 + address % 65536 → high' ≡ high → low' ≡ low
    → 65536 * high + low ≡ was → (new + address) % 65535 ≡ (old + was) % 65535 → w3 % 65535 ≡ w0 % 65535
balances w0 w1 w2 w3 old new was address high high' low low' a b c d e f g = omega arith

pub address_weight : (frame : List ℕ) (error : IcmpError) (n place old_address address : ℕ) → Stands (length frame) error
    → AreBytes frame → place ≡ error.icmp_at + 8 + 2 * n → 6 ≤ n → n ≤ 8 → long_at frame place ≡ old_address
    → old_address < 2 ^ 32
    → weight (with_quoted_address frame error place old_address address) (error.icmp_at + 8) error.transport_at []
    % 65535
    ≡ weight frame (error.icmp_at + 8) error.transport_at [] % 65535
address_weight frame error n place old_address address stands bytes is from to old_is small =
    let q = error.icmp_at + 8 in
    let t = error.transport_at in
    let c = icmp_checksum error in
    let old = word_at frame (quoted_checksum error) in
    let new = header_sum frame error old_address address in
    let a = exchanged_word frame c (quoted_checksum error) new in
    let b = exchanged_word a c place (address / 65536) in
    let long_a : length a ≡ length frame = length-exchanged frame c (quoted_checksum error) new in
    let long_b : length b ≡ length a = length-exchanged a c place (address / 65536) in
    let first = exchange_within frame q t 5 c (quoted_checksum error) new (omega arith) (omega arith) (omega arith)
    (omega arith) in
    let second = exchange_within a q t n c place (address / 65536) (omega arith) is (omega arith) (omega arith) in
    let third = exchange_within b q t (n + 1) c (place + 2) (address % 65536) (omega arith) (omega arith) (omega arith)
    (omega arith) in
    let high = word_kept frame c (quoted_checksum error) new place (omega arith) (inr (omega arith)) in
    let low =
    word_kept a c place (address / 65536) (place + 2) (omega arith) (inr (omega arith))
    ∙ word_kept frame c (quoted_checksum error) new (place + 2) (omega arith) (inr (omega arith)) in
    let balance =
    adjusted_32-residue old old_address address (word_at-le frame (quoted_checksum error) bytes) small in
    balances (weight frame q t []) (weight a q t []) (weight b q t [])
    (weight (exchanged_word b c (place + 2) (address % 65536)) q t []) old new old_address address (word_at frame place) (word_at a place) (word_at frame (place + 2))
    (word_at b (place + 2)) first second third high low old_is balance
