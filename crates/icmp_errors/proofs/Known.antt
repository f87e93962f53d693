-- What is known of a frame that is seen as an error.
use Rattle.std.proofs.Common.{◌≡◌, ◌≢◌, ℕ, ◌+◌, ◌*◌, ◌/◌, ◌<◌, ◌≤◌, Bool, true, false, not, ◌&&◌, ◌||◌, ◌==◌}
use Rattle.std.proofs.Common.{nat_le, if◌then◌else◌, List, [], ◌∷◌, ◌++◌, length, get_or, Option, Some, None, IfSome, Result, Ok}
use Rattle.std.proofs.Common.{Err, sym, arith, refl}
use Rattle.std.proofs.lemmas.Bool.{ltb-false}
use Rattle.std.proofs.lemmas.Bool.Decides.{nat_tests}
use Rattle.packet_headers.specs.declared.flow.Flow.{Flow}
use Rattle.packet_headers.specs.declared.flow.NotFlow.{NotFlow}
use Rattle.packet_headers.specs.declared.flow.NotFlow.TheVariants.{Short, NotIpv4, BadHeaderLength, Fragment}
use Rattle.packet_headers.specs.declared.flow.NotFlow.TheVariants.{OtherProtocol, BadTotalLength}
use Rattle.packet_headers.specs.Fields.{ihl, total_length, protocol, header_end}
use Rattle.packet_headers.specs.View.{is_tcp, is_udp, viewed, first_failure, header_failures, packet_failures, flow_of}
use Rattle.packet_headers.proofs.FirstFailure.{Pass}
use Rattle.icmp_errors.specs.declared.error.IcmpError.{IcmpError}
use Rattle.icmp_errors.specs.ErrorFields.{error_end, icmp_type, quoted_at, quoted_ihl, quoted_version, quoted_offset}
use Rattle.icmp_errors.specs.ErrorFields.{quoted_protocol, quoted_end}
use Rattle.icmp_errors.specs.ErrorView.{is_other_protocol, is_error_type, is_whole_error, quotes_flow, checksums_verify}
use Rattle.icmp_errors.specs.ErrorView.{is_error, error_of, viewed_error, verify, HasHeader, HasError, HasQuote, IsErrorFrame}
use Rattle.icmp_errors.proofs.Steps.{Stands}

-- ---- tests of Booleans

pub both : (a b : Bool) → (a && b) ≡ true → (a ≡ true) × (b ≡ true)
both true true e = (refl, refl)
both true false e = absurd (cc)
both false b e = absurd (cc)

pub at_most : (a b : ℕ) → nat_le a b ≡ true → a ≤ b
at_most a b test = grind (arith, nat_tests)

pub equals : (a b : ℕ) → (a == b) ≡ true → a ≡ b
equals a b test = grind (arith, nat_tests)

some_type : (number : ℕ) → is_error_type number ≡ true → 0 < number
some_type number test = grind (arith, nat_tests)

-- ---- IPv4 of another protocol

pub is_other : (seen : Result Flow NotFlow) → is_other_protocol seen ≡ true → seen ≡ Err OtherProtocol
is_other (Ok flow) e = absurd (cc)
is_other (Err Short) e = absurd (cc)
is_other (Err NotIpv4) e = absurd (cc)
is_other (Err BadHeaderLength) e = absurd (cc)
is_other (Err Fragment) e = absurd (cc)
is_other (Err OtherProtocol) e = refl
is_other (Err BadTotalLength) e = absurd (cc)

-- the tests before pass where their answers would be others
abbrev AllOther : List (Bool × NotFlow) → NotFlow → Type 0
AllOther [] answer = Unit {0}
AllOther (test ∷ later) answer = (test.1 ≢ answer) × AllOther later answer

passed_before : {A : Type 0} (tests more : List (Bool × NotFlow)) (value : A) (answer : NotFlow) → AllOther tests answer
    → first_failure (tests ++ more) value ≡ Err answer → Pass tests
passed_before [] more value answer others is = tt
passed_before ((true, said) ∷ later) more value answer others is =
    let same : said ≡ answer = cc in
    absurd (others.0 same)
passed_before ((false, said) ∷ later) more value answer others is =
    (refl, passed_before later more value answer others.1 is)

headers_other : (frame : List ℕ) → AllOther (header_failures frame) OtherProtocol
headers_other frame = (λ e. cc, (λ e. cc, (λ e. cc, (λ e. cc, (λ e. cc, (λ e. cc, tt))))))

pub headers_pass : (frame : List ℕ) (original : ℕ) → is_other_protocol (viewed frame original) ≡ true
    → Pass (header_failures frame)
headers_pass frame original other =
    passed_before (header_failures frame) (packet_failures frame original) (flow_of frame) OtherProtocol
    (headers_other frame) (is_other (viewed frame original) other)

version_byte : (byte : ℕ) → not (byte / 16 == 4) ≡ false → 64 ≤ byte
version_byte byte test = grind (arith, nat_tests)

-- so the header has its version and its length
pub version_there : (frame : List ℕ) (original : ℕ) → is_other_protocol (viewed frame original) ≡ true
    → 64 ≤ get_or frame 14 0
version_there frame original other =
    let passes = headers_pass frame original other in
    version_byte (get_or frame 14 0) passes.1.1.1.0

pub has_header : (frame : List ℕ) (original : ℕ) → is_other_protocol (viewed frame original) ≡ true → HasHeader frame
has_header frame original other =
    let passes = headers_pass frame original other in
    let five = ltb-false _ _ passes.1.1.1.1.0 in
    let ends = ltb-false _ _ passes.1.1.1.1.1.0 in
    (omega arith, ends)

-- ---- the error and what it quotes

pub has_error : (frame : List ℕ) → HasHeader frame → is_whole_error frame ≡ true → HasError frame
has_error frame header whole =
    let a = protocol frame == 1 in
    let b = nat_le (4 * ihl frame + 36) (total_length frame) in
    let c = nat_le (14 + total_length frame) (length frame) in
    let outer = both (a && b && c) (is_error_type (icmp_type frame)) whole in
    let lengths = both (a && b) c outer.0 in
    let room = both a b lengths.0 in
    let least = at_most (4 * ihl frame + 36) (total_length frame) room.1 in
    let captured = at_most (14 + total_length frame) (length frame) lengths.1 in
    (header, omega arith, captured)

type_there : (frame : List ℕ) → is_whole_error frame ≡ true → 0 < icmp_type frame
type_there frame whole =
    let a = protocol frame == 1 in
    let b = nat_le (4 * ihl frame + 36) (total_length frame) in
    let c = nat_le (14 + total_length frame) (length frame) in
    some_type (icmp_type frame) (both (a && b && c) (is_error_type (icmp_type frame)) whole).1

-- the version of the quoted header, its length, and where its packet's ports end
record QuoteTests (frame : List ℕ) : Type 0 where
  version : (quoted_version frame == 4) ≡ true
  five : 5 ≤ quoted_ihl frame
  ends : quoted_end frame + 8 ≤ error_end frame

quote_tests : (frame : List ℕ) → quotes_flow frame ≡ true → QuoteTests frame
quote_tests frame quotes =
    let a = quoted_version frame == 4 in
    let b = nat_le 5 (quoted_ihl frame) in
    let c = quoted_offset frame == 0 in
    let d = is_tcp (quoted_protocol frame) || is_udp (quoted_protocol frame) in
    let outer = both (a && b && c && d) (nat_le (quoted_end frame + 8) (error_end frame)) quotes in
    let flow = both (a && b && c) d outer.0 in
    let first = both (a && b) c flow.0 in
    let versions = both a b first.0 in
    record {
      version = versions.0;
      five = at_most 5 (quoted_ihl frame) versions.1;
      ends = at_most (quoted_end frame + 8) (error_end frame) outer.1;
    }

pub has_quote : (frame : List ℕ) → HasError frame → quotes_flow frame ≡ true → HasQuote frame
has_quote frame error quotes =
    let tests = quote_tests frame quotes in
    (error, omega (arith, tests.five), tests.ends)

quoted_version_byte : (byte : ℕ) → (byte / 16 == 4) ≡ true → 64 ≤ byte
quoted_version_byte byte test = grind (arith, nat_tests)

pub record Known (frame : List ℕ) (original : ℕ) : Type 0 where
  pub other : viewed frame original ≡ Err OtherProtocol
  pub whole : is_whole_error frame ≡ true
  pub quotes : quotes_flow frame ≡ true
  pub quote : HasQuote frame
  pub version_is_4 : 64 ≤ get_or frame 14 0
  pub type_positive : 0 < get_or frame (header_end frame) 0
  pub quoted_positive : 0 < get_or frame (quoted_at frame) 0
  pub message_verifies : verify frame (header_end frame) (error_end frame) ≡ true
  pub quoted_verifies : verify frame (quoted_at frame) (quoted_end frame) ≡ true

pub known : (frame : List ℕ) (original : ℕ) → is_error frame original ≡ true → Known frame original
known frame original test =
    let last = both (is_other_protocol (viewed frame original) && is_whole_error frame && quotes_flow frame)
    (checksums_verify frame) test in
    let third = both (is_other_protocol (viewed frame original) && is_whole_error frame) (quotes_flow frame) last.0 in
    let second = both (is_other_protocol (viewed frame original)) (is_whole_error frame) third.0 in
    let sums = both (verify frame (header_end frame) (error_end frame)) (verify frame (quoted_at frame)
    (quoted_end frame)) last.1 in
    let error = has_error frame (has_header frame original second.0) second.1 in
    record {
      other = is_other (viewed frame original) second.0;
      whole = second.1;
      quotes = third.1;
      quote = has_quote frame error third.1;
      version_is_4 = version_there frame original second.0;
      type_positive = type_there frame second.1;
      quoted_positive = positive frame third.1;
      message_verifies = sums.0;
      quoted_verifies = sums.1;
    }
  where
    positive : (frame : List ℕ) → quotes_flow frame ≡ true → 0 < get_or frame (quoted_at frame) 0
    positive frame quotes =
        let large = quoted_version_byte (get_or frame (quoted_at frame) 0) (quote_tests frame quotes).version in
        omega arith

-- where the parts stand
pub stands : (frame : List ℕ) (original : ℕ) → Known frame original → Stands (length frame) (error_of frame)
stands frame original is =
    let header = is.quote.0.0 in
    record {
      header_words = 2 * ihl frame;
      quoted_words = 4 + 2 * quoted_ihl frame;
      icmp_is = omega arith;
      behind = header.0;
      transport_is = omega arith;
      quoted_header = omega (arith, is.quote.1);
      ends = is.quote.2;
      in_frame = is.quote.0.2;
    }

-- a view that is there is of such a frame
pub seen_is : (frame : List ℕ) (original : ℕ) (error : IcmpError) → viewed_error frame original ≡ Some error
    → (is_error frame original ≡ true) × (error_of frame ≡ error)
seen_is frame original error seen = by (is_error frame original) refl seen
  where
    by : (test : Bool) → is_error frame original ≡ test → (if test then Some (error_of frame) else None) ≡ Some error
        → (is_error frame original ≡ true) × (error_of frame ≡ error)
    by true is same = (is, cc)
    by false is same = absurd (cc)

pub rewritable : (o : Option IcmpError) (frame : List ℕ) (original : ℕ) → o ≡ viewed_error frame original
    → IfSome o (λ error. IsErrorFrame frame error)
rewritable None frame original is = tt
rewritable (Some error) frame original is = (original, sym is)
