-- A whole rewriting: what it keeps, and how its frame is seen.
use Rattle.std.proofs.Common.{◌≡◌, ◌⊎◌, ℕ, ◌+◌, ◌-◌, ◌*◌, ◌%◌, ◌^◌, ◌<◌, ◌≤◌, ◌==◌, Bool, true, false, ◌&&◌, List, []}
use Rattle.std.proofs.Common.{if◌then◌else◌, length, get_or, take, drop, sum, Some, None, Err, inl, inr, ◌∙◌}
use Rattle.std.proofs.Common.{ap, arith, refl}
use Rattle.std.proofs.lemmas.List.{append-nil, get_or-take, get_or-drop}
use Rattle.std.proofs.lemmas.Bool.Decides.{nat_tests}
use Rattle.inet_checksum.specs.OnesComplement.{words, ones_sum, AreAsRight}
use Rattle.inet_checksum.proofs.AdjustedSums.{first_byte-le, are_as_right}
use Rattle.packet_headers.specs.declared.flow.NotFlow.{NotFlow}
use Rattle.packet_headers.specs.declared.flow.NotFlow.TheVariants.{OtherProtocol}
use Rattle.packet_headers.specs.Fields.{AreBytes, word_at, long_at, header_end}
use Rattle.packet_headers.specs.View.{failures, flow_of, first_failure, viewed}
use Rattle.packet_headers.proofs.FirstFailure.{first_failure_err}
use Rattle.packet_headers.proofs.Weights.{weight}
use Rattle.packet_headers.proofs.Residues.{other_side}
use Rattle.packet_headers.proofs.Laws.{long_at-lt}
use Rattle.packet_headers.proofs.Views.{ReadsAlike, same_failures}
use Rattle.icmp_errors.specs.declared.error.IcmpError.{IcmpError}
use Rattle.icmp_errors.specs.ErrorFields.{error_end, quoted_at, quoted_end}
use Rattle.icmp_errors.specs.ErrorView.{is_other_protocol, is_whole_error, quotes_flow, checksums_verify, verify}
use Rattle.icmp_errors.specs.ErrorView.{error_of, viewed_error}
use Rattle.icmp_errors.specs.ErrorRewriting.{exchanged_word, exchanged_long, icmp_checksum, with_transport_checksum}
use Rattle.icmp_errors.specs.ErrorRewriting.{with_quoted_address, KeepsErrorHeader}
use Rattle.icmp_errors.specs.ErrorRewriting.{source_place, dest_place, transport_checksum, quoted_checksum}
use Rattle.icmp_errors.proofs.Exchanges.{Beside, byte_beside}
use Rattle.icmp_errors.proofs.Steps.{Stands, Keeps, then_keeps, stands_along, outer_keeps, transport_keeps, port_keeps}
use Rattle.icmp_errors.proofs.Steps.{address_keeps, outer_apart, transport_apart, port_apart, address_weight}
use Rattle.icmp_errors.proofs.Steps.{checksum_stands}
use Rattle.icmp_errors.proofs.Bytes.{BesideLong, long_leaves, transport_leaves, message_leaves}
use Rattle.icmp_errors.proofs.Bytes.{word_same, long_same, long_there, address_there, port_there}
use Rattle.icmp_errors.proofs.Known.{Known, stands}

-- what is written, and where
pub record Task : Type 0 where
  pub outer : ℕ
  pub quoted : ℕ
  pub port_place : ℕ
  pub address : ℕ
  pub port : ℕ

abbrev pub source_task : IcmpError → ℕ → ℕ → Task
source_task error address port = record {
  outer = 30;
  quoted = source_place error;
  port_place = error.transport_at;
  address = address;
  port = port;
}

abbrev pub dest_task : IcmpError → ℕ → ℕ → Task
dest_task error address port = record {
  outer = 26;
  quoted = dest_place error;
  port_place = error.transport_at + 2;
  address = address;
  port = port;
}

pub record Targets (error : IcmpError) (w : Task) : Type 0 where
  pub outer_words : ℕ
  pub quoted_words : ℕ
  pub port_words : ℕ
  pub outer_is : w.outer ≡ 14 + 2 * outer_words
  pub outer_from : 6 ≤ outer_words
  pub outer_to : outer_words ≤ 8
  pub quoted_is : w.quoted ≡ error.icmp_at + 8 + 2 * quoted_words
  pub quoted_from : 6 ≤ quoted_words
  pub quoted_to : quoted_words ≤ 8
  pub port_is : w.port_place ≡ error.transport_at + 2 * port_words
  pub port_to : port_words ≤ 1
  pub small : w.address < 2 ^ 32
  pub narrow : w.port < 2 ^ 16

pub source_targets : (error : IcmpError) (address port : ℕ) → address < 2 ^ 32 → port < 2 ^ 16
    → Targets error (source_task error address port)
source_targets error address port small narrow = record {
  outer_words = 8;
  quoted_words = 6;
  port_words = 0;
  outer_is = refl;
  outer_from = omega arith;
  outer_to = omega arith;
  quoted_is = refl;
  quoted_from = omega arith;
  quoted_to = omega arith;
  port_is = omega arith;
  port_to = omega arith;
  small = small;
  narrow = narrow;
}

pub dest_targets : (error : IcmpError) (address port : ℕ) → address < 2 ^ 32 → port < 2 ^ 16
    → Targets error (dest_task error address port)
dest_targets error address port small narrow = record {
  outer_words = 6;
  quoted_words = 8;
  port_words = 1;
  outer_is = refl;
  outer_from = omega arith;
  outer_to = omega arith;
  quoted_is = refl;
  quoted_from = omega arith;
  quoted_to = omega arith;
  port_is = refl;
  port_to = omega arith;
  small = small;
  narrow = narrow;
}

-- the frame after each step
abbrev with_outer : List ℕ → Task → List ℕ
with_outer frame w = exchanged_long frame 24 w.outer w.address

abbrev with_sum : List ℕ → IcmpError → Task → List ℕ
with_sum frame error w =
    with_transport_checksum (with_outer frame w) error (long_at frame w.quoted) w.address w.port_place w.port

abbrev with_port : List ℕ → IcmpError → Task → List ℕ
with_port frame error w = exchanged_word (with_sum frame error w) (icmp_checksum error) w.port_place w.port

abbrev pub done : List ℕ → IcmpError → Task → List ℕ
done frame error w = with_quoted_address (with_port frame error w) error w.quoted (long_at frame w.quoted) w.address

record StepsKeep (frame : List ℕ) (error : IcmpError) (w : Task) : Type 0 where
  outer : Keeps frame (with_outer frame w) error
  sum_there : Keeps frame (with_sum frame error w) error
  port_there : Keeps frame (with_port frame error w) error
  all : Keeps frame (done frame error w) error

steps_keep : (frame : List ℕ) (error : IcmpError) (w : Task) → Stands (length frame) error → AreBytes frame
    → Targets error w → StepsKeep frame error w
steps_keep frame error w parts bytes places =
    let old_address = long_at frame w.quoted in
    let f2 = with_outer frame w in
    let f3 = with_sum frame error w in
    let f4 = with_port frame error w in
    let outer : Keeps frame f2 error =
    outer_keeps frame error places.outer_words w.outer w.address parts bytes places.outer_is places.outer_from
    places.outer_to places.small in
    let in_2 = stands_along (length frame) (length f2) error outer.same_length parts in
    let second : Keeps f2 f3 error =
    transport_keeps f2 error old_address w.address w.port_place w.port in_2 outer.bytes in
    let sums = then_keeps frame f2 f3 error outer second in
    let in_3 = stands_along (length frame) (length f3) error sums.same_length parts in
    let third : Keeps f3 f4 error =
    port_keeps f3 error places.port_words w.port_place w.port in_3 sums.bytes places.port_is places.port_to
    places.narrow in
    let ports = then_keeps frame f3 f4 error sums third in
    let in_4 = stands_along (length frame) (length f4) error ports.same_length parts in
    let fourth : Keeps f4 (done frame error w) error =
    address_keeps f4 error (4 + places.quoted_words) w.quoted old_address w.address in_4 ports.bytes
    (omega (arith, places.quoted_is)) (omega (arith, places.quoted_from)) (omega (arith, places.quoted_to))
    places.small in
    record {
      outer = outer;
      sum_there = sums;
      port_there = ports;
      all = then_keeps frame f4 (done frame error w) error ports fourth;
    }

pub keeps_all : (frame : List ℕ) (error : IcmpError) (w : Task) → Stands (length frame) error → AreBytes frame
    → Targets error w → Keeps frame (done frame error w) error
keeps_all frame error w parts bytes places = (steps_keep frame error w parts bytes places).all

-- ---- the quoted header

-- its address is read as it was until it is written
old_there : (frame : List ℕ) (error : IcmpError) (w : Task) → Stands (length frame) error → Targets error w
    → long_at (with_port frame error w) w.quoted ≡ long_at frame w.quoted
old_there frame error w parts places =
    long_same (with_port frame error w) frame w.quoted (λ k from to.
    byte_beside (with_sum frame error w) (icmp_checksum error) w.port_place w.port k (inr (omega arith))
    (inl (omega arith))
    ∙ transport_leaves (with_outer frame w) error (long_at frame w.quoted) w.address w.port_place w.port k
    (inr (omega arith))
    (λ has. let at = checksum_stands (length frame) error parts in inl (omega (arith, at.behind_ports)))
    ∙ long_leaves frame 24 w.outer w.address k (inr (omega arith)) (inr (omega arith)))

quoted_weight : (frame : List ℕ) (error : IcmpError) (w : Task) → Stands (length frame) error → AreBytes frame
    → Targets error w
    → weight (done frame error w) (error.icmp_at + 8) error.transport_at [] % 65535
    ≡ weight frame (error.icmp_at + 8) error.transport_at [] % 65535
quoted_weight frame error w parts bytes places =
    let steps = steps_keep frame error w parts bytes places in
    let f2 = with_outer frame w in
    let f3 = with_sum frame error w in
    let f4 = with_port frame error w in
    let in_2 = stands_along (length frame) (length f2) error steps.outer.same_length parts in
    let in_3 = stands_along (length frame) (length f3) error steps.sum_there.same_length parts in
    let in_4 = stands_along (length frame) (length f4) error steps.port_there.same_length parts in
    let last = address_weight f4 error places.quoted_words w.quoted (long_at frame w.quoted) w.address in_4
    steps.port_there.bytes places.quoted_is places.quoted_from places.quoted_to
    (old_there frame error w parts places) (long_at-lt frame w.quoted bytes) in
    let earlier =
    port_apart f3 error w.port_place w.port in_3 (omega (arith, places.port_is))
    ∙ transport_apart f2 error (long_at frame w.quoted) w.address w.port_place w.port in_2
    ∙ outer_apart frame error w.outer w.address parts (omega arith) in
    last ∙ ap (λ (total : ℕ). total % 65535) earlier

-- ---- pieces that verify

piece_positive : (frame : List ℕ) (from to : ℕ) → from < to → to ≤ length frame → 0 < get_or frame from 0
    → 0 < sum (words (take (to - from) (drop from frame)))
piece_positive frame from to order inside positive =
    let here : from + 0 ≡ from = omega arith in
    let first : get_or (take (to - from) (drop from frame)) 0 0 ≡ get_or frame from 0 =
    get_or-take (to - from) (drop from frame) 0 0 (omega arith)
    ∙ get_or-drop from frame 0 0
    ∙ ap (λ (k : ℕ). get_or frame k 0) here in
    omega (arith, first_byte-le (take (to - from) (drop from frame)))

as_right : (new old : List ℕ) (from to : ℕ) → from < to → to ≤ length old → length new ≡ length old
    → 0 < get_or old from 0 → get_or new from 0 ≡ get_or old from 0
    → weight new from to [] % 65535 ≡ weight old from to [] % 65535
    → AreAsRight (words (take (to - from) (drop from old))) (words (take (to - from) (drop from new)))
as_right new old from to order inside same positive first kept =
    let old_positive = piece_positive old from to order inside positive in
    let new_positive = piece_positive new from to order (omega arith) (omega arith) in
    are_as_right _ _ old_positive new_positive (simp append-nil at kept)

equals : (a b : ℕ) → (a == b) ≡ true → a ≡ b
equals a b test = grind (arith, nat_tests)

is_equal : (a b : ℕ) → a ≡ b → (a == b) ≡ true
is_equal a b same = grind (arith, nat_tests)

verify_again : (new old : List ℕ) (from to : ℕ) → from < to → to ≤ length old → length new ≡ length old
    → 0 < get_or old from 0 → get_or new from 0 ≡ get_or old from 0
    → weight new from to [] % 65535 ≡ weight old from to [] % 65535 → verify old from to ≡ true
    → verify new from to ≡ true
verify_again new old from to order inside same positive first kept test =
    let right = as_right new old from to order inside same positive first kept in
    is_equal (ones_sum (words (take (to - from) (drop from new)))) 65535
    (right.same_verdict.1 (equals (ones_sum (words (take (to - from) (drop from old)))) 65535 test))

-- ---- bytes that stay

record Apart (error : IcmpError) (w : Task) (k : ℕ) : Type 0 where
  header : (k < 24) ⊎ (26 ≤ k)
  outer : BesideLong k w.outer
  icmp : Beside k (icmp_checksum error)
  quoted : Beside k (quoted_checksum error)
  address : BesideLong k w.quoted
  port : Beside k w.port_place
  transport : k < transport_checksum error

stays : (frame : List ℕ) (error : IcmpError) (w : Task) (k : ℕ) → Apart error w k
    → get_or (done frame error w) k 0 ≡ get_or frame k 0
stays frame error w k apart =
    message_leaves (with_outer frame w) error w.quoted w.port_place (long_at frame w.quoted) w.address w.port k
    (record {
      icmp = apart.icmp;
      header = apart.quoted;
      address = apart.address;
      port = apart.port;
      transport = λ has. inl apart.transport;
    })
    ∙ long_leaves frame 24 w.outer w.address k apart.header apart.outer

-- before the checksum of the error's own header, its type and code, and the rest up to the quoted checksum
early : (frame : List ℕ) (error : IcmpError) (w : Task) (k : ℕ) → Stands (length frame) error → Targets error w → k < 24
    → get_or (done frame error w) k 0 ≡ get_or frame k 0
early frame error w k parts places before =
    let at = checksum_stands (length frame) error parts in
    stays frame error w k (record {
      header = inl before;
      outer = inl (omega arith);
      icmp = inl (omega arith);
      quoted = inl (omega arith);
      address = inl (omega arith);
      port = inl (omega arith);
      transport = omega (arith, at.behind_ports);
    })

in_message : (frame : List ℕ) (error : IcmpError) (w : Task) (k : ℕ) → Stands (length frame) error → Targets error w
    → error.icmp_at ≤ k → Beside k (icmp_checksum error) → k < error.icmp_at + 18
    → get_or (done frame error w) k 0 ≡ get_or frame k 0
in_message frame error w k parts places from beside to =
    let at = checksum_stands (length frame) error parts in
    stays frame error w k (record {
      header = inr (omega arith);
      outer = inr (omega arith);
      icmp = beside;
      quoted = inl (omega arith);
      address = inl (omega arith);
      port = inl (omega arith);
      transport = omega (arith, at.behind_ports);
    })

-- the error's own header
pub keeps_header : (frame : List ℕ) (original : ℕ) (w : Task) → Known frame original → AreBytes frame
    → Targets (error_of frame) w → KeepsErrorHeader frame (done frame (error_of frame) w) (error_of frame)
keeps_header frame original w is bytes places =
    let error = error_of frame in
    let parts = stands frame original is in
    let kept = keeps_all frame error w parts bytes places in
    let first = early frame error w 14 parts places (omega arith) in
    as_right (done frame error w) frame 14 (header_end frame) (omega (arith, parts.behind)) is.quote.0.0.1
    kept.same_length (omega (arith, is.version_is_4)) first kept.header

-- ---- fields that are written, and those beside them

pub outer_there : (frame : List ℕ) (error : IcmpError) (w : Task) → Stands (length frame) error → Targets error w
    → long_at (done frame error w) w.outer ≡ w.address
outer_there frame error w parts places =
    let at = checksum_stands (length frame) error parts in
    long_same (done frame error w) (with_outer frame w) w.outer (λ k from to.
    message_leaves (with_outer frame w) error w.quoted w.port_place (long_at frame w.quoted) w.address w.port k
    (record {
      icmp = inl (omega arith);
      header = inl (omega arith);
      address = inl (omega arith);
      port = inl (omega arith);
      transport = λ has. inl (omega (arith, at.behind_ports));
    }))
    ∙ long_there frame 24 w.outer w.address (omega arith) (omega arith)

pub outer_other : (frame : List ℕ) (error : IcmpError) (w : Task) (place : ℕ) → Stands (length frame) error
    → Targets error w → 26 ≤ place → place + 4 ≤ 34 → (place + 4 ≤ w.outer) ⊎ (w.outer + 4 ≤ place)
    → long_at (done frame error w) place ≡ long_at frame place
outer_other frame error w place parts places from to apart =
    let at = checksum_stands (length frame) error parts in
    long_same (done frame error w) frame place (λ k low high. stays frame error w k (record {
      header = inr (omega arith);
      outer = other_side apart (λ h. omega arith) (λ h. omega arith);
      icmp = inl (omega arith);
      quoted = inl (omega arith);
      address = inl (omega arith);
      port = inl (omega arith);
      transport = omega (arith, at.behind_ports);
    }))

pub quoted_there : (frame : List ℕ) (error : IcmpError) (w : Task) → Stands (length frame) error → AreBytes frame
    → Targets error w → long_at (done frame error w) w.quoted ≡ w.address
quoted_there frame error w parts bytes places =
    let steps = steps_keep frame error w parts bytes places in
    address_there (with_port frame error w) error w.quoted (long_at frame w.quoted) w.address (omega arith)
    (omega (arith, steps.port_there.same_length))

pub quoted_other : (frame : List ℕ) (error : IcmpError) (w : Task) (place : ℕ) → Stands (length frame) error
    → Targets error w → error.icmp_at + 20 ≤ place → place + 4 ≤ error.icmp_at + 28
    → (place + 4 ≤ w.quoted) ⊎ (w.quoted + 4 ≤ place) → long_at (done frame error w) place ≡ long_at frame place
quoted_other frame error w place parts places from to apart =
    let at = checksum_stands (length frame) error parts in
    long_same (done frame error w) frame place (λ k low high. stays frame error w k (record {
      header = inr (omega arith);
      outer = inr (omega arith);
      icmp = inr (omega arith);
      quoted = inr (omega arith);
      address = other_side apart (λ h. omega arith) (λ h. omega arith);
      port = inl (omega arith);
      transport = omega (arith, at.behind_ports);
    }))

pub ports_there : (frame : List ℕ) (error : IcmpError) (w : Task) → Stands (length frame) error → AreBytes frame
    → Targets error w → word_at (done frame error w) w.port_place ≡ w.port
ports_there frame error w parts bytes places =
    let steps = steps_keep frame error w parts bytes places in
    port_there (with_sum frame error w) error w.quoted w.port_place (long_at frame w.quoted) w.address w.port
    (omega arith) (omega arith) (omega (arith, steps.sum_there.same_length))

pub ports_other : (frame : List ℕ) (error : IcmpError) (w : Task) (place : ℕ) → Stands (length frame) error
    → Targets error w → error.transport_at ≤ place → place + 2 ≤ error.transport_at + 4
    → (place + 2 ≤ w.port_place) ⊎ (w.port_place + 2 ≤ place)
    → word_at (done frame error w) place ≡ word_at frame place
ports_other frame error w place parts places from to apart =
    let at = checksum_stands (length frame) error parts in
    let kept : (k : ℕ) → place ≤ k → k < place + 2 → get_or (done frame error w) k 0 ≡ get_or frame k 0 =
    λ k low high. stays frame error w k (record {
      header = inr (omega arith);
      outer = inr (omega arith);
      icmp = inr (omega arith);
      quoted = inr (omega arith);
      address = inr (omega arith);
      port = other_side apart (λ h. omega arith) (λ h. omega arith);
      transport = omega (arith, at.behind_ports);
    }) in
    word_same (done frame error w) frame place (kept place (omega arith) (omega arith))
    (kept (place + 1) (omega arith) (omega arith))

-- ---- how the frame is seen

reads_alike : (frame : List ℕ) (original : ℕ) (w : Task) → Known frame original → AreBytes frame
    → Targets (error_of frame) w → ReadsAlike (done frame (error_of frame) w) frame
reads_alike frame original w is bytes places =
    let error = error_of frame in
    let parts = stands frame original is in
    let kept = keeps_all frame error w parts bytes places in
    record {
      lengths = kept.same_length;
      early = λ k before. early frame error w k parts places before;
      late = λ k from to. in_message frame error w k parts places (omega arith) (inr (omega arith)) (omega arith);
    }

-- frames that read alike, and have one type and one quoted protocol
record QuotesAlike (new old : List ℕ) : Type 0 where
  alike : ReadsAlike new old
  type_byte : get_or new (header_end old) 0 ≡ get_or old (header_end old) 0
  protocol_byte : get_or new (header_end old + 8 + 9) 0 ≡ get_or old (header_end old + 8 + 9) 0

same_end : (new old : List ℕ) → QuotesAlike new old → header_end new ≡ header_end old
same_end new old quotes = let b14 = quotes.alike.early 14 (omega arith) in cc

same_stop : (new old : List ℕ) → QuotesAlike new old → error_end new ≡ error_end old
same_stop new old quotes =
    let b16 = quotes.alike.early 16 (omega arith) in
    let b17 = quotes.alike.early 17 (omega arith) in
    cc

same_quoted_end : (new old : List ℕ) → QuotesAlike new old → quoted_end new ≡ quoted_end old
same_quoted_end new old quotes =
    let ends = same_end new old quotes in
    let first = quotes.alike.late (header_end old + 8) (omega arith) (omega arith) in
    cc

same_whole : (new old : List ℕ) → QuotesAlike new old → is_whole_error new ≡ is_whole_error old
same_whole new old quotes =
    let lengths = quotes.alike.lengths in
    let b14 = quotes.alike.early 14 (omega arith) in
    let b16 = quotes.alike.early 16 (omega arith) in
    let b17 = quotes.alike.early 17 (omega arith) in
    let b23 = quotes.alike.early 23 (omega arith) in
    let ends = same_end new old quotes in
    let type_byte = quotes.type_byte in
    cc

same_quotes : (new old : List ℕ) → QuotesAlike new old → quotes_flow new ≡ quotes_flow old
same_quotes new old quotes =
    let ends = same_end new old quotes in
    let b16 = quotes.alike.early 16 (omega arith) in
    let b17 = quotes.alike.early 17 (omega arith) in
    let first = quotes.alike.late (header_end old + 8) (omega arith) (omega arith) in
    let high = quotes.alike.late (header_end old + 8 + 6) (omega arith) (omega arith) in
    let low = quotes.alike.late (header_end old + 8 + 6 + 1) (omega arith) (omega arith) in
    let number = quotes.protocol_byte in
    cc

same_other : (new old : List ℕ) (original : ℕ) → QuotesAlike new old → viewed old original ≡ Err OtherProtocol
    → viewed new original ≡ Err OtherProtocol
same_other new old original quotes other =
    ap (λ (tests : List (Bool × NotFlow)). first_failure tests (flow_of new))
    (same_failures new old original quotes.alike)
    ∙ first_failure_err (failures old original) (flow_of old) (flow_of new) OtherProtocol other

-- the fields that an error is seen by
pub record Fields (new old : List ℕ) (error : IcmpError) : Type 0 where
  pub source : long_at new 26 ≡ error.source
  pub dest : long_at new 30 ≡ error.dest
  pub protocol : (error_of old).protocol ≡ error.protocol
  pub quoted_source : long_at new (header_end old + 8 + 12) ≡ error.quoted_source
  pub quoted_source_port : word_at new (quoted_end old) ≡ error.quoted_source_port
  pub quoted_dest : long_at new (header_end old + 8 + 16) ≡ error.quoted_dest
  pub quoted_dest_port : word_at new (quoted_end old + 2) ≡ error.quoted_dest_port
  pub icmp_at : header_end old ≡ error.icmp_at
  pub transport_at : quoted_end old ≡ error.transport_at
  pub end : error_end old ≡ error.end

seen_fields : (new old : List ℕ) (error : IcmpError) → QuotesAlike new old → Fields new old error
    → error_of new ≡ error
seen_fields new old error quotes fields =
    let ends = same_end new old quotes in
    let quoted = same_quoted_end new old quotes in
    let stop = same_stop new old quotes ∙ fields.end in
    let number : (error_of new).protocol ≡ error.protocol =
    ap (λ (k : ℕ). get_or new (k + 8 + 9) 0) ends ∙ quotes.protocol_byte ∙ fields.protocol in
    let from = ap (λ (k : ℕ). long_at new (k + 8 + 12)) ends ∙ fields.quoted_source in
    let from_port = ap (λ (k : ℕ). word_at new k) quoted ∙ fields.quoted_source_port in
    let to = ap (λ (k : ℕ). long_at new (k + 8 + 16)) ends ∙ fields.quoted_dest in
    let to_port = ap (λ (k : ℕ). word_at new (k + 2)) quoted ∙ fields.quoted_dest_port in
    let at = ends ∙ fields.icmp_at in
    let transport = quoted ∙ fields.transport_at in
    λ i. record {
      source = fields.source i;
      dest = fields.dest i;
      protocol = number i;
      quoted_source = from i;
      quoted_source_port = from_port i;
      quoted_dest = to i;
      quoted_dest_port = to_port i;
      icmp_at = at i;
      transport_at = transport i;
      end = stop i;
    }

quotes_alike : (frame : List ℕ) (original : ℕ) (w : Task) → Known frame original → AreBytes frame
    → Targets (error_of frame) w → QuotesAlike (done frame (error_of frame) w) frame
quotes_alike frame original w is bytes places =
    let error = error_of frame in
    let parts = stands frame original is in
    record {
      alike = reads_alike frame original w is bytes places;
      type_byte = in_message frame error w (header_end frame) parts places (omega arith) (inl (omega arith))
          (omega arith);
      protocol_byte = in_message frame error w (header_end frame + 8 + 9) parts places (omega arith)
          (inr (omega arith)) (omega arith);
    }

four : (a b c d : Bool) → a ≡ true → b ≡ true → c ≡ true → d ≡ true → (a && b && c && d) ≡ true
four true true true true p q r s = refl
four true true true false p q r s = absurd (cc)
four true true false d p q r s = absurd (cc)
four true false c d p q r s = absurd (cc)
four false b c d p q r s = absurd (cc)

two : (a b : Bool) → a ≡ true → b ≡ true → (a && b) ≡ true
two true true p q = refl
two true false p q = absurd (cc)
two false b p q = absurd (cc)

pub seen_again : (frame : List ℕ) (original : ℕ) (w : Task) (error : IcmpError) → Known frame original → AreBytes frame
    → Targets (error_of frame) w → Fields (done frame (error_of frame) w) frame error
    → viewed_error (done frame (error_of frame) w) original ≡ Some error
seen_again frame original w error is bytes places fields =
    let new = done frame (error_of frame) w in
    let quotes = quotes_alike frame original w is bytes places in
    let parts = stands frame original is in
    let kept = keeps_all frame (error_of frame) w parts bytes places in
    let ends = same_end new frame quotes in
    let stop = same_stop new frame quotes in
    let quoted = same_quoted_end new frame quotes in
    let first = quotes.alike.late (header_end frame + 8) (omega arith) (omega arith) in
    let message = verify_again new frame (header_end frame) (error_end frame) (omega (arith, is.quote.0.1))
    is.quote.0.2 kept.same_length is.type_positive quotes.type_byte kept.message is.message_verifies in
    let header = verify_again new frame (header_end frame + 8) (quoted_end frame) (omega (arith, is.quote.1))
    (omega (arith, is.quote.2, is.quote.0.2)) kept.same_length is.quoted_positive first
    (quoted_weight frame (error_of frame) w parts bytes places) is.quoted_verifies in
    let message_there =
    ap (λ (k : ℕ). verify new k (error_end new)) ends ∙ ap (λ (k : ℕ). verify new (header_end frame) k) stop
    ∙ message in
    let header_there =
    ap (λ (k : ℕ). verify new (k + 8) (quoted_end new)) ends
    ∙ ap (λ (k : ℕ). verify new (header_end frame + 8) k) quoted
    ∙ header in
    let other = ap is_other_protocol (same_other new frame original quotes is.other) in
    let test = four (is_other_protocol (viewed new original)) (is_whole_error new) (quotes_flow new)
    (checksums_verify new) other (same_whole new frame quotes ∙ is.whole) (same_quotes new frame quotes ∙ is.quotes)
    (two (verify new (header_end new) (error_end new)) (verify new (quoted_at new) (quoted_end new)) message_there
    header_there) in
    ap (λ (b : Bool). if b then Some (error_of new) else None) test ∙ ap Some (seen_fields new frame error quotes fields)
