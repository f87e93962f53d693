-- What rewriting keeps: the residues that the two checksums tell.
use Rattle.std.proofs.Common.{◌≡◌, ◌≢◌, ℕ, ◌+◌, ◌-◌, ◌*◌, ◌/◌, ◌%◌, ◌^◌, ◌<◌, ◌≤◌, not, ◌&&◌, ◌==◌, false}
use Rattle.std.proofs.Common.{if◌then◌else◌, List, [], ◌++◌, length, get_or, take, drop, sum, ◌∙◌, inl, inr, subst}
use Rattle.std.proofs.Common.{arith, refl}
use Rattle.std.proofs.lemmas.List.{append-nil, length-append, length-take, length-drop, get_or-take, get_or-drop}
use Rattle.std.proofs.lemmas.List.Sums.{sum_by_from}
use Rattle.std.proofs.lemmas.Bool.{ltb-false}
use Rattle.std.proofs.lemmas.Bool.Decides.{nat_tests}
use Rattle.inet_checksum.specs.OnesComplement.{words, AreAsRight, adjusted_16, adjusted_32}
use Rattle.inet_checksum.proofs.AdjustedSums.{first_byte-le, are_as_right, adjusted_16-residue, adjusted_32-le}
use Rattle.inet_checksum.proofs.AdjustedSums.{adjusted_32-residue}
use Rattle.packet_headers.specs.declared.flow.Flow.{Flow}
use Rattle.packet_headers.specs.Fields.{AreBytes, word_at, long_at, protocol, header_end}
use Rattle.packet_headers.specs.View.{is_tcp, is_udp, least_header, failures, flow_of, viewed}
use Rattle.packet_headers.specs.Rewriting.{CanRewrite, checksum_place, written_checksum, adjusted_checksum, rewritten}
use Rattle.packet_headers.specs.Rewriting.{covered_words, KeepsHeader, KeepsTransport}
use Rattle.packet_headers.proofs.FirstFailure.{ok_and, pass_from_ok}
use Rattle.packet_headers.proofs.Weights.{weight}
use Rattle.packet_headers.proofs.Residues.{Write, written, Layout, length-written, header_weight, transport_weight}
use Rattle.packet_headers.proofs.Residues.{address_there, other_address, early_byte}

-- ---- a frame that can be rewritten

pub record IsFlowFrame (frame : List ℕ) (flow : Flow) : Type 0 where
  pub at : flow.transport_at ≡ header_end frame
  pub number : flow.protocol ≡ protocol frame
  pub version_is_4 : 64 ≤ get_or frame 14 0
  pub has_ports : 0 < flow.protocol
  pub behind : 34 ≤ flow.transport_at
  pub in_frame : flow.transport_at + least_header flow.protocol ≤ length frame

abbrev pub SameTransport : Flow → Flow → Type 0
SameTransport flow seen = (seen.protocol ≡ flow.protocol) × (seen.transport_at ≡ flow.transport_at)

version_byte : (byte : ℕ) → not (byte / 16 == 4) ≡ false → 64 ≤ byte
version_byte byte test = grind (arith, nat_tests)

known_protocol : (number : ℕ) → not (is_tcp number) && not (is_udp number) ≡ false → 0 < number
known_protocol number test = grind (arith, nat_tests)

pub flow_frame : (frame : List ℕ) (flow : Flow) → CanRewrite frame flow → IsFlowFrame frame flow
flow_frame frame flow can =
    let seen = ok_and (viewed frame can.0) (SameTransport flow) can.1 in
    let passes = pass_from_ok (failures frame can.0) (flow_of frame) seen.0 seen.1 in
    let at : flow.transport_at ≡ header_end frame = cc in
    let number : flow.protocol ≡ protocol frame = cc in
    let version_is_4 = version_byte _ passes.0.1.1.1.0 in
    let has_ports = known_protocol _ passes.0.1.1.1.1.1.1.1.0 in
    let header_long = ltb-false _ _ passes.0.1.1.1.1.0 in
    let frame_long = ltb-false _ _ passes.0.1.1.1.1.1.1.1.1.1.0 in
    record {
      at = at;
      number = number;
      version_is_4 = version_is_4;
      has_ports = rw number has_ports;
      behind = omega arith;
      in_frame = rw (at, number) frame_long;
    }

-- what is written into it
abbrev pub write_of : List ℕ → Flow → ℕ → ℕ → ℕ → ℕ → Write
write_of frame flow address_place port_place address port = record {
  header = adjusted_32 (word_at frame 24) (long_at frame address_place) address;
  transport = adjusted_checksum flow.protocol (word_at frame (checksum_place flow)) (long_at frame address_place)
      address (word_at frame port_place) port;
  address = address;
  port = port;
  checksum_place = checksum_place flow;
  address_place = address_place;
  port_place = port_place;
}

-- where the source or the destination is rewritten: n words into the header, and p words into the transport
layout_of : (frame : List ℕ) (flow : Flow) (address_place port_place n p address port : ℕ) → IsFlowFrame frame flow
    → address_place ≡ 14 + 2 * n → 6 ≤ n → n ≤ 8 → port_place ≡ flow.transport_at + 2 * p → p ≤ 1
    → Layout frame flow.transport_at (least_header flow.protocol)
    (write_of frame flow address_place port_place address port)
layout_of frame flow address_place port_place n p address port known address_is from to port_is small = record {
  address_words = n;
  checksum_words = if is_tcp flow.protocol then 8 else 3;
  port_words = p;
  behind = known.behind;
  in_frame = known.in_frame;
  address_is = address_is;
  address_from = from;
  address_to = to;
  checksum_is = grind (arith, nat_tests);
  checksum_in = grind (arith, nat_tests);
  port_is = port_is;
  port_before = grind (arith, nat_tests);
}

pub source_layout : (frame : List ℕ) (flow : Flow) (address port : ℕ) → IsFlowFrame frame flow
    → Layout frame flow.transport_at (least_header flow.protocol)
    (write_of frame flow 26 flow.transport_at address port)
source_layout frame flow address port known = layout_of frame flow 26 flow.transport_at 6 0 address port known refl
    (omega arith) (omega arith) (omega arith) (omega arith)

pub dest_layout : (frame : List ℕ) (flow : Flow) (address port : ℕ) → IsFlowFrame frame flow
    → Layout frame flow.transport_at (least_header flow.protocol)
    (write_of frame flow 30 (flow.transport_at + 2) address port)
dest_layout frame flow address port known = layout_of frame flow 30 (flow.transport_at + 2) 8 1 address port known refl
    (omega arith) (omega arith) (omega arith) (omega arith)

-- ---- the header

pub word_at-le : (frame : List ℕ) (place : ℕ) → AreBytes frame → word_at frame place ≤ 65535
word_at-le frame place bytes =
    let high = bytes place in
    let low = bytes (place + 1) in
    omega arith

pub long_at-lt : (frame : List ℕ) (place : ℕ) → AreBytes frame → long_at frame place < 2 ^ 32
long_at-lt frame place bytes =
    let high = word_at-le frame place bytes in
    let low = word_at-le frame (place + 2) bytes in
    omega arith

header_positive : (frame : List ℕ) (at : ℕ) → 34 ≤ at → at ≤ length frame → 64 ≤ get_or frame 14 0
    → 0 < sum (words (take (at - 14) (drop 14 frame)))
header_positive frame at behind in_frame version_is_4 =
    let first = get_or-take (at - 14) (drop 14 frame) 0 0 (omega arith) ∙ get_or-drop 14 frame 0 0 in
    omega (arith, first_byte-le (take (at - 14) (drop 14 frame)))

keeps_header : (frame : List ℕ) (flow : Flow) (address_place port_place address port : ℕ) → AreBytes frame
    → IsFlowFrame frame flow
    → Layout frame flow.transport_at (least_header flow.protocol)
    (write_of frame flow address_place port_place address port)
    → KeepsHeader frame (rewritten frame flow address_place port_place address port) flow
keeps_header frame flow address_place port_place address port bytes known layout =
    let w = write_of frame flow address_place port_place address port in
    let at = flow.transport_at in
    let least = least_header flow.protocol in
    let in_frame : at ≤ length frame = omega arith in
    let weighs = header_weight frame at least w layout in
    let balance = adjusted_32-residue (word_at frame 24) (long_at frame address_place) address
    (word_at-le frame 24 bytes) (long_at-lt frame address_place bytes) in
    let kept : weight (written frame w) 14 at [] % 65535 ≡ weight frame 14 at [] % 65535 = omega arith in
    let old_positive = header_positive frame at known.behind in_frame known.version_is_4 in
    let new_positive = header_positive (written frame w) at known.behind (rw length-written in_frame)
    (rw (early_byte frame at least w 14 layout (omega arith)) known.version_is_4) in
    are_as_right _ _ old_positive new_positive (simp append-nil at kept)

-- ---- the transport and its pseudo-header

abbrev addresses : List ℕ → ℕ
addresses frame = word_at frame 26 + word_at frame 28 + word_at frame 30 + word_at frame 32

covered_sum : (frame transport : List ℕ)
    → sum (covered_words frame transport) ≡ addresses frame + protocol frame + length transport + sum (words transport)
covered_sum frame transport =
    sum_by_from (λ x. x)
    (0 + word_at frame 26 + word_at frame 28 + word_at frame 30 + word_at frame 32 + protocol frame + length transport)
    (words transport)
    ∙ omega arith

length_piece : (new old more : List ℕ) (from to : ℕ) → length new ≡ length old
    → length (take (to - from) (drop from new) ++ more) ≡ length (take (to - from) (drop from old) ++ more)
length_piece new old more from to same = simp (length-append, length-take, length-drop) (omega arith)

written_checksum-mod : (number old adjusted : ℕ) → (is_tcp number ≡ false → old ≢ 0)
    → written_checksum number old adjusted % 65535 ≡ adjusted % 65535
written_checksum-mod number old adjusted has_checksum = grind (arith, nat_tests)

-- two addresses of which one changed, in 32 bits as in words
record OneChanged (new old : List ℕ) (was is : ℕ) : Type 0 where
  balance : long_at new 26 + long_at new 30 + was ≡ long_at old 26 + long_at old 30 + is

source_changed : (new old : List ℕ) (address : ℕ) → long_at new 26 ≡ address → long_at new 30 ≡ long_at old 30
    → OneChanged new old (long_at old 26) address
source_changed new old address there other = record { balance = omega arith }

dest_changed : (new old : List ℕ) (address : ℕ) → long_at new 30 ≡ address → long_at new 26 ≡ long_at old 26
    → OneChanged new old (long_at old 30) address
dest_changed new old address there other = record { balance = omega arith }

-- what came and what went balance
balances : (addresses_new addresses_old weight_new weight_old checksum was is old_port port transport first second : ℕ)
    → (addresses_new + was) % 65535 ≡ (addresses_old + is) % 65535
    → weight_new + (checksum + old_port) ≡ weight_old + (transport + port)
    → (first + is) % 65535 ≡ (checksum + was) % 65535
    → (second + port) % 65535 ≡ (first + old_port) % 65535
    → transport % 65535 ≡ second % 65535
    → (addresses_new + weight_new) % 65535 ≡ (addresses_old + weight_old) % 65535
balances addresses_new addresses_old weight_new weight_old checksum was is old_port port transport first second a b c
    d e = omega arith

as_right_with : (addresses_new addresses_old protocol_new protocol_old length_new length_old weight_new weight_old : ℕ)
    (new old : List ℕ) → sum new ≡ addresses_new + protocol_new + length_new + weight_new
    → sum old ≡ addresses_old + protocol_old + length_old + weight_old → protocol_new ≡ protocol_old
    → length_new ≡ length_old → 0 < protocol_old
    → (addresses_new + weight_new) % 65535 ≡ (addresses_old + weight_old) % 65535 → AreAsRight old new
as_right_with addresses_new addresses_old protocol_new protocol_old length_new length_old weight_new weight_old new old
    a b c d e f =
    are_as_right old new (omega arith) (omega arith) (omega arith)

addresses-mod : (new old : List ℕ) (was is : ℕ) → OneChanged new old was is
    → (addresses new + was) % 65535 ≡ (addresses old + is) % 65535
addresses-mod new old was is changed = let balance = changed.balance in omega arith

keeps_transport : (frame : List ℕ) (flow : Flow) (address_place port_place address port : ℕ) → AreBytes frame
    → IsFlowFrame frame flow
    → Layout frame flow.transport_at (least_header flow.protocol)
    (write_of frame flow address_place port_place address port)
    → OneChanged (rewritten frame flow address_place port_place address port) frame
    (long_at frame address_place) address
    → KeepsTransport frame (rewritten frame flow address_place port_place address port) flow
keeps_transport frame flow address_place port_place address port bytes known layout changed end uncaptured ends
    has_checksum =
    let w = write_of frame flow address_place port_place address port in
    let new = rewritten frame flow address_place port_place address port in
    let at = flow.transport_at in
    let least = least_header flow.protocol in
    let old_address = long_at frame address_place in
    let old_port = word_at frame port_place in
    let checksum = word_at frame (checksum_place flow) in
    let first = adjusted_32 checksum old_address address in
    let second = adjusted_16 first old_port port in
    let weighs = transport_weight frame uncaptured at least end w layout ends in
    let first_balance = adjusted_32-residue checksum old_address address (word_at-le frame (checksum_place flow) bytes)
    (long_at-lt frame address_place bytes) in
    let second_balance = adjusted_16-residue first old_port port (adjusted_32-le checksum old_address address)
    (word_at-le frame port_place bytes) in
    let all =
    balances (addresses new) (addresses frame) (weight new at end uncaptured) (weight frame at end uncaptured) checksum
    old_address address old_port port w.transport first second (addresses-mod new frame old_address address changed)
    weighs first_balance second_balance (written_checksum-mod flow.protocol checksum second has_checksum) in
    as_right_with (addresses new) (addresses frame) _ _ _ _ _ _ _ _
    (covered_sum new (take (end - at) (drop at new) ++ uncaptured))
    (covered_sum frame (take (end - at) (drop at frame) ++ uncaptured))
    (early_byte frame at least w 23 layout (omega arith))
    (length_piece new frame uncaptured at end (length-written frame w))
    (subst (λ (n : ℕ). 0 < n) known.number known.has_ports) all

-- ---- both, for a source and for a destination

pub source_keeps : (frame : List ℕ) (flow : Flow) (address port : ℕ) → AreBytes frame → CanRewrite frame flow
    → KeepsHeader frame (rewritten frame flow 26 flow.transport_at address port) flow
    × KeepsTransport frame (rewritten frame flow 26 flow.transport_at address port) flow
source_keeps frame flow address port bytes can =
    let known = flow_frame frame flow can in
    let layout = source_layout frame flow address port known in
    let w = write_of frame flow 26 flow.transport_at address port in
    let there = address_there frame flow.transport_at (least_header flow.protocol) w layout in
    let other = other_address frame flow.transport_at (least_header flow.protocol) w 30 layout (omega arith)
    (omega arith) (inr (omega arith)) in (
      keeps_header frame flow 26 flow.transport_at address port bytes known layout,
      keeps_transport frame flow 26 flow.transport_at address port bytes known layout
          (source_changed (written frame w) frame address there other),
    )

pub dest_keeps : (frame : List ℕ) (flow : Flow) (address port : ℕ) → AreBytes frame → CanRewrite frame flow
    → KeepsHeader frame (rewritten frame flow 30 (flow.transport_at + 2) address port) flow
    × KeepsTransport frame (rewritten frame flow 30 (flow.transport_at + 2) address port) flow
dest_keeps frame flow address port bytes can =
    let known = flow_frame frame flow can in
    let layout = dest_layout frame flow address port known in
    let w = write_of frame flow 30 (flow.transport_at + 2) address port in
    let there = address_there frame flow.transport_at (least_header flow.protocol) w layout in
    let other = other_address frame flow.transport_at (least_header flow.protocol) w 26 layout (omega arith)
    (omega arith) (inl (omega arith)) in (
      keeps_header frame flow 30 (flow.transport_at + 2) address port bytes known layout,
      keeps_transport frame flow 30 (flow.transport_at + 2) address port bytes known layout
          (dest_changed (written frame w) frame address there other),
    )
