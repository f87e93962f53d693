-- The NAT leaves the first twelve bytes that it sees, of flows and of errors of ICMP.
use Rattle.std.proofs.Common.{◌≡◌, ℕ, ◌≤◌, Bool, true, false, if◌then◌else◌, List, take, Some, None, Result, Ok, Err}
use Rattle.std.proofs.Common.{◌∙◌, refl}
use Rattle.plain_text.specs.declared.packet.Packet.{Packet}
use Rattle.plain_machine.specs.declared.local.Local.{Local}
use Rattle.packet_headers.specs.declared.flow.Flow.{Flow}
use Rattle.packet_headers.specs.declared.flow.NotFlow.{NotFlow}
use Rattle.packet_headers.specs.View.{viewed}
use Rattle.packet_headers.specs.Rewriting.{with_source}
use Rattle.icmp_errors.specs.declared.error.IcmpError.{IcmpError}
use Rattle.icmp_errors.specs.ErrorView.{is_error, error_of}
use Rattle.nat_box.specs.declared.place.Class.{Class}
use Rattle.nat_box.specs.declared.place.Class.TheVariants.{Outbound, Hairpin, Inbound, OutboundError}
use Rattle.nat_box.specs.declared.place.Noted.{Noted}
use Rattle.nat_box.specs.declared.seeing.Seen.{Seen}
use Rattle.nat_box.specs.declared.seeing.Seen.TheVariants.{OfFlow, OfError, OfNeither}
use Rattle.nat_box.specs.Places.{noted}
use Rattle.nat_box.specs.Settings.{Settings}
use Rattle.nat_box.specs.Nat.{error_or, seen_as, seen_by, frame_out, error_out, bytes_out, nat_meaning}
use Rattle.kept_tags.proofs.Seeing.{flow_behind, source_leaves, dest_leaves, IsBehind, error_behind}
use Rattle.kept_tags.proofs.Seeing.{quoted_source_leaves, quoted_dest_leaves}

-- ---- what goes out

frame_leaves : (s : Settings) (class : Class) (bytes : List ℕ) (flow : Flow) (n : Noted) → 12 ≤ flow.transport_at
    → take 12 (frame_out s class bytes flow n) ≡ take 12 bytes
frame_leaves s Outbound bytes flow n behind = source_leaves bytes flow s.outside n.port behind
frame_leaves s Inbound bytes flow n behind = dest_leaves bytes flow n.target.address n.target.port behind
frame_leaves s Hairpin bytes flow n behind =
    dest_leaves (with_source bytes flow s.outside n.port) flow n.target.address n.target.port behind
    ∙ source_leaves bytes flow s.outside n.port behind
frame_leaves s OutboundError bytes flow n behind = refl

error_leaves : (s : Settings) (class : Class) (bytes : List ℕ) (error : IcmpError) (n : Noted) → IsBehind error
    → take 12 (error_out s class bytes error n) ≡ take 12 bytes
error_leaves s Inbound bytes error n behind =
    quoted_source_leaves bytes error n.target.address n.target.port behind
error_leaves s OutboundError bytes error n behind = quoted_dest_leaves bytes error s.outside n.port behind
error_leaves s Outbound bytes error n behind = refl
error_leaves s Hairpin bytes error n behind = refl

-- ---- what it is seen as

-- what is written over a frame that is seen so stands behind its first bytes
abbrev SeenBehind : Seen → Type 0
SeenBehind (OfFlow flow) = 12 ≤ flow.transport_at
SeenBehind (OfError error) = IsBehind error
SeenBehind (OfNeither answer) = Unit {0}

error_seen : (bytes : List ℕ) (answer : NotFlow) (errors is : Bool)
    → SeenBehind (error_or answer (if errors then if is then Some (error_of bytes) else None else None))
error_seen bytes answer true true = error_behind bytes
error_seen bytes answer true false = tt
error_seen bytes answer false is = tt

seen_behind : (s : Settings) (bytes : List ℕ) (original : ℕ) (view : Result Flow NotFlow)
    → viewed bytes original ≡ view → SeenBehind (seen_as s bytes original view)
seen_behind s bytes original (Ok flow) is = flow_behind bytes original flow is
seen_behind s bytes original (Err answer) is = error_seen bytes answer s.errors (is_error bytes original)

seen_leaves : (s : Settings) (bytes : List ℕ) (n : Noted) (seen : Seen) → SeenBehind seen
    → take 12 (bytes_out s bytes n seen) ≡ take 12 bytes
seen_leaves s bytes n (OfFlow flow) behind = frame_leaves s n.class bytes flow n behind
seen_leaves s bytes n (OfError error) behind = error_leaves s n.class bytes error n behind
seen_leaves s bytes n (OfNeither answer) behind = refl

pub nat_leaves : (s : Settings) (p : Packet) (l : Local) → take 12 ((nat_meaning s).out p l) ≡ take 12 p.bytes
nat_leaves s p l =
    seen_leaves s p.bytes (noted l) (seen_by s p)
    (seen_behind s p.bytes p.original (viewed p.bytes p.original) refl)
