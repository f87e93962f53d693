-- How a rewritten frame is seen.
use Rattle.std.proofs.Common.{◌≡◌, ◌⊎◌, ℕ, ◌+◌, ◌<◌, ◌≤◌, Bool, true, false, if◌then◌else◌, List, Result, IsOkAnd}
use Rattle.std.proofs.Common.{length, get_or, ◌∙◌, sym, ap, inl, inr, subst, arith}
use Rattle.packet_headers.specs.declared.flow.Flow.{Flow}
use Rattle.packet_headers.specs.declared.flow.NotFlow.{NotFlow}
use Rattle.packet_headers.specs.Fields.{word_at, long_at, header_end}
use Rattle.packet_headers.specs.View.{is_tcp, least_header, failures, flow_of, first_failure, viewed, changed_flow}
use Rattle.packet_headers.specs.Rewriting.{CanRewrite, with_source, with_dest, SeenWithSource, SeenWithDest}
use Rattle.packet_headers.proofs.FirstFailure.{first_failure-changed, is_ok_and-changed}
use Rattle.packet_headers.proofs.Residues.{written, Layout, length-written, early_byte, transport_byte, address_there}
use Rattle.packet_headers.proofs.Residues.{port_there, other_address, other_side}
use Rattle.packet_headers.proofs.Laws.{SameTransport, flow_frame, write_of, source_layout, dest_layout}

-- ---- frames that read alike

-- in all that the tests and the flags look at
pub record ReadsAlike (new old : List ℕ) : Type 0 where
  pub lengths : length new ≡ length old
  pub early : (k : ℕ) → k < 24 → get_or new k 0 ≡ get_or old k 0
  pub late : (k : ℕ) → header_end old + 8 ≤ k → k < header_end old + 16 → get_or new k 0 ≡ get_or old k 0

-- fail the same tests
pub same_failures : (new old : List ℕ) (original : ℕ) → ReadsAlike new old
    → failures new original ≡ failures old original
same_failures new old original alike =
    let lengths = alike.lengths in
    let b12 = alike.early 12 (omega arith) in
    let b13 = alike.early 13 (omega arith) in
    let b14 = alike.early 14 (omega arith) in
    let b16 = alike.early 16 (omega arith) in
    let b17 = alike.early 17 (omega arith) in
    let b20 = alike.early 20 (omega arith) in
    let b21 = alike.early 21 (omega arith) in
    let b23 = alike.early 23 (omega arith) in
    let offset = alike.late (header_end old + 12) (omega arith) (omega arith) in
    cc

same_end : (new old : List ℕ) → ReadsAlike new old → header_end new ≡ header_end old
same_end new old alike = let b14 = alike.early 14 (omega arith) in cc

same_flags : (new old : List ℕ) → ReadsAlike new old → (flow_of new).flags ≡ (flow_of old).flags
same_flags new old alike =
    let b14 = alike.early 14 (omega arith) in
    let b23 = alike.early 23 (omega arith) in
    let bits = alike.late (header_end old + 13) (omega arith) (omega arith) in
    cc

-- and are flows that differ in their endpoints alone
same_but_endpoints : (new old : List ℕ) (source source_port dest dest_port : ℕ) → ReadsAlike new old
    → long_at new 26 ≡ source → word_at new (header_end old) ≡ source_port → long_at new 30 ≡ dest
    → word_at new (header_end old + 2) ≡ dest_port
    → flow_of new
    ≡ record (flow_of old) { source = source; source_port = source_port; dest = dest; dest_port = dest_port }
same_but_endpoints new old source source_port dest dest_port alike is_source is_source_port is_dest is_dest_port =
    let ends = same_end new old alike in
    let port_there = ap (λ (k : ℕ). word_at new k) ends ∙ is_source_port in
    let dest_there = ap (λ (k : ℕ). word_at new (k + 2)) ends ∙ is_dest_port in
    let number = alike.early 23 (omega arith) in
    let flags = same_flags new old alike in
    λ i. record {
      protocol = number i;
      source = is_source i;
      source_port = port_there i;
      dest = is_dest i;
      dest_port = dest_there i;
      flags = flags i;
      transport_at = ends i;
    }

-- ---- a rewritten frame

-- places before and beside the checksum of either protocol
before_checksum : (tcp : Bool) (at k : ℕ) → k < at + 6
    → (k < at + (if tcp then 16 else 6)) ⊎ (at + (if tcp then 16 else 6) + 2 ≤ k)
before_checksum true at k early = inl (omega arith)
before_checksum false at k early = inl early

beside_checksum : (tcp : Bool) (at k : ℕ) → at + 8 ≤ k → k < at + 16
    → (k < at + (if tcp then 16 else 6)) ⊎ (at + (if tcp then 16 else 6) + 2 ≤ k)
beside_checksum true at k from to = inl to
beside_checksum false at k from to = inr (omega arith)

reads_alike : (frame : List ℕ) (flow : Flow) (address_place port_place address port : ℕ)
    → flow.transport_at ≡ header_end frame
    → Layout frame flow.transport_at (least_header flow.protocol)
    (write_of frame flow address_place port_place address port) → port_place ≤ flow.transport_at + 2
    → ReadsAlike (written frame (write_of frame flow address_place port_place address port)) frame
reads_alike frame flow address_place port_place address port at_is layout port_early =
    let w = write_of frame flow address_place port_place address port in
    let at = flow.transport_at in
    let least = least_header flow.protocol in
    record {
      lengths = length-written frame w;
      early = λ k early. early_byte frame at least w k layout early;
      late = λ k from to. transport_byte frame at least w k layout (omega arith)
          (beside_checksum (is_tcp flow.protocol) at k (omega arith) (omega arith)) (inr (omega arith));
    }

-- the other port
other_port : (frame : List ℕ) (flow : Flow) (address_place port_place address port place : ℕ)
    → Layout frame flow.transport_at (least_header flow.protocol)
    (write_of frame flow address_place port_place address port) → flow.transport_at ≤ place
    → place + 1 < flow.transport_at + 6 → (place + 1 < port_place) ⊎ (port_place + 2 ≤ place)
    → word_at (written frame (write_of frame flow address_place port_place address port)) place ≡ word_at frame place
other_port frame flow address_place port_place address port place layout from to apart =
    let w = write_of frame flow address_place port_place address port in
    let kept : (k : ℕ) → place ≤ k → k < place + 2 → get_or (written frame w) k 0 ≡ get_or frame k 0 =
    λ k low high. transport_byte frame flow.transport_at (least_header flow.protocol) w k layout (omega arith)
    (before_checksum (is_tcp flow.protocol) flow.transport_at k (omega arith))
    (other_side apart (λ h. omega arith) (λ h. omega arith)) in
    let high = kept place (omega arith) (omega arith) in
    let low = kept (place + 1) (omega arith) (omega arith) in
    omega arith

-- what is seen at each length on the wire follows from the flow
seen_as : (new old : List ℕ) (change : Flow → Flow) (original : ℕ) → ReadsAlike new old
    → flow_of new ≡ change (flow_of old) → viewed new original ≡ changed_flow change (viewed old original)
seen_as new old change original alike flow =
    ap (λ (tests : List (Bool × NotFlow)). first_failure tests (flow_of new)) (same_failures new old original alike)
    ∙ ap (λ (seen : Flow). first_failure (failures old original) seen) flow
    ∙ first_failure-changed (failures old original) change (flow_of old)

pub source_seen : (frame : List ℕ) (flow : Flow) (address port : ℕ) → CanRewrite frame flow
    → SeenWithSource frame (with_source frame flow address port) address port
source_seen frame flow address port can original =
    let known = flow_frame frame flow can in
    let layout = source_layout frame flow address port known in
    let w = write_of frame flow 26 flow.transport_at address port in
    let at = flow.transport_at in
    let least = least_header flow.protocol in
    let new = written frame w in
    let alike = reads_alike frame flow 26 at address port known.at layout (omega arith) in
    let source = address_there frame at least w layout in
    let source_port = ap (λ (k : ℕ). word_at new k) (sym known.at) ∙ port_there frame at least w layout in
    let dest = other_address frame at least w 30 layout (omega arith) (omega arith) (inr (omega arith)) in
    let dest_port =
    ap (λ (k : ℕ). word_at new (k + 2)) (sym known.at)
    ∙ other_port frame flow 26 at address port (at + 2) layout (omega arith) (omega arith) (inr (omega arith))
    ∙ ap (λ (k : ℕ). word_at frame (k + 2)) known.at in
    seen_as new frame (λ (seen : Flow). record seen { source = address; source_port = port }) original alike
    (same_but_endpoints new frame address port (long_at frame 30) (word_at frame (header_end frame + 2)) alike source
    source_port dest dest_port)

pub dest_seen : (frame : List ℕ) (flow : Flow) (address port : ℕ) → CanRewrite frame flow
    → SeenWithDest frame (with_dest frame flow address port) address port
dest_seen frame flow address port can original =
    let known = flow_frame frame flow can in
    let layout = dest_layout frame flow address port known in
    let w = write_of frame flow 30 (flow.transport_at + 2) address port in
    let at = flow.transport_at in
    let least = least_header flow.protocol in
    let new = written frame w in
    let alike = reads_alike frame flow 30 (at + 2) address port known.at layout (omega arith) in
    let source = other_address frame at least w 26 layout (omega arith) (omega arith) (inl (omega arith)) in
    let source_port =
    ap (λ (k : ℕ). word_at new k) (sym known.at)
    ∙ other_port frame flow 30 (at + 2) address port at layout (omega arith) (omega arith) (inl (omega arith))
    ∙ ap (λ (k : ℕ). word_at frame k) known.at in
    let dest = address_there frame at least w layout in
    let dest_port = ap (λ (k : ℕ). word_at new (k + 2)) (sym known.at) ∙ port_there frame at least w layout in
    seen_as new frame (λ (seen : Flow). record seen { dest = address; dest_port = port }) original alike
    (same_but_endpoints new frame (long_at frame 26) (word_at frame (header_end frame)) address port alike source
    source_port dest dest_port)

-- so it can be rewritten again
again : (frame new : List ℕ) (flow : Flow) (change : Flow → Flow)
    → ((seen : Flow) → SameTransport flow seen → SameTransport flow (change seen))
    → ((original : ℕ) → viewed new original ≡ changed_flow change (viewed frame original)) → CanRewrite frame flow
    → CanRewrite new flow
again frame new flow change keeps seen can =
    let Known : Result Flow NotFlow → Type 0 = λ r. IsOkAnd r (SameTransport flow) in (
      can.0,
      subst Known (sym (seen can.0)) (is_ok_and-changed (viewed frame can.0) change (SameTransport flow) keeps can.1),
    )

pub source_again : (frame : List ℕ) (flow : Flow) (address port : ℕ) → CanRewrite frame flow
    → CanRewrite (with_source frame flow address port) flow
source_again frame flow address port can =
    again frame (with_source frame flow address port) flow
    (λ (seen : Flow). record seen { source = address; source_port = port }) (λ seen same. same)
    (source_seen frame flow address port can) can

pub dest_again : (frame : List ℕ) (flow : Flow) (address port : ℕ) → CanRewrite frame flow
    → CanRewrite (with_dest frame flow address port) flow
dest_again frame flow address port can =
    again frame (with_dest frame flow address port) flow
    (λ (seen : Flow). record seen { dest = address; dest_port = port }) (λ seen same. same)
    (dest_seen frame flow address port can) can
