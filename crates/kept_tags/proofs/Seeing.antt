-- What is written over a frame that is seen as a flow or as an error of ICMP stands behind its first twelve bytes.
use Rattle.std.proofs.Common.{◌≡◌, ℕ, ◌+◌, ◌≤◌, List, take, Ok, arith, subst}
use Rattle.packet_headers.specs.declared.flow.Flow.{Flow}
use Rattle.packet_headers.specs.View.{viewed, failures, flow_of}
use Rattle.packet_headers.specs.Rewriting.{with_source, with_dest}
use Rattle.packet_headers.proofs.FirstFailure.{pass_from_ok}
use Rattle.icmp_errors.specs.declared.error.IcmpError.{IcmpError}
use Rattle.icmp_errors.specs.ErrorView.{error_of}
use Rattle.icmp_errors.specs.ErrorRewriting.{with_quoted_source, with_quoted_dest, source_place, dest_place}
use Rattle.kept_tags.proofs.FirstBytes.{rewriting_leaves, error_rewriting_leaves}

-- ---- flows

pub flow_behind : (frame : List ℕ) (original : ℕ) (flow : Flow) → viewed frame original ≡ Ok flow
    → 12 ≤ flow.transport_at
flow_behind frame original flow seen =
    let passed = pass_from_ok (failures frame original) (flow_of frame) flow seen in
    let behind : 12 ≤ (flow_of frame).transport_at = omega arith in
    subst (λ (f : Flow). 12 ≤ f.transport_at) passed.1 behind

pub source_leaves : (frame : List ℕ) (flow : Flow) (address port : ℕ) → 12 ≤ flow.transport_at
    → take 12 (with_source frame flow address port) ≡ take 12 frame
source_leaves frame flow address port behind =
    rewriting_leaves 12 frame flow 26 flow.transport_at address port (omega arith) behind (omega arith) behind

pub dest_leaves : (frame : List ℕ) (flow : Flow) (address port : ℕ) → 12 ≤ flow.transport_at
    → take 12 (with_dest frame flow address port) ≡ take 12 frame
dest_leaves frame flow address port behind =
    rewriting_leaves 12 frame flow 30 (flow.transport_at + 2) address port (omega arith) behind (omega arith)
    (omega arith)

-- ---- errors

abbrev pub IsBehind : IcmpError → Type 0
IsBehind error = (12 ≤ error.icmp_at) × (12 ≤ error.transport_at)

pub error_behind : (frame : List ℕ) → IsBehind (error_of frame)
error_behind frame = (omega arith, omega arith)

pub quoted_source_leaves : (frame : List ℕ) (error : IcmpError) (address port : ℕ) → IsBehind error
    → take 12 (with_quoted_source frame error address port) ≡ take 12 frame
quoted_source_leaves frame error address port behind =
    let icmp = behind.0 in
    error_rewriting_leaves 12 frame error 30 (source_place error) error.transport_at address port (omega arith) icmp
    behind.1 (omega arith) (omega arith) behind.1

pub quoted_dest_leaves : (frame : List ℕ) (error : IcmpError) (address port : ℕ) → IsBehind error
    → take 12 (with_quoted_dest frame error address port) ≡ take 12 frame
quoted_dest_leaves frame error address port behind =
    let icmp = behind.0 in
    let transport = behind.1 in
    error_rewriting_leaves 12 frame error 26 (dest_place error) (error.transport_at + 2) address port (omega arith)
    icmp transport (omega arith) (omega arith) (omega arith)
