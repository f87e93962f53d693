-- What a packet is seen as.
use Rattle.std.proofs.Common.{◌≡◌, ℕ, ◌+◌, Bool, true, false, List, refl, sym, ap, ◌∙◌, subst, Option, Some}
use Rattle.std.proofs.Common.{None}
use Rattle.std.specs.Prelude.{if◌then◌else◌, ◌==◌, Result, Ok, Err, ◌&&◌}
use Rattle.plain_text.specs.declared.packet.Packet.{Packet}
use Rattle.packet_headers.specs.declared.flow.Flow.{Flow}
use Rattle.packet_headers.specs.declared.flow.NotFlow.{NotFlow}
use Rattle.packet_headers.specs.Fields.{AreBytes}
use Rattle.packet_headers.specs.View.{viewed, flow_of, failures}
use Rattle.packet_headers.proofs.FirstFailure.{pass_from_ok}
use Rattle.icmp_errors.specs.declared.error.IcmpError.{IcmpError}
use Rattle.icmp_errors.specs.ErrorFields.{quoted_at, quoted_end}
use Rattle.icmp_errors.specs.ErrorView.{is_other_protocol, is_whole_error, quotes_flow, checksums_verify, is_error}
use Rattle.icmp_errors.specs.ErrorView.{error_of, viewed_error}
use Rattle.flow_boxes.proofs.Fitting.{IsWhole, whole, word_fits, long_fits}
use Rattle.nat_box.specs.declared.place.Class.{Class}
use Rattle.nat_box.specs.declared.place.Class.TheVariants.{Outbound, Hairpin, Inbound, OutboundError}
use Rattle.nat_box.specs.declared.seeing.Seen.TheVariants.{OfFlow}
use Rattle.nat_box.specs.Settings.{Settings}
use Rattle.nat_box.specs.Nat.{is_inside, class_of_flow, class_of_error, flow_of_error, error_in, error_or}
use Rattle.nat_box.specs.Nat.{seen_as, seen_by, flow_in, class_in, flow_seen, class_seen}

-- the error of a frame

some_is : (b : Bool) (x error : IcmpError) → (if b then Some x else None) ≡ Some error → x ≡ error
some_is true x error e = cc
some_is false x error e = absurd (cc)

pub error_read : (bytes : List ℕ) (original : ℕ) (error : IcmpError) → viewed_error bytes original ≡ Some error
    → error_of bytes ≡ error
error_read bytes original error e = some_is (is_error bytes original) (error_of bytes) error e

pub error_there : (s : Settings) (bytes : List ℕ) (original : ℕ) (error : IcmpError)
    → error_in s bytes original ≡ Some error → (s.errors ≡ true) × (viewed_error bytes original ≡ Some error)
error_there s bytes original error e = by s.errors refl (viewed_error bytes original) e
  where
    by : (b : Bool) → s.errors ≡ b → (o : Option IcmpError) → (if b then o else None) ≡ Some error
        → (s.errors ≡ true) × (o ≡ Some error)
    by true q o e = (q, e)
    by false q o e = absurd (cc)

-- a flow is no error
pub no_error : (bytes : List ℕ) (original : ℕ) (flow : Flow) → viewed bytes original ≡ Ok flow
    → viewed_error bytes original ≡ None
no_error bytes original flow e =
    ap (λ (seen : Result Flow NotFlow).
    if is_other_protocol seen && is_whole_error bytes && quotes_flow bytes && checksums_verify bytes
    then Some (error_of bytes) else None) e

-- each number of what it is seen as is within its width

error_whole : (bytes : List ℕ) → AreBytes bytes → IsWhole (flow_of_error (error_of bytes))
error_whole frame bytes = record {
  protocol = bytes (quoted_at frame + 9);
  source = long_fits frame (quoted_at frame + 16) bytes;
  source_port = word_fits frame (quoted_end frame + 2) bytes;
  dest = long_fits frame (quoted_at frame + 12) bytes;
  dest_port = word_fits frame (quoted_end frame) bytes;
}

pub same_flow : (r : Result Flow NotFlow) (a b : Flow) → r ≡ Ok a → r ≡ Ok b → a ≡ b
same_flow r a b p q = let both : Ok a ≡ Ok b = sym p ∙ q in cc

pub flow_whole : (s : Settings) (p : Packet) (flow : Flow) → flow_seen s p ≡ Ok flow → AreBytes p.bytes → IsWhole flow
flow_whole s p flow is bytes = by (viewed p.bytes p.original) refl is
  where
    of_error : (answer : NotFlow) (o : Option IcmpError) → error_in s p.bytes p.original ≡ o
        → flow_in (error_or answer o) ≡ Ok flow → IsWhole flow
    of_error answer None e is = absurd (cc)
    of_error answer (Some error) e is =
        let own = error_read p.bytes p.original error (error_there s p.bytes p.original error e).1 in
        subst IsWhole (ap flow_of_error own ∙ same_flow (Ok (flow_of_error error)) (flow_of_error error) flow refl is)
        (error_whole p.bytes bytes)

    by : (r : Result Flow NotFlow) → viewed p.bytes p.original ≡ r
        → flow_in (seen_as s p.bytes p.original r) ≡ Ok flow → IsWhole flow
    by (Ok own) seen is =
        let same : flow_of p.bytes ≡ own =
        (pass_from_ok (failures p.bytes p.original) (flow_of p.bytes) own seen).1 in
        subst IsWhole (same ∙ same_flow (Ok own) own flow refl is) (whole p.bytes bytes)
    by (Err answer) seen is = of_error answer (error_in s p.bytes p.original) refl is

-- Classes that do not come

not_outbound : (s : Settings) (error : IcmpError) (class : Class) → class_of_error s error ≡ Some class
    → (class ≡ Inbound → ⊥) → (class ≡ OutboundError → ⊥) → ⊥
not_outbound s error class e first second =
    by (is_inside s error.source) (error.dest == s.outside) (is_inside s error.dest) (is_inside s error.quoted_dest)
    (error.quoted_source == s.outside) e
  where
    by : (a b c d f : Bool)
        → (if a then if b then None else if c then None else if d then Some OutboundError else None
        else if b then if f then Some Inbound else None else None) ≡ Some class → ⊥
    by true true c d f e = absurd (cc)
    by true false true d f e = absurd (cc)
    by true false false true f e = second (let q : OutboundError ≡ class = cc in cc)
    by true false false false f e = absurd (cc)
    by false true c d true e = first (let q : Inbound ≡ class = cc in cc)
    by false true c d false e = absurd (cc)
    by false false c d f e = absurd (cc)

pub error_not_outbound : (s : Settings) (error : IcmpError) → class_of_error s error ≡ Some Outbound → ⊥
error_not_outbound s error e = not_outbound s error Outbound e (λ q. absurd (cc)) (λ q. absurd (cc))

pub error_not_hairpin : (s : Settings) (error : IcmpError) → class_of_error s error ≡ Some Hairpin → ⊥
error_not_hairpin s error e = not_outbound s error Hairpin e (λ q. absurd (cc)) (λ q. absurd (cc))

pub flow_not_error : (s : Settings) (source dest : ℕ) → class_of_flow s source dest ≡ Some OutboundError → ⊥
flow_not_error s source dest e = by (is_inside s source) (dest == s.outside) (is_inside s dest) e
  where
    by : (a b c : Bool)
        → (if a then if b then Some Hairpin else if c then None else Some Outbound
        else if b then Some Inbound else None) ≡ Some OutboundError → ⊥
    by true true c e = absurd (cc)
    by true false true e = absurd (cc)
    by true false false e = absurd (cc)
    by false true c e = absurd (cc)
    by false false c e = absurd (cc)

-- a packet that is seen as one from inside, or of no error, is a flow; and an error goes through only where errors do

pub seen_flow : (s : Settings) (p : Packet) (class : Class) → class_seen s p ≡ Some class
    → (class ≡ Inbound → ⊥) → (class ≡ OutboundError → ⊥)
    → (flow : Flow) × (viewed p.bytes p.original ≡ Ok flow) × (seen_by s p ≡ OfFlow flow)
seen_flow s p class is first second = by (viewed p.bytes p.original) refl is
  where
    of_error : (answer : NotFlow) (o : Option IcmpError) → class_in s (error_or answer o) ≡ Some class → ⊥
    of_error answer None e = absurd (cc)
    of_error answer (Some error) e = not_outbound s error class e first second

    by : (r : Result Flow NotFlow) → viewed p.bytes p.original ≡ r
        → class_in s (seen_as s p.bytes p.original r) ≡ Some class
        → (flow : Flow) × (viewed p.bytes p.original ≡ Ok flow)
        × (seen_as s p.bytes p.original (viewed p.bytes p.original) ≡ OfFlow flow)
    by (Ok flow) seen e = (flow, seen, ap (seen_as s p.bytes p.original) seen)
    by (Err answer) seen e = absurd (of_error answer (error_in s p.bytes p.original) e)

pub lets_errors : (s : Settings) (p : Packet) → class_seen s p ≡ Some OutboundError → s.errors ≡ true
lets_errors s p is = by (viewed p.bytes p.original) is
  where
    of_error : (answer : NotFlow) (o : Option IcmpError) → error_in s p.bytes p.original ≡ o
        → class_in s (error_or answer o) ≡ Some OutboundError → s.errors ≡ true
    of_error answer None e is = absurd (cc)
    of_error answer (Some error) e is = (error_there s p.bytes p.original error e).0

    by : (r : Result Flow NotFlow) → class_in s (seen_as s p.bytes p.original r) ≡ Some OutboundError
        → s.errors ≡ true
    by (Ok flow) e = absurd (flow_not_error s flow.source flow.dest e)
    by (Err answer) e = of_error answer (error_in s p.bytes p.original) refl e

-- a flow is seen as it is

pub flow_is_seen : (s : Settings) (p : Packet) (flow : Flow) → viewed p.bytes p.original ≡ Ok flow
    → flow_seen s p ≡ Ok flow
flow_is_seen s p flow e = ap (λ (r : Result Flow NotFlow). flow_in (seen_as s p.bytes p.original r)) e

pub class_is_seen : (s : Settings) (p : Packet) (flow : Flow) → viewed p.bytes p.original ≡ Ok flow
    → class_seen s p ≡ class_of_flow s flow.source flow.dest
class_is_seen s p flow e = ap (λ (r : Result Flow NotFlow). class_in s (seen_as s p.bytes p.original r)) e
