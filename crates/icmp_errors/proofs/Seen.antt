-- Both rewritings: all that they keep.
use Rattle.std.proofs.Common.{◌≡◌, ℕ, ◌+◌, ◌^◌, ◌<◌, true, List, Some, inl, inr}
use Rattle.std.proofs.Common.{subst, arith, refl}
use Rattle.packet_headers.specs.Fields.{AreBytes, header_end}
use Rattle.icmp_errors.specs.declared.error.IcmpError.{IcmpError}
use Rattle.icmp_errors.specs.ErrorFields.{quoted_end}
use Rattle.icmp_errors.specs.ErrorView.{is_error, error_of, viewed_error, IsErrorFrame}
use Rattle.icmp_errors.specs.ErrorRewriting.{with_quoted_source, with_quoted_dest, KeepsErrorHeader, KeepsOtherBytes}
use Rattle.icmp_errors.specs.ErrorRewriting.{source_fields, dest_fields, SeenWithQuotedSource, SeenWithQuotedDest}
use Rattle.icmp_errors.specs.ErrorRewriting.{source_place, dest_place, FitsFrame}
use Rattle.icmp_errors.proofs.Bytes.{byte_kept}
use Rattle.icmp_errors.proofs.Known.{known, stands, seen_is}
use Rattle.icmp_errors.proofs.Whole.{source_task, dest_task, source_targets, dest_targets, keeps_all, keeps_header}
use Rattle.icmp_errors.proofs.Whole.{outer_there, outer_other, quoted_there, quoted_other, ports_there, ports_other}
use Rattle.icmp_errors.proofs.Whole.{seen_again}

source_seen_at : (frame : List ℕ) (address port original : ℕ) → AreBytes frame → address < 2 ^ 32 → port < 2 ^ 16
    → is_error frame original ≡ true
    → viewed_error (with_quoted_source frame (error_of frame) address port) original
    ≡ Some (record (error_of frame) {
      dest = address;
      quoted_source = address;
      quoted_source_port = port;
    })
source_seen_at frame address port original bytes small narrow test =
    let is = known frame original test in
    let error = error_of frame in
    let parts = stands frame original is in
    let w = source_task error address port in
    let places = source_targets error address port small narrow in
    seen_again frame original w (record error { dest = address; quoted_source = address; quoted_source_port = port }) is
    bytes places (record {
      source = outer_other frame error w 26 parts places (omega arith) (omega arith) (inl (omega arith));
      dest = outer_there frame error w parts places;
      protocol = refl;
      quoted_source = quoted_there frame error w parts bytes places;
      quoted_source_port = ports_there frame error w parts bytes places;
      quoted_dest = quoted_other frame error w (header_end frame + 8 + 16) parts places (omega arith) (omega arith)
          (inr (omega arith));
      quoted_dest_port = ports_other frame error w (quoted_end frame + 2) parts places (omega arith) (omega arith)
          (inr (omega arith));
      icmp_at = refl;
      transport_at = refl;
      end = refl;
    })

dest_seen_at : (frame : List ℕ) (address port original : ℕ) → AreBytes frame → address < 2 ^ 32 → port < 2 ^ 16
    → is_error frame original ≡ true
    → viewed_error (with_quoted_dest frame (error_of frame) address port) original
    ≡ Some (record (error_of frame) {
      source = address;
      quoted_dest = address;
      quoted_dest_port = port;
    })
dest_seen_at frame address port original bytes small narrow test =
    let is = known frame original test in
    let error = error_of frame in
    let parts = stands frame original is in
    let w = dest_task error address port in
    let places = dest_targets error address port small narrow in
    seen_again frame original w (record error { source = address; quoted_dest = address; quoted_dest_port = port }) is
    bytes places (record {
      source = outer_there frame error w parts places;
      dest = outer_other frame error w 30 parts places (omega arith) (omega arith) (inr (omega arith));
      protocol = refl;
      quoted_source = quoted_other frame error w (header_end frame + 8 + 12) parts places (omega arith) (omega arith)
          (inl (omega arith));
      quoted_source_port = ports_other frame error w (quoted_end frame) parts places (omega arith) (omega arith)
          (inl (omega arith));
      quoted_dest = quoted_there frame error w parts bytes places;
      quoted_dest_port = ports_there frame error w parts bytes places;
      icmp_at = refl;
      transport_at = refl;
      end = refl;
    })

pub source_seen : (frame : List ℕ) (error : IcmpError) (address port : ℕ) → AreBytes frame → address < 2 ^ 32
    → port < 2 ^ 16
    → SeenWithQuotedSource frame (with_quoted_source frame error address port) error address port
source_seen frame error address port bytes small narrow original seen =
    let is = seen_is frame original error seen in
    let Seen : IcmpError → Type 0 = λ e.
    viewed_error (with_quoted_source frame e address port) original
    ≡ Some (record e { dest = address; quoted_source = address; quoted_source_port = port }) in
    subst Seen is.1 (source_seen_at frame address port original bytes small narrow is.0)

pub dest_seen : (frame : List ℕ) (error : IcmpError) (address port : ℕ) → AreBytes frame → address < 2 ^ 32
    → port < 2 ^ 16 → SeenWithQuotedDest frame (with_quoted_dest frame error address port) error address port
dest_seen frame error address port bytes small narrow original seen =
    let is = seen_is frame original error seen in
    let Seen : IcmpError → Type 0 = λ e.
    viewed_error (with_quoted_dest frame e address port) original
    ≡ Some (record e { source = address; quoted_dest = address; quoted_dest_port = port }) in
    subst Seen is.1 (dest_seen_at frame address port original bytes small narrow is.0)

-- the error's own header, and all bytes beside what is written

pub source_keeps_header : (frame : List ℕ) (error : IcmpError) (address port : ℕ) → AreBytes frame → address < 2 ^ 32
    → port < 2 ^ 16 → IsErrorFrame frame error
    → KeepsErrorHeader frame (with_quoted_source frame error address port) error
source_keeps_header frame error address port bytes small narrow can =
    let is = seen_is frame can.0 error can.1 in
    let Kept : IcmpError → Type 0 = λ e. KeepsErrorHeader frame (with_quoted_source frame e address port) e in
    subst Kept is.1 (keeps_header frame can.0 (source_task (error_of frame) address port) (known frame can.0 is.0) bytes
    (source_targets (error_of frame) address port small narrow))

pub dest_keeps_header : (frame : List ℕ) (error : IcmpError) (address port : ℕ) → AreBytes frame → address < 2 ^ 32
    → port < 2 ^ 16 → IsErrorFrame frame error
    → KeepsErrorHeader frame (with_quoted_dest frame error address port) error
dest_keeps_header frame error address port bytes small narrow can =
    let is = seen_is frame can.0 error can.1 in
    let Kept : IcmpError → Type 0 = λ e. KeepsErrorHeader frame (with_quoted_dest frame e address port) e in
    subst Kept is.1 (keeps_header frame can.0 (dest_task (error_of frame) address port) (known frame can.0 is.0) bytes
    (dest_targets (error_of frame) address port small narrow))

pub source_keeps_others : (frame : List ℕ) (error : IcmpError) (address port : ℕ) → AreBytes frame → address < 2 ^ 32
    → port < 2 ^ 16 → IsErrorFrame frame error
    → KeepsOtherBytes frame (with_quoted_source frame error address port) (source_fields error)
source_keeps_others frame error address port bytes small narrow can =
    let is = seen_is frame can.0 error can.1 in
    let Kept : IcmpError → Type 0 = λ e.
    KeepsOtherBytes frame (with_quoted_source frame e address port) (source_fields e) in
    let kept = keeps_all frame (error_of frame) (source_task (error_of frame) address port)
    (stands frame can.0 (known frame can.0 is.0)) bytes (source_targets (error_of frame) address port small narrow) in
    subst Kept is.1 (
      kept.same_length,
      λ k outside. byte_kept frame (error_of frame) 30 (source_place (error_of frame)) (quoted_end frame) address port k
          outside,
    )

pub dest_keeps_others : (frame : List ℕ) (error : IcmpError) (address port : ℕ) → AreBytes frame → address < 2 ^ 32
    → port < 2 ^ 16 → IsErrorFrame frame error
    → KeepsOtherBytes frame (with_quoted_dest frame error address port) (dest_fields error)
dest_keeps_others frame error address port bytes small narrow can =
    let is = seen_is frame can.0 error can.1 in
    let Kept : IcmpError → Type 0 = λ e.
    KeepsOtherBytes frame (with_quoted_dest frame e address port) (dest_fields e) in
    let kept = keeps_all frame (error_of frame) (dest_task (error_of frame) address port)
    (stands frame can.0 (known frame can.0 is.0)) bytes (dest_targets (error_of frame) address port small narrow) in
    subst Kept is.1 (
      kept.same_length,
      λ k outside. byte_kept frame (error_of frame) 26 (dest_place (error_of frame)) (quoted_end frame + 2) address port
          k outside,
    )

-- the places are in the frame
pub source_fits : (frame : List ℕ) (error : IcmpError) → IsErrorFrame frame error
    → FitsFrame frame error 30 (source_place error) error.transport_at
source_fits frame error can =
    let is = seen_is frame can.0 error can.1 in
    let parts = stands frame can.0 (known frame can.0 is.0) in
    let Fits : IcmpError → Type 0 = λ e. FitsFrame frame e 30 (source_place e) e.transport_at in
    subst Fits is.1 (record {
      long_enough = omega arith;
      ends = parts.in_frame;
      header = omega arith;
      outer = omega arith;
      quoted = omega arith;
      port = omega arith;
    })

pub dest_fits : (frame : List ℕ) (error : IcmpError) → IsErrorFrame frame error
    → FitsFrame frame error 26 (dest_place error) (error.transport_at + 2)
dest_fits frame error can =
    let is = seen_is frame can.0 error can.1 in
    let parts = stands frame can.0 (known frame can.0 is.0) in
    let Fits : IcmpError → Type 0 = λ e. FitsFrame frame e 26 (dest_place e) (e.transport_at + 2) in
    subst Fits is.1 (record {
      long_enough = omega arith;
      ends = parts.in_frame;
      header = omega arith;
      outer = omega arith;
      quoted = omega arith;
      port = omega arith;
    })
