-- A pcapng capture is accepted as the savefile of its packets is.
use Rattle.std.proofs.Common.{◌≡◌, ℕ, ◌≤◌, true, false, List, length, refl, sym, ap, subst, ◌∙◌, Some}
use Rattle.std.specs.Prelude.{◌↔◌, not, nat_lt}
use Rattle.plain_text.specs.declared.packet.Packet.{Packet}
use Rattle.plain_text.specs.declared.packet.Unit.{Unit as TimeUnit}
use Rattle.plain_text.specs.declared.packet.Unit.TheVariants.{Nano}
use Rattle.pcap_io.specs.declared.capture.Captured.TheVariants as savefile
use Rattle.pcap_io.specs.Capture.{written}
use Rattle.pcap_io.proofs.Verdicts.{written_is_capture}
use Rattle.pcapng_io.specs.declared.capture.AnyCaptured.TheVariants as captured
use Rattle.pcapng_io.specs.Capture.{begins_ng, IsNg}
use Rattle.pcapng_io.specs.Captured.{SaysAny}
use Rattle.pcapng_io.proofs.Frames.{and_false}
use Rattle.pcapng_io.proofs.Recorded.{ng_whole}
use Rattle.pcapng_io.proofs.Written.{one_any_answer}
use Rattle.world_io.specs.World.{Shown}
use Rattle.input_files.specs.declared.capture_file.Capture.{Capture}
use Rattle.input_files.specs.Judging.{AcceptsCapture}

module _ (name bytes : List ℕ) (packets : List Packet) (ng : IsNg bytes packets) (few : length packets ≤ 65536) where
  ng_says : length bytes ≤ 67108864 → SaysAny bytes (captured.Capture Nano packets)
  ng_says size = record {
    ng = λ begins. record { unit = refl; capture = ng; count = few; size = size };
    savefile = λ begins. let no : true ≡ false = sym ng.begins ∙ begins in cc;
  }

  written_begins : begins_ng (written Nano packets) ≡ false
  written_begins = and_false (not (nat_lt (length (written Nano packets)) 4)) _ refl

  written_says : length (written Nano packets) ≤ 67108864
      → SaysAny (written Nano packets) (captured.Capture Nano packets)
  written_says size = record {
    ng = λ begins. let no : true ≡ false = sym begins ∙ written_begins in cc;
    savefile = λ begins. (
      savefile.Capture Nano packets,
      refl,
      record { capture = written_is_capture Nano packets (ng_whole bytes packets ng).0; count = few; size = size },
    );
  }

  same_bytes : (shown : Shown) (a b : List ℕ) → shown.names name ≡ Some a → shown.names name ≡ Some b → a ≡ b
  same_bytes shown a b x y =
      let some : Some a ≡ Some b = sym x ∙ y in
      cc

  -- a world accepts these packets, and no other capture, where its bytes say so
  accepts : (shown : Shown) (all : List ℕ) → shown.names name ≡ Some all → SaysAny all (captured.Capture Nano packets)
      → AcceptsCapture name (record { unit = Nano; packets = packets }) shown
  accepts shown all has says = (all, has, (says, (ng_whole bytes packets ng).1))

  only : (shown : Shown) (all : List ℕ) (capture : Capture) → shown.names name ≡ Some all
      → SaysAny all (captured.Capture Nano packets) → AcceptsCapture name capture shown
      → record { unit = Nano; packets = packets } ≡ capture
  only shown all capture has says accepted =
      let same = same_bytes shown accepted.0 all accepted.1 has in
      let one : captured.Capture Nano packets ≡ captured.Capture capture.unit capture.packets =
      one_any_answer all _ _ tt tt says
      (subst (λ (l : List ℕ). SaysAny l (captured.Capture capture.unit capture.packets)) same accepted.2.0) in
      let unit_is : Nano ≡ capture.unit = cc in
      let packets_are : packets ≡ capture.packets = cc in
      ap (λ (unit : TimeUnit). record { unit = unit; packets = packets }) unit_is
      ∙ ap (λ (list : List Packet). record { unit = capture.unit; packets = list }) packets_are

  pub alike : (shown other : Shown) (capture : Capture) → length bytes ≤ 67108864
      → length (written Nano packets) ≤ 67108864 → shown.names name ≡ Some bytes
      → other.names name ≡ Some (written Nano packets)
      → AcceptsCapture name capture shown ↔ AcceptsCapture name capture other
  alike shown other capture size written_size has has_written =
      let ng_is = ng_says size in
      let written_is = written_says written_size in (
        λ accepted. subst (λ (c : Capture). AcceptsCapture name c other) (only shown bytes capture has ng_is accepted)
            (accepts other (written Nano packets) has_written written_is),
        λ accepted. subst (λ (c : Capture). AcceptsCapture name c shown)
            (only other (written Nano packets) capture has_written written_is accepted) (accepts shown bytes has ng_is),
      )
