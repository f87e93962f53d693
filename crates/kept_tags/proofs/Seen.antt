-- A packet is seen without its first four bytes exactly where its frame has the type of a tag.
use Rattle.std.proofs.Common.{◌≡◌, ℕ, ◌+◌, ◌-◌, ◌*◌, ◌<◌, ◌≤◌, Bool, true, false, List, length, drop, refl, ap}
use Rattle.std.proofs.Common.{◌∙◌, arith}
use Rattle.std.proofs.lemmas.List.{take-append-drop}
use Rattle.std.specs.Prelude.{◌==◌, ◌&&◌, not, nat_lt, slice_index, if◌then◌else◌}
use Rattle.std.proofs.lemmas.Bool.Decides.{nat_tests}
use Rattle.plain_text.specs.declared.packet.Packet.{Packet}
use Rattle.packet_headers.specs.Fields.{AreBytes, ether_type}
use Rattle.tagged_frames.specs.Tags.{is_tagged, tag_length, without_first, behind_tag, with_behind}
use Rattle.kept_tags.specs.Tag.{HasTag}
use Rattle.kept_tags.proofs.TagBytes.{tag_is_4}

-- a byte that is the high one of the type of a tag, with another that is the low one
type_is : (a b : ℕ) → a < 256 → b < 256 → 256 * a + b ≡ 0x8100 → (a ≡ 0x81) × (b ≡ 0x00)
type_is a b small low is = (omega (arith, small, low, is), omega (arith, small, low, is))

untagged_is : (frame : List ℕ) → AreBytes frame → (HasTag frame → ⊥) → is_tagged frame ≡ false
untagged_is frame are none = by (nat_lt (length frame) 14) (ether_type frame == 0x8100) refl refl
  where
    by : (a b : Bool) → nat_lt (length frame) 14 ≡ a → (ether_type frame == 0x8100) ≡ b → (not a && b) ≡ false
    by true b p q = refl
    by false false p q = refl
    by false true p q =
        let long : 14 ≤ length frame = grind (arith, nat_tests) in
        let word : 256 * slice_index frame 12 + slice_index frame 13 ≡ 0x8100 = grind (arith, nat_tests) in
        let both = type_is (slice_index frame 12) (slice_index frame 13) (are 12) (are 13) word in
        absurd (none (long, both.0, both.1))

tagged_is : (frame : List ℕ) → HasTag frame → is_tagged frame ≡ true
tagged_is frame has =
    let long : nat_lt (length frame) 14 ≡ false = grind (arith, nat_tests, has.0) in
    let word : ether_type frame ≡ 0x8100 = omega (arith, has.1, has.2) in
    let type : (ether_type frame == 0x8100) ≡ true = grind (arith, nat_tests, word) in
    ap (λ (b : Bool). not b && (ether_type frame == 0x8100)) long ∙ type

-- nothing is left out
none_left_out : (p : Packet) → without_first 0 p ≡ p
none_left_out p =
    let same : p.original - 0 ≡ p.original = omega arith in ap (λ (n : ℕ). record p { original = n }) same

seen_whole : (p : Packet) (is : Bool) → is ≡ false → without_first (if is then 4 else 0) p ≡ p
seen_whole p false e = none_left_out p
seen_whole p true e = absurd (cc)

pub untagged_seen : (p : Packet) → AreBytes p.bytes → (HasTag p.bytes → ⊥) → behind_tag true p ≡ p
untagged_seen p are none = seen_whole p (is_tagged p.bytes) (untagged_is p.bytes are none)

pub tagged_seen : (p : Packet) → HasTag p.bytes
    → behind_tag true p ≡ record p { bytes = drop 4 p.bytes; original = p.original - 4 }
tagged_seen p has = ap (λ (k : ℕ). without_first k p) (tag_is_4 p.bytes (tagged_is p.bytes has))

pub unasked_seen : (p : Packet) → behind_tag false p ≡ p
unasked_seen p = none_left_out p

pub back_again : (tags : Bool) (p : Packet) → with_behind tags p (behind_tag tags p).bytes ≡ p
back_again tags p =
    ap (λ (bytes : List ℕ). record p { bytes = bytes }) (take-append-drop (tag_length tags p.bytes) p.bytes)
