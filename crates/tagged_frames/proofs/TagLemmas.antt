-- The bytes of a tag stand in the frame, and what is put behind them is what stands there.
use Rattle.std.proofs.Common.{◌≡◌, ℕ, zero, suc, ◌+◌, ◌≤◌, ◌<◌, Bool, true, false, List, [], ◌∷◌, ◌++◌, length, take}
use Rattle.std.proofs.Common.{drop}
use Rattle.std.proofs.Common.{refl, sym, ap, subst, arith, inl, inr, ◌⊎◌}
use Rattle.std.specs.Prelude.{nat_lt, ◌==◌, if◌then◌else◌}
use Rattle.std.proofs.lemmas.Bool.{cases_lt}
use Rattle.std.proofs.lemmas.Bool.Decides.{nat_tests}
use Rattle.plain_text.specs.declared.packet.Packet.{Packet}
use Rattle.packet_headers.specs.Fields.{AreBytes, ether_type}
use Rattle.tagged_frames.specs.Tags.{tag_length, without_first, behind_tag, with_behind}

pub tag_within : (tags : Bool) (frame : List ℕ) → tag_length tags frame ≤ length frame
tag_within false frame = omega arith
tag_within true frame = go (cases_lt (length frame) 14)
  where
    some : (b : Bool) → 14 ≤ length frame → (if b then 4 else 0) ≤ length frame
    some true low = omega arith
    some false low = omega arith

    go : (length frame < 14) ⊎ (14 ≤ length frame) → tag_length true frame ≤ length frame
    go (inl low) =
        let t : nat_lt (length frame) 14 ≡ true = grind (arith, nat_tests) in rw t (omega arith)
    go (inr high) =
        let t : nat_lt (length frame) 14 ≡ false = grind (arith, nat_tests) in
        rw t (some (ether_type frame == 0x8100) high)

-- what is put behind the first bytes is what stands there
pub drop_first : (k : ℕ) (xs ys : List ℕ) → k ≤ length xs → drop k (take k xs ++ ys) ≡ ys
drop_first zero xs ys low = refl
drop_first (suc k) [] ys low = absurd (omega (arith, low))
drop_first (suc k) (x ∷ xs) ys low = drop_first k xs ys (omega (arith, low))

-- the first bytes are as many as they are
pub length_with_first : (k : ℕ) (xs ys : List ℕ) → k ≤ length xs → length ys ≡ length (drop k xs)
    → length (take k xs ++ ys) ≡ length xs
length_with_first zero xs ys low same = same
length_with_first (suc k) [] ys low same = absurd (omega (arith, low))
length_with_first (suc k) (x ∷ xs) ys low same =
    let h = length_with_first k xs ys (omega (arith, low)) same in omega (arith, h)

-- what is put behind the tag of a packet is what stands behind it
pub put_behind : (tags : Bool) (p : Packet) (bytes : List ℕ)
    → without_first (tag_length tags p.bytes) (with_behind tags p bytes)
    ≡ record (behind_tag tags p) { bytes = bytes }
put_behind tags p bytes =
    ap (λ (b : List ℕ). record (behind_tag tags p) { bytes = b })
    (drop_first (tag_length tags p.bytes) p.bytes bytes (tag_within tags p.bytes))

-- a packet is as long as it was where what is put behind its tag is as long as what stood there
pub length_with_behind : (tags : Bool) (p : Packet) (bytes : List ℕ)
    → length bytes ≡ length (behind_tag tags p).bytes → length (with_behind tags p bytes).bytes ≡ length p.bytes
length_with_behind tags p bytes same =
    length_with_first (tag_length tags p.bytes) p.bytes bytes (tag_within tags p.bytes) same

drop_bytes : (k : ℕ) (xs : List ℕ) → AreBytes xs → AreBytes (drop k xs)
drop_bytes zero xs are = are
drop_bytes (suc k) [] are = are
drop_bytes (suc k) (x ∷ xs) are = drop_bytes k xs (λ n. are (suc n))

-- what stands behind the tag of a packet of bytes is of bytes
pub bytes_behind : (tags : Bool) (p : Packet) → AreBytes p.bytes → AreBytes (behind_tag tags p).bytes
bytes_behind tags p are = drop_bytes (tag_length tags p.bytes) p.bytes are

-- what is left of the first bytes behind some stays with them
first_stay : (k n m : ℕ) (xs ys : List ℕ) → m ≡ k + n → k ≤ length xs → take n ys ≡ take n (drop k xs)
    → take m (take k xs ++ ys) ≡ take m xs
first_stay zero n m xs ys is low same =
    let e : m ≡ n = omega arith in subst (λ (j : ℕ). take j ys ≡ take j xs) (sym e) same
first_stay (suc k) n m [] ys is low same = absurd (omega (arith, low))
first_stay (suc k) n zero (x ∷ xs) ys is low same = refl
first_stay (suc k) n (suc m) (x ∷ xs) ys is low same =
    ap (λ (l : List ℕ). x ∷ l) (first_stay k n m xs ys (omega (arith, is)) (omega (arith, low)) same)

pub with_behind_stays : (tags : Bool) (n : ℕ) (p : Packet) (bytes : List ℕ)
    → take n bytes ≡ take n (behind_tag tags p).bytes
    → take (tag_length tags p.bytes + n) (with_behind tags p bytes).bytes
    ≡ take (tag_length tags p.bytes + n) p.bytes
with_behind_stays tags n p bytes same =
    first_stay (tag_length tags p.bytes) n (tag_length tags p.bytes + n) p.bytes bytes refl
    (tag_within tags p.bytes) same
