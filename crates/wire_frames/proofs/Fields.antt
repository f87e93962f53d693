-- Fields and the bytes that spell them.
use Rattle.std.proofs.Common.{◌≡◌, ℕ, ◌+◌, ◌*◌, ◌%◌, ◌^◌, ◌<◌, ◌≤◌, ◌∙◌, ◌⊎◌, inl, inr, List, [], ◌∷◌, ◌++◌, length}
use Rattle.std.proofs.Common.{take, drop, refl, sym, ap, subst, arith, append_assoc, length-append, drop-drop}
use Rattle.std.proofs.lemmas.List.{drop_at, length-drop, length-take, take-append-drop}
use Rattle.std.proofs.lemmas.Grind.{flat_map-append}
use Rattle.std.proofs.lemmas.Nat.{be_bytes_2, be_bytes_4, be_bytes_8}
use Rattle.byteorder.specs.Endian.{big_bytes, big_number}
use Rattle.byteorder.specs.Numbers.{big_from-take, big_number-reads_back, length-bytes_high_first}
use Rattle.plain_text.specs.Octets.{AreBytes}
use Rattle.plain_text.proofs.Octets.{AreBytes-take, AreBytes-drop}
use Rattle.wire_frames.specs.Layout.{Field, field, spelled}
use Rattle.wire_frames.specs.Places.{number_at}

abbrev pub total : List ℕ → ℕ
total [] = 0
total (n ∷ ns) = n + total ns

-- the widths that fields have
abbrev pub IsWidth : ℕ → Type 0
IsWidth w = (w ≡ 1) ⊎ (w ≡ 2) ⊎ (w ≡ 4) ⊎ (w ≡ 8)

spelled_1 : (xs : List ℕ) → 1 ≤ length xs → AreBytes xs → big_bytes 1 (big_number 1 xs) ≡ take 1 xs
spelled_1 [] long bytes = absurd (omega arith)
spelled_1 (x ∷ xs) long bytes =
    let fits : x < 256 = bytes 0 in
    let same : (x * 256 ^ 0 + 0) % 256 ≡ x = omega arith in
    ap (λ (n : ℕ). n ∷ []) same

-- the first bytes are what spells the number in them
pub spelled_first : (w : ℕ) (xs : List ℕ) → IsWidth w → w ≤ length xs → AreBytes xs
    → big_bytes w (big_number w xs) ≡ take w xs
spelled_first w xs (inl one) long bytes =
    subst (λ (n : ℕ). big_bytes n (big_number n xs) ≡ take n xs) (sym one) (spelled_1 xs (omega arith) bytes)
spelled_first w xs (inr (inl two)) long bytes =
    subst (λ (n : ℕ). big_bytes n (big_number n xs) ≡ take n xs) (sym two)
    (be_bytes_2 (take 2 xs) _ (omega (arith, length-take 2 xs)) (AreBytes-take 2 xs bytes)
    (sym (big_from-take 0 2 2 xs (omega arith)) ∙ omega arith))
spelled_first w xs (inr (inr (inl four))) long bytes =
    subst (λ (n : ℕ). big_bytes n (big_number n xs) ≡ take n xs) (sym four)
    (be_bytes_4 (take 4 xs) _ (omega (arith, length-take 4 xs)) (AreBytes-take 4 xs bytes)
    (sym (big_from-take 0 4 4 xs (omega arith)) ∙ omega arith))
spelled_first w xs (inr (inr (inr eight))) long bytes =
    subst (λ (n : ℕ). big_bytes n (big_number n xs) ≡ take n xs) (sym eight)
    (be_bytes_8 (take 8 xs) _ (omega (arith, length-take 8 xs)) (AreBytes-take 8 xs bytes)
    (sym (big_from-take 0 8 8 xs (omega arith)) ∙ omega arith))

-- the fields of these widths that stand from a place on
abbrev pub fields_at : ℕ → List ℕ → List ℕ → List Field
fields_at at [] bytes = []
fields_at at (w ∷ ws) bytes = field w (number_at w at bytes) ∷ fields_at (at + w) ws bytes

abbrev pub AreWidths : List ℕ → Type 0
AreWidths [] = Unit {0}
AreWidths (w ∷ ws) = IsWidth w × AreWidths ws

-- they spell the bytes there
pub spelled-fields_at : (at : ℕ) (ws bytes : List ℕ) → AreWidths ws → AreBytes bytes → at + total ws ≤ length bytes
    → spelled (fields_at at ws bytes) ++ drop (at + total ws) bytes ≡ drop at bytes
spelled-fields_at at [] bytes widths are room = ap (λ (k : ℕ). drop k bytes) (omega arith)
spelled-fields_at at (w ∷ ws) bytes widths are room =
    let rest = drop at bytes in
    let size = length-drop at bytes in
    let first = spelled_first w rest widths.0 (omega arith) (AreBytes-drop at bytes are) in
    let later = spelled-fields_at (at + w) ws bytes widths.1 are (omega arith) in
    let behind : drop (at + (w + total ws)) bytes ≡ drop (at + w + total ws) bytes =
    ap (λ (k : ℕ). drop k bytes) (omega arith) in
    let on : drop (at + w) bytes ≡ drop w rest =
    ap (λ (k : ℕ). drop k bytes) (omega arith) ∙ sym (drop-drop w at bytes) in
    append_assoc (big_bytes w (big_number w rest)) (spelled (fields_at (at + w) ws bytes))
    (drop (at + (w + total ws)) bytes)
    ∙ ap (λ (l : List ℕ). big_bytes w (big_number w rest) ++ (spelled (fields_at (at + w) ws bytes) ++ l)) behind
    ∙ ap (λ (l : List ℕ). big_bytes w (big_number w rest) ++ l) (later ∙ on)
    ∙ ap (λ (l : List ℕ). l ++ drop w rest) first
    ∙ take-append-drop w rest

-- each number fits its width
abbrev pub Fit : List Field → Type 0
Fit [] = Unit {0}
Fit (f ∷ fs) = (f.value < 256 ^ f.width) × Fit fs

abbrev pub widths : List Field → List ℕ
widths [] = []
widths (f ∷ fs) = f.width ∷ widths fs

-- what was spelled is read again
pub fields_at-spelled : (at : ℕ) (before : List ℕ) (fs : List Field) (more : List ℕ) → at ≡ length before → Fit fs
    → fields_at at (widths fs) (before ++ (spelled fs ++ more)) ≡ fs
fields_at-spelled at before [] more is fit = refl
fields_at-spelled at before (f ∷ fs) more is fit =
    let bytes = big_bytes f.width f.value in
    let behind : before ++ ((bytes ++ spelled fs) ++ more) ≡ (before ++ bytes) ++ (spelled fs ++ more) =
    ap (λ (l : List ℕ). before ++ l) (append_assoc bytes (spelled fs) more)
    ∙ sym (append_assoc before bytes (spelled fs ++ more)) in
    let front : number_at f.width at (before ++ ((bytes ++ spelled fs) ++ more)) ≡ f.value =
    ap (big_number f.width)
    (drop_at before ((bytes ++ spelled fs) ++ more) at (sym is) ∙ append_assoc bytes (spelled fs) more)
    ∙ big_number-reads_back f.width f.value (spelled fs ++ more) fit.0 in
    let size : at + f.width ≡ length (before ++ bytes) =
    omega (arith, length-append before bytes, length-bytes_high_first f.width f.value) in
    let later = fields_at-spelled (at + f.width) (before ++ bytes) fs more size fit.1 in
    let first : ◌≡◌ {A = Field} (field f.width (number_at f.width at (before ++ ((bytes ++ spelled fs) ++ more)))) f =
    ap (field f.width) front in
    let others = ap (fields_at (at + f.width) (widths fs)) behind ∙ later in
    cc

pub spelled-append : (fs gs : List Field) → spelled (fs ++ gs) ≡ spelled fs ++ spelled gs
spelled-append fs gs = flat_map-append (λ (f : Field). big_bytes f.width f.value) fs gs

pub length-spelled : (fs : List Field) → length (spelled fs) ≡ total (widths fs)
length-spelled [] = refl
length-spelled (f ∷ fs) =
    omega (
      arith,
      length-append (big_bytes f.width f.value) (spelled fs),
      length-bytes_high_first f.width f.value,
      length-spelled fs,
    )

pub drop-spelled : (fs : List Field) (more : List ℕ) (n : ℕ) → total (widths fs) ≡ n
    → drop n (spelled fs ++ more) ≡ more
drop-spelled fs more n is = drop_at (spelled fs) more n (length-spelled fs ∙ is)
