-- Masks, and the components that they name.
use Rattle.std.proofs.Common.{◌≡◌, ℕ, zero, suc, ◌+◌, ◌-◌, ◌*◌, ◌/◌, ◌%◌, ◌^◌, ◌<◌, ◌≤◌, ◌==◌, ◌&&◌, ◌||◌, ◌∙◌, ◌⊎◌}
use Rattle.std.proofs.Common.{Bool, true, false, not, if◌then◌else◌, List, [], ◌∷◌, ◌++◌, length, take, drop, replicate}
use Rattle.std.proofs.Common.{slice_index, set, refl, sym, ap, arith, inl, inr, IsTrue, append_assoc, drop-drop}
use Rattle.std.proofs.lemmas.List.{take_more_set, drop_at, drop-replicate, drop-set-lt, length-drop, take-append-drop}
use Rattle.std.proofs.lemmas.Bool.{cases_lt, eqb-true, eqb-false, eq-eqb, ne_eqb}
use Rattle.std.proofs.Math.Nat.{pow-suc, pow-succ', one-le-pow, div-one, div-div-eq-div-mul, zero-div}
use Rattle.byteorder.specs.Endian.{big_bytes, big_number}
use Rattle.byteorder.specs.Numbers.{big_from-lt, big_number-reads_back}
use Rattle.plain_text.specs.Octets.{AreBytes}
use Rattle.plain_text.proofs.Octets.{AreBytes-drop}
use Rattle.wire_frames.specs.Layout.{spelled, mask_of, nonzero, component_fields}
use Rattle.wire_frames.proofs.Fields.{spelled_first}
use Rattle.wire_frames.specs.Places.{number_at, is_odd, bits_set, component_at, components}

pub bits_set-none : (mask : ℕ) → bits_set 0 mask ≡ 0
unfolding bits_set
bits_set-none mask = refl

pub bits_set-step : (n mask : ℕ) → 0 < n → bits_set n mask ≡ mask % 2 + bits_set (n - 1) (mask / 2)
unfolding bits_set
bits_set-step zero mask some = absurd (omega arith)
bits_set-step (suc n) mask some = ap (λ (k : ℕ). mask % 2 + bits_set k (mask / 2)) (omega arith)

pub components-none : (mask : ℕ) (bytes : List ℕ) → components 0 mask bytes ≡ []
unfolding components
components-none mask bytes = refl

pub components-step : (n mask : ℕ) (bytes : List ℕ) → 0 < n
    → components n mask bytes
    ≡ component_at (is_odd mask) bytes ∷ components (n - 1) (mask / 2) (drop (8 * (mask % 2)) bytes)
unfolding components
components-step zero mask bytes some = absurd (omega arith)
components-step (suc n) mask bytes some =
    ap (λ (k : ℕ). component_at (is_odd mask) bytes ∷ components k (mask / 2) (drop (8 * (mask % 2)) bytes))
    (omega arith)

-- a mask without bits names no component

pub bits_set-empty : (n : ℕ) → bits_set n 0 ≡ 0
unfolding bits_set
bits_set-empty zero = refl
bits_set-empty (suc n) = let later = bits_set-empty n in omega arith

pub components-empty : (n : ℕ) (bytes : List ℕ) → components n 0 bytes ≡ replicate n 0
unfolding components
components-empty zero bytes = refl
components-empty (suc n) bytes = ap (λ (l : List ℕ). 0 ∷ l) (components-empty n bytes)

-- no component was read from here on, so the rest of the stamp is 0
module _ (stamp : List ℕ) (thread : ℕ) (unread : drop thread stamp ≡ replicate (16 - thread) 0) where
  pub still_unread : (component : ℕ) → drop (thread + 1) (set stamp thread component) ≡ replicate (16 - (thread + 1)) 0
  still_unread component =
      drop-set-lt (thread + 1) stamp thread component (omega arith)
      ∙ sym (drop-drop 1 thread stamp)
      ∙ ap (drop 1) unread
      ∙ drop-replicate 1 (16 - thread) 0
      ∙ ap (λ (n : ℕ). replicate n 0) (omega arith)

  pub all_read : (all bytes : List ℕ) → take thread stamp ++ components (16 - thread) 0 bytes ≡ all → stamp ≡ all
  all_read all bytes read =
      sym (take-append-drop thread stamp)
      ∙ ap (λ (l : List ℕ). take thread stamp ++ l) (unread ∙ sym (components-empty (16 - thread) bytes))
      ∙ read

-- a mask has no more bits than the stamp has components
pub mask_of-below : (stamp : List ℕ) → mask_of stamp < 2 ^ length stamp
mask_of-below [] = omega arith
mask_of-below (c ∷ cs) =
    let below = mask_of-below cs in
    rw (pow-suc 2 (length cs)) (bit_below (c == 0) (mask_of cs) (2 ^ length cs) below)
  where
    bit_below : (b : Bool) (m n : ℕ) → m < n → (if b then 0 else 1) + 2 * m < n * 2
    bit_below true m n below = omega arith
    bit_below false m n below = omega arith

-- what is behind a component that may be there
pub drop-behind : (place mask : ℕ) (bytes : List ℕ)
    → drop (8 * (mask % 2)) (drop place bytes) ≡ drop (place + 8 * (mask % 2)) bytes
drop-behind place mask bytes = drop-drop (8 * (mask % 2)) place bytes ∙ ap (λ (k : ℕ). drop k bytes) (omega arith)

-- one more component of a stamp is read
module _ (all : List ℕ) (stamp bytes : List ℕ) (thread rest place component : ℕ) where
  pub reads_one_more : length stamp ≡ 16 → thread < 16
      → take thread stamp ++ components (16 - thread) rest (drop place bytes) ≡ all
      → component ≡ component_at (is_odd rest) (drop place bytes)
      → take (thread + 1) (set stamp thread component)
      ++ components (16 - (thread + 1)) (rest / 2) (drop (place + 8 * (rest % 2)) bytes)
      ≡ all
  reads_one_more sixteen within read is =
      let front = take_more_set stamp thread component (omega arith) in
      let step = components-step (16 - thread) rest (drop place bytes) (omega arith) in
      let later : 16 - thread - 1 ≡ 16 - (thread + 1) = omega arith in
      let whole : component ∷ components (16 - (thread + 1)) (rest / 2) (drop (place + 8 * (rest % 2)) bytes)
      ≡ components (16 - thread) rest (drop place bytes) =
      rw (step, is, drop-behind place rest bytes, later) refl in
      rw (
        front,
        append_assoc (take thread stamp) (component ∷ [])
            (components (16 - (thread + 1)) (rest / 2) (drop (place + 8 * (rest % 2)) bytes)),
      ) (ap (λ (l : List ℕ). take thread stamp ++ l) whole ∙ read)

parity : (n : ℕ) → (n % 2 ≡ 0) ⊎ (n % 2 ≡ 1)
parity n = elim (cases_lt (n % 2) 1) [
  | inl below ↦ inl (omega arith)
  | inr above ↦ inr (omega arith)
]

-- Whether a component that a mask names is 0

same_less : (a b m n : ℕ) → (a ≡ b → m ≡ n) → (m ≡ n → a ≡ b) → not (a == b) ≡ not (m == n)
same_less a b m n down up = go (m == n) refl
  where
    go : (t : Bool) → (m == n) ≡ t → not (a == b) ≡ not t
    go true is = ap not (eq-eqb a b (up (eqb-true m n is)))
    go false is = ap not (ne_eqb a b (λ same. eqb-false m n is (down same)))

zero_odd : (b : Bool) (m rest : ℕ) → rest % 2 ≡ 1
    → not ((if b then 0 else 1) + 2 * m == rest) ≡ b || not (m == rest / 2)
zero_odd true m rest odd = ap not (ne_eqb (0 + 2 * m) rest (λ same. omega arith))
zero_odd false m rest odd = same_less (1 + 2 * m) rest m (rest / 2) (λ same. omega arith) (λ same. omega arith)

-- it is the first, or among those behind it
pub zero_first : (n rest : ℕ) (bytes : List ℕ) → 0 < n
    → not (mask_of (components n rest bytes) == rest) ≡ (is_odd rest && component_at (is_odd rest) bytes == 0)
    || not (mask_of (components (n - 1) (rest / 2) (drop (8 * (rest % 2)) bytes)) == rest / 2)
zero_first n rest bytes some =
    let step = components-step n rest bytes some in
    elim (parity rest) [
      | inl even ↦
          let later = mask_of (components (n - 1) (rest / 2) (drop 0 bytes)) in
          rw (step, even) (same_less (0 + 2 * later) rest later (rest / 2) (λ same. omega arith) (λ same. omega arith))
      | inr odd ↦
          let later = mask_of (components (n - 1) (rest / 2) (drop 8 bytes)) in
          rw (step, odd) (zero_odd (number_at 8 0 bytes == 0) later rest odd)
    ]

mask_of-zeros : (n : ℕ) → mask_of (replicate n 0) ≡ 0
mask_of-zeros zero = refl
mask_of-zeros (suc n) = let later = mask_of-zeros n in omega arith

-- a mask without bits names none
pub zero_none : (n : ℕ) (bytes : List ℕ) → not (mask_of (components n 0 bytes) == 0) ≡ false
zero_none n bytes = rw (components-empty n bytes, mask_of-zeros n) refl

or_none : (b : Bool) → b ≡ b || false
or_none true = refl
or_none false = refl

pub named_all : (earlier all : Bool) (n : ℕ) (bytes : List ℕ)
    → earlier || not (mask_of (components n 0 bytes) == 0) ≡ all → earlier ≡ all
named_all earlier all n bytes named =
    or_none earlier ∙ ap (λ (b : Bool). earlier || b) (sym (zero_none n bytes)) ∙ named

or_behind : (a b c : Bool) → (a || b) || c ≡ a || (b || c)
or_behind true b c = refl
or_behind false b c = refl

pub named_one_more : (earlier now all : Bool) (bytes : List ℕ) (thread rest place component : ℕ) → thread < 16
    → component ≡ component_at (is_odd rest) (drop place bytes) → now ≡ earlier || (is_odd rest && component == 0)
    → earlier || not (mask_of (components (16 - thread) rest (drop place bytes)) == rest) ≡ all
    → now
    || not (mask_of (components (16 - (thread + 1)) (rest / 2) (drop (place + 8 * (rest % 2)) bytes)) == rest / 2) ≡ all
named_one_more earlier now all bytes thread rest place component within is now_is named =
    let first = zero_first (16 - thread) rest (drop place bytes) (omega arith) in
    let later : 16 - thread - 1 ≡ 16 - (thread + 1) = omega arith in
    let behind : components (16 - thread - 1) (rest / 2) (drop (8 * (rest % 2)) (drop place bytes))
    ≡ components (16 - (thread + 1)) (rest / 2) (drop (place + 8 * (rest % 2)) bytes) =
    rw (drop-behind place rest bytes, later) refl in
    rw (now_is, is, sym behind) (or_behind earlier _ _ ∙ ap (λ (b : Bool). earlier || b) (sym first) ∙ named)

-- a mask of no bits is 0
pub no_bits : (n rest : ℕ) → rest < 2 ^ n → n ≡ 0 → rest ≡ 0
no_bits zero rest below over = omega arith
no_bits (suc n) rest below over = absurd (omega arith)

pub half_fits : (n rest : ℕ) → 0 < n → rest < 2 ^ n → rest / 2 < 2 ^ (n - 1)
half_fits zero rest some below = absurd (omega arith)
half_fits (suc n) rest some below =
    let double = pow-suc 2 n in let same : suc n - 1 ≡ n = omega arith in rw same (omega arith)

pub odd_room : (n rest place size : ℕ) → 0 < n → IsTrue (rest % 2 == 1) → place + 8 * bits_set n rest ≤ size
    → place + 8 ≤ size
odd_room n rest place size some odd room =
    let one = eqb-true _ _ odd in
    let step = bits_set-step n rest some in
    omega arith

-- the components that a mask names
abbrev pub there : Bool → ℕ → List ℕ
there true c = c ∷ []
there false c = []

abbrev pub present : ℕ → List ℕ → List ℕ
present mask [] = []
present mask (c ∷ cs) = there (is_odd mask) c ++ present (mask / 2) cs

-- a component that the mask does not name is 0
abbrev pub Unset : ℕ → List ℕ → Type 0
Unset mask [] = Unit {0}
Unset mask (c ∷ cs) = (mask % 2 ≡ 0 → c ≡ 0) × Unset (mask / 2) cs

abbrev pub FitEach : List ℕ → Type 0
FitEach [] = Unit {0}
FitEach (c ∷ cs) = (c < 256 ^ 8) × FitEach cs

pub fit_each : (cs : List ℕ) → ((u : ℕ) → slice_index cs u < 2 ^ 64) → FitEach cs
fit_each [] fit = tt
fit_each (c ∷ cs) fit = (fit 0, fit_each cs (λ u. fit (suc u)))

-- what a mask names spells the bytes from which it was read
pub spelled-present : (n mask : ℕ) (bytes : List ℕ) → AreBytes bytes → 8 * bits_set n mask ≤ length bytes
    → spelled (component_fields (present mask (components n mask bytes))) ++ drop (8 * bits_set n mask) bytes ≡ bytes
unfolding components bits_set
spelled-present zero mask bytes are room = refl
spelled-present (suc n) mask bytes are room = elim (parity mask) [
  | inl even ↦
      let room_is : 8 * (mask % 2 + bits_set n (mask / 2)) ≤ length bytes = room in
      let same : 8 * (mask % 2 + bits_set n (mask / 2)) ≡ 8 * bits_set n (mask / 2) = omega arith in
      let later = spelled-present n (mask / 2) bytes are (omega arith) in
      rw (same, even) later
  | inr odd ↦
      let room_is : 8 * (mask % 2 + bits_set n (mask / 2)) ≤ length bytes = room in
      let same : 8 * (mask % 2 + bits_set n (mask / 2)) ≡ 8 + 8 * bits_set n (mask / 2) = omega arith in
      let later =
      spelled-present n (mask / 2) (drop 8 bytes) (AreBytes-drop 8 bytes are) (omega (arith, length-drop 8 bytes)) in
      let front = spelled_first 8 bytes (inr (inr (inr refl))) (omega arith) are in
      let P = spelled (component_fields (present (mask / 2) (components n (mask / 2) (drop 8 bytes)))) in
      let behind = drop-drop (8 * bits_set n (mask / 2)) 8 bytes in
      rw (same, odd)
      (append_assoc (big_bytes 8 (big_number 8 bytes)) P (drop (8 + 8 * bits_set n (mask / 2)) bytes)
      ∙ ap (λ (l : List ℕ). big_bytes 8 (big_number 8 bytes) ++ (P ++ l)) (sym behind)
      ∙ ap (λ (l : List ℕ). big_bytes 8 (big_number 8 bytes) ++ l) later
      ∙ ap (λ (l : List ℕ). l ++ drop 8 bytes) front
      ∙ take-append-drop 8 bytes)
]

-- what was spelled is read again
pub components-spelled : (mask : ℕ) (stamp more : List ℕ) → FitEach stamp → Unset mask stamp
    → components (length stamp) mask (spelled (component_fields (present mask stamp)) ++ more) ≡ stamp
unfolding components
components-spelled mask [] more fit unset = refl
components-spelled mask (c ∷ cs) more fit unset = elim (parity mask) [
  | inl even ↦
      let none = unset.0 even in
      let later = components-spelled (mask / 2) cs more fit.1 unset.1 in
      rw (even, none) (ap (λ (l : List ℕ). 0 ∷ l) later)
  | inr odd ↦
      let P = spelled (component_fields (present (mask / 2) cs)) in
      let later = components-spelled (mask / 2) cs more fit.1 unset.1 in
      let parts = append_assoc (big_bytes 8 c) P more in
      let front : number_at 8 0 ((big_bytes 8 c ++ P) ++ more) ≡ c =
      ap (big_number 8) parts ∙ big_number-reads_back 8 c (P ++ more) fit.0 in
      let behind : drop 8 ((big_bytes 8 c ++ P) ++ more) ≡ P ++ more =
      ap (drop 8) parts ∙ drop_at (big_bytes 8 c) (P ++ more) 8 refl in
      let rest : components (length cs) (mask / 2) (drop 8 ((big_bytes 8 c ++ P) ++ more)) ≡ cs =
      ap (components (length cs) (mask / 2)) behind ∙ later in
      rw odd (cc (front, rest))
]

-- of a mask that names what is not 0

mask_parity : (b : Bool) (m : ℕ) → ((if b then 0 else 1) + 2 * m) % 2 ≡ (if b then 0 else 1)
mask_parity true m = omega arith
mask_parity false m = omega arith

mask_half : (b : Bool) (m : ℕ) → ((if b then 0 else 1) + 2 * m) / 2 ≡ m
mask_half true m = omega arith
mask_half false m = omega arith

pub present-mask_of : (stamp : List ℕ) → present (mask_of stamp) stamp ≡ nonzero stamp
present-mask_of [] = refl
present-mask_of (c ∷ cs) =
    let later = present-mask_of cs in
    rw (mask_parity (c == 0) (mask_of cs), mask_half (c == 0) (mask_of cs), later) (shown (c == 0))
  where
    shown : (b : Bool)
        → there ((if b then 0 else 1) == 1) c ++ nonzero cs ≡ (if not b then c ∷ nonzero cs else nonzero cs)
    shown true = refl
    shown false = refl

pub unset-mask_of : (stamp : List ℕ) → Unset (mask_of stamp) stamp
unset-mask_of [] = tt
unset-mask_of (c ∷ cs) =
    let parity_is = mask_parity (c == 0) (mask_of cs) in
    (λ even. zero_is (c == 0) refl (sym parity_is ∙ even), rw (mask_half (c == 0) (mask_of cs)) (unset-mask_of cs))
  where
    zero_is : (b : Bool) → (c == 0) ≡ b → ◌≡◌ {A = ℕ} (if b then 0 else 1) 0 → c ≡ 0
    zero_is true is even = eqb-true c 0 is
    zero_is false is even = absurd (omega arith)

-- each bit by itself
pub mask_of-bit : (stamp : List ℕ) (u : ℕ) → mask_of stamp / 2 ^ u % 2 ≡ (if slice_index stamp u == 0 then 0 else 1)
mask_of-bit [] u = ap (λ (n : ℕ). n % 2) (zero-div (2 ^ u))
mask_of-bit (c ∷ cs) zero = ap (λ (n : ℕ). n % 2) (div-one (mask_of (c ∷ cs))) ∙ mask_parity (c == 0) (mask_of cs)
mask_of-bit (c ∷ cs) (suc u) =
    ap (λ (n : ℕ). mask_of (c ∷ cs) / n % 2) (pow-succ' 2 u)
    ∙ ap (λ (n : ℕ). n % 2) (sym (div-div-eq-div-mul (mask_of (c ∷ cs)) 2 (2 ^ u)))
    ∙ ap (λ (n : ℕ). n / 2 ^ u % 2) (mask_half (c == 0) (mask_of cs))
    ∙ mask_of-bit cs u

pub bits_set-mask_of : (stamp : List ℕ) → bits_set (length stamp) (mask_of stamp) ≡ length (nonzero stamp)
unfolding bits_set
bits_set-mask_of [] = refl
bits_set-mask_of (c ∷ cs) =
    let later = bits_set-mask_of cs in
    rw (mask_parity (c == 0) (mask_of cs), mask_half (c == 0) (mask_of cs), later) (shown (c == 0))
  where
    shown : (b : Bool)
        → (if b then 0 else 1) + length (nonzero cs) ≡ length (if not b then c ∷ nonzero cs else nonzero cs)
    shown true = omega arith
    shown false = omega arith

-- behind the last thread no component is there

pub mask_of-past : (k : ℕ) (stamp : List ℕ) → ((u : ℕ) → k ≤ u → slice_index stamp u ≡ 0) → mask_of (drop k stamp) ≡ 0
mask_of-past zero [] none = refl
mask_of-past zero (c ∷ cs) none =
    let first : c ≡ 0 = none 0 (omega arith) in
    let later = mask_of-past zero cs (λ u past. none (suc u) (omega arith)) in
    rw first (omega arith)
mask_of-past (suc k) [] none = refl
mask_of-past (suc k) (c ∷ cs) none = mask_of-past k cs (λ u past. none (suc u) (omega arith))

pub nonzero-past : (k : ℕ) (stamp : List ℕ) → ((u : ℕ) → k ≤ u → slice_index stamp u ≡ 0) → nonzero (drop k stamp) ≡ []
nonzero-past zero [] none = refl
nonzero-past zero (c ∷ cs) none =
    let first : c ≡ 0 = none 0 (omega arith) in
    rw first (nonzero-past zero cs (λ u past. none (suc u) (omega arith)))
nonzero-past (suc k) [] none = refl
nonzero-past (suc k) (c ∷ cs) none = nonzero-past k cs (λ u past. none (suc u) (omega arith))

-- of a mask that names the first k

low_parity : (k : ℕ) → (2 ^ suc k - 1) % 2 ≡ 1
low_parity k = let double = pow-suc 2 k in let some = one-le-pow k 2 (omega arith) in omega arith

low_half : (k : ℕ) → (2 ^ suc k - 1) / 2 ≡ 2 ^ k - 1
low_half k = let double = pow-suc 2 k in let some = one-le-pow k 2 (omega arith) in omega arith

present_none : (stamp : List ℕ) → present 0 stamp ≡ []
present_none [] = refl
present_none (c ∷ cs) = present_none cs

pub present-low : (k : ℕ) (stamp : List ℕ) → present (2 ^ k - 1) stamp ≡ take k stamp
present-low zero stamp = present_none stamp
present-low (suc k) [] = refl
present-low (suc k) (c ∷ cs) =
    let later = present-low k cs in
    rw (low_parity k, low_half k, later) refl

unset_none : (stamp : List ℕ) → ((u : ℕ) → slice_index stamp u ≡ 0) → Unset 0 stamp
unset_none [] none = tt
unset_none (c ∷ cs) none = (λ even. none 0, unset_none cs (λ u. none (suc u)))

pub unset-low : (k : ℕ) (stamp : List ℕ) → ((u : ℕ) → k ≤ u → slice_index stamp u ≡ 0) → Unset (2 ^ k - 1) stamp
unset-low zero stamp none = unset_none stamp (λ u. none u (omega arith))
unset-low (suc k) [] none = tt
unset-low (suc k) (c ∷ cs) none =
    let odd = low_parity k in
    (λ even. absurd (omega arith), rw (low_half k) (unset-low k cs (λ u past. none (suc u) (omega arith))))

pub bits_set-low : (n k : ℕ) → k ≤ n → bits_set n (2 ^ k - 1) ≡ k
unfolding bits_set
bits_set-low n zero few = bits_set-empty n
bits_set-low zero (suc k) few = absurd (omega arith)
bits_set-low (suc n) (suc k) few =
    let later = bits_set-low n k (omega arith) in
    rw (low_parity k, low_half k, later) (omega arith)

-- of the components that were read

pub length-components : (n mask : ℕ) (bytes : List ℕ) → length (components n mask bytes) ≡ n
unfolding components
length-components zero mask bytes = refl
length-components (suc n) mask bytes = ap suc (length-components n (mask / 2) (drop (8 * (mask % 2)) bytes))

component_fits : (b : Bool) (bytes : List ℕ) → AreBytes bytes → component_at b bytes < 2 ^ 64
component_fits true bytes are = big_from-lt 0 8 bytes are
component_fits false bytes are = omega arith

pub components-fit : (n mask : ℕ) (bytes : List ℕ) → AreBytes bytes → (u : ℕ)
    → slice_index (components n mask bytes) u < 2 ^ 64
unfolding components
components-fit zero mask bytes are u = omega arith
components-fit (suc n) mask bytes are zero = component_fits (is_odd mask) bytes are
components-fit (suc n) mask bytes are (suc u) =
    components-fit n (mask / 2) (drop (8 * (mask % 2)) bytes) (AreBytes-drop (8 * (mask % 2)) bytes are) u

-- a mask names no component past its bits
pub components-past : (n mask k : ℕ) (bytes : List ℕ) → mask < 2 ^ k → (u : ℕ) → k ≤ u
    → slice_index (components n mask bytes) u ≡ 0
unfolding components
components-past zero mask k bytes below u past = refl
components-past (suc n) mask zero bytes below zero past =
    let none : mask ≡ 0 = omega arith in
    rw none refl
components-past (suc n) mask (suc k) bytes below zero past = absurd (omega arith)
components-past (suc n) mask zero bytes below (suc u) past =
    components-past n (mask / 2) zero (drop (8 * (mask % 2)) bytes) (omega arith) u (omega arith)
components-past (suc n) mask (suc k) bytes below (suc u) past =
    let double = pow-suc 2 k in
    components-past n (mask / 2) k (drop (8 * (mask % 2)) bytes) (omega arith) u (omega arith)
