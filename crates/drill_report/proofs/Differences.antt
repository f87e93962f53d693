-- The first packet that two lists of outputs do not have in common.
use Rattle.std.proofs.Common.{◌≡◌, ℕ, zero, suc, ◌+◌, ◌-◌, ◌<◌, ◌≤◌, List, [], ◌∷◌, length, take, refl, sym, ap, ◌∙◌}
use Rattle.std.proofs.Common.{subst, arith, add-one, get_or, slice_get, Some, None}
use Rattle.plain_text.specs.declared.packet.Packet.{Packet}
use Rattle.access_log.specs.declared.entry.Output.{Output}
use Rattle.drill_report.specs.Report.{IsFirstDifference, packets_in}

-- the packet at a place
pub packet_at : (xs : List Output) (i : ℕ) (x : Output) → i < length xs → x ≡ get_or xs i x
    → slice_get (packets_in xs) i ≡ Some x.packet
packet_at [] i x low is = absurd (omega arith)
packet_at (y ∷ xs) zero x low is = ap (λ (z : Output). Some z.packet) (sym is)
packet_at (y ∷ xs) (suc i) x low is = packet_at xs i x (omega arith) is

-- there is none behind the end
pub none_at : (xs : List Output) (i : ℕ) → length xs ≤ i → slice_get (packets_in xs) i ≡ None
none_at [] zero high = refl
none_at [] (suc i) high = refl
none_at (y ∷ xs) zero high = absurd (omega arith)
none_at (y ∷ xs) (suc i) high = none_at xs i (omega arith)

-- one packet more is the same
pub take_next : (xs ys : List Packet) (i : ℕ) (p : Packet) → slice_get xs i ≡ Some p → slice_get ys i ≡ Some p
    → take i xs ≡ take i ys → take (suc i) xs ≡ take (suc i) ys
take_next [] ys zero p one two same = absurd (cc)
take_next [] ys (suc i) p one two same = absurd (cc)
take_next (x ∷ xs) [] zero p one two same = absurd (cc)
take_next (x ∷ xs) [] (suc i) p one two same = absurd (cc)
take_next (x ∷ xs) (y ∷ ys) zero p one two same = let e : x ≡ y = cc in ap (λ (z : Packet). z ∷ []) e
take_next (x ∷ xs) (y ∷ ys) (suc i) p one two same =
    let e : x ≡ y = cc in
    let rest : take i xs ≡ take i ys = cc in
    rw e (ap (λ (l : List Packet). y ∷ l) (take_next xs ys i p one two rest))

pub more : (xs ys : List Output) (i : ℕ) (x y : Output) → i < length xs → i < length ys → x ≡ get_or xs i x
    → y ≡ get_or ys i y → x.packet ≡ y.packet → take i (packets_in xs) ≡ take i (packets_in ys)
    → take (i + 1) (packets_in xs) ≡ take (i + 1) (packets_in ys)
more xs ys i x y low below one two alike same =
    rw add-one (take_next (packets_in xs) (packets_in ys) i y.packet (packet_at xs i x low one ∙ ap Some alike)
    (packet_at ys i y below two) same)

-- they differ there
differs : (xs ys : List Output) (i : ℕ) → take i (packets_in xs) ≡ take i (packets_in ys)
    → ¬ (slice_get (packets_in xs) i ≡ slice_get (packets_in ys) i)
    → IsFirstDifference (packets_in xs) (packets_in ys) (Some (i + 1))
differs xs ys i same unlike =
    let e : i + 1 - 1 ≡ i = omega arith in (
      omega arith,
      subst (λ (k : ℕ). take k (packets_in xs) ≡ take k (packets_in ys)) (sym e) same,
      subst (λ (k : ℕ). ¬ (slice_get (packets_in xs) k ≡ slice_get (packets_in ys) k)) (sym e) unlike,
    )

pub unlike : (xs ys : List Output) (i : ℕ) (x y : Output) → i < length xs → i < length ys → x ≡ get_or xs i x
    → y ≡ get_or ys i y → ¬ (x.packet ≡ y.packet) → take i (packets_in xs) ≡ take i (packets_in ys)
    → IsFirstDifference (packets_in xs) (packets_in ys) (Some (i + 1))
unlike xs ys i x y low below one two apart same =
    differs xs ys i same (λ e.
    let both : Some x.packet ≡ Some y.packet = sym (packet_at xs i x low one) ∙ e ∙ packet_at ys i y below two in
    apart (cc))

-- the other list ends there
pub shorter : (xs ys : List Output) (i : ℕ) (x : Output) → i < length xs → length ys ≤ i → x ≡ get_or xs i x
    → take i (packets_in xs) ≡ take i (packets_in ys) → IsFirstDifference (packets_in xs) (packets_in ys) (Some (i + 1))
shorter xs ys i x low high one same =
    differs xs ys i same (λ e.
    let no : Some x.packet ≡ None = sym (packet_at xs i x low one) ∙ e ∙ none_at ys i high in absurd (cc))

some_at : (ys : List Output) (i : ℕ) → i < length ys → (p : Packet) × (slice_get (packets_in ys) i ≡ Some p)
some_at [] i low = absurd (omega arith)
some_at (y ∷ ys) zero low = (y.packet, refl)
some_at (y ∷ ys) (suc i) low = some_at ys i (omega arith)

-- the other list goes on
pub longer : (xs ys : List Output) (i : ℕ) → length xs ≤ i → i ≤ length xs → length xs < length ys
    → take i (packets_in xs) ≡ take i (packets_in ys)
    → IsFirstDifference (packets_in xs) (packets_in ys) (Some (length xs + 1))
longer xs ys i high low below same =
    let e : i ≡ length xs = omega (arith, high, low) in
    differs xs ys (length xs) (subst (λ (k : ℕ). take k (packets_in xs) ≡ take k (packets_in ys)) e same) (λ is.
    let there = some_at ys (length xs) below in
    let no : Some there.0 ≡ None = sym there.1 ∙ sym is ∙ none_at xs (length xs) (omega arith) in absurd (cc))
