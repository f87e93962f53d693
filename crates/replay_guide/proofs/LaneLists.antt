-- The entries of a lane with their numbers: what is found, and that lanes with equal look-ups are one.
use Rattle.std.proofs.Common.{◌≡◌, ◌≢◌, ℕ, zero, suc, ◌+◌, ◌-◌, ◌<◌, ◌≤◌, ◌↔◌, cond, List, [], ◌∷◌, Option, Some, None}
use Rattle.std.proofs.Common.{IsSome, length, slice_get, get_or, option_copied, IfSome, Bor, refl, sym, ap, ◌∙◌, subst}
use Rattle.std.proofs.Common.{inl, inr, ⊎_elim, arith}
use Rattle.std.proofs.lemmas.Option.{slice_get_past, slice_get_read}
use Rattle.std.proofs.lemmas.Bool.{cases_lt}
use Rattle.entry_order.proofs.Order.{is_or}
use Rattle.access_log.specs.declared.entry.StampedEntry.{StampedEntry}
use Rattle.access_log.specs.Held.{Lane, lane, entry_at, IsKnown, IsFrontier, IsRising}
use Rattle.access_log.proofs.SlotLemmas.{at, is_at-same, is_at-apart}
use Rattle.replay_guide.specs.Following.{CanBeFollowed}
use Rattle.replay_guide.specs.Walks.{numbered}

abbrev pub Entries : Type 0
Entries = List (ℕ × StampedEntry)

at_here : (x : ℕ × StampedEntry) (es : Entries) (n : ℕ) → n ≡ x.0 → at (x ∷ es) n ≡ Some x.1
at_here x es n h = ap (λ b. cond b (Some x.1) (at es n)) (is_at-same n x.0 h)

at_later : (x : ℕ × StampedEntry) (es : Entries) (n : ℕ) → n ≢ x.0 → at (x ∷ es) n ≡ at es n
at_later x es n h = ap (λ b. cond b (Some x.1) (at es n)) (is_at-apart n x.0 h)

-- numbered entries

pub at-numbered_before : (from : ℕ) (es : List StampedEntry) (n : ℕ) → n ≤ from → at (numbered from es) n ≡ None
at-numbered_before from [] n h = refl
at-numbered_before from (e ∷ es) n h =
    at_later (from + 1, e) (numbered (from + 1) es) n (λ q. omega arith)
    ∙ at-numbered_before (from + 1) es n (omega arith)

pub at-numbered : (from : ℕ) (es : List StampedEntry) (n i : ℕ) → n ≡ from + i + 1
    → at (numbered from es) n ≡ slice_get es i
at-numbered from [] n i h = refl
at-numbered from (e ∷ es) n zero h = at_here (from + 1, e) (numbered (from + 1) es) n (omega arith)
at-numbered from (e ∷ es) n (suc i) h =
    at_later (from + 1, e) (numbered (from + 1) es) n (λ q. omega arith) ∙ at-numbered (from + 1) es n i (omega arith)

pub rising_numbered : (from : ℕ) (es : List StampedEntry) → IsRising from (numbered from es)
rising_numbered from [] = tt
rising_numbered from (e ∷ es) = (omega arith, rising_numbered (from + 1) es)

-- one more entry at the front
pub at-numbered_cons : (from : ℕ) (e : StampedEntry) (es : List StampedEntry) (n : ℕ) → from + 1 < n
    → at (numbered from (e ∷ es)) n ≡ at (numbered (from + 1) es) n
at-numbered_cons from e es n h = at_later (from + 1, e) (numbered (from + 1) es) n (λ q. omega arith)

pub at-numbered_first : (from : ℕ) (e : StampedEntry) (es : List StampedEntry)
    → at (numbered from (e ∷ es)) (from + 1) ≡ Some e
at-numbered_first from e es = at_here (from + 1, e) (numbered (from + 1) es) (from + 1) refl

-- Rising numbers

pub at_low : (least : ℕ) (es : Entries) (n : ℕ) → IsRising least es → n ≤ least → at es n ≡ None
at_low least [] n rising h = refl
at_low least (x ∷ es) n rising h =
    let first = rising.0 in at_later x es n (λ q. omega arith) ∙ at_low x.0 es n rising.1 (omega arith)

same_head : (x y : ℕ × StampedEntry) → x.0 ≡ y.0 → x.1 ≡ y.1 → x ≡ y
same_head x y p q = pair x.0 y.0 x.1 y.1 p q
  where
    pair : (a b : ℕ) (e f : StampedEntry) → a ≡ b → e ≡ f → Path (ℕ × StampedEntry) (a, e) (b, f)
    pair a b e f p q = rw (p, q) refl

-- rising lists with equal look-ups are one list
pub same_entries : (least : ℕ) (xs ys : Entries) → IsRising least xs → IsRising least ys
    → ((n : ℕ) → at xs n ≡ at ys n) → xs ≡ ys
same_entries least [] [] a b same = refl
same_entries least [] (y ∷ ys) a b same = let one : at [] y.0 ≡ Some y.1 = same y.0 ∙ at_here y ys y.0 refl in absurd cc
same_entries least (x ∷ xs) [] a b same =
    let one : at [] x.0 ≡ Some x.1 = sym (same x.0) ∙ at_here x xs x.0 refl in absurd cc
same_entries least (x ∷ xs) (y ∷ ys) a b same =
    let no_less : x.0 < y.0 → ⊥ = λ h.
    let none : at (y ∷ ys) x.0 ≡ None = at_low x.0 (y ∷ ys) x.0 (h, b.1) (omega arith) in
    let one : at (y ∷ ys) x.0 ≡ Some x.1 = sym (same x.0) ∙ at_here x xs x.0 refl in cc in
    let no_more : y.0 < x.0 → ⊥ = λ h.
    let none : at (x ∷ xs) y.0 ≡ None = at_low y.0 (x ∷ xs) y.0 (h, a.1) (omega arith) in
    let one : at (x ∷ xs) y.0 ≡ Some y.1 = same y.0 ∙ at_here y ys y.0 refl in cc in
    let number : x.0 ≡ y.0 = grind arith in
    let both : Some x.1 ≡ Some y.1 = sym (at_here x xs x.0 refl) ∙ same x.0 ∙ at_here y ys x.0 number in
    let entry : x.1 ≡ y.1 = cc in
    let head : x ≡ y = same_head x y number entry in
    let rest : xs ≡ ys = same_entries x.0 xs ys a.1 (subst (λ n. IsRising n ys) (sym number) b.1) (λ n.
    ⊎_elim (λ (h : x.0 < n). sym (at_later x xs n (λ q. omega arith)) ∙ same n ∙ at_later y ys n (λ q. omega arith))
    (λ h. at_low x.0 xs n a.1 h ∙ sym (at_low y.0 ys n b.1 (omega arith))) (cases_lt x.0 n)) in
    cc

abbrev pub lane_of : ℕ → Entries → Lane
lane_of covered entries = record { covered = covered; entries = entries }

pub same_lane : (l m : Lane) → l.covered ≡ m.covered → l.entries ≡ m.entries → l ≡ m
same_lane l m p q = made l.covered m.covered l.entries m.entries p q
  where
    made : (a b : ℕ) (xs ys : Entries) → a ≡ b → xs ≡ ys → lane_of a xs ≡ lane_of b ys
    made a b xs ys p q = rw (p, q) refl

-- What can be followed ends at the frontier.

none : (o : Option StampedEntry) → (IsSome o → ⊥) → o ≡ None
none None never = refl
none (Some e) never = absurd (never refl)

known_past : (l : Lane) (f k : ℕ) → IsFrontier l f → entry_at l (f + 1 + k) ≡ None → IsKnown l (f + 1 + k) → ⊥
known_past l f k is gone (inl low) = is.ends (inl (omega arith))
known_past l f k is gone (inr some) = let both = subst (λ (o : Option StampedEntry). IsSome o) gone some in absurd cc

none_past : (held : List Lane) (t f : ℕ) → CanBeFollowed held → IsFrontier (lane held t) f → (k : ℕ)
    → entry_at (lane held t) (f + 1 + k) ≡ None
none_past held t f can is zero =
    let place : f + 1 ≡ f + 1 + 0 = omega arith in
    subst (λ (n : ℕ). entry_at (lane held t) n ≡ None) place
    (none (entry_at (lane held t) (f + 1)) (λ some. is.ends (inr some)))
none_past held t f can is (suc k) =
    let place : f + 1 + k + 1 ≡ f + 1 + suc k = omega arith in
    subst (λ (n : ℕ). entry_at (lane held t) n ≡ None) place (none (entry_at (lane held t) (f + 1 + k + 1))
    (λ some. known_past (lane held t) f k is (none_past held t f can is k) (can.gapless t (f + 1 + k) some)))

pub no_entry_past : (held : List Lane) (t f n : ℕ) → CanBeFollowed held → IsFrontier (lane held t) f → f < n
    → entry_at (lane held t) n ≡ None
no_entry_past held t f n can is h =
    let place : f + 1 + (n - f - 1) ≡ n = omega arith in
    subst (λ k. entry_at (lane held t) k ≡ None) place (none_past held t f can is (n - f - 1))

-- The walk down from the frontier

same_down : (l : Lane) (m : ℕ) (es : List StampedEntry) (e : StampedEntry) → entry_at l (m + 1) ≡ Some e
    → ((k : ℕ) → m + 1 < k → at (numbered (m + 1) es) k ≡ entry_at l k) → (k : ℕ) → m < k
    → at (numbered m (e ∷ es)) k ≡ entry_at l k
same_down l m es e here same k up =
    ⊎_elim
    (λ (q : k ≡ m + 1).
    subst (λ (n : ℕ). at (numbered m (e ∷ es)) n ≡ entry_at l n) (sym q) (at-numbered_first m e es ∙ sym here))
    (λ (q : k ≢ m + 1). let past : m + 1 < k = grind arith in at-numbered_cons m e es k past ∙ same k past)
    (is_or k (m + 1))

pub one_down : (l : Lane) (m number : ℕ) (es : List StampedEntry) (e : StampedEntry) → number ≡ m + 1
    → entry_at l number ≡ Some e → ((k : ℕ) → number < k → at (numbered number es) k ≡ entry_at l k) → (k : ℕ) → m < k
    → at (numbered m (e ∷ es)) k ≡ entry_at l k
one_down l m number es e q here same =
    same_down l m es e (subst (λ (n : ℕ). entry_at l n ≡ Some e) q here)
    (subst (λ (n : ℕ). (k : ℕ) → n < k → at (numbered n es) k ≡ entry_at l k) q same)

pub all_covered : (l : Lane) (number : ℕ) → l.covered ≤ number → IsKnown l number → entry_at l number ≡ None
    → l.covered ≡ number
all_covered l number low (inl h) none = omega arith
all_covered l number low (inr some) none =
    let both = subst (λ (o : Option StampedEntry). IsSome o) none some in absurd cc

pub walked_lane : (l : Lane) (number : ℕ) (es : List StampedEntry) → IsRising l.covered l.entries → l.covered ≡ number
    → ((k : ℕ) → number < k → at (numbered number es) k ≡ entry_at l k) → lane_of number (numbered number es) ≡ l
walked_lane l number es rising covered same =
    let up : IsRising number l.entries = subst (λ (n : ℕ). IsRising n l.entries) covered rising in
    same_lane (lane_of number (numbered number es)) l (sym covered)
    (same_entries number (numbered number es) l.entries (rising_numbered number es) up
    (λ n. ⊎_elim (λ above. same n above)
    (λ low. at-numbered_before number es n low ∙ sym (at_low number l.entries n up low)) (cases_lt number n)))

-- what a look-up in the entries gives
pub copied_get : (es : List StampedEntry) (n i : ℕ) (o : Option (Bor StampedEntry)) → n ≡ length es → IsSome o ↔ (i < n)
    → IfSome o (λ x. x.now ≡ get_or es i x.now) → option_copied o ≡ slice_get es i
copied_get es n i None len some is =
    sym (slice_get_past es i (⊎_elim (λ (h : i < n). let no = some.1 h in absurd cc) (λ h. omega arith) (cases_lt i n)))
copied_get es n i (Some x) len some is = sym (slice_get_read es n i x.now len (some.0 refl) is)
