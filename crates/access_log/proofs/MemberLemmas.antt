-- How many members a held set has.
use Rattle.std.proofs.Common.{◌≡◌, ◌≢◌, ℕ, zero, suc, ◌+◌, ◌≤◌, ◌<◌, ◌⊎◌, ◌↔◌, Bool, true, false, cond, leb, List, []}
use Rattle.std.proofs.Common.{◌∷◌, ◌++◌, Option, Some, None, IsSome, length, length-append, not, slice_index, refl, sym}
use Rattle.std.proofs.Common.{ap, ◌∙◌, subst, inl, inr, ⊎_elim, Less, arith}
use Rattle.std.specs.Map.{keys_of}
use Rattle.std.specs.List.{AllByRecursion}
use Rattle.std.specs.List.Sorted.{IsStrictlySortedBy}
use Rattle.std.specs.Ordering.{nat_cmp}
use Rattle.std.proofs.lemmas.Map.Keys.{sorted_head, sorted_tail}
use Rattle.std.proofs.lemmas.Bool.{cases_lt}
use Rattle.std.proofs.lemmas.List.Sums.{sum_by-cons}
use Rattle.std.proofs.lemmas.Bool.Decides.{nat_tests}
use Rattle.std.proofs.lemmas.Grind.{common_steps}
use Rattle.entry_order.proofs.Order.{is_or}
use Rattle.access_log.specs.declared.entry.StampedEntry.{StampedEntry}
use Rattle.access_log.specs.Held.{Lane, lane, entry_at, IsRising, held_count}
use Rattle.access_log.specs.Lanes.{CoversUpTo, RetainsAtMost, IsHeldSet}
use Rattle.access_log.specs.Members.{IsMember, IsDropped, IsMemberAbove, IsListed, AreApart, IsNumberOf}
use Rattle.access_log.proofs.SlotLemmas.{at, at-same, is_at-same, is_at-apart}
use Rattle.access_log.specs.Slots.{in_slots, IsSlotted}
use Rattle.access_log.proofs.LaneLemmas.{lane_past, rising_all}
use Rattle.access_log.proofs.RetainedLemmas.{at_most, AtMost-true, at_most-true}

-- Two lists of the same entries, each once, are of one length

-- the list without the entry at this place
abbrev without : (ys : List StampedEntry) (y : StampedEntry) → IsListed y ys → List StampedEntry
without [] y h = []
without (x ∷ rest) y (inl same) = rest
without (x ∷ rest) y (inr h) = x ∷ without rest y h

length-without : (ys : List StampedEntry) (y : StampedEntry) (h : IsListed y ys)
    → length (without ys y h) + 1 ≡ length ys
length-without [] y h = absurd h
length-without (x ∷ rest) y (inl same) = omega arith
length-without (x ∷ rest) y (inr h) = let r = length-without rest y h in omega arith

still_listed : (ys : List StampedEntry) (y e : StampedEntry) (h : IsListed y ys) → IsListed e ys
    → (y ≡ e) ⊎ IsListed e (without ys y h)
still_listed [] y e h k = absurd h
still_listed (x ∷ rest) y e (inl same) (inl here) = inl (sym same ∙ here)
still_listed (x ∷ rest) y e (inl same) (inr k) = inr k
still_listed (x ∷ rest) y e (inr h) (inl here) = inr (inl here)
still_listed (x ∷ rest) y e (inr h) (inr k) = ⊎_elim (λ q. inl q) (λ q. inr (inr q)) (still_listed rest y e h k)

no_longer : (xs ys : List StampedEntry) → AreApart xs → ((e : StampedEntry) → IsListed e xs → IsListed e ys)
    → length xs ≤ length ys
no_longer [] ys apart within = omega arith
no_longer (x ∷ xs) ys apart within =
    let here : IsListed x ys = within x (inl refl) in
    let left : length xs ≤ length (without ys x here) = no_longer xs (without ys x here) apart.1
    (λ e h. ⊎_elim (λ q. absurd (apart.0 (subst (λ (f : StampedEntry). IsListed f xs) (sym q) h))) (λ k. k)
    (still_listed ys x e here (within e (inr h)))) in
    let one = length-without ys x here in
    omega arith

-- a property has one number
pub one_number : (P Q : StampedEntry → Type 0) (n k : ℕ) → ((e : StampedEntry) → P e ↔ Q e) → IsNumberOf P n
    → IsNumberOf Q k → n ≡ k
one_number P Q n k same p q =
    let up : length p.entries ≤ length q.entries =
    no_longer p.entries q.entries p.apart (λ e h. (q.each e).1 ((same e).0 ((p.each e).0 h))) in
    let down : length q.entries ≤ length p.entries =
    no_longer q.entries p.entries q.apart (λ e h. (p.each e).1 ((same e).1 ((q.each e).0 h))) in
    let a = p.long in
    let b = q.long in
    omega arith

pub IsNumberOf-same : (P Q : StampedEntry → Type 0) (n : ℕ) → ((e : StampedEntry) → P e ↔ Q e) → IsNumberOf P n
    → IsNumberOf Q n
IsNumberOf-same P Q n same p = record {
  entries = p.entries;
  each = λ e. (λ h. (same e).0 ((p.each e).0 h), λ h. (p.each e).1 ((same e).1 h));
  apart = p.apart;
  long = p.long;
}

-- The entries of one lane

-- the lane has this entry at this number
abbrev LaneHas : ℕ → StampedEntry → List (ℕ × StampedEntry) → Type 0
LaneHas n e [] = ⊥
LaneHas n e (x ∷ rest) = ((x.0 ≡ n) × (x.1 ≡ e)) ⊎ LaneHas n e rest

abbrev entries_of : List (ℕ × StampedEntry) → List StampedEntry
entries_of [] = []
entries_of (x ∷ rest) = x.1 ∷ entries_of rest

length-entries_of : (es : List (ℕ × StampedEntry)) → length (entries_of es) ≡ length es
length-entries_of [] = refl
length-entries_of (x ∷ es) = let r = length-entries_of es in omega arith

above_least : (least n : ℕ) (e : StampedEntry) (es : List (ℕ × StampedEntry)) → IsRising least es → LaneHas n e es
    → least < n
above_least least n e [] rising h = absurd h
above_least least n e (x ∷ es) rising (inl (number, same)) = let first = rising.0 in omega arith
above_least least n e (x ∷ es) rising (inr h) =
    let first = rising.0 in let later = above_least x.0 n e es rising.1 h in omega arith

at_number : (least n : ℕ) (e : StampedEntry) (es : List (ℕ × StampedEntry)) → IsRising least es → LaneHas n e es
    → at es n ≡ Some e
at_number least n e [] rising h = absurd h
at_number least n e (x ∷ es) rising (inl (number, same)) =
    ap (λ b. cond b (Some x.1) (at es n)) (is_at-same n x.0 (sym number)) ∙ ap Some same
at_number least n e (x ∷ es) rising (inr h) =
    let later = above_least x.0 n e es rising.1 h in
    let apart : n ≢ x.0 = λ q. omega arith in
    ap (λ b. cond b (Some x.1) (at es n)) (is_at-apart n x.0 apart) ∙ at_number x.0 n e es rising.1 h

number_at : (n : ℕ) (e : StampedEntry) (es : List (ℕ × StampedEntry)) → at es n ≡ Some e → LaneHas n e es
number_at n e [] h = absurd cc
number_at n e (x ∷ es) h = ⊎_elim (λ (q : n ≡ x.0). inl (
  sym q,
  let found = ap (λ b. cond b (Some x.1) (at es n)) (is_at-same n x.0 q) in
      let both : Some x.1 ≡ Some e = sym found ∙ h in cc,
)) (λ (q : n ≢ x.0). inr (number_at n e es (sym (ap (λ b. cond b (Some x.1) (at es n)) (is_at-apart n x.0 q)) ∙ h)))
    (is_or n x.0)

-- A map's keys rise

above_key : (k : ℕ) (es : List (ℕ × StampedEntry)) → AllByRecursion (λ y. nat_cmp k y ≡ Less) (keys_of es)
    → IsStrictlySortedBy nat_cmp (keys_of es) → IsRising k es
above_key k [] above sorted = tt
above_key k (x ∷ es) above sorted = (
  grind (arith, common_steps, nat_tests),
  above_key x.0 es (sorted_head nat_cmp x.0 (keys_of es) sorted) (sorted_tail nat_cmp x.0 (keys_of es) sorted),
)

rising_map : (least : ℕ) (es : List (ℕ × StampedEntry)) → IsStrictlySortedBy nat_cmp (keys_of es)
    → ((n : ℕ) → IsSome (at es n) → least < n) → IsRising least es
rising_map least [] sorted past = tt
rising_map least (x ∷ es) sorted past = (
  past x.0 (rw (at-same x.0 x.0 x.1 es refl) refl),
  above_key x.0 es (sorted_head nat_cmp x.0 (keys_of es) sorted) (sorted_tail nat_cmp x.0 (keys_of es) sorted),
)

IsRising-lower : (less least : ℕ) (es : List (ℕ × StampedEntry)) → less ≤ least → IsRising least es → IsRising less es
IsRising-lower less least [] h rising = tt
IsRising-lower less least (x ∷ es) h rising = (let first = rising.0 in omega arith, rising.1)

rising_slots : (from : ℕ) (contiguous : List (Option StampedEntry)) (out_of_order : List (ℕ × StampedEntry))
    → IsRising (from + length contiguous) out_of_order → IsRising from (in_slots from contiguous ++ out_of_order)
rising_slots from [] out_of_order rising = IsRising-lower _ _ out_of_order (omega arith) rising
rising_slots from (None ∷ contiguous) out_of_order rising =
    IsRising-lower from (from + 1) _ (omega arith)
    (rising_slots (from + 1) contiguous out_of_order (IsRising-lower _ _ out_of_order (omega arith) rising))
rising_slots from (Some e ∷ contiguous) out_of_order rising = (
  omega arith,
  rising_slots (from + 1) contiguous out_of_order (IsRising-lower _ _ out_of_order (omega arith) rising),
)

-- the numbers in slots and in the map past them rise
pub slotted_rising : (covered : ℕ) (contiguous : List (Option StampedEntry)) (out_of_order : List (ℕ × StampedEntry))
    → IsSlotted covered contiguous out_of_order → IsStrictlySortedBy nat_cmp (keys_of out_of_order)
    → IsRising covered (in_slots covered contiguous ++ out_of_order)
slotted_rising covered contiguous out_of_order is sorted =
    rising_slots covered contiguous out_of_order (rising_map (covered + length contiguous) out_of_order sorted is.past)

-- where each entry has its number, none stands twice
listed_at : (e : StampedEntry) (es : List (ℕ × StampedEntry)) → IsListed e (entries_of es) → (n : ℕ) × LaneHas n e es
listed_at e [] h = absurd h
listed_at e (x ∷ es) (inl same) = (x.0, inl (refl, same))
listed_at e (x ∷ es) (inr h) = let r = listed_at e es h in (r.0, inr r.1)

at_listed : (n : ℕ) (e : StampedEntry) (es : List (ℕ × StampedEntry)) → LaneHas n e es → IsListed e (entries_of es)
at_listed n e [] h = absurd h
at_listed n e (x ∷ es) (inl h) = inl h.1
at_listed n e (x ∷ es) (inr h) = inr (at_listed n e es h)

entries_apart : (least : ℕ) (es : List (ℕ × StampedEntry)) → IsRising least es
    → ((n : ℕ) (e : StampedEntry) → LaneHas n e es → e.number ≡ n) → AreApart (entries_of es)
entries_apart least [] rising numbered = tt
entries_apart least (x ∷ es) rising numbered = (
  λ h.
      let r = listed_at x.1 es h in
      let later = above_least x.0 r.0 x.1 es rising.1 r.1 in
      let here = numbered x.0 x.1 (inl (refl, refl)) in let there = numbered r.0 x.1 (inr r.1) in omega arith,
  entries_apart x.0 es rising.1 (λ n e h. numbered n e (inr h)),
)

-- The entries of all lanes

abbrev members : List Lane → List StampedEntry
members [] = []
members (l ∷ held) = entries_of l.entries ++ members held

length-members : (held : List Lane) → length (members held) ≡ held_count held
length-members [] = omega arith
length-members (l ∷ held) =
    let first = length-entries_of l.entries in
    let rest = length-members held in
    let sum = sum_by-cons (λ (x : Lane). length x.entries) l held in
    let both : length (entries_of l.entries ++ members held) ≡ length (entries_of l.entries) + length (members held) =
    length-append (entries_of l.entries) (members held) in
    omega arith

listed_left : (e : StampedEntry) (xs ys : List StampedEntry) → IsListed e xs → IsListed e (xs ++ ys)
listed_left e [] ys h = absurd h
listed_left e (x ∷ xs) ys (inl same) = inl same
listed_left e (x ∷ xs) ys (inr h) = inr (listed_left e xs ys h)

listed_right : (e : StampedEntry) (xs ys : List StampedEntry) → IsListed e ys → IsListed e (xs ++ ys)
listed_right e [] ys h = h
listed_right e (x ∷ xs) ys h = inr (listed_right e xs ys h)

listed_either : (e : StampedEntry) (xs ys : List StampedEntry) → IsListed e (xs ++ ys) → IsListed e xs ⊎ IsListed e ys
listed_either e [] ys h = inr h
listed_either e (x ∷ xs) ys (inl same) = inl (inl same)
listed_either e (x ∷ xs) ys (inr h) = ⊎_elim (λ k. inl (inr k)) (λ k. inr k) (listed_either e xs ys h)

apart_both : (xs ys : List StampedEntry) → AreApart xs → AreApart ys
    → ((e : StampedEntry) → IsListed e xs → IsListed e ys → ⊥) → AreApart (xs ++ ys)
apart_both [] ys a b none = b
apart_both (x ∷ xs) ys a b none =
    (λ h. ⊎_elim a.0 (none x (inl refl)) (listed_either x xs ys h), apart_both xs ys a.1 b (λ e h. none e (inr h)))

-- lanes from this thread on: each entry in that of its thread, by its number, and the numbers rise
record AreLanes (from : ℕ) (held : List Lane) : Type 0 where
  named : (t n : ℕ) (e : StampedEntry) → entry_at (lane held t) n ≡ Some e → (e.thread ≡ from + t) × (e.number ≡ n)
  rising : (t : ℕ) → IsRising (lane held t).covered (lane held t).entries

later_lanes : (from : ℕ) (l : Lane) (held : List Lane) → AreLanes from (l ∷ held) → AreLanes (from + 1) held
later_lanes from l held are = record {
  named = λ t n e h. let both = are.named (suc t) n e h in (let thread = both.0 in omega arith, both.1);
  rising = λ t. are.rising (suc t);
}

listed_member : (from : ℕ) (held : List Lane) (e : StampedEntry) → AreLanes from held → IsListed e (members held)
    → (t : ℕ) × (e.thread ≡ from + t) × (entry_at (lane held t) e.number ≡ Some e)
listed_member from [] e are h = absurd h
listed_member from (l ∷ held) e are h =
    ⊎_elim
    (λ k.
    let r = listed_at e l.entries k in
    let found = at_number l.covered r.0 e l.entries (are.rising 0) r.1 in
    let both = are.named 0 r.0 e found in (zero, both.0, ap (λ (n : ℕ). at l.entries n) both.1 ∙ found))
    (λ k.
    let r = listed_member (from + 1) held e (later_lanes from l held are) k in
    (suc r.0, (let thread = r.1 in omega arith), r.2)) (listed_either e (entries_of l.entries) (members held) h)

member_listed : (held : List Lane) (e : StampedEntry) (t n : ℕ) → entry_at (lane held t) n ≡ Some e
    → IsListed e (members held)
member_listed [] e t n h = absurd cc
member_listed (l ∷ held) e zero n h =
    listed_left e (entries_of l.entries) (members held) (at_listed n e l.entries (number_at n e l.entries h))
member_listed (l ∷ held) e (suc t) n h =
    listed_right e (entries_of l.entries) (members held) (member_listed held e t n h)

members_apart : (from : ℕ) (held : List Lane) → AreLanes from held → AreApart (members held)
members_apart from [] are = tt
members_apart from (l ∷ held) are =
    apart_both (entries_of l.entries) (members held)
    (entries_apart l.covered l.entries (are.rising 0)
    (λ n e h. (are.named 0 n e (at_number l.covered n e l.entries (are.rising 0) h)).1))
    (members_apart (from + 1) held (later_lanes from l held are))
    (λ e here there.
    let r = listed_at e l.entries here in
    let first = (are.named 0 r.0 e (at_number l.covered r.0 e l.entries (are.rising 0) r.1)).0 in
    let s = listed_member (from + 1) held e (later_lanes from l held are) there in let other = s.1 in omega arith)

lanes_of_set : (held : List Lane) → IsHeldSet held → AreLanes 0 held
lanes_of_set held is = record {
  named = λ t n e h. let both = is.named t n e h in (let thread = both.0 in omega arith, both.1);
  rising = is.rising;
}

-- the count of a held set is the number of its members
pub number_of_members : (held : List Lane) → IsHeldSet held → IsNumberOf (IsMember held) (held_count held)
number_of_members held is = record {
  entries = members held;
  each = λ e. (
    λ h.
        let r = listed_member 0 held e (lanes_of_set held is) h in
        let thread : e.thread ≡ r.0 = omega (arith, r.1) in
        ap (λ (t : ℕ). entry_at (lane held t) e.number) thread ∙ r.2,
    λ h. member_listed held e e.thread e.number h,
  );
  apart = members_apart 0 held (lanes_of_set held is);
  long = length-members held;
}

pub same_members : (held other : List Lane) → IsHeldSet held → IsHeldSet other
    → ((e : StampedEntry) → IsMember held e ↔ IsMember other e) → held_count held ≡ held_count other
same_members held other a b same = one_number (IsMember held) (IsMember other) (held_count held) (held_count other) same
    (number_of_members held a) (number_of_members other b)

-- covered up to counts: the members above them are left
covered_at : (old new : List Lane) (counts : List ℕ) → length new ≡ length old
    → ((t : ℕ) → t < length old → CoversUpTo (lane old t) (lane new t) (slice_index counts t)) → (t n : ℕ)
    (e : StampedEntry)
    → (entry_at (lane new t) n ≡ Some e) ↔ ((entry_at (lane old t) n ≡ Some e) × (slice_index counts t < n))
covered_at old new counts long covers t n e =
    ⊎_elim
    (λ (h : t < length old).
    let held = (covers t h).held n in
    ⊎_elim
    (λ (above : slice_index counts t < n).
    let past : leb n (slice_index counts t) ≡ false = grind (arith, nat_tests) in
    let same : entry_at (lane new t) n ≡ entry_at (lane old t) n =
    held ∙ ap (λ b. cond b None (entry_at (lane old t) n)) past in
    (λ q. (sym same ∙ q, above), λ q. same ∙ q.0))
    (λ up.
    let within : leb n (slice_index counts t) ≡ true = grind (arith, nat_tests) in
    let none : entry_at (lane new t) n ≡ None = held ∙ ap (λ b. cond b None (entry_at (lane old t) n)) within in
    (λ q. let both : None ≡ Some e = sym none ∙ q in absurd cc, λ q. let above = q.1 in absurd (omega arith)))
    (cases_lt (slice_index counts t) n))
    (λ h.
    let o = lane_past old t h in
    let k = lane_past new t (omega arith) in rw (o, k) (λ q. absurd cc, λ q. let none = q.0 in absurd cc))
    (cases_lt t (length old))

pub number_above : (old new : List Lane) (counts : List ℕ) → IsHeldSet old → length new ≡ length old
    → ((t : ℕ) → t < length old → CoversUpTo (lane old t) (lane new t) (slice_index counts t))
    → ((t : ℕ) → t < length old → IsRising (lane new t).covered (lane new t).entries)
    → IsNumberOf (IsMemberAbove old counts) (held_count new)
number_above old new counts is long covers rising =
    let left = covered_at old new counts long covers in
    let few = is.few in
    let set : IsHeldSet new = record {
      few = omega arith;
      named = λ t n e h. is.named t n e ((left t n e).0 h).0;
      rising = rising_all new (λ t h. rising t (omega arith));
    } in
    IsNumberOf-same (IsMember new) (IsMemberAbove old counts) (held_count new) (λ e. left e.thread e.number e)
    (number_of_members new set)

-- The dropped members

-- the entries that pass a test, and those that do not
abbrev passing : (StampedEntry → Bool) → List StampedEntry → List StampedEntry
passing p [] = []
passing p (x ∷ rest) = cond (p x) (x ∷ passing p rest) (passing p rest)

listed_passing : (p : StampedEntry → Bool) (xs : List StampedEntry) (e : StampedEntry)
    → IsListed e (passing p xs) ↔ (IsListed e xs × (p e ≡ true))
listed_passing p [] e = (λ h. absurd h, λ h. absurd h.0)
listed_passing p (x ∷ xs) e =
    let rest = listed_passing p xs e in
    elim (p x) as
    (λ b. p x ≡ b → IsListed e (cond b (x ∷ passing p xs) (passing p xs)) ↔ (IsListed e (x ∷ xs) × (p e ≡ true))) [
      | true ↦ λ q. (
        λ h. ⊎_elim (λ (same : x ≡ e). (inl same, ap p (sym same) ∙ q)) (λ k. let r = rest.0 k in (inr r.0, r.1)) h,
        λ h. ⊎_elim (λ (same : x ≡ e). inl same) (λ k. inr (rest.1 (k, h.1))) h.0,
      )
      | false ↦ λ q. (
        λ h. let r = rest.0 h in (inr r.0, r.1),
        λ h. ⊎_elim (λ (same : x ≡ e). let both : false ≡ true = sym q ∙ ap p same ∙ h.1 in absurd cc)
            (λ k. rest.1 (k, h.1)) h.0,
      )
    ] refl

passing_apart : (p : StampedEntry → Bool) (xs : List StampedEntry) → AreApart xs → AreApart (passing p xs)
passing_apart p [] apart = tt
passing_apart p (x ∷ xs) apart =
    elim (p x) as (λ b. AreApart (cond b (x ∷ passing p xs) (passing p xs))) [
      | true ↦ (λ h. apart.0 ((listed_passing p xs x).0 h).0, passing_apart p xs apart.1)
      | false ↦ passing_apart p xs apart.1
    ]

length-passing : (p : StampedEntry → Bool) (xs : List StampedEntry)
    → length (passing p xs) + length (passing (λ x. not (p x)) xs) ≡ length xs
length-passing p [] = omega arith
length-passing p (x ∷ xs) =
    let rest = length-passing p xs in
    elim (p x) as
    (λ b.
    length (cond b (x ∷ passing p xs) (passing p xs))
    + length (cond (not b) (x ∷ passing (λ x. not (p x)) xs) (passing (λ x. not (p x)) xs))
    ≡ length (x ∷ xs)) [
      | true ↦ omega arith
      | false ↦ omega arith
    ]

number_passing : (P Q : StampedEntry → Type 0) (p : StampedEntry → Bool) (n : ℕ) (all : IsNumberOf P n)
    → ((e : StampedEntry) → Q e ↔ (P e × (p e ≡ true))) → IsNumberOf Q (length (passing p all.entries))
number_passing P Q p n all same = record {
  entries = passing p all.entries;
  each = λ e.
      let listed = listed_passing p all.entries e in
      let q = same e in
      let a = all.each e in
      (λ h. let r = listed.0 h in q.1 (a.0 r.0, r.1), λ h. let r = q.0 h in listed.1 (a.1 r.0, r.1));
  apart = passing_apart p all.entries all.apart;
  long = refl;
}

gone_not : (P Q : Type 0) (b : Bool) → Q ↔ (P × (b ≡ true)) → (P × (Q → ⊥)) ↔ (P × (not b ≡ true))
gone_not P Q true same = (λ h. absurd (h.1 (same.1 (h.0, refl))), λ h. let no = h.1 in absurd cc)
gone_not P Q false same = (λ h. (h.0, refl), λ h. (h.0, λ q. let no = (same.0 q).1 in cc))

pub number_dropped : (old new : List Lane) (frontiers : List ℕ) (dropped : ℕ) → IsHeldSet old → IsHeldSet new
    → ((t : ℕ) → RetainsAtMost (lane old t) (lane new t) frontiers) → held_count new + dropped ≡ held_count old
    → IsNumberOf (IsDropped old new) dropped
number_dropped old new frontiers dropped a b retains counted =
    let p : StampedEntry → Bool = λ e. at_most e.stamp frontiers in
    let all = number_of_members old a in
    let left : (e : StampedEntry) → IsMember new e ↔ (IsMember old e × (p e ≡ true)) = λ e.
    let held = (retains e.thread).held e.number e in (
      λ h. let r = held.0 h in (r.0, at_most-true e.stamp frontiers r.1),
      λ h. held.1 (h.0, AtMost-true e.stamp frontiers h.1),
    ) in
    let gone : (e : StampedEntry) → IsDropped old new e ↔ (IsMember old e × (not (p e) ≡ true)) =
    λ e. gone_not (IsMember old e) (IsMember new e) (p e) (left e) in
    let kept = one_number (IsMember new) (IsMember new) _ _ (λ e. (λ h. h, λ h. h))
    (number_passing (IsMember old) (IsMember new) p _ all left) (number_of_members new b) in
    let parts = length-passing p all.entries in
    let long = all.long in
    let same : length (passing (λ e. not (p e)) all.entries) ≡ dropped = omega arith in
    subst (λ n. IsNumberOf (IsDropped old new) n) same
    (number_passing (IsMember old) (IsDropped old new) (λ e. not (p e)) _ all gone)
