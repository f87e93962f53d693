-- Ports in a row of parts: the one at an index stands in one part, and a port is put into the part that spans it.
use Rattle.std.proofs.Common.{◌≡◌, ℕ, zero, suc, ◌+◌, ◌-◌, ◌*◌, ◌<◌, ◌≤◌, Bool, true, false, List, [], ◌∷◌, ◌++◌}
use Rattle.std.proofs.Common.{length, get_or, set, take, refl, sym, ap, subst, ◌∙◌, arith}
use Rattle.std.specs.Prelude.{◌==◌, nat_lt}
use Rattle.std.specs.List.{remove, All, sum_by}
use Rattle.std.proofs.lemmas.List.{length-append, get_or_append_left, get_or-append_right, get_or_default, take_all}
use Rattle.std.proofs.lemmas.List.Edits.{remove-append_left, remove-append_right}
use Rattle.std.proofs.lemmas.List.Elements.{All-head, All-tail}
use Rattle.std.proofs.lemmas.List.Sums.{sum_by-cons, sum_by_more}
use Rattle.std.proofs.lemmas.Bool.Decides.{nat_tests}
use Rattle.nat_tables.specs.Ports.{given_back_to, with_port, ports_from, no_ports}
use Rattle.nat_tables.specs.Placing.{in_row, FallsIn}

-- each of these is below the port
abbrev pub AreBelow : ℕ → List ℕ → Type 0
AreBelow p [] = Unit {0}
AreBelow p (q ∷ qs) = (q < p) × AreBelow p qs

-- none of these is below the port
abbrev pub AreFrom : ℕ → List ℕ → Type 0
AreFrom p [] = Unit {0}
AreFrom p (q ∷ qs) = (p ≤ q) × AreFrom p qs

below_still : (p r : ℕ) (qs : List ℕ) → p ≤ r → AreBelow p qs → AreBelow r qs
below_still p r [] less all = tt
below_still p r (q ∷ qs) less all = let h = all.0 in (omega arith, below_still p r qs less all.1)

below_joined : (p : ℕ) (qs rs : List ℕ) → AreBelow p qs → AreBelow p rs → AreBelow p (qs ++ rs)
below_joined p [] rs front back = back
below_joined p (q ∷ qs) rs front back = (front.0, below_joined p qs rs front.1 back)

from_still : (p r : ℕ) (qs : List ℕ) → r ≤ p → AreFrom p qs → AreFrom r qs
from_still p r [] less all = tt
from_still p r (q ∷ qs) less all = let h = all.0 in (omega arith, from_still p r qs less all.1)

from_joined : (p : ℕ) (qs rs : List ℕ) → AreFrom p qs → AreFrom p rs → AreFrom p (qs ++ rs)
from_joined p [] rs front back = back
from_joined p (q ∷ qs) rs front back = (front.0, from_joined p qs rs front.1 back)

-- a port goes into the part that it stands in

port_first : (p : ℕ) (qs : List ℕ) → AreFrom (suc p) qs → with_port p qs ≡ p ∷ qs
port_first p [] all = refl
port_first p (q ∷ qs) all = let h = all.0 in let t : nat_lt p q ≡ true = grind (arith, nat_tests) in rw t refl

port_before : (p : ℕ) (qs rs : List ℕ) → AreFrom (suc p) rs → with_port p (qs ++ rs) ≡ with_port p qs ++ rs
port_before p [] rs all = port_first p rs all
port_before p (q ∷ qs) rs all = by (nat_lt p q) (p == q) refl refl (port_before p qs rs all)
  where
    by : (b c : Bool) → nat_lt p q ≡ b → (p == q) ≡ c → with_port p (qs ++ rs) ≡ with_port p qs ++ rs
        → with_port p (q ∷ qs ++ rs) ≡ with_port p (q ∷ qs) ++ rs
    by true c e f behind = rw e refl
    by false true e f behind = rw (e, f) refl
    by false false e f behind = rw (e, f) (ap (λ rest. q ∷ rest) behind)

port_behind : (p : ℕ) (qs rs : List ℕ) → AreBelow p qs → with_port p (qs ++ rs) ≡ qs ++ with_port p rs
port_behind p [] rs all = refl
port_behind p (q ∷ qs) rs all =
    let h = all.0 in
    let t : nat_lt p q ≡ false = grind (arith, nat_tests) in
    let u : (p == q) ≡ false = grind (arith, nat_tests) in
    rw (t, u) (ap (λ rest. q ∷ rest) (port_behind p qs rs all.1))

-- parts that hold what they should, have so many ports, and those where they span
module _ {B : Type 0} (ports : ℕ → B → List ℕ) (count : B → ℕ) (span : ℕ) (Holds : B → Type 0)
    (counted : (first : ℕ) (b : B) → Holds b → length (ports first b) ≡ count b)
    (low : (first : ℕ) (b : B) → AreFrom first (ports first b))
    (high : (first : ℕ) (b : B) → Holds b → AreBelow (first + span) (ports first b)) where
  pub row_length : (first : ℕ) (bs : List B) → All Holds bs → length (in_row ports span first bs) ≡ sum_by count bs
  row_length first [] all = refl
  row_length first (b ∷ bs) all =
      let here = counted first b (All-head Holds b bs all) in
      let behind = row_length (first + span) bs (All-tail Holds b bs all) in
      let whole = sum_by-cons count b bs in
      let parts = length-append (ports first b) (in_row ports span (first + span) bs) in omega arith

  pub row_from : (first : ℕ) (bs : List B) → AreFrom first (in_row ports span first bs)
  row_from first [] = tt
  row_from first (b ∷ bs) =
      from_joined first (ports first b) (in_row ports span (first + span) bs) (low first b)
      (from_still (first + span) first (in_row ports span (first + span) bs) (omega arith) (row_from (first + span) bs))

  pub row_below : (first end : ℕ) (bs : List B) → All Holds bs → first + length bs * span ≤ end
      → AreBelow end (in_row ports span first bs)
  row_below first end [] all fits = tt
  row_below first end (b ∷ bs) all fits =
      below_joined end (ports first b) (in_row ports span (first + span) bs)
      (below_still (first + span) end (ports first b) (omega arith) (high first b (All-head Holds b bs all)))
      (row_below (first + span) end bs (All-tail Holds b bs all) (omega arith))

  module _ (d : B) where
    pub row_index : (first at i left base : ℕ) (bs : List B) → All Holds bs → i < length bs
        → at ≡ sum_by count (take i bs) + left → left < count (get_or bs i d) → first + i * span ≡ base
        → get_or (in_row ports span first bs) at 0 ≡ get_or (ports base (get_or bs i d)) left 0
    row_index first at i left base [] all inside before within is = absurd (omega arith)
    row_index first at zero left base (b ∷ bs) all inside before within is =
        let same : first ≡ base = omega arith in
        let here = counted first b (All-head Holds b bs all) in
        let e : left ≡ at = omega (arith, before) in
        rw (← e, ← same) (get_or_append_left (ports first b) (in_row ports span (first + span) bs) 0 left (omega arith))
    row_index first at (suc i) left base (b ∷ bs) all inside before within is =
        let sums = sum_by-cons count b (take i bs) in
        get_or-append_right (ports first b) (in_row ports span (first + span) bs) (count b) at 0
        (counted first b (All-head Holds b bs all)) (omega arith)
        ∙ row_index (first + span) (at - count b) i left base bs (All-tail Holds b bs all) (omega arith) (omega arith)
        within (omega arith)

    pub row_removed : (first at i left base : ℕ) (b' : B) (bs : List B) → All Holds bs → i < length bs
        → at ≡ sum_by count (take i bs) + left → left < count (get_or bs i d) → first + i * span ≡ base
        → ports base b' ≡ remove (ports base (get_or bs i d)) left
        → in_row ports span first (set bs i b') ≡ remove (in_row ports span first bs) at
    row_removed first at i left base b' [] all inside before within is new = absurd (omega arith)
    row_removed first at zero left base b' (b ∷ bs) all inside before within is new =
        let same : base ≡ first = omega arith in
        let here = counted first b (All-head Holds b bs all) in
        let new' : ports first b' ≡ remove (ports first b) left =
        subst (λ (x : ℕ). ports x b' ≡ remove (ports x b) left) same new in
        let rest = in_row ports span (first + span) bs in
        let e : left ≡ at = omega (arith, before) in
        subst (λ (x : ℕ). ports first b' ++ rest ≡ remove (ports first b ++ rest) x) e
        (ap (λ front. front ++ rest) new' ∙ sym (remove-append_left (ports first b) rest left (omega arith)))
    row_removed first at (suc i) left base b' (b ∷ bs) all inside before within is new =
        let sums = sum_by-cons count b (take i bs) in
        let rest = in_row ports span (first + span) bs in
        ap (λ back. ports first b ++ back) (row_removed (first + span) (at - count b) i left base b' bs
        (All-tail Holds b bs all) (omega arith) (omega arith) within (omega arith) new)
        ∙ sym (remove-append_right (ports first b) rest (count b) at (counted first b (All-head Holds b bs all))
        (omega arith))

    pub row_with : (p first i base : ℕ) (b' : B) (bs : List B) → All Holds bs → i < length bs → first + i * span ≡ base
        → base ≤ p → p < base + span → ports base b' ≡ with_port p (ports base (get_or bs i d))
        → in_row ports span first (set bs i b') ≡ with_port p (in_row ports span first bs)
    row_with p first i base b' [] all inside is above below new = absurd (omega arith)
    row_with p first zero base b' (b ∷ bs) all inside is above below new =
        let same : base ≡ first = omega arith in
        let rest = in_row ports span (first + span) bs in
        let new' : ports first b' ≡ with_port p (ports first b) =
        subst (λ (x : ℕ). ports x b' ≡ with_port p (ports x b)) same new in
        ap (λ front. front ++ rest) new'
        ∙ sym (port_before p (ports first b) rest
        (from_still (first + span) (suc p) rest (omega arith) (row_from (first + span) bs)))
    row_with p first (suc i) base b' (b ∷ bs) all inside is above below new =
        let rest = in_row ports span (first + span) bs in
        ap (λ back. ports first b ++ back)
        (row_with p (first + span) i base b' bs (All-tail Holds b bs all) (omega arith) (omega arith) above below new)
        ∙ sym (port_behind p (ports first b) rest
        (below_still (first + span) p (ports first b) (omega arith) (high first b (All-head Holds b bs all))))

-- a walk over the counts: the index is behind the parts so far

pub found : {B : Type 0} (count : B → ℕ) (bs : List B) (at i left : ℕ) (d : B) → i < length bs
    → at ≡ sum_by count (take i bs) + left → left < count (get_or bs i d) → FallsIn count bs at i left
found count bs at i left d inside before within = record {
  inside = inside;
  before = before;
  within = λ e. subst (λ b. left < count b) (get_or_default bs i d e inside) within;
}

pub passed : {B : Type 0} (count : B → ℕ) (bs : List B) (at i left : ℕ) (d : B) → i < length bs
    → at ≡ sum_by count (take i bs) + left → count (get_or bs i d) ≤ left
    → at ≡ sum_by count (take (i + 1) bs) + (left - count (get_or bs i d))
passed count bs at i left d inside before behind = let more = sum_by_more count bs i d inside in omega arith

pub walked : {B : Type 0} (count : B → ℕ) (bs : List B) (at i left : ℕ) → length bs ≤ i
    → at ≡ sum_by count (take i bs) + left → at < sum_by count bs → ⊥
walked count bs at i left all before within =
    let whole : sum_by count (take i bs) ≡ sum_by count bs = ap (sum_by count) (take_all i bs all) in omega arith

-- one more port of a range
pub filled_next : (low next : ℕ) → low ≤ next
    → given_back_to next (ports_from low (next - low) no_ports) ≡ ports_from low (next + 1 - low) no_ports
filled_next low next past =
    let n : next + 1 - low ≡ suc (next - low) = omega arith in
    let p : low + (next - low) ≡ next = omega arith in
    rw n (ap (λ (p : ℕ). given_back_to p (ports_from low (next - low) no_ports)) (sym p))
