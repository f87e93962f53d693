-- The weight of an entry is the sum of the components of its stamp, and precedes lowers it.
use Rattle.std.proofs.Common.{◌≡◌, ℕ, zero, suc, ◌+◌, ◌≤◌, ◌<◌, ◌≢◌, true, false, List, [], ◌∷◌, refl, sym, ap, ◌∙◌}
use Rattle.std.proofs.Common.{subst, inl, inr, ◌⊎◌, arith, cond, length, get_or, take, sum, slice_index, add-one}
use Rattle.std.specs.Prelude.{nat_le, min}
use Rattle.std.proofs.Math.Seq.{take-length}
use Rattle.std.proofs.lemmas.List.Sums.{fold_more}
use Rattle.std.proofs.lemmas.Bool.{cases_lt}
use Rattle.std.proofs.lemmas.Bool.Decides.{nat_tests}
use Rattle.entry_order.specs.Log.{Entry, PrecedesOrIs, entries, IsLog, IsIn, Precedes}
use Rattle.entry_order.specs.Stamps.{IsStamp, IsCount, IsWeight, sum_below}
use Rattle.entry_order.proofs.Order.{is_or, number_within, precedes_trans}
use Rattle.entry_order.proofs.Positions.{not_precedes_itself}
use Rattle.entry_order.proofs.Parts.{stamp_covers}

-- Counts

-- a list has one count of a property
pub count_unique : (P : Entry → Type 0) (xs : List Entry) (n k : ℕ) → IsCount P xs n → IsCount P xs k → n ≡ k
count_unique P [] n k a b = a ∙ sym b
count_unique P (x ∷ xs) n k (inl a) (inl b) =
    let q : a.1 ≡ b.1 = count_unique P xs a.1 b.1 a.3 b.3 in omega (arith, a.2, b.2)
count_unique P (x ∷ xs) n k (inl a) (inr b) = absurd (b.0 a.0)
count_unique P (x ∷ xs) n k (inr a) (inl b) = absurd (a.0 b.0)
count_unique P (x ∷ xs) n k (inr a) (inr b) = count_unique P xs n k a.1 b.1

-- more members have a weaker property
count_within : (P Q : Entry → Type 0) (xs : List Entry) (n k : ℕ) → ((f : Entry) → P f → Q f) → IsCount P xs n
    → IsCount Q xs k → n ≤ k
count_within P Q [] n k h a b = omega arith
count_within P Q (x ∷ xs) n k h (inl a) (inl b) =
    let q : a.1 ≤ b.1 = count_within P Q xs a.1 b.1 h a.3 b.3 in omega (arith, a.2, b.2)
count_within P Q (x ∷ xs) n k h (inl a) (inr b) = absurd (b.0 (h x a.0))
count_within P Q (x ∷ xs) n k h (inr a) (inl b) =
    let q : n ≤ b.1 = count_within P Q xs n b.1 h a.1 b.3 in omega (arith, b.2)
count_within P Q (x ∷ xs) n k h (inr a) (inr b) = count_within P Q xs n k h a.1 b.1

-- and strictly more, where one of them has it alone
count_less : (P Q : Entry → Type 0) (xs : List Entry) (n k : ℕ) (g : Entry) → ((f : Entry) → P f → Q f) → IsIn g xs
    → Q g → (P g → ⊥) → IsCount P xs n → IsCount Q xs k → n < k
count_less P Q [] n k g h here has lacks a b = absurd here
count_less P Q (x ∷ xs) n k g h (inl same) has lacks (inl a) b = absurd (lacks (subst P same a.0))
count_less P Q (x ∷ xs) n k g h (inl same) has lacks (inr a) (inl b) =
    let q : n ≤ b.1 = count_within P Q xs n b.1 h a.1 b.3 in omega (arith, b.2)
count_less P Q (x ∷ xs) n k g h (inl same) has lacks (inr a) (inr b) = absurd (b.0 (subst Q (sym same) has))
count_less P Q (x ∷ xs) n k g h (inr here) has lacks (inl a) (inl b) =
    let q : a.1 < b.1 = count_less P Q xs a.1 b.1 g h here has lacks a.3 b.3 in omega (arith, a.2, b.2)
count_less P Q (x ∷ xs) n k g h (inr here) has lacks (inl a) (inr b) = absurd (b.0 (h x a.0))
count_less P Q (x ∷ xs) n k g h (inr here) has lacks (inr a) (inl b) =
    let q : n < b.1 = count_less P Q xs n b.1 g h here has lacks a.1 b.3 in omega (arith, b.2)
count_less P Q (x ∷ xs) n k g h (inr here) has lacks (inr a) (inr b) = count_less P Q xs n k g h here has lacks a.1 b.1

-- Precedes lowers the weight.
pub weight_falls : (log : List Entry) (e f : Entry) (n k : ℕ) → IsLog log → IsIn f log → Precedes log e f
    → IsWeight log e n → IsWeight log f k → n < k
weight_falls log e f n k good here p a b =
    count_less (λ g. PrecedesOrIs log g e) (λ g. PrecedesOrIs log g f) log n k f further here (inl refl) not_back a b
  where
    further : (g : Entry) → PrecedesOrIs log g e → PrecedesOrIs log g f
    further g (inl q) = inr (subst (λ (z : Entry). Precedes log z f) (sym q) p)
    further g (inr q) = inr (precedes_trans log g e f q p)

    not_back : PrecedesOrIs log f e → ⊥
    not_back (inl q) = not_precedes_itself log e good (subst (λ (z : Entry). Precedes log e z) q p)
    not_back (inr q) = not_precedes_itself log e good (precedes_trans log e f e p q)

-- Sums of components

-- a sum hangs on its terms alone
pub sum_below_same : (n : ℕ) (f g : ℕ → ℕ) → ((u : ℕ) → u < n → f u ≡ g u) → sum_below n f ≡ sum_below n g
sum_below_same zero f g h = refl
sum_below_same (suc n) f g h =
    let a : sum_below n f ≡ sum_below n g = sum_below_same n f g (λ u l. h u (omega arith)) in
    let b : f n ≡ g n = h n (omega arith) in omega arith

-- one more at one term is one more
pub sum_below_more : (n t : ℕ) (f g : ℕ → ℕ) → t < n → f t ≡ g t + 1 → ((u : ℕ) → u ≢ t → f u ≡ g u)
    → sum_below n f ≡ sum_below n g + 1
sum_below_more zero t f g low h same = absurd (omega arith)
sum_below_more (suc n) t f g low h same = go (is_or t n) (λ k. sum_below_more n t f g k h same)
  where
    go : (t ≡ n) ⊎ (t ≢ n) → (t < n → sum_below n f ≡ sum_below n g + 1) → sum_below n f + f n ≡ sum_below n g + g n + 1
    go (inl e) rest =
        let a : sum_below n f ≡ sum_below n g =
        sum_below_same n f g (λ u l. same u (λ k. let q : u ≡ n = k ∙ e in absurd (omega arith))) in
        let b : f n ≡ g n + 1 = subst (λ (u : ℕ). f u ≡ g u + 1) e h in omega arith
    go (inr e) rest =
        let a : sum_below n f ≡ sum_below n g + 1 = rest (omega arith) in
        let b : f n ≡ g n = same n (λ k. e (sym k)) in omega arith

-- how many entries of the log a stamp covers
abbrev covered : List Entry → (ℕ → ℕ) → ℕ
covered [] stamp = 0
covered (f ∷ log) stamp = cond (nat_le f.number (stamp f.thread)) (covered log stamp + 1) (covered log stamp)

-- a stamp, cut at the counts of the log
capped : (ℕ → ℕ) → List Entry → ℕ → ℕ
capped s log u = min (s u) (entries u log)

-- nothing is below the counts of an empty log
sum_below_none : (n : ℕ) (s : ℕ → ℕ) → sum_below n (capped s []) ≡ 0
unfolding capped
sum_below_none zero s = refl
sum_below_none (suc n) s = let a : sum_below n (λ u. min (s u) 0) ≡ 0 = sum_below_none n s in omega arith

-- a stamp covers as many entries as its cut components sum to
covered_capped : (log : List Entry) (n : ℕ) (s : ℕ → ℕ) → IsLog log → ((e : Entry) → IsIn e log → e.thread < n)
    → covered log s ≡ sum_below n (capped s log)
unfolding capped
covered_capped [] n s good low = sym (sum_below_none n s)
covered_capped (e ∷ log) n s good low =
    go (cases_lt (s e.thread) e.number) (covered_capped log n s good.2 (λ f h. low f (inr h)))
  where
    other : (u : ℕ) → u ≢ e.thread → entries u (e ∷ log) ≡ entries u log
    other u ne = grind (arith, nat_tests)

    mine : entries e.thread (e ∷ log) ≡ entries e.thread log + 1
    mine = grind (arith, nat_tests)

    go : (s e.thread < e.number) ⊎ (e.number ≤ s e.thread)
        → covered log s ≡ sum_below n (λ u. min (s u) (entries u log))
        → cond (nat_le e.number (s e.thread)) (covered log s + 1) (covered log s)
        ≡ sum_below n (λ u. min (s u) (entries u (e ∷ log)))
    go (inl k) rest =
        let t : nat_le e.number (s e.thread) ≡ false = grind (arith, nat_tests) in
        rw t (rest
        ∙ sym (sum_below_same n (λ u. min (s u) (entries u (e ∷ log))) (λ u. min (s u) (entries u log))
        (λ u l. each u (is_or u e.thread))))
      where
        each : (u : ℕ) → (u ≡ e.thread) ⊎ (u ≢ e.thread) → min (s u) (entries u (e ∷ log)) ≡ min (s u) (entries u log)
        each u (inl q) = subst (λ (x : ℕ). min (s x) (entries x (e ∷ log)) ≡ min (s x) (entries x log)) (sym q)
            (omega (arith, mine, good.0))
        each u (inr q) = ap (λ (x : ℕ). min (s u) x) (other u q)
    go (inr k) rest =
        let t : nat_le e.number (s e.thread) ≡ true = grind (arith, nat_tests) in
        rw t (ap (λ (x : ℕ). x + 1) rest
        ∙ sym (sum_below_more n e.thread (λ u. min (s u) (entries u (e ∷ log))) (λ u. min (s u) (entries u log))
        (low e (inl refl)) (omega (arith, mine, good.0)) (λ u q. ap (λ (x : ℕ). min (s u) x) (other u q))))

-- a component of a stamp is at most the count of its thread
pub stamp_within : (log : List Entry) (e : Entry) (s : ℕ → ℕ) (u : ℕ) → IsLog log → IsStamp log e s
    → s u ≤ entries u log
stamp_within log e s u good st = go (st.reached u)
  where
    go : (s u ≡ 0) ⊎ ((f : Entry) × IsIn f log × (f.thread ≡ u) × (f.number ≡ s u) × PrecedesOrIs log f e)
        → s u ≤ entries u log
    go (inl z) = omega arith
    go (inr (f, hf, t, n, r)) =
        let w : (1 ≤ f.number) × (f.number ≤ entries f.thread log) = number_within log f good hf in
        let same : entries f.thread log ≡ entries u log = ap (λ (k : ℕ). entries k log) t in omega (arith, w, n)

-- how many entries precede or are an entry is how many its stamp covers
count_covered : (log : List Entry) (e : Entry) (s : ℕ → ℕ) → IsLog log → IsStamp log e s → (xs : List Entry)
    → ((f : Entry) → IsIn f xs → IsIn f log) → IsCount (λ f. PrecedesOrIs log f e) xs (covered xs s)
count_covered log e s good st [] sub = refl
count_covered log e s good st (f ∷ xs) sub =
    go (cases_lt (s f.thread) f.number) (count_covered log e s good st xs (λ g h. sub g (inr h)))
  where
    go : (s f.thread < f.number) ⊎ (f.number ≤ s f.thread) → IsCount (λ g. PrecedesOrIs log g e) xs (covered xs s)
        → IsCount (λ g. PrecedesOrIs log g e) (f ∷ xs) (covered (f ∷ xs) s)
    go (inl k) rest =
        let t : nat_le f.number (s f.thread) ≡ false = grind (arith, nat_tests) in
        rw t (inr ((λ p. let low : f.number ≤ s f.thread = st.above f (sub f (inl refl)) p in omega arith), rest))
    go (inr k) rest =
        let t : nat_le f.number (s f.thread) ≡ true = grind (arith, nat_tests) in
        rw t (inl (stamp_covers log e f s good st (sub f (inl refl)) k, covered xs s, refl, rest))

-- The weight of an entry is the sum of the components of its stamp.
pub weight_is_sum : (log : List Entry) (n : ℕ) (e : Entry) (s : ℕ → ℕ) → IsLog log
    → ((f : Entry) → IsIn f log → f.thread < n) → IsStamp log e s → IsWeight log e (sum_below n s)
unfolding capped
weight_is_sum log n e s good low st =
    subst (λ (k : ℕ). IsWeight log e k)
    (covered_capped log n s good low
    ∙ sum_below_same n (λ u. min (s u) (entries u log)) s
    (λ u l. let k : s u ≤ entries u log = stamp_within log e s u good st in omega arith))
    (count_covered log e s good st log (λ f h. h))

-- the sum of a list's first elements
sum_taken : (xs : List ℕ) (n : ℕ) → n ≤ length xs → sum_below n (λ u. slice_index xs u) ≡ sum (take n xs)
sum_taken xs zero low = refl
sum_taken xs (suc n) low =
    let a : sum_below n (λ u. slice_index xs u) ≡ sum (take n xs) = sum_taken xs n (omega arith) in
    let b : sum (take (n + 1) xs) ≡ sum (take n xs) + get_or xs n 0 = fold_more (λ a x. a + x) 0 xs n 0 (omega arith) in
    let c : sum (take (suc n) xs) ≡ sum (take n xs) + get_or xs n 0 =
    subst (λ (k : ℕ). sum (take k xs) ≡ sum (take n xs) + get_or xs n 0) (add-one n) b in
    omega arith

-- The sum of the components of a stamp that is kept as a list is the sum of the list.
pub sum_below_list : (xs : List ℕ) → sum_below (length xs) (λ u. slice_index xs u) ≡ sum xs
sum_below_list xs = sum_taken xs (length xs) (omega arith) ∙ ap (λ (ys : List ℕ). sum ys) (take-length xs)
