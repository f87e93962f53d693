-- How many threads have a component in a stamp: as many as its components that are not 0.
use Rattle.std.proofs.Common.{◌≡◌, ℕ, zero, suc, ◌+◌, ◌*◌, ◌<◌, ◌≤◌, ◌==◌, not, cond, List, [], ◌∷◌, length, take, refl}
use Rattle.std.proofs.Common.{sym, ap, ◌∙◌, subst, inl, inr, ◌⊎◌, arith, add-one, add-zero}
use Rattle.std.specs.Prelude.{slice_index}
use Rattle.std.proofs.lemmas.Bool.{cases_lt}
use Rattle.std.proofs.lemmas.Bool.Decides.{nat_tests}
use Rattle.std.proofs.lemmas.List.{take_all, get_or_past}
use Rattle.std.proofs.lemmas.List.Filters.{length-filter_more}
use Rattle.entry_order.specs.Log.{Entry, IsLog, IsIn, PrecedesOrIs, PrecedesOutput}
use Rattle.entry_order.specs.Stamps.{IsStamp, IsOutputStamp}
use Rattle.entry_order.proofs.Order.{number_within}
use Rattle.wire_frames.specs.Layout.{nonzero}
use Rattle.recovery_world.specs.World.{Sent}
use Rattle.recovery_world.specs.Frames.{IsThreadCount, IsEntryLength, IsOutputLength}

-- 1 for a component that is not 0
abbrev one_of : ℕ → ℕ
one_of c = cond (not (c == 0)) 1 0

-- how many of the first components are not 0, with one more
one_more : (stamp : List ℕ) (t : ℕ)
    → length (nonzero (take (suc t) stamp)) ≡ length (nonzero (take t stamp)) + one_of (slice_index stamp t)
one_more stamp t = go (cases_lt t (length stamp))
  where
    go : (t < length stamp) ⊎ (length stamp ≤ t)
        → length (nonzero (take (suc t) stamp)) ≡ length (nonzero (take t stamp)) + one_of (slice_index stamp t)
    go (inl low) =
        ap (λ (k : ℕ). length (nonzero (take k stamp))) (sym (add-one t))
        ∙ length-filter_more (λ (c : ℕ). not (c == 0)) stamp t 0 low
    go (inr high) =
        let zero_there : slice_index stamp t ≡ 0 = get_or_past stamp t 0 high in
        ap (λ (l : List ℕ). length (nonzero l))
        (take_all (suc t) stamp (omega (arith, high)) ∙ sym (take_all t stamp high))
        ∙ sym (ap (λ (c : ℕ). length (nonzero (take t stamp)) + one_of c) zero_there
        ∙ add-zero (length (nonzero (take t stamp))))

one_if : (c : ℕ) → 1 ≤ c → one_of c ≡ 1
one_if zero low = absurd (omega (arith, low))
one_if (suc c) low = grind (arith, nat_tests)

none_if : (c : ℕ) → c ≡ 0 → one_of c ≡ 0
none_if c is = ap one_of is

-- the threads with a component, among the first
first_threads : (P : ℕ → Type 0) (stamp : List ℕ) → ((u : ℕ) → P u → 1 ≤ slice_index stamp u)
    → ((u : ℕ) → 1 ≤ slice_index stamp u → P u) → (t : ℕ) → IsThreadCount P t (length (nonzero (take t stamp)))
first_threads P stamp to from zero = ap (λ (l : List ℕ). length (nonzero l)) (none_taken stamp)
  where
    none_taken : (l : List ℕ) → take 0 l ≡ []
    none_taken [] = refl
    none_taken (x ∷ l) = refl
first_threads P stamp to from (suc t) = go (first_threads P stamp to from t) (cases_lt (slice_index stamp t) 1)
  where
    go : IsThreadCount P t (length (nonzero (take t stamp))) → (slice_index stamp t < 1) ⊎ (1 ≤ slice_index stamp t)
        → IsThreadCount P (suc t) (length (nonzero (take (suc t) stamp)))
    go k (inl low) =
        let none : slice_index stamp t ≡ 0 = omega (arith, low) in
        let more = one_more stamp t in
        let zero_more = none_if (slice_index stamp t) none in
        let same : length (nonzero (take (suc t) stamp)) ≡ length (nonzero (take t stamp)) =
        omega (arith, more, zero_more) in
        inr (
          (λ p. let some = to t p in absurd (omega (arith, some, none))),
          subst (λ (n : ℕ). IsThreadCount P t n) (sym same) k,
        )
    go k (inr high) = inl (
      from t high,
      length (nonzero (take t stamp)),
      one_more stamp t ∙ ap (λ (n : ℕ). length (nonzero (take t stamp)) + n) (one_if (slice_index stamp t) high),
      k,
    )

-- the components behind the last thread are 0
last_threads : (stamp : List ℕ) (threads : ℕ) → ((u : ℕ) → threads ≤ u → slice_index stamp u ≡ 0) → (j : ℕ)
    → length (nonzero (take (threads + j) stamp)) ≡ length (nonzero (take threads stamp))
last_threads stamp threads none zero = ap (λ (k : ℕ). length (nonzero (take k stamp))) (add-zero threads)
last_threads stamp threads none (suc j) =
    let up : threads + suc j ≡ suc (threads + j) = omega arith in
    let zero_there = none_if (slice_index stamp (threads + j)) (none (threads + j) (omega arith)) in
    let more = one_more stamp (threads + j) in
    let before = last_threads stamp threads none j in
    let same : length (nonzero (take (suc (threads + j)) stamp)) ≡ length (nonzero (take threads stamp)) =
    omega (arith, more, zero_there, before) in
    ap (λ (k : ℕ). length (nonzero (take k stamp))) up ∙ same

all_threads : (stamp : List ℕ) (threads : ℕ) → ((u : ℕ) → threads ≤ u → slice_index stamp u ≡ 0)
    → length (nonzero (take threads stamp)) ≡ length (nonzero stamp)
all_threads stamp threads none =
    sym (last_threads stamp threads none (length stamp))
    ∙ ap (λ (l : List ℕ). length (nonzero l)) (take_all (threads + length stamp) stamp (omega arith))

-- the stamp of entries of the log with this property
stamp_counts : (log : List Entry) (threads : ℕ) (Q : Entry → Type 0) (stamp : List ℕ) → IsLog log
    → ((f : Entry) → IsIn f log → f.thread < threads)
    → ((f : Entry) → IsIn f log → Q f → f.number ≤ slice_index stamp f.thread)
    → ((u : ℕ)
    → (slice_index stamp u ≡ 0) ⊎ ((f : Entry) × IsIn f log × (f.thread ≡ u) × (f.number ≡ slice_index stamp u) × Q f))
    → IsThreadCount (λ u. (f : Entry) × IsIn f log × (f.thread ≡ u) × Q f) threads (length (nonzero stamp))
stamp_counts log threads Q stamp good own above reached =
    subst (λ (n : ℕ). IsThreadCount (λ u. (f : Entry) × IsIn f log × (f.thread ≡ u) × Q f) threads n)
    (all_threads stamp threads none)
    (first_threads (λ u. (f : Entry) × IsIn f log × (f.thread ≡ u) × Q f) stamp to from threads)
  where
    none : (u : ℕ) → threads ≤ u → slice_index stamp u ≡ 0
    none u high = go (reached u)
      where
        go : (slice_index stamp u ≡ 0)
            ⊎ ((f : Entry) × IsIn f log × (f.thread ≡ u) × (f.number ≡ slice_index stamp u) × Q f)
            → slice_index stamp u ≡ 0
        go (inl is) = is
        go (inr (f, i, th, n, q)) = let low = own f i in absurd (omega (arith, low, th, high))

    to : (u : ℕ) → ((f : Entry) × IsIn f log × (f.thread ≡ u) × Q f) → 1 ≤ slice_index stamp u
    to u (f, i, th, q) = subst (λ (v : ℕ). 1 ≤ slice_index stamp v) th
        (let k = above f i q in let n = number_within log f good i in omega (arith, k, n))

    from : (u : ℕ) → 1 ≤ slice_index stamp u → (f : Entry) × IsIn f log × (f.thread ≡ u) × Q f
    from u some = go (reached u)
      where
        go : (slice_index stamp u ≡ 0)
            ⊎ ((f : Entry) × IsIn f log × (f.thread ≡ u) × (f.number ≡ slice_index stamp u) × Q f)
            → (f : Entry) × IsIn f log × (f.thread ≡ u) × Q f
        go (inl is) = absurd (omega (arith, is, some))
        go (inr (f, i, th, n, q)) = (f, i, th, q)

-- so long is an entry's frame, and an output's

pub entry_long : (log : List Entry) (threads : ℕ) (e : Entry) (stamp : List ℕ) (whole : ℕ) → IsLog log
    → ((f : Entry) → IsIn f log → f.thread < threads) → IsStamp log e (λ u. slice_index stamp u)
    → whole ≡ 39 + 8 * length (nonzero stamp) → IsEntryLength threads log e whole
entry_long log threads e stamp whole good own is size = (
  length (nonzero stamp),
  stamp_counts log threads (λ f. PrecedesOrIs log f e) stamp good own is.above is.reached,
  size,
)

pub output_long : (log : List Entry) (threads : ℕ) (o : Sent) (stamp : List ℕ) (whole : ℕ) → IsLog log
    → ((f : Entry) → IsIn f log → f.thread < threads)
    → IsOutputStamp log o.emission.thread o.after (λ u. slice_index stamp u)
    → whole ≡ 47 + 8 * length (nonzero stamp) + length o.emission.packet.bytes → IsOutputLength threads log o whole
output_long log threads o stamp whole good own is size = (
  length (nonzero stamp),
  stamp_counts log threads (λ f. PrecedesOutput log o.emission.thread o.after f) stamp good own is.above is.reached,
  size,
)
