-- Lists that are taken apart, and put together, from their ends.
use Rattle.std.proofs.Common.{◌≡◌, ℕ, suc, zero, ◌+◌, ◌<◌, List, [], ◌∷◌, ◌++◌, length, map, reverse, Option}
use Rattle.std.proofs.Common.{slice_index_or, arith, refl, sym, ap, ◌∙◌, subst}
use Rattle.std.proofs.lemmas.List.{length-append, reverse-reverse}
use mathlib.Core.List.{reverse-cons}
use Rattle.rand_pcg.specs.Lcg.{Lcg}
use Rattle.var_locks.specs.Seats.{Seated}
use Rattle.live_workers.specs.Working.{Given}
use Rattle.live_workers.specs.Racing.{AreWorkers}

pub append_none : {A : Type 0} (l : List A) → l ≡ l ++ []
append_none [] = refl
append_none (y ∷ l) = ap (λ k. y ∷ k) (append_none l)

append_again : {A : Type 0} (l : List A) (x : A) (k : List A) → (l ++ x ∷ []) ++ k ≡ l ++ x ∷ k
append_again [] x k = refl
append_again (y ∷ l) x k = ap (λ j. y ∷ j) (append_again l x k)

-- the last one is taken from a list of which some were taken
pub last_taken : {A : Type 0} (all before now done : List A) (x : A) → all ≡ before ++ done → before ≡ now ++ x ∷ []
    → all ≡ now ++ x ∷ done
last_taken all before now done x are last = are ∙ (ap (λ l. l ++ done) last ∙ append_again now x done)

pub last_taken_as : {A : Type 0} (all before now done : List A) (y x : A) → y ≡ x → all ≡ before ++ done
    → before ≡ now ++ y ∷ [] → all ≡ now ++ x ∷ done
last_taken_as all before now done y x is are last =
    last_taken all before now done x are (last ∙ ap (λ z. now ++ z ∷ []) is)

-- it is put behind the others
pub put_last : {A : Type 0} (x : A) (done before now : List A) → before ≡ reverse done → now ≡ before ++ x ∷ []
    → now ≡ reverse (x ∷ done)
put_last x done before now were put = put ∙ (ap (λ l. l ++ x ∷ []) were ∙ sym (reverse-cons x done))

-- what it has is put behind what the others had
pub put_behind : {A B : Type 0} (f : A → B) (x : A) (done : List A) (before now : List B) (y : B) → y ≡ f x
    → before ≡ reverse (map f done) → now ≡ before ++ y ∷ [] → now ≡ reverse (map f (x ∷ done))
put_behind f x done before now y is were put =
    put_last (f x) (map f done) before now were (put ∙ ap (λ z. before ++ z ∷ []) is)

-- Lists of one length: where one has a last element the other has too, and they are of one length without it.
-- (each list has its length in memory too)
pub none_missing : (n m before k left : ℕ) → n ≡ before → m ≡ n → m ≡ 0 → k ≡ before → left + 1 ≡ k → ⊥
none_missing n m before k left same len none len_before some = omega (arith, same, len, none, len_before, some)

pub same_left : {A B : Type 0} (l l_now : List A) (x : A) (k k_now : List B) (y : B) → length l ≡ length k
    → l ≡ l_now ++ x ∷ [] → k ≡ k_now ++ y ∷ [] → length l_now ≡ length k_now
same_left l l_now x k k_now y same one other =
    let l_len : length l ≡ length l_now + 1 = ap length one ∙ length-append l_now (x ∷ []) in
    let k_len : length k ≡ length k_now + 1 = ap length other ∙ length-append k_now (y ∷ []) in
    omega (arith, same, l_len, k_len)

pub one_longer : {A : Type 0} (before now : List A) (x : A) → before ≡ now ++ x ∷ [] → length before ≡ length now + 1
one_longer before now x is = ap length is ∙ length-append now (x ∷ [])

-- the number of the thread whose limit was asked for
pub limit_at : (limits : ℕ → Option ℕ) (limit : Option ℕ) (thread len count n : ℕ) → thread ≡ len → len ≡ count
    → count ≡ n → limit ≡ limits thread → limit ≡ limits n
limit_at limits limit thread len count n thread_is len_is count_is is =
    is ∙ ap limits (thread_is ∙ (len_is ∙ count_is))

-- the workers from this number on have these limits
abbrev pub AreLimitsFrom : {V : Type 0} → (ℕ → Option ℕ) → ℕ → List (Given V) → Type 0
AreLimitsFrom limits from workers =
    (t : ℕ) (d : Given _) → t < length workers → (slice_index_or workers t d).limit ≡ limits (from + t)

pub limits_before : {V : Type 0} (limits : ℕ → Option ℕ) (from n : ℕ) (w : Given V) (workers : List (Given V))
    → from ≡ n + 1 → w.limit ≡ limits n → AreLimitsFrom limits from workers → AreLimitsFrom limits n (w ∷ workers)
limits_before limits from n w workers next first rest zero d within =
    let same : n ≡ n + 0 = omega arith in first ∙ ap limits same
limits_before limits from n w workers next first rest (suc t) d within =
    let inside : t < length workers = omega (arith, within) in
    let same : from + t ≡ n + suc t = omega (arith, next) in rest t d inside ∙ ap limits same

empty : {A : Type 0} (l : List A) → length l ≡ 0 → l ≡ []
empty [] none = refl
empty (x ∷ l) none = let no : ⊥ = omega (arith, none) in absurd no

all_taken : {A : Type 0} (all before done : List A) → all ≡ before ++ done → length before ≡ 0 → done ≡ all
all_taken all before done are none = sym (are ∙ ap (λ l. l ++ done) (empty before none))

from_none : (n t : ℕ) → n ≡ 0 → n + t ≡ t
from_none n t none = omega (arith, none)

-- when all are taken
module _ {V : Type 0} (seats : List (Seated V)) (generators : List Lcg) (limits : ℕ → Option ℕ)
    (seats_left : List (Seated V)) (generators_left : List Lcg) (done : List (Given V)) where
  pub all_made : (n : ℕ) → n ≡ length seats_left → n ≡ 0 → length generators_left ≡ length seats_left
      → seats ≡ seats_left ++ map (λ w. w.seat) done → generators ≡ generators_left ++ map (λ w. w.generator) done
      → AreLimitsFrom limits (length seats_left) done → AreWorkers seats generators limits done
  all_made n len len_none as_generators are_seats are_generators are_limits =
      let none : length seats_left ≡ 0 = sym len ∙ len_none in
      record {
        seats_are = all_taken seats seats_left (map (λ w. w.seat) done) are_seats none;
        generators_are = all_taken generators generators_left (map (λ w. w.generator) done) are_generators
            (as_generators ∙ none);
        limits_are = λ t d within. are_limits t d within ∙ ap limits (from_none (length seats_left) t none);
      }

pub all_reversed : {V : Type 0} (seats : List (Seated V)) (generators : List Lcg) (limits : ℕ → Option ℕ)
    (done made workers : List (Given V)) → made ≡ reverse done → workers ≡ reverse made
    → AreWorkers seats generators limits done → AreWorkers seats generators limits workers
all_reversed seats generators limits done made workers are turned all =
    subst (λ (l : List (Given _)). AreWorkers seats generators limits l)
    (sym (turned ∙ (ap reverse are ∙ reverse-reverse done))) all
