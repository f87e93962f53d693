-- Words ask for as many taps as pairs stand in front.
use Rattle.std.proofs.Common.{◌≡◌, ◌⊎◌, ℕ, zero, suc, ◌+◌, ◌*◌, ◌<◌, ◌≤◌, List, [], ◌∷◌, Some, codes}
use Rattle.std.proofs.Common.{length, drop, take, ◌-◌, get_or, slice_get, ap, sym, ◌∙◌, inl, inr, refl, length-drop}
use Rattle.std.proofs.Common.{arith, subst}
use Rattle.std.proofs.Math.Seq.{take-length}
use Rattle.std.proofs.lemmas.Bool.{cases_lt}
use Rattle.std.proofs.lemmas.Option.{slice_get-get_or}
use Rattle.release_taps.specs.Split.{AsksForTaps, IsRunLine, behind_pairs}

abbrev front : List ℕ → ℕ
front [] = 0
front (c ∷ more) = c

not_run : ¬ (codes "run" ≡ codes "tap")
not_run e = let h : 114 ≡ 116 = ap front e in absurd (omega (arith, h))

not_live : ¬ (codes "live" ≡ codes "tap")
not_live e = let h : 108 ≡ 116 = ap front e in absurd (omega (arith, h))

pub some_one : (a b : List ℕ) → Some a ≡ Some b → a ≡ b
some_one a b e = cc

-- the words of a run line are six at least, and the first is not `tap`
first_of_run : (words : List (List ℕ)) → IsRunLine words
    → ¬ (slice_get words 0 ≡ Some (codes "tap")) × (6 ≤ length words)
first_of_run [] run = absurd run
first_of_run (command ∷ names) (inl run) = (
  (λ tap. not_run (sym run.0 ∙ some_one command (codes "tap") tap)),
  (let long = run.1 in omega (arith, long)),
)
first_of_run (command ∷ names) (inr run) = (
  (λ tap. not_live (sym run.0 ∙ some_one command (codes "tap") tap)),
  (let long = run.1 in omega (arith, long)),
)

at_front : (n : ℕ) (words : List (List ℕ)) → slice_get (drop n words) 0 ≡ slice_get words n
at_front zero [] = refl
at_front zero (word ∷ more) = refl
at_front (suc n) [] = refl
at_front (suc n) (word ∷ more) = at_front n more

-- so many pairs stand in front, and no further one
pub record Counts (words : List (List ℕ)) (pairs : ℕ) : Type 0 where
  pub taps : (k : ℕ) → k < pairs → slice_get words (2 * k) ≡ Some (codes "tap")
  pub last : 2 * pairs + 1 < length words → ¬ (slice_get words (2 * pairs) ≡ Some (codes "tap"))

-- words that ask for taps ask for as many as pairs stand in front
pub counted : (words : List (List ℕ)) (pairs asked : ℕ) → Counts words pairs → AsksForTaps words asked → asked ≡ pairs
counted words pairs asked counts asks =
    let first = first_of_run (behind_pairs asked words) asks.run in
    let long : 2 * asked + 1 < length words = let l = first.1 in omega (arith, l, length-drop (2 * asked) words) in
    let not_tap : ¬ (slice_get words (2 * asked) ≡ Some (codes "tap")) =
    λ tap. first.0 (at_front (2 * asked) words ∙ tap) in
    let not_more : asked < pairs → ⊥ = λ less. not_tap (counts.taps asked less) in
    let not_fewer : pairs < asked → ⊥ =
    λ more. counts.last (omega (arith, more, long)) (asks.taps pairs more) in
    omega (arith, not_more, not_fewer)

-- what is so of each number below this one, and of this one, is so of each below the next
pub below_next : (Holds : ℕ → Type 0) (n : ℕ) → ((k : ℕ) → k < n → Holds k) → Holds n → (k : ℕ) → k < n + 1 → Holds k
below_next Holds n below here k within = pick (cases_lt k n)
  where
    pick : (k < n) ⊎ (n ≤ k) → Holds k
    pick (inl less) = below k less
    pick (inr most) = let same : n ≡ k = omega (arith, most, within) in subst Holds same here

-- a word that was found at a place is the word there
pub word_at : (words : List (List ℕ)) (k : ℕ) (word : List ℕ) → k < length words → word ≡ get_or words k word
    → slice_get words k ≡ Some word
word_at words k word within is = slice_get-get_or words k word within ∙ ap Some (sym is)

-- the words after this many, as a slice of all of them
pub behind_is : (n : ℕ) (words : List (List ℕ)) → take (length words - n) (drop n words) ≡ drop n words
behind_is n words = ap (λ k. take k (drop n words)) (sym (length-drop n words)) ∙ take-length (drop n words)

-- words that ask for taps are long enough for the run line after them
pub enough : (words : List (List ℕ)) (pairs : ℕ) → AsksForTaps words pairs → 2 * pairs + 6 ≤ length words
enough words pairs asks =
    let long = (first_of_run (behind_pairs pairs words) asks.run).1 in
    omega (arith, long, length-drop (2 * pairs) words)

-- words ask for one number of taps
pub one_count : (words : List (List ℕ)) (a b : ℕ) → AsksForTaps words a → AsksForTaps words b → a ≡ b
one_count words a b asks also =
    let not_fewer : (c d : ℕ) → AsksForTaps words c → AsksForTaps words d → c < d → ⊥ =
    λ c d asked more less.
    (first_of_run (behind_pairs c words) asked.run).0 (at_front (2 * c) words ∙ more.taps c less) in
    let below = not_fewer a b asks also in
    let above = not_fewer b a also asks in
    omega (arith, below, above)
