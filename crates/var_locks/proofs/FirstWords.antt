-- The words of a round at first.
use Rattle.std.proofs.Common.{◌≡◌, ℕ, zero, suc, ◌+◌, ◌*◌, ◌<◌, ◌≤◌, ◌^◌, List, [], ◌∷◌, ◌++◌, length, take, map}
use Rattle.std.proofs.Common.{replicate, refl, sym, ap, ◌∙◌, subst, arith}
use Rattle.std.specs.Prelude.{slice_index, slice_index_or, sum_by}
use Rattle.master_core.specs.declared.parts.VarPart.{VarPart}
use Rattle.master_core.specs.declared.parts.ThreadPart.{ThreadPart}
use base.Stored.{Gv}
use Rattle.std.specs.Coded.{Coded}
use Rattle.plain_machine.specs.Program.{Meaning}
use Rattle.box_program.specs.Hands.{FitsProgram}
use Rattle.master_core.specs.Mastered.{Mastered, IsBounded, master_of, value_of}
use Rattle.var_locks.specs.Codes.{master_code}
use Rattle.atomic_table.specs.Seated.{TableId}
use Rattle.var_locks.specs.Rounds.{IsRoundOf, AreVarsOf, Opens}
use Rattle.master_core.proofs.BoundLemmas.{sum_small}
use Rattle.var_locks.specs.Words.{thread_word, word_count, line_of, spread}
use Rattle.var_locks.proofs.Apart.{spread_at, spread_length, spread_next}
use Rattle.var_locks.specs.Told.{AreFirstWords, ArePlaces}
use Rattle.var_locks.specs.Openings.{AreCounted, places_of, words_of}

zeros : (n t : ℕ) → slice_index (replicate n 0) t ≡ 0
zeros zero t = refl
zeros (suc n) zero = refl
zeros (suc n) (suc t) = zeros n t

zeros_length : (n : ℕ) → length {A = ℕ} (replicate n 0) ≡ n
zeros_length zero = refl
zeros_length (suc n) = ap suc (zeros_length n)

-- the words before they are spread
abbrev close_words : List ℕ → ℕ → List ℕ
close_words places n = map (λ k. k * 2) places ++ replicate n 0

words_at : (places : List ℕ) (n v : ℕ) → v < length places
    → slice_index (close_words places n) v ≡ slice_index places v * 2
words_at [] n v low = absurd (omega (arith, low))
words_at (x ∷ xs) n zero low = refl
words_at (x ∷ xs) n (suc v) low = words_at xs n v (omega (arith, low))

words_past : (places : List ℕ) (n t : ℕ) → slice_index (close_words places n) (length places + t) ≡ 0
words_past [] n t = let k : 0 + t ≡ t = omega arith in ap (slice_index (replicate n 0)) k ∙ zeros n t
words_past (x ∷ xs) n t =
    let k : suc (length xs) + t ≡ suc (length xs + t) = omega arith in
    ap (slice_index (close_words (x ∷ xs) n)) k ∙ words_past xs n t

words_length : (places : List ℕ) (n : ℕ) → length (close_words places n) ≡ length places + n
words_length [] n = let k : n ≡ 0 + n = omega arith in zeros_length n ∙ k
words_length (x ∷ xs) n =
    let k : suc (length xs) + n ≡ suc (length xs + n) = omega arith in ap suc (words_length xs n) ∙ sym k

places_length : {V : Type 0} (vars : List (VarPart V)) → length (places_of vars) ≡ length vars
places_length [] = refl
places_length (x ∷ xs) = ap suc (places_length xs)

pub places_at : {V : Type 0} (vars : List (VarPart V)) (v : ℕ) (d : VarPart V) → v < length vars
    → slice_index (places_of vars) v ≡ (slice_index_or vars v d).places
places_at [] v d low = absurd (omega (arith, low))
places_at (x ∷ xs) zero d low = refl
places_at (x ∷ xs) (suc v) d low = places_at xs v d (omega (arith, low))

pub first_words : {V : Type 0} (p : Mastered V) → AreFirstWords p (words_of (places_of p.vars) (length p.threads))
first_words p = record {
  count =
      spread_length (close_words (places_of p.vars) (length p.threads))
      ∙ (ap (λ n. 8 * n) (words_length (places_of p.vars) (length p.threads))
      ∙ ap (λ n. word_count n (length p.threads)) (places_length p.vars));
  var = λ v d low.
      (let a = words_at (places_of p.vars) (length p.threads) v (subst (λ n. v < n) (sym (places_length p.vars)) low) in
      let b = places_at p.vars v d low in
      let e = spread_at (close_words (places_of p.vars) (length p.threads)) v in omega (arith, a, b, e));
  thread = λ t low.
      ap (λ n. slice_index (words_of (places_of p.vars) (length p.threads)) (thread_word n t))
      (sym (places_length p.vars))
      ∙ (spread_at (close_words (places_of p.vars) (length p.threads)) (length (places_of p.vars) + t)
      ∙ words_past (places_of p.vars) (length p.threads) t);
}

pub first_places : {V : Type 0} (p : Mastered V) → ArePlaces p (places_of p.vars)
first_places p = λ v d low. places_at p.vars v d low

-- a variable of a master was touched few enough times
pub few_places : {V : Type 0} (vars : List (VarPart V)) (threads : List ThreadPart) → IsBounded vars threads → (v : ℕ)
    → slice_index (places_of vars) v ≤ 2 ^ 60
few_places {V} vars threads bounded v = go vars v (λ d low. top d low)
  where
    top : (d : VarPart V) → v < length vars → (slice_index_or vars v d).places ≤ 2 ^ 60
    top d low =
        let a : (slice_index_or vars v d).places ≤ sum_by (λ part. part.counts.entries) threads =
        bounded.places v d low in
        let b : sum_by (λ part. part.counts.entries) threads ≤ length threads * 2 ^ 56 =
        sum_small threads bounded.made in
        let c : length threads ≤ 16 = bounded.few in omega (arith, a, b, c)

    go : (l : List (VarPart V)) (i : ℕ) → ((d : VarPart V) → i < length l → (slice_index_or l i d).places ≤ 2 ^ 60)
        → slice_index (places_of l) i ≤ 2 ^ 60
    go [] i low = omega arith
    go (x ∷ xs) zero low = low x (omega arith)
    go (x ∷ xs) (suc i) low = go xs i (λ d under. low d (omega (arith, under)))

close_next : (places : List ℕ) (v : ℕ) → v < length places
    → map (λ n. n * 2) (take (v + 1) places) ≡ map (λ n. n * 2) (take v places) ++ slice_index places v * 2 ∷ []
close_next [] v low = absurd (omega (arith, low))
close_next (x ∷ xs) zero low = refl
close_next (x ∷ xs) (suc v) low =
    let n : suc v + 1 ≡ suc (v + 1) = omega arith in
    ap (λ (i : ℕ). map (λ k. k * 2) (take i (x ∷ xs))) n
    ∙ ap (λ (l : List ℕ). x * 2 ∷ l) (close_next xs v (omega (arith, low)))

pub words_next : (places : List ℕ) (v : ℕ) → v < length places
    → spread (map (λ n. n * 2) (take (v + 1) places))
    ≡ spread (map (λ n. n * 2) (take v places)) ++ line_of (slice_index places v * 2)
words_next places v low =
    ap spread (close_next places v low) ∙ spread_next (map (λ n. n * 2) (take v places)) (slice_index places v * 2)

close_zeros : (l : List ℕ) (n : ℕ) → (l ++ replicate n 0) ++ 0 ∷ [] ≡ l ++ replicate (n + 1) 0
close_zeros [] zero = refl
close_zeros [] (suc n) =
    let k : suc n + 1 ≡ suc (n + 1) = omega arith in
    ap (λ (l : List ℕ). 0 ∷ l) (close_zeros [] n) ∙ ap (λ (i : ℕ). replicate i 0) (sym k)
close_zeros (x ∷ xs) n = ap (λ (l : List ℕ). x ∷ l) (close_zeros xs n)

pub zeros_next : (l : List ℕ) (n : ℕ) → spread (l ++ replicate n 0) ++ line_of 0 ≡ spread (l ++ replicate (n + 1) 0)
zeros_next l n = sym (spread_next (l ++ replicate n 0) 0) ∙ ap spread (close_zeros l n)

module _ {P V : Type 0} (meaning : P → Meaning V) (fits : P → ℕ → V → Type 0) (c : Coded P) (d : Coded V)
    (program opening : Gv) (threads : List ThreadPart) (places : List ℕ) (q : P) (is : c.code q ≡ program)
    (values : List (VarPart V)) (parts : List ThreadPart) (first : List ℕ)
    (opens : Opens (meaning q) (fits q) d opening threads places values first (master_of values parts)) (words : ℕ)
    (count : words ≡ length first) where
  pub round_of : IsRoundOf meaning c d program opening threads q words
  round_of = record {
    is = is;
    master = master_of values parts;
    opens = opens.code;
    threads = opens.threads_are;
    words_are =
        count
        ∙ (opens.first.count
        ∙ (ap (λ n. word_count n (length parts)) opens.fit.count
        ∙ ap (λ (l : List ThreadPart). word_count (meaning q).vars (length l)) opens.threads_are));
  }

  -- the variables of the round, whose table is this one
  pub vars_of : (round : TableId) (same : round.words ≡ words) (vars size : ℕ) → round.slots ≡ length values
      → vars ≡ (meaning q).vars → vars < 2 ^ 32 → size ≡ length parts → 0 < length parts
      → AreVarsOf meaning c d q
      (record { program = program; opening = opening; parts = threads; round = round; vars = vars; threads = size })
  vars_of round same vars size slots_are vars_is low size_is some = record {
    of = subst (λ (n : ℕ). IsRoundOf meaning c d program opening threads q n) (sym same) round_of;
    slots_are =
        slots_are ∙ (ap (λ (l : List (VarPart V)). length l) (sym opens.vars_are) ∙ (opens.fit.count ∙ sym vars_is));
    vars_are = vars_is;
    threads_are = size_is ∙ ap (λ (l : List ThreadPart). length l) opens.threads_are;
    some = subst (λ n. 0 < n) (sym size_is) some;
    few = subst (λ n. n ≤ 16) (sym size_is) opens.bounded.few;
    small = (let s = same in
        let a : words ≡ word_count (meaning q).vars (length threads) = round_of.words_are in
        let b : length parts ≡ length threads = ap (λ (l : List ThreadPart). length l) opens.threads_are in
        let e = opens.bounded.few in omega (arith, s, a, b, e, vars_is, low));
  }

-- a master keeps the counts of its threads within their bounds
pub are_counted : {V : Type 0} (vars : List (VarPart V)) (threads : List ThreadPart) → IsBounded vars threads
    → AreCounted threads
are_counted vars threads bounded t d low = record { held = bounded.taken t d low; made = bounded.made t d low }

-- a master that is split opens the round
pub split_opens : {V : Type 0} (m : Meaning V) (fits : ℕ → V → Type 0) (d : Coded V) (opening : Gv)
    (threads : List ThreadPart) (seen : List ℕ) (p : Mastered V) (values : List (VarPart V)) (parts : List ThreadPart)
    (words places : List ℕ) → master_of values parts ≡ p → IsBounded values parts → (master_code d).code p ≡ opening
    → p.threads ≡ threads → places_of p.vars ≡ seen → FitsProgram m fits value_of p.vars → places ≡ places_of values
    → words ≡ words_of places (length parts) → Opens m fits d opening threads seen values words (master_of values parts)
split_opens {V} m fits d opening threads seen p values parts words places same bounded code threads_are seen_are fit
    places_are words_are = record {
      code = ap (λ (q : Mastered V). (master_code d).code q) same ∙ code;
      vars_are = refl;
      threads_are = ap (λ (q : Mastered V). q.threads) same ∙ threads_are;
      bounded = bounded;
      fit = subst (λ (q : Mastered V). FitsProgram m fits value_of q.vars) (sym same) fit;
      first = subst (λ (l : List ℕ). AreFirstWords (master_of values parts) l)
          (sym (words_are ∙ ap (λ (l : List ℕ). words_of l (length parts)) places_are))
          (first_words (master_of values parts));
      places_are = subst (λ (l : List ℕ). ArePlaces (master_of values parts) l)
          (ap (λ (q : Mastered V). places_of q.vars) same ∙ seen_are) (first_places (master_of values parts));
    }
