-- Packed moves: what they say stays as answers are added after theirs, and as answers that are none of theirs are cut off.
use Rattle.std.proofs.Common.{◌≡◌, ℕ, zero, suc, ◌+◌, ◌<◌, ◌≤◌, ◌∙◌, List, [], ◌∷◌, ◌++◌, length, take, drop}
use Rattle.std.proofs.Common.{refl, sym, ap, subst, arith, Option, Some, None}
use Rattle.std.specs.Prelude.{slice_get}
use Rattle.std.proofs.lemmas.List.{length-take-le, length_push, map_push, take-map, take-append-drop}
use Rattle.plain_machine.specs.declared.schedule.PackedMove.{PackedMove}
use Rattle.plain_machine.specs.Packed.{answer_at, answers_before, ComesAfter, count_before, IsPut, last_place, moves_of}
use Rattle.plain_machine.specs.Packed.{Rise, unpacked}

-- Places

above_last : (last place count : ℕ) → ComesAfter last place → last_place last place ≤ count → last ≤ count
above_last last zero count comes most = most
above_last last (suc k) count comes most = omega (arith, comes, most)

above_place : (last place count : ℕ) → last_place last place ≤ count → place ≤ count
above_place last zero count most = omega arith
above_place last (suc k) count most = most

rise_last : (last : ℕ) (moves : List PackedMove) (count : ℕ) → Rise last moves count → last ≤ count
rise_last last [] count rise = rise
rise_last last (packed ∷ moves) count rise =
    above_last last packed.place count rise.0 (rise_last (last_place last packed.place) moves count rise.1)

-- there may be more answers
pub rise_more : (last : ℕ) (moves : List PackedMove) (count more : ℕ) → count ≤ more → Rise last moves count
    → Rise last moves more
rise_more last [] count more less rise = omega (arith, less, rise)
rise_more last (packed ∷ moves) count more less rise =
    (rise.0, rise_more (last_place last packed.place) moves count more less rise.1)

rise_on : (last : ℕ) (moves : List PackedMove) (count more : ℕ) (packed : PackedMove)
    → ((before : ℕ) → before ≤ count → Rise before (packed ∷ []) more) → Rise last moves count
    → Rise last (moves ++ packed ∷ []) more
rise_on last [] count more packed next rise = next last rise
rise_on last (first ∷ moves) count more packed next rise =
    (rise.0, rise_on (last_place last first.place) moves count more packed next rise.1)

before_count : (last : ℕ) (moves : List PackedMove) (count : ℕ) → Rise last moves count
    → (last ≤ answers_before count moves) × (answers_before count moves ≤ count)
before_count last [] count rise = (rise, omega arith)
before_count last (packed ∷ moves) count rise =
    let later = before_count (last_place last packed.place) moves count rise.1 in
    by_place last packed.place (answers_before count moves) count rise.0 later
    (rise_last (last_place last packed.place) moves count rise.1) where
      by_place : (last place later count : ℕ) → ComesAfter last place
          → (last_place last place ≤ later) × (later ≤ count) → last_place last place ≤ count
          → (last ≤ count_before later place) × (count_before later place ≤ count)
      by_place last zero later count comes within most = within
      by_place last (suc k) later count comes within most = (comes, omega (arith, most))

rise_kept : (last : ℕ) (kept others : List PackedMove) (count : ℕ) → Rise last (kept ++ others) count
    → Rise last kept (answers_before count others) × (answers_before count others ≤ count)
rise_kept last [] others count rise = before_count last others count rise
rise_kept last (packed ∷ kept) others count rise =
    let later = rise_kept (last_place last packed.place) kept others count rise.1 in ((rise.0, later.0), later.1)

-- What the moves say

moves_same : (last : ℕ) (moves : List PackedMove) (count : ℕ) (xs ys : List ℕ)
    → ((place : ℕ) → place ≤ count → answer_at xs place ≡ answer_at ys place) → Rise last moves count
    → moves_of xs moves ≡ moves_of ys moves
moves_same last [] count xs ys same rise = refl
moves_same last (packed ∷ moves) count xs ys same rise =
    let most = rise_last (last_place last packed.place) moves count rise.1 in
    let told = same packed.place (above_place last packed.place count most) in
    let later = moves_same (last_place last packed.place) moves count xs ys same rise.1 in
    ap (λ answer. record { thread = packed.thread; answer = answer } ∷ moves_of xs moves) told
    ∙ ap (λ l. unpacked ys packed ∷ l) later

get_front : (xs more : List ℕ) (k : ℕ) → k < length xs → slice_get (xs ++ more) k ≡ slice_get xs k
get_front [] more k less = absurd (omega (arith, less))
get_front (x ∷ xs) more zero less = refl
get_front (x ∷ xs) more (suc k) less = get_front xs more k (omega (arith, less))

answer_stays : (xs more : List ℕ) (place : ℕ) → place ≤ length xs → answer_at (xs ++ more) place ≡ answer_at xs place
answer_stays xs more zero within = refl
answer_stays xs more (suc k) within = get_front xs more k (omega (arith, within))

get_taken : (n : ℕ) (xs : List ℕ) (k : ℕ) → k < n → slice_get (take n xs) k ≡ slice_get xs k
get_taken zero xs k less = absurd (omega (arith, less))
get_taken (suc n) [] k less = refl
get_taken (suc n) (x ∷ xs) zero less = refl
get_taken (suc n) (x ∷ xs) (suc k) less = get_taken n xs k (omega (arith, less))

answer_kept : (n : ℕ) (xs : List ℕ) (place : ℕ) → place ≤ n → answer_at (take n xs) place ≡ answer_at xs place
answer_kept n xs zero within = refl
answer_kept n xs (suc k) within = get_taken n xs k (omega (arith, within))

get_end : (xs : List ℕ) (x : ℕ) → slice_get (xs ++ x ∷ []) (length xs) ≡ Some x
get_end [] x = refl
get_end (y ∷ xs) x = get_end xs x

answer_put : (xs : List ℕ) (x : ℕ) → answer_at (xs ++ x ∷ []) (length xs + 1) ≡ Some x
answer_put xs x =
    let e : length xs + 1 ≡ suc (length xs) = omega arith in rw e (get_end xs x)

-- An answer is put

module _ (before : List ℕ) (moves : List PackedMove) (rise : Rise 0 moves (length before)) where
  pub put_rise : (answer : Option ℕ) (place : ℕ) (after : List ℕ) → IsPut before answer place after
      → Rise 0 moves (length after)
  put_rise None place after put = rw put.1 rise
  put_rise (Some answer) place after put =
      let longer = length_push before answer in
      rw put.1 (rise_more 0 moves (length before) _ (omega (arith, longer)) rise)

  pub put_same : (answer : Option ℕ) (place : ℕ) (after : List ℕ) → IsPut before answer place after
      → moves_of after moves ≡ moves_of before moves
  put_same None place after put = ap (λ l. moves_of l moves) put.1
  put_same (Some answer) place after put =
      ap (λ l. moves_of l moves) put.1
      ∙ moves_same 0 moves (length before) (before ++ answer ∷ []) before (answer_stays before (answer ∷ [])) rise

  put_told : (answer : Option ℕ) (place : ℕ) (after : List ℕ) → IsPut before answer place after
      → answer_at after place ≡ answer
  put_told None place after put = ap (answer_at after) put.0
  put_told (Some answer) place after put =
      ap (answer_at after) put.0 ∙ ap (λ l. answer_at l (length before + 1)) put.1 ∙ answer_put before answer

  put_rises : (answer : Option ℕ) (thread place : ℕ) (after : List ℕ) → IsPut before answer place after
      → (last : ℕ) → last ≤ length before → Rise last (record { thread = thread; place = place } ∷ []) (length after)
  put_rises None thread place after put last most =
      subst (λ p. Rise last (record { thread = thread; place = p } ∷ []) (length after)) (sym put.0)
      (tt, rw put.1 most)
  put_rises (Some answer) thread place after put last most =
      let next : place ≡ suc (length before) = put.0 ∙ omega arith in
      let long : length after ≡ length before + 1 = ap length put.1 ∙ length_push before answer in
      subst (λ p. Rise last (record { thread = thread; place = p } ∷ []) (length after)) (sym next)
      (most, omega (arith, long))

  -- the move stands at the end
  pub pushed_rise : (answer : Option ℕ) (thread place : ℕ) (after : List ℕ) → IsPut before answer place after
      → Rise 0 (moves ++ record { thread = thread; place = place } ∷ []) (length after)
  pushed_rise answer thread place after put =
      rise_on 0 moves (length before) (length after) (record { thread = thread; place = place })
      (put_rises answer thread place after put) rise

  pub pushed_moves : (answer : Option ℕ) (thread place : ℕ) (after : List ℕ) → IsPut before answer place after
      → moves_of after (moves ++ record { thread = thread; place = place } ∷ [])
      ≡ moves_of before moves ++ record { thread = thread; answer = answer } ∷ []
  pushed_moves answer thread place after put =
      map_push (unpacked after) moves (record { thread = thread; place = place })
      ∙ ap (λ l. l ++ unpacked after (record { thread = thread; place = place }) ∷ [])
      (put_same answer place after put)
      ∙ ap (λ a. moves_of before moves ++ record { thread = thread; answer = a } ∷ [])
      (put_told answer place after put)

-- The first moves are kept

module _ (answers : List ℕ) (moves : List PackedMove) (rise : Rise 0 moves (length answers)) (kept : ℕ) where
  abbrev most : ℕ
  most = answers_before (length answers) (drop kept moves)

  both : Rise 0 (take kept moves) most × (most ≤ length answers)
  both =
      rise_kept 0 (take kept moves) (drop kept moves) (length answers)
      (subst (λ l. Rise 0 l (length answers)) (sym (take-append-drop kept moves)) rise)

  pub kept_rise : Rise 0 (take kept moves) (length (take most answers))
  kept_rise = rw (length-take-le most answers both.1) both.0

  pub kept_moves : moves_of (take most answers) (take kept moves) ≡ take kept (moves_of answers moves)
  kept_moves =
      moves_same 0 (take kept moves) most (take most answers) answers (answer_kept most answers) both.0
      ∙ sym (take-map (unpacked answers) kept moves)
