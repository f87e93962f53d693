-- The turns as they are found, newest first.
use Rattle.std.proofs.Common.{◌≡◌, ℕ, ◌+◌, ◌-◌, ◌≤◌, ◌<◌, ◌≢◌, List, [], ◌∷◌, ◌++◌, append_assoc, append-nil, length}
use Rattle.std.proofs.Common.{length-set, take, refl, sym, ap, ◌∙◌, subst, inl, inr, ◌⊎◌, arith, Option, Some, None}
use Rattle.std.specs.Prelude.{slice_index, slice_index_or, slice_set}
use Rattle.std.proofs.lemmas.List.{get_or-set_same, get_or-set_other, get_or_default, take_more}
use Rattle.entry_order.proofs.Order.{is_or}
use Rattle.round_order.specs.Turns.{HasLatest, AreLeft, AreTurns, lengths}
use Rattle.round_order.proofs.TurnLemmas.{lengths_count, length_is}

lengths_more : (xs : List (List (Option ℕ))) (x : List (Option ℕ))
    → lengths (xs ++ x ∷ []) ≡ lengths xs ++ length x ∷ []
lengths_more [] x = refl
lengths_more (y ∷ xs) x = ap (λ (l : List ℕ). length y ∷ l) (lengths_more xs x)

-- one more thread is counted
pub count_step : (lists : List (List (Option ℕ))) (t : ℕ) (counts : List ℕ) (marks : List (Option ℕ)) → t < length lists
    → marks ≡ slice_index_or lists t marks → counts ≡ lengths (take t lists)
    → counts ++ length marks ∷ [] ≡ lengths (take (t + 1) lists)
count_step lists t counts marks low here is =
    ap (λ (l : List ℕ). l ++ length marks ∷ []) is
    ∙ (sym (lengths_more (take t lists) marks)
    ∙ ap lengths (ap (λ (x : List (Option ℕ)). take t lists ++ x ∷ []) (here ∙ get_or_default lists t marks [] low)
    ∙ sym (take_more lists t [] low)))

-- Whatever turns the receipts that are left have, they follow those that were found.
abbrev pub GoOn : List (List (Option ℕ)) → List ℕ → List ℕ → Type 0
GoOn lists left turns =
    AreLeft lists left × ((rest : List ℕ) → AreTurns lists left rest → AreTurns lists (lengths lists) (turns ++ rest))

pub turns_begin : (lists : List (List (Option ℕ))) (left : List ℕ) → left ≡ lengths lists → GoOn lists left []
turns_begin lists left is = (
  (
    ap length is ∙ lengths_count lists,
    λ t low.
        let k : slice_index left t ≡ length (slice_index_or lists t []) =
        ap (λ (l : List ℕ). slice_index l t) is ∙ length_is lists t in
        omega arith,
  ),
  λ rest are. subst (λ (l : List ℕ). AreTurns lists l rest) is are,
)

pub turn_step : (lists : List (List (Option ℕ))) (left turns : List ℕ) (t count : ℕ) → GoOn lists left turns
    → HasLatest lists left (length lists) (Some t) → count ≡ slice_index_or left t count
    → GoOn lists (slice_set left t (count - 1)) (turns ++ t ∷ [])
turn_step lists left turns t count before latest here = (
  (length-set left t (count - 1) ∙ before.0.0, λ u low. within u low (is_or u t)),
  λ rest are. subst (λ (l : List ℕ). AreTurns lists (lengths lists) l) (sym (append_assoc turns (t ∷ []) rest))
      (before.1 (t ∷ rest)
      (latest.0, latest.1, count - 1, (let some : 0 < slice_index left t = latest.1.0 in omega (arith, counted)), are)),
)
  where
    under : t < length left
    under = let low : t < length lists = latest.0 in omega (arith, before.0.0)

    counted : count ≡ slice_index left t
    counted = here ∙ get_or_default left t count 0 under

    within : (u : ℕ) → u < length lists → (u ≡ t) ⊎ (u ≢ t)
        → slice_index (slice_set left t (count - 1)) u ≤ length (slice_index_or lists u [])
    within u low (inl same) =
        subst (λ (w : ℕ). slice_index (slice_set left t (count - 1)) w ≤ length (slice_index_or lists w [])) (sym same)
        (let k : slice_index (slice_set left t (count - 1)) t ≡ count - 1 =
        get_or-set_same left t (count - 1) 0 under in
        let n : slice_index left t ≤ length (slice_index_or lists t []) = before.0.1 t latest.0 in
        omega (arith, counted))
    within u low (inr apart) =
        let k : slice_index (slice_set left t (count - 1)) u ≡ slice_index left u =
        get_or-set_other left t u (count - 1) 0 apart in
        let n : slice_index left u ≤ length (slice_index_or lists u []) = before.0.1 u low in omega arith

pub turns_end : (lists : List (List (Option ℕ))) (left turns : List ℕ) → GoOn lists left turns
    → HasLatest lists left (length lists) None → AreTurns lists (lengths lists) turns
turns_end lists left turns before none =
    subst (λ (l : List ℕ). AreTurns lists (lengths lists) l) (append-nil turns) (before.1 [] none)
