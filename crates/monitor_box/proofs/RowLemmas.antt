-- Rows that are read one after another, and rows in two lists.
use Rattle.std.proofs.Common.{◌≡◌, ℕ, zero, suc, ◌+◌, ◌++◌, List, [], ◌∷◌, take, drop, slice_get, Option, Some, None}
use Rattle.std.proofs.Common.{Bool, true, false, refl, ap, sym, ◌∙◌, append_assoc, codes}
use native.Mathlib.Numerals.{unary_clauses}
use Rattle.std.specs.List.{zip}
use Rattle.std.specs.Map.{keys_of, values_of}
use Rattle.std.specs.Option.{is_some}
use Rattle.monitor_box.specs.declared.counts.FlowKey.{FlowKey}
use Rattle.monitor_box.specs.declared.counts.FlowCount.{FlowCount}
use Rattle.monitor_box.specs.Flows.{Flows}
use Rattle.monitor_box.specs.Shown.{flow_text, further_text}

module _ {X : Type 0} where
  pub is_none : (found : Option X) → is_some found ≡ false → found ≡ None
  is_none None none = refl
  is_none (Some x) none = absurd (cc)

  take_more : (rows : List X) (at : ℕ) (row : X) → slice_get rows at ≡ Some row
      → take (suc at) rows ≡ take at rows ++ row ∷ []
  take_more [] at row is = absurd (cc)
  take_more (x ∷ rows) zero row is = let same : x ≡ row = cc in ap (λ y. y ∷ []) same
  take_more (x ∷ rows) (suc at) row is = ap (λ more. x ∷ more) (take_more rows at row is)

  pub taken : (rows : List X) (at : ℕ) (row : X) → slice_get rows at ≡ Some row
      → take (at + 1) rows ≡ take at rows ++ row ∷ []
  taken rows at row is = simp unary_clauses (take_more rows at row is)

  drop_less : (rows : List X) (at : ℕ) (row : X) → slice_get rows at ≡ Some row
      → drop at rows ≡ row ∷ drop (suc at) rows
  drop_less [] at row is = absurd (cc)
  drop_less (x ∷ rows) zero row is = let same : x ≡ row = cc in ap (λ y. y ∷ rows) same
  drop_less (x ∷ rows) (suc at) row is = drop_less rows at row is

  pub dropped : (rows : List X) (at : ℕ) (row : X) → slice_get rows at ≡ Some row
      → drop at rows ≡ row ∷ drop (at + 1) rows
  dropped rows at row is = simp unary_clauses (drop_less rows at row is)

  take_none : (rows : List X) (at : ℕ) → slice_get rows at ≡ None → take (suc at) rows ≡ take at rows
  take_none [] zero is = refl
  take_none [] (suc at) is = refl
  take_none (x ∷ rows) zero is = absurd (cc)
  take_none (x ∷ rows) (suc at) is = ap (λ more. x ∷ more) (take_none rows at is)

  -- past the end there is nothing
  pub none_taken : (rows : List X) (at : ℕ) → slice_get rows at ≡ None → take (at + 1) rows ≡ take at rows
  none_taken rows at is = simp unary_clauses (take_none rows at is)

  drop_none : (rows : List X) (at : ℕ) → slice_get rows at ≡ None → drop (suc at) rows ≡ drop at rows
  drop_none [] zero is = refl
  drop_none [] (suc at) is = refl
  drop_none (x ∷ rows) zero is = absurd (cc)
  drop_none (x ∷ rows) (suc at) is = drop_none rows at is

  pub none_dropped : (rows : List X) (at : ℕ) → slice_get rows at ≡ None → drop (at + 1) rows ≡ drop at rows
  none_dropped rows at is = simp unary_clauses (drop_none rows at is)

module _ {K V : Type 0} where
  pub both : (rows : List (K × V)) → zip (keys_of rows) (values_of rows) ≡ rows
  both [] = refl
  both (row ∷ rows) = ap (λ more. row ∷ more) (both rows)

  pub both_at : (keys : List K) (values : List V) (at : ℕ) (key : K) (value : V) → slice_get keys at ≡ Some key
      → slice_get values at ≡ Some value → slice_get (zip keys values) at ≡ Some (key, value)
  both_at [] values at key value k v = absurd (cc)
  both_at (x ∷ keys) [] at key value k v = absurd (cc)
  both_at (x ∷ keys) (y ∷ values) zero key value k v =
      let same : x ≡ key = cc in
      let equal : y ≡ value = cc in λ i. Some (same i, equal i)
  both_at (x ∷ keys) (y ∷ values) (suc at) key value k v = both_at keys values at key value k v

  pub no_key : (keys : List K) (values : List V) (at : ℕ) → slice_get keys at ≡ None
      → slice_get (zip keys values) at ≡ None
  no_key [] values at is = refl
  no_key (x ∷ keys) [] at is = refl
  no_key (x ∷ keys) (y ∷ values) zero is = absurd (cc)
  no_key (x ∷ keys) (y ∷ values) (suc at) is = no_key keys values at is

  pub no_value : (keys : List K) (values : List V) (at : ℕ) → slice_get values at ≡ None
      → slice_get (zip keys values) at ≡ None
  no_value [] values at is = refl
  no_value (x ∷ keys) [] at is = refl
  no_value (x ∷ keys) (y ∷ values) zero is = absurd (cc)
  no_value (x ∷ keys) (y ∷ values) (suc at) is = no_value keys values at is

-- a text with one more flow
pub text_more : (before between after : List ℕ) (flows : Flows) (at : ℕ) (row : FlowKey × FlowCount)
    → slice_get flows at ≡ Some row → between ≡ before ++ codes "; " → after ≡ between ++ flow_text row
    → after ++ further_text (drop (at + 1) flows) ≡ before ++ further_text (drop at flows)
text_more before between after flows at row is first second =
    let rest : List ℕ = further_text (drop (at + 1) flows) in
    ap (λ text. text ++ rest) (second ∙ ap (λ text. text ++ flow_text row) first)
    ∙ append_assoc (before ++ codes "; ") (flow_text row) rest
    ∙ append_assoc before (codes "; ") (flow_text row ++ rest)
    ∙ ap (λ rows. before ++ further_text rows) (sym (dropped flows at row is))
