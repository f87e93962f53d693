-- The loop that changes variables one by one.
use Rattle.std.proofs.Common.{◌≡◌, ◌≢◌, ℕ, ◌+◌, ◌≤◌, ◌<◌, List, [], length, length-set, refl, sym, ap, ◌∙◌, inl, inr}
use Rattle.std.proofs.Common.{◌⊎◌, arith, Option, None}
use Rattle.std.specs.Prelude.{slice_index_or, slice_set}
use Rattle.std.proofs.lemmas.List.{get_or-set_same, get_or-set_other, get_or_default, same_lists}
use Rattle.entry_order.proofs.Order.{is_or}
use Rattle.master_core.specs.declared.parts.VarPart.{VarPart}
use Rattle.master_core.specs.Deltas.{applied_part, applied_parts}
use Rattle.master_core.proofs.DeltaLemmas.{length-applied, at-applied}

-- The first n variables are changed. The others are as they were, and so are their changes.
pub record HasApplied {V : Type 0} (parts new : List (VarPart V)) (changes left : List (VarPart (Option V)))
    (n : ℕ) : Type 0 where
  pub count : length new ≡ length parts
  pub count_left : length left ≡ length changes
  pub done : (v : ℕ) (y x : VarPart V) (c : VarPart (Option V)) → v < n → v < length parts
      → slice_index_or new v y ≡ applied_part (slice_index_or parts v x) (slice_index_or changes v c)
  pub rest : (v : ℕ) (y : VarPart V) → n ≤ v → slice_index_or new v y ≡ slice_index_or parts v y
  pub kept : (v : ℕ) (c : VarPart (Option V)) → n ≤ v → slice_index_or left v c ≡ slice_index_or changes v c

pub applied_none : {V : Type 0} (parts : List (VarPart V)) (changes : List (VarPart (Option V)))
    → HasApplied parts parts changes changes 0
applied_none parts changes = record {
  count = refl;
  count_left = refl;
  done = λ v y x c low. absurd (omega arith);
  rest = λ v y low. refl;
  kept = λ v c low. refl;
}

pub applied_one : {V : Type 0} (parts new : List (VarPart V)) (changes left : List (VarPart (Option V))) (n : ℕ)
    (p q : VarPart V) (c d : VarPart (Option V)) → HasApplied parts new changes left n → length changes ≡ length parts
    → n < length parts → p ≡ slice_index_or new n p → c ≡ slice_index_or left n c → q ≡ applied_part p c
    → HasApplied parts (slice_set new n q) changes (slice_set left n d) (n + 1)
applied_one {V} parts new changes left n p q c d so_far same low p_is c_is q_is = record {
  count = length-set new n q ∙ so_far.count;
  count_left = length-set left n d ∙ so_far.count_left;
  done = λ v y x e under within. done v y x e under within (is_or v n);
  rest = λ v y over. get_or-set_other new n v q y (omega arith) ∙ so_far.rest v y (omega arith);
  kept = λ v e over. get_or-set_other left n v d e (omega arith) ∙ so_far.kept v e (omega arith);
}
  where
    at : (y x : VarPart V) (e : VarPart (Option V))
        → slice_index_or (slice_set new n q) n y ≡ applied_part (slice_index_or parts n x) (slice_index_or changes n e)
    at y x e =
        get_or-set_same new n q y (omega (arith, so_far.count))
        ∙ (q_is
        ∙ (ap (λ z. applied_part z c) (p_is ∙ (so_far.rest n p (omega arith) ∙ get_or_default parts n p x low))
        ∙ ap (λ z. applied_part (slice_index_or parts n x) z)
        (c_is ∙ (so_far.kept n c (omega arith) ∙ get_or_default changes n c e (omega arith)))))

    done : (v : ℕ) (y x : VarPart V) (e : VarPart (Option V)) → v < n + 1 → v < length parts → (v ≡ n) ⊎ (v ≢ n)
        → slice_index_or (slice_set new n q) v y ≡ applied_part (slice_index_or parts v x) (slice_index_or changes v e)
    done v y x e under within (inl is) = rw is (at y x e)
    done v y x e under within (inr apart) =
        get_or-set_other new n v q y apart ∙ so_far.done v y x e (omega arith) within

pub applied_all : {V : Type 0} (parts new : List (VarPart V)) (changes left : List (VarPart (Option V))) (n : ℕ)
    → HasApplied parts new changes left n → length changes ≡ length parts → length parts ≤ n
    → new ≡ applied_parts parts changes
applied_all {V} parts new changes left n so_far same over =
    let k : length (applied_parts parts changes) ≡ length parts = length-applied parts changes same in
    same_lists new (applied_parts parts changes) (omega (arith, so_far.count)) (λ v y low.
    let none : VarPart (Option V) = record { value = None; places = 0; stamp = []; readers = [] } in
    so_far.done v y y none (omega (arith, so_far.count)) (omega (arith, so_far.count))
    ∙ sym (at-applied parts changes v y y none (omega (arith, so_far.count)) (omega (arith, so_far.count))))
