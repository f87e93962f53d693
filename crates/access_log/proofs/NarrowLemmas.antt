-- Stamps of which only the first components are kept.
use Rattle.std.proofs.Common.{◌≡◌, ◌≢◌, ℕ, zero, suc, ◌≤◌, ◌<◌, List, [], ◌∷◌, Some, length}
use Rattle.std.proofs.Common.{slice_index, refl, sym, ◌∙◌, ⊎_elim, arith}
use Rattle.std.proofs.lemmas.Bool.{cases_lt}
use Rattle.std.proofs.lemmas.List.{get_or_past}
use Rattle.entry_order.specs.declared.what.What.{What}
use Rattle.access_log.specs.Narrow.{padded, unpacked}

-- n components that are those of the other list, which has 0 past its end
pub is_padded : (n : ℕ) (all some : List ℕ) → length all ≡ n
    → ((k : ℕ) → k < n → slice_index all k ≡ slice_index some k) → all ≡ padded n some
is_padded zero [] some len same = refl
is_padded zero (x ∷ all) some len same = absurd (omega arith)
is_padded (suc n) [] some len same = absurd (omega arith)
is_padded (suc n) (x ∷ all) [] len same =
    let first : x ≡ 0 = same 0 (omega arith) in
    let rest = is_padded n all [] (omega arith) (λ k h. same (suc k) (omega arith)) in
    cc
is_padded (suc n) (x ∷ all) (y ∷ some) len same =
    let first : x ≡ y = same 0 (omega arith) in
    let rest = is_padded n all some (omega arith) (λ k h. same (suc k) (omega arith)) in
    cc

-- a stamp whose components are 0 from the n-th on
pub is_kept : (n : ℕ) (stamp kept : List ℕ) → length stamp ≡ 16 → length kept ≡ n
    → ((k : ℕ) → k < n → slice_index kept k ≡ slice_index stamp k)
    → ((k : ℕ) → n ≤ k → slice_index stamp k ≡ 0) → stamp ≡ padded 16 kept
is_kept n stamp kept all few same zeros =
    is_padded 16 stamp kept all (λ k h.
    ⊎_elim (λ below. sym (same k below)) (λ past. zeros k past ∙ sym (get_or_past kept k 0 (omega arith)))
    (cases_lt k n))

-- a slot that is not empty
pub unpacked_some : (number thread : ℕ) (what : What) (components : List ℕ) → number ≢ 0
    → unpacked number thread what components
    ≡ Some (record { thread = thread; number = number; what = what; stamp = padded 16 components })
unpacked_some zero thread what components h = absurd (h refl)
unpacked_some (suc n) thread what components h = refl
