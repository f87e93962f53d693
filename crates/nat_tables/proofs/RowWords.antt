-- What a table of rows finds, changes and removes is what an ordered map of its entries does.
use Rattle.std.proofs.Common.{◌≡◌, ℕ, zero, suc, ◌+◌, Bool, true, false, List, [], ◌∷◌, ◌++◌, set, drop, map}
use Rattle.std.proofs.Common.{refl, sym, ap, ◌∙◌, arith, Some, None, Option}
use Rattle.std.specs.Prelude.{◌==◌, ◌&&◌}
use Rattle.std.specs.Map.{lookup}
use Rattle.nat_tables.specs.declared.entries.Endpoint.{Endpoint}
use Rattle.indexmap.specs.IndexMap.{insert_entry, shift_remove_entry}
use Rattle.nat_tables.specs.Rows.{present, row_at, IsAbsent, StandsAt}

module _ {K V : Type 0} (eq : K → K → Bool) (key : K) where
  stands_behind : (row : Option (K × V)) (rows : List (Option (K × V))) (at : ℕ) (value : V)
      → StandsAt eq key (row ∷ rows) (suc at) value → StandsAt eq key rows at value
  stands_behind row rows at value s = record {
    own = s.own;
    row = s.row;
    same = s.same;
    others = λ k entry less is. s.others (suc k) entry (omega arith) is;
  }

  pub stands_lookup : (rows : List (Option (K × V))) (at : ℕ) (value : V) → StandsAt eq key rows at value
      → lookup (eq key) (present rows) ≡ Some value
  stands_lookup [] at value s = absurd (let h = s.row in cc)
  stands_lookup (None ∷ rows) zero value s = absurd (let h = s.row in cc)
  stands_lookup (Some e ∷ rows) zero value s =
      let here : e ≡ (s.own, value) = (let h = s.row in cc) in rw (here, s.same) refl
  stands_lookup (None ∷ rows) (suc at) value s = stands_lookup rows at value (stands_behind None rows at value s)
  stands_lookup (Some e ∷ rows) (suc at) value s =
      rw (s.others 0 e (omega arith) refl) (stands_lookup rows at value (stands_behind (Some e) rows at value s))

  pub stands_removed : (rows : List (Option (K × V))) (at : ℕ) (value : V) → StandsAt eq key rows at value
      → shift_remove_entry (eq key) (present rows) ≡ present (set rows at None)
  stands_removed [] at value s = absurd (let h = s.row in cc)
  stands_removed (None ∷ rows) zero value s = absurd (let h = s.row in cc)
  stands_removed (Some e ∷ rows) zero value s =
      let here : e ≡ (s.own, value) = (let h = s.row in cc) in rw (here, s.same) refl
  stands_removed (None ∷ rows) (suc at) value s = stands_removed rows at value (stands_behind None rows at value s)
  stands_removed (Some e ∷ rows) (suc at) value s =
      rw (s.others 0 e (omega arith) refl)
      (ap (λ rest. e ∷ rest) (stands_removed rows at value (stands_behind (Some e) rows at value s)))

  pub stands_inserted : (rows : List (Option (K × V))) (at : ℕ) (value new : V) (own : K)
      → StandsAt eq key rows at value → row_at rows at ≡ Some (own, value)
      → insert_entry eq (present rows) key new ≡ present (set rows at (Some (own, new)))
  stands_inserted [] at value new own s is = absurd (cc)
  stands_inserted (None ∷ rows) zero value new own s is = absurd (cc)
  stands_inserted (Some e ∷ rows) zero value new own s is =
      let here : e ≡ (own, value) = cc in
      let pair : (own, value) ≡ (s.own, value) = (let h = s.row in cc) in
      let same : own ≡ s.own = ap (λ (p : K × V). p.0) pair in rw (here, same, s.same) refl
  stands_inserted (None ∷ rows) (suc at) value new own s is =
      stands_inserted rows at value new own (stands_behind None rows at value s) is
  stands_inserted (Some e ∷ rows) (suc at) value new own s is =
      rw (s.others 0 e (omega arith) refl)
      (ap (λ rest. e ∷ rest) (stands_inserted rows at value new own (stands_behind (Some e) rows at value s) is))

  absent_behind : (row : Option (K × V)) (rows : List (Option (K × V))) → IsAbsent eq key (row ∷ rows)
      → IsAbsent eq key rows
  absent_behind row rows absent at entry is = absent (suc at) entry is

  pub absent_lookup : (rows : List (Option (K × V))) → IsAbsent eq key rows → lookup (eq key) (present rows) ≡ None
  absent_lookup [] absent = refl
  absent_lookup (None ∷ rows) absent = absent_lookup rows (absent_behind None rows absent)
  absent_lookup (Some e ∷ rows) absent =
      rw (absent 0 e refl) (absent_lookup rows (absent_behind (Some e) rows absent))

  pub absent_removed : (rows : List (Option (K × V))) → IsAbsent eq key rows
      → shift_remove_entry (eq key) (present rows) ≡ present rows
  absent_removed [] absent = refl
  absent_removed (None ∷ rows) absent = absent_removed rows (absent_behind None rows absent)
  absent_removed (Some e ∷ rows) absent =
      rw (absent 0 e refl) (ap (λ rest. e ∷ rest) (absent_removed rows (absent_behind (Some e) rows absent)))

  -- a new key goes last
  pub absent_inserted : (rows : List (Option (K × V))) (value : V) → IsAbsent eq key rows
      → insert_entry eq (present rows) key value ≡ present rows ++ (key, value) ∷ []
  absent_inserted [] value absent = refl
  absent_inserted (None ∷ rows) value absent = absent_inserted rows value (absent_behind None rows absent)
  absent_inserted (Some e ∷ rows) value absent =
      rw (absent 0 e refl)
      (ap (λ rest. e ∷ rest) (absent_inserted rows value (absent_behind (Some e) rows absent)))

  -- a key that is not found has no row
  pub absent_unfound : (rows : List (Option (K × V))) → lookup (eq key) (present rows) ≡ None → IsAbsent eq key rows
  absent_unfound [] none at entry is = absurd (cc)
  absent_unfound (None ∷ rows) none zero entry is = absurd (cc)
  absent_unfound (None ∷ rows) none (suc at) entry is = absent_unfound rows none at entry is
  absent_unfound (Some e ∷ rows) none at entry is = by (eq key e.0) refl at is (absent_unfound rows)
    where
      by : (b : Bool) → eq key e.0 ≡ b → (at : ℕ) → row_at (Some e ∷ rows) at ≡ Some entry
          → (lookup (eq key) (present rows) ≡ None → IsAbsent eq key rows) → eq key entry.0 ≡ false
      by true q at is behind = absurd (let h = rw q at none in cc)
      by false q zero is behind = let here : e ≡ entry = cc in rw (← here) q
      by false q (suc at) is behind = behind (rw q at none) at entry is

-- rows with no empty one
pub present_swept : {A : Type 0} (entries : List A) → present (map (λ (e : A). Some e) entries) ≡ entries
present_swept [] = refl
present_swept (e ∷ entries) = ap (λ rest. e ∷ rest) (present_swept entries)

-- the entries from a row on
module _ {A : Type 0} where
  some_from : (rows : List (Option A)) (at : ℕ) (entry : A) → row_at rows at ≡ Some entry
      → present (drop at rows) ≡ entry ∷ present (drop (suc at) rows)
  some_from [] at entry is = absurd (cc)
  some_from (None ∷ rows) zero entry is = absurd (cc)
  some_from (Some e ∷ rows) zero entry is = let here : e ≡ entry = cc in ap (λ (x : A). x ∷ present rows) here
  some_from (row ∷ rows) (suc at) entry is = some_from rows at entry is

  none_from : (rows : List (Option A)) (at : ℕ) → row_at rows at ≡ None
      → present (drop at rows) ≡ present (drop (suc at) rows)
  none_from [] zero is = refl
  none_from [] (suc at) is = refl
  none_from (None ∷ rows) zero is = refl
  none_from (Some e ∷ rows) zero is = absurd (cc)
  none_from (row ∷ rows) (suc at) is = none_from rows at is

  pub some_left : (rows : List (Option A)) (at : ℕ) (entry : A) → row_at rows at ≡ Some entry
      → present (drop at rows) ≡ entry ∷ present (drop (at + 1) rows)
  some_left rows at entry is =
      let next : at + 1 ≡ suc at = omega arith in
      some_from rows at entry is ∙ ap (λ (n : ℕ). entry ∷ present (drop n rows)) (sym next)

  pub none_left : (rows : List (Option A)) (at : ℕ) → row_at rows at ≡ None
      → present (drop at rows) ≡ present (drop (at + 1) rows)
  none_left rows at is =
      let next : at + 1 ≡ suc at = omega arith in
      none_from rows at is ∙ ap (λ (n : ℕ). present (drop n rows)) (sym next)

-- the derived equality of endpoints
abbrev pub derived : Endpoint → Endpoint → Bool
derived a b = (a.protocol == b.protocol) && ((a.address == b.address) && (a.port == b.port))
