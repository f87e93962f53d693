-- Rows after one is emptied, filled anew or added, and the places of their keys.
use Rattle.std.proofs.Common.{◌≡◌, ◌==◌, ℕ, zero, suc, ◌+◌, ◌<◌, ◌≤◌, Bool, true, false, List, [], ◌∷◌, ◌++◌, length}
use Rattle.std.proofs.Common.{set}
use Rattle.std.proofs.Common.{cond, refl, sym, ap, subst, ◌∙◌, arith, Option, Some, None, length-append, take, get_or}
use Rattle.std.proofs.Common.{map}
use Rattle.std.specs.Prelude.{◌≢◌, if◌then◌else◌}
use Rattle.std.specs.Cmp.{IsEquivalence}
use Rattle.std.specs.Map.{lookup}
use Rattle.std.proofs.lemmas.Bool.{eqb-true}
use Rattle.std.proofs.lemmas.Bool.Decides.{nat_tests}
use Rattle.nat_tables.specs.Rows.{present, row_at, IsAbsent, StandsAt, AreKept, AreApart, AreFound}

module _ {A : Type 0} where
  pub row_inside : (rows : List (Option A)) (at : ℕ) (entry : A) → row_at rows at ≡ Some entry → at < length rows
  row_inside [] at entry is = absurd (cc)
  row_inside (row ∷ rows) zero entry is = omega arith
  row_inside (row ∷ rows) (suc at) entry is = let h = row_inside rows at entry is in omega arith

  pub row_set_same : (rows : List (Option A)) (at : ℕ) (row : Option A) → at < length rows
      → row_at (set rows at row) at ≡ row
  row_set_same [] at row inside = absurd (omega arith)
  row_set_same (x ∷ rows) zero row inside = refl
  row_set_same (x ∷ rows) (suc at) row inside = row_set_same rows at row (omega arith)

  pub row_set_other : (rows : List (Option A)) (at k : ℕ) (row : Option A) → k ≢ at
      → row_at (set rows at row) k ≡ row_at rows k
  row_set_other [] at k row apart = refl
  row_set_other (x ∷ rows) zero zero row apart = absurd (apart refl)
  row_set_other (x ∷ rows) zero (suc k) row apart = refl
  row_set_other (x ∷ rows) (suc at) zero row apart = refl
  row_set_other (x ∷ rows) (suc at) (suc k) row apart = row_set_other rows at k row (λ same. apart (ap suc same))

  pub row_added : (rows : List (Option A)) (row : Option A) → row_at (rows ++ row ∷ []) (length rows) ≡ row
  row_added [] row = refl
  row_added (x ∷ rows) row = row_added rows row

  pub row_kept : (rows : List (Option A)) (row : Option A) (k : ℕ) → k ≢ length rows
      → row_at (rows ++ row ∷ []) k ≡ row_at rows k
  row_kept [] row zero apart = absurd (apart refl)
  row_kept [] row (suc k) apart = refl
  row_kept (x ∷ rows) row zero apart = refl
  row_kept (x ∷ rows) row (suc k) apart = row_kept rows row k (λ same. apart (ap suc same))

  -- an empty row that is emptied
  pub row_empty : (rows : List (Option A)) (at : ℕ) → None ≡ row_at rows at → rows ≡ set rows at None
  row_empty [] at none = refl
  row_empty (row ∷ rows) zero none = ap (λ (x : Option A). x ∷ rows) (sym none)
  row_empty (row ∷ rows) (suc at) none = ap (λ (xs : List (Option A)). row ∷ xs) (row_empty rows at none)

  pub present_few : (rows : List (Option A)) → length (present rows) ≤ length rows
  present_few [] = omega arith
  present_few (None ∷ rows) = let h = present_few rows in omega arith
  present_few (Some entry ∷ rows) = let h = present_few rows in omega arith

  pub present_more : (rows : List (Option A)) (entry : A)
      → present (rows ++ Some entry ∷ []) ≡ present rows ++ entry ∷ []
  present_more [] entry = refl
  present_more (None ∷ rows) entry = present_more rows entry
  present_more (Some x ∷ rows) entry = ap (λ (xs : List A). x ∷ xs) (present_more rows entry)

  pub fewer_present : (rows : List (Option A)) (at : ℕ) (entry : A) → row_at rows at ≡ Some entry
      → length (present (set rows at None)) + 1 ≡ length (present rows)
  fewer_present [] at entry is = absurd (cc)
  fewer_present (None ∷ rows) zero entry is = absurd (cc)
  fewer_present (Some x ∷ rows) zero entry is = omega arith
  fewer_present (None ∷ rows) (suc at) entry is = fewer_present rows at entry is
  fewer_present (Some x ∷ rows) (suc at) entry is = let h = fewer_present rows at entry is in omega arith

  pub as_many_present : (rows : List (Option A)) (at : ℕ) (entry new : A) → row_at rows at ≡ Some entry
      → length (present (set rows at (Some new))) ≡ length (present rows)
  as_many_present [] at entry new is = absurd (cc)
  as_many_present (None ∷ rows) zero entry new is = absurd (cc)
  as_many_present (Some x ∷ rows) zero entry new is = refl
  as_many_present (None ∷ rows) (suc at) entry new is = as_many_present rows at entry new is
  as_many_present (Some x ∷ rows) (suc at) entry new is = ap suc (as_many_present rows at entry new is)

  -- Rows one after another

  pub row_read : (rows : List (Option A)) (at : ℕ) (row : Option A) → at < length rows → row ≡ get_or rows at row
      → row_at rows at ≡ row
  row_read [] at row inside is = absurd (omega arith)
  row_read (x ∷ rows) zero row inside is = sym is
  row_read (x ∷ rows) (suc at) row inside is = row_read rows at row (omega arith) is

  some_after : (rows : List (Option A)) (at : ℕ) (entry : A) → row_at rows at ≡ Some entry
      → present (take (suc at) rows) ≡ present (take at rows) ++ entry ∷ []
  some_after [] at entry is = absurd (cc)
  some_after (None ∷ rows) zero entry is = absurd (cc)
  some_after (Some x ∷ rows) zero entry is = let same : x ≡ entry = cc in ap (λ (y : A). y ∷ []) same
  some_after (None ∷ rows) (suc at) entry is = some_after rows at entry is
  some_after (Some x ∷ rows) (suc at) entry is = ap (λ (xs : List A). x ∷ xs) (some_after rows at entry is)

  none_after : (rows : List (Option A)) (at : ℕ) → row_at rows at ≡ None
      → present (take (suc at) rows) ≡ present (take at rows)
  none_after [] zero is = refl
  none_after [] (suc at) is = refl
  none_after (None ∷ rows) zero is = refl
  none_after (Some x ∷ rows) zero is = absurd (cc)
  none_after (None ∷ rows) (suc at) is = none_after rows at is
  none_after (Some x ∷ rows) (suc at) is = ap (λ (xs : List A). x ∷ xs) (none_after rows at is)

  pub some_next : (rows : List (Option A)) (at : ℕ) (entry : A) → row_at rows at ≡ Some entry
      → present (take (at + 1) rows) ≡ present (take at rows) ++ entry ∷ []
  some_next rows at entry is =
      let next : at + 1 ≡ suc at = omega arith in
      ap (λ (n : ℕ). present (take n rows)) next ∙ some_after rows at entry is

  pub none_next : (rows : List (Option A)) (at : ℕ) → row_at rows at ≡ None
      → present (take (at + 1) rows) ≡ present (take at rows)
  none_next rows at is =
      let next : at + 1 ≡ suc at = omega arith in
      ap (λ (n : ℕ). present (take n rows)) next ∙ none_after rows at is

  map_more : (entries : List A) (entry : A)
      → map (λ (e : A). Some e) (entries ++ entry ∷ []) ≡ map (λ (e : A). Some e) entries ++ Some entry ∷ []
  map_more [] entry = refl
  map_more (x ∷ entries) entry = ap (λ (xs : List (Option A)). Some x ∷ xs) (map_more entries entry)

  pub swept_next : (rows : List (Option A)) (at : ℕ) (entry : A) → row_at rows at ≡ Some entry
      → map (λ (e : A). Some e) (present (take (at + 1) rows))
      ≡ map (λ (e : A). Some e) (present (take at rows)) ++ Some entry ∷ []
  swept_next rows at entry is =
      ap (λ (xs : List A). map (λ (e : A). Some e) xs) (some_next rows at entry is)
      ∙ map_more (present (take at rows)) entry

  -- what is swept is in a row before
  from_swept : (rows : List (Option A)) (i at : ℕ) (entry : A)
      → row_at (map (λ (e : A). Some e) (present (take i rows))) at ≡ Some entry
      → (k : ℕ) × (k < i) × (row_at rows k ≡ Some entry)
  from_swept [] zero at entry is = absurd (cc)
  from_swept [] (suc i) at entry is = absurd (cc)
  from_swept (row ∷ rows) zero at entry is = absurd (cc)
  from_swept (None ∷ rows) (suc i) at entry is =
      let h = from_swept rows i at entry is in let less = h.1 in (suc h.0, omega arith, h.2)
  from_swept (Some x ∷ rows) (suc i) zero entry is = (0, omega arith, is)
  from_swept (Some x ∷ rows) (suc i) (suc at) entry is =
      let h = from_swept rows i at entry is in let less = h.1 in (suc h.0, omega arith, h.2)

-- the rows before this one have other keys
abbrev pub AreOthers : {K V : Type 0} → (K → K → Bool) → K → ℕ → List (Option (K × V)) → Type 0
AreOthers {K} {V} eq key at rows =
    (k : ℕ) (entry : K × V) → k < at → row_at rows k ≡ Some entry → eq key entry.0 ≡ false

module _ {K : Type 0} (eq : K → K → Bool) (laws : IsEquivalence eq) where
  -- equal keys have one place
  same_place : (key own : K) (places : List (K × ℕ)) → eq key own ≡ true
      → lookup (eq key) places ≡ lookup (eq own) places
  same_place key own places same = ap (λ test. lookup test places) (λ i q. laws.congr key own q same i)

module _ {K V : Type 0} (eq : K → K → Bool) (laws : IsEquivalence eq) where
  place_of : (key : K) (places : List (K × ℕ)) (count : ℕ) (rows : List (Option (K × V))) (at : ℕ) (entry : K × V)
      → AreKept eq places count rows → row_at rows at ≡ Some entry → eq key entry.0 ≡ true
      → lookup (eq key) places ≡ Some at
  place_of key places count rows at entry kept is same =
      same_place eq laws key entry.0 places same ∙ kept.placed at entry is

  pub absent_unplaced : (key : K) (places : List (K × ℕ)) (count : ℕ) (rows : List (Option (K × V)))
      → AreKept eq places count rows → lookup (eq key) places ≡ None → IsAbsent eq key rows
  absent_unplaced key places count rows kept none at entry is = by (eq key entry.0) refl
    where
      by : (b : Bool) → eq key entry.0 ≡ b → eq key entry.0 ≡ false
      by true same = absurd (let h = place_of key places count rows at entry kept is same in cc)
      by false apart = apart

  -- the place of the key has no row of it
  pub absent_elsewhere : (key : K) (places : List (K × ℕ)) (count : ℕ) (rows : List (Option (K × V))) (place : ℕ)
      → AreKept eq places count rows → lookup (eq key) places ≡ Some place
      → ((entry : K × V) → row_at rows place ≡ Some entry → eq key entry.0 ≡ false) → IsAbsent eq key rows
  absent_elsewhere key places count rows place kept found other at entry is = by (eq key entry.0) refl
    where
      by : (b : Bool) → eq key entry.0 ≡ b → eq key entry.0 ≡ false
      by true same =
          let h = place_of key places count rows at entry kept is same in
          let here : at ≡ place = cc in
          other entry (subst (λ (x : ℕ). row_at rows x ≡ Some entry) here is)
      by false apart = apart

  pub stands_there : (key own : K) (value : V) (places : List (K × ℕ)) (count : ℕ) (rows : List (Option (K × V)))
      (place : ℕ) → AreKept eq places count rows → lookup (eq key) places ≡ Some place
      → row_at rows place ≡ Some (own, value) → eq key own ≡ true → StandsAt eq key rows place value
  stands_there key own value places count rows place kept found is same = record {
    own = own;
    row = is;
    same = same;
    others = λ k entry less at. by k entry less at (eq key entry.0) refl;
  }
    where
      by : (k : ℕ) (entry : K × V) → k < place → row_at rows k ≡ Some entry → (b : Bool) → eq key entry.0 ≡ b
          → eq key entry.0 ≡ false
      by k entry less at true same = absurd
          (let h = place_of key places count rows k entry kept at same in
          let here : k ≡ place = cc in omega arith)
      by k entry less at false apart = apart

  pub kept_put : (places : List (K × ℕ)) (count : ℕ) (rows : List (Option (K × V))) (at : ℕ) (entry : K × V) (value : V)
      → AreKept eq places count rows → row_at rows at ≡ Some entry
      → AreKept eq places count (set rows at (Some (entry.0, value)))
  kept_put places count rows at entry value kept is = record {
    placed = λ k x at_k. by k x at_k (k == at) refl;
    counted = kept.counted ∙ sym (as_many_present rows at entry (entry.0, value) is);
    few = kept.few;
  }
    where
      new : List (Option (K × V))
      new = set rows at (Some (entry.0, value))

      by : (k : ℕ) (x : K × V) → row_at new k ≡ Some x → (b : Bool) → (k == at) ≡ b → lookup (eq x.0) places ≡ Some k
      by k x at_k true t =
          let here : at ≡ k = sym (eqb-true _ _ t) in
          let there : row_at new k ≡ Some (entry.0, value) =
          subst (λ (j : ℕ). row_at new j ≡ Some (entry.0, value)) here
          (row_set_same rows at (Some (entry.0, value)) (row_inside rows at entry is)) in
          let same : x.0 ≡ entry.0 = cc in
          rw (same, ← here) (kept.placed at entry is)
      by k x at_k false t =
          let apart : k ≢ at = (λ same. grind (arith, nat_tests)) in
          kept.placed k x (sym (row_set_other rows at k (Some (entry.0, value)) apart) ∙ at_k)

  pub kept_clear : (places left : List (K × ℕ)) (count less : ℕ) (rows : List (Option (K × V))) (at : ℕ) (entry : K × V)
      → AreKept eq places count rows → row_at rows at ≡ Some entry
      → ((q : K) → lookup (eq q) left ≡ cond (eq entry.0 q) None (lookup (eq q) places)) → less + 1 ≡ count
      → length left + 1 ≡ length places → AreKept eq left less (set rows at None)
  kept_clear places left count less rows at entry kept is others one shrunk = record {
    placed = λ k x at_k. by k x at_k (k == at) refl;
    counted = let h = fewer_present rows at entry is in let c = kept.counted in omega arith;
    few = let f = kept.few in omega arith;
  }
    where
      new : List (Option (K × V))
      new = set rows at None

      apart_from : (k : ℕ) (x : K × V) → k ≢ at → row_at rows k ≡ Some x → (b : Bool) → eq entry.0 x.0 ≡ b
          → eq entry.0 x.0 ≡ false
      apart_from k x apart at_k true same = absurd
          (let h = place_of entry.0 places count rows k x kept at_k same in
          let g = kept.placed at entry is in
          apart (cc))
      apart_from k x apart at_k false other = other

      by : (k : ℕ) (x : K × V) → row_at new k ≡ Some x → (b : Bool) → (k == at) ≡ b → lookup (eq x.0) left ≡ Some k
      by k x at_k true t = absurd
          (let here : at ≡ k = sym (eqb-true _ _ t) in
          let there : row_at new k ≡ None =
          subst (λ (j : ℕ). row_at new j ≡ None) here (row_set_same rows at None (row_inside rows at entry is)) in cc)
      by k x at_k false t =
          let apart : k ≢ at = (λ same. grind (arith, nat_tests)) in
          let old : row_at rows k ≡ Some x = sym (row_set_other rows at k None apart) ∙ at_k in
          others x.0 ∙ (rw (apart_from k x apart old (eq entry.0 x.0) refl) (kept.placed k x old))

  pub kept_push : (places more : List (K × ℕ)) (count place : ℕ) (rows : List (Option (K × V))) (key : K) (value : V)
      → AreKept eq places count rows → IsAbsent eq key rows → place ≡ length rows
      → ((q : K) → lookup (eq q) more ≡ cond (eq key q) (Some place) (lookup (eq q) places))
      → length more ≤ length places + 1
      → AreKept eq more (count + 1) (rows ++ Some (key, value) ∷ [])
  kept_push places more count place rows key value kept absent last others grown = record {
    placed = λ k x at_k. by k x at_k (k == length rows) refl;
    counted =
        let more = ap length (present_more rows (key, value)) in
        let sum = length-append (present rows) ((key, value) ∷ []) in
        let c = kept.counted in omega (arith, more, sum, c);
    few = let f = kept.few in omega arith;
  }
    where
      new : List (Option (K × V))
      new = rows ++ Some (key, value) ∷ []

      by : (k : ℕ) (x : K × V) → row_at new k ≡ Some x → (b : Bool) → (k == length rows) ≡ b
          → lookup (eq x.0) more ≡ Some k
      by k x at_k true t =
          let here : length rows ≡ k = sym (eqb-true _ _ t) in
          let there : row_at new k ≡ Some (key, value) =
          subst (λ (j : ℕ). row_at new j ≡ Some (key, value)) here (row_added rows (Some (key, value))) in
          let same : x.0 ≡ key = cc in
          rw (same, ← here, ← last) (others key ∙ (rw (laws.refl key) refl))
      by k x at_k false t =
          let apart : k ≢ length rows = (λ same. grind (arith, nat_tests)) in
          let old : row_at rows k ≡ Some x = sym (row_kept rows (Some (key, value)) k apart) ∙ at_k in
          others x.0 ∙ (rw (absent k x old) (kept.placed k x old))

  -- the row of a key, and those of others before it
  pub apart_before : (places : List (K × ℕ)) (count : ℕ) (rows : List (Option (K × V))) (at k : ℕ) (entry other : K × V)
      → AreKept eq places count rows → row_at rows at ≡ Some entry → row_at rows k ≡ Some other → k < at
      → eq entry.0 other.0 ≡ false
  apart_before places count rows at k entry other kept is there less = by (eq entry.0 other.0) refl
    where
      by : (b : Bool) → eq entry.0 other.0 ≡ b → eq entry.0 other.0 ≡ false
      by true same = absurd
          (let h = place_of entry.0 places count rows k other kept there same in
          let g = kept.placed at entry is in
          let here : k ≡ at = cc in omega arith)
      by false apart = apart

  pub absent_swept : (count : ℕ) (rows : List (Option (K × V))) (at : ℕ) (entry : K × V)
      → AreApart eq count rows → row_at rows at ≡ Some entry
      → IsAbsent eq entry.0 (map (λ (e : K × V). Some e) (present (take at rows)))
  absent_swept count rows at entry all is k other there =
      let h = from_swept rows at k other there in
      all.apart at h.0 entry other is h.2 h.1

  -- rows of which each has the key of one in the same place stay apart
  apart_still : (rows more : List (Option (K × V))) (count : ℕ)
      → ((k : ℕ) (x : K × V) → row_at more k ≡ Some x → (y : K × V) × (row_at rows k ≡ Some y) × (y.0 ≡ x.0))
      → AreApart eq count rows → (at k : ℕ) (entry other : K × V) → row_at more at ≡ Some entry
      → row_at more k ≡ Some other → k < at → eq entry.0 other.0 ≡ false
  apart_still rows more count from all at k entry other is there less =
      let e = from at entry is in
      let o = from k other there in
      rw (← e.2, ← o.2) (all.apart at k e.0 o.0 e.1 o.1 less)

  apart_put : (count : ℕ) (rows : List (Option (K × V))) (at : ℕ) (entry : K × V) (value : V) → AreApart eq count rows
      → row_at rows at ≡ Some entry → AreApart eq count (set rows at (Some (entry.0, value)))
  apart_put count rows at entry value all is = record {
    apart = apart_still rows new count (λ k x at_k. by k x at_k (k == at) refl) all;
    counted = all.counted ∙ sym (as_many_present rows at entry (entry.0, value) is);
  }
    where
      new : List (Option (K × V))
      new = set rows at (Some (entry.0, value))

      by : (k : ℕ) (x : K × V) → row_at new k ≡ Some x → (b : Bool) → (k == at) ≡ b
          → (y : K × V) × (row_at rows k ≡ Some y) × (y.0 ≡ x.0)
      by k x at_k true t =
          let here : at ≡ k = sym (eqb-true _ _ t) in
          let there : row_at new k ≡ Some (entry.0, value) =
          subst (λ (j : ℕ). row_at new j ≡ Some (entry.0, value)) here
          (row_set_same rows at (Some (entry.0, value)) (row_inside rows at entry is)) in
          let same : entry.0 ≡ x.0 = cc in
          (entry, subst (λ (j : ℕ). row_at rows j ≡ Some entry) here is, same)
      by k x at_k false t =
          let apart : k ≢ at = (λ same. grind (arith, nat_tests)) in
          (x, sym (row_set_other rows at k (Some (entry.0, value)) apart) ∙ at_k, refl)

  apart_clear : (count less : ℕ) (rows : List (Option (K × V))) (at : ℕ) (entry : K × V) → AreApart eq count rows
      → row_at rows at ≡ Some entry → less + 1 ≡ count → AreApart eq less (set rows at None)
  apart_clear count less rows at entry all is one = record {
    apart = apart_still rows new count (λ k x at_k. by k x at_k (k == at) refl) all;
    counted = let h = fewer_present rows at entry is in let c = all.counted in omega arith;
  }
    where
      new : List (Option (K × V))
      new = set rows at None

      by : (k : ℕ) (x : K × V) → row_at new k ≡ Some x → (b : Bool) → (k == at) ≡ b
          → (y : K × V) × (row_at rows k ≡ Some y) × (y.0 ≡ x.0)
      by k x at_k true t = absurd
          (let here : at ≡ k = sym (eqb-true _ _ t) in
          let there : row_at new k ≡ None =
          subst (λ (j : ℕ). row_at new j ≡ None) here (row_set_same rows at None (row_inside rows at entry is)) in cc)
      by k x at_k false t =
          let apart : k ≢ at = (λ same. grind (arith, nat_tests)) in
          (x, sym (row_set_other rows at k None apart) ∙ at_k, refl)

  apart_push : (count : ℕ) (rows : List (Option (K × V))) (key : K) (value : V) → AreApart eq count rows
      → IsAbsent eq key rows → AreApart eq (count + 1) (rows ++ Some (key, value) ∷ [])
  apart_push count rows key value all absent = record {
    apart = λ at k entry other is there less. by at k entry other is there less (at == length rows) refl;
    counted =
        let more = ap length (present_more rows (key, value)) in
        let sum = length-append (present rows) ((key, value) ∷ []) in
        let c = all.counted in omega (arith, more, sum, c);
  }
    where
      new : List (Option (K × V))
      new = rows ++ Some (key, value) ∷ []

      inside : (at : ℕ) (entry : K × V) → row_at new at ≡ Some entry → at < length rows + 1
      inside at entry is =
          let h = row_inside new at entry is in
          let sum = length-append rows (Some (key, value) ∷ []) in omega (arith, h, sum)

      old : (k : ℕ) (x : K × V) → row_at new k ≡ Some x → k < length rows → row_at rows k ≡ Some x
      old k x at_k less = sym (row_kept rows (Some (key, value)) k (λ same. omega arith)) ∙ at_k

      by : (at k : ℕ) (entry other : K × V) → row_at new at ≡ Some entry → row_at new k ≡ Some other → k < at
          → (b : Bool) → (at == length rows) ≡ b → eq entry.0 other.0 ≡ false
      by at k entry other is there less true t =
          let here : length rows ≡ at = sym (eqb-true _ _ t) in
          let last : row_at new at ≡ Some (key, value) =
          subst (λ (j : ℕ). row_at new j ≡ Some (key, value)) here (row_added rows (Some (key, value))) in
          let same : entry.0 ≡ key = cc in
          rw same (absent k other (old k other there (omega arith)))
      by at k entry other is there less false t =
          let apart : at ≢ length rows = (λ same. grind (arith, nat_tests)) in
          let bound = inside at entry is in
          all.apart at k entry other (sym (row_kept rows (Some (key, value)) at apart) ∙ is)
          (old k other there (omega (arith, bound, less))) less

  pub found_apart : (b : Bool) (places : List (K × ℕ)) (count : ℕ) (rows : List (Option (K × V)))
      → AreFound eq b places count rows → AreApart eq count rows
  found_apart true places count rows kept = record {
    apart = λ at k entry other is there less. apart_before places count rows at k entry other kept is there less;
    counted = kept.counted;
  }
  found_apart false places count rows all = all

  pub found_kept : (b : Bool) (places : List (K × ℕ)) (count : ℕ) (rows : List (Option (K × V))) → b ≡ true
      → AreFound eq b places count rows → AreKept eq places count rows
  found_kept true places count rows is kept = kept
  found_kept false places count rows is all = absurd (cc)

  pub found_put : (b : Bool) (places : List (K × ℕ)) (count : ℕ) (rows : List (Option (K × V))) (at : ℕ)
      (entry : K × V) (value : V) → AreFound eq b places count rows → row_at rows at ≡ Some entry
      → AreFound eq b places count (set rows at (Some (entry.0, value)))
  found_put true places count rows at entry value = kept_put places count rows at entry value
  found_put false places count rows at entry value = apart_put count rows at entry value

  pub found_clear : (b : Bool) (places left : List (K × ℕ)) (count less : ℕ) (rows : List (Option (K × V))) (at : ℕ)
      (entry : K × V) → AreFound eq b places count rows → row_at rows at ≡ Some entry
      → ((q : K) → lookup (eq q) left ≡ cond (eq entry.0 q) None (lookup (eq q) places)) → less + 1 ≡ count
      → (lookup (eq entry.0) places ≡ Some at → length left + 1 ≡ length places)
      → AreFound eq b left less (set rows at None)
  found_clear true places left count less rows at entry kept is others one shrunk =
      kept_clear places left count less rows at entry kept is others one (shrunk (kept.placed at entry is))
  found_clear false places left count less rows at entry all is others one shrunk =
      apart_clear count less rows at entry all is one

  pub found_push : (b : Bool) (places more : List (K × ℕ)) (count place : ℕ) (rows : List (Option (K × V))) (key : K)
      (value : V) → AreFound eq b places count rows → IsAbsent eq key rows → place ≡ length rows
      → ((q : K) → lookup (eq q) more ≡ cond (eq key q) (Some place) (lookup (eq q) places))
      → length more ≤ length places + 1
      → AreFound eq b more (count + 1) (rows ++ Some (key, value) ∷ [])
  found_push true places more count place rows key value kept absent last others grown =
      kept_push places more count place rows key value kept absent last others grown
  found_push false places more count place rows key value all absent last others grown =
      apart_push count rows key value all absent

module _ {K V : Type 0} (eq : K → K → Bool) (key : K) (rows : List (Option (K × V))) where
  pub others_next : (at : ℕ) → AreOthers eq key at rows
      → ((entry : K × V) → row_at rows at ≡ Some entry → eq key entry.0 ≡ false) → AreOthers eq key (at + 1) rows
  others_next at others here k entry less is = by (k == at) refl
    where
      by : (b : Bool) → (k == at) ≡ b → eq key entry.0 ≡ false
      by true t = here entry (subst (λ (j : ℕ). row_at rows j ≡ Some entry) (eqb-true _ _ t) is)
      by false t = others k entry (grind (arith, nat_tests)) is

  pub stands_here : (at : ℕ) (own : K) (value : V) → AreOthers eq key at rows → row_at rows at ≡ Some (own, value)
      → eq key own ≡ true → StandsAt eq key rows at value
  stands_here at own value others is same = record {
    own = own;
    row = is;
    same = same;
    others = others;
  }

  pub others_all : (at : ℕ) → length rows ≤ at → AreOthers eq key at rows → IsAbsent eq key rows
  others_all at past others k entry is =
      let inside = row_inside rows k entry is in others k entry (omega (arith, inside, past)) is

-- one more at most
pub one_more : (m n : ℕ) (b : Bool) → m ≡ n + (if b then 0 else 1) → m ≤ n + 1
one_more m n true e = omega arith
one_more m n false e = omega arith
