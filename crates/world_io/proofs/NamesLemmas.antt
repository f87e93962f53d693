-- Looking a name up, after a change at its place and after one more name.
use Rattle.std.proofs.Common.{◌≡◌, ◌<◌, ℕ, Bool, true, false, cond, List, [], ◌∷◌, ◌++◌, Some, None, length, get_or}
use Rattle.std.proofs.Common.{set, arith, sym, ap, ◌∙◌, refl, get_or-set_same, get_or-set_other, length-set}
use Rattle.std.specs.List.{position}
use Rattle.std.specs.Str.{bytes_eq}
use Rattle.std.proofs.lemmas.Bool.{ltb-false}
use Rattle.std.proofs.lemmas.List.Quantifiers.{position-Some}
use Rattle.std.proofs.lemmas.List.Recursion.{found_at, found_nowhere, found_set_other, found_push_other}
use Rattle.std.proofs.lemmas.List.{get_or_push, get_or_append_left, length_push}
use Rattle.std.proofs.lemmas.List.Sums.{fails_before_first}
use Rattle.std.proofs.lemmas.Slice.Eq.{bytes_eq-Decides}
use Rattle.world_io.specs.Names.{bytes_under, SetsName, AppendsToName}
use Rattle.world_io.specs.declared.names.NamedBytes.{NamedBytes}

no_one : NamedBytes
no_one = record { name = []; bytes = [] }

abbrev pub is_name : List ℕ → NamedBytes → Bool
is_name name n = bytes_eq n.name name

bytes_eq-false : (xs ys : List ℕ) (b : Bool) → bytes_eq xs ys ≡ b → ¬ (xs ≡ ys) → b ≡ false
bytes_eq-false xs ys true e differ = absurd (differ ((bytes_eq-Decides xs ys).0 e))
bytes_eq-false xs ys false e differ = refl

cond-none : (b : Bool) (x : ℕ) → cond b (Some x) None ≡ None → b ≡ false
cond-none true x e = cc
cond-none false x e = refl

other_name : (n : NamedBytes) (name other : List ℕ) → n.name ≡ name → ¬ (other ≡ name) → is_name other n ≡ false
other_name n name other same differ =
    bytes_eq-false n.name other (bytes_eq n.name other) refl (λ e. differ (sym e ∙ same))

module _ (xs : List NamedBytes) (name : List ℕ) where
  absent : position (is_name name) xs ≡ None → (k : ℕ) (d : NamedBytes) → k < length xs
      → is_name name (get_or xs k d) ≡ false
  absent none k d within =
      let past = ltb-false _ _ (cond-none _ _ none) in
      fails_before_first (is_name name) xs k d (omega (arith, past))

  pub bytes_under-none : position (is_name name) xs ≡ None → bytes_under xs name ≡ None
  bytes_under-none none =
      found_nowhere (λ ns. bytes_under ns name) (is_name name) (λ n. Some n.bytes) None refl (λ _ _. refl) xs no_one
      (λ k. absent none k no_one)

  pub AppendsToName-none : (more : List ℕ) → position (is_name name) xs ≡ None → AppendsToName name more xs xs
  AppendsToName-none more none =
      record { own = λ had there. let e = bytes_under-none none in cc; others = λ _ _. refl }

  pub SetsName-push : (bytes : List ℕ) → position (is_name name) xs ≡ None
      → SetsName name bytes xs (xs ++ record { name = name; bytes = bytes } ∷ [])
  SetsName-push bytes none =
      let y : NamedBytes = record { name = name; bytes = bytes } in
      let all = xs ++ y ∷ [] in
      let last : get_or all (length xs) no_one ≡ y = get_or_push xs y no_one (length xs) refl in
      let is : is_name name y ≡ true = (bytes_eq-Decides name name).1 refl in
      let len = length_push xs y in
      record {
        own =
            found_at (λ ns. bytes_under ns name) (is_name name) (λ n. Some n.bytes) None refl (λ _ _. refl) all
            (length xs) no_one (omega arith)
            (λ k within.
            ap (is_name name) (get_or_append_left xs (y ∷ []) no_one k within) ∙ absent none k no_one within)
            (ap (is_name name) last ∙ is)
            ∙ ap (λ n. Some n.bytes) last;
        others = λ other differ. found_push_other (λ ns. bytes_under ns other) (is_name other) (λ n. Some n.bytes) None
            refl (λ _ _. refl) xs y (other_name y name other refl differ);
      }

  module _ (i : ℕ) (x : NamedBytes) (found : position (is_name name) xs ≡ Some i) (read : x ≡ get_or xs i x) where
    same_name : x.name ≡ name
    same_name =
        let at = position-Some (is_name name) xs i x found in
        (bytes_eq-Decides x.name name).0 (ap (is_name name) read ∙ at.1)

    pub bytes_under-found : Some x.bytes ≡ bytes_under xs name
    bytes_under-found =
        let at = position-Some (is_name name) xs i x found in
        ap (λ n. Some n.bytes) read
        ∙ sym (found_at (λ ns. bytes_under ns name) (is_name name) (λ n. Some n.bytes) None refl (λ _ _. refl) xs i x
        at.0 at.2 at.1)

    pub SetsName-set : (bytes : List ℕ) → SetsName name bytes xs (set xs i (record { name = x.name; bytes = bytes }))
    SetsName-set bytes =
        let at = position-Some (is_name name) xs i x found in
        let y : NamedBytes = record { name = x.name; bytes = bytes } in
        let here : get_or (set xs i y) i x ≡ y = get_or-set_same xs i y x at.0 in
        let is : is_name name y ≡ true = (bytes_eq-Decides x.name name).1 same_name in
        record {
          own =
              found_at (λ ns. bytes_under ns name) (is_name name) (λ n. Some n.bytes) None refl (λ _ _. refl)
              (set xs i y) i x (omega (arith, at.0, length-set xs i y))
              (λ k before. ap (is_name name) (get_or-set_other xs i k y x (omega arith)) ∙ at.2 k before)
              (ap (is_name name) here ∙ is)
              ∙ ap (λ n. Some n.bytes) here;
          others = λ other differ. found_set_other (λ ns. bytes_under ns other) (is_name other) (λ n. Some n.bytes) None
              refl (λ _ _. refl) xs i y x (ap (is_name other) (sym read) ∙ other_name x name other same_name differ)
              (other_name y name other same_name differ);
        }

    pub AppendsToName-set : (more : List ℕ)
        → AppendsToName name more xs (set xs i (record { name = x.name; bytes = x.bytes ++ more }))
    AppendsToName-set more =
        let sets = SetsName-set (x.bytes ++ more) in
        record {
          own = λ had there. let e = bytes_under-found in let s = sets.own in cc;
          others = sets.others;
        }
