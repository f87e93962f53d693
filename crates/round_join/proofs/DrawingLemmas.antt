-- Drawing the moves of threads by turns, from the oldest on.
use Rattle.std.proofs.Common.{◌≡◌, ℕ, ◌+◌, ◌<◌, ◌⊎◌, inl, inr, List, [], ◌∷◌, ◌++◌, length, reverse, drop, refl}
use Rattle.std.proofs.Common.{sym, ap, ◌∙◌, subst}
use Rattle.std.specs.Prelude.{slice_index_or, slice_set}
use Rattle.std.proofs.lemmas.List.{length-set, get_or-set_same, get_or-set_other, set-set, set_comm, reverse-append}
use Rattle.std.proofs.lemmas.List.{reverse-reverse, drop_more}
use Rattle.std.proofs.lemmas.Bool.{cases_eq}
use Rattle.round_join.specs.Drawing.{AreDrawn}

-- the one of the last turn, which is the oldest of its list, and the others
record Oldest {A : Type 0} (lists : List (List A)) (turns : List ℕ) (t : ℕ) (drawn : List A) : Type 0 where
  low : t < length lists
  left : List A
  item : A
  rest : List A
  drawn_is : drawn ≡ left ++ item ∷ []
  list_is : slice_index_or lists t [] ≡ rest ++ item ∷ []
  more : AreDrawn (slice_set lists t rest) turns left

only_one : {A : Type 0} (lists : List (List A)) (t : ℕ) (x : A) (rest drawn : List A) → t < length lists
    → slice_index_or lists t [] ≡ x ∷ rest → AreDrawn (slice_set lists t rest) [] drawn → Oldest lists [] t (x ∷ drawn)
only_one lists t x rest (y ∷ drawn) low is more = absurd more
only_one {A} lists t x rest [] low is more =
    let none : rest ≡ [] = sym (get_or-set_same lists t rest [] low) ∙ more t in
    record {
      low = low;
      left = [];
      item = x;
      rest = [];
      drawn_is = refl;
      list_is = is ∙ ap (λ (l : List A). x ∷ l) none;
      more = subst (λ (l : List A). (k : ℕ) → slice_index_or (slice_set lists t l) k [] ≡ []) none more;
    }

-- a newer one of the same list stands before them
of_same : {A : Type 0} (lists : List (List A)) (turns : List ℕ) (t : ℕ) (x : A) (rest drawn : List A) → t < length lists
    → slice_index_or lists t [] ≡ x ∷ rest → Oldest (slice_set lists t rest) turns t drawn
    → Oldest lists (t ∷ turns) t (x ∷ drawn)
of_same {A} lists turns t x rest drawn low is k =
    let there : rest ≡ k.rest ++ k.item ∷ [] = sym (get_or-set_same lists t rest [] low) ∙ k.list_is in
    record {
      low = low;
      left = x ∷ k.left;
      item = k.item;
      rest = x ∷ k.rest;
      drawn_is = ap (λ (l : List A). x ∷ l) k.drawn_is;
      list_is = is ∙ ap (λ (l : List A). x ∷ l) there;
      more = (
        subst (λ (n : ℕ). t < n) (sym (length-set lists t (x ∷ k.rest))) low,
        k.rest,
        get_or-set_same lists t (x ∷ k.rest) [] low,
        subst (λ (l : List (List A)). AreDrawn l turns k.left)
            (set-set lists t rest k.rest ∙ sym (set-set lists t (x ∷ k.rest) k.rest)) k.more,
      );
    }

-- one of another list does
of_other : {A : Type 0} (lists : List (List A)) (turns : List ℕ) (u t : ℕ) (x : A) (rest drawn : List A)
    → u < length lists → slice_index_or lists u [] ≡ x ∷ rest → (t ≡ u → ⊥)
    → Oldest (slice_set lists u rest) turns t drawn → Oldest lists (u ∷ turns) t (x ∷ drawn)
of_other {A} lists turns u t x rest drawn low is apart k =
    let other : u ≡ t → ⊥ = λ e. apart (sym e) in
    record {
      low = subst (λ (n : ℕ). t < n) (length-set lists u rest) k.low;
      left = x ∷ k.left;
      item = k.item;
      rest = k.rest;
      drawn_is = ap (λ (l : List A). x ∷ l) k.drawn_is;
      list_is = sym (get_or-set_other lists u t rest [] apart) ∙ k.list_is;
      more = (
        subst (λ (n : ℕ). u < n) (sym (length-set lists t k.rest)) low,
        rest,
        get_or-set_other lists t u k.rest [] other ∙ is,
        subst (λ (l : List (List A)). AreDrawn l turns k.left) (set_comm lists u t rest k.rest other) k.more,
      );
    }

behind : {A : Type 0} (lists : List (List A)) (turns : List ℕ) (u t : ℕ) (x : A) (rest drawn : List A)
    → u < length lists → slice_index_or lists u [] ≡ x ∷ rest → ((t ≡ u) ⊎ (t ≡ u → ⊥))
    → Oldest (slice_set lists u rest) turns t drawn → Oldest lists (u ∷ turns) t (x ∷ drawn)
behind {A} lists turns u t x rest drawn low is (inl e) k =
    subst (λ (n : ℕ). Oldest lists (u ∷ turns) n (x ∷ drawn)) (sym e)
    (of_same lists turns u x rest drawn low is
    (subst (λ (n : ℕ). Oldest (slice_set lists u rest) turns n drawn) e k))
behind lists turns u t x rest drawn low is (inr e) k = of_other lists turns u t x rest drawn low is e k

oldest_of : {A : Type 0} (lists : List (List A)) (turns : List ℕ) (t : ℕ) (drawn : List A)
    → AreDrawn lists (turns ++ t ∷ []) drawn → Oldest lists turns t drawn
oldest_of lists [] t [] d = absurd d
oldest_of lists [] t (x ∷ drawn) (low, rest, is, more) = only_one lists t x rest drawn low is more
oldest_of lists (u ∷ turns) t [] d = absurd d
oldest_of lists (u ∷ turns) t (x ∷ drawn) (low, rest, is, more) =
    behind lists turns u t x rest drawn low is (cases_eq t u) (oldest_of (slice_set lists u rest) turns t drawn more)

-- the last items of equal lists
same_last : {A : Type 0} (a b : List A) (x y : A) → a ++ x ∷ [] ≡ b ++ y ∷ [] → (a ≡ b) × (x ≡ y)
same_last {A} a b x y same =
    let turned : x ∷ reverse a ≡ y ∷ reverse b =
    sym (reverse-append a (x ∷ [])) ∙ ap (λ (l : List A). reverse l) same ∙ reverse-append b (y ∷ []) in
    let rest : reverse a ≡ reverse b = cc in
    (sym (reverse-reverse a) ∙ ap (λ (l : List A). reverse l) rest ∙ reverse-reverse b, cc)

-- The turn of a thread whose list is there, and has an item.
pub turn_low : {A : Type 0} (lists : List (List A)) (turns : List ℕ) (t : ℕ) (drawn : List A)
    → AreDrawn lists (turns ++ t ∷ []) drawn → t < length lists
turn_low lists turns t drawn d = (oldest_of lists turns t drawn d).low

not_none : {A : Type 0} (rest : List A) (x : A) → rest ++ x ∷ [] ≡ [] → ⊥
not_none [] x is = absurd (cc)
not_none (y ∷ rest) x is = absurd (cc)

pub turn_some : {A : Type 0} (lists : List (List A)) (turns : List ℕ) (t : ℕ) (drawn : List A)
    → AreDrawn lists (turns ++ t ∷ []) drawn → slice_index_or lists t [] ≡ [] → ⊥
turn_some lists turns t drawn d none =
    let k = oldest_of lists turns t drawn d in not_none k.rest k.item (sym k.list_is ∙ none)

-- The oldest item of the list of the last turn is the oldest that is drawn; the others are drawn without it.
pub turn_around : {A : Type 0} (lists : List (List A)) (turns : List ℕ) (t : ℕ) (drawn rest : List A) (item : A)
    → slice_index_or lists t [] ≡ rest ++ item ∷ [] → AreDrawn lists (turns ++ t ∷ []) drawn
    → (left : List A) × (drawn ≡ left ++ item ∷ []) × AreDrawn (slice_set lists t rest) turns left
turn_around {A} lists turns t drawn rest item is d =
    let k = oldest_of lists turns t drawn d in
    let same = same_last k.rest rest k.item item (sym k.list_is ∙ is) in (
      k.left,
      k.drawn_is ∙ ap (λ (x : A). k.left ++ x ∷ []) same.1,
      subst (λ (l : List A). AreDrawn (slice_set lists t l) turns k.left) same.0 k.more,
    )

-- nothing is drawn in no turns
pub none_drawn : {A : Type 0} (lists : List (List A)) (drawn : List A) → AreDrawn lists [] drawn → drawn ≡ []
none_drawn lists [] d = refl
none_drawn lists (x ∷ drawn) d = absurd d

-- the turns that are left, newest first, before one of them
pub turns_left : (turns : List ℕ) (i : ℕ) → i < length turns
    → reverse (drop i turns) ≡ reverse (drop (i + 1) turns) ++ slice_index_or turns i 0 ∷ []
turns_left turns i low =
    ap (λ (l : List ℕ). reverse l) (drop_more turns i 0 low)
    ∙ reverse-append (slice_index_or turns i 0 ∷ []) (drop (i + 1) turns)
