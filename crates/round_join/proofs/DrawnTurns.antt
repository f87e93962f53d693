-- Receipts and moves that stand beside each other are drawn in the same turns.
use Rattle.std.proofs.Common.{◌≡◌, ◌≢◌, ℕ, zero, suc, ◌<◌, ◌⊎◌, inl, inr, List, [], ◌∷◌, length, refl, sym}
use Rattle.std.proofs.Common.{ap, ◌∙◌, subst, cond, Bool, arith}
use Rattle.std.specs.Prelude.{slice_index_or, slice_set}
use Rattle.std.proofs.lemmas.List.{get_or-set_same, get_or-set_other}
use Rattle.entry_order.proofs.Order.{is_or}
use Rattle.plain_machine.proofs.Histories.{is_eq, not_eq}
use Rattle.round_order.specs.Receipts.{Receipt, Receipts, own}
use Rattle.round_order.specs.Growth.{update}
use Rattle.round_order.specs.Turns.{AreInTurn}
use Rattle.round_join.specs.declared.noting.Made.{Made}
use Rattle.round_join.specs.Weaving.{steps_in}
use Rattle.round_join.specs.Drawing.{AreDrawn}
use Rattle.round_join.specs.Racing.{AreStepsOf, steps_by}

-- each turn is of the thread of its receipt
abbrev pub AreOf : {V : Type 0} → List ℕ → List (Receipt V) → Type 0
AreOf [] [] = Unit {0}
AreOf [] (r ∷ order) = ⊥
AreOf (t ∷ turns) [] = ⊥
AreOf (t ∷ turns) (r ∷ order) = (r.step.thread ≡ t) × AreOf turns order

-- a list that has an item is one of those there
is_there : {A : Type 0} (lists : List (List A)) (t : ℕ) (x : A) (rest : List A) → slice_index_or lists t [] ≡ x ∷ rest
    → t < length lists
is_there [] t x rest is = absurd (cc)
is_there (l ∷ lists) zero x rest is = omega arith
is_there (l ∷ lists) (suc t) x rest is = let k = is_there lists t x rest is in omega (arith, k)

same_tail : {A : Type 0} (x y : A) (xs ys : List A) → x ∷ xs ≡ y ∷ ys → xs ≡ ys
same_tail x y xs ys e = cc

-- the own receipts of the other order
own_next : {V : Type 0} (t : ℕ) (r : Receipt V) (rest order : List (Receipt V)) (rs : Receipts V)
    → ((u : ℕ) → own u (r ∷ order) ≡ rs u) → rs t ≡ r ∷ rest → r.step.thread ≡ t → (u : ℕ)
    → own u order ≡ update t rest rs u
own_next {V} t r rest order rs owns here of u = go (is_or u t)
  where
    go : (u ≡ t) ⊎ (u ≢ t) → own u order ≡ update t rest rs u
    go (inl same) =
        let mine : own u (r ∷ order) ≡ r ∷ own u order =
        ap (λ (b : Bool). cond b (r ∷ own u order) (own u order)) (is_eq r.step.thread u (of ∙ sym same)) in
        let all : r ∷ own u order ≡ r ∷ rest = sym mine ∙ (owns u ∙ (ap rs same ∙ here)) in
        same_tail r r (own u order) rest all ∙ sym (ap (λ (b : Bool). cond b rest (rs u)) (is_eq u t same))
    go (inr apart) =
        let mine : own u (r ∷ order) ≡ own u order =
        ap (λ (b : Bool). cond b (r ∷ own u order) (own u order))
        (not_eq r.step.thread u (λ k. apart (sym k ∙ of))) in
        sym mine ∙ (owns u ∙ sym (ap (λ (b : Bool). cond b rest (rs u)) (not_eq u t apart)))

-- the receipts of one thread beside its moves, each with those before it
abbrev pub AreBoth : {V : Type 0} → (ℕ → Receipt V → List (Receipt V) → Made → Type 0) → ℕ → List (Receipt V)
    → List Made → Type 0
AreBoth Beside t [] [] = Unit {0}
AreBoth Beside t [] (x ∷ moves) = ⊥
AreBoth Beside t (r ∷ rest) [] = ⊥
AreBoth Beside t (r ∷ rest) (x ∷ moves) = Beside t r rest x × AreBoth Beside t rest moves

-- those of all threads in one order
abbrev pub AreOrdered : {V : Type 0} → (ℕ → Receipt V → List (Receipt V) → Made → Type 0) → List Made
    → List (Receipt V) → Type 0
AreOrdered Beside [] [] = Unit {0}
AreOrdered Beside [] (r ∷ order) = ⊥
AreOrdered Beside (x ∷ drawn) [] = ⊥
AreOrdered {V} Beside (x ∷ drawn) (r ∷ order) =
    ((t : ℕ) × (rest : List (Receipt V)) × (r.step.thread ≡ t) × (own t order ≡ rest) × Beside t r rest x)
    × AreOrdered Beside drawn order

-- The moves are drawn in the turns of the order, each beside its receipt.
pub record Draws {V : Type 0} (Beside : ℕ → Receipt V → List (Receipt V) → Made → Type 0) (moves : List (List Made))
    (turns : List ℕ) (order : List (Receipt V)) : Type 0 where
  pub drawn : List Made
  pub draws : AreDrawn moves turns drawn
  pub of : AreOf turns order
  pub ordered : AreOrdered Beside drawn order

module _ {V : Type 0} (Beside : ℕ → Receipt V → List (Receipt V) → Made → Type 0)
    (of_thread : (t : ℕ) (r : Receipt V) (rest : List (Receipt V)) (x : Made) → Beside t r rest x
    → r.step.thread ≡ t) where
  no_moves : (t : ℕ) (moves : List Made) → AreBoth Beside t [] moves → moves ≡ []
  no_moves t [] both = refl
  no_moves t (x ∷ moves) both = absurd both

  nothing : (moves : List (List Made)) (order : List (Receipt V)) (rs : Receipts V)
      → ((u : ℕ) → own u order ≡ rs u) → ((u : ℕ) → AreBoth Beside u (rs u) (slice_index_or moves u [])) → order ≡ []
      → Draws Beside moves [] order
  nothing moves order rs owns both none = record {
    drawn = [];
    draws = λ t. no_moves t (slice_index_or moves t []) (subst
        (λ (l : List (Receipt V)). AreBoth Beside t l (slice_index_or moves t []))
        (sym (owns t) ∙ ap (λ (l : List (Receipt V)). own t l) none) (both t));
    of = subst (λ (l : List (Receipt V)). AreOf [] l) (sym none) tt;
    ordered = subst (λ (l : List (Receipt V)). AreOrdered Beside [] l) (sym none) tt;
  }

  pub draw : (turns : List ℕ) (order : List (Receipt V)) (rs : Receipts V) (moves : List (List Made))
      → ((u : ℕ) → own u order ≡ rs u) → ((u : ℕ) → AreBoth Beside u (rs u) (slice_index_or moves u []))
      → AreInTurn rs turns order → Draws Beside moves turns order
  draw [] order rs moves owns both none = nothing moves order rs owns both none
  draw (t ∷ turns) [] rs moves owns both turn = absurd turn
  draw (t ∷ turns) (r ∷ order) rs moves owns both (rest, here, more) =
      go (slice_index_or moves t []) refl
      (subst (λ (l : List (Receipt V)). AreBoth Beside t l (slice_index_or moves t [])) here (both t))
      (λ left owned besides. draw turns order (update t rest rs) left owned besides more)
    where
      go : (xs : List Made) → slice_index_or moves t [] ≡ xs → AreBoth Beside t (r ∷ rest) xs
          → ((left : List (List Made)) → ((u : ℕ) → own u order ≡ update t rest rs u)
          → ((u : ℕ) → AreBoth Beside u (update t rest rs u) (slice_index_or left u []))
          → Draws Beside left turns order)
          → Draws Beside moves (t ∷ turns) (r ∷ order)
      go [] is pair later = absurd pair
      go (x ∷ xs) is (one, others) later =
          let low : t < length moves = is_there moves t x xs is in
          let of : r.step.thread ≡ t = of_thread t r rest x one in
          let owned = own_next t r rest order rs owns here of in
          let k = later (slice_set moves t xs) owned (left_both low) in
          let mine : own t order ≡ rest =
          owned t ∙ ap (λ (b : Bool). cond b rest (rs t)) (is_eq t t refl) in record {
            drawn = x ∷ k.drawn;
            draws = (low, xs, is, k.draws);
            of = (of, k.of);
            ordered = ((t, rest, of, mine, one), k.ordered);
          }
        where
          left_both : t < length moves → (u : ℕ)
              → AreBoth Beside u (update t rest rs u) (slice_index_or (slice_set moves t xs) u [])
          left_both low u = by (is_or u t)
            where
              by : (u ≡ t) ⊎ (u ≢ t)
                  → AreBoth Beside u (update t rest rs u) (slice_index_or (slice_set moves t xs) u [])
              by (inl same) = subst
                  (λ (b : Bool). AreBoth Beside u (cond b rest (rs u)) (slice_index_or (slice_set moves t xs) u []))
                  (sym (is_eq u t same))
                  (subst (λ (k : ℕ). AreBoth Beside k rest (slice_index_or (slice_set moves t xs) k [])) (sym same)
                  (subst (λ (l : List Made). AreBoth Beside t rest l) (sym (get_or-set_same moves t xs [] low)) others))
              by (inr apart) = subst
                  (λ (b : Bool). AreBoth Beside u (cond b rest (rs u)) (slice_index_or (slice_set moves t xs) u []))
                  (sym (not_eq u t apart)) (subst (λ (l : List Made). AreBoth Beside u (rs u) l)
                  (sym (get_or-set_other moves t u xs [] apart)) (both u))

-- the steps of each thread are its moves, where those in one order are
pub each_steps : {V : Type 0} (turns : List ℕ) (order : List (Receipt V)) (moves : List (List Made))
    (drawn : List Made) → AreDrawn moves turns drawn → AreOf turns order → AreStepsOf drawn (steps_in order) → (u : ℕ)
    → AreStepsOf (slice_index_or moves u []) (steps_by u (steps_in order))
each_steps {V} [] [] moves [] draws of steps u =
    subst (λ (l : List Made). AreStepsOf {V = V} l []) (sym (draws u)) tt
each_steps [] [] moves (x ∷ drawn) draws of steps u = absurd draws
each_steps [] (r ∷ order) moves drawn draws of steps u = absurd of
each_steps (t ∷ turns) [] moves drawn draws of steps u = absurd of
each_steps (t ∷ turns) (r ∷ order) moves [] draws of steps u = absurd draws
each_steps {V} (t ∷ turns) (r ∷ order) moves (x ∷ drawn) (low, rest, here, more) (is, of) (one, steps) u =
    go (is_or u t) (each_steps turns order (slice_set moves t rest) drawn more of steps u)
  where
    go : (u ≡ t) ⊎ (u ≢ t)
        → AreStepsOf (slice_index_or (slice_set moves t rest) u []) (steps_by u (steps_in order))
        → AreStepsOf (slice_index_or moves u []) (steps_by u (steps_in (r ∷ order)))
    go (inl same) later =
        let left : slice_index_or (slice_set moves t rest) u [] ≡ rest =
        ap (λ (k : ℕ). slice_index_or (slice_set moves t rest) k []) same ∙ get_or-set_same moves t rest [] low in
        let mine : slice_index_or moves u [] ≡ x ∷ rest = ap (λ (k : ℕ). slice_index_or moves k []) same ∙ here in
        subst (λ (b : Bool). AreStepsOf (slice_index_or moves u [])
        (cond b (r.step ∷ steps_by u (steps_in order)) (steps_by u (steps_in order))))
        (sym (is_eq r.step.thread u (is ∙ sym same)))
        (subst (λ (l : List Made). AreStepsOf l (r.step ∷ steps_by u (steps_in order))) (sym mine)
        (one, subst (λ (l : List Made). AreStepsOf l (steps_by u (steps_in order))) left later))
    go (inr apart) later =
        subst (λ (b : Bool). AreStepsOf (slice_index_or moves u [])
        (cond b (r.step ∷ steps_by u (steps_in order)) (steps_by u (steps_in order))))
        (sym (not_eq r.step.thread u (λ k. apart (sym k ∙ is))))
        (subst (λ (l : List Made). AreStepsOf l (steps_by u (steps_in order)))
        (get_or-set_other moves t u rest [] apart) later)
