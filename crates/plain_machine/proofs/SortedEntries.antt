-- Entries can be put in order, by weight, then thread; and weights hang on the members of a log alone.
use Rattle.std.proofs.Common.{◌≡◌, ℕ, ◌≤◌, ◌<◌, List, [], ◌∷◌, refl, sym, ap, ◌∙◌, subst, inl, inr, ◌⊎◌, arith}
use Rattle.std.specs.Prelude.{◌↔◌}
use Rattle.std.proofs.lemmas.Bool.{cases_lt}
use Rattle.entry_order.specs.Log.{Entry, IsLog, IsIn, Precedes, AtOnce, Through, PrecedesOrIs}
use Rattle.entry_order.specs.Stamps.{IsStamp, IsWeight, sum_below}
use Rattle.entry_order.proofs.Joins.{stamp_there}
use Rattle.entry_order.proofs.Positions.{thread_in_order}
use Rattle.entry_order.proofs.Weights.{count_unique, weight_is_sum, weight_falls}
use Rattle.plain_machine.specs.Line.{GoesBefore, IsByWeight}
use Rattle.plain_machine.proofs.WeightOrder.{weight_there, not_itself}

-- one weight each
pub weight_one : (log : List Entry) (e : Entry) (n k : ℕ) → IsWeight log e n → IsWeight log e k → n ≡ k
weight_one log e n k a b = count_unique (λ f. PrecedesOrIs log f e) log n k a b

-- what precedes goes by the members alone
pub precedes_moves : (a b : List Entry) (e f : Entry) → ((g : Entry) → IsIn g a → IsIn g b) → Precedes a e f
    → Precedes b e f
precedes_moves a b e f sub (AtOnce i j n) = AtOnce (sub e i) (sub f j) n
precedes_moves a b e f sub (Through {g = g} i n p) = Through (sub e i) n (precedes_moves a b g f sub p)

pub or_moves : (a b : List Entry) (e f : Entry) → ((g : Entry) → IsIn g a → IsIn g b) → PrecedesOrIs a e f
    → PrecedesOrIs b e f
or_moves a b e f sub (inl same) = inl same
or_moves a b e f sub (inr p) = inr (precedes_moves a b e f sub p)

stamp_moves : (a b : List Entry) (e : Entry) (s : ℕ → ℕ) → ((g : Entry) → IsIn g a → IsIn g b)
    → ((g : Entry) → IsIn g b → IsIn g a) → IsStamp a e s → IsStamp b e s
stamp_moves a b e s sub sup st = record {
  above = λ f here r. st.above f (sup f here) (or_moves b a f e sup r);
  reached = λ u. go u (st.reached u);
}
  where
    go : (u : ℕ) → (s u ≡ 0) ⊎ ((f : Entry) × IsIn f a × (f.thread ≡ u) × (f.number ≡ s u) × PrecedesOrIs a f e)
        → (s u ≡ 0) ⊎ ((f : Entry) × IsIn f b × (f.thread ≡ u) × (f.number ≡ s u) × PrecedesOrIs b f e)
    go u (inl z) = inl z
    go u (inr (f, here, t, n, r)) = inr (f, sub f here, t, n, or_moves a b f e sub r)

-- A weight goes by the members alone.
pub weight_moves : (threads : ℕ) (a b : List Entry) (e : Entry) (n : ℕ) → IsLog a → IsLog b
    → ((f : Entry) → IsIn f a → f.thread < threads) → ((g : Entry) → IsIn g a → IsIn g b)
    → ((g : Entry) → IsIn g b → IsIn g a) → IsIn e a → IsWeight a e n → IsWeight b e n
weight_moves threads a b e n good good_b low sub sup here w =
    let s = stamp_there a e good here in
    let x : IsWeight a e (sum_below threads s.0) = weight_is_sum a threads e s.0 good low s.1 in
    let y : IsWeight b e (sum_below threads s.0) =
    weight_is_sum b threads e s.0 good_b (λ f i. low f (sup f i)) (stamp_moves a b e s.0 sub sup s.1) in
    subst (λ (k : ℕ). IsWeight b e k) (weight_one a e (sum_below threads s.0) n x w) y

module _ (threads : ℕ) (log : List Entry) (good : IsLog log) (low : (f : Entry) → IsIn f log → f.thread < threads) where
  weight : (e : Entry) → IsIn e log → (n : ℕ) × IsWeight log e n
  weight e here = weight_there threads log good low e here

  before_by : (e f : Entry) (n k : ℕ) → IsWeight log e n → IsWeight log f k
      → (n < k) ⊎ ((n ≡ k) × (e.thread < f.thread)) → GoesBefore log e f
  before_by e f n k a b h i j p q = go h
    where
      x : n ≡ i
      x = weight_one log e n i a p

      y : k ≡ j
      y = weight_one log f k j b q

      go : (n < k) ⊎ ((n ≡ k) × (e.thread < f.thread)) → (i < j) ⊎ ((i ≡ j) × (e.thread < f.thread))
      go (inl l) = inl (omega (arith, x, y, l))
      go (inr l) = inr (omega (arith, x, y, l.0), l.1)

  before_trans : (e g f : Entry) → IsIn g log → GoesBefore log e g → GoesBefore log g f → GoesBefore log e f
  before_trans e g f here a b i j p q = go (a i w.0 p w.1) (b w.0 j w.1 q)
    where
      w : (n : ℕ) × IsWeight log g n
      w = weight g here

      go : (i < w.0) ⊎ ((i ≡ w.0) × (e.thread < g.thread)) → (w.0 < j) ⊎ ((w.0 ≡ j) × (g.thread < f.thread))
          → (i < j) ⊎ ((i ≡ j) × (e.thread < f.thread))
      go (inl x) (inl y) = inl (omega (arith, x, y))
      go (inl x) (inr y) = inl (omega (arith, x, y))
      go (inr x) (inl y) = inl (omega (arith, x, y))
      go (inr x) (inr y) = inr (omega (arith, x, y), omega (arith, x, y))

  compare : (e f : Entry) → IsIn e log → IsIn f log → (e ≡ f) ⊎ (GoesBefore log e f ⊎ GoesBefore log f e)
  compare e f he hf = go (cases_lt a.0 b.0) (cases_lt b.0 a.0) (cases_lt e.thread f.thread) (cases_lt f.thread e.thread)
    where
      a : (n : ℕ) × IsWeight log e n
      a = weight e he

      b : (n : ℕ) × IsWeight log f n
      b = weight f hf

      same : a.0 ≡ b.0 → (e ≡ f) ⊎ (Precedes log e f ⊎ Precedes log f e)
          → (e ≡ f) ⊎ (GoesBefore log e f ⊎ GoesBefore log f e)
      same q (inl k) = inl k
      same q (inr (inl p)) = let z = weight_falls log e f a.0 b.0 good hf p a.1 b.1 in absurd (omega (arith, z, q))
      same q (inr (inr p)) = let z = weight_falls log f e b.0 a.0 good he p b.1 a.1 in absurd (omega (arith, z, q))

      go : (a.0 < b.0) ⊎ (b.0 ≤ a.0) → (b.0 < a.0) ⊎ (a.0 ≤ b.0) → (e.thread < f.thread) ⊎ (f.thread ≤ e.thread)
          → (f.thread < e.thread) ⊎ (e.thread ≤ f.thread) → (e ≡ f) ⊎ (GoesBefore log e f ⊎ GoesBefore log f e)
      go (inl l) x y z = inr (inl (before_by e f a.0 b.0 a.1 b.1 (inl l)))
      go (inr l) (inl m) y z = inr (inr (before_by f e b.0 a.0 b.1 a.1 (inl m)))
      go (inr l) (inr m) (inl t) z = inr (inl (before_by e f a.0 b.0 a.1 b.1 (inr (omega arith, t))))
      go (inr l) (inr m) (inr t) (inl u) = inr (inr (before_by f e b.0 a.0 b.1 a.1 (inr (omega arith, u))))
      go (inr l) (inr m) (inr t) (inr u) = same (omega arith) (thread_in_order log e f good he hf (omega arith))

  abbrev Put : Entry → List Entry → Type 0
  Put e xs = (more : List Entry) × ((g : Entry) → IsIn g more ↔ ((e ≡ g) ⊎ IsIn g xs)) × IsByWeight log more

  put : (e : Entry) (xs : List Entry) → IsIn e log → ((g : Entry) → IsIn g xs → IsIn g log)
      → IsByWeight log xs → Put e xs
  put e [] he sub by = (e ∷ [], (λ g. ((λ h. h), (λ h. h))), ((λ f h. absurd h), tt))
  put e (x ∷ xs) he sub by = go (compare e x he (sub x (inl refl))) (put e xs he (λ g h. sub g (inr h)) by.1)
    where
      go : (e ≡ x) ⊎ (GoesBefore log e x ⊎ GoesBefore log x e) → Put e xs → Put e (x ∷ xs)
      go (inl same) rest = (x ∷ xs, (λ g. ((λ h. inr h), (λ h. pick g h))), by)
        where
          pick : (g : Entry) → (e ≡ g) ⊎ IsIn g (x ∷ xs) → IsIn g (x ∷ xs)
          pick g (inl q) = inl (sym same ∙ q)
          pick g (inr h) = h
      go (inr (inr b)) rest = (e ∷ (x ∷ xs), (λ g. ((λ h. h), (λ h. h))), ((λ f h. all f h), by))
        where
          all : (f : Entry) → IsIn f (x ∷ xs) → GoesBefore log f e
          all f (inl q) = subst (λ (z : Entry). GoesBefore log z e) q b
          all f (inr h) = before_trans f x e (sub x (inl refl)) (by.0 f h) b
      go (inr (inl b)) (more, members, sorted) =
          (x ∷ more, (λ g. ((λ h. there g h), (λ h. back g h))), ((λ f h. all f ((members f).0 h)), sorted))
        where
          there : (g : Entry) → IsIn g (x ∷ more) → (e ≡ g) ⊎ IsIn g (x ∷ xs)
          there g (inl q) = inr (inl q)
          there g (inr h) = pick ((members g).0 h)
            where
              pick : (e ≡ g) ⊎ IsIn g xs → (e ≡ g) ⊎ IsIn g (x ∷ xs)
              pick (inl q) = inl q
              pick (inr k) = inr (inr k)

          back : (g : Entry) → (e ≡ g) ⊎ IsIn g (x ∷ xs) → IsIn g (x ∷ more)
          back g (inl q) = inr ((members g).1 (inl q))
          back g (inr (inl q)) = inl q
          back g (inr (inr h)) = inr ((members g).1 (inr h))

          all : (f : Entry) → (e ≡ f) ⊎ IsIn f xs → GoesBefore log f x
          all f (inl q) = subst (λ (z : Entry). GoesBefore log z x) q b
          all f (inr h) = by.0 f h

  -- Entries of a log in order.
  pub sorted : (xs : List Entry) → ((g : Entry) → IsIn g xs → IsIn g log)
      → (more : List Entry) × ((g : Entry) → IsIn g more ↔ IsIn g xs) × IsByWeight log more
  sorted [] sub = ([], (λ g. ((λ h. h), (λ h. h))), tt)
  sorted (x ∷ xs) sub = go (sorted xs (λ g h. sub g (inr h)))
    where
      go : ((more : List Entry) × ((g : Entry) → IsIn g more ↔ IsIn g xs) × IsByWeight log more)
          → (more : List Entry) × ((g : Entry) → IsIn g more ↔ IsIn g (x ∷ xs)) × IsByWeight log more
      go (more, members, by) = fin (put x more (sub x (inl refl)) (λ g h. sub g (inr ((members g).0 h))) by)
        where
          fin : Put x more → (next : List Entry) × ((g : Entry) → IsIn g next ↔ IsIn g (x ∷ xs)) × IsByWeight log next
          fin (next, m, b) = (next, (λ g. ((λ h. there g ((m g).0 h)), (λ h. back g h))), b)
            where
              there : (g : Entry) → (x ≡ g) ⊎ IsIn g more → IsIn g (x ∷ xs)
              there g (inl q) = inl q
              there g (inr h) = inr ((members g).0 h)

              back : (g : Entry) → IsIn g (x ∷ xs) → IsIn g next
              back g (inl q) = (m g).1 (inl q)
              back g (inr h) = (m g).1 (inr ((members g).1 h))

  not_back : (e f : Entry) → IsIn e log → IsIn f log → GoesBefore log e f → GoesBefore log f e → ⊥
  not_back e f he hf a b = not_itself threads log good low e he (before_trans e f e hf a b)

  -- There is one such order.
  pub sorted_once : (xs ys : List Entry) → ((g : Entry) → IsIn g xs → IsIn g log)
      → ((g : Entry) → IsIn g xs → IsIn g ys) → ((g : Entry) → IsIn g ys → IsIn g xs) → IsByWeight log xs
      → IsByWeight log ys → xs ≡ ys
  sorted_once [] [] sub to back a b = refl
  sorted_once [] (y ∷ ys) sub to back a b = absurd (back y (inl refl))
  sorted_once (x ∷ xs) [] sub to back a b = absurd (to x (inl refl))
  sorted_once (x ∷ xs) (y ∷ ys) sub to back a b = go (to x (inl refl)) (back y (inl refl)) (λ same. sorted_once xs ys
      (λ g h. sub g (inr h)) (λ g h. fore same g h (to g (inr h))) (λ g h. aft same g h (back g (inr h))) a.1 b.1)
    where
      fore : x ≡ y → (g : Entry) → IsIn g xs → IsIn g (y ∷ ys) → IsIn g ys
      fore same g h (inl q) = absurd (not_itself threads log good low g (sub g (inr h))
          (subst (λ (z : Entry). GoesBefore log g z) (same ∙ q) (a.0 g h)))
      fore same g h (inr k) = k

      aft : x ≡ y → (g : Entry) → IsIn g ys → IsIn g (x ∷ xs) → IsIn g xs
      aft same g h (inl q) = absurd (not_itself threads log good low g (sub g (back g (inr h)))
          (subst (λ (z : Entry). GoesBefore log g z) (sym same ∙ q) (b.0 g h)))
      aft same g h (inr k) = k

      one : x ≡ y → xs ≡ ys → x ∷ xs ≡ y ∷ ys
      one p q = ap (λ (z : Entry). z ∷ xs) p ∙ ap (λ (l : List Entry). y ∷ l) q

      go : IsIn x (y ∷ ys) → IsIn y (x ∷ xs) → (x ≡ y → xs ≡ ys) → x ∷ xs ≡ y ∷ ys
      go (inl p) q rest = one (sym p) (rest (sym p))
      go (inr p) (inl q) rest = one q (rest q)
      go (inr p) (inr q) rest = absurd (not_back x y (sub x (inl refl)) (sub y (inr q)) (b.0 x p) (a.0 y q))
