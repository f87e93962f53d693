-- The computed stamp is the stamp.
use Rattle.std.proofs.Common.{◌≡◌, ℕ, ◌+◌, ◌-◌, ◌≤◌, ◌<◌, ◌≢◌, Bool, true, false, List, [], ◌∷◌, refl, sym, ap, ◌∙◌}
use Rattle.std.proofs.Common.{subst, inl, inr, ◌⊎◌, arith, cond}
use Rattle.std.specs.Prelude.{nat_eq, max, ◌||◌}
use Rattle.std.proofs.lemmas.Bool.{cases_lt}
use Rattle.std.proofs.lemmas.Bool.Decides.{nat_tests}
use Rattle.entry_order.specs.declared.what.What.{What}
use Rattle.entry_order.specs.declared.what.What.TheVariants.{Access, Read, Clock, Draw}
use Rattle.entry_order.specs.Log.{Entry, PrecedesOrIs, entries, places, IsLog, IsIn, StandsBefore, IsNext, Precedes}
use Rattle.entry_order.specs.Log.{AtOnce, Through}
use Rattle.entry_order.specs.Stamps.{IsStamp, shares, binds, joined, stamp}
use Rattle.entry_order.proofs.Order.{is_or, number_within, place_within, newest, before_in, stands_after, next_stands}
use Rattle.entry_order.proofs.Order.{thread_chain, touch_chain, touch_and_read, precedes_trans}

-- a chain in a longer log
pub precedes_more : (x : Entry) (log : List Entry) (e f : Entry) → Precedes log e f → Precedes (x ∷ log) e f
precedes_more x log e f (AtOnce a b n) = AtOnce (inr a) (inr b) n
precedes_more x log e f (Through {g = g} a n p) = Through (inr a) n (precedes_more x log g f p)

-- a chain that ends before the newest entry does not meet it
pub stands_old : (x : Entry) (log : List Entry) (e f : Entry) → StandsBefore (x ∷ log) e f → IsIn e log
stands_old x log e f (inl h) = h.1
stands_old x log e f (inr h) = (before_in log e f h).0

precedes_less : (x : Entry) (log : List Entry) (e f : Entry) → IsLog (x ∷ log) → Precedes (x ∷ log) e f → IsIn f log
    → Precedes log e f
precedes_less x log e f good (AtOnce a b n) h = AtOnce (stands_old x log e f (next_stands (x ∷ log) e f good a b n)) h n
precedes_less x log e f good (Through {g = g} a n p) h =
    Through (stands_old x log e g
    (next_stands (x ∷ log) e g good a (before_in (x ∷ log) g f (stands_after (x ∷ log) g f good p)).0 n)) n
    (precedes_less x log g f good p h)

-- the last link of a chain
pub last_link : (log : List Entry) (e f : Entry) → Precedes log e f
    → (h : Entry) × IsIn h log × IsNext h f × PrecedesOrIs log e h
last_link log e f (AtOnce a b n) = (e, a, n, inl refl)
last_link log e f (Through {g = g} a n p) = go (last_link log g f p)
  where
    go : (h : Entry) × IsIn h log × IsNext h f × PrecedesOrIs log g h
        → (h : Entry) × IsIn h log × IsNext h f × PrecedesOrIs log e h
    go (h, i, k, inl same) = (
      h,
      i,
      k,
      inr (subst (λ (z : Entry). Precedes log e z) same (AtOnce a (subst (λ (z : Entry). IsIn z log) (sym same) i) n)),
    )
    go (h, i, k, inr q) = (h, i, k, inr (Through a n q))

-- what a chain of one step shows of the test
next_binds : (e f : Entry) → IsNext e f → binds f e ≡ true
next_binds e f (inl n) = grind (arith, nat_tests)
next_binds e f (inr (inl n)) = rw (n.2, n.3) (go (nat_eq e.thread f.thread))
  where
    go : (b : Bool) → (b || (nat_eq n.0 n.0 || false)) ≡ true
    go true = refl
    go false = grind (arith, nat_tests)
next_binds e f (inr (inr (inl n))) = rw (n.2, n.3) (go (nat_eq e.thread f.thread))
  where
    go : (b : Bool) → (b || nat_eq n.0 n.0) ≡ true
    go true = refl
    go false = grind (arith, nat_tests)
next_binds e f (inr (inr (inr n))) = rw (n.2, n.3) (go (nat_eq e.thread f.thread))
  where
    go : (b : Bool) → (b || (false || nat_eq n.0 n.0)) ≡ true
    go true = refl
    go false = grind (arith, nat_tests)

-- an earlier entry that binds precedes
pub binds_precedes : (x : Entry) (log : List Entry) (g : Entry) → IsLog (x ∷ log) → IsIn g log → binds x g ≡ true
    → Precedes (x ∷ log) g x
binds_precedes x log g good here b = go (is_or g.thread x.thread)
  where
    touch : (v s w r : ℕ) → x.what ≡ Access v s → g.what ≡ Access w r → nat_eq w v ≡ true → Precedes (x ∷ log) g x
    touch v s w r a c e =
        let same : w ≡ v = grind (arith, nat_tests) in
        let c2 : g.what ≡ Access v r = c ∙ ap (λ (n : ℕ). Access n r) same in
        let old : (1 ≤ r) × (r ≤ places v log) = place_within log g v r good.2 here c2 in
        let new : s ≡ places v log + 1 = good.1.0 v s a in
        touch_chain (x ∷ log) (s - r - 1) g x v r good (inr here) (inl refl) c2
        (a ∙ ap (λ (n : ℕ). Access v n) (let z : s ≡ r + 1 + (s - r - 1) = omega arith in z))

    -- the newest entry precedes none
    newest_last : Precedes (x ∷ log) x g → ⊥
    newest_last p = newest log x good (stands_old x log x g (stands_after (x ∷ log) x g good p))

    first : Precedes (x ∷ log) g x ⊎ Precedes (x ∷ log) x g → Precedes (x ∷ log) g x
    first (inl p) = p
    first (inr p) = absurd (newest_last p)

    other : Precedes (x ∷ log) x g ⊎ Precedes (x ∷ log) g x → Precedes (x ∷ log) g x
    other (inl p) = absurd (newest_last p)
    other (inr p) = p

    no_read : (v w r : ℕ) → (false || nat_eq w v) ≡ true → w ≡ v
    no_read v w r e = grind (arith, nat_tests)

    plain : (v w : ℕ) → nat_eq w v ≡ true → w ≡ v
    plain v w e = grind (arith, nat_tests)

    no_touch : (v w r : ℕ) → (nat_eq w v || false) ≡ true → nat_eq w v ≡ true
    no_touch v w r e = go (nat_eq w v) e
      where
        go : (b : Bool) → (b || false) ≡ true → b ≡ true
        go true e = refl
        go false e = e

    by_what : (a b : What) → x.what ≡ a → g.what ≡ b → shares a b ≡ true → Precedes (x ∷ log) g x
    by_what (Access v s) (Access w r) p q e = touch v s w r p q (no_touch v w r e)
    by_what (Access v s) (Read w r) p q e = other (touch_and_read (x ∷ log) x g v s r good (inl refl) (inr here) p
        (q ∙ ap (λ (n : ℕ). Read n r) (no_read v w r e)))
    by_what (Access v s) (Clock k) p q e = absurd (cc)
    by_what (Access v s) (Draw k) p q e = absurd (cc)
    by_what (Read v s) (Access w r) p q e = first (touch_and_read (x ∷ log) g x v r s good (inr here) (inl refl)
        (q ∙ ap (λ (n : ℕ). Access n r) (plain v w e)) p)
    by_what (Read v s) (Read w r) p q e = absurd (cc)
    by_what (Read v s) (Clock k) p q e = absurd (cc)
    by_what (Read v s) (Draw k) p q e = absurd (cc)
    by_what (Clock k) b p q e = absurd (cc)
    by_what (Draw k) b p q e = absurd (cc)

    go : (g.thread ≡ x.thread) ⊎ (g.thread ≢ x.thread) → Precedes (x ∷ log) g x
    go (inl t) =
        let old : (1 ≤ g.number) × (g.number ≤ entries g.thread log) = number_within log g good.2 here in
        let same : entries g.thread log ≡ entries x.thread log = ap (λ (n : ℕ). entries n log) t in
        thread_chain (x ∷ log) (x.number - g.number - 1) g x good (inr here) (inl refl) t
        (let z : x.number ≡ g.number + 1 + (x.number - g.number - 1) = omega arith in z)
    go (inr t) =
        let no : nat_eq g.thread x.thread ≡ false = grind (arith, nat_tests) in
        by_what x.what g.what refl refl (rw no at b)

abbrev Reaches : (Entry → Bool) → List Entry → ℕ → ℕ → Type 0
Reaches p log u n =
    (n ≡ 0)
    ⊎ ((f : Entry) × (g : Entry) × IsIn f log × IsIn g log × (p g ≡ true) × (f.thread ≡ u) × (f.number ≡ n)
    × PrecedesOrIs log f g)

reaches_more : (p : Entry → Bool) (x : Entry) (log : List Entry) (u n : ℕ) → Reaches p log u n → Reaches p (x ∷ log) u n
reaches_more p x log u n (inl h) = inl h
reaches_more p x log u n (inr (f, g, a, b, c, d, e, inl h)) = inr (f, g, inr a, inr b, c, d, e, inl h)
reaches_more p x log u n (inr (f, g, a, b, c, d, e, inr h)) =
    inr (f, g, inr a, inr b, c, d, e, inr (precedes_more x log f g h))

-- what binds the newest entry is reached from it
reaches_new : (p : Entry → Bool) (x : Entry) (log : List Entry) (u n : ℕ) → IsLog (x ∷ log) → p x ≡ true
    → Reaches (binds x) log u n → Reaches p (x ∷ log) u n
reaches_new p x log u n good ok (inl h) = inl h
reaches_new p x log u n good ok (inr (f, g, a, b, c, d, e, h)) = inr (f, x, inr a, inl refl, ok, d, e, inr (go h))
  where
    link : Precedes (x ∷ log) g x
    link = binds_precedes x log g good b c

    go : PrecedesOrIs log f g → Precedes (x ∷ log) f x
    go (inl same) = subst (λ (z : Entry). Precedes (x ∷ log) z x) (sym same) link
    go (inr r) = precedes_trans (x ∷ log) f g x (precedes_more x log f g r) link

-- each component is reached, or 0
joined_reached : (p : Entry → Bool) (log : List Entry) (u : ℕ) → IsLog log → Reaches p log u (joined p log u)
joined_reached p [] u good = inl refl
joined_reached p (x ∷ log) u good =
    go (p x) refl (joined_reached p log u good.2) (joined_reached (binds x) log u good.2)
  where
    most : (a b : ℕ) → Reaches p (x ∷ log) u a → Reaches p (x ∷ log) u b → Reaches p (x ∷ log) u (max a b)
    most a b ra rb = pick (cases_lt a b)
      where
        pick : (a < b) ⊎ (b ≤ a) → Reaches p (x ∷ log) u (max a b)
        pick (inl h) = let k : b ≡ max a b = omega arith in subst (λ (n : ℕ). Reaches p (x ∷ log) u n) k rb
        pick (inr h) = let k : a ≡ max a b = omega arith in subst (λ (n : ℕ). Reaches p (x ∷ log) u n) k ra

    own : p x ≡ true → Reaches (binds x) log u (joined (binds x) log u) → (u ≡ x.thread) ⊎ (u ≢ x.thread)
        → Reaches p (x ∷ log) u (cond (nat_eq u x.thread) x.number (joined (binds x) log u))
    own ok b (inl h) =
        let k : nat_eq u x.thread ≡ true = grind (arith, nat_tests) in
        rw k (inr (x, x, inl refl, inl refl, ok, sym h, refl, inl refl))
    own ok b (inr h) =
        let k : nat_eq u x.thread ≡ false = grind (arith, nat_tests) in
        rw k (reaches_new p x log u (joined (binds x) log u) good ok b)

    go : (b : Bool) → p x ≡ b → Reaches p log u (joined p log u) → Reaches (binds x) log u (joined (binds x) log u)
        → Reaches p (x ∷ log) u
        (cond b (max (cond (nat_eq u x.thread) x.number (joined (binds x) log u)) (joined p log u)) (joined p log u))
    go true ok a b = most (cond (nat_eq u x.thread) x.number (joined (binds x) log u)) (joined p log u)
        (own ok b (is_or u x.thread)) (reaches_more p x log u (joined p log u) a)
    go false off a b = reaches_more p x log u (joined p log u) a

pub precedes_old : (x : Entry) (log : List Entry) (f g : Entry) → IsLog (x ∷ log) → IsIn g log
    → PrecedesOrIs (x ∷ log) f g → IsIn f log × PrecedesOrIs log f g
precedes_old x log f g good hg (inl e) = (subst (λ (z : Entry). IsIn z log) (sym e) hg, inl e)
precedes_old x log f g good hg (inr r) =
    let k : Precedes log f g = precedes_less x log f g good r hg in
    ((before_in log f g (stands_after log f g good.2 k)).0, inr k)

-- the component of the newest entry's own stamp
own_above : (x : Entry) (log : List Entry) (f : Entry) → IsLog (x ∷ log) → PrecedesOrIs (x ∷ log) f x
    → ((g : Entry) → IsIn f log → IsIn g log → binds x g ≡ true → PrecedesOrIs log f g
    → f.number ≤ joined (binds x) log f.thread) → f.number ≤ stamp x log f.thread
own_above x log f good (inl e) rest =
    let k : nat_eq f.thread x.thread ≡ true = grind (arith, nat_tests) in
    rw k (let n : f.number ≡ x.number = ap (λ (z : Entry). z.number) e in omega arith)
own_above x log f good (inr r) rest = go (is_or f.thread x.thread)
  where
    here : IsIn f log
    here = stands_old x log f x (stands_after (x ∷ log) f x good r)

    go : (f.thread ≡ x.thread) ⊎ (f.thread ≢ x.thread) → f.number ≤ stamp x log f.thread
    go (inl e) =
        let k : nat_eq f.thread x.thread ≡ true = grind (arith, nat_tests) in
        let n : (1 ≤ f.number) × (f.number ≤ entries f.thread log) = number_within log f good.2 here in
        let same : entries f.thread log ≡ entries x.thread log = ap (λ (u : ℕ). entries u log) e in
        rw k (omega (arith, good.0))
    go (inr e) =
        let k : nat_eq f.thread x.thread ≡ false = grind (arith, nat_tests) in
        let l = last_link (x ∷ log) f x r in
        let i : IsIn l.0 log = stands_old x log l.0 x (next_stands (x ∷ log) l.0 x good l.1 (inl refl) l.2) in
        let q = precedes_old x log f l.0 good i l.3 in
        rw k (rest l.0 here i (next_binds l.0 x l.2) q.1)

-- each entry that precedes a passing one is covered
joined_above : (p : Entry → Bool) (log : List Entry) (f g : Entry) → IsLog log → IsIn f log → IsIn g log → p g ≡ true
    → PrecedesOrIs log f g → f.number ≤ joined p log f.thread
joined_above p [] f g good hf hg ok r = absurd hf
joined_above p (x ∷ log) f g good hf (inl e) ok r =
    let px : p x ≡ true = ap p e ∙ ok in
    let k : f.number ≤ stamp x log f.thread =
    own_above x log f good (subst (λ (z : Entry). PrecedesOrIs (x ∷ log) f z) (sym e) r)
    (λ h hf hh b q. joined_above (binds x) log f h good.2 hf hh b q) in
    rw px (omega arith)
joined_above p (x ∷ log) f g good hf (inr hg) ok r =
    let q = precedes_old x log f g good hg r in
    let k : f.number ≤ joined p log f.thread = joined_above p log f g good.2 q.0 hg ok q.1 in
    go (p x) k
  where
    go : (b : Bool) → f.number ≤ joined p log f.thread
        → f.number
        ≤ cond b
        (max (cond (nat_eq f.thread x.thread) x.number (joined (binds x) log f.thread)) (joined p log f.thread))
        (joined p log f.thread)
    go true k = omega arith
    go false k = k

-- the computed stamp is the stamp
pub stamp_is : (x : Entry) (log : List Entry) → IsLog (x ∷ log) → IsStamp (x ∷ log) x (stamp x log)
stamp_is x log good = record {
  above = λ f here r. own_above x log f good r (λ g hf hg b q. joined_above (binds x) log f g good.2 hf hg b q);
  reached = λ u. go u (is_or u x.thread) (joined_reached (binds x) log u good.2);
}
  where
    old : (u n : ℕ) → Reaches (binds x) log u n
        → (n ≡ 0) ⊎ ((f : Entry) × IsIn f (x ∷ log) × (f.thread ≡ u) × (f.number ≡ n) × PrecedesOrIs (x ∷ log) f x)
    old u n (inl h) = inl h
    old u n (inr (f, g, a, b, c, d, e, h)) = inr (f, inr a, d, e, inr (link f g h (binds_precedes x log g good b c)))
      where
        link : (f g : Entry) → PrecedesOrIs log f g → Precedes (x ∷ log) g x → Precedes (x ∷ log) f x
        link f g (inl e) q = subst (λ (z : Entry). Precedes (x ∷ log) z x) (sym e) q
        link f g (inr r) q = precedes_trans (x ∷ log) f g x (precedes_more x log f g r) q

    go : (u : ℕ) → (u ≡ x.thread) ⊎ (u ≢ x.thread) → Reaches (binds x) log u (joined (binds x) log u)
        → (stamp x log u ≡ 0)
        ⊎ ((f : Entry) × IsIn f (x ∷ log) × (f.thread ≡ u) × (f.number ≡ stamp x log u) × PrecedesOrIs (x ∷ log) f x)
    go u (inl e) r =
        let k : nat_eq u x.thread ≡ true = grind (arith, nat_tests) in inr (x, inl refl, sym e, rw k refl, inl refl)
    go u (inr e) r =
        let k : nat_eq u x.thread ≡ false = grind (arith, nat_tests) in rw k (old u (joined (binds x) log u) r)
