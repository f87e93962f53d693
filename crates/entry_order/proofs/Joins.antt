-- Each entry has one stamp, and it is the join of the stamps of its immediate predecessors, with its own number.
use Rattle.std.proofs.Common.{◌≡◌, ℕ, ◌+◌, ◌≤◌, ◌≢◌, true, false, List, [], ◌∷◌, sym, ap, ◌∙◌, subst, inl, inr, ◌⊎◌}
use Rattle.std.proofs.Common.{arith, refl}
use Rattle.std.specs.Prelude.{nat_eq}
use Rattle.std.proofs.lemmas.Bool.Decides.{nat_tests}
use Rattle.entry_order.specs.Log.{Entry, PrecedesOrIs, entries, IsLog, IsIn, IsNext, Precedes, AtOnce, PrecedesOutput}
use Rattle.entry_order.specs.Stamps.{IsStamp, IsComponent, IsOutputStamp, IsJoinBefore, bumped, stamp}
use Rattle.entry_order.proofs.Order.{is_or, number_within, same_number, next_stands, precedes_trans}
use Rattle.entry_order.proofs.StampLemmas.{stamp_is, precedes_more, precedes_old, last_link, stands_old}
use Rattle.entry_order.proofs.Parts.{stamp_stays}

-- Each entry of a log has a stamp.
pub stamp_there : (log : List Entry) (e : Entry) → IsLog log → IsIn e log → (s : ℕ → ℕ) × IsStamp log e s
stamp_there [] e good here = absurd here
stamp_there (x ∷ log) e good (inl same) =
    (stamp x log, subst (λ (y : Entry). IsStamp (x ∷ log) y (stamp x log)) same (stamp_is x log good))
stamp_there (x ∷ log) e good (inr here) =
    let r = stamp_there log e good.2 here in (r.0, stamp_stays x log e r.0 good here r.1)

-- An entry has one stamp.
pub stamp_unique : (log : List Entry) (e : Entry) (s r : ℕ → ℕ) → IsStamp log e s → IsStamp log e r → (u : ℕ)
    → s u ≡ r u
stamp_unique log e s r a b u = let low : s u ≤ r u = most s r a b in let high : r u ≤ s u = most r s b a in omega arith
  where
    most : (s r : ℕ → ℕ) → IsStamp log e s → IsStamp log e r → s u ≤ r u
    most s r a b = go (a.reached u)
      where
        go : (s u ≡ 0) ⊎ ((f : Entry) × IsIn f log × (f.thread ≡ u) × (f.number ≡ s u) × PrecedesOrIs log f e)
            → s u ≤ r u
        go (inl z) = omega arith
        go (inr (f, hf, t, n, p)) =
            let k : f.number ≤ r f.thread = b.above f hf p in
            let same : r f.thread ≡ r u = ap r t in omega (arith, n)

-- A stamp is its components.
pub stamp_components : (log : List Entry) (e : Entry) (s : ℕ → ℕ) → IsStamp log e s → (u : ℕ)
    → IsComponent log e u (s u)
stamp_components log e s st u = record {
  above = λ f here th p. subst (λ (w : ℕ). f.number ≤ s w) th (st.above f here p);
  reached = st.reached u;
}

pub components_stamp : (log : List Entry) (e : Entry) (s : ℕ → ℕ) → ((u : ℕ) → IsComponent log e u (s u))
    → IsStamp log e s
components_stamp log e s each =
    record { above = λ f here p. (each f.thread).above f here refl p; reached = λ u. (each u).reached }

-- The stamp of the newest entry is the join of the stamps of its immediate predecessors, with its own number.
pub join_is_stamp : (x : Entry) (log : List Entry) (join : ℕ → ℕ) → IsLog (x ∷ log) → IsJoinBefore log x join
    → IsStamp (x ∷ log) x (bumped x join)
join_is_stamp x log join good j = record {
  above = λ f here p. above f here p (is_or f.thread x.thread);
  reached = λ u. reached u (is_or u x.thread) (j.reached u);
}
  where
    own : (u : ℕ) → u ≡ x.thread → bumped x join u ≡ x.number
    own u h = let k : nat_eq u x.thread ≡ true = grind (arith, nat_tests) in rw k refl

    joined : (u : ℕ) → u ≢ x.thread → bumped x join u ≡ join u
    joined u h = let k : nat_eq u x.thread ≡ false = grind (arith, nat_tests) in rw k refl

    above : (f : Entry) → IsIn f (x ∷ log) → PrecedesOrIs (x ∷ log) f x → (f.thread ≡ x.thread) ⊎ (f.thread ≢ x.thread)
        → f.number ≤ bumped x join f.thread
    above f here p (inl t) =
        let k : bumped x join f.thread ≡ x.number = own f.thread t in
        let w : (1 ≤ f.number) × (f.number ≤ entries f.thread (x ∷ log)) = number_within (x ∷ log) f good here in
        let same : entries f.thread (x ∷ log) ≡ entries x.thread (x ∷ log) = ap (λ (u : ℕ). entries u (x ∷ log)) t in
        let count : entries x.thread (x ∷ log) ≡ entries x.thread log + 1 = grind (arith, nat_tests) in
        omega (arith, w, good.0)
    above f here (inl same) (inr t) = absurd (t (ap (λ (y : Entry). y.thread) same))
    above f here (inr p) (inr t) =
        let l = last_link (x ∷ log) f x p in
        let i : IsIn l.0 log = stands_old x log l.0 x (next_stands (x ∷ log) l.0 x good l.1 (inl refl) l.2) in
        let q = precedes_old x log f l.0 good i l.3 in
        let s = stamp_there log l.0 good.2 i in
        let a : f.number ≤ s.0 f.thread = s.1.above f q.0 q.1 in
        let b : s.0 f.thread ≤ join f.thread = j.above l.0 s.0 i l.2 s.1 f.thread in
        let k : bumped x join f.thread ≡ join f.thread = joined f.thread t in
        omega arith

    behind : (f g : Entry) → IsIn f log → IsNext f x → PrecedesOrIs log g f → PrecedesOrIs (x ∷ log) g x
    behind f g hf n (inl same) =
        inr (subst (λ (y : Entry). Precedes (x ∷ log) y x) (sym same) (AtOnce (inr hf) (inl refl) n))
    behind f g hf n (inr p) =
        inr (precedes_trans (x ∷ log) g f x (precedes_more x log g f p) (AtOnce (inr hf) (inl refl) n))

    reached : (u : ℕ) → (u ≡ x.thread) ⊎ (u ≢ x.thread)
        → (join u ≡ 0) ⊎ ((f : Entry) × (s : ℕ → ℕ) × IsIn f log × IsNext f x × IsStamp log f s × (s u ≡ join u))
        → (bumped x join u ≡ 0)
        ⊎ ((f : Entry) × IsIn f (x ∷ log) × (f.thread ≡ u) × (f.number ≡ bumped x join u) × PrecedesOrIs (x ∷ log) f x)
    reached u (inl t) b = inr (x, inl refl, sym t, sym (own u t), inl refl)
    reached u (inr t) (inl z) = inl (joined u t ∙ z)
    reached u (inr t) (inr (f, s, hf, n, st, same)) = go (st.reached u)
      where
        go : (s u ≡ 0) ⊎ ((g : Entry) × IsIn g log × (g.thread ≡ u) × (g.number ≡ s u) × PrecedesOrIs log g f)
            → (bumped x join u ≡ 0)
            ⊎ ((g : Entry) × IsIn g (x ∷ log) × (g.thread ≡ u) × (g.number ≡ bumped x join u)
            × PrecedesOrIs (x ∷ log) g x)
        go (inl z) = inl (joined u t ∙ (sym same ∙ z))
        go (inr (g, hg, tg, ng, p)) = inr (g, inr hg, tg, ng ∙ (same ∙ sym (joined u t)), behind f g hf n p)

-- The stamp of what a thread sends out is that of its last entry.
pub output_stamp_is : (log : List Entry) (t n : ℕ) (last : Entry) (s : ℕ → ℕ) → IsLog log → IsIn last log
    → last.thread ≡ t → last.number ≡ n → IsStamp log last s → IsOutputStamp log t n s
output_stamp_is log t n last s good here th num st = record { above = above; reached = λ u. reached u (st.reached u) }
  where
    above : (f : Entry) → IsIn f log → PrecedesOutput log t n f → f.number ≤ s f.thread
    above f hf (other, ho, tho, nho, p) =
        let one : other ≡ last = same_number log other last good ho here (tho ∙ sym th) (nho ∙ sym num) in
        st.above f hf (subst (λ (y : Entry). PrecedesOrIs log f y) one p)

    reached : (u : ℕ)
        → (s u ≡ 0) ⊎ ((f : Entry) × IsIn f log × (f.thread ≡ u) × (f.number ≡ s u) × PrecedesOrIs log f last)
        → (s u ≡ 0) ⊎ ((f : Entry) × IsIn f log × (f.thread ≡ u) × (f.number ≡ s u) × PrecedesOutput log t n f)
    reached u (inl z) = inl z
    reached u (inr (f, hf, tf, nf, p)) = inr (f, hf, tf, nf, (last, here, th, num, p))

-- and the other way
pub output_stamp_of : (log : List Entry) (t n : ℕ) (last : Entry) (s : ℕ → ℕ) → IsLog log → IsIn last log
    → last.thread ≡ t → last.number ≡ n → IsOutputStamp log t n s → IsStamp log last s
output_stamp_of log t n last s good here th num st =
    record { above = λ f hf p. st.above f hf (last, here, th, num, p); reached = λ u. reached u (st.reached u) }
  where
    reached : (u : ℕ)
        → (s u ≡ 0) ⊎ ((f : Entry) × IsIn f log × (f.thread ≡ u) × (f.number ≡ s u) × PrecedesOutput log t n f)
        → (s u ≡ 0) ⊎ ((f : Entry) × IsIn f log × (f.thread ≡ u) × (f.number ≡ s u) × PrecedesOrIs log f last)
    reached u (inl z) = inl z
    reached u (inr (f, hf, tf, nf, (other, ho, tho, nho, p))) =
        let one : other ≡ last = same_number log other last good ho here (tho ∙ sym th) (nho ∙ sym num) in
        inr (f, hf, tf, nf, subst (λ (y : Entry). PrecedesOrIs log f y) one p)

-- Nothing precedes what a thread sends out before its first entry.
pub nothing_first : (log : List Entry) (t : ℕ) (e : Entry) → IsLog log → PrecedesOutput log t 0 e → ⊥
nothing_first log t e good (last, here, th, num, p) =
    let w : (1 ≤ last.number) × (last.number ≤ entries last.thread log) = number_within log last good here in
    absurd (omega (arith, w, num))

-- so its stamp is zero
pub zero_first : (log : List Entry) (t : ℕ) (s : ℕ → ℕ) → IsLog log → IsOutputStamp log t 0 s → (u : ℕ) → s u ≡ 0
zero_first log t s good st u = go (st.reached u)
  where
    go : (s u ≡ 0) ⊎ ((f : Entry) × IsIn f log × (f.thread ≡ u) × (f.number ≡ s u) × PrecedesOutput log t 0 f) → s u ≡ 0
    go (inl z) = z
    go (inr (f, hf, tf, nf, p)) = absurd (nothing_first log t f good p)

pub first_is_zero : (log : List Entry) (t : ℕ) (s : ℕ → ℕ) → IsLog log → ((u : ℕ) → s u ≡ 0) → IsOutputStamp log t 0 s
first_is_zero log t s good zeros =
    record { above = λ f hf p. absurd (nothing_first log t f good p); reached = λ u. inl (zeros u) }

-- What precedes an output is the same in a longer log.
pub output_newer : (x : Entry) (log : List Entry) (t n : ℕ) (e : Entry) → PrecedesOutput log t n e
    → PrecedesOutput (x ∷ log) t n e
output_newer x log t n e (last, here, th, num, inl same) = (last, inr here, th, num, inl same)
output_newer x log t n e (last, here, th, num, inr p) = (last, inr here, th, num, inr (precedes_more x log e last p))

pub output_older : (x : Entry) (log : List Entry) (t n : ℕ) (e : Entry) → IsLog (x ∷ log) → n ≤ entries t log
    → PrecedesOutput (x ∷ log) t n e → PrecedesOutput log t n e
output_older x log t n e good low (last, here, th, num, p) =
    (last, old here, th, num, (precedes_old x log e last good (old here) p).1)
  where
    old : IsIn last (x ∷ log) → IsIn last log
    old (inr h) = h
    old (inl same) =
        let a : x.thread ≡ t = ap (λ (y : Entry). y.thread) same ∙ th in
        let b : x.number ≡ n = ap (λ (y : Entry). y.number) same ∙ num in
        let c : entries x.thread log ≡ entries t log = ap (λ (u : ℕ). entries u log) a in
        absurd (omega (arith, good.0))
