-- Closed parts and missing entries, by stamps and frontiers.
use Rattle.std.proofs.Common.{◌≡◌, ℕ, ◌+◌, ◌-◌, ◌≤◌, ◌<◌, ◌≢◌, List, ◌∷◌, sym, ap, ◌∙◌, subst, inl, inr, ◌⊎◌, arith}
use Rattle.std.proofs.lemmas.Bool.{cases_lt}
use Rattle.entry_order.specs.Log.{Entry, PrecedesOrIs, entries, IsLog, IsIn, IsNext, Precedes, AtOnce, Through}
use Rattle.entry_order.specs.Log.{IsClosed}
use Rattle.entry_order.specs.Stamps.{IsStamp}
use Rattle.entry_order.specs.Closed.{IsClosedOver, IsClosedPart, IsFrontier}
use Rattle.entry_order.proofs.Order.{is_or, number_within, thread_chain, entry_there, same_number, precedes_trans}
use Rattle.entry_order.proofs.StampLemmas.{precedes_more, precedes_old}

or_chain : (log : List Entry) (f g x : Entry) → PrecedesOrIs log f g → PrecedesOrIs log g x → PrecedesOrIs log f x
or_chain log f g x (inl e) q = subst (λ (z : Entry). PrecedesOrIs log z x) (sym e) q
or_chain log f g x (inr r) (inl e) = inr (subst (λ (z : Entry). Precedes log f z) e r)
or_chain log f g x (inr r) (inr q) = inr (precedes_trans log f g x r q)

-- A stamp covers exactly what precedes.
pub stamp_covers : (log : List Entry) (e f : Entry) (s : ℕ → ℕ) → IsLog log → IsStamp log e s → IsIn f log
    → f.number ≤ s f.thread → PrecedesOrIs log f e
stamp_covers log e f s good st here low = go (st.reached f.thread)
  where
    n : (1 ≤ f.number) × (f.number ≤ entries f.thread log)
    n = number_within log f good here

    go : (s f.thread ≡ 0)
        ⊎ ((g : Entry) × IsIn g log × (g.thread ≡ f.thread) × (g.number ≡ s f.thread) × PrecedesOrIs log g e)
        → PrecedesOrIs log f e
    go (inl z) = absurd (omega (arith, n))
    go (inr (g, hg, t, k, r)) = pick (is_or f.number g.number)
      where
        pick : (f.number ≡ g.number) ⊎ (f.number ≢ g.number) → PrecedesOrIs log f e
        pick (inl h) = subst (λ (z : Entry). PrecedesOrIs log z e) (same_number log g f good hg here t (sym h)) r
        pick (inr h) = or_chain log f g e
            (inr (thread_chain log (g.number - f.number - 1) f g good here hg (sym t) (omega (arith, h, k, low)))) r

-- The stamp of an entry stays its stamp as the log grows.
pub stamp_stays : (x : Entry) (log : List Entry) (e : Entry) (s : ℕ → ℕ) → IsLog (x ∷ log) → IsIn e log
    → IsStamp log e s → IsStamp (x ∷ log) e s
stamp_stays x log e s good here st = record {
  above = λ f hf r. let k = precedes_old x log f e good here r in st.above f k.0 k.1;
  reached = λ u. go u (st.reached u);
}
  where
    go : (u : ℕ) → (s u ≡ 0) ⊎ ((f : Entry) × IsIn f log × (f.thread ≡ u) × (f.number ≡ s u) × PrecedesOrIs log f e)
        → (s u ≡ 0) ⊎ ((f : Entry) × IsIn f (x ∷ log) × (f.thread ≡ u) × (f.number ≡ s u) × PrecedesOrIs (x ∷ log) f e)
    go u (inl z) = inl z
    go u (inr (f, hf, t, n, inl r)) = inr (f, inr hf, t, n, inl r)
    go u (inr (f, hf, t, n, inr r)) = inr (f, inr hf, t, n, inr (precedes_more x log f e r))

-- Nothing is missing for an entry exactly where no component of its stamp is above the frontier.
pub none_missing : (log stored held : List Entry) (e : Entry) (s frontier : ℕ → ℕ) → IsStamp log e s
    → IsFrontier log stored held frontier → ((u : ℕ) → s u ≤ frontier u) → (f : Entry) → IsIn f log
    → PrecedesOrIs log f e → IsIn f held ⊎ IsIn f stored
none_missing log stored held e s frontier st fr low f here r =
    let a : f.number ≤ s f.thread = st.above f here r in
    let b : s f.thread ≤ frontier f.thread = low f.thread in
    fr.below f here (omega arith)

-- Where a component is above, the next entry of its thread is missing.
pub missing_there : (log stored held : List Entry) (e : Entry) (s frontier : ℕ → ℕ) (u : ℕ) → IsLog log
    → IsStamp log e s → IsFrontier log stored held frontier → frontier u < s u
    → (f : Entry) × IsIn f log × (f.thread ≡ u) × (f.number ≡ frontier u + 1) × PrecedesOrIs log f e
    × (IsIn f held ⊎ IsIn f stored → ⊥)
missing_there log stored held e s frontier u good st fr high = go (st.reached u)
  where
    go : (s u ≡ 0) ⊎ ((g : Entry) × IsIn g log × (g.thread ≡ u) × (g.number ≡ s u) × PrecedesOrIs log g e)
        → (f : Entry) × IsIn f log × (f.thread ≡ u) × (f.number ≡ frontier u + 1) × PrecedesOrIs log f e
        × (IsIn f held ⊎ IsIn f stored → ⊥)
    go (inl z) = absurd (omega arith)
    go (inr (g, hg, t, n, r)) =
        let w : (1 ≤ g.number) × (g.number ≤ entries g.thread log) = number_within log g good hg in
        let same : entries g.thread log ≡ entries u log = ap (λ (k : ℕ). entries k log) t in
        let f = entry_there log u (frontier u + 1) good (omega arith) (omega (arith, n)) in (
          f.0,
          f.1,
          f.2,
          f.3,
          stamp_covers log e f.0 s good st f.1 (let k : s f.0.thread ≡ s u = ap s f.2 in omega (arith, f.3)),
          fr.next f.0 f.1 (f.3 ∙ ap (λ (k : ℕ). frontier k + 1) (sym f.2)),
        )

-- The closed part by stamps and frontiers: the held entries that are stored, or with nothing missing.
pub closed_part : (log stored held part : List Entry) (stamps : Entry → ℕ → ℕ) (frontier : ℕ → ℕ) → IsLog log
    → ((e : Entry) → IsIn e held → IsIn e log) → IsClosed log stored → ((e : Entry) → IsIn e stored → IsIn e log)
    → ((e : Entry) → IsIn e log → IsStamp log e (stamps e)) → IsFrontier log stored held frontier
    → ((e : Entry) → IsIn e part → IsIn e held × (IsIn e stored ⊎ ((u : ℕ) → stamps e u ≤ frontier u)))
    → ((e : Entry) → IsIn e held → IsIn e stored ⊎ ((u : ℕ) → stamps e u ≤ frontier u) → IsIn e part)
    → IsClosedPart log stored held part
closed_part log stored held part stamps frontier good held_in stored_closed stored_in st fr only each = record {
  within = λ e h. (only e h).0;
  closed = λ e f he hf n. closed e f he hf n (only f hf).1;
  greatest = λ other sub shut e h.
      each e (sub e h) (inr (λ u. bound other sub shut e h u ((st e (held_in e (sub e h))).reached u)));
}
  where
    closed : (e f : Entry) → IsIn e log → IsIn f part → IsNext e f
        → (IsIn f stored ⊎ ((u : ℕ) → stamps f u ≤ frontier u)) → IsIn e part ⊎ IsIn e stored
    closed e f he hf n (inl h) = inr (stored_closed e f he h n)
    closed e f he hf n (inr low) =
        pick (none_missing log stored held f (stamps f) frontier (st f inf) fr low e he first)
      where
        inf : IsIn f log
        inf = held_in f (only f hf).0

        first : PrecedesOrIs log e f
        first = inr (AtOnce he inf n)

        smaller : (u : ℕ) → stamps e u ≤ frontier u
        smaller u = go ((st e he).reached u)
          where
            go : (stamps e u ≡ 0)
                ⊎ ((g : Entry) × IsIn g log × (g.thread ≡ u) × (g.number ≡ stamps e u) × PrecedesOrIs log g e)
                → stamps e u ≤ frontier u
            go (inl z) = omega arith
            go (inr (g, hg, t, k, r)) =
                let a : g.number ≤ stamps f g.thread = (st f inf).above g hg (or_chain log g e f r first) in
                let b : stamps f u ≤ frontier u = low u in
                let c : stamps f g.thread ≡ stamps f u = ap (stamps f) t in
                omega (arith, k)

        pick : IsIn e held ⊎ IsIn e stored → IsIn e part ⊎ IsIn e stored
        pick (inl h) = inl (each e h (inr smaller))
        pick (inr h) = inr h

    -- all that precedes a member of a closed set is a member or stored
    down : (other : List Entry) → IsClosedOver log stored other → (f e : Entry) → Precedes log f e
        → IsIn e other ⊎ IsIn e stored → IsIn f other ⊎ IsIn f stored
    down other shut f e (AtOnce hf he n) (inl h) = shut f e hf h n
    down other shut f e (AtOnce hf he n) (inr h) = inr (stored_closed f e hf h n)
    down other shut f e (Through {g = g} hf n r) h = step (down other shut g e r h)
      where
        step : IsIn g other ⊎ IsIn g stored → IsIn f other ⊎ IsIn f stored
        step (inl k) = shut f g hf k n
        step (inr k) = inr (stored_closed f g hf k n)

    bound : (other : List Entry) → ((e : Entry) → IsIn e other → IsIn e held) → IsClosedOver log stored other
        → (e : Entry) → IsIn e other → (u : ℕ)
        → (stamps e u ≡ 0)
        ⊎ ((g : Entry) × IsIn g log × (g.thread ≡ u) × (g.number ≡ stamps e u) × PrecedesOrIs log g e)
        → stamps e u ≤ frontier u
    bound other sub shut e h u r = go (cases_lt (frontier u) (stamps e u))
      where
        here : IsIn e log
        here = held_in e (sub e h)

        go : (frontier u < stamps e u) ⊎ (stamps e u ≤ frontier u) → stamps e u ≤ frontier u
        go (inr k) = k
        go (inl k) =
            let f = missing_there log stored held e (stamps e) frontier u good (st e here) fr k in
            absurd (f.5 (in_one f.0 f.4))
          where
            in_one : (f : Entry) → PrecedesOrIs log f e → IsIn f held ⊎ IsIn f stored
            in_one f (inl q) = inl (subst (λ (z : Entry). IsIn z held) (sym q) (sub e h))
            in_one f (inr q) = both (down other shut f e q (inl h))
              where
                both : IsIn f other ⊎ IsIn f stored → IsIn f held ⊎ IsIn f stored
                both (inl a) = inl (sub f a)
                both (inr a) = inr a

-- Two closed parts have the same members.
pub part_unique : (log stored held part other : List Entry) → IsClosedPart log stored held part
    → IsClosedPart log stored held other → (e : Entry) → IsIn e part → IsIn e other
part_unique log stored held part other a b e here = b.greatest part a.within a.closed e here
