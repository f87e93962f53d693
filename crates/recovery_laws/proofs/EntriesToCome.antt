-- What stands in a log after its past: numbers and places past those of the past, with no gap.
use Rattle.std.proofs.Common.{◌≡◌, ℕ, ◌+◌, ◌≤◌, ◌<◌, ◌≢◌, true, false, List, [], ◌∷◌, ◌++◌, refl, sym, ap, subst, inl}
use Rattle.std.proofs.Common.{inr, ◌⊎◌, arith}
use Rattle.std.proofs.lemmas.Bool.{cases_lt}
use Rattle.entry_order.specs.declared.what.What.{What}
use Rattle.entry_order.specs.declared.what.What.TheVariants.{Access, Read, Clock, Draw}
use Rattle.entry_order.specs.Log.{Entry, entries, places, IsLog, IsIn}
use Rattle.entry_order.specs.Closed.{IsNoLater}
use Rattle.plain_machine.specs.History.{entry_of}
use Rattle.entry_order.proofs.Order.{is_or, number_within, place_within, read_within, entry_there, touch_there}
use Rattle.entry_order.proofs.Order.{same_number, same_place}
use Rattle.entry_order.proofs.KeptEntries.{in_left, in_right, in_either, apart}
use Rattle.entry_order.proofs.ClosedParts.{Or, in_or}
use Rattle.entry_order.proofs.NoLater.{no_later_trans, later_or}
use Rattle.recovery_world.proofs.FromPlainMachine.{tail_log, next_past}
use Rattle.recovery_world.specs.Turns.{IsReadToCome, IsTouchToCome, IsAwaited}

module _ (more past : List Entry) (good : IsLog (more ++ past)) where
  log_past : IsLog past
  log_past = tail_log more past good

  pub later_number : (f : Entry) → IsIn f more → entries f.thread past < f.number
  later_number f here = go (cases_lt (entries f.thread past) f.number)
    where
      full : IsIn f (more ++ past)
      full = in_left f more past here

      go : (entries f.thread past < f.number) ⊎ (f.number ≤ entries f.thread past) → entries f.thread past < f.number
      go (inl k) = k
      go (inr k) =
          let g = entry_there past f.thread f.number log_past (number_within (more ++ past) f good full).0 k in
          absurd (apart more past f good here (subst (λ (z : Entry). IsIn z past)
          (same_number (more ++ past) g.0 f good (in_right g.0 more past g.1) full g.2 g.3) g.1))

  pub later_place : (f : Entry) (v s : ℕ) → IsIn f more → f.what ≡ Access v s → places v past < s
  later_place f v s here w = go (cases_lt (places v past) s)
    where
      full : IsIn f (more ++ past)
      full = in_left f more past here

      go : (places v past < s) ⊎ (s ≤ places v past) → places v past < s
      go (inl k) = k
      go (inr k) =
          let g = touch_there past v s log_past (place_within (more ++ past) f v s good full w).0 k in
          absurd (apart more past f good here (subst (λ (z : Entry). IsIn z past)
          (same_place (more ++ past) g.0 f v s good (in_right g.0 more past g.1) full g.2 w) g.1))

  pub later_read : (f : Entry) (v r : ℕ) → IsIn f more → f.what ≡ Read v r → places v past ≤ r
  later_read f v r here w = go (cases_lt r (places v past))
    where
      go : (r < places v past) ⊎ (places v past ≤ r) → places v past ≤ r
      go (inr k) = k
      go (inl k) =
          let g = touch_there past v (r + 1) log_past (omega arith) (omega arith) in
          absurd (apart more past f good here
          (next_past more past f g.0 good (in_left f more past here) g.1 (inr (inr (inr (v, r, w, g.2))))))

  -- the next touch of the variable
  abbrev pub NextTouch : ℕ → Type 0
  NextTouch v = (g : Entry) × IsIn g more × (g.what ≡ Access v (places v past + 1))

  pub touch_next : (v s : ℕ) → places v past < s → s ≤ places v (more ++ past) → NextTouch v
  touch_next v s low high = go g (in_either g.0 more past g.1)
    where
      g : (g : Entry) × IsIn g (more ++ past) × (g.what ≡ Access v (places v past + 1))
      g = touch_there (more ++ past) v (places v past + 1) good (omega arith) (omega arith)

      go : (g : (g : Entry) × IsIn g (more ++ past) × (g.what ≡ Access v (places v past + 1)))
          → IsIn g.0 more ⊎ IsIn g.0 past → NextTouch v
      go g (inl h) = (g.0, h, g.2)
      go g (inr h) =
          let k : (1 ≤ places v past + 1) × (places v past + 1 ≤ places v past) =
          place_within past g.0 v (places v past + 1) log_past h g.2 in
          absurd (omega arith)

  pub next_touch : (f : Entry) (v s : ℕ) → IsIn f more → f.what ≡ Access v s → NextTouch v
  next_touch f v s here w =
      touch_next v s (later_place f v s here w) (place_within (more ++ past) f v s good (in_left f more past here) w).1

  pub read_or_touch : (f : Entry) (v r : ℕ) → IsIn f more → f.what ≡ Read v r → (r ≡ places v past) ⊎ NextTouch v
  read_or_touch f v r here w = go (is_or r (places v past))
    where
      low : places v past ≤ r
      low = later_read f v r here w

      go : (r ≡ places v past) ⊎ (r ≢ places v past) → (r ≡ places v past) ⊎ NextTouch v
      go (inl k) = inl k
      go (inr k) = inr (touch_next v r (omega (arith, k, low))
          (read_within (more ++ past) f v r good (in_left f more past here) w))

  -- the next entry of the thread
  pub next_number : (f : Entry) → IsIn f more
      → (g : Entry) × IsIn g more × (g.thread ≡ f.thread) × (g.number ≡ entries f.thread past + 1)
  next_number f here = go (in_either g.0 more past g.1)
    where
      full : (1 ≤ f.number) × (f.number ≤ entries f.thread (more ++ past))
      full = number_within (more ++ past) f good (in_left f more past here)

      g : (g : Entry) × IsIn g (more ++ past) × (g.thread ≡ f.thread) × (g.number ≡ entries f.thread past + 1)
      g =
          let k : entries f.thread past < f.number = later_number f here in
          entry_there (more ++ past) f.thread (entries f.thread past + 1) good (omega arith) (omega (arith, full, k))

      go : IsIn g.0 more ⊎ IsIn g.0 past
          → (g : Entry) × IsIn g more × (g.thread ≡ f.thread) × (g.number ≡ entries f.thread past + 1)
      go (inl h) = (g.0, h, g.2, g.3)
      go (inr h) =
          let k : (1 ≤ g.0.number) × (g.0.number ≤ entries g.0.thread past) = number_within past g.0 log_past h in
          let t : entries g.0.thread past ≡ entries f.thread past = ap (λ (u : ℕ). entries u past) g.2 in
          absurd (omega (arith, k, t, g.3))

-- whether something is the case of a number is decided
what_read_or : (w : What) (v r : ℕ) → Or (w ≡ Read v r)
what_read_or (Access u s) v r = inr (λ e. cc)
what_read_or (Read u s) v r = go (is_or u v) (is_or s r)
  where
    go : (u ≡ v) ⊎ (u ≢ v) → (s ≡ r) ⊎ (s ≢ r) → Or (Read u s ≡ Read v r)
    go (inl a) (inl b) = inl (cc)
    go (inr a) b = inr (λ e. let k : u ≡ v = cc in a k)
    go (inl a) (inr b) = inr (λ e. let k : s ≡ r = cc in b k)
what_read_or (Clock a) v r = inr (λ e. cc)
what_read_or (Draw a) v r = inr (λ e. cc)

-- the first read to come among some entries, or there is none
abbrev pub FirstRead : List Entry → List Entry → List Entry → ℕ → Type 0
FirstRead followed log some v =
    (e : Entry)
    × IsReadToCome followed log v e
    × ((f : Entry) → IsIn f some → IsReadToCome followed log v f → IsNoLater e f)

abbrev pub NoRead : List Entry → List Entry → List Entry → ℕ → Type 0
NoRead followed log some v = (f : Entry) → IsIn f some → IsReadToCome followed log v f → ⊥

first_read : (followed log some : List Entry) (v : ℕ) → ((e : Entry) → IsIn e some → IsIn e followed)
    → FirstRead followed log some v ⊎ NoRead followed log some v
first_read followed log [] v sub = inr (λ f here r. here)
first_read followed log (x ∷ some) v sub =
    go (first_read followed log some v (λ e h. sub e (inr h))) (what_read_or x.what v (places v log)) (in_or x log)
  where
    skip : (IsReadToCome followed log v x → ⊥) → FirstRead followed log some v ⊎ NoRead followed log some v
        → FirstRead followed log (x ∷ some) v ⊎ NoRead followed log (x ∷ some) v
    skip never (inl (e, r, first)) = inl (e, r, λ f here q. pick f here q)
      where
        pick : (f : Entry) → IsIn f (x ∷ some) → IsReadToCome followed log v f → IsNoLater e f
        pick f (inl same) q = absurd (never (subst (λ (z : Entry). IsReadToCome followed log v z) (sym same) q))
        pick f (inr h) q = first f h q
    skip never (inr none) = inr (λ f here q. pick f here q)
      where
        pick : (f : Entry) → IsIn f (x ∷ some) → IsReadToCome followed log v f → ⊥
        pick f (inl same) q = never (subst (λ (z : Entry). IsReadToCome followed log v z) (sym same) q)
        pick f (inr h) q = none f h q

    joined : IsReadToCome followed log v x → FirstRead followed log some v ⊎ NoRead followed log some v
        → FirstRead followed log (x ∷ some) v
    joined r (inr none) = (x, r, λ f here q. pick f here q)
      where
        pick : (f : Entry) → IsIn f (x ∷ some) → IsReadToCome followed log v f → IsNoLater x f
        pick f (inl same) q = inr (
          ap (λ (z : Entry). z.thread) same,
          let k : x.number ≡ f.number = ap (λ (z : Entry). z.number) same in omega arith,
        )
        pick f (inr h) q = absurd (none f h q)
    joined r (inl (e, re, first)) = choose (later_or e x)
      where
        choose : IsNoLater e x ⊎ IsNoLater x e → FirstRead followed log (x ∷ some) v
        choose (inl k) = (e, re, λ f here q. pick f here q)
          where
            pick : (f : Entry) → IsIn f (x ∷ some) → IsReadToCome followed log v f → IsNoLater e f
            pick f (inl same) q = subst (λ (z : Entry). IsNoLater e z) same k
            pick f (inr h) q = first f h q
        choose (inr k) = (x, r, λ f here q. pick f here q)
          where
            pick : (f : Entry) → IsIn f (x ∷ some) → IsReadToCome followed log v f → IsNoLater x f
            pick f (inl same) q = inr (
              ap (λ (z : Entry). z.thread) same,
              let n : x.number ≡ f.number = ap (λ (z : Entry). z.number) same in omega arith,
            )
            pick f (inr h) q = no_later_trans x e f k (first f h q)

    go : FirstRead followed log some v ⊎ NoRead followed log some v → Or (x.what ≡ Read v (places v log))
        → Or (IsIn x log) → FirstRead followed log (x ∷ some) v ⊎ NoRead followed log (x ∷ some) v
    go rest (inr never) b = skip (λ r. never r.1) rest
    go rest (inl reads) (inl old) = skip (λ r. r.2 old) rest
    go rest (inl reads) (inr new) = inl (joined (sub x (inl refl), reads, new) rest)

-- Where it is the thread's turn to touch the variable, no read is to come, and the next touch is its own.
pub may_touch : (followed log : List Entry) (t v : ℕ) → (IsIn (entry_of t log (Read v (places v log))) followed → ⊥)
    → ((e : Entry) → IsAwaited followed log t v false e → ⊥)
    → ((f : Entry) → IsReadToCome followed log v f → ⊥)
    × ((g : Entry) → IsTouchToCome followed log v g → ((g.thread ≡ t) × (g.number ≡ entries t log + 1) → ⊥) → ⊥)
may_touch followed log t v not_own turn = go (first_read followed log followed v (λ e h. h))
  where
    go : FirstRead followed log followed v ⊎ NoRead followed log followed v
        → ((f : Entry) → IsReadToCome followed log v f → ⊥)
        × ((g : Entry) → IsTouchToCome followed log v g → ((g.thread ≡ t) × (g.number ≡ entries t log + 1) → ⊥) → ⊥)
    go (inl (e, r, first)) =
        absurd (turn e (record { not_own_read = not_own; which = inl (refl, r, λ f q. first f q.0 q) }))
    go (inr none) = (
      (λ f r. none f r.0 r),
      (λ g h other. turn g (record { not_own_read = not_own; which = inr ((λ k f r. none f r.0 r), h, other) })),
    )

-- and to read it, the next touch is its own
pub may_read : (followed log : List Entry) (t v : ℕ) → (IsIn (entry_of t log (Read v (places v log))) followed → ⊥)
    → ((e : Entry) → IsAwaited followed log t v true e → ⊥) → (g : Entry) → IsTouchToCome followed log v g
    → ((g.thread ≡ t) × (g.number ≡ entries t log + 1) → ⊥) → ⊥
may_read followed log t v not_own turn g h other =
    turn g (record { not_own_read = not_own; which = inr ((λ k f r. absurd (cc)), h, other) })
