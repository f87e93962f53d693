-- What is missing for what a thread sends out, by its stamp and the frontiers.
use Rattle.std.proofs.Common.{◌≡◌, ℕ, ◌+◌, ◌≤◌, ◌<◌, List, sym, ap, ◌∙◌, subst, inl, inr, ◌⊎◌, arith}
use Rattle.std.proofs.lemmas.Bool.{cases_lt}
use Rattle.entry_order.specs.Log.{Entry, IsLog, IsIn, PrecedesOutput}
use Rattle.entry_order.specs.Stamps.{IsOutputStamp}
use Rattle.entry_order.specs.Closed.{IsMissing, IsFirstMissing, IsDue, IsFrontier}
use Rattle.entry_order.proofs.Order.{same_number, precedes_in}
use Rattle.entry_order.proofs.Parts.{missing_there}
use Rattle.entry_order.proofs.Joins.{output_stamp_of}

-- A missing entry has a number past the frontier, and up to the component of the stamp.
pub missing_past : (log stored held : List Entry) (t n : ℕ) (s frontier : ℕ → ℕ) (e : Entry) → IsOutputStamp log t n s
    → IsFrontier log stored held frontier → IsIn e log → IsMissing log stored held t n e
    → (frontier e.thread < e.number) × (e.number ≤ s e.thread)
missing_past log stored held t n s frontier e st fr here gone =
    (past (cases_lt (frontier e.thread) e.number), st.above e here gone.precedes)
  where
    kept : IsIn e held ⊎ IsIn e stored → ⊥
    kept (inl h) = gone.not_held h
    kept (inr h) = gone.not_stored h

    past : (frontier e.thread < e.number) ⊎ (e.number ≤ frontier e.thread) → frontier e.thread < e.number
    past (inl h) = h
    past (inr h) = absurd (kept (fr.below e here h))

-- the entries that precede an output are in the log
pub output_in : (log : List Entry) (t n : ℕ) (e : Entry) → PrecedesOutput log t n e → IsIn e log
output_in log t n e (last, here, th, num, inl same) = subst (λ (y : Entry). IsIn y log) (sym same) here
output_in log t n e (last, here, th, num, inr p) = precedes_in log e last p

-- Where a component of the stamp is above the frontier, the next entry of its thread is missing.
pub missing_next : (log stored held : List Entry) (t n : ℕ) (s frontier : ℕ → ℕ) (u : ℕ) → IsLog log
    → IsOutputStamp log t n s → IsFrontier log stored held frontier → frontier u < s u
    → (e : Entry) × IsMissing log stored held t n e × (e.thread ≡ u) × (e.number ≡ frontier u + 1)
missing_next log stored held t n s frontier u good st fr high = go (st.reached u)
  where
    go : (s u ≡ 0) ⊎ ((f : Entry) × IsIn f log × (f.thread ≡ u) × (f.number ≡ s u) × PrecedesOutput log t n f)
        → (e : Entry) × IsMissing log stored held t n e × (e.thread ≡ u) × (e.number ≡ frontier u + 1)
    go (inl z) = absurd (omega arith)
    go (inr (f, hf, tf, nf, (last, here, th, num, p))) =
        let r = missing_there log stored held last s frontier u good
        (output_stamp_of log t n last s good here th num st) fr high in (
          r.0,
          record { precedes = (last, here, th, num, r.4); not_held = λ h. r.5 (inl h); not_stored = λ h. r.5 (inr h) },
          r.2,
          r.3,
        )

-- What a thread sends out is due exactly where no component of its stamp is above the frontier.
pub due_within : (log stored held : List Entry) (t n : ℕ) (s frontier : ℕ → ℕ) → IsLog log → IsOutputStamp log t n s
    → IsFrontier log stored held frontier → ((u : ℕ) → s u ≤ frontier u) → IsDue log stored held t n
due_within log stored held t n s frontier good st fr low e gone =
    let k : (frontier e.thread < e.number) × (e.number ≤ s e.thread) =
    missing_past log stored held t n s frontier e st fr (output_in log t n e gone.precedes) gone in
    let l : s e.thread ≤ frontier e.thread = low e.thread in absurd (omega (arith, k))

pub within_due : (log stored held : List Entry) (t n : ℕ) (s frontier : ℕ → ℕ) → IsLog log → IsOutputStamp log t n s
    → IsFrontier log stored held frontier → IsDue log stored held t n → (u : ℕ) → s u ≤ frontier u
within_due log stored held t n s frontier good st fr due u = go (cases_lt (frontier u) (s u))
  where
    go : (frontier u < s u) ⊎ (s u ≤ frontier u) → s u ≤ frontier u
    go (inl high) = let r = missing_next log stored held t n s frontier u good st fr high in absurd (due r.0 r.1)
    go (inr low) = low

-- The named missing entry is of the least thread whose component is above its frontier, with the frontier plus 1.
pub first_missing : (log stored held : List Entry) (t n : ℕ) (s frontier : ℕ → ℕ) (u : ℕ) → IsLog log
    → IsOutputStamp log t n s → IsFrontier log stored held frontier → frontier u < s u
    → ((w : ℕ) → w < u → s w ≤ frontier w)
    → (e : Entry) × IsFirstMissing log stored held t n e × (e.thread ≡ u) × (e.number ≡ frontier u + 1)
first_missing log stored held t n s frontier u good st fr high least =
    (r.0, record { missing = r.1; first = first }, r.2, r.3)
  where
    r : (e : Entry) × IsMissing log stored held t n e × (e.thread ≡ u) × (e.number ≡ frontier u + 1)
    r = missing_next log stored held t n s frontier u good st fr high

    first : (f : Entry) → IsMissing log stored held t n f
        → (r.0.thread < f.thread) ⊎ ((r.0.thread ≡ f.thread) × (r.0.number ≤ f.number))
    first f gone = go (cases_lt f.thread u) (cases_lt u f.thread)
      where
        k : (frontier f.thread < f.number) × (f.number ≤ s f.thread)
        k = missing_past log stored held t n s frontier f st fr (output_in log t n f gone.precedes) gone

        go : (f.thread < u) ⊎ (u ≤ f.thread) → (u < f.thread) ⊎ (f.thread ≤ u)
            → (r.0.thread < f.thread) ⊎ ((r.0.thread ≡ f.thread) × (r.0.number ≤ f.number))
        go (inl less) b = let l : s f.thread ≤ frontier f.thread = least f.thread less in absurd (omega (arith, k))
        go (inr most) (inl more) = inl (let q : r.0.thread ≡ u = r.2 in omega arith)
        go (inr most) (inr same) =
            let one : f.thread ≡ u = omega arith in
            let q : frontier f.thread ≡ frontier u = ap frontier one in
            let a : r.0.number ≡ frontier u + 1 = r.3 in
            inr (r.2 ∙ sym one, omega (arith, k))

-- Only one missing entry is the named one.
pub first_unique : (log stored held : List Entry) (t n : ℕ) (e f : Entry) → IsLog log
    → IsFirstMissing log stored held t n e → IsFirstMissing log stored held t n f → e ≡ f
first_unique log stored held t n e f good a b = go (a.first f b.missing) (b.first e a.missing)
  where
    go : (e.thread < f.thread) ⊎ ((e.thread ≡ f.thread) × (e.number ≤ f.number))
        → (f.thread < e.thread) ⊎ ((f.thread ≡ e.thread) × (f.number ≤ e.number)) → e ≡ f
    go (inl h) (inl k) = absurd (omega arith)
    go (inl h) (inr k) = absurd (omega (arith, k))
    go (inr h) (inl k) = absurd (omega (arith, h))
    go (inr h) (inr k) = same_number log e f good (output_in log t n e a.missing.precedes)
        (output_in log t n f b.missing.precedes) h.0 (omega (arith, h, k))
