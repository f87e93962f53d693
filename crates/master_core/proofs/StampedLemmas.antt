-- What a master keeps of threads and variables stays as it is while the log grows, but for what an entry changes.
use Rattle.std.proofs.Common.{◌≡◌, ℕ, ◌+◌, ◌≤◌, ◌<◌, ◌≢◌, List, ◌∷◌, refl, sym, ap, ◌∙◌, subst, inl, inr, ◌⊎◌, arith}
use Rattle.std.specs.Prelude.{max}
use Rattle.std.proofs.lemmas.Bool.{cases_lt}
use Rattle.entry_order.specs.declared.what.What.TheVariants.{Access, Read}
use Rattle.entry_order.specs.Log.{Entry, entries, places, IsLog, IsIn, PrecedesOutput}
use Rattle.entry_order.specs.Stamps.{IsStamp, IsOutputStamp}
use Rattle.entry_order.proofs.Order.{entries_same, places_same, places_step, place_within, read_within}
use Rattle.entry_order.proofs.Joins.{stamp_there, stamp_unique, output_stamp_is, output_older, output_newer}
use Rattle.entry_order.proofs.Parts.{stamp_stays}
use Rattle.entry_order.proofs.Missing.{output_in}
use Rattle.master_core.specs.Stamped.{IsTouchStamp, IsReadersStamp}

-- Threads

-- the stamp of what a thread sends out after its entry
pub own_output : (log : List Entry) (e : Entry) (s : ℕ → ℕ) → IsLog (e ∷ log) → IsStamp (e ∷ log) e s
    → IsOutputStamp (e ∷ log) e.thread (entries e.thread (e ∷ log)) s
own_output log e s good st =
    let number : e.number ≡ entries e.thread (e ∷ log) = good.0 ∙ sym (entries_same e.thread e log refl) in
    output_stamp_is (e ∷ log) e.thread (entries e.thread (e ∷ log)) e s good (inl refl) refl number st

-- and of another thread
pub other_output : (log : List Entry) (e : Entry) (t n : ℕ) (s : ℕ → ℕ) → IsLog (e ∷ log) → n ≤ entries t log
    → IsOutputStamp log t n s → IsOutputStamp (e ∷ log) t n s
other_output log e t n s good low is = record {
  above = λ f here p. let q = output_older e log t n f good low p in is.above f (output_in log t n f q) q;
  reached = λ u. go u (is.reached u);
}
  where
    go : (u : ℕ) → (s u ≡ 0) ⊎ ((f : Entry) × IsIn f log × (f.thread ≡ u) × (f.number ≡ s u) × PrecedesOutput log t n f)
        → (s u ≡ 0)
        ⊎ ((f : Entry) × IsIn f (e ∷ log) × (f.thread ≡ u) × (f.number ≡ s u) × PrecedesOutput (e ∷ log) t n f)
    go u (inl z) = inl z
    go u (inr (f, here, th, num, p)) = inr (f, inr here, th, num, output_newer e log t n f p)

-- Variables

-- an entry that is no touch of the variable leaves its count
pub places_stay : (v : ℕ) (e : Entry) (log : List Entry) → ((s : ℕ) → e.what ≢ Access v s)
    → places v (e ∷ log) ≡ places v log
places_stay v e log never = go (places_step v e log)
  where
    go : (places v (e ∷ log) ≡ places v log)
        ⊎ ((s : ℕ) × (e.what ≡ Access v s) × (places v (e ∷ log) ≡ places v log + 1))
        → places v (e ∷ log) ≡ places v log
    go (inl h) = h
    go (inr (s, h, k)) = absurd (never s h)

-- the last touch stays the last
pub touch_stays : (log : List Entry) (e : Entry) (v : ℕ) (s : ℕ → ℕ) → IsLog (e ∷ log) → ((r : ℕ) → e.what ≢ Access v r)
    → IsTouchStamp log v s → IsTouchStamp (e ∷ log) v s
touch_stays log e v s good never is = record { last = last; none = λ h u. is.none (sym same ∙ h) u }
  where
    same : places v (e ∷ log) ≡ places v log
    same = places_stay v e log never

    last : (f : Entry) → IsIn f (e ∷ log) → f.what ≡ Access v (places v (e ∷ log)) → IsStamp (e ∷ log) f s
    last f (inl h) what = absurd (never (places v (e ∷ log)) (ap (λ (x : Entry). x.what) h ∙ what))
    last f (inr here) what = stamp_stays e log f s good here (is.last f here (what ∙ ap (λ (n : ℕ). Access v n) same))

-- and a new touch is it
pub touch_last : (log : List Entry) (e : Entry) (v : ℕ) (s : ℕ → ℕ) → IsLog (e ∷ log)
    → e.what ≡ Access v (places v log + 1) → IsStamp (e ∷ log) e s → IsTouchStamp (e ∷ log) v s
touch_last log e v s good touches st = record { last = last; none = λ h u. absurd (omega (arith, more, h)) }
  where
    more : places v (e ∷ log) ≡ places v log + 1
    more = places_same v (places v log + 1) e log touches

    last : (f : Entry) → IsIn f (e ∷ log) → f.what ≡ Access v (places v (e ∷ log)) → IsStamp (e ∷ log) f s
    last f (inl h) what = subst (λ (x : Entry). IsStamp (e ∷ log) x s) h st
    last f (inr here) what =
        let k : (1 ≤ places v (e ∷ log)) × (places v (e ∷ log) ≤ places v log) =
        place_within log f v (places v (e ∷ log)) good.2 here what in
        absurd (omega (arith, more, k))

-- the stamp of an entry of the log before
old_stamp : (log : List Entry) (e f : Entry) (s : ℕ → ℕ) → IsLog (e ∷ log) → IsIn f log → IsStamp (e ∷ log) f s
    → (r : ℕ → ℕ) × IsStamp log f r × ((u : ℕ) → s u ≡ r u)
old_stamp log e f s good here st =
    let r = stamp_there log f good.2 here in
    (r.0, r.1, λ u. stamp_unique (e ∷ log) f s r.0 st (stamp_stays e log f r.0 good here r.1) u)

abbrev pub IsReached : List Entry → ℕ → ℕ → ℕ → ℕ → Type 0
IsReached log v place u n =
    (n ≡ 0)
    ⊎ ((f : Entry) × (stamp : ℕ → ℕ) × IsIn f log × (f.what ≡ Read v place) × IsStamp log f stamp × (stamp u ≡ n))

-- a read that was reached still is
reached_stays : (log : List Entry) (e : Entry) (v place other u n : ℕ) → IsLog (e ∷ log) → place ≡ other
    → IsReached log v place u n → IsReached (e ∷ log) v other u n
reached_stays log e v place other u n good same (inl z) = inl z
reached_stays log e v place other u n good same (inr (f, stamp, here, what, st, k)) =
    inr (f, stamp, inr here, what ∙ ap (λ (x : ℕ). Read v x) same, stamp_stays e log f stamp good here st, k)

-- the reads stay as they are
pub readers_stay : (log : List Entry) (e : Entry) (v : ℕ) (join : ℕ → ℕ) → IsLog (e ∷ log)
    → ((r : ℕ) → e.what ≢ Access v r) → ((r : ℕ) → e.what ≢ Read v r) → IsReadersStamp log v join
    → IsReadersStamp (e ∷ log) v join
readers_stay log e v join good no_touch no_read is = record {
  above = above;
  reached = λ u. reached_stays log e v (places v log) (places v (e ∷ log)) u (join u) good (sym same) (is.reached u);
}
  where
    same : places v (e ∷ log) ≡ places v log
    same = places_stay v e log no_touch

    above : (f : Entry) (stamp : ℕ → ℕ) → IsIn f (e ∷ log) → f.what ≡ Read v (places v (e ∷ log))
        → IsStamp (e ∷ log) f stamp → (u : ℕ) → stamp u ≤ join u
    above f stamp (inl h) what st u = absurd (no_read (places v (e ∷ log)) (ap (λ (x : Entry). x.what) h ∙ what))
    above f stamp (inr here) what st u =
        let r = old_stamp log e f stamp good here st in
        let k : r.0 u ≤ join u = is.above f r.0 here (what ∙ ap (λ (n : ℕ). Read v n) same) r.1 u in
        omega (arith, r.2 u)

-- a new read joins them
pub readers_more : (log : List Entry) (e : Entry) (v : ℕ) (join s more : ℕ → ℕ) → IsLog (e ∷ log)
    → e.what ≡ Read v (places v log) → IsStamp (e ∷ log) e s → ((u : ℕ) → more u ≡ max (join u) (s u))
    → IsReadersStamp log v join → IsReadersStamp (e ∷ log) v more
readers_more log e v join s more good reads st joined is =
    record { above = above; reached = λ u. reached u (cases_lt (join u) (s u)) }
  where
    no_touch : (r : ℕ) → e.what ≢ Access v r
    no_touch r h = let no : Read v (places v log) ≡ Access v r = sym reads ∙ h in cc

    same : places v (e ∷ log) ≡ places v log
    same = places_stay v e log no_touch

    above : (f : Entry) (stamp : ℕ → ℕ) → IsIn f (e ∷ log) → f.what ≡ Read v (places v (e ∷ log))
        → IsStamp (e ∷ log) f stamp → (u : ℕ) → stamp u ≤ more u
    above f stamp (inl h) what is_stamp u =
        let k : stamp u ≡ s u =
        stamp_unique (e ∷ log) f stamp s is_stamp (subst (λ (x : Entry). IsStamp (e ∷ log) x s) h st) u in
        omega (arith, joined u)
    above f stamp (inr here) what is_stamp u =
        let r = old_stamp log e f stamp good here is_stamp in
        let k : r.0 u ≤ join u = is.above f r.0 here (what ∙ ap (λ (n : ℕ). Read v n) same) r.1 u in
        omega (arith, r.2 u, joined u)

    reached : (u : ℕ) → (join u < s u) ⊎ (s u ≤ join u) → IsReached (e ∷ log) v (places v (e ∷ log)) u (more u)
    reached u (inl h) =
        let k : s u ≡ more u = omega (arith, joined u) in
        inr (e, s, inl refl, reads ∙ ap (λ (n : ℕ). Read v n) (sym same), st, k)
    reached u (inr h) =
        let k : join u ≡ more u = omega (arith, joined u) in
        subst (λ (n : ℕ). IsReached (e ∷ log) v (places v (e ∷ log)) u n) k
        (reached_stays log e v (places v log) (places v (e ∷ log)) u (join u) good (sym same) (is.reached u))

-- after a touch there is none
pub readers_gone : (log : List Entry) (e : Entry) (v : ℕ) (join : ℕ → ℕ) → IsLog (e ∷ log)
    → e.what ≡ Access v (places v log + 1) → ((u : ℕ) → join u ≡ 0) → IsReadersStamp (e ∷ log) v join
readers_gone log e v join good touches zeros = record { above = above; reached = λ u. inl (zeros u) }
  where
    more : places v (e ∷ log) ≡ places v log + 1
    more = places_same v (places v log + 1) e log touches

    above : (f : Entry) (stamp : ℕ → ℕ) → IsIn f (e ∷ log) → f.what ≡ Read v (places v (e ∷ log))
        → IsStamp (e ∷ log) f stamp → (u : ℕ) → stamp u ≤ join u
    above f stamp (inl h) what st u =
        let no : Access v (places v log + 1) ≡ Read v (places v (e ∷ log)) =
        sym touches ∙ (ap (λ (x : Entry). x.what) h ∙ what) in
        absurd (cc)
    above f stamp (inr here) what st u =
        let k : places v (e ∷ log) ≤ places v log = read_within log f v (places v (e ∷ log)) good.2 here what in
        absurd (omega (arith, more))
