-- The stamps that a master makes are the stamps of its entries: those of the sources of an entry, joined.
use Rattle.std.proofs.Common.{◌≡◌, ℕ, ◌+◌, ◌≤◌, ◌<◌, ◌≢◌, List, ◌∷◌, refl, sym, ap, ◌∙◌, subst, inl, inr, ◌⊎◌, arith}
use Rattle.std.specs.Prelude.{max}
use Rattle.std.proofs.lemmas.Bool.{cases_lt}
use Rattle.entry_order.specs.declared.what.What.TheVariants.{Access, Read}
use Rattle.entry_order.specs.Log.{Entry, entries, places, IsLog, IsIn, IsNext}
use Rattle.entry_order.specs.Stamps.{IsStamp, IsOutputStamp, bumped}
use Rattle.entry_order.proofs.Order.{is_or, entry_there, touch_there, touch_only, read_only}
use Rattle.entry_order.proofs.Joins.{join_is_stamp, stamp_unique, output_stamp_of, zero_first}
use Rattle.master_core.specs.Stamped.{IsTouchStamp, IsReadersStamp}

-- n is 0, or the component of an immediate predecessor's stamp
abbrev pub Reaches : List Entry → Entry → ℕ → ℕ → Type 0
Reaches log e u n =
    (n ≡ 0) ⊎ ((f : Entry) × (stamp : ℕ → ℕ) × IsIn f log × IsNext f e × IsStamp log f stamp × (stamp u ≡ n))

reaches_max : (log : List Entry) (e : Entry) (u a b : ℕ) → Reaches log e u a → Reaches log e u b
    → Reaches log e u (max a b)
reaches_max log e u a b ra rb = pick (cases_lt a b)
  where
    pick : (a < b) ⊎ (b ≤ a) → Reaches log e u (max a b)
    pick (inl h) = let k : b ≡ max a b = omega arith in subst (λ (n : ℕ). Reaches log e u n) k rb
    pick (inr h) = let k : a ≡ max a b = omega arith in subst (λ (n : ℕ). Reaches log e u n) k ra

-- the stamp of the thread's last entry

pub thread_above : (log : List Entry) (e f : Entry) (s stamp : ℕ → ℕ) → IsLog (e ∷ log)
    → IsOutputStamp log e.thread (entries e.thread log) s → IsIn f log → f.thread ≡ e.thread → e.number ≡ f.number + 1
    → IsStamp log f stamp → (u : ℕ) → stamp u ≡ s u
thread_above log e f s stamp good is here th num st u =
    let number : f.number ≡ entries e.thread log = omega (arith, good.0) in
    stamp_unique log f stamp s st (output_stamp_of log e.thread (entries e.thread log) f s good.2 here th number is) u

pub thread_reached : (log : List Entry) (e : Entry) (s : ℕ → ℕ) → IsLog (e ∷ log)
    → IsOutputStamp log e.thread (entries e.thread log) s → (u : ℕ) → Reaches log e u (s u)
thread_reached log e s good is u = go (is_or (entries e.thread log) 0)
  where
    go : (entries e.thread log ≡ 0) ⊎ (entries e.thread log ≢ 0) → Reaches log e u (s u)
    go (inl none) = inl (zero_first log e.thread s good.2 (subst (λ (n : ℕ). IsOutputStamp log e.thread n s) none is) u)
    go (inr some) =
        let f = entry_there log e.thread (entries e.thread log) good.2 (omega arith) (omega arith) in
        let next : e.number ≡ f.0.number + 1 = omega (arith, good.0, f.3) in
        inr (
          f.0,
          s,
          f.1,
          inl (f.2, next),
          output_stamp_of log e.thread (entries e.thread log) f.0 s good.2 f.1 f.2 f.3 is,
          refl,
        )

-- the stamp of the variable's last touch
pub touch_reached : (log : List Entry) (e : Entry) (v : ℕ) (s : ℕ → ℕ) → IsLog log → IsTouchStamp log v s
    → ((f : Entry) → f.what ≡ Access v (places v log) → IsNext f e) → (u : ℕ) → Reaches log e u (s u)
touch_reached log e v s good is next u = go (is_or (places v log) 0)
  where
    go : (places v log ≡ 0) ⊎ (places v log ≢ 0) → Reaches log e u (s u)
    go (inl none) = inl (is.none none u)
    go (inr some) =
        let f = touch_there log v (places v log) good (omega arith) (omega arith) in
        inr (f.0, s, f.1, next f.0 f.2, is.last f.0 f.1 f.2, refl)

-- the stamps of the reads since
pub readers_reached : (log : List Entry) (e : Entry) (v : ℕ) (s : ℕ → ℕ) → IsReadersStamp log v s
    → ((f : Entry) → f.what ≡ Read v (places v log) → IsNext f e) → (u : ℕ) → Reaches log e u (s u)
readers_reached log e v s is next u = go (is.reached u)
  where
    go : (s u ≡ 0)
        ⊎ ((f : Entry) × (stamp : ℕ → ℕ) × IsIn f log × (f.what ≡ Read v (places v log)) × IsStamp log f stamp
        × (stamp u ≡ s u)) → Reaches log e u (s u)
    go (inl z) = inl z
    go (inr (f, stamp, here, what, st, same)) = inr (f, stamp, here, next f what, st, same)

-- A touch has the join of the stamps of its thread, of its variable and of the reads since.
pub touch_stamp : (log : List Entry) (e : Entry) (v : ℕ) (thread touch readers : ℕ → ℕ) → IsLog (e ∷ log)
    → e.what ≡ Access v (places v log + 1) → IsOutputStamp log e.thread (entries e.thread log) thread
    → IsTouchStamp log v touch → IsReadersStamp log v readers
    → IsStamp (e ∷ log) e (bumped e (λ u. max (max (thread u) (touch u)) (readers u)))
touch_stamp log e v thread touch readers good what is_thread is_touch is_readers =
    join_is_stamp e log (λ u. max (max (thread u) (touch u)) (readers u)) good (record {
      above = above;
      reached = λ u. reaches_max log e u (max (thread u) (touch u)) (readers u)
          (reaches_max log e u (thread u) (touch u) (thread_reached log e thread good is_thread u)
          (touch_reached log e v touch good.2 is_touch (λ f w. inr (inl (v, places v log, w, what))) u))
          (readers_reached log e v readers is_readers (λ f w. inr (inr (inr (v, places v log, w, what)))) u);
    })
  where
    at : (w s : ℕ) → e.what ≡ Access w (s + 1) → (w ≡ v) × (s ≡ places v log)
    at w s h =
        let one = touch_only w (s + 1) v (places v log + 1) (sym h ∙ what) in
        let same : s ≡ places v log = omega (arith, one.1) in (one.0, same)

    above : (f : Entry) (stamp : ℕ → ℕ) → IsIn f log → IsNext f e → IsStamp log f stamp → (u : ℕ)
        → stamp u ≤ max (max (thread u) (touch u)) (readers u)
    above f stamp here (inl n) st u =
        let k : stamp u ≡ thread u = thread_above log e f thread stamp good is_thread here n.0 n.1 st u in omega arith
    above f stamp here (inr (inl (w, s, a, b))) st u =
        let one = at w s b in
        let place : f.what ≡ Access v (places v log) =
        a ∙ (ap (λ (x : ℕ). Access x s) one.0 ∙ ap (λ (x : ℕ). Access v x) one.1) in
        let k : stamp u ≡ touch u = stamp_unique log f stamp touch st (is_touch.last f here place) u in omega arith
    above f stamp here (inr (inr (inl (w, s, a, b)))) st u =
        let no : Access v (places v log + 1) ≡ Read w s = sym what ∙ b in absurd (cc)
    above f stamp here (inr (inr (inr (w, s, a, b)))) st u =
        let one = at w s b in
        let place : f.what ≡ Read v (places v log) =
        a ∙ (ap (λ (x : ℕ). Read x s) one.0 ∙ ap (λ (x : ℕ). Read v x) one.1) in
        let k : stamp u ≤ readers u = is_readers.above f stamp here place st u in omega arith

-- A read has the join of the stamps of its thread and of the last touch of its variable.
pub read_stamp : (log : List Entry) (e : Entry) (v : ℕ) (thread touch : ℕ → ℕ) → IsLog (e ∷ log)
    → e.what ≡ Read v (places v log) → IsOutputStamp log e.thread (entries e.thread log) thread
    → IsTouchStamp log v touch → IsStamp (e ∷ log) e (bumped e (λ u. max (thread u) (touch u)))
read_stamp log e v thread touch good what is_thread is_touch =
    join_is_stamp e log (λ u. max (thread u) (touch u)) good (record {
      above = above;
      reached = λ u. reaches_max log e u (thread u) (touch u) (thread_reached log e thread good is_thread u)
          (touch_reached log e v touch good.2 is_touch (λ f w. inr (inr (inl (v, places v log, w, what)))) u);
    })
  where
    above : (f : Entry) (stamp : ℕ → ℕ) → IsIn f log → IsNext f e → IsStamp log f stamp → (u : ℕ)
        → stamp u ≤ max (thread u) (touch u)
    above f stamp here (inl n) st u =
        let k : stamp u ≡ thread u = thread_above log e f thread stamp good is_thread here n.0 n.1 st u in omega arith
    above f stamp here (inr (inl (w, s, a, b))) st u =
        let no : Read v (places v log) ≡ Access w (s + 1) = sym what ∙ b in absurd (cc)
    above f stamp here (inr (inr (inl (w, s, a, b)))) st u =
        let one = read_only w s v (places v log) (sym b ∙ what) in
        let place : f.what ≡ Access v (places v log) =
        a ∙ (ap (λ (x : ℕ). Access x s) one.0 ∙ ap (λ (x : ℕ). Access v x) one.1) in
        let k : stamp u ≡ touch u = stamp_unique log f stamp touch st (is_touch.last f here place) u in omega arith
    above f stamp here (inr (inr (inr (w, s, a, b)))) st u =
        let no : Read v (places v log) ≡ Access w (s + 1) = sym what ∙ b in absurd (cc)

-- An entry on no variable has the stamp of its thread.
pub own_stamp : (log : List Entry) (e : Entry) (thread : ℕ → ℕ) → IsLog (e ∷ log) → ((v s : ℕ) → e.what ≢ Access v s)
    → ((v s : ℕ) → e.what ≢ Read v s) → IsOutputStamp log e.thread (entries e.thread log) thread
    → IsStamp (e ∷ log) e (bumped e thread)
own_stamp log e thread good no_touch no_read is_thread =
    join_is_stamp e log thread good
    (record { above = above; reached = λ u. thread_reached log e thread good is_thread u })
  where
    above : (f : Entry) (stamp : ℕ → ℕ) → IsIn f log → IsNext f e → IsStamp log f stamp → (u : ℕ) → stamp u ≤ thread u
    above f stamp here (inl n) st u =
        let k : stamp u ≡ thread u = thread_above log e f thread stamp good is_thread here n.0 n.1 st u in omega arith
    above f stamp here (inr (inl (w, s, a, b))) st u = absurd (no_touch w (s + 1) b)
    above f stamp here (inr (inr (inl (w, s, a, b)))) st u = absurd (no_read w s b)
    above f stamp here (inr (inr (inr (w, s, a, b)))) st u = absurd (no_touch w (s + 1) b)

-- a stamp by its components
pub stamp_by : (log : List Entry) (e : Entry) (s r : ℕ → ℕ) → IsStamp log e s → ((u : ℕ) → r u ≡ s u) → IsStamp log e r
stamp_by log e s r st same = record {
  above = λ f here p. let k : f.number ≤ s f.thread = st.above f here p in omega (arith, same f.thread);
  reached = λ u. let k = st.reached u in rw same k;
}
