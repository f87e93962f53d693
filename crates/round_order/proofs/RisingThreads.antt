-- The receipts of one thread rise in weight: each entry precedes the next one.
use Rattle.std.proofs.Common.{◌≡◌, ℕ, ◌+◌, ◌≤◌, ◌<◌, List, [], ◌∷◌, refl, sym, ap, ◌∙◌, subst, inl, inr, ◌⊎◌, arith}
use Rattle.std.proofs.Common.{Option}
use Rattle.plain_text.specs.declared.packet.Packet.{Packet}
use Rattle.entry_order.specs.Log.{Entry, entries}
use Rattle.plain_machine.specs.Program.{Meaning}
use Rattle.plain_machine.specs.History.{Did, Step, log_more, log_of}
use Rattle.plain_machine.proofs.Histories.{is_eq}
use Rattle.round_order.specs.Receipts.{Receipt, Receipts, InRound, Among, after, IsLogged, weight}
use Rattle.round_order.specs.Linked.{AreOwnMoves, IsLinked}
use Rattle.round_order.specs.Woven.{IsByWeight}
use Rattle.round_order.proofs.LoggedMoves.{at_entry, own_at, log_step}
use Rattle.round_order.proofs.WeightLemmas.{lighter}

module _ {V : Type 0} (m : Meaning V) (inputs : ℕ → List Packet) (threads : ℕ) (past : List (Step V)) (rs : Receipts V)
    (few : threads ≤ 16) (linked : IsLinked m inputs threads past rs) where
  -- an entry is of the thread of its receipt
  pub of_thread : (r : Receipt V) (e : Entry) → InRound rs r → IsLogged r e → e.thread ≡ r.step.thread
  of_thread r e here (left, is) =
      let k = own_at m inputs past r.step.thread (rs r.step.thread) r (linked.alone r.step.thread) here in
      (at_entry r.step.thread r.step.after.taken r.place k.1.0 k.1.1.0 e left (sym k.1.1.2 ∙ is)).0

  -- the heaviest of these is the last entry of the thread
  abbrev HasLast : ℕ → List (Receipt V) → Type 0
  HasLast t xs =
      ((x : Receipt V) (d : Entry) → Among x xs → IsLogged x d → ⊥)
      ⊎ ((f : Receipt V) × (c : Entry) × Among f xs × IsLogged f c × (c.thread ≡ t)
      × (c.number ≡ entries t (log_of (after xs past)))
      × ((x : Receipt V) (d : Entry) → Among x xs → IsLogged x d → weight x ≤ weight f))

  abbrev Rises : ℕ → List (Receipt V) → Type 0
  Rises t xs = HasLast t xs × IsByWeight xs

  rises : (t : ℕ) (xs : List (Receipt V)) → AreOwnMoves m inputs past t xs
      → ((f : Receipt V) → Among f xs → InRound rs f) → Rises t xs
  rises t [] alone here = (inl (λ x d a l. a), tt)
  rises t (r ∷ xs) alone here =
      go (rises t xs alone.2 (λ f a. here f (inr a))) (log_step r.step.act (log_of (after xs past)))
    where
      go : Rises t xs
          → (((e : Entry) (left : Option V) → r.step.act ≡ Did e left → ⊥)
          × (log_more r.step.act (log_of (after xs past)) ≡ log_of (after xs past)))
          ⊎ ((e : Entry) × (left : Option V) × (r.step.act ≡ Did e left)
          × (log_more r.step.act (log_of (after xs past)) ≡ e ∷ log_of (after xs past))) → Rises t (r ∷ xs)
      go (last, sorted) (inl (none, same)) = (keep last, ((λ e d x re a xd. absurd (none e re.0 re.1)), sorted))
        where
          old : (f : Receipt V) → ((x : Receipt V) (d : Entry) → Among x xs → IsLogged x d → weight x ≤ weight f)
              → (x : Receipt V) (d : Entry) → Among x (r ∷ xs) → IsLogged x d → weight x ≤ weight f
          old f most x d (inl is) l =
              let k = subst (λ (z : Receipt V). IsLogged z d) (sym is) l in absurd (none d k.0 k.1)
          old f most x d (inr a) l = most x d a l

          keep : HasLast t xs → HasLast t (r ∷ xs)
          keep (inl never) = inl each
            where
              each : (x : Receipt V) (d : Entry) → Among x (r ∷ xs) → IsLogged x d → ⊥
              each x d (inl is) l = let k = subst (λ (z : Receipt V). IsLogged z d) (sym is) l in none d k.0 k.1
              each x d (inr a) l = never x d a l
          keep (inr (f, c, a, l, of_t, n, most)) =
              inr (f, c, inr a, l, of_t, n ∙ ap (λ (log : List Entry). entries t log) (sym same), old f most)
      go (last, sorted) (inr (e, left, is, log)) =
          (inr (r, e, inl refl, (left, is), of_t, number, most), (before, sorted))
        where
          k : (e.thread ≡ r.step.thread) × (e.number ≡ entries r.step.thread (log_of (after xs past)) + 1)
          k = at_entry r.step.thread r.step.after.taken r.place (after xs past) alone.1.0 e left (sym alone.1.2 ∙ is)

          of_t : e.thread ≡ t
          of_t = k.0 ∙ alone.0

          next : e.number ≡ entries t (log_of (after xs past)) + 1
          next = k.1 ∙ ap (λ (u : ℕ). entries u (log_of (after xs past)) + 1) alone.0

          number : e.number ≡ entries t (log_of (after (r ∷ xs) past))
          number = next ∙ sym (ap (λ (l : List Entry). entries t l) log ∙ rw (is_eq e.thread t of_t) refl)

          less : (x : Receipt V) (d : Entry) → Among x xs → IsLogged x d → weight x < weight r
          less x d a l = by last
            where
              by : HasLast t xs → weight x < weight r
              by (inl never) = absurd (never x d a l)
              by (inr (f, c, fa, fc, c_t, n, heaviest)) =
                  let low : weight x ≤ weight f = heaviest x d a l in
                  let high : weight f < weight r =
                  lighter m inputs threads past rs few linked of_thread f r c e (here f (inr fa)) (here r (inl refl)) fc
                  (left, is) (inl (c_t ∙ sym of_t, next ∙ ap (λ z. z + 1) (sym n))) in
                  omega arith

          before : (c d : Entry) (x : Receipt V) → IsLogged r c → Among x xs → IsLogged x d
              → (weight x < weight r) ⊎ ((weight x ≡ weight r) × (x.step.thread < r.step.thread))
          before c d x rc a l = inl (less x d a l)

          most : (x : Receipt V) (d : Entry) → Among x (r ∷ xs) → IsLogged x d → weight x ≤ weight r
          most x d (inl same) l = let z : weight r ≡ weight x = ap (λ (y : Receipt V). weight y) same in omega arith
          most x d (inr a) l = let z : weight x < weight r = less x d a l in omega arith

  -- all of a thread's receipts are its own
  pub all_own : (t : ℕ) (xs : List (Receipt V)) → AreOwnMoves m inputs past t xs → (f : Receipt V) → Among f xs
      → f.step.thread ≡ t
  all_own t [] alone f here = absurd here
  all_own t (x ∷ xs) alone f (inl same) = sym (ap (λ (z : Receipt V). z.step.thread) same) ∙ alone.0
  all_own t (x ∷ xs) alone f (inr here) = all_own t xs alone.2 f here

  -- the receipts of a thread stand by weight
  pub thread_rises : (t : ℕ) → IsByWeight (rs t)
  thread_rises t = (rises t (rs t) (linked.alone t)
      (λ f a. subst (λ (u : ℕ). Among f (rs u)) (sym (all_own t (rs t) (linked.alone t) f a)) a)).1

  -- there are none of a thread that is not there
  pub beyond : (t : ℕ) → threads ≤ t → rs t ≡ []
  beyond t high = go (rs t) refl (all_own t (rs t) (linked.alone t))
    where
      go : (l : List (Receipt V)) → rs t ≡ l → ((f : Receipt V) → Among f (rs t) → f.step.thread ≡ t) → rs t ≡ []
      go [] is mine = is
      go (r ∷ rest) is mine =
          let here : Among r (rs t) = subst (λ (l : List (Receipt V)). Among r l) (sym is) (inl refl) in
          let of_t : r.step.thread ≡ t = mine r here in
          let low : r.step.thread < threads = linked.below r (subst (λ (u : ℕ). Among r (rs u)) (sym of_t) here) in
          absurd (omega (arith, of_t))
