-- The later entries of a log, in any order in which each stands after its immediate predecessors, are a log after that
-- past.
use Rattle.std.proofs.Common.{◌≡◌, ℕ, ◌+◌, ◌-◌, ◌≤◌, ◌<◌, ◌≢◌, List, [], ◌∷◌, ◌++◌, refl, sym, ap, ◌∙◌, subst, inl, inr}
use Rattle.std.proofs.Common.{◌⊎◌, arith}
use Rattle.std.proofs.lemmas.Bool.{cases_lt}
use Rattle.entry_order.specs.declared.what.What.TheVariants.{Access, Read}
use Rattle.entry_order.specs.Log.{Entry, entries, places, HasPlace, IsLog, IsIn, IsNext}
use Rattle.entry_order.specs.Closed.{IsClosedOver}
use Rattle.entry_order.proofs.Order.{is_or, next_stands, number_within, place_within, read_within, entry_there}
use Rattle.entry_order.proofs.Order.{touch_there, same_number, same_place}
use Rattle.entry_order.proofs.KeptEntries.{in_left, in_right, in_either, before_past, apart, kept, kept_in, in_kept}
use Rattle.entry_order.proofs.KeptEntries.{kept_log}
use Rattle.plain_machine.specs.Line.{IsArranged}

-- what stands behind is a log
pub tail_log : (later past : List Entry) → IsLog (later ++ past) → IsLog past
tail_log [] past good = good
tail_log (x ∷ later) past good = tail_log later past good.2

-- an immediate predecessor of an entry of the past is of the past
pub next_past : (later past : List Entry) (e f : Entry) → IsLog (later ++ past) → IsIn e (later ++ past) → IsIn f past
    → IsNext e f → IsIn e past
next_past later past e f good he hf n =
    before_past later past e f good (next_stands (later ++ past) e f good he (in_right f later past hf) n) hf

-- entries that follow a log are one more where its number and place are the next
module _ (x : Entry) (rest later past : List Entry) (good : IsLog (later ++ past)) (before : IsLog (rest ++ past))
    (x_in : IsIn x later) (out : IsIn x rest → ⊥) (last : (f : Entry) → IsIn f rest → IsNext x f → ⊥)
    (sub : (e : Entry) → IsIn e rest → IsIn e later) (sup : (e : Entry) → IsIn e later → (x ≡ e) ⊎ IsIn e rest) where
  x_full : IsIn x (later ++ past)
  x_full = in_left x later past x_in

  to_full : (g : Entry) → IsIn g (rest ++ past) → IsIn g (later ++ past)
  to_full g h = go (in_either g rest past h)
    where
      go : IsIn g rest ⊎ IsIn g past → IsIn g (later ++ past)
      go (inl a) = in_left g later past (sub g a)
      go (inr a) = in_right g later past a

  to_less : (g : Entry) → IsIn g (later ++ past) → (x ≡ g → ⊥) → IsIn g (rest ++ past)
  to_less g h ne = go (in_either g later past h)
    where
      pick : (x ≡ g) ⊎ IsIn g rest → IsIn g (rest ++ past)
      pick (inl k) = absurd (ne k)
      pick (inr k) = in_left g rest past k

      go : IsIn g later ⊎ IsIn g past → IsIn g (rest ++ past)
      go (inl a) = pick (sup g a)
      go (inr a) = in_right g rest past a

  not_less : IsIn x (rest ++ past) → ⊥
  not_less h = go (in_either x rest past h)
    where
      go : IsIn x rest ⊎ IsIn x past → ⊥
      go (inl a) = out a
      go (inr a) = apart later past x good x_in a

  not_before : (g : Entry) → IsIn g (rest ++ past) → IsNext x g → ⊥
  not_before g h n = go (in_either g rest past h)
    where
      go : IsIn g rest ⊎ IsIn g past → ⊥
      go (inl a) = last g a n
      go (inr a) = apart later past x good x_in (next_past later past x g good x_full a n)

  numbered : x.number ≡ entries x.thread (rest ++ past) + 1
  numbered = go (cases_lt (entries x.thread (rest ++ past)) x.number) (is_or x.number 1)
    where
      w : (1 ≤ x.number) × (x.number ≤ entries x.thread (later ++ past))
      w = number_within (later ++ past) x good x_full

      go : (entries x.thread (rest ++ past) < x.number) ⊎ (x.number ≤ entries x.thread (rest ++ past))
          → (x.number ≡ 1) ⊎ (x.number ≢ 1) → x.number ≡ entries x.thread (rest ++ past) + 1
      go (inr k) b =
          let g = entry_there (rest ++ past) x.thread x.number before w.0 k in
          absurd (not_less (subst (λ (z : Entry). IsIn z (rest ++ past))
          (same_number (later ++ past) g.0 x good (to_full g.0 g.1) x_full g.2 g.3) g.1))
      go (inl k) (inl b) = omega arith
      go (inl k) (inr b) =
          let g = entry_there (later ++ past) x.thread (x.number - 1) good (omega (arith, w)) (omega (arith, w)) in
          let h : IsIn g.0 (rest ++ past) = to_less g.0 g.1 (λ s.
          let q : x.number ≡ g.0.number = ap (λ (z : Entry). z.number) s in absurd (omega (arith, q, g.3, w, b))) in
          let n : (1 ≤ g.0.number) × (g.0.number ≤ entries g.0.thread (rest ++ past)) =
          number_within (rest ++ past) g.0 before h in
          let t : entries g.0.thread (rest ++ past) ≡ entries x.thread (rest ++ past) =
          ap (λ (u : ℕ). entries u (rest ++ past)) g.2 in
          omega (arith, n, t, g.3, w, k)

  placed : HasPlace (rest ++ past) x.what
  placed = (touch, look)
    where
      touch : (v s : ℕ) → x.what ≡ Access v s → s ≡ places v (rest ++ past) + 1
      touch v s w = go (cases_lt (places v (rest ++ past)) s) (is_or s 1)
        where
          p : (1 ≤ s) × (s ≤ places v (later ++ past))
          p = place_within (later ++ past) x v s good x_full w

          go : (places v (rest ++ past) < s) ⊎ (s ≤ places v (rest ++ past)) → (s ≡ 1) ⊎ (s ≢ 1)
              → s ≡ places v (rest ++ past) + 1
          go (inr k) b =
              let g = touch_there (rest ++ past) v s before p.0 k in
              absurd (not_less (subst (λ (z : Entry). IsIn z (rest ++ past))
              (same_place (later ++ past) g.0 x v s good (to_full g.0 g.1) x_full g.2 w) g.1))
          go (inl k) (inl b) = omega arith
          go (inl k) (inr b) =
              let g = touch_there (later ++ past) v (s - 1) good (omega (arith, p)) (omega (arith, p)) in
              let h : IsIn g.0 (rest ++ past) = to_less g.0 g.1 (λ e.
              let q : Access v s ≡ Access v (s - 1) = sym w ∙ (ap (λ (z : Entry). z.what) e ∙ g.2) in
              let r : s ≡ s - 1 = cc in absurd (omega (arith, r, p))) in
              let n : (1 ≤ s - 1) × (s - 1 ≤ places v (rest ++ past)) =
              place_within (rest ++ past) g.0 v (s - 1) before h g.2 in
              omega (arith, n, p, k)

      look : (v s : ℕ) → x.what ≡ Read v s → s ≡ places v (rest ++ past)
      look v s w = go (cases_lt s (places v (rest ++ past))) (is_or s 0)
        where
          p : s ≤ places v (later ++ past)
          p = read_within (later ++ past) x v s good x_full w

          go : (s < places v (rest ++ past)) ⊎ (places v (rest ++ past) ≤ s) → (s ≡ 0) ⊎ (s ≢ 0)
              → s ≡ places v (rest ++ past)
          go (inl k) b =
              let g = touch_there (rest ++ past) v (s + 1) before (omega arith) (omega (arith, k)) in
              absurd (not_before g.0 g.1 (inr (inr (inr (v, s, w, g.2)))))
          go (inr k) (inl b) = omega arith
          go (inr k) (inr b) =
              let g = touch_there (later ++ past) v s good (omega (arith, b)) p in
              let h : IsIn g.0 (rest ++ past) = to_less g.0 g.1
              (λ e. let q : Read v s ≡ Access v s = sym w ∙ (ap (λ (z : Entry). z.what) e ∙ g.2) in absurd (cc)) in
              let n : (1 ≤ s) × (s ≤ places v (rest ++ past)) = place_within (rest ++ past) g.0 v s before h g.2 in
              omega (arith, n, k)

  pub one_more : IsLog (x ∷ (rest ++ past))
  one_more = (numbered, placed, before)

-- the rest of an arrangement is closed over the past
arranged_closed : (x : Entry) (rest later past : List Entry) → ((f : Entry) → IsIn f rest → IsNext x f → ⊥)
    → ((e : Entry) → IsIn e later → (x ≡ e) ⊎ IsIn e rest) → IsClosedOver (later ++ past) past rest
arranged_closed x rest later past last sup e f he hf n = go (in_either e later past he)
  where
    pick : (x ≡ e) ⊎ IsIn e rest → IsIn e rest ⊎ IsIn e past
    pick (inl same) = absurd (last f hf (subst (λ (z : Entry). IsNext z f) (sym same) n))
    pick (inr h) = inl h

    go : IsIn e later ⊎ IsIn e past → IsIn e rest ⊎ IsIn e past
    go (inl h) = pick (sup e h)
    go (inr h) = inr h

-- An arrangement of the later entries of a log is a log after the past.
pub arranged_log : (more later past : List Entry) → IsLog (later ++ past) → ((e : Entry) → IsIn e more → IsIn e later)
    → ((e : Entry) → IsIn e later → IsIn e more) → IsArranged more → IsLog (more ++ past)
arranged_log [] later past good sub sup arr = tail_log later past good
arranged_log (x ∷ rest) later past good sub sup arr =
    one_more x rest later past good
    (arranged_log rest (kept rest later) past
    (kept_log rest later past good (arranged_closed x rest later past arr.1 sup))
    (λ e h. in_kept rest later e (sub e (inr h)) h) (λ e h. (kept_in rest later e h).1) arr.2) (sub x (inl refl)) arr.0
    arr.1 (λ e h. sub e (inr h)) sup
