-- One more entry after a past, before what is still to come.
use Rattle.std.proofs.Common.{◌≡◌, ℕ, ◌+◌, ◌≢◌, List, [], ◌∷◌, ◌++◌, append_assoc, refl, sym, ap, ◌∙◌, subst, inl, inr}
use Rattle.std.proofs.Common.{◌⊎◌, cond}
use Rattle.std.specs.Prelude.{nat_eq}
use Rattle.entry_order.specs.declared.what.What.TheVariants.{Access, Read}
use Rattle.entry_order.specs.Log.{Entry, touches, entries, places, IsLog, IsIn, StandsBefore, IsNext, IsClosed, Keeps}
use Rattle.entry_order.proofs.Order.{newest, next_stands, before_in, places_step, entries_step}
use Rattle.entry_order.proofs.KeptEntries.{in_left, in_right, in_either}
use Rattle.entry_order.proofs.ClosedParts.{Or, in_or}
use Rattle.recovery_world.specs.FromPlainMachine.{IsArranged}
use Rattle.recovery_world.proofs.FromPlainMachine.{arranged_log}

-- a log stands arranged
pub log_arranged : (more past : List Entry) → IsLog (more ++ past) → IsArranged more
log_arranged [] past good = tt
log_arranged (x ∷ more) past good = (
  (λ h. newest (more ++ past) x good (in_left x more past h)),
  (λ f h n. not_old f h (next_stands (x ∷ (more ++ past)) x f good (inl refl) (inr (in_left f more past h)) n)),
  log_arranged more past good.2,
)
  where
    not_old : (f : Entry) → IsIn f more → (((x ≡ f) × IsIn x (more ++ past)) ⊎ StandsBefore (more ++ past) x f) → ⊥
    not_old f h (inl k) = newest (more ++ past) x good k.1
    not_old f h (inr k) = newest (more ++ past) x good (before_in (more ++ past) x f k).0

-- the newest entry is no immediate predecessor of an older one
pub newest_not_next : (x : Entry) (log : List Entry) (f : Entry) → IsLog (x ∷ log) → IsIn f log → IsNext x f → ⊥
newest_not_next x log f good here n = go (next_stands (x ∷ log) x f good (inl refl) (inr here) n)
  where
    go : (((x ≡ f) × IsIn x log) ⊎ StandsBefore log x f) → ⊥
    go (inl k) = newest log x good k.1
    go (inr k) = newest log x good (before_in log x f k).0

-- The entry has nothing to do with those still to come: none is of its thread, nor on its variable where one is a
-- touch.
pub record IsFree (e : Entry) (more : List Entry) : Type 0 where
  pub thread : (f : Entry) → IsIn f more → f.thread ≡ e.thread → ⊥
  pub touches : (f : Entry) (v s r : ℕ) → IsIn f more → e.what ≡ Access v s → f.what ≡ Access v r → ⊥
  pub reads : (f : Entry) (v s r : ℕ) → IsIn f more → e.what ≡ Access v s → f.what ≡ Read v r → ⊥
  pub read : (f : Entry) (v s r : ℕ) → IsIn f more → e.what ≡ Read v s → f.what ≡ Access v r → ⊥

pub free_tail : (e x : Entry) (more : List Entry) → IsFree e (x ∷ more) → IsFree e more
free_tail e x more h = record {
  thread = λ f i. h.thread f (inr i);
  touches = λ f v s r i. h.touches f v s r (inr i);
  reads = λ f v s r i. h.reads f v s r (inr i);
  read = λ f v s r i. h.read f v s r (inr i);
}

pub free_not_next : (e : Entry) (more : List Entry) (f : Entry) → IsFree e more → IsIn f more → IsNext e f → ⊥
free_not_next e more f h here (inl n) = h.thread f here (sym n.0)
free_not_next e more f h here (inr (inl n)) = h.touches f n.0 n.1 (n.1 + 1) here n.2 n.3
free_not_next e more f h here (inr (inr (inl n))) = h.reads f n.0 n.1 n.1 here n.2 n.3
free_not_next e more f h here (inr (inr (inr n))) = h.read f n.0 n.1 (n.1 + 1) here n.2 n.3

-- counts where an entry is put in that they do not count
entries_in : (t : ℕ) (e : Entry) (more past : List Entry) → (t ≡ e.thread → ⊥)
    → entries t (more ++ e ∷ past) ≡ entries t (more ++ past)
entries_in t e [] past ne = go (entries_step t e past)
  where
    go : ((entries t (e ∷ past) ≡ entries t past) × (e.thread ≢ t))
        ⊎ ((e.thread ≡ t) × (entries t (e ∷ past) ≡ entries t past + 1)) → entries t (e ∷ past) ≡ entries t past
    go (inl k) = k.0
    go (inr k) = absurd (ne (sym k.0))
entries_in t e (x ∷ more) past ne = ap (λ (n : ℕ). cond (nat_eq x.thread t) (n + 1) n) (entries_in t e more past ne)

places_in : (v : ℕ) (e : Entry) (more past : List Entry) → ((s : ℕ) → e.what ≡ Access v s → ⊥)
    → places v (more ++ e ∷ past) ≡ places v (more ++ past)
places_in v e [] past ne = go (places_step v e past)
  where
    go : (places v (e ∷ past) ≡ places v past)
        ⊎ ((s : ℕ) × (e.what ≡ Access v s) × (places v (e ∷ past) ≡ places v past + 1))
        → places v (e ∷ past) ≡ places v past
    go (inl k) = k
    go (inr k) = absurd (ne k.0 k.1)
places_in v e (x ∷ more) past ne = ap (λ (n : ℕ). cond (touches v x.what) (n + 1) n) (places_in v e more past ne)

-- A free entry goes before what is still to come.
pub free_log : (e : Entry) (more past : List Entry) → IsLog (more ++ past) → IsLog (e ∷ past) → IsFree e more
    → IsLog (more ++ e ∷ past)
free_log e [] past good good_e h = good_e
free_log e (x ∷ more) past good good_e h = (
  good.0 ∙ ap (λ (n : ℕ). n + 1) (sym (entries_in x.thread e more past (h.thread x (inl refl)))),
  (
    (λ v s w.
        good.1.0 v s w
        ∙ ap (λ (n : ℕ). n + 1) (sym (places_in v e more past (λ r k. h.touches x v r s (inl refl) k w)))),
    (λ v s w. good.1.1 v s w ∙ sym (places_in v e more past (λ r k. h.reads x v r s (inl refl) k w))),
  ),
  free_log e more past good.2 good_e (free_tail e x more h),
)

-- a set that is closed with what is to come stays closed with a free entry
pub free_closed : (e : Entry) (more past set : List Entry) → IsLog (e ∷ past) → IsFree e more → Keeps (more ++ past) set
    → IsClosed (more ++ past) set → IsClosed (more ++ e ∷ past) set
free_closed e more past set good h here closed g f hg hf n =
    go (in_either g more (e ∷ past) hg) (in_either f more past (here f hf))
  where
    go : IsIn g more ⊎ ((e ≡ g) ⊎ IsIn g past) → IsIn f more ⊎ IsIn f past → IsIn g set
    go (inl k) b = closed g f (in_left g more past k) hf n
    go (inr (inr k)) b = closed g f (in_right g more past k) hf n
    go (inr (inl same)) (inl k) = absurd (free_not_next e more f h k (subst (λ (z : Entry). IsNext z f) (sym same) n))
    go (inr (inl same)) (inr k) =
        absurd (newest_not_next e past f good k (subst (λ (z : Entry). IsNext z f) (sym same) n))

-- the entries without one of them
abbrev without_if : {P : Type 0} → Or P → Entry → List Entry → List Entry
without_if (inl h) x rest = rest
without_if (inr h) x rest = x ∷ rest

abbrev pub without : Entry → List Entry → List Entry
without f [] = []
without f (x ∷ xs) = without_if (in_or x (f ∷ [])) x (without f xs)

pub without_in : (f : Entry) (xs : List Entry) (e : Entry) → IsIn e (without f xs) → IsIn e xs × (f ≡ e → ⊥)
without_in f [] e h = absurd h
without_in f (x ∷ xs) e h = go (in_or x (f ∷ [])) h (without_in f xs e)
  where
    go : (o : Or (IsIn x (f ∷ []))) → IsIn e (without_if o x (without f xs))
        → (IsIn e (without f xs) → IsIn e xs × (f ≡ e → ⊥)) → IsIn e (x ∷ xs) × (f ≡ e → ⊥)
    go (inl k) h rest = (inr (rest h).0, (rest h).1)
    go (inr k) (inl same) rest = (inl same, λ q. k (inl (q ∙ sym same)))
    go (inr k) (inr h) rest = (inr (rest h).0, (rest h).1)

pub in_without : (f : Entry) (xs : List Entry) (e : Entry) → IsIn e xs → (f ≡ e → ⊥) → IsIn e (without f xs)
in_without f [] e h ne = absurd h
in_without f (x ∷ xs) e h ne = go (in_or x (f ∷ [])) h (λ k. in_without f xs e k ne)
  where
    same_one : IsIn x (f ∷ []) → f ≡ x
    same_one (inl k) = k
    same_one (inr k) = absurd k

    go : (o : Or (IsIn x (f ∷ []))) → IsIn e (x ∷ xs) → (IsIn e xs → IsIn e (without f xs))
        → IsIn e (without_if o x (without f xs))
    go (inl k) (inl same) rest = absurd (ne (same_one k ∙ same))
    go (inl k) (inr h) rest = rest h
    go (inr k) (inl same) rest = inl same
    go (inr k) (inr h) rest = inr (rest h)

arranged_without : (f : Entry) (xs : List Entry) → IsArranged xs → IsArranged (without f xs)
arranged_without f [] a = a
arranged_without f (x ∷ xs) a = go (in_or x (f ∷ [])) (arranged_without f xs a.2) a
  where
    go : (o : Or (IsIn x (f ∷ []))) → IsArranged (without f xs) → IsArranged (x ∷ xs)
        → IsArranged (without_if o x (without f xs))
    go (inl k) rest a = rest
    go (inr k) rest a = ((λ h. a.0 (without_in f xs x h).0), (λ g h n. a.1 g (without_in f xs g h).0 n), rest)

arranged_last : (xs : List Entry) (f : Entry) → IsArranged xs → (IsIn f xs → ⊥)
    → ((g : Entry) → IsIn g xs → IsNext g f → ⊥) → IsArranged (xs ++ f ∷ [])
arranged_last [] f a out first = ((λ h. h), (λ g h n. h), tt)
arranged_last (x ∷ xs) f a out first = (
  (λ h. old x (inl refl) (in_either x xs (f ∷ []) h)),
  (λ g h n. next g n (in_either g xs (f ∷ []) h)),
  arranged_last xs f a.2 (λ h. out (inr h)) (λ g h n. first g (inr h) n),
)
  where
    old : (z : Entry) → IsIn z (x ∷ []) → IsIn x xs ⊎ IsIn x (f ∷ []) → ⊥
    old z k (inl h) = a.0 h
    old z k (inr (inl same)) = out (inl (sym same))
    old z k (inr (inr h)) = h

    next : (g : Entry) → IsNext x g → IsIn g xs ⊎ IsIn g (f ∷ []) → ⊥
    next g n (inl h) = a.1 g h n
    next g n (inr (inl same)) = first x (inl refl) (subst (λ (z : Entry). IsNext x z) (sym same) n)
    next g n (inr (inr h)) = h

-- The first of what is to come goes before the others.
pub first_log : (f : Entry) (more past : List Entry) → IsLog (more ++ past) → IsIn f more
    → ((g : Entry) → IsIn g more → IsNext g f → ⊥) → IsLog (without f more ++ f ∷ past)
first_log f more past good here first =
    subst (λ (l : List Entry). IsLog l) (append_assoc (without f more) (f ∷ []) past)
    (arranged_log (without f more ++ f ∷ []) more past good sub sup
    (arranged_last (without f more) f (arranged_without f more (log_arranged more past good))
    (λ h. (without_in f more f h).1 refl) (λ g h n. first g (without_in f more g h).0 n)))
  where
    sub : (e : Entry) → IsIn e (without f more ++ f ∷ []) → IsIn e more
    sub e h = go (in_either e (without f more) (f ∷ []) h)
      where
        go : IsIn e (without f more) ⊎ IsIn e (f ∷ []) → IsIn e more
        go (inl k) = (without_in f more e k).0
        go (inr (inl same)) = subst (λ (z : Entry). IsIn z more) same here
        go (inr (inr k)) = absurd k

    sup : (e : Entry) → IsIn e more → IsIn e (without f more ++ f ∷ [])
    sup e h = go (in_or f (e ∷ []))
      where
        go : Or (IsIn f (e ∷ [])) → IsIn e (without f more ++ f ∷ [])
        go (inl (inl same)) = in_right e (without f more) (f ∷ []) (inl (sym same))
        go (inl (inr k)) = absurd k
        go (inr k) = in_left e (without f more) (f ∷ []) (in_without f more e h (λ q. k (inl (sym q))))

-- and the members are the same
pub first_in : (f : Entry) (more past : List Entry) (e : Entry) → IsIn f more → IsIn e (without f more ++ f ∷ past)
    → IsIn e (more ++ past)
first_in f more past e here h = go (in_either e (without f more) (f ∷ past) h)
  where
    go : IsIn e (without f more) ⊎ ((f ≡ e) ⊎ IsIn e past) → IsIn e (more ++ past)
    go (inl k) = in_left e more past (without_in f more e k).0
    go (inr (inl same)) = in_left e more past (subst (λ (z : Entry). IsIn z more) same here)
    go (inr (inr k)) = in_right e more past k

pub in_first : (f : Entry) (more past : List Entry) (e : Entry) → IsIn e (more ++ past)
    → IsIn e (without f more ++ f ∷ past)
in_first f more past e h = go (in_or f (e ∷ [])) (in_either e more past h)
  where
    go : Or (IsIn f (e ∷ [])) → IsIn e more ⊎ IsIn e past → IsIn e (without f more ++ f ∷ past)
    go a (inr k) = in_right e (without f more) (f ∷ past) (inr k)
    go (inl (inl same)) (inl k) = in_right e (without f more) (f ∷ past) (inl (sym same))
    go (inl (inr j)) b = absurd j
    go (inr j) (inl k) = in_left e (without f more) (f ∷ past) (in_without f more e k (λ q. j (inl (sym q))))
