-- The entries of a log that are in a closed set, in their order, are a log.
use Rattle.std.proofs.Common.{◌≡◌, ℕ, ◌+◌, ◌≢◌, Bool, true, false, IsTrue, List, [], ◌∷◌, ◌++◌, refl, sym, ap, ◌∙◌}
use Rattle.std.proofs.Common.{subst, inl, inr, ◌⊎◌, arith, cond}
use Rattle.std.specs.Prelude.{nat_eq}
use Rattle.std.proofs.lemmas.Bool.Decides.{nat_tests}
use Rattle.entry_order.specs.declared.what.What.{What}
use Rattle.entry_order.specs.declared.what.What.TheVariants.{Access, Read, Clock, Draw}
use Rattle.entry_order.specs.Log.{Entry, touches, entries, places, HasPlace, IsLog, IsIn, StandsBefore, IsClosed}
use Rattle.entry_order.specs.Stamps.{shares, binds}
use Rattle.entry_order.specs.Closed.{IsClosedOver}
use Rattle.entry_order.proofs.Order.{is_or, newest, next_stands}
use Rattle.entry_order.proofs.Positions.{closed_earlier, binds_thread, binds_variable}
use Rattle.entry_order.proofs.ClosedParts.{Or, in_or}

-- membership in two lists, one after another
pub in_left : (e : Entry) (xs ys : List Entry) → IsIn e xs → IsIn e (xs ++ ys)
in_left e [] ys h = absurd h
in_left e (x ∷ xs) ys (inl h) = inl h
in_left e (x ∷ xs) ys (inr h) = inr (in_left e xs ys h)

pub in_right : (e : Entry) (xs ys : List Entry) → IsIn e ys → IsIn e (xs ++ ys)
in_right e [] ys h = h
in_right e (x ∷ xs) ys h = inr (in_right e xs ys h)

pub in_either : (e : Entry) (xs ys : List Entry) → IsIn e (xs ++ ys) → IsIn e xs ⊎ IsIn e ys
in_either e [] ys h = inr h
in_either e (x ∷ xs) ys (inl h) = inl (inl h)
in_either e (x ∷ xs) ys (inr h) = go (in_either e xs ys h)
  where
    go : IsIn e xs ⊎ IsIn e ys → IsIn e (x ∷ xs) ⊎ IsIn e ys
    go (inl k) = inl (inr k)
    go (inr k) = inr k

-- the entries of the list that are in the set
abbrev kept_if : {P : Type 0} → Or P → Entry → List Entry → List Entry
kept_if (inl h) x rest = x ∷ rest
kept_if (inr h) x rest = rest

abbrev pub kept : List Entry → List Entry → List Entry
kept set [] = []
kept set (x ∷ later) = kept_if (in_or x set) x (kept set later)

pub kept_in : (set later : List Entry) (e : Entry) → IsIn e (kept set later) → IsIn e later × IsIn e set
kept_in set [] e here = absurd here
kept_in set (x ∷ later) e here = go (in_or x set) here (kept_in set later e)
  where
    old : IsIn e later × IsIn e set → IsIn e (x ∷ later) × IsIn e set
    old (a, b) = (inr a, b)

    go : (o : Or (IsIn x set)) → IsIn e (kept_if o x (kept set later))
        → (IsIn e (kept set later) → IsIn e later × IsIn e set) → IsIn e (x ∷ later) × IsIn e set
    go (inl h) (inl same) rest = (inl same, subst (λ (z : Entry). IsIn z set) same h)
    go (inl h) (inr k) rest = old (rest k)
    go (inr h) k rest = old (rest k)

pub in_kept : (set later : List Entry) (e : Entry) → IsIn e later → IsIn e set → IsIn e (kept set later)
in_kept set [] e here h = absurd here
in_kept set (x ∷ later) e here h = go (in_or x set) here (λ k. in_kept set later e k h)
  where
    go : (o : Or (IsIn x set)) → IsIn e (x ∷ later) → (IsIn e later → IsIn e (kept set later))
        → IsIn e (kept_if o x (kept set later))
    go (inl k) (inl same) rest = inl same
    go (inl k) (inr i) rest = inr (rest i)
    go (inr k) (inl same) rest = absurd (k (subst (λ (z : Entry). IsIn z set) (sym same) h))
    go (inr k) (inr i) rest = rest i

-- Counts are kept, where all that they count is.
entries_kept : (t : ℕ) (set later past : List Entry) → ((e : Entry) → IsIn e later → e.thread ≡ t → IsIn e set)
    → entries t (kept set later ++ past) ≡ entries t (later ++ past)
entries_kept t set [] past all = refl
entries_kept t set (x ∷ later) past all =
    go (in_or x set) (is_or x.thread t) (entries_kept t set later past (λ e h. all e (inr h)))
  where
    go : (o : Or (IsIn x set)) → (x.thread ≡ t) ⊎ (x.thread ≢ t)
        → entries t (kept set later ++ past) ≡ entries t (later ++ past)
        → entries t (kept_if o x (kept set later) ++ past) ≡ entries t (x ∷ (later ++ past))
    go (inl h) b same = ap (λ (n : ℕ). cond (nat_eq x.thread t) (n + 1) n) same
    go (inr h) (inl th) same = absurd (h (all x (inl refl) th))
    go (inr h) (inr ne) same = let k : nat_eq x.thread t ≡ false = grind (arith, nat_tests) in rw k same

places_kept : (v : ℕ) (set later past : List Entry)
    → ((e : Entry) → IsIn e later → touches v e.what ≡ true → IsIn e set)
    → places v (kept set later ++ past) ≡ places v (later ++ past)
places_kept v set [] past all = refl
places_kept v set (x ∷ later) past all =
    go (in_or x set) (touches v x.what) refl (places_kept v set later past (λ e h. all e (inr h)))
  where
    go : (o : Or (IsIn x set)) → (b : Bool) → touches v x.what ≡ b
        → places v (kept set later ++ past) ≡ places v (later ++ past)
        → places v (kept_if o x (kept set later) ++ past) ≡ places v (x ∷ (later ++ past))
    go (inl h) b is same = ap (λ (n : ℕ). cond (touches v x.what) (n + 1) n) same
    go (inr h) true is same = absurd (h (all x (inl refl) is))
    go (inr h) false is same = rw is same

-- what is in the past is not new
not_new : (x : Entry) (later past : List Entry) → IsLog (x ∷ (later ++ past)) → IsIn x past → ⊥
not_new x later past good here = newest (later ++ past) x good (in_right x later past here)

-- what stands before an entry of the past is of the past
pub before_past : (later past : List Entry) (e f : Entry) → IsLog (later ++ past) → StandsBefore (later ++ past) e f
    → IsIn f past → IsIn e past
before_past [] past e f good b here = go past b
  where
    go : (log : List Entry) → StandsBefore log e f → IsIn e log
    go [] b = absurd b
    go (x ∷ log) (inl h) = inr h.1
    go (x ∷ log) (inr h) = inr (go log h)
before_past (x ∷ later) past e f good (inl h) here =
    absurd (not_new x later past good (subst (λ (z : Entry). IsIn z past) (sym h.0) here))
before_past (x ∷ later) past e f good (inr h) here = before_past later past e f good.2 h here

-- no entry is both of the past and later
pub apart : (later past : List Entry) (e : Entry) → IsLog (later ++ past) → IsIn e later → IsIn e past → ⊥
apart [] past e good a b = a
apart (x ∷ later) past e good (inl same) b = not_new x later past good (subst (λ (z : Entry). IsIn z past) (sym same) b)
apart (x ∷ later) past e good (inr h) b = apart later past e good.2 h b

-- a touch shares its variable with a touch or a read of it
touch_shares : (v s : ℕ) (w : What) → touches v w ≡ true → shares (Access v s) w ≡ true
touch_shares v s (Access u r) h = grind (arith, nat_tests)
touch_shares v s (Read u r) h = absurd (cc)
touch_shares v s (Clock a) h = absurd (cc)
touch_shares v s (Draw a) h = absurd (cc)

pub kept_log : (set later past : List Entry) → IsLog (later ++ past) → IsClosedOver (later ++ past) past set
    → IsLog (kept set later ++ past)
kept_log set [] past good closed = good
kept_log set (x ∷ later) past good closed =
    go (in_or x set) (kept_log set later past good.2 (λ e f he hf n. closed e f (inr he) hf n))
  where
    log : List Entry
    log = x ∷ (later ++ past)

    -- the set and the past together are closed
    whole : IsClosed (x ∷ (later ++ past)) (kept set (x ∷ later) ++ past)
    whole e f he hf n = from (in_either f (kept set (x ∷ later)) past hf) (in_either e (x ∷ later) past he)
      where
        from : IsIn f (kept set (x ∷ later)) ⊎ IsIn f past → IsIn e (x ∷ later) ⊎ IsIn e past
            → IsIn e (kept set (x ∷ later) ++ past)
        from a (inr b) = in_right e (kept set (x ∷ later)) past b
        from (inr a) (inl b) = in_right e (kept set (x ∷ later)) past (before_past (x ∷ later) past e f good
            (next_stands (x ∷ (later ++ past)) e f good he (in_right f (x ∷ later) past a) n) a)
        from (inl a) (inl b) = there (closed e f he (kept_in set (x ∷ later) f a).1 n)
          where
            there : IsIn e set ⊎ IsIn e past → IsIn e (kept set (x ∷ later) ++ past)
            there (inl h) = in_left e (kept set (x ∷ later)) past (in_kept set (x ∷ later) e b h)
            there (inr h) = in_right e (kept set (x ∷ later)) past h

    -- what the newest entry is bound to is of the set
    bound : IsIn x set → (e : Entry) → IsIn e later → IsTrue (binds x e) → IsIn e set
    bound hx e here b = pick (in_either e (kept set (x ∷ later)) past
        (closed_earlier (x ∷ (later ++ past)) (kept set (x ∷ later) ++ past) e x good whole
        (in_left x (kept set (x ∷ later)) past (in_kept set (x ∷ later) x (inl refl) hx))
        (inl (refl, in_left e later past here)) b))
      where
        pick : IsIn e (kept set (x ∷ later)) ⊎ IsIn e past → IsIn e set
        pick (inl h) = (kept_in set (x ∷ later) e h).1
        pick (inr h) = absurd (apart later past e good.2 here h)

    placed : IsIn x set → HasPlace (kept set later ++ past) x.what
    placed hx = (
      (λ v s w.
          good.1.0 v s w
          ∙ ap (λ (n : ℕ). n + 1) (sym (places_kept v set later past (λ e h t. bound hx e h
          (binds_variable e x (subst (λ (c : What). shares c e.what ≡ true) (sym w) (touch_shares v s e.what t))))))),
      (λ v s w.
          good.1.1 v s w
          ∙ sym (places_kept v set later past
          (λ e h t. bound hx e h (binds_variable e x (subst (λ (c : What). shares c e.what ≡ true) (sym w) t))))),
    )

    go : (o : Or (IsIn x set)) → IsLog (kept set later ++ past) → IsLog (kept_if o x (kept set later) ++ past)
    go (inl h) rest = (
      good.0
          ∙ ap (λ (n : ℕ). n + 1)
          (sym (entries_kept x.thread set later past (λ e i th. bound h e i (binds_thread e x th)))),
      placed h,
      rest,
    )
    go (inr h) rest = rest
