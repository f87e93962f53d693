-- One more waiting output goes.
use Rattle.std.proofs.Common.{◌≡◌, ◌≢◌, ℕ, ◌<◌, ◌⊎◌, ◌↔◌, cond, List, [], ◌∷◌, ◌++◌, Some, None, IsSome, length, refl}
use Rattle.std.proofs.Common.{sym, ap, ◌∙◌, subst, inl, inr, ⊎_elim, arith}
use Rattle.std.specs.Ordering.{nat_cmp}
use Rattle.std.specs.List.Sorted.{IsStrictlySortedBy}
use Rattle.std.specs.Map.{keys_of, remove_entry}
use Rattle.std.specs.BTreeMap.{is_at}
use Rattle.std.proofs.lemmas.Bool.{cases_lt, cases_eq}
use Rattle.access_log.specs.declared.entry.Output.{Output}
use Rattle.dup_filter.specs.Numbers.{Numbers, no_numbers, IsMarked, HasRoom, WasMarked, IsAwaited}
use Rattle.dup_filter.proofs.NumberLemmas.{numbers_past}
use Rattle.output_logger.specs.Logger.{IsCalled, IsNamed, ReleasesOnce}
use Rattle.output_logger.specs.Kept.{arrived, IsReady, IsWaiting, HaveNames, PartsBy, IsNoted, Gone}
use Rattle.output_logger.proofs.KeyLemmas.{at_same, at_apart}
use Rattle.output_logger.proofs.NameLemmas.{named_append, apart_append}
use Rattle.output_logger.proofs.ArrivalLemmas.{ready_append, ready_in, ready_below, some_is, parts_none, parts_more}

-- room is kept only for the threads that there are
pub awaited_in : (released : List Numbers) (t n : ℕ) → IsAwaited released t n → t < length released
awaited_in released t n h = ⊎_elim (λ q. q)
    (λ past.
    let none : HasRoom no_numbers n = subst (λ (s : Numbers). HasRoom s n) (numbers_past released t past) h in
    absurd cc) (cases_lt t (length released))

noted_marked : (old new : List Numbers) (o : Output) → IsNoted old new o → (t n : ℕ)
    → WasMarked new t n ↔ (IsCalled t n o ⊎ WasMarked old t n)
noted_marked old new o is t n = (
  λ h. ⊎_elim
      (λ (same : o.thread ≡ t). ⊎_elim (λ q. inl (same, sym q)) (λ q. inr (subst (λ (u : ℕ). WasMarked old u n) same q))
      ((is.marks.marked n).0 (subst (λ (u : ℕ). WasMarked new u n) (sym same) h)))
      (λ (apart : o.thread ≢ t).
      let other : t ≢ o.thread = λ q. apart (sym q) in
      inr (subst (λ (s : Numbers). IsMarked s n) (is.others t other) h)) (cases_eq o.thread t),
  λ h. ⊎_elim
      (λ (same : o.thread ≡ t). subst (λ (u : ℕ). WasMarked new u n) same ((is.marks.marked n).1
      (⊎_elim (λ q. inl (sym q.1)) (λ q. inr (subst (λ (u : ℕ). WasMarked old u n) (sym same) q)) h)))
      (λ (apart : o.thread ≢ t).
      let other : t ≢ o.thread = λ q. apart (sym q) in
      ⊎_elim (λ q. absurd (apart q.0)) (λ q. subst (λ (s : Numbers). IsMarked s n) (sym (is.others t other)) q) h)
      (cases_eq o.thread t),
)

pub noted_awaited : (old new : List Numbers) (o : Output) → IsNoted old new o → (t n : ℕ)
    → IsAwaited new t n ↔ (IsAwaited old t n × (IsCalled t n o → ⊥))
noted_awaited old new o is t n = (
  λ h. ⊎_elim
      (λ (same : o.thread ≡ t).
      let q = (is.marks.room n).0 (subst (λ (u : ℕ). IsAwaited new u n) (sym same) h) in
      (subst (λ (u : ℕ). IsAwaited old u n) same q.0, λ called. q.1 (sym called.1)))
      (λ (apart : o.thread ≢ t).
      let other : t ≢ o.thread = λ q. apart (sym q) in
      (subst (λ (s : Numbers). HasRoom s n) (is.others t other) h, λ called. apart called.0)) (cases_eq o.thread t),
  λ h. ⊎_elim
      (λ (same : o.thread ≡ t). subst (λ (u : ℕ). IsAwaited new u n) same
      ((is.marks.room n).1 (subst (λ (u : ℕ). IsAwaited old u n) (sym same) h.0, λ q. h.1 (same, sym q))))
      (λ (apart : o.thread ≢ t).
      let other : t ≢ o.thread = λ q. apart (sym q) in
      subst (λ (s : Numbers). HasRoom s n) (sym (is.others t other)) h.0) (cases_eq o.thread t),
)

pub once_none : (released : List Numbers) → ReleasesOnce released released []
once_none released = record {
  fresh = λ t n h. absurd h;
  apart = tt;
  marked = λ t n. (λ h. inr h, λ h. ⊎_elim (λ q. absurd q) (λ q. q) h);
}

pub once_more : (first old new : List Numbers) (go : List Output) (o : Output) → ReleasesOnce first old go
    → IsNoted old new o → ReleasesOnce first new (go ++ o ∷ [])
once_more first old new go o once is =
    let fresh : (t n : ℕ) → IsNamed t n (o ∷ []) → WasMarked old t n → ⊥ = λ t n named was. ⊎_elim
    (λ called. is.fresh (subst (λ (k : ℕ). WasMarked old o.thread k) (sym called.1)
    (subst (λ (u : ℕ). WasMarked old u n) (sym called.0) was))) (λ none. none) named in
    record {
      fresh = λ t n named was. ⊎_elim (λ q. once.fresh t n q was) (λ q. fresh t n q ((once.marked t n).1 (inr was)))
          ((named_append t n go (o ∷ [])).0 named);
      apart =
          apart_append go (o ∷ []) once.apart (λ none. none, tt) (λ t n p q. fresh t n q ((once.marked t n).1 (inl p)));
      marked = λ t n. let both = named_append t n go (o ∷ []) in let step = noted_marked old new o is t n in (
        λ h. ⊎_elim (λ called. inl (both.1 (inr (inl called))))
            (λ was. ⊎_elim (λ q. inl (both.1 (inl q))) (λ q. inr q) ((once.marked t n).0 was)) (step.0 h),
        λ h. ⊎_elim
            (λ named. ⊎_elim (λ q. step.1 (inr ((once.marked t n).1 (inl q))))
            (λ q. ⊎_elim (λ called. step.1 (inl called)) (λ none. absurd none) q) (both.0 named))
            (λ was. step.1 (inr ((once.marked t n).1 (inr was)))) h,
      );
    }

pub gone_none : (outputs : List (ℕ × Output)) (released : List Numbers) → IsStrictlySortedBy nat_cmp (keys_of outputs)
    → ((t n : ℕ) → IsAwaited released t n ↔ IsWaiting outputs t n) → Gone outputs outputs released released [] []
gone_none outputs released sorted awaited = record {
  parts = parts_none (λ a. IsReady [] a) (λ a h. cc) outputs;
  stays = λ a o h. (h, λ r. cc);
  kept = λ a o h r. h;
  sorted = sorted;
  once = once_none released;
  awaited = awaited;
  threads = refl;
}

-- the look-ups after a removal
removed_apart : (old new : List (ℕ × Output)) (k : ℕ)
    → ((q : ℕ) → arrived new q ≡ cond (is_at (nat_cmp k) q) None (arrived old q)) → (a : ℕ) → a ≢ k
    → arrived new a ≡ arrived old a
removed_apart old new k found a apart = found a ∙ ap (λ b. cond b None (arrived old a)) (at_apart k a apart)

removed_here : (old new : List (ℕ × Output)) (k : ℕ)
    → ((q : ℕ) → arrived new q ≡ cond (is_at (nat_cmp k) q) None (arrived old q)) → arrived new k ≡ None
removed_here old new k found = found k ∙ ap (λ b. cond b None (arrived old k)) (at_same k)

removed_some : (old new : List (ℕ × Output)) (k : ℕ)
    → ((q : ℕ) → arrived new q ≡ cond (is_at (nat_cmp k) q) None (arrived old q)) → (a : ℕ) (o : Output)
    → arrived new a ≡ Some o → (a ≢ k) × (arrived old a ≡ Some o)
removed_some old new k found a o h =
    let apart : a ≢ k =
    λ same. let none = subst (λ (x : ℕ). arrived new x ≡ None) (sym same) (removed_here old new k found) in cc in
    (apart, sym (removed_apart old new k found a apart) ∙ h)

pub gone_more : (first old new : List (ℕ × Output)) (start before after : List Numbers) (ready : List ℕ)
    (go : List Output) (k : ℕ) (o : Output) → Gone first old start before ready go
    → IsStrictlySortedBy nat_cmp (keys_of first) → HaveNames first → ((a : ℕ) → IsReady ready a → a < k)
    → arrived old k ≡ Some o → new ≡ remove_entry (is_at (nat_cmp k)) old
    → ((q : ℕ) → arrived new q ≡ cond (is_at (nat_cmp k) q) None (arrived old q))
    → IsStrictlySortedBy nat_cmp (keys_of new) → IsNoted before after o → length after ≡ length before
    → Gone first new start after (ready ++ k ∷ []) (go ++ o ∷ [])
gone_more first old new start before after ready go k o gone sorted names below at removed found sorted_new noted same =
    let more = λ (a : ℕ). ready_append ready k a in
    let parts : PartsBy (λ a. IsReady (ready ++ k ∷ []) a) first (go ++ o ∷ []) (remove_entry (is_at (nat_cmp k)) old) =
    parts_more (λ a. IsReady ready a) (λ a. IsReady (ready ++ k ∷ []) a) k o first go old sorted below
    (λ a h. (more a).1 (inl h)) ((more k).1 (inr refl)) (λ a h. (more a).0 h) gone.parts at in
    let named_k : (t n : ℕ) (a : ℕ) (p : Output) → arrived old a ≡ Some p → IsCalled t n p → IsCalled t n o → a ≡ k =
    λ t n a p q called here.
    names a k p o (gone.stays a p q).0 (gone.stays k o at).0 (called.0 ∙ sym here.0) (called.1 ∙ sym here.1) in
    record {
      parts = subst (λ (l : List (ℕ × Output)). PartsBy (λ a. IsReady (ready ++ k ∷ []) a) first (go ++ o ∷ []) l)
          (sym removed) parts;
      stays = λ a p h.
          let q = removed_some old new k found a p h in
          let s = gone.stays a p q.1 in (s.0, λ r. ⊎_elim (λ was. s.1 was) (λ here. q.0 here) ((more a).0 r));
      kept = λ a p h none.
          let apart : a ≢ k = λ here. none ((more a).1 (inr here)) in
          removed_apart old new k found a apart ∙ gone.kept a p h (λ r. none ((more a).1 (inl r)));
      sorted = sorted_new;
      once = once_more start before after go o gone.once noted;
      awaited = λ t n. let step = noted_awaited before after o noted t n in (
        λ h.
            let q = step.0 h in
            let w = (gone.awaited t n).0 q.0 in
            let apart : w.0 ≢ k = λ here.
            let there = subst (λ (x : ℕ). arrived old x ≡ Some w.1) here w.2 in
            let is : w.1 ≡ o = (let both : Some w.1 ≡ Some o = sym there ∙ at in cc) in
            q.1 (subst (λ (p : Output). IsCalled t n p) is w.3) in
            (w.0, w.1, removed_apart old new k found w.0 apart ∙ w.2, w.3),
        λ w.
            let q = removed_some old new k found w.0 w.1 w.2 in
            step.1 ((gone.awaited t n).1 (w.0, w.1, q.1, w.3), λ here. q.0 (named_k t n w.0 w.1 q.1 w.3 here)),
      );
      threads = same ∙ gone.threads;
    }

-- the next ready one still waits, and those before it arrived earlier
pub still_waits : (first old : List (ℕ × Output)) (start before : List Numbers) (keys done rest : List ℕ)
    (go : List Output) (k : ℕ) → Gone first old start before done go → IsStrictlySortedBy nat_cmp keys
    → keys ≡ done ++ k ∷ rest → ((a : ℕ) → IsReady keys a → IsSome (arrived first a))
    → ((a : ℕ) → IsReady done a → a < k) × ((o : Output) × (arrived old k ≡ Some o))
still_waits first old start before keys done rest go k gone sorted is there =
    let below : (a : ℕ) → IsReady done a → a < k =
    ready_below done k rest (subst (λ (l : List ℕ). IsStrictlySortedBy nat_cmp l) is sorted) in
    let some =
    some_is (arrived first k) (there k (subst (λ (l : List ℕ). IsReady l k) (sym is) (ready_in done k rest))) in
    (below, (some.0, gone.kept k some.0 some.1 (λ r. let less = below k r in omega arith)))
