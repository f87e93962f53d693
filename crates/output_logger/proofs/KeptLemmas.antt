-- What is true of the parts of an output logger, as it takes entries and outputs.
use Rattle.std.proofs.Common.{◌≡◌, ◌≢◌, ℕ, ◌≤◌, ◌<◌, ◌⊎◌, ◌↔◌, true, cond, List, [], ◌∷◌, Option, Some, None, IsSome}
use Rattle.std.proofs.Common.{Result, Ok, Err, OnOk, OnErr, length, slice_index, refl, sym, ap, ◌∙◌, subst, inl, inr}
use Rattle.std.proofs.Common.{⊎_elim, arith}
use Rattle.std.specs.Result.{is_err}
use Rattle.std.specs.Ordering.{nat_cmp}
use Rattle.std.specs.List.Sorted.{IsStrictlySortedBy}
use Rattle.std.specs.Map.{keys_of, values_of}
use Rattle.std.proofs.lemmas.Bool.{cases_lt, cases_eq}
use Rattle.std.proofs.lemmas.Map.Keys.{sorted_tail}
use Rattle.plain_text.specs.declared.memory.NoMemory.{NoMemory}
use Rattle.access_log.specs.declared.entry.Output.{Output}
use Rattle.access_log.specs.declared.entry.Added.{Added}
use Rattle.access_log.specs.declared.entry.Added.TheVariants.{New, Known}
use Rattle.access_log.specs.declared.entry.StampedEntry.{StampedEntry}
use Rattle.access_log.specs.Held.{Lane, lane, entry_at, IsKnown}
use Rattle.access_log.specs.Lanes.{PutsEntry, CoversUpTo}
use Rattle.access_log.proofs.LaneLemmas.{lane_past, one_frontier, AtMost-IsWithin}
use Rattle.dup_filter.specs.Numbers.{Numbers, numbers, HasRoom, WasMarked, IsAwaited, Marks, KeepsRoom}
use Rattle.output_logger.specs.Logger.{Logger, IsDue, IsCalled, IsNamed, IsAmong, AreApart, Parts, appended}
use Rattle.output_logger.specs.Logger.{ReleasesOnce, ReleasesDue}
use Rattle.output_logger.specs.Reach.{AreFrontiers}
use Rattle.output_logger.specs.Kept.{arrived, IsReady, IsWaiting, IsIndexed, IndexesOnly, IsDueBy, HaveNames, PartsBy}
use Rattle.output_logger.specs.Kept.{Arrives, IsNoted, Gone, AreKept}
use Rattle.output_logger.proofs.KeyLemmas.{at_same, at_apart}
use Rattle.output_logger.proofs.ArrivalLemmas.{some_of, arrived_head, arrived_tail, arrived_above}
use Rattle.output_logger.proofs.ReachLemmas.{not_covered}
use Rattle.output_logger.proofs.NameLemmas.{appended_none}
use Rattle.output_logger.proofs.GoneLemmas.{noted_awaited, once_none, once_more}

abbrev Arrivals : Type 0
Arrivals = List (ℕ × Output)

-- The list of the waiting outputs, and the look-ups

later : (e : ℕ × Output) (es : Arrivals) → IsStrictlySortedBy nat_cmp (keys_of (e ∷ es)) → (a : ℕ) (o : Output)
    → arrived es a ≡ Some o → arrived (e ∷ es) a ≡ Some o
later e es sorted a o h =
    let above = arrived_above e es sorted a o h in
    let apart : a ≢ e.0 = λ q. omega arith in arrived_tail e es a apart ∙ h

tail_of : (e : ℕ × Output) (es : Arrivals) → IsStrictlySortedBy nat_cmp (keys_of (e ∷ es))
    → IsStrictlySortedBy nat_cmp (keys_of es)
tail_of e es sorted = sorted_tail nat_cmp e.0 (keys_of es) sorted

pub waiting_named : (es : Arrivals) → IsStrictlySortedBy nat_cmp (keys_of es) → (t n : ℕ)
    → IsWaiting es t n ↔ IsNamed t n (values_of es)
waiting_named [] sorted t n = (λ w. let none = w.2 in absurd cc, λ h. absurd h)
waiting_named (e ∷ es) sorted t n =
    let rest = waiting_named es (tail_of e es sorted) t n in (
      λ w. ⊎_elim
          (λ (same : w.0 ≡ e.0).
          let here = subst (λ (x : ℕ). arrived (e ∷ es) x ≡ Some w.1) same w.2 in
          let is : w.1 ≡ e.1 = (let both : Some e.1 ≡ Some w.1 = sym (arrived_head e es) ∙ here in cc) in
          inl (subst (λ (p : Output). IsCalled t n p) is w.3))
          (λ (apart : w.0 ≢ e.0). inr (rest.0 (w.0, w.1, sym (arrived_tail e es w.0 apart) ∙ w.2, w.3)))
          (cases_eq w.0 e.0),
      λ h. ⊎_elim (λ called. (e.0, e.1, arrived_head e es, called))
          (λ named. let w = rest.1 named in (w.0, w.1, later e es sorted w.0 w.1 w.2, w.3)) h,
    )

pub waiting_among : (es : Arrivals) → IsStrictlySortedBy nat_cmp (keys_of es) → (o : Output) → IsAmong o (values_of es)
    → (a : ℕ) × (arrived es a ≡ Some o)
waiting_among [] sorted o h = absurd h
waiting_among (e ∷ es) sorted o h =
    ⊎_elim
    (λ (same : e.1 ≡ o). (e.0, arrived_head e es ∙ ap Some same))
    (λ among. let w = waiting_among es (tail_of e es sorted) o among in (w.0, later e es sorted w.0 o w.1))
    h

pub waiting_apart : (es : Arrivals) → IsStrictlySortedBy nat_cmp (keys_of es) → HaveNames es → AreApart (values_of es)
waiting_apart [] sorted names = tt
waiting_apart (e ∷ es) sorted names =
    let tail = tail_of e es sorted in (
      λ named.
          let w = (waiting_named es tail e.1.thread e.1.number).1 named in
          let above = arrived_above e es sorted w.0 w.1 w.2 in
          let same =
          names e.0 w.0 e.1 w.1 (arrived_head e es) (later e es sorted w.0 w.1 w.2) (sym w.3.0) (sym w.3.1) in
          omega arith,
      waiting_apart es tail (λ a b o p q r. names a b o p (later e es sorted a o q) (later e es sorted b p r)),
    )

pub parts_of : (Q : ℕ → Type 0) (P : Output → Type 0) (es : Arrivals) (go : List Output) (stay : Arrivals)
    → IsStrictlySortedBy nat_cmp (keys_of es) → ((a : ℕ) (o : Output) → arrived es a ≡ Some o → Q a ↔ P o)
    → PartsBy Q es go stay → Parts P (values_of es) go (values_of stay)
parts_of Q P [] go stay sorted same parts = (parts.0, ap values_of parts.1)
parts_of Q P (e ∷ es) go stay sorted same parts =
    let here = same e.0 e.1 (arrived_head e es) in
    let rest = parts_of Q P es in
    let tail = tail_of e es sorted in
    let both = λ (a : ℕ) (o : Output) (h : arrived es a ≡ Some o). same a o (later e es sorted a o h) in
    ⊎_elim
    (λ h. inl (here.0 h.0, h.1, h.2, rest h.1 stay tail both h.3))
    (λ h. inr (λ p. h.0 (here.1 p), values_of h.1, ap values_of h.2, rest go h.1 tail both h.3))
    parts

-- Frontiers rise as more entries are known

pub rises : (old new : List Lane) (from reached : List ℕ) → AreFrontiers old from → AreFrontiers new reached
    → ((t n : ℕ) → IsKnown (lane old t) n → IsKnown (lane new t) n) → (u : ℕ)
    → slice_index from u ≤ slice_index reached u
rises old new from reached are will more u =
    ⊎_elim
    (λ (below : slice_index reached u < slice_index from u).
    absurd ((will u).ends (more u _ ((are u).reached _ (omega arith))))) (λ h. h)
    (cases_lt (slice_index reached u) (slice_index from u))

pub more_with_entry : (old new : List Lane) (thread number : ℕ) (e : StampedEntry)
    → PutsEntry (lane old thread) (lane new thread) number e → ((t : ℕ) → t ≢ thread → lane new t ≡ lane old t)
    → (t n : ℕ) → IsKnown (lane old t) n → IsKnown (lane new t) n
more_with_entry old new thread number e p others t n h =
    ⊎_elim
    (λ (same : t ≡ thread).
    let here = subst (λ (u : ℕ). IsKnown (lane old u) n) same h in
    let there : IsKnown (lane new thread) n = ⊎_elim
    (λ q. inl (let c = p.covered in omega arith))
    (λ q. ⊎_elim
    (λ (is : n ≡ number). inr (subst (λ (k : ℕ). IsSome (entry_at (lane new thread) k)) (sym is) (some_of _ e p.put)))
    (λ (apart : n ≢ number). inr (subst (λ (o : Option StampedEntry). IsSome o) (sym (p.others n apart)) q))
    (cases_eq n number))
    here in
    subst (λ (u : ℕ). IsKnown (lane new u) n) (sym same) there)
    (λ (apart : t ≢ thread). subst (λ (l : Lane). IsKnown l n) (sym (others t apart)) h)
    (cases_eq t thread)

pub more_with_cover : (old new : List Lane) (counts : List ℕ)
    → ((t : ℕ) → t < length old → (lane old t).covered ≤ slice_index counts t)
    → ((t : ℕ) → t < length old → CoversUpTo (lane old t) (lane new t) (slice_index counts t)) → length new ≡ length old
    → (t n : ℕ) → IsKnown (lane old t) n → IsKnown (lane new t) n
more_with_cover old new counts rising covers same t n h =
    ⊎_elim
    (λ (within : t < length old).
    let c = covers t within in
    let covered = c.covered in
    let least = rising t within in
    ⊎_elim
    (λ (past : slice_index counts t < n). ⊎_elim (λ q. absurd (omega arith))
    (λ q. inr (subst (λ (o : Option StampedEntry). IsSome o)
    (sym (c.held n ∙ not_covered (lane old t) (slice_index counts t) n past)) q)) h) (λ low. inl (omega arith))
    (cases_lt (slice_index counts t) n))
    (λ past.
    let o = lane_past old t past in
    let k = lane_past new t (omega arith) in subst (λ (l : Lane). IsKnown l n) (o ∙ sym k) h) (cases_lt t (length old))

-- The parts after some went

pub kept_after : (count : ℕ) (old new : List Lane) (before after : List Numbers) (es rest : Arrivals)
    (index keys : List (ℕ × ℕ × ℕ)) (ready : List ℕ) (go : List Output) (from reached : List ℕ)
    → AreKept count old before es index → AreFrontiers old from → AreFrontiers new reached
    → ((u : ℕ) → slice_index from u ≤ slice_index reached u) → ((a : ℕ) → IsReady ready a ↔ IsDueBy es reached a)
    → Gone es rest before after ready go
    → ((u n a : ℕ) → IsSome (arrived rest a) → IsIndexed index u n a → IsIndexed keys u n a)
    → (IndexesOnly index es → IndexesOnly keys rest) → length new ≡ length old → AreKept count new after rest keys
kept_after count old new before after es rest index keys ready go from reached kept are will rise due gone keeps only
    same =
    record {
      counted = kept.counted ∙ sym same;
      threads = gone.threads ∙ kept.threads ∙ sym same;
      sorted = gone.sorted;
      small = λ a o h. kept.small a o (gone.stays a o h).0;
      indexed = λ a o u f h is above.
          let one = one_frontier (lane new u) f (slice_index reached u) is (will u) in
          let up = rise u in
          keeps u (slice_index o.stamp u) a (some_of _ o h)
          (kept.indexed a o u (slice_index from u) (gone.stays a o h).0 (are u) (omega arith));
      only = only kept.only;
      awaited = gone.awaited;
      apart = λ a b o p q r. kept.apart a b o p (gone.stays a o q).0 (gone.stays b p r).0;
      none_due = λ a o h is.
          (gone.stays a o h).1 ((due a).1 (o, (gone.stays a o h).0, (AtMost-IsWithin new reached o.stamp will).1 is));
    }

pub parts_after : (count : ℕ) (old new : List Lane) (before after : List Numbers) (es rest : Arrivals)
    (index : List (ℕ × ℕ × ℕ)) (ready : List ℕ) (go : List Output) (reached : List ℕ)
    → AreKept count old before es index → AreFrontiers new reached → ((a : ℕ) → IsReady ready a ↔ IsDueBy es reached a)
    → Gone es rest before after ready go → Parts (IsDue new) (values_of es) go (values_of rest)
parts_after count old new before after es rest index ready go reached kept will due gone =
    parts_of (λ a. IsReady ready a) (IsDue new) es go rest kept.sorted
    (λ a o h.
    let within = AtMost-IsWithin new reached o.stamp will in (
      λ r.
          let d = (due a).0 r in
          let is : d.0 ≡ o = (let both : Some d.0 ≡ Some o = sym d.1 ∙ h in cc) in
          subst (λ (p : Output). IsDue new p) is ((AtMost-IsWithin new reached d.0.stamp will).0 d.2),
      λ q. (due a).1 (o, h, within.1 q),
    )) gone.parts

-- An output that was released at once

pub kept_noted : (count : ℕ) (held : List Lane) (before after : List Numbers) (es : Arrivals) (index : List (ℕ × ℕ × ℕ))
    (o : Output) → AreKept count held before es index → IsNoted before after o
    → (IsAwaited before o.thread o.number → ⊥) → length after ≡ length before → AreKept count held after es index
kept_noted count held before after es index o kept noted fresh same = record {
  counted = kept.counted;
  threads = same ∙ kept.threads;
  sorted = kept.sorted;
  small = kept.small;
  indexed = kept.indexed;
  only = kept.only;
  awaited = λ t n. let step = noted_awaited before after o noted t n in (
    λ h. (kept.awaited t n).0 (step.0 h).0,
    λ w. step.1 (
      (kept.awaited t n).1 w,
      λ called.
          fresh ((kept.awaited o.thread o.number).1 (w.0, w.1, w.2, (w.3.0 ∙ sym called.0, w.3.1 ∙ sym called.1))),
    ),
  );
  apart = kept.apart;
  none_due = kept.none_due;
}

-- An output that waits from now on

arrives_some : (old new : Arrivals) (a : ℕ) (o : Output) → Arrives old new a o → (b : ℕ) (p : Output)
    → arrived new b ≡ Some p → ((b ≡ a) × (p ≡ o)) ⊎ (arrived old b ≡ Some p)
arrives_some old new a o is b p h =
    ⊎_elim
    (λ (same : b ≡ a).
    let here : arrived new a ≡ Some o = is.found a ∙ ap (λ v. cond v (Some o) (arrived old a)) (at_same a) in
    let there = subst (λ (x : ℕ). arrived new x ≡ Some p) same h in
    inl (same, let both : Some p ≡ Some o = sym there ∙ here in cc))
    (λ (apart : b ≢ a). inr (sym (is.found b ∙ ap (λ v. cond v (Some o) (arrived old b)) (at_apart a b apart)) ∙ h))
    (cases_eq b a)

arrives_old : (old new : Arrivals) (a : ℕ) (o : Output) → Arrives old new a o → (b : ℕ) (p : Output)
    → arrived old b ≡ Some p → arrived new b ≡ Some p
arrives_old old new a o is b p h =
    let below = is.last b p h in
    let apart : b ≢ a = λ q. omega arith in
    is.found b ∙ ap (λ v. cond v (Some o) (arrived old b)) (at_apart a b apart) ∙ h

arrives_here : (old new : Arrivals) (a : ℕ) (o : Output) → Arrives old new a o → arrived new a ≡ Some o
arrives_here old new a o is = is.found a ∙ ap (λ v. cond v (Some o) (arrived old a)) (at_same a)

room_awaited : (before after : List Numbers) (o : Output)
    → KeepsRoom (numbers before o.thread) (numbers after o.thread) o.number
    → ((t : ℕ) → t ≢ o.thread → numbers after t ≡ numbers before t) → (t n : ℕ)
    → IsAwaited after t n ↔ (IsCalled t n o ⊎ IsAwaited before t n)
room_awaited before after o room others t n = (
  λ h. ⊎_elim
      (λ (same : o.thread ≡ t).
      ⊎_elim (λ q. inl (same, sym q)) (λ q. inr (subst (λ (u : ℕ). IsAwaited before u n) same q))
      ((room.room n).0 (subst (λ (u : ℕ). IsAwaited after u n) (sym same) h)))
      (λ (apart : o.thread ≢ t).
      let other : t ≢ o.thread = λ q. apart (sym q) in inr (subst (λ (s : Numbers). HasRoom s n) (others t other) h))
      (cases_eq o.thread t),
  λ h. ⊎_elim
      (λ (same : o.thread ≡ t). subst (λ (u : ℕ). IsAwaited after u n) same ((room.room n).1
      (⊎_elim (λ q. inl (sym q.1)) (λ q. inr (subst (λ (u : ℕ). IsAwaited before u n) (sym same) q)) h)))
      (λ (apart : o.thread ≢ t).
      let other : t ≢ o.thread = λ q. apart (sym q) in
      ⊎_elim (λ q. absurd (apart q.0)) (λ q. subst (λ (s : Numbers). HasRoom s n) (sym (others t other)) q) h)
      (cases_eq o.thread t),
)

pub kept_pushed : (count : ℕ) (held : List Lane) (before after : List Numbers) (old new : Arrivals)
    (index keys : List (ℕ × ℕ × ℕ)) (a : ℕ) (o : Output) (from : List ℕ) → AreKept count held before old index
    → Arrives old new a o → KeepsRoom (numbers before o.thread) (numbers after o.thread) o.number
    → ((t : ℕ) → t ≢ o.thread → numbers after t ≡ numbers before t) → length after ≡ length before
    → (IsAwaited before o.thread o.number → ⊥) → (IsDue held o → ⊥) → AreFrontiers held from
    → ((u : ℕ) → slice_index from u < slice_index o.stamp u → IsIndexed keys u (slice_index o.stamp u) a)
    → ((u n b : ℕ) → IsSome (arrived old b) → IsIndexed index u n b → IsIndexed keys u n b)
    → (IndexesOnly index old → IndexesOnly keys new) → AreKept count held after new keys
kept_pushed count held before after old new index keys a o from kept is room others same fresh early are enters keeps
    only =
    let split = arrives_some old new a o is in
    let alone : (b : ℕ) (p : Output) → arrived old b ≡ Some p → p.thread ≡ o.thread → p.number ≡ o.number → ⊥ =
    λ b p h q r. fresh ((kept.awaited o.thread o.number).1 (b, p, h, (q, r))) in
    record {
      counted = kept.counted;
      threads = same ∙ kept.threads;
      sorted = is.sorted;
      small = λ b p h. ⊎_elim (λ q. subst (λ (x : ℕ). x < 18446744073709551615) (sym q.0) is.small)
          (λ q. kept.small b p q) (split b p h);
      indexed = λ b p u f h frontier above. ⊎_elim
          (λ q.
          let one = one_frontier (lane held u) f (slice_index from u) frontier (are u) in
          let stamp : slice_index p.stamp u ≡ slice_index o.stamp u = ap (λ (x : Output). slice_index x.stamp u) q.1 in
          let entered = enters u (omega arith) in
          subst (λ (x : ℕ). IsIndexed keys u (slice_index p.stamp u) x) (sym q.0)
          (subst (λ (n : ℕ). IsIndexed keys u n a) (sym stamp) entered))
          (λ q. keeps u (slice_index p.stamp u) b (some_of _ p q) (kept.indexed b p u f q frontier above))
          (split b p h);
      only = only kept.only;
      awaited = λ t n. let step = room_awaited before after o room others t n in (
        λ h. ⊎_elim (λ called. (a, o, arrives_here old new a o is, called))
            (λ was. let w = (kept.awaited t n).0 was in (w.0, w.1, arrives_old old new a o is w.0 w.1 w.2, w.3))
            (step.0 h),
        λ w. ⊎_elim (λ q. step.1 (inl (subst (λ (p : Output). IsCalled t n p) q.1 w.3)))
            (λ q. step.1 (inr ((kept.awaited t n).1 (w.0, w.1, q, w.3)))) (split w.0 w.1 w.2),
      );
      apart = λ b d p q h k thread number. ⊎_elim
          (λ x. ⊎_elim (λ y. x.0 ∙ sym y.0)
          (λ y. absurd (alone d q y (sym thread ∙ ap (λ (z : Output). z.thread) x.1)
          (sym number ∙ ap (λ (z : Output). z.number) x.1))) (split d q k))
          (λ x. ⊎_elim
          (λ y. absurd (alone b p x (thread ∙ ap (λ (z : Output). z.thread) y.1)
          (number ∙ ap (λ (z : Output). z.number) y.1))) (λ y. kept.apart b d p q x y thread number) (split d q k))
          (split b p h);
      none_due = λ b p h due. ⊎_elim (λ q. early (subst (λ (x : Output). IsDue held x) q.1 due))
          (λ q. kept.none_due b p q due) (split b p h);
    }

-- The output that waited last was taken back, and no room was kept for it.
pub kept_back : (count : ℕ) (held : List Lane) (before after : List Numbers) (es rest : Arrivals)
    (index keys : List (ℕ × ℕ × ℕ)) → AreKept count held before es index → after ≡ before → rest ≡ es
    → ((u n a : ℕ) → IsSome (arrived rest a) → IsIndexed index u n a → IsIndexed keys u n a) → IndexesOnly keys rest
    → AreKept count held after rest keys
kept_back count held before after es rest index keys kept same back keeps only =
    let now : AreKept count held before rest index =
    subst (λ (l : Arrivals). AreKept count held before l index) (sym back) kept in
    subst (λ (l : List Numbers). AreKept count held l rest keys) (sym same) (record {
      counted = now.counted;
      threads = now.threads;
      sorted = now.sorted;
      small = now.small;
      indexed =
          λ a o u f h is above. keeps u (slice_index o.stamp u) a (some_of _ o h) (now.indexed a o u f h is above);
      only = only;
      awaited = now.awaited;
      apart = now.apart;
      none_due = now.none_due;
    })

-- Nothing waits

pub only_none : (index : List (ℕ × ℕ × ℕ)) (outputs : Arrivals) → index ≡ [] → IndexesOnly index outputs
only_none index outputs none u n a is =
    let in_none : IsIndexed [] u n a = subst (λ (l : List (ℕ × ℕ × ℕ)). IsIndexed l u n a) none is in absurd cc

pub kept_empty : (count : ℕ) (held : List Lane) (released : List Numbers) (outputs : Arrivals)
    (index : List (ℕ × ℕ × ℕ)) → outputs ≡ [] → IsStrictlySortedBy nat_cmp (keys_of outputs) → count ≡ length held
    → length released ≡ length held → ((t n : ℕ) → IsAwaited released t n → ⊥) → IndexesOnly index outputs
    → AreKept count held released outputs index
kept_empty count held released outputs index none sorted counted threads rooms only =
    let no : (b : ℕ) (p : Output) → arrived outputs b ≡ Some p → ⊥ =
    λ b p h. let q : None ≡ Some p = sym (ap (λ (l : Arrivals). arrived l b) none) ∙ h in cc in
    record {
      counted = counted;
      threads = threads;
      sorted = sorted;
      small = λ b p h. absurd (no b p h);
      indexed = λ b p u f h. absurd (no b p h);
      only = only;
      awaited = λ t n. (λ h. absurd (rooms t n h), λ w. absurd (no w.0 w.1 w.2));
      apart = λ a b o p h. absurd (no a o h);
      none_due = λ b p h. absurd (no b p h);
    }

-- Answers

pub err_of : {A E : Type 0} {P : Type 0} (r : Result A E) → is_err r ≡ true → OnErr r P → P
err_of (Ok x) e h = absurd cc
err_of (Err x) e h = h

abbrev pub taken : Added → Result Added NoMemory
taken a = Ok a

pub added_new : (a : Added) → (taken a ≡ taken Known → ⊥) → taken a ≡ taken New
added_new New h = refl
added_new Known h = absurd (h refl)

pub once_either : {A E : Type 0} (r : Result A E) (old new : Logger) (out after : List Output)
    → OnErr r ((new ≡ old) × (after ≡ out)) → OnOk r (ReleasesDue old new (appended out after))
    → ReleasesOnce old.released new.released (appended out after)
once_either (Ok x) old new out after err ok = ok.once
once_either (Err x) old new out after err ok =
    let none : appended out after ≡ [] = ap (appended out) err.1 ∙ appended_none out in
    rw none (subst (λ (l : Logger). ReleasesOnce old.released l.released []) (sym err.0) (once_none old.released))

pub marked_kept : {A E : Type 0} (r : Result A E) (count : ℕ) (held : List Lane) (before after : List Numbers)
    (es : Arrivals) (index : List (ℕ × ℕ × ℕ)) (o : Output) → AreKept count held before es index
    → OnOk r (Marks (numbers before o.thread) (numbers after o.thread) o.number) → OnErr r (after ≡ before)
    → ((t : ℕ) → t ≢ o.thread → numbers after t ≡ numbers before t) → length after ≡ length before
    → (WasMarked before o.thread o.number → ⊥) → (IsAwaited before o.thread o.number → ⊥)
    → AreKept count held after es index
marked_kept (Ok x) count held before after es index o kept ok err others same fresh alone = kept_noted count held before
    after es index o kept (record { fresh = fresh; marks = ok; others = others }) alone same
marked_kept (Err x) count held before after es index o kept ok err others same fresh alone =
    subst (λ (l : List Numbers). AreKept count held l es index) (sym err) kept

pub once_one : (before after : List Numbers) (o : Output) → IsNoted before after o → ReleasesOnce before after (o ∷ [])
once_one before after o noted = once_more before before after [] o (once_none before) noted

-- Nothing waits

pub kept_alone : (count : ℕ) (old new : List Lane) (released : List Numbers) (es : Arrivals) (index : List (ℕ × ℕ × ℕ))
    → AreKept count old released es index → values_of es ≡ [] → length new ≡ length old
    → AreKept count new released es index
kept_alone count old new released [] index kept none same = record {
  counted = kept.counted ∙ sym same;
  threads = kept.threads ∙ sym same;
  sorted = kept.sorted;
  small = kept.small;
  indexed = λ a o u f h is above. absurd (cc);
  only = kept.only;
  awaited = kept.awaited;
  apart = kept.apart;
  none_due = λ a o h is. absurd (cc);
}
kept_alone count old new released (e ∷ es) index kept none same = absurd (cc)
