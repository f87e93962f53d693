-- One more entry in the index.
use Rattle.std.proofs.Common.{◌≡◌, ◌≢◌, ℕ, ◌+◌, ◌<◌, ◌≤◌, ◌⊎◌, ◌↔◌, Bool, true, false, cond, List, [], Option, Some}
use Rattle.std.proofs.Common.{None, IsSome, Result, Ok, Err, OnOk, OnErr, nat_lt, refl, sym, ap, ◌∙◌, subst, inl, inr}
use Rattle.std.proofs.Common.{⊎_elim, arith}
use Rattle.std.specs.List.{list_any}
use Rattle.std.specs.Map.{lookup}
use Rattle.std.specs.BTreeMap.{is_at}
use Rattle.std.specs.Ordering.{nat_cmp}
use Rattle.std.proofs.lemmas.Bool.{cases_lt}
use Rattle.std.proofs.lemmas.Bool.Decides.{nat_tests}
use Rattle.std.proofs.lemmas.Grind.{common_steps}
use Rattle.entry_order.specs.declared.what.What.{What}
use Rattle.entry_order.specs.declared.what.What.TheVariants.{Access, Read}
use Rattle.entry_order.proofs.Order.{touch_only, read_only, is_or}
use Rattle.access_log.specs.declared.entry.StampedEntry.{StampedEntry}
use Rattle.access_log.specs.Held.{Lane, lane, entry_at}
use Rattle.replay_guide.specs.Following.{Follows}
use Rattle.replay_guide.specs.Indexes.{touch_cmp, read_cmp, touch_after, HasRead, AddsEntry, IsIndexOf, IsPast}
use Rattle.replay_guide.specs.Indexes.{AreLasts}
use Rattle.replay_guide.specs.Walks.{FollowsBelow, FollowsDownTo}
use Rattle.replay_guide.proofs.Keys.{touch_same, touch_equal, read_same, read_equal}

abbrev Touches : Type 0
Touches = List ((ℕ × ℕ) × (ℕ × ℕ))

abbrev Reads : Type 0
Reads = List (ℕ × ℕ × ℕ × ℕ)

cond_some : {X : Type 0} (b : Bool) (x y : X) (o : Option X) → cond b (Some x) o ≡ Some y
    → (o ≡ Some y) ⊎ ((b ≡ true) × (y ≡ x))
cond_some true x y o h = inr (refl, cc)
cond_some false x y o h = inl h

cond_is_some : {X : Type 0} (b : Bool) (x : X) (o : Option X) → IsSome o → IsSome (cond b (Some x) o)
cond_is_some true x o h = refl
cond_is_some false x o h = h

pub cond_true : (b a : Bool) → cond b true a ≡ true → (a ≡ true) ⊎ (b ≡ true)
cond_true true a h = inr refl
cond_true false a h = inl h

pub true_cond : (b a : Bool) → a ≡ true → cond b true a ≡ true
true_cond true a h = refl
true_cond false a h = h

-- a touch was inserted
pub adds_touch : (old new : Touches) (reads : Reads) (v s : ℕ) (e : StampedEntry) → e.what ≡ Access v (s + 1)
    → ((q : ℕ × ℕ)
    → lookup (is_at (touch_cmp q)) new
    ≡ cond (is_at (touch_cmp (v, s)) q) (Some (e.thread, e.number)) (lookup (is_at (touch_cmp q)) old))
    → AddsEntry old new reads reads e
adds_touch old new reads v s e what h = record {
  touch = λ w p x q. go w p x (cond_some (is_at (touch_cmp (v, s)) (w, p)) (e.thread, e.number) x (touch_after old w p)
      (sym (h (w, p)) ∙ q));
  keeps_touch = λ w p some. subst (λ (o : Option (ℕ × ℕ)). IsSome o) (sym (h (w, p)))
      (cond_is_some (is_at (touch_cmp (v, s)) (w, p)) (e.thread, e.number) (touch_after old w p) some);
  has_touch = λ w p is.
      let same = touch_only v (s + 1) w (p + 1) (sym what ∙ is) in
      let here : touch_after new v s ≡ Some (e.thread, e.number) =
      h (v, s) ∙ ap (λ b. cond b (Some (e.thread, e.number)) (touch_after old v s)) (touch_same v s) in
      let place : s ≡ p = omega (arith, same.1) in there w p (sym same.0) (sym place) here;
  read = λ w p t n.
      (λ q. inl q, λ q. ⊎_elim (λ k. k) (λ k. let both : Access v (s + 1) ≡ Read w p = sym what ∙ k.0 in absurd cc) q);
}
  where
    go : (w p : ℕ) (x : ℕ × ℕ)
        → (touch_after old w p ≡ Some x) ⊎ ((is_at (touch_cmp (v, s)) (w, p) ≡ true) × (x ≡ (e.thread, e.number)))
        → (touch_after old w p ≡ Some x) ⊎ ((e.what ≡ Access w (p + 1)) × (x ≡ (e.thread, e.number)))
    go w p x (inl k) = inl k
    go w p x (inr k) =
        let same = touch_equal (v, s) (w, p) k.0 in
        let v_is : v ≡ w = same.0 in let s_is : s ≡ p = same.1 in inr (what ∙ rw (v_is, s_is) refl, k.1)

    there : (w p : ℕ) → w ≡ v → p ≡ s → touch_after new v s ≡ Some (e.thread, e.number) → IsSome (touch_after new w p)
    there w p v_is s_is here = rw (v_is, s_is, here) refl

-- a read was inserted
pub adds_read : (touches : Touches) (old new : Reads) (v s : ℕ) (e : StampedEntry) → e.what ≡ Read v s
    → ((q : ℕ × ℕ × ℕ × ℕ)
    → list_any (is_at (read_cmp q)) new
    ≡ cond (is_at (read_cmp (v, s, e.thread, e.number)) q) true (list_any (is_at (read_cmp q)) old))
    → AddsEntry touches touches old new e
adds_read touches old new v s e what h = record {
  touch = λ w p x q. inl q;
  keeps_touch = λ w p some. some;
  has_touch = λ w p is. let both : Read v s ≡ Access w (p + 1) = sym what ∙ is in absurd cc;
  read = λ w p t n. (
    λ q. go w p t n (cond_true (is_at (read_cmp (v, s, e.thread, e.number)) (w, p, t, n)) _ (sym (h (w, p, t, n)) ∙ q)),
    λ q. ⊎_elim (λ k. h (w, p, t, n) ∙ true_cond (is_at (read_cmp (v, s, e.thread, e.number)) (w, p, t, n)) _ k)
        (λ k. back w p t n (read_only v s w p (sym what ∙ k.0)) k.1 k.2) q,
  );
}
  where
    go : (w p t n : ℕ) → HasRead old w p t n ⊎ (is_at (read_cmp (v, s, e.thread, e.number)) (w, p, t, n) ≡ true)
        → HasRead old w p t n ⊎ ((e.what ≡ Read w p) × (e.thread ≡ t) × (e.number ≡ n))
    go w p t n (inl k) = inl k
    go w p t n (inr k) =
        let same = read_equal (v, s, e.thread, e.number) (w, p, t, n) k in
        let v_is : v ≡ w = same.0 in let s_is : s ≡ p = same.1 in inr (what ∙ rw (v_is, s_is) refl, same.2, same.3)

    here : HasRead new v s e.thread e.number
    here =
        h (v, s, e.thread, e.number)
        ∙ ap (λ b. cond b true (list_any (is_at (read_cmp (v, s, e.thread, e.number))) old))
        (read_same (v, s, e.thread, e.number))

    back : (w p t n : ℕ) → (v ≡ w) × (s ≡ p) → e.thread ≡ t → e.number ≡ n → HasRead new w p t n
    back w p t n both thread number =
        let v_is : w ≡ v = sym both.0 in
        let s_is : p ≡ s = sym both.1 in
        let t_is : t ≡ e.thread = sym thread in let n_is : n ≡ e.number = sym number in rw (v_is, s_is, t_is, n_is) here

-- the index of what it had and one more entry
pub index_more : (P Q : ℕ → ℕ → What → Type 0) (old new : Touches) (before after : Reads) (e : StampedEntry)
    → IsIndexOf P old before → AddsEntry old new before after e
    → ((t n : ℕ) (w : What) → Q t n w ↔ (P t n w ⊎ ((e.thread ≡ t) × (e.number ≡ n) × (e.what ≡ w))))
    → IsIndexOf Q new after
index_more P Q old new before after e is adds same = record {
  touch = λ v p t n q. ⊎_elim (λ k. (same t n (Access v (p + 1))).1 (inl (is.touch v p t n k)))
      (λ k.
      let both = k.1 in
      let thread : e.thread ≡ t = sym (ap (λ (y : ℕ × ℕ). y.0) both) in
      let number : e.number ≡ n = sym (ap (λ (y : ℕ × ℕ). y.1) both) in
      (same t n (Access v (p + 1))).1 (inr (thread, number, k.0))) (adds.touch v p (t, n) q);
  has_touch = λ v p t n q. ⊎_elim (λ k. adds.keeps_touch v p (is.has_touch v p t n k)) (λ k. adds.has_touch v p k.2)
      ((same t n (Access v (p + 1))).0 q);
  read = λ v p t n. (
    λ q. ⊎_elim (λ k. (same t n (Read v p)).1 (inl ((is.read v p t n).0 k)))
        (λ k. (same t n (Read v p)).1 (inr (k.1, k.2, k.0))) ((adds.read v p t n).0 q),
    λ q. (adds.read v p t n).1
        (⊎_elim (λ k. inl ((is.read v p t n).1 k)) (λ k. inr (k.2, k.0, k.1)) ((same t n (Read v p)).0 q)),
  );
}

-- an index of one property is one of an equal property
pub IsIndexOf-same : (P Q : ℕ → ℕ → What → Type 0) (touches : Touches) (reads : Reads)
    → ((t n : ℕ) (w : What) → P t n w ↔ Q t n w) → IsIndexOf P touches reads → IsIndexOf Q touches reads
IsIndexOf-same P Q touches reads same is = record {
  touch = λ v p t n q. (same t n (Access v (p + 1))).0 (is.touch v p t n q);
  has_touch = λ v p t n q. is.has_touch v p t n ((same t n (Access v (p + 1))).1 q);
  read = λ v p t n.
      (λ q. (same t n (Read v p)).0 ((is.read v p t n).0 q), λ q. (is.read v p t n).1 ((same t n (Read v p)).1 q));
}

-- an empty index
pub IsIndexOf-none : (P : ℕ → ℕ → What → Type 0) → ((t n : ℕ) (w : What) → P t n w → ⊥) → IsIndexOf P [] []
IsIndexOf-none P none = record {
  touch = λ v p t n q. absurd cc;
  has_touch = λ v p t n q. absurd (none t n (Access v (p + 1)) q);
  read = λ v p t n. (λ q. absurd cc, λ q. absurd (none t n (Read v p) q));
}

-- one more entry, that of the number before
pub index_down : (held : List Lane) (thread number : ℕ) (old new : Touches) (before after : Reads) (e : StampedEntry)
    → entry_at (lane held thread) (number + 1) ≡ Some e → e.thread ≡ thread → e.number ≡ number + 1
    → IsIndexOf (FollowsDownTo held thread (number + 1)) old before → AddsEntry old new before after e
    → IsIndexOf (FollowsDownTo held thread number) new after
index_down held thread number old new before after e here thread_is number_is is adds =
    index_more (FollowsDownTo held thread (number + 1)) (FollowsDownTo held thread number) old new before after e is
    adds (λ t n w. (to t n w, from t n w))
  where
    found : (t n : ℕ) (w : What) → t ≡ thread → n ≡ number + 1 → Follows held t n w
        → (e.thread ≡ t) × (e.number ≡ n) × (e.what ≡ w)
    found t n w t_is n_is (f, at, what) =
        let there : entry_at (lane held thread) (number + 1) ≡ Some f = rw (sym t_is, sym n_is) at in
        let same : e ≡ f = cc in
        (thread_is ∙ sym t_is, number_is ∙ sym n_is, ap (λ (g : StampedEntry). g.what) same ∙ what)

    to : (t n : ℕ) (w : What) → FollowsDownTo held thread number t n w
        → FollowsDownTo held thread (number + 1) t n w ⊎ ((e.thread ≡ t) × (e.number ≡ n) × (e.what ≡ w))
    to t n w (inl below) = inl (inl below)
    to t n w (inr (t_is, up, follows)) = ⊎_elim (λ (q : n ≡ number + 1). inr (found t n w t_is q follows))
        (λ (q : n ≢ number + 1). inl (inr (t_is, grind arith, follows))) (is_or n (number + 1))

    from : (t n : ℕ) (w : What)
        → FollowsDownTo held thread (number + 1) t n w ⊎ ((e.thread ≡ t) × (e.number ≡ n) × (e.what ≡ w))
        → FollowsDownTo held thread number t n w
    from t n w (inl (inl below)) = inl below
    from t n w (inl (inr (t_is, up, follows))) = inr (t_is, omega arith, follows)
    from t n w (inr (t_is, n_is, what)) =
        let t_of : t ≡ thread = sym t_is ∙ thread_is in
        let n_of : n ≡ number + 1 = sym n_is ∙ number_is in
        inr (t_of, omega arith, (e, rw (t_of, n_of) here, what))

pub index_down_from : (held : List Lane) (thread m number : ℕ) (old new : Touches) (before after : Reads)
    (e : StampedEntry) → number ≡ m + 1 → entry_at (lane held thread) number ≡ Some e → e.thread ≡ thread
    → e.number ≡ number → IsIndexOf (FollowsDownTo held thread number) old before → AddsEntry old new before after e
    → IsIndexOf (FollowsDownTo held thread m) new after
index_down_from held thread m number old new before after e q here thread_is number_is is adds =
    index_down held thread m old new before after e (subst (λ (n : ℕ). entry_at (lane held thread) n ≡ Some e) q here)
    thread_is (number_is ∙ q) (subst (λ (n : ℕ). IsIndexOf (FollowsDownTo held thread n) old before) q is) adds

-- before the walk down a lane, and after it
pub index_before : (held : List Lane) (thread f : ℕ) (touches : Touches) (reads : Reads)
    → ((n : ℕ) → f < n → entry_at (lane held thread) n ≡ None) → IsIndexOf (FollowsBelow held thread) touches reads
    → IsIndexOf (FollowsDownTo held thread f) touches reads
index_before held thread f touches reads none = IsIndexOf-same (FollowsBelow held thread) (FollowsDownTo held thread f)
    touches reads (λ t n w. (λ h. inl h, λ h. go t n w h))
  where
    go : (t n : ℕ) (w : What) → FollowsDownTo held thread f t n w → FollowsBelow held thread t n w
    go t n w (inl h) = h
    go t n w (inr (t_is, up, (e, here, what))) =
        let no = none n up in
        let there : entry_at (lane held thread) n ≡ Some e =
        subst (λ (u : ℕ). entry_at (lane held u) n ≡ Some e) t_is here in
        absurd cc

pub index_after : (held : List Lane) (thread number : ℕ) (touches : Touches) (reads : Reads)
    → ((n : ℕ) → n ≤ number → entry_at (lane held thread) n ≡ None)
    → IsIndexOf (FollowsDownTo held thread number) touches reads
    → IsIndexOf (FollowsBelow held (thread + 1)) touches reads
index_after held thread number touches reads none = IsIndexOf-same (FollowsDownTo held thread number)
    (FollowsBelow held (thread + 1)) touches reads (λ t n w. (to t n w, from t n w))
  where
    to : (t n : ℕ) (w : What) → FollowsDownTo held thread number t n w → FollowsBelow held (thread + 1) t n w
    to t n w (inl h) = (let low = h.0 in omega arith, h.1)
    to t n w (inr h) = (let same = h.0 in omega arith, h.2)

    above : (t n : ℕ) (w : What) → t ≡ thread → Follows held t n w → number < n
    above t n w t_is (e, here, what) = ⊎_elim (λ (h : number < n). h)
        (λ h.
        let no = none n h in
        let there : entry_at (lane held thread) n ≡ Some e =
        subst (λ (u : ℕ). entry_at (lane held u) n ≡ Some e) t_is here in
        absurd cc) (cases_lt number n)

    from : (t n : ℕ) (w : What) → FollowsBelow held (thread + 1) t n w → FollowsDownTo held thread number t n w
    from t n w (low, h) = ⊎_elim (λ (q : t ≡ thread). inr (q, above t n w q h, h))
        (λ (q : t ≢ thread). inl (grind arith, h)) (is_or t thread)

-- What is noted of the variables

abbrev Lasts : Type 0
Lasts = List (ℕ × ℕ)

below_of : (a b : ℕ) → nat_lt a b ≡ true → a < b
below_of a b h = grind (arith, common_steps, nat_tests)

pub past_some : (lasts : Lasts) (v last places : ℕ) → Some last ≡ lookup (is_at (nat_cmp v)) lasts
    → nat_lt last places ≡ true → IsPast lasts v places
past_some lasts v last places is less other h =
    let both : Some last ≡ Some other = is ∙ h in
    let same : last ≡ other = cc in
    let below = below_of last places less in omega (arith, below, same)

pub past_none : (lasts : Lasts) (v places : ℕ) → None ≡ lookup (is_at (nat_cmp v)) lasts → IsPast lasts v places
past_none lasts v places is last h = absurd (let both : None ≡ Some last = is ∙ h in cc)

-- where greater places are noted
pub lasts_more : (old now : Lasts) (touches : Touches) (reads : Reads) → AreLasts old touches reads
    → ((v places : ℕ) → IsPast now v places → IsPast old v places) → AreLasts now touches reads
lasts_more old now touches reads are more v places past = are v places (more v places past)

-- where a touch was inserted, or not, whose place is noted
pub lasts_touch : {A E U : Type 0} (r : Result A E) (old now : Lasts) (touches new : Touches) (reads : Reads) (v s : ℕ)
    (x : ℕ × ℕ) → AreLasts old touches reads → (IsPast now v s → ⊥)
    → ((w places : ℕ) → IsPast now w places → IsPast old w places) → OnOk r U
    → (U → (q : ℕ × ℕ)
    → lookup (is_at (touch_cmp q)) new
    ≡ cond (is_at (touch_cmp (v, s)) q) (Some x) (lookup (is_at (touch_cmp q)) touches))
    → OnErr r (new ≡ touches) → AreLasts now new reads
lasts_touch (Ok a) old now touches new reads v s x are noted more updates found err w places past = (
  λ y h. ⊎_elim (λ was. (are w places (more w places past)).0 y was)
      (λ k.
      let same = touch_equal (v, s) (w, places) k.0 in
      noted (subst (λ (z : ℕ). IsPast now z s) (sym same.0) (subst (λ (z : ℕ). IsPast now w z) (sym same.1) past)))
      (cond_some (is_at (touch_cmp (v, s)) (w, places)) x y (touch_after touches w places)
      (sym (found updates (w, places)) ∙ h)),
  (are w places (more w places past)).1,
)
lasts_touch (Err e) old now touches new reads v s x are noted more updates found err w places past =
    subst (λ (l : Touches). AreLasts now l reads) (sym err) (lasts_more old now touches reads are more) w places past

-- so for a read
pub lasts_read : {A E U : Type 0} (r : Result A E) (old now : Lasts) (touches : Touches) (reads new : Reads)
    (v s t n : ℕ) → AreLasts old touches reads → (IsPast now v s → ⊥)
    → ((w places : ℕ) → IsPast now w places → IsPast old w places) → OnOk r U
    → (U → (q : ℕ × ℕ × ℕ × ℕ)
    → list_any (is_at (read_cmp q)) new
    ≡ cond (is_at (read_cmp (v, s, t, n)) q) true (list_any (is_at (read_cmp q)) reads))
    → OnErr r (new ≡ reads) → AreLasts now touches new
lasts_read (Ok a) old now touches reads new v s t n are noted more updates found err w places past = (
  (are w places (more w places past)).0,
  λ u m h. ⊎_elim (λ was. (are w places (more w places past)).1 u m was)
      (λ k.
      let same = read_equal (v, s, t, n) (w, places, u, m) k in
      noted (subst (λ (z : ℕ). IsPast now z s) (sym same.0) (subst (λ (z : ℕ). IsPast now w z) (sym same.1) past)))
      (cond_true (is_at (read_cmp (v, s, t, n)) (w, places, u, m)) _ (sym (found updates (w, places, u, m)) ∙ h)),
)
lasts_read (Err e) old now touches reads new v s t n are noted more updates found err w places past =
    subst (λ (l : Reads). AreLasts now touches l) (sym err) (lasts_more old now touches reads are more) w places past
