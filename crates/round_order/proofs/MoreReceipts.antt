-- Receipts of a round with one more: what is known of them, and how they stay linked.
use Rattle.std.proofs.Common.{◌≡◌, ℕ, ◌+◌, ◌≤◌, ◌<◌, ◌≢◌, List, ◌∷◌, refl, sym, ap, ◌∙◌, subst, inl, inr, ◌⊎◌, arith}
use Rattle.std.proofs.Common.{Option, Some, None}
use Rattle.std.specs.Prelude.{slice_index}
use Rattle.plain_text.specs.declared.packet.Packet.{Packet}
use Rattle.entry_order.specs.declared.what.What.TheVariants.{Access, Read, Clock, Draw}
use Rattle.entry_order.specs.Log.{Entry, places, IsNext}
use Rattle.entry_order.proofs.Order.{is_or}
use Rattle.plain_machine.specs.Program.{Meaning}
use Rattle.plain_machine.specs.Machine.{Effect, Takes, Touches, Looks, HearsClock, HearsDraw, Sends, Ends}
use Rattle.plain_machine.specs.History.{Did, Step, log_of, entry_of}
use Rattle.plain_machine.proofs.Histories.{not_eq, is_eq}
use Rattle.round_order.specs.Receipts.{Receipt, Receipts, InRound, Among, after, IsLogged, IsTouch, IsRead, act_at}
use Rattle.round_order.specs.Linked.{IsOwnMove, AreOwnMoves, HasFound, IsKnown, IsJoinOf, HasJoin, IsLinked}
use Rattle.round_order.specs.Growth.{update}
use Rattle.round_order.proofs.LoggedMoves.{logged_once}

pub updated : {V : Type 0} (t : ℕ) (xs : List (Receipt V)) (rs : Receipts V) → update t xs rs t ≡ xs
updated t xs rs = rw (is_eq t t refl) refl

pub not_updated : {V : Type 0} (t u : ℕ) (xs : List (Receipt V)) (rs : Receipts V) → u ≢ t → update t xs rs u ≡ rs u
not_updated t u xs rs h = rw (not_eq u t h) refl

-- What an entry tells of its receipt

what_is : {V : Type 0} (t taken place : ℕ) (mine : List (Step V)) (d : Effect V) (e : Entry) (left : Option V) (v s : ℕ)
    → act_at t mine taken place d ≡ Did e left → e.what ≡ Access v s → (y : V) × (left ≡ Some y) × (s ≡ place + 1)
what_is t taken place mine Takes e left v s h w = absurd (cc)
what_is t taken place mine (Touches u y) e left v s h w =
    let k : entry_of t (log_of mine) (Access u (place + 1)) ≡ e = cc in
    let l : Some y ≡ left = cc in
    let q : Access u (place + 1) ≡ Access v s = ap (λ (f : Entry). f.what) k ∙ w in (y, sym l, cc)
what_is t taken place mine (Looks u) e left v s h w =
    let k : entry_of t (log_of mine) (Read u place) ≡ e = cc in
    let q : Read u place ≡ Access v s = ap (λ (f : Entry). f.what) k ∙ w in absurd (cc)
what_is t taken place mine (HearsClock a) e left v s h w =
    let k : entry_of t (log_of mine) (Clock a) ≡ e = cc in
    let q : Clock a ≡ Access v s = ap (λ (f : Entry). f.what) k ∙ w in absurd (cc)
what_is t taken place mine (HearsDraw a) e left v s h w =
    let k : entry_of t (log_of mine) (Draw a) ≡ e = cc in
    let q : Draw a ≡ Access v s = ap (λ (f : Entry). f.what) k ∙ w in absurd (cc)
what_is t taken place mine (Sends p) e left v s h w = absurd (cc)
what_is t taken place mine Ends e left v s h w = absurd (cc)

read_is : {V : Type 0} (t taken place : ℕ) (mine : List (Step V)) (d : Effect V) (e : Entry) (left : Option V) (v s : ℕ)
    → act_at t mine taken place d ≡ Did e left → e.what ≡ Read v s → (left ≡ None) × (s ≡ place)
read_is t taken place mine Takes e left v s h w = absurd (cc)
read_is t taken place mine (Touches u y) e left v s h w =
    let k : entry_of t (log_of mine) (Access u (place + 1)) ≡ e = cc in
    let q : Access u (place + 1) ≡ Read v s = ap (λ (f : Entry). f.what) k ∙ w in absurd (cc)
read_is t taken place mine (Looks u) e left v s h w =
    let k : entry_of t (log_of mine) (Read u place) ≡ e = cc in
    let l : None ≡ left = cc in
    let q : Read u place ≡ Read v s = ap (λ (f : Entry). f.what) k ∙ w in (sym l, cc)
read_is t taken place mine (HearsClock a) e left v s h w =
    let k : entry_of t (log_of mine) (Clock a) ≡ e = cc in
    let q : Clock a ≡ Read v s = ap (λ (f : Entry). f.what) k ∙ w in absurd (cc)
read_is t taken place mine (HearsDraw a) e left v s h w =
    let k : entry_of t (log_of mine) (Draw a) ≡ e = cc in
    let q : Draw a ≡ Read v s = ap (λ (f : Entry). f.what) k ∙ w in absurd (cc)
read_is t taken place mine (Sends p) e left v s h w = absurd (cc)
read_is t taken place mine Ends e left v s h w = absurd (cc)

pub touch_of : {V : Type 0} (m : Meaning V) (inputs : ℕ → List Packet) (mine : List (Step V)) (r : Receipt V)
    (e : Entry) (v s : ℕ) → IsOwnMove m inputs mine r → IsLogged r e → e.what ≡ Access v s
    → (y : V) × IsTouch r v y × (s ≡ r.place + 1)
touch_of {V} m inputs mine r e v s alone (left, is) w =
    let k : (y : V) × (left ≡ Some y) × (s ≡ r.place + 1) =
    what_is r.step.thread r.step.after.taken r.place mine alone.0 e left v s (sym alone.2 ∙ is) w in
    (k.0, (e, is ∙ ap (λ (o : Option V). Did e o) k.1, w ∙ ap (λ (n : ℕ). Access v n) k.2), k.2)

pub read_of : {V : Type 0} (m : Meaning V) (inputs : ℕ → List Packet) (mine : List (Step V)) (r : Receipt V) (e : Entry)
    (v s : ℕ) → IsOwnMove m inputs mine r → IsLogged r e → e.what ≡ Read v s → IsRead r v × (s ≡ r.place)
read_of {V} m inputs mine r e v s alone (left, is) w =
    let k : (left ≡ None) × (s ≡ r.place) =
    read_is r.step.thread r.step.after.taken r.place mine alone.0 e left v s (sym alone.2 ∙ is) w in
    ((e, is ∙ ap (λ (o : Option V). Did e o) k.0, w ∙ ap (λ (n : ℕ). Read v n) k.1), k.1)

-- no entry is its own predecessor
pub not_next_itself : (e : Entry) → IsNext e e → ⊥
not_next_itself e (inl h) = absurd (omega (arith, h.1))
not_next_itself e (inr (inl (v, s, a, b))) =
    let k : Access v s ≡ Access v (s + 1) = sym a ∙ b in let n : s ≡ s + 1 = cc in absurd (omega arith)
not_next_itself e (inr (inr (inl (v, s, a, b)))) = let k : Access v s ≡ Read v s = sym a ∙ b in cc
not_next_itself e (inr (inr (inr (v, s, a, b)))) = let k : Read v s ≡ Access v (s + 1) = sym a ∙ b in cc

module _ {V : Type 0} (m : Meaning V) (inputs : ℕ → List Packet) (threads : ℕ) (past : List (Step V)) (rs : Receipts V)
    (linked : IsLinked m inputs threads past rs) (r : Receipt V) where
  -- the receipts with one more
  abbrev pub with_one : Receipts V
  with_one = update r.step.thread (r ∷ rs r.step.thread) rs

  pub in_more : (q : Receipt V) → InRound (update r.step.thread (r ∷ rs r.step.thread) rs) q → (r ≡ q) ⊎ InRound rs q
  in_more q h = go (is_or q.step.thread r.step.thread)
    where
      go : (q.step.thread ≡ r.step.thread) ⊎ (q.step.thread ≢ r.step.thread) → (r ≡ q) ⊎ InRound rs q
      go (inl same) = among (subst (λ (l : List (Receipt V)). Among q l)
          (ap (λ (u : ℕ). update r.step.thread (r ∷ rs r.step.thread) rs u) same
          ∙ updated r.step.thread (r ∷ rs r.step.thread) rs) h)
        where
          among : Among q (r ∷ rs r.step.thread) → (r ≡ q) ⊎ InRound rs q
          among (inl e) = inl e
          among (inr a) = inr (subst (λ (u : ℕ). Among q (rs u)) (sym same) a)
      go (inr apart) = inr (subst (λ (l : List (Receipt V)). Among q l)
          (not_updated r.step.thread q.step.thread (r ∷ rs r.step.thread) rs apart) h)

  pub in_old : (q : Receipt V) → InRound rs q → InRound (update r.step.thread (r ∷ rs r.step.thread) rs) q
  in_old q h = go (is_or q.step.thread r.step.thread)
    where
      go : (q.step.thread ≡ r.step.thread) ⊎ (q.step.thread ≢ r.step.thread)
          → InRound (update r.step.thread (r ∷ rs r.step.thread) rs) q
      go (inl same) = subst (λ (l : List (Receipt V)). Among q l)
          (sym (ap (λ (u : ℕ). update r.step.thread (r ∷ rs r.step.thread) rs u) same
          ∙ updated r.step.thread (r ∷ rs r.step.thread) rs)) (inr (subst (λ (u : ℕ). Among q (rs u)) same h))
      go (inr apart) = subst (λ (l : List (Receipt V)). Among q l)
          (sym (not_updated r.step.thread q.step.thread (r ∷ rs r.step.thread) rs apart)) h

  pub in_new : InRound (update r.step.thread (r ∷ rs r.step.thread) rs) r
  in_new =
      subst (λ (l : List (Receipt V)). Among r l) (sym (updated r.step.thread (r ∷ rs r.step.thread) rs)) (inl refl)

  pub known_old : (d : Entry) (st : ℕ → ℕ) → IsKnown past rs d st
      → IsKnown past (update r.step.thread (r ∷ rs r.step.thread) rs) d st
  known_old d st (inl (f, here, l, same)) = inl (f, in_old f here, l, same)
  known_old d st (inr k) = inr k

  pub known_more : (d : Entry) (st : ℕ → ℕ) → IsKnown past (update r.step.thread (r ∷ rs r.step.thread) rs) d st
      → (IsLogged r d × ((u : ℕ) → slice_index r.stamp u ≡ st u)) ⊎ IsKnown past rs d st
  known_more d st (inl (f, here, l, same)) = go (in_more f here)
    where
      go : (r ≡ f) ⊎ InRound rs f → (IsLogged r d × ((u : ℕ) → slice_index r.stamp u ≡ st u)) ⊎ IsKnown past rs d st
      go (inl e) = inl (
        subst (λ (z : Receipt V). IsLogged z d) (sym e) l,
        λ u. ap (λ (z : Receipt V). slice_index z.stamp u) e ∙ same u,
      )
      go (inr old) = inr (inl (f, old, l, same))
  known_more d st (inr k) = inr (inr k)

  -- a join stays where the new entry is none of these
  pub join_stays : (These : Entry → Type 0) (join : ℕ → ℕ) → ((d : Entry) → IsLogged r d → These d → ⊥)
      → IsJoinOf past rs These join → IsJoinOf past (update r.step.thread (r ∷ rs r.step.thread) rs) These join
  join_stays These join none j = record {
    above = λ d st these known u. above d st these u (known_more d st known);
    reached = λ u. reached u (j.reached u);
  }
    where
      above : (d : Entry) (st : ℕ → ℕ) → These d → (u : ℕ)
          → (IsLogged r d × ((w : ℕ) → slice_index r.stamp w ≡ st w)) ⊎ IsKnown past rs d st → st u ≤ join u
      above d st these u (inl (l, same)) = absurd (none d l these)
      above d st these u (inr known) = j.above d st these known u

      reached : (u : ℕ) → (join u ≡ 0) ⊎ ((d : Entry) × (st : ℕ → ℕ) × These d × IsKnown past rs d st × (st u ≡ join u))
          → (join u ≡ 0)
          ⊎ ((d : Entry) × (st : ℕ → ℕ) × These d × IsKnown past (update r.step.thread (r ∷ rs r.step.thread) rs) d st
          × (st u ≡ join u))
      reached u (inl z) = inl z
      reached u (inr (d, st, these, known, is)) = inr (d, st, these, known_old d st known, is)

  has_join : (q : Receipt V) (e : Entry) → ((d : Entry) → IsLogged r d → IsNext d e → ⊥) → HasJoin past rs q e
      → HasJoin past (update r.step.thread (r ∷ rs r.step.thread) rs) q e
  has_join q e none j = record {
    join = j.join;
    joins = join_stays (λ d. IsNext d e) j.join none j.joins;
    before = j.before;
    stamp = j.stamp;
  }

  found_old : (v : ℕ) (q : Receipt V) → HasFound m past rs v q
      → HasFound m past (update r.step.thread (r ∷ rs r.step.thread) rs) v q
  found_old v q (inl h) = inl h
  found_old v q (inr (f, here, a, at)) = inr (f, in_old f here, a, at)

  -- Receipts stay linked with one more that has found what is there, and that comes before none of them.
  pub linked_more : r.step.thread < threads → IsOwnMove m inputs (after (rs r.step.thread) past) r
      → ((v : ℕ) (left : V) → IsTouch r v left → (places v (log_of past) ≤ r.place) × HasFound m past rs v r)
      → ((v : ℕ) → IsRead r v → (places v (log_of past) ≤ r.place) × HasFound m past rs v r)
      → ((g : Receipt V) (v : ℕ) (x y : V) → IsTouch r v x → InRound rs g → IsTouch g v y → r.place ≡ g.place → ⊥)
      → ((q : Receipt V) (d e : Entry) → IsLogged r d → InRound rs q → IsLogged q e → IsNext d e → ⊥)
      → ((e : Entry) → IsLogged r e → HasJoin past rs r e)
      → IsLinked m inputs threads past (update r.step.thread (r ∷ rs r.step.thread) rs)
  linked_more low alone touch look single last join = record {
    alone = λ u. each u (is_or u r.step.thread);
    below = λ q here. below q (in_more q here);
    touched = λ q v left here a. touched q v left a (in_more q here);
    looked = λ q v here a. looked q v a (in_more q here);
    once = λ f g v x y fi gi a b at. once f g v x y a b at (in_more f fi) (in_more g gi);
    joined = λ q e here l. joined q e l (in_more q here);
  }
    where
      each : (u : ℕ) → (u ≡ r.step.thread) ⊎ (u ≢ r.step.thread)
          → AreOwnMoves m inputs past u (update r.step.thread (r ∷ rs r.step.thread) rs u)
      each u (inl same) =
          subst (λ (w : ℕ). AreOwnMoves m inputs past w (update r.step.thread (r ∷ rs r.step.thread) rs w)) (sym same)
          (subst (λ (l : List (Receipt V)). AreOwnMoves m inputs past r.step.thread l)
          (sym (updated r.step.thread (r ∷ rs r.step.thread) rs)) (refl, alone, linked.alone r.step.thread))
      each u (inr apart) = subst (λ (l : List (Receipt V)). AreOwnMoves m inputs past u l)
          (sym (not_updated r.step.thread u (r ∷ rs r.step.thread) rs apart)) (linked.alone u)

      below : (q : Receipt V) → (r ≡ q) ⊎ InRound rs q → q.step.thread < threads
      below q (inl e) = subst (λ (z : Receipt V). z.step.thread < threads) e low
      below q (inr old) = linked.below q old

      touched : (q : Receipt V) (v : ℕ) (left : V) → IsTouch q v left → (r ≡ q) ⊎ InRound rs q
          → (places v (log_of past) ≤ q.place) × HasFound m past (update r.step.thread (r ∷ rs r.step.thread) rs) v q
      touched q v left a (inl e) =
          let h = touch v left (subst (λ (z : Receipt V). IsTouch z v left) (sym e) a) in
          subst (λ (z : Receipt V).
          (places v (log_of past) ≤ z.place) × HasFound m past (update r.step.thread (r ∷ rs r.step.thread) rs) v z) e
          (h.0, found_old v r h.1)
      touched q v left a (inr old) = let h = linked.touched q v left old a in (h.0, found_old v q h.1)

      looked : (q : Receipt V) (v : ℕ) → IsRead q v → (r ≡ q) ⊎ InRound rs q
          → (places v (log_of past) ≤ q.place) × HasFound m past (update r.step.thread (r ∷ rs r.step.thread) rs) v q
      looked q v a (inl e) =
          let h = look v (subst (λ (z : Receipt V). IsRead z v) (sym e) a) in
          subst (λ (z : Receipt V).
          (places v (log_of past) ≤ z.place) × HasFound m past (update r.step.thread (r ∷ rs r.step.thread) rs) v z) e
          (h.0, found_old v r h.1)
      looked q v a (inr old) = let h = linked.looked q v old a in (h.0, found_old v q h.1)

      once : (f g : Receipt V) (v : ℕ) (x y : V) → IsTouch f v x → IsTouch g v y → f.place ≡ g.place
          → (r ≡ f) ⊎ InRound rs f → (r ≡ g) ⊎ InRound rs g → f ≡ g
      once f g v x y a b at (inl e) (inl k) = sym e ∙ k
      once f g v x y a b at (inl e) (inr old) = absurd (single g v x y
          (subst (λ (z : Receipt V). IsTouch z v x) (sym e) a) old b (ap (λ (z : Receipt V). z.place) e ∙ at))
      once f g v x y a b at (inr old) (inl k) = absurd (single f v y x
          (subst (λ (z : Receipt V). IsTouch z v y) (sym k) b) old a (ap (λ (z : Receipt V). z.place) k ∙ sym at))
      once f g v x y a b at (inr old) (inr too) = linked.once f g v x y old too a b at

      joined : (q : Receipt V) (e : Entry) → IsLogged q e → (r ≡ q) ⊎ InRound rs q
          → HasJoin past (update r.step.thread (r ∷ rs r.step.thread) rs) q e
      joined q e l (inl k) =
          let lr : IsLogged r e = subst (λ (z : Receipt V). IsLogged z e) (sym k) l in
          subst (λ (z : Receipt V). HasJoin past (update r.step.thread (r ∷ rs r.step.thread) rs) z e) k (has_join r e
          (λ d ld next. not_next_itself e (subst (λ (z : Entry). IsNext z e) (logged_once r d e ld lr) next))
          (join e lr))
      joined q e l (inr old) = has_join q e (λ d ld next. last q d e ld old l next) (linked.joined q e old l)
