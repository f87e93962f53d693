-- A step keeps what holds of a world.
use Rattle.std.proofs.Common.{◌≡◌, ℕ, ◌+◌, ◌≤◌, ◌<◌, ◌≢◌, List, [], ◌∷◌, ◌++◌, refl, sym, ap, ◌∙◌, subst, inl, inr, ◌⊎◌}
use Rattle.std.proofs.Common.{arith, Option, Some}
use Rattle.entry_order.specs.declared.what.What.{What}
use Rattle.entry_order.specs.declared.what.What.TheVariants as what
use Rattle.entry_order.specs.Log.{Entry, entries, places, IsLog, IsIn, IsNext}
use Rattle.entry_order.proofs.Order.{is_or, number_within, same_number, places_grow, newest}
use Rattle.entry_order.proofs.KeptEntries.{in_left, apart}
use Rattle.plain_machine.specs.declared.local.Move.{Move}
use Rattle.plain_machine.specs.declared.local.Move.TheVariants.{Access, Read, Clock, Draw, Emit, End}
use Rattle.plain_machine.specs.History.{entry_of}
use Rattle.recovery_world.specs.Turns.{IsReadToCome, IsTouchToCome, HasTurn}
use Rattle.recovery_world.proofs.FromPlainMachine.{tail_log}
use Rattle.recovery_laws.proofs.EntriesToCome.{later_number, later_place, touch_next, next_touch, read_or_touch}
use Rattle.recovery_laws.proofs.EntriesToCome.{next_number, may_touch, may_read}
use Rattle.recovery_laws.proofs.PlacedEntries.{IsFree}
use Rattle.recovery_laws.proofs.LedMoves.{EntryFor}

places_after : (v : ℕ) (more past : List Entry) → places v past ≤ places v (more ++ past)
places_after v [] past = omega arith
places_after v (x ∷ more) past =
    let k : places v past ≤ places v (more ++ past) = places_after v more past in
    let g : places v (more ++ past) ≤ places v (x ∷ (more ++ past)) = places_grow v x (more ++ past) in omega arith

-- an entry of the thread and number, or none
pub find_number : (xs : List Entry) (t n : ℕ)
    → ((f : Entry) × IsIn f xs × (f.thread ≡ t) × (f.number ≡ n))
    ⊎ ((f : Entry) → IsIn f xs → f.thread ≡ t → f.number ≡ n → ⊥)
find_number [] t n = inr (λ f here a b. here)
find_number (x ∷ xs) t n = go (is_or x.thread t) (is_or x.number n) (find_number xs t n)
  where
    other : ((x.thread ≡ t) × (x.number ≡ n) → ⊥)
        → ((f : Entry) × IsIn f xs × (f.thread ≡ t) × (f.number ≡ n))
        ⊎ ((f : Entry) → IsIn f xs → f.thread ≡ t → f.number ≡ n → ⊥)
        → ((f : Entry) × IsIn f (x ∷ xs) × (f.thread ≡ t) × (f.number ≡ n))
        ⊎ ((f : Entry) → IsIn f (x ∷ xs) → f.thread ≡ t → f.number ≡ n → ⊥)
    other ne (inl (f, h, a, b)) = inl (f, inr h, a, b)
    other ne (inr none) = inr (λ f h a b. pick f h a b)
      where
        pick : (f : Entry) → IsIn f (x ∷ xs) → f.thread ≡ t → f.number ≡ n → ⊥
        pick f (inl same) a b = ne (ap (λ (z : Entry). z.thread) same ∙ a, ap (λ (z : Entry). z.number) same ∙ b)
        pick f (inr h) a b = none f h a b

    go : (x.thread ≡ t) ⊎ (x.thread ≢ t) → (x.number ≡ n) ⊎ (x.number ≢ n)
        → ((f : Entry) × IsIn f xs × (f.thread ≡ t) × (f.number ≡ n))
        ⊎ ((f : Entry) → IsIn f xs → f.thread ≡ t → f.number ≡ n → ⊥)
        → ((f : Entry) × IsIn f (x ∷ xs) × (f.thread ≡ t) × (f.number ≡ n))
        ⊎ ((f : Entry) → IsIn f (x ∷ xs) → f.thread ≡ t → f.number ≡ n → ⊥)
    go (inl a) (inl b) rest = inl (x, inl refl, a, b)
    go (inr a) b rest = other (λ k. a k.0) rest
    go (inl a) (inr b) rest = other (λ k. b k.1) rest

access_var : (v s w r : ℕ) → what.Access v s ≡ what.Access w r → (v ≡ w) × (s ≡ r)
access_var v s w r e = (cc, cc)

read_var : (v s w r : ℕ) → what.Read v s ≡ what.Read w r → (v ≡ w) × (s ≡ r)
read_var v s w r e = (cc, cc)

module _ (more past followed : List Entry) (good : IsLog (more ++ past))
    (to_come : (e : Entry) → IsIn e followed → (IsIn e past → ⊥) → IsIn e more)
    (from : (e : Entry) → IsIn e more → IsIn e followed) where
  log_past : IsLog past
  log_past = tail_log more past good

  -- what has the thread's next number is not of the past
  new_one : (t : ℕ) (a : What) → IsIn (entry_of t past a) past → ⊥
  new_one t a h =
      let k : (1 ≤ entries t past + 1) × (entries t past + 1 ≤ entries t past) =
      number_within past (entry_of t past a) log_past h in
      omega (arith, k)

  more_of : (t : ℕ) (a : What) → IsIn (entry_of t past a) followed → IsIn (entry_of t past a) more
  more_of t a h = to_come (entry_of t past a) h (new_one t a)

  touch_of : (g : Entry) (v : ℕ) → IsIn g more → g.what ≡ what.Access v (places v past + 1)
      → IsTouchToCome followed past v g
  touch_of g v h w = (from g h, w)

  -- The thread's next entry is a free one: it has nothing to do with what is to come.
  pub free_one : (t : ℕ) (w : Move) (a : Option ℕ) (e : Entry) → EntryFor t w past a e → HasTurn followed past t w
      → ((f : Entry) → IsIn f more → f.thread ≡ t → f.number ≡ entries t past + 1 → ⊥) → IsFree e more
  free_one t wants a e made turn none = go wants made turn
    where
      no_thread : (f : Entry) → IsIn f more → f.thread ≡ t → ⊥
      no_thread f h th =
          let g = next_number more past good f h in
          none g.0 g.1 (g.2 ∙ th) (g.3 ∙ ap (λ (u : ℕ). entries u past + 1) th)

      thread_of : (c : What) → e ≡ entry_of t past c → e.thread ≡ t
      thread_of c k = ap (λ (z : Entry). z.thread) k

      not_own : (c : What) → IsIn (entry_of t past c) followed → ⊥
      not_own c h = no_thread (entry_of t past c) (more_of t c h) refl

      on_access : (v : ℕ) → e ≡ entry_of t past (what.Access v (places v past + 1)) → HasTurn followed past t (Access v)
          → IsFree e more
      on_access v k turn = record {
        thread = λ f h th. no_thread f h (th ∙ thread_of _ k);
        touches = λ f u s r h a b. next v (next_touch more past good f v r h
            (b ∙ ap (λ (z : ℕ). what.Access z r) (sym (access_var v (places v past + 1) u s (sym w ∙ a)).0)));
        reads = λ f u s r h a b. read f h (access_var v (places v past + 1) u s (sym w ∙ a)).0 r b;
        read = λ f u s r h a b. absurd (let q : what.Access v (places v past + 1) ≡ what.Read u s = sym w ∙ a in cc);
      }
        where
          w : e.what ≡ what.Access v (places v past + 1)
          w = ap (λ (z : Entry). z.what) k

          may : ((f : Entry) → IsReadToCome followed past v f → ⊥)
              × ((g : Entry) → IsTouchToCome followed past v g
              → ((g.thread ≡ t) × (g.number ≡ entries t past + 1) → ⊥) → ⊥)
          may = may_touch followed past t v (not_own _) turn

          next : (u : ℕ) → ((g : Entry) × IsIn g more × (g.what ≡ what.Access v (places v past + 1))) → ⊥
          next u (g, h, c) = may.1 g (touch_of g v h c) (λ q. no_thread g h q.0)

          read : (f : Entry) → IsIn f more → {u : ℕ} → v ≡ u → (r : ℕ) → f.what ≡ what.Read u r → ⊥
          read f h {u} vu r b = pick (read_or_touch more past good f v r h bv)
            where
              bv : f.what ≡ what.Read v r
              bv = b ∙ ap (λ (z : ℕ). what.Read z r) (sym vu)

              pick : (r ≡ places v past) ⊎ ((g : Entry) × IsIn g more × (g.what ≡ what.Access v (places v past + 1)))
                  → ⊥
              pick (inl q) =
                  may.0 f (from f h, bv ∙ ap (λ (z : ℕ). what.Read v z) q, λ old. apart more past f good h old)
              pick (inr g) = next v g

      on_read : (v : ℕ) → e ≡ entry_of t past (what.Read v (places v past)) → HasTurn followed past t (Read v)
          → IsFree e more
      on_read v k turn = record {
        thread = λ f h th. no_thread f h (th ∙ thread_of _ k);
        touches = λ f u s r h a b. absurd (let q : what.Read v (places v past) ≡ what.Access u s = sym w ∙ a in cc);
        reads = λ f u s r h a b. absurd (let q : what.Read v (places v past) ≡ what.Access u s = sym w ∙ a in cc);
        read = λ f u s r h a b. next (next_touch more past good f v r h
            (b ∙ ap (λ (z : ℕ). what.Access z r) (sym (read_var v (places v past) u s (sym w ∙ a)).0)));
      }
        where
          w : e.what ≡ what.Read v (places v past)
          w = ap (λ (z : Entry). z.what) k

          next : ((g : Entry) × IsIn g more × (g.what ≡ what.Access v (places v past + 1))) → ⊥
          next (g, h, c) = may_read followed past t v (not_own _) turn g (touch_of g v h c) (λ q. no_thread g h q.0)

      on_clock : (c : ℕ) → e ≡ entry_of t past (what.Clock c) → IsFree e more
      on_clock c k = record {
        thread = λ f h th. no_thread f h (th ∙ thread_of _ k);
        touches = λ f u s r h a b.
            absurd (let q : what.Clock c ≡ what.Access u s = sym (ap (λ (z : Entry). z.what) k) ∙ a in cc);
        reads = λ f u s r h a b.
            absurd (let q : what.Clock c ≡ what.Access u s = sym (ap (λ (z : Entry). z.what) k) ∙ a in cc);
        read = λ f u s r h a b.
            absurd (let q : what.Clock c ≡ what.Read u s = sym (ap (λ (z : Entry). z.what) k) ∙ a in cc);
      }

      on_draw : (c : ℕ) → e ≡ entry_of t past (what.Draw c) → IsFree e more
      on_draw c k = record {
        thread = λ f h th. no_thread f h (th ∙ thread_of _ k);
        touches = λ f u s r h a b.
            absurd (let q : what.Draw c ≡ what.Access u s = sym (ap (λ (z : Entry). z.what) k) ∙ a in cc);
        reads = λ f u s r h a b.
            absurd (let q : what.Draw c ≡ what.Access u s = sym (ap (λ (z : Entry). z.what) k) ∙ a in cc);
        read = λ f u s r h a b.
            absurd (let q : what.Draw c ≡ what.Read u s = sym (ap (λ (z : Entry). z.what) k) ∙ a in cc);
      }

      go : (w : Move) → EntryFor t w past a e → HasTurn followed past t w → IsFree e more
      go (Access v) k turn = on_access v k turn
      go (Read v) k turn = on_read v k turn
      go Clock k turn = on_clock k.0 k.2
      go Draw k turn = on_draw k.0 k.2
      go Emit k turn = absurd k
      go End k turn = absurd k

  -- What a followed clock or draw is told.
  abbrev pub ToldFor : ℕ → Move → Option ℕ → Type 0
  ToldFor t (Access v) a = Unit {0}
  ToldFor t (Read v) a = Unit {0}
  ToldFor t Clock a =
      (b : ℕ) × (a ≡ Some b) × (IsIn (entry_of t past (what.Clock b)) followed
      ⊎ ((c : ℕ) → IsIn (entry_of t past (what.Clock c)) followed → ⊥))
  ToldFor t Draw a =
      (b : ℕ)
      × (a ≡ Some b)
      × (IsIn (entry_of t past (what.Draw b)) followed ⊎ ((c : ℕ) → IsIn (entry_of t past (what.Draw c)) followed → ⊥))
  ToldFor t Emit a = Unit {0}
  ToldFor t End a = Unit {0}

  -- The thread's next entry is the followed one, which comes after these others in the line: it is that entry, and none
  -- to come precedes it at once.
  pub followed_one : (t : ℕ) (w : Move) (a c : Option ℕ) (e f : Entry) (older : List Entry) → EntryFor t w past a e
      → EntryFor t w (older ++ past) c f → HasTurn followed past t w → ToldFor t w a → IsIn f more → f.thread ≡ t
      → f.number ≡ entries t past + 1 → ((g : Entry) → IsIn g older → IsIn g more) → IsLog (f ∷ (older ++ past))
      → (e ≡ f) × ((g : Entry) → IsIn g more → IsNext g f → ⊥)
  followed_one t wants a c e f older made made_f turn told here th n sub good_f = go wants made made_f turn told
    where
      full : IsIn f (more ++ past)
      full = in_left f more past here

      -- another entry of the thread and number is this one
      only : (g : Entry) → IsIn g more → g.thread ≡ t → g.number ≡ entries t past + 1 → g ≡ f
      only g h gt gn = same_number (more ++ past) g f good (in_left g more past h) full (gt ∙ sym th) (gn ∙ sym n)

      not_older : (g : Entry) → IsIn g older → (g.thread ≡ t) × (g.number ≡ entries t past + 1) → ⊥
      not_older g h q = newest (older ++ past) f good_f
          (in_left f older past (subst (λ (z : Entry). IsIn z older) (only g (sub g h) q.0 q.1) h))

      by_thread : (g : Entry) → IsIn g more → (g.thread ≡ f.thread) × (f.number ≡ g.number + 1) → ⊥
      by_thread g h q =
          let k : entries g.thread past < g.number = later_number more past good g h in
          let u : entries g.thread past ≡ entries t past = ap (λ (z : ℕ). entries z past) (q.0 ∙ th) in
          omega (arith, q.1, k, u, n)

      -- the counts are those of the past
      same_entries : (x : What) → f ≡ entry_of t (older ++ past) x → entries t (older ++ past) ≡ entries t past
      same_entries x k =
          let q : f.number ≡ entries t (older ++ past) + 1 = ap (λ (z : Entry). z.number) k in omega (arith, q, n)

      -- a next touch of the variable among the older ones, where they have touched it
      same_places : (v : ℕ) → ((g : Entry) → IsIn g older → g.what ≡ what.Access v (places v past + 1) → ⊥)
          → places v (older ++ past) ≡ places v past
      same_places v none = pick (is_or (places v (older ++ past)) (places v past))
        where
          low : places v past ≤ places v (older ++ past)
          low = places_after v older past

          pick : (places v (older ++ past) ≡ places v past) ⊎ (places v (older ++ past) ≢ places v past)
              → places v (older ++ past) ≡ places v past
          pick (inl k) = k
          pick (inr k) =
              let g =
              touch_next older past good_f.2 v (places v (older ++ past)) (omega (arith, k, low)) (omega arith) in
              absurd (none g.0 g.1 g.2)

      on_access : (v : ℕ) → e ≡ entry_of t past (what.Access v (places v past + 1))
          → f ≡ entry_of t (older ++ past) (what.Access v (places v (older ++ past) + 1))
          → HasTurn followed past t (Access v) → (e ≡ f) × ((g : Entry) → IsIn g more → IsNext g f → ⊥)
      on_access v k q turn = (k ∙ sym (q ∙ same), λ g h x. first g h x)
        where
          not_own : IsIn (entry_of t past (what.Read v (places v past))) followed → ⊥
          not_own h =
              let one : entry_of t past (what.Read v (places v past)) ≡ f = only _ (more_of t _ h) refl refl in
              let z : what.Read v (places v past) ≡ what.Access v (places v (older ++ past) + 1) =
              ap (λ (z : Entry). z.what) (one ∙ q) in
              cc

          may : ((f : Entry) → IsReadToCome followed past v f → ⊥)
              × ((g : Entry) → IsTouchToCome followed past v g
              → ((g.thread ≡ t) × (g.number ≡ entries t past + 1) → ⊥) → ⊥)
          may = may_touch followed past t v not_own turn

          p : places v (older ++ past) ≡ places v past
          p = same_places v (λ g h w. may.1 g (touch_of g v (sub g h) w) (not_older g h))

          same : entry_of t (older ++ past) (what.Access v (places v (older ++ past) + 1))
              ≡ entry_of t past (what.Access v (places v past + 1))
          same =
              ap (λ (i : ℕ). record { thread = t; number = i + 1; what = what.Access v (places v (older ++ past) + 1) })
              (same_entries _ q)
              ∙ ap (λ (i : ℕ). record { thread = t; number = entries t past + 1; what = what.Access v (i + 1) }) p

          fw : f.what ≡ what.Access v (places v past + 1)
          fw = ap (λ (z : Entry). z.what) (q ∙ same)

          first : (g : Entry) → IsIn g more → IsNext g f → ⊥
          first g h (inl x) = by_thread g h x
          first g h (inr (inl x)) =
              let y = access_var v (places v past + 1) x.0 (x.1 + 1) (sym fw ∙ x.3) in
              let l : places v past < x.1 =
              later_place more past good g v x.1 h (x.2 ∙ ap (λ (i : ℕ). what.Access i x.1) (sym y.0)) in
              omega (arith, y.1, l)
          first g h (inr (inr (inl x))) =
              let z : what.Access v (places v past + 1) ≡ what.Read x.0 x.1 = sym fw ∙ x.3 in cc
          first g h (inr (inr (inr x))) =
              let y = access_var v (places v past + 1) x.0 (x.1 + 1) (sym fw ∙ x.3) in
              let r : x.1 ≡ places v past = omega (arith, y.1) in
              may.0 g (
                from g h,
                x.2 ∙ (ap (λ (i : ℕ). what.Read i x.1) (sym y.0) ∙ ap (λ (i : ℕ). what.Read v i) r),
                λ old. apart more past g good h old,
              )

      on_read : (v : ℕ) → e ≡ entry_of t past (what.Read v (places v past))
          → f ≡ entry_of t (older ++ past) (what.Read v (places v (older ++ past))) → HasTurn followed past t (Read v)
          → (e ≡ f) × ((g : Entry) → IsIn g more → IsNext g f → ⊥)
      on_read v k q turn = (k ∙ sym (q ∙ same), λ g h x. first g h x)
        where
          own_or : (IsIn (entry_of t past (what.Read v (places v past))) followed → ⊥)
              → places v (older ++ past) ≡ places v past
          own_or not_own = same_places v
              (λ g h w. may_read followed past t v not_own turn g (touch_of g v (sub g h) w) (not_older g h))

          p : places v (older ++ past) ≡ places v past
          p = pick (is_or (places v (older ++ past)) (places v past))
            where
              pick : (places v (older ++ past) ≡ places v past) ⊎ (places v (older ++ past) ≢ places v past)
                  → places v (older ++ past) ≡ places v past
              pick (inl z) = z
              pick (inr z) = own_or (λ h.
                  let one : entry_of t past (what.Read v (places v past)) ≡ f = only _ (more_of t _ h) refl refl in
                  let y : what.Read v (places v past) ≡ what.Read v (places v (older ++ past)) =
                  ap (λ (z : Entry). z.what) (one ∙ q) in
                  z (sym (read_var _ _ _ _ y).1))

          same : entry_of t (older ++ past) (what.Read v (places v (older ++ past)))
              ≡ entry_of t past (what.Read v (places v past))
          same =
              ap (λ (i : ℕ). record { thread = t; number = i + 1; what = what.Read v (places v (older ++ past)) })
              (same_entries _ q)
              ∙ ap (λ (i : ℕ). record { thread = t; number = entries t past + 1; what = what.Read v i }) p

          fw : f.what ≡ what.Read v (places v past)
          fw = ap (λ (z : Entry). z.what) (q ∙ same)

          first : (g : Entry) → IsIn g more → IsNext g f → ⊥
          first g h (inl x) = by_thread g h x
          first g h (inr (inl x)) = let z : what.Read v (places v past) ≡ what.Access x.0 (x.1 + 1) = sym fw ∙ x.3 in cc
          first g h (inr (inr (inl x))) =
              let y = read_var v (places v past) x.0 x.1 (sym fw ∙ x.3) in
              let l : places v past < x.1 =
              later_place more past good g v x.1 h (x.2 ∙ ap (λ (i : ℕ). what.Access i x.1) (sym y.0)) in
              omega (arith, y.1, l)
          first g h (inr (inr (inr x))) =
              let z : what.Read v (places v past) ≡ what.Access x.0 (x.1 + 1) = sym fw ∙ x.3 in cc

      -- an entry that is no touch and no read follows its thread alone
      alone : (x : What) → f ≡ entry_of t (older ++ past) x → ((v s : ℕ) → x ≡ what.Access v s → ⊥)
          → ((v s : ℕ) → x ≡ what.Read v s → ⊥) → (g : Entry) → IsIn g more → IsNext g f → ⊥
      alone x q no_access no_read g h (inl k) = by_thread g h k
      alone x q no_access no_read g h (inr (inl k)) = no_access k.0 (k.1 + 1) (sym (ap (λ (z : Entry). z.what) q) ∙ k.3)
      alone x q no_access no_read g h (inr (inr (inl k))) = no_read k.0 k.1 (sym (ap (λ (z : Entry). z.what) q) ∙ k.3)
      alone x q no_access no_read g h (inr (inr (inr k))) =
          no_access k.0 (k.1 + 1) (sym (ap (λ (z : Entry). z.what) q) ∙ k.3)

      -- the same entry, told by the counts of the past
      as_now : (x : What) → f ≡ entry_of t (older ++ past) x → f ≡ entry_of t past x
      as_now x q = q ∙ ap (λ (i : ℕ). record { thread = t; number = i + 1; what = x }) (same_entries x q)

      go : (w : Move) → EntryFor t w past a e → EntryFor t w (older ++ past) c f → HasTurn followed past t w
          → ToldFor t w a → (e ≡ f) × ((g : Entry) → IsIn g more → IsNext g f → ⊥)
      go (Access v) k q turn told = on_access v k q turn
      go (Read v) k q turn told = on_read v k q turn
      go Clock k q turn (b, is, inl h) =
          let one : entry_of t past (what.Clock b) ≡ f = only _ (more_of t _ h) refl refl in
          let kb : k.0 ≡ b = cc (k.1, is) in
          (k.2 ∙ (ap (λ (i : ℕ). entry_of t past (what.Clock i)) kb ∙ one), alone _ q.2 (λ v s z. cc) (λ v s z. cc))
      go Clock k q turn (b, is, inr none) =
          absurd (none q.0 (subst (λ (z : Entry). IsIn z followed) (as_now _ q.2) (from f here)))
      go Draw k q turn (b, is, inl h) =
          let one : entry_of t past (what.Draw b) ≡ f = only _ (more_of t _ h) refl refl in
          let kb : k.0 ≡ b = cc (k.1, is) in
          (k.2 ∙ (ap (λ (i : ℕ). entry_of t past (what.Draw i)) kb ∙ one), alone _ q.2 (λ v s z. cc) (λ v s z. cc))
      go Draw k q turn (b, is, inr none) =
          absurd (none q.0 (subst (λ (z : Entry). IsIn z followed) (as_now _ q.2) (from f here)))
      go Emit k q turn told = absurd k
      go End k q turn told = absurd k
