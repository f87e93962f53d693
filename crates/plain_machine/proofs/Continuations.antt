-- A run is continued by entries of another one, each after the moves of its thread that lead to it.
use Rattle.std.proofs.Common.{◌≡◌, ℕ, ◌+◌, ◌≤◌, ◌<◌, ◌≢◌, true, false, List, [], ◌∷◌, ◌++◌, refl, sym, ap, ◌∙◌, subst}
use Rattle.std.proofs.Common.{inl, inr, ◌⊎◌, arith, Option, Some}
use Rattle.std.proofs.lemmas.Bool.{cases_lt}
use Rattle.plain_text.specs.declared.packet.Packet.{Packet}
use Rattle.entry_order.specs.declared.what.What.TheVariants.{Access, Read}
use Rattle.entry_order.specs.Log.{Entry, entries, places, IsLog, IsIn, IsNext, IsClosed}
use Rattle.entry_order.proofs.Order.{is_or, number_within, place_within, same_number, same_place, entries_same}
use Rattle.entry_order.proofs.Order.{entry_there, closed_thread}
use Rattle.entry_order.proofs.KeptEntries.{in_left, in_right, in_either}
use Rattle.plain_machine.specs.Program.{Meaning}
use Rattle.plain_machine.specs.Machine.{Thread, Effect, Takes, Touches, Looks, HearsClock, HearsDraw, Sends, Ends}
use Rattle.plain_machine.specs.Machine.{Moves, thread_move}
use Rattle.plain_machine.specs.History.{Did, Step, log_of, moves_of, act_of, thread_after, value_after, IsStep}
use Rattle.plain_machine.specs.History.{IsHistory}
use Rattle.plain_machine.specs.Agree.{IsEarlier}
use Rattle.plain_machine.specs.Continue.{IsGrounded, IsQuiet, GoesQuietly, IsLed}
use Rattle.plain_machine.proofs.Histories.{history_log, earlier_refl, earlier_tail, earlier_history, earlier_log}
use Rattle.plain_machine.proofs.Histories.{Leaves, leaves_in, earlier_leaves, is_eq, did_entry, moves_step, find_move}
use Rattle.plain_machine.proofs.MoveLemmas.{is_logged, hand_logs, held_kind, IsOn, held_again}
use Rattle.plain_machine.proofs.Seats.{SameSeat, seat_other}
use Rattle.plain_machine.proofs.Values.{IsValue, is_value}
use Rattle.plain_machine.proofs.Agreement.{SameValues, AllIn, agreed_all, entries_agree}
use Rattle.plain_machine.proofs.LoggedEffects.{logged_makes, makes_logged, quiet_log, logged_or, off_variables, did_on}
use Rattle.plain_machine.proofs.LoggedEffects.{act_again, in_log_at}

pub drop_one : (a b : ℕ) → a + 1 ≡ b + 1 → a ≡ b
drop_one a b h = omega arith

-- the thread made no move since P, or its newest move is its newest entry
abbrev pub At : {X : Type 0} → List (Step X) → List Entry → ℕ → List (Step X) → Type 0
At {X} P more t M =
    ((thread_after M t ≡ thread_after P t) × (entries t (log_of M) ≡ entries t (log_of P)))
    ⊎ ((z : Step X) × (M1 : List (Step X)) × (e : Entry) × (left : Option X) × IsEarlier (z ∷ M1) M × (e.thread ≡ t)
    × (z.act ≡ Did e left) × (thread_after M t ≡ z.after) × (entries t (log_of M) ≡ e.number) × IsIn e more)

pub at_more : {X : Type 0} (P : List (Step X)) (e : Entry) (more : List Entry) (u : ℕ) (M : List (Step X))
    → At P more u M → At P (e ∷ more) u M
at_more P e more u M (inl a) = inl a
at_more P e more u M (inr r) = inr (r.0, r.1, r.2, r.3, r.4, r.5, r.6, r.7, r.8, inr r.9)

-- steps of a history
module _ {X : Type 0} (m : Meaning X) (inputs : ℕ → List Packet) (threads : ℕ) where
  pub other_at : (P : List (Step X)) (more : List Entry) (u : ℕ) (y : Step X) (M : List (Step X))
      → IsStep m inputs threads M y → y.thread ≢ u → At P more u M → At P more u (y ∷ M)
  other_at P more u y M h ne old = go (seat_other m inputs threads u y M h ne) old
    where
      go : SameSeat u (y ∷ M) M → At P more u M → At P more u (y ∷ M)
      go s (inl a) = inl (s.thread ∙ a.0, s.entries ∙ a.1)
      go s (inr r) = inr (r.0, r.1, r.2, r.3, inr r.4, r.5, r.6, s.thread ∙ r.7, s.entries ∙ r.8, r.9)

  -- a move is made again where the thread is the same, and so are the variables that the move is on
  pub again : (t : ℕ) (y : Step X) (H2 M : List (Step X)) (h : IsStep m inputs threads H2 y) → y.thread ≡ t
      → thread_after M t ≡ thread_after H2 t → ((v : ℕ) → IsOn v h.2 → value_after m H2 v ≡ value_after m M v)
      → thread_move m (inputs t) (value_after m M) (thread_after M t) h.1 ≡ Moves y.after h.2
  again t y H2 M h e same s =
      let a : thread_move m (inputs t) (value_after m H2) (thread_after H2 t) h.1 ≡ Moves y.after h.2 = subst
      (λ (u : ℕ). thread_move m (inputs u) (value_after m H2) (thread_after H2 u) h.1 ≡ Moves y.after h.2) e h.3 in
      let b : thread_move m (inputs t) (value_after m H2) (thread_after M t) h.1 ≡ Moves y.after h.2 =
      subst (λ (th : Thread). thread_move m (inputs t) (value_after m H2) th h.1 ≡ Moves y.after h.2) (sym same) a in
      held_again m (inputs t) (value_after m H2) (value_after m M) (thread_after M t).taken h.1 (thread_after M t).hand
      y.after h.2 b s

  -- the count of entries after a logged step, and after another
  pub count_logged : (t : ℕ) (y : Step X) (H2 : List (Step X)) (h : IsStep m inputs threads H2 y) → y.thread ≡ t
      → is_logged h.2 ≡ true → entries t (log_of (y ∷ H2)) ≡ entries t (log_of H2) + 1
  count_logged t y H2 h e on =
      let r = logged_makes y.thread y.after.taken H2 h.2 on in
      let d : (r.0.thread ≡ y.thread) × (r.0.number ≡ entries y.thread (log_of H2) + 1) =
      did_entry y.thread y.after.taken H2 h.2 r.0 r.1 r.2 in
      rw (h.4 ∙ r.2) (entries_same t r.0 (log_of H2) (d.0 ∙ e))

  pub count_quiet : (t : ℕ) (y : Step X) (H2 : List (Step X)) (h : IsStep m inputs threads H2 y) → is_logged h.2 ≡ false
      → entries t (log_of (y ∷ H2)) ≡ entries t (log_of H2)
  count_quiet t y H2 h off =
      rw h.4 (ap (λ (l : List Entry). entries t l) (quiet_log y.thread y.after.taken H2 (log_of H2) h.2 off))

-- an effect that is not logged is a quiet move
pub effect_quiet : {V : Type 0} (t taken : ℕ) (A : List (Step V)) (d : Effect V) → is_logged d ≡ false
    → IsQuiet (act_of t A taken d)
effect_quiet t taken A Takes h = tt
effect_quiet t taken A (Touches v x) h = absurd (cc)
effect_quiet t taken A (Looks v) h = absurd (cc)
effect_quiet t taken A (HearsClock a) h = absurd (cc)
effect_quiet t taken A (HearsDraw a) h = absurd (cc)
effect_quiet t taken A (Sends p) h = tt
effect_quiet t taken A Ends h = tt

pub stays_quietly : {V : Type 0} (t : ℕ) (xs : List (Step V)) → GoesQuietly xs t xs
stays_quietly t [] = refl
stays_quietly t (x ∷ xs) = inl refl

module _ {X : Type 0} (m : Meaning X) (inputs : ℕ → List Packet) (threads : ℕ) (H P : List (Step X))
    (hH : IsHistory m inputs threads H) (hP : IsHistory m inputs threads P) (K : List Entry)
    (closedK : IsClosed (log_of P) K) (inP : (e : Entry) → IsIn e K → IsIn e (log_of P))
    (inH : (e : Entry) → IsIn e K → IsIn e (log_of H)) where
  pub record Goes (more : List Entry) : Type 0 where
    pub steps : List (Step X)
    pub history : IsHistory m inputs threads steps
    pub log_is : log_of steps ≡ more ++ log_of P
    pub base : IsEarlier P steps
    pub at : (t : ℕ) → At P more t steps
    pub led : IsLed P more steps

  record Ready (more : List Entry) (from : List (Step X)) (t : ℕ) (H0 : List (Step X)) : Type 0 where
    steps : List (Step X)
    history : IsHistory m inputs threads steps
    log_is : log_of steps ≡ more ++ log_of P
    base : IsEarlier P steps
    quiet : GoesQuietly from t steps
    thread_is : thread_after steps t ≡ thread_after H0 t
    others : (u : ℕ) → u ≢ t → At P more u steps

  pub shut : (more : List Entry) (M : List (Step X)) → IsGrounded (log_of P) K more → log_of M ≡ more ++ log_of P
      → IsClosed (log_of M) (more ++ K)
  shut more M ground same e f he hf n =
      go (in_either e more (log_of P) (subst (λ (l : List Entry). IsIn e l) same he)) (in_either f more K hf)
    where
      go : IsIn e more ⊎ IsIn e (log_of P) → IsIn f more ⊎ IsIn f K → IsIn e (more ++ K)
      go (inl a) b = in_left e more K a
      go (inr a) (inl b) = in_right e more K (ground f e b a n)
      go (inr a) (inr b) = in_right e more K (closedK e f a b n)

  pub set_in_M : (more : List Entry) (M : List (Step X)) → log_of M ≡ more ++ log_of P → (e : Entry)
      → IsIn e (more ++ K) → IsIn e (log_of M)
  set_in_M more M same e h = subst (λ (l : List Entry). IsIn e l) (sym same) (go (in_either e more K h))
    where
      go : IsIn e more ⊎ IsIn e K → IsIn e (more ++ log_of P)
      go (inl a) = in_left e more (log_of P) a
      go (inr a) = in_right e more (log_of P) (inP e a)

  pub set_in_H : (more : List Entry) → ((e : Entry) → IsIn e more → IsIn e (log_of H)) → (e : Entry)
      → IsIn e (more ++ K) → IsIn e (log_of H)
  set_in_H more sub e h = go (in_either e more K h)
    where
      go : IsIn e more ⊎ IsIn e K → IsIn e (log_of H)
      go (inl a) = sub e a
      go (inr a) = inH e a

  append_quiet : (more : List Entry) (from : List (Step X)) (t : ℕ) (y : Step X) (H2 : List (Step X))
      (h : IsStep m inputs threads H2 y) → y.thread ≡ t → is_logged h.2 ≡ false → Ready more from t H2
      → Ready more from t (y ∷ H2)
  append_quiet more from t y H2 h e quiet r = record {
    steps = new ∷ r.steps;
    history = (stepped, r.history);
    log_is = quiet_log t y.after.taken r.steps (log_of r.steps) h.2 quiet ∙ r.log_is;
    base = inr r.base;
    quiet = inr (refl, effect_quiet t y.after.taken r.steps h.2 quiet, r.quiet);
    thread_is = rw (is_eq t t refl, is_eq y.thread t e) refl;
    others = λ u ne. other_at m inputs threads P more u new r.steps stepped (λ k. ne (sym k)) (r.others u ne);
  }
    where
      new : Step X
      new = record { thread = t; act = act_of t r.steps y.after.taken h.2; after = y.after }

      stepped : IsStep m inputs threads r.steps new
      stepped = (
        subst (λ (u : ℕ). u < threads) e h.0,
        h.1,
        h.2,
        again m inputs threads t y H2 r.steps h e r.thread_is (λ v k. absurd (off_variables h.2 quiet v k)),
        refl,
      )

  logP : IsLog (log_of P)
  logP = history_log m inputs threads P hP

  step_of : (y : Step X) (H2 : List (Step X)) → IsEarlier (y ∷ H2) H → IsStep m inputs threads H2 y
  step_of y H2 endH = (earlier_history m inputs threads (y ∷ H2) H endH hH).0

  -- where H made as many moves of the thread as P
  at_same : (more : List Entry) (R : Goes more) (t : ℕ) → thread_after R.steps t ≡ thread_after P t → AllIn K t P
      → (H0 : List (Step X)) → IsEarlier H0 H → moves_of t P ≡ moves_of t H0
      → (entries t (log_of P) ≤ entries t (log_of H0))
      × (entries t (log_of H0) ≡ entries t (log_of P) → Ready more R.steps t H0)
  at_same more R t ta all H0 endH same =
      let sm : SameSeat t P H0 = (agreed_all m inputs threads K P H hP hH closedK inP inH P (earlier_refl P)).seats P H0
      t (earlier_refl P) endH same all in
      let c : entries t (log_of P) ≡ entries t (log_of H0) = sm.entries in (
        omega arith,
        λ k. record {
          steps = R.steps;
          history = R.history;
          log_is = R.log_is;
          base = R.base;
          quiet = stays_quietly t R.steps;
          thread_is = ta ∙ sm.thread;
          others = λ u ne. R.at u;
        },
      )

  -- the thread made no move since P: from where P left it, up to where it is in an end of H
  ready_a : (more : List Entry) (R : Goes more) (t : ℕ) → thread_after R.steps t ≡ thread_after P t → AllIn K t P
      → (H0 : List (Step X)) → IsEarlier H0 H → moves_of t P ≤ moves_of t H0
      → (entries t (log_of P) ≤ entries t (log_of H0))
      × (entries t (log_of H0) ≡ entries t (log_of P) → Ready more R.steps t H0)
  ready_a more R t ta all [] endH low = at_same more R t ta all [] endH (omega arith)
  ready_a more R t ta all (y ∷ H2) endH low = go (is_or (moves_of t P) (moves_of t (y ∷ H2))) (moves_step t y H2)
      (λ k. ready_a more R t ta all H2 (earlier_tail y H2 H endH) k)
    where
      hy : IsStep m inputs threads H2 y
      hy = step_of y H2 endH

      mine : y.thread ≡ t → (is_logged hy.2 ≡ true) ⊎ (is_logged hy.2 ≡ false)
          → (entries t (log_of P) ≤ entries t (log_of H2))
          × (entries t (log_of H2) ≡ entries t (log_of P) → Ready more R.steps t H2)
          → (entries t (log_of P) ≤ entries t (log_of (y ∷ H2)))
          × (entries t (log_of (y ∷ H2)) ≡ entries t (log_of P) → Ready more R.steps t (y ∷ H2))
      mine e (inl on) rest =
          let c : entries t (log_of (y ∷ H2)) ≡ entries t (log_of H2) + 1 =
          count_logged m inputs threads t y H2 hy e on in
          (omega (arith, rest.0), λ k. absurd (omega (arith, rest.0, k)))
      mine e (inr off) rest =
          let c : entries t (log_of (y ∷ H2)) ≡ entries t (log_of H2) = count_quiet m inputs threads t y H2 hy off in
          (omega (arith, rest.0), λ k. append_quiet more R.steps t y H2 hy e off (rest.1 (sym c ∙ k)))

      go : (moves_of t P ≡ moves_of t (y ∷ H2)) ⊎ (moves_of t P ≢ moves_of t (y ∷ H2))
          → ((y.thread ≢ t) × (moves_of t (y ∷ H2) ≡ moves_of t H2))
          ⊎ ((y.thread ≡ t) × (moves_of t (y ∷ H2) ≡ moves_of t H2 + 1))
          → (moves_of t P ≤ moves_of t H2
          → (entries t (log_of P) ≤ entries t (log_of H2))
          × (entries t (log_of H2) ≡ entries t (log_of P) → Ready more R.steps t H2))
          → (entries t (log_of P) ≤ entries t (log_of (y ∷ H2)))
          × (entries t (log_of (y ∷ H2)) ≡ entries t (log_of P) → Ready more R.steps t (y ∷ H2))
      go (inl k) b rest = at_same more R t ta all (y ∷ H2) endH k
      go (inr k) (inl b) rest =
          let q = rest (omega (arith, b.1)) in
          let sm : SameSeat t (y ∷ H2) H2 = seat_other m inputs threads t y H2 hy b.0 in
          let c : entries t (log_of (y ∷ H2)) ≡ entries t (log_of H2) = sm.entries in (
            omega (arith, q.0),
            λ k2.
                let r : Ready more R.steps t H2 = q.1 (sym c ∙ k2) in
                record {
                  steps = r.steps;
                  history = r.history;
                  log_is = r.log_is;
                  base = r.base;
                  quiet = r.quiet;
                  thread_is = r.thread_is ∙ sym sm.thread;
                  others = r.others;
                },
          )
      go (inr k) (inr b) rest = mine b.0 (logged_or hy.2) (rest (omega (arith, k, b.1)))

  -- the thread's newest move is an entry
  ready_b : (more : List Entry) (R : Goes more) → IsGrounded (log_of P) K more
      → ((e : Entry) → IsIn e more → IsIn e (log_of H)) → (t : ℕ)
      → ((z : Step X) × (M1 : List (Step X)) × (e : Entry) × (left : Option X) × IsEarlier (z ∷ M1) R.steps
      × (e.thread ≡ t) × (z.act ≡ Did e left) × (thread_after R.steps t ≡ z.after)
      × (entries t (log_of R.steps) ≡ e.number) × IsIn e more) → (H0 : List (Step X)) → IsEarlier H0 H
      → entries t (log_of H0) ≡ entries t (log_of R.steps) → Ready more R.steps t H0
  ready_b more R ground sub t r [] endH n =
      let w : (1 ≤ r.2.number) × (r.2.number ≤ entries r.2.thread (log_of R.steps)) =
      number_within (log_of R.steps) r.2 (history_log m inputs threads R.steps R.history)
      (earlier_log (r.0 ∷ r.1) R.steps r.2 r.4 (leaves_in (r.0 ∷ r.1) r.2 r.3 (inl r.6))) in
      absurd (omega (arith, r.8, n, w))
  ready_b more R ground sub t r (y ∷ H2) endH n =
      go (is_or y.thread t) (logged_or hy.2) (λ k. ready_b more R ground sub t r H2 (earlier_tail y H2 H endH) k)
    where
      hy : IsStep m inputs threads H2 y
      hy = step_of y H2 endH

      base : y.thread ≡ t → is_logged hy.2 ≡ true → Ready more R.steps t (y ∷ H2)
      base e on =
          let g = logged_makes y.thread y.after.taken H2 hy.2 on in
          let ay : y.act ≡ Did g.0 g.1 = hy.4 ∙ g.2 in
          let gy : (g.0.thread ≡ y.thread) × (g.0.number ≡ entries y.thread (log_of H2) + 1) =
          did_entry y.thread y.after.taken H2 hy.2 g.0 g.1 g.2 in
          let count : entries t (log_of (y ∷ H2)) ≡ entries t (log_of H2) + 1 =
          count_logged m inputs threads t y H2 hy e on in
          let same : entries y.thread (log_of H2) ≡ entries t (log_of H2) = ap (λ (u : ℕ). entries u (log_of H2)) e in
          let number : r.2.number ≡ g.0.number = omega (arith, r.8, n, count, same, gy.1) in
          let one : r.2 ≡ g.0 = same_number (log_of H) r.2 g.0 (history_log m inputs threads H hH) (sub r.2 r.9)
          (earlier_log (y ∷ H2) H g.0 endH (leaves_in (y ∷ H2) g.0 g.1 (inl ay))) (r.5 ∙ sym (gy.0 ∙ e)) number in
          let z : r.0 ≡ y = entries_agree m inputs threads (more ++ K) R.steps H R.history hH
          (shut more R.steps ground R.log_is) (set_in_M more R.steps R.log_is) (set_in_H more sub) r.0 y r.1 H2 r.2 r.3
          g.1 r.4 endH (in_left r.2 more K r.9) r.6 (ay ∙ ap (λ (f : Entry). Did f g.1) (sym one)) in
          record {
            steps = R.steps;
            history = R.history;
            log_is = R.log_is;
            base = R.base;
            quiet = stays_quietly t R.steps;
            thread_is = r.7 ∙ (ap (λ (s : Step X). s.after) z ∙ rw (is_eq y.thread t e) refl);
            others = λ u ne. R.at u;
          }

      go : (y.thread ≡ t) ⊎ (y.thread ≢ t) → (is_logged hy.2 ≡ true) ⊎ (is_logged hy.2 ≡ false)
          → (entries t (log_of H2) ≡ entries t (log_of R.steps) → Ready more R.steps t H2)
          → Ready more R.steps t (y ∷ H2)
      go (inl e) (inl on) rest = base e on
      go (inl e) (inr off) rest =
          append_quiet more R.steps t y H2 hy e off (rest (sym (count_quiet m inputs threads t y H2 hy off) ∙ n))
      go (inr ne) b rest =
          let sm : SameSeat t (y ∷ H2) H2 = seat_other m inputs threads t y H2 hy ne in
          let q : Ready more R.steps t H2 = rest (sym sm.entries ∙ n) in
          record {
            steps = q.steps;
            history = q.history;
            log_is = q.log_is;
            base = q.base;
            quiet = q.quiet;
            thread_is = q.thread_is ∙ sym sm.thread;
            others = q.others;
          }

  -- where the touches of the variable are as many, and the newest is of the set, the variable has one value
  pub value_again : (more : List Entry) (M H1 : List (Step X)) (v : ℕ) → IsHistory m inputs threads M
      → log_of M ≡ more ++ log_of P → IsGrounded (log_of P) K more → ((e : Entry) → IsIn e more → IsIn e (log_of H))
      → IsEarlier H1 H
      → ((g : Entry) → IsIn g (log_of M) → g.what ≡ Access v (places v (log_of M)) → IsIn g (more ++ K))
      → places v (log_of M) ≡ places v (log_of H1) → value_after m M v ≡ value_after m H1 v
  value_again more M H1 v hM same ground sub endH known_touch n =
      go (is_value m inputs threads v M hM) (is_value m inputs threads v H1 h1)
    where
      h1 : IsHistory m inputs threads H1
      h1 = earlier_history m inputs threads H1 H endH hH

      agreed : SameValues (more ++ K) M H
      agreed = (agreed_all m inputs threads (more ++ K) M H hM hH (shut more M ground same) (set_in_M more M same)
          (set_in_H more sub) M (earlier_refl M)).values

      go : IsValue m v M → IsValue m v H1 → value_after m M v ≡ value_after m H1 v
      go (inl a) (inl b) = a.1 ∙ sym b.1
      go (inl a) (inr b) =
          let k : (1 ≤ places v (log_of H1)) × (places v (log_of H1) ≤ places v (log_of H1)) = place_within (log_of H1)
          b.0 v (places v (log_of H1)) (history_log m inputs threads H1 h1) (leaves_in H1 b.0 _ b.1) b.2 in
          absurd (omega (arith, a.0, n))
      go (inr a) (inl b) =
          let k : (1 ≤ places v (log_of M)) × (places v (log_of M) ≤ places v (log_of M)) = place_within (log_of M) a.0
          v (places v (log_of M)) (history_log m inputs threads M hM) (leaves_in M a.0 _ a.1) a.2 in
          absurd (omega (arith, b.0, n))
      go (inr a) (inr b) =
          let ina : IsIn a.0 (more ++ K) = known_touch a.0 (leaves_in M a.0 _ a.1) a.2 in
          let k : a.0 ≡ b.0 = same_place (log_of H) a.0 b.0 v (places v (log_of M)) (history_log m inputs threads H hH)
          (set_in_H more sub a.0 ina) (earlier_log H1 H b.0 endH (leaves_in H1 b.0 _ b.1)) a.2
          (b.2 ∙ ap (λ (i : ℕ). Access v i) (sym n)) in
          let l : Leaves H a.0 (Some (value_after m H1 v)) =
          subst (λ (f : Entry). Leaves H f (Some (value_after m H1 v))) (sym k) (earlier_leaves H1 H b.0 _ endH b.1) in
          let e2 : Some (value_after m M v) ≡ Some (value_after m H1 v) = agreed a.0 _ _ ina a.1 l in
          cc

  -- one more entry
  extend : (e : Entry) (more : List Entry) → IsLog (e ∷ (more ++ log_of P)) → IsGrounded (log_of P) K (e ∷ more)
      → ((f : Entry) → IsIn f (e ∷ more) → IsIn f (log_of H)) → Goes more → Goes (e ∷ more)
  extend e more good ground sub R = record {
    steps = new ∷ rd.steps;
    history = (stepped, rd.history);
    log_is = rw act (ap (λ (l : List Entry). e ∷ l) rd.log_is);
    base = inr rd.base;
    at = λ u. at u (is_or x.thread u);
    led = ((found.2, act), R.steps, subst (λ (t : ℕ). GoesQuietly R.steps t rd.steps) (sym ex.0) rd.quiet, R.led);
  }
    where
      ground1 : IsGrounded (log_of P) K more
      ground1 f g hf hg n = ground f g (inr hf) hg n

      sub1 : (f : Entry) → IsIn f more → IsIn f (log_of H)
      sub1 f h = sub f (inr h)

      found : (x : Step X) × (earlier : List (Step X)) × (left : Option X) × IsEarlier (x ∷ earlier) H
          × (x.act ≡ Did e left)
      found = in_log_at H e (sub e (inl refl))

      x : Step X
      x = found.0

      H1 : List (Step X)
      H1 = found.1

      hx : IsStep m inputs threads H1 x
      hx = step_of x H1 found.3

      endH1 : IsEarlier H1 H
      endH1 = earlier_tail x H1 H found.3

      ex : (e.thread ≡ x.thread) × (e.number ≡ entries x.thread (log_of H1) + 1)
      ex = did_entry x.thread x.after.taken H1 hx.2 e found.2 (sym hx.4 ∙ found.4)

      logs : entries x.thread (log_of R.steps) ≡ entries x.thread (more ++ log_of P)
      logs = ap (λ (l : List Entry). entries x.thread l) R.log_is

      counts : entries x.thread (log_of H1) ≡ entries x.thread (more ++ log_of P)
      counts =
          let k : entries e.thread (more ++ log_of P) ≡ entries x.thread (more ++ log_of P) =
          ap (λ (u : ℕ). entries u (more ++ log_of P)) ex.0 in
          omega (arith, ex.1, good.0)

      -- where the thread made no move since P, its entries in P are in K
      all : entries x.thread (log_of R.steps) ≡ entries x.thread (log_of P) → AllIn K x.thread P
      all same f here th = pick (is_or f.number (entries x.thread (log_of P)))
        where
          w : (1 ≤ f.number) × (f.number ≤ entries f.thread (log_of P))
          w = number_within (log_of P) f logP here

          wt : entries f.thread (log_of P) ≡ entries x.thread (log_of P)
          wt = ap (λ (u : ℕ). entries u (log_of P)) th

          last : (g : Entry) → IsIn g (log_of P) → g.thread ≡ x.thread
              → g.number ≡ entries x.thread (log_of P) → IsIn g K
          last g hg tg ng = ground e g (inl refl) hg (inl (tg ∙ sym ex.0, omega (arith, ng, same, logs, counts, ex.1)))

          pick : (f.number ≡ entries x.thread (log_of P)) ⊎ (f.number ≢ entries x.thread (log_of P)) → IsIn f K
          pick (inl k) = last f here th k
          pick (inr k) =
              let g =
              entry_there (log_of P) x.thread (entries x.thread (log_of P)) logP (omega (arith, w, wt)) (omega arith) in
              closed_thread (log_of P) K f g.0 logP closedK here g.1 (last g.0 g.1 g.2 g.3) (th ∙ sym g.2)
              (omega (arith, w, wt, k, g.3))

      -- P made no more moves of the thread than H before the entry
      fewer : entries x.thread (log_of R.steps) ≡ entries x.thread (log_of P)
          → moves_of x.thread P ≤ moves_of x.thread H1
      fewer same = pick (cases_lt (moves_of x.thread H1) (moves_of x.thread P))
        where
          pick : (moves_of x.thread H1 < moves_of x.thread P) ⊎ (moves_of x.thread P ≤ moves_of x.thread H1)
              → moves_of x.thread P ≤ moves_of x.thread H1
          pick (inr k) = k
          pick (inl k) =
              let z = find_move x.thread (moves_of x.thread H1) P k in
              let endz : IsEarlier z.1 P = earlier_tail z.0 z.1 P z.2 in
              let hz : IsStep m inputs threads z.1 z.0 = (earlier_history m inputs threads (z.0 ∷ z.1) P z.2 hP).0 in
              let sm : SameSeat x.thread z.1 H1 =
              (agreed_all m inputs threads K P H hP hH closedK inP inH P (earlier_refl P)).seats z.1 H1 x.thread endz
              endH1 z.4 (λ f here th. all same f (earlier_log z.1 P f endz here) th) in
              let kz : is_logged hz.2 ≡ hand_logs m (thread_after z.1 z.0.thread).hand =
              held_kind m (inputs z.0.thread) (value_after m z.1) (thread_after z.1 z.0.thread).taken hz.1
              (thread_after z.1 z.0.thread).hand z.0.after hz.2 hz.3 in
              let kx : is_logged hx.2 ≡ hand_logs m (thread_after H1 x.thread).hand =
              held_kind m (inputs x.thread) (value_after m H1) (thread_after H1 x.thread).taken hx.1
              (thread_after H1 x.thread).hand x.after hx.2 hx.3 in
              let mid : hand_logs m (thread_after z.1 z.0.thread).hand ≡ hand_logs m (thread_after H1 x.thread).hand =
              ap (λ (u : ℕ). hand_logs m (thread_after z.1 u).hand) z.3
              ∙ ap (λ (th : Thread). hand_logs m th.hand) sm.thread in
              let on : is_logged hz.2 ≡ true =
              kz ∙ (mid ∙ (sym kx ∙ makes_logged x.thread x.after.taken H1 hx.2 e found.2 (sym hx.4 ∙ found.4))) in
              let f = logged_makes z.0.thread z.0.after.taken z.1 hz.2 on in
              let fd : (f.0.thread ≡ z.0.thread) × (f.0.number ≡ entries z.0.thread (log_of z.1) + 1) =
              did_entry z.0.thread z.0.after.taken z.1 hz.2 f.0 f.1 f.2 in
              let fP : IsIn f.0 (log_of P) =
              earlier_log (z.0 ∷ z.1) P f.0 z.2 (leaves_in (z.0 ∷ z.1) f.0 f.1 (inl (hz.4 ∙ f.2))) in
              let w : (1 ≤ f.0.number) × (f.0.number ≤ entries f.0.thread (log_of P)) =
              number_within (log_of P) f.0 logP fP in
              let a : entries f.0.thread (log_of P) ≡ entries x.thread (log_of P) =
              ap (λ (u : ℕ). entries u (log_of P)) (fd.0 ∙ z.3) in
              let b : entries z.0.thread (log_of z.1) ≡ entries x.thread (log_of z.1) =
              ap (λ (u : ℕ). entries u (log_of z.1)) z.3 in
              absurd (omega (arith, w, a, b, fd.1, sm.entries, counts, same, logs))

      rd : Ready more R.steps x.thread H1
      rd = pick (R.at x.thread)
        where
          pick : At P more x.thread R.steps → Ready more R.steps x.thread H1
          pick (inl a) = (ready_a more R x.thread a.0 (all a.1) H1 endH1 (fewer a.1)).1 (counts ∙ (sym logs ∙ a.1))
          pick (inr r) = ready_b more R ground1 sub1 x.thread r H1 endH1 (counts ∙ sym logs)

      -- where it is on a variable, it has the place of that variable
      placed : (v : ℕ) → IsOn v hx.2
          → (e.what ≡ Access v (places v (log_of H1) + 1)) ⊎ (e.what ≡ Read v (places v (log_of H1)))
      placed v on = did_on x.thread x.after.taken H1 hx.2 e found.2 v on (sym hx.4 ∙ found.4)

      same_places : (v : ℕ) → IsOn v hx.2 → places v (log_of H1) ≡ places v (log_of rd.steps)
      same_places v on = go (placed v on)
        where
          d : places v (log_of rd.steps) ≡ places v (more ++ log_of P)
          d = ap (λ (l : List Entry). places v l) rd.log_is

          go : (e.what ≡ Access v (places v (log_of H1) + 1)) ⊎ (e.what ≡ Read v (places v (log_of H1)))
              → places v (log_of H1) ≡ places v (log_of rd.steps)
          go (inl w) =
              let c : places v (log_of H1) + 1 ≡ places v (more ++ log_of P) + 1 =
              good.1.0 v (places v (log_of H1) + 1) w in
              drop_one _ _ c ∙ sym d
          go (inr w) =
              let c : places v (log_of H1) ≡ places v (more ++ log_of P) = good.1.1 v (places v (log_of H1)) w in
              c ∙ sym d

      -- the newest touch of that variable is of the set
      newest_known : (v : ℕ) → IsOn v hx.2 → (g : Entry) → IsIn g (log_of rd.steps)
          → g.what ≡ Access v (places v (log_of rd.steps)) → IsIn g (more ++ K)
      newest_known v on g here w =
          pick (in_either g more (log_of P) (subst (λ (l : List Entry). IsIn g l) rd.log_is here))
        where
          s : places v (log_of H1) ≡ places v (log_of rd.steps)
          s = same_places v on

          next : (e.what ≡ Access v (places v (log_of H1) + 1)) ⊎ (e.what ≡ Read v (places v (log_of H1))) → IsNext g e
          next (inl k) = inr (inl (v, places v (log_of rd.steps), w, k ∙ ap (λ (n : ℕ). Access v (n + 1)) s))
          next (inr k) = inr (inr (inl (v, places v (log_of rd.steps), w, k ∙ ap (λ (n : ℕ). Read v n) s)))

          pick : IsIn g more ⊎ IsIn g (log_of P) → IsIn g (more ++ K)
          pick (inl i) = in_left g more K i
          pick (inr i) = in_right g more K (ground e g (inl refl) i (next (placed v on)))

      act : act_of x.thread rd.steps x.after.taken hx.2 ≡ Did e found.2
      act = act_again x.thread x.after.taken H1 rd.steps hx.2 e found.2 (sym hx.4 ∙ found.4)
          (counts ∙ sym (ap (λ (l : List Entry). entries x.thread l) rd.log_is)) same_places

      new : Step X
      new = record { thread = x.thread; act = act_of x.thread rd.steps x.after.taken hx.2; after = x.after }

      moved : thread_move m (inputs x.thread) (value_after m rd.steps) (thread_after rd.steps x.thread) hx.1
          ≡ Moves x.after hx.2
      moved = again m inputs threads x.thread x H1 rd.steps hx refl rd.thread_is (λ v on. sym (value_again more rd.steps
          H1 v rd.history rd.log_is ground1 sub1 endH1 (newest_known v on) (sym (same_places v on))))

      stepped : IsStep m inputs threads rd.steps new
      stepped = (hx.0, hx.1, hx.2, moved, refl)

      at : (u : ℕ) → (x.thread ≡ u) ⊎ (x.thread ≢ u) → At P (e ∷ more) u (new ∷ rd.steps)
      at u (inl k) = inr (
        new,
        rd.steps,
        e,
        found.2,
        inl refl,
        ex.0 ∙ k,
        act,
        rw (is_eq x.thread u k) refl,
        (rw act (entries_same u e (log_of rd.steps) (ex.0 ∙ k))
            ∙ (ap (λ (l : List Entry). entries u l + 1) rd.log_is
            ∙ (ap (λ (n : ℕ). entries n (more ++ log_of P) + 1) (sym (ex.0 ∙ k)) ∙ sym good.0))),
        inl refl,
      )
      at u (inr ne) = other_at m inputs threads P (e ∷ more) u new rd.steps stepped ne
          (at_more P e more u rd.steps (rd.others u (λ k. ne (sym k))))

  -- Entries of H that are numbered on after P, and whose immediate predecessors in P are in K, continue P.
  pub continue : (more : List Entry) → IsLog (more ++ log_of P) → IsGrounded (log_of P) K more
      → ((e : Entry) → IsIn e more → IsIn e (log_of H)) → Goes more
  continue [] good ground sub =
      record { steps = P; history = hP; log_is = refl; base = earlier_refl P; at = λ t. inl (refl, refl); led = refl }
  continue (e ∷ more) good ground sub = extend e more good ground sub
      (continue more good.2 (λ f g hf hg n. ground f g (inr hf) hg n) (λ f h. sub f (inr h)))
