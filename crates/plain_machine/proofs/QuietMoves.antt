-- Moves that are not logged, made again: a thread goes on quietly to what it sent out in another history.
use Rattle.std.proofs.Common.{◌≡◌, ℕ, ◌+◌, ◌≤◌, ◌<◌, ◌≢◌, true, false, List, [], ◌∷◌, refl, sym, ap, ◌∙◌, subst, inl}
use Rattle.std.proofs.Common.{inr, ◌⊎◌, arith, Option, Some, None}
use Rattle.std.specs.Prelude.{slice_get}
use Rattle.std.proofs.lemmas.Bool.{cases_lt}
use Rattle.plain_machine.specs.FromPlainText.{Packet}
use Rattle.entry_order.specs.Log.{Entry, entries, IsLog, IsIn, IsClosed, PrecedesOutput}
use Rattle.entry_order.proofs.Order.{is_or, number_within, entry_there, entries_same, thread_by_number}
use Rattle.plain_machine.specs.declared.emission.Emission.{Emission}
use Rattle.plain_machine.specs.Program.{Meaning}
use Rattle.plain_machine.specs.Machine.{Hand, Thread, Effect, Takes, Touches, Looks, HearsClock, HearsDraw, Sends, Ends}
use Rattle.plain_machine.specs.Machine.{Moves, take_move, held_move, thread_move}
use Rattle.plain_machine.specs.History.{Act, Took, Did, Emitted, Ended, Step, log_more, log_of, sent_of, outputs}
use Rattle.plain_machine.specs.History.{moves_of, act_of, thread_after, value_after, IsStep, IsHistory}
use Rattle.plain_machine.specs.Agree.{IsEarlier, SendsAfter}
use Rattle.plain_machine.proofs.Histories.{history_log, earlier_refl, earlier_tail, earlier_trans, earlier_history}
use Rattle.plain_machine.proofs.Histories.{earlier_log, moves_step, find_move, did_entry, did_emission}
use Rattle.plain_machine.proofs.MoveLemmas.{is_logged, held_again}
use Rattle.plain_machine.proofs.Seats.{SameSeat, same_step, seat_next, seat_other, seat_trans}
use Rattle.plain_machine.proofs.Agreement.{AllIn, agreed_all, sends_at}
use Rattle.plain_machine.proofs.LoggedEffects.{logged_makes, quiet_log, logged_or, off_variables}
use Rattle.plain_machine.specs.Line.{SendsNext}
use Rattle.plain_machine.specs.Continue.{IsQuiet, GoesQuietly}
use Rattle.plain_machine.proofs.Continuations.{effect_quiet, stays_quietly}

-- an effect that is not logged has the same act from one seat
quiet_act : {V : Type 0} (t taken : ℕ) (A B : List (Step V)) (d : Effect V) → is_logged d ≡ false → SameSeat t A B
    → act_of t A taken d ≡ act_of t B taken d
quiet_act t taken A B Takes off s = refl
quiet_act t taken A B (Touches v x) off s = absurd (cc)
quiet_act t taken A B (Looks v) off s = absurd (cc)
quiet_act t taken A B (HearsClock a) off s = absurd (cc)
quiet_act t taken A B (HearsDraw a) off s = absurd (cc)
quiet_act t taken A B (Sends p) off s =
    ap (λ (n : ℕ). Emitted (record { thread = t; number = n + 1; input = taken; packet = p })) s.outputs
quiet_act t taken A B Ends off s = refl

-- an act that sends something out is no logged one
emits_quiet : {V : Type 0} (t taken : ℕ) (A : List (Step V)) (d : Effect V) (o : Emission)
    → act_of t A taken d ≡ Emitted o → is_logged d ≡ false
emits_quiet t taken A Takes o e = refl
emits_quiet t taken A (Touches v x) o e = absurd (cc)
emits_quiet t taken A (Looks v) o e = absurd (cc)
emits_quiet t taken A (HearsClock a) o e = absurd (cc)
emits_quiet t taken A (HearsDraw a) o e = absurd (cc)
emits_quiet t taken A (Sends p) o e = refl
emits_quiet t taken A Ends o e = refl

-- what a step sent is sent from there on
pub sends_from : {V : Type 0} (y : Step V) (earlier xs : List (Step V)) (o : Emission) (n : ℕ)
    → IsEarlier (y ∷ earlier) xs → y.act ≡ Emitted o → entries o.thread (log_of earlier) ≡ n → SendsAfter xs o n
sends_from y earlier [] o n e a k = absurd (cc)
sends_from {V} y earlier (x ∷ xs) o n (inl e) a k =
    let p : y ≡ x = cc in
    let q : earlier ≡ xs = cc in
    inl (sym (ap (λ (s : Step V). s.act) p) ∙ a, ap (λ (l : List (Step V)). entries o.thread (log_of l)) (sym q) ∙ k)
sends_from y earlier (x ∷ xs) o n (inr e) a k = inr (sends_from y earlier xs o n e a k)

-- what was sent stays sent
pub sends_later : {V : Type 0} (xs ys : List (Step V)) (o : Emission) (n : ℕ) → IsEarlier xs ys → SendsAfter xs o n
    → SendsAfter ys o n
sends_later xs ys o n e h =
    let r = sends_at xs o n h in sends_from r.0 r.1 ys o n (earlier_trans (r.0 ∷ r.1) xs ys r.2 e) r.3 r.4

-- quiet moves keep the log, and come later
pub quiet_later : {V : Type 0} (from : List (Step V)) (t : ℕ) (to : List (Step V)) → GoesQuietly from t to
    → IsEarlier from to
quiet_later from t [] h = h
quiet_later from t (x ∷ to) (inl h) = inl h
quiet_later from t (x ∷ to) (inr h) = inr (quiet_later from t to h.2)

pub quiet_same_log : {V : Type 0} (from : List (Step V)) (t : ℕ) (to : List (Step V)) → GoesQuietly from t to
    → log_of to ≡ log_of from
quiet_same_log {V} from t [] h = ap (λ (l : List (Step V)). log_of l) (sym h)
quiet_same_log {V} from t (x ∷ to) (inl h) = ap (λ (l : List (Step V)). log_of l) (sym h)
quiet_same_log {V} from t (x ∷ to) (inr h) = go x.act h.1 (quiet_same_log from t to h.2)
  where
    go : (a : Act V) → IsQuiet a → log_of to ≡ log_of from → log_more a (log_of to) ≡ log_of from
    go (Took k) q r = r
    go (Did e left) q r = absurd q
    go (Emitted o) q r = r
    go (Ended k) q r = r

module _ {X : Type 0} (m : Meaning X) (inputs : ℕ → List Packet) (threads : ℕ) where
  -- a quiet step can be made again from the same seat
  pub step_again : (A B : List (Step X)) (y : Step X) (h : IsStep m inputs threads A y) → is_logged h.2 ≡ false
      → SameSeat y.thread A B → IsStep m inputs threads B y
  step_again A B y h off s =
      let a : thread_move m (inputs y.thread) (value_after m A) (thread_after B y.thread) h.1 ≡ Moves y.after h.2 =
      subst (λ (th : Thread). thread_move m (inputs y.thread) (value_after m A) th h.1 ≡ Moves y.after h.2)
      s.thread h.3 in (
        h.0,
        h.1,
        h.2,
        held_again m (inputs y.thread) (value_after m A) (value_after m B) (thread_after B y.thread).taken h.1
            (thread_after B y.thread).hand y.after h.2 a (λ v on. absurd (off_variables h.2 off v on)),
        h.4 ∙ quiet_act y.thread y.after.taken A B h.2 off s,
      )

  module _ (R M : List (Step X)) (hR : IsHistory m inputs threads R) (hM : IsHistory m inputs threads M)
      (D : List Entry) (closed : IsClosed (log_of R) D) (inR : (e : Entry) → IsIn e D → IsIn e (log_of R))
      (inM : (e : Entry) → IsIn e D → IsIn e (log_of M)) where
    seat_of : (t : ℕ) (R0 M0 : List (Step X)) → IsEarlier R0 R → IsEarlier M0 M → moves_of t R0 ≡ moves_of t M0
        → AllIn D t R0 → SameSeat t R0 M0
    seat_of t R0 M0 endR endM n all =
        (agreed_all m inputs threads D R M hR hM closed inR inM R (earlier_refl R)).seats R0 M0 t endR endM n all

    -- M is past that moment of the thread, or goes on quietly to it
    abbrev Caught : ℕ → List (Step X) → Type 0
    Caught t R0 =
        (moves_of t R0 < moves_of t M)
        ⊎ ((to : List (Step X)) × IsHistory m inputs threads to × GoesQuietly M t to × SameSeat t R0 to)

    quiet_count : (t : ℕ) (y : Step X) (R1 : List (Step X)) (h : IsStep m inputs threads R1 y) → is_logged h.2 ≡ true
        → y.thread ≡ t → entries t (log_of (y ∷ R1)) ≡ entries t (log_of R1) + 1
    quiet_count t y R1 h on e =
        let r = logged_makes y.thread y.after.taken R1 h.2 on in
        let d : (r.0.thread ≡ y.thread) × (r.0.number ≡ entries y.thread (log_of R1) + 1) =
        did_entry y.thread y.after.taken R1 h.2 r.0 r.1 r.2 in
        rw (h.4 ∙ r.2) (entries_same t r.0 (log_of R1) (d.0 ∙ e))

    catch : (t : ℕ) (R0 : List (Step X)) → IsEarlier R0 R → AllIn D t R0 → entries t (log_of R0) ≤ entries t (log_of M)
        → Caught t R0
    catch t [] end all low = go (is_or 0 (moves_of t M))
      where
        go : (0 ≡ moves_of t M) ⊎ (0 ≢ moves_of t M) → Caught t []
        go (inl k) = inr (M, hM, stays_quietly t M, seat_of t [] M end (earlier_refl M) k all)
        go (inr k) = inl (omega (arith, k))
    catch t (y ∷ R1) end all low = go (moves_step t y R1) (cases_lt (moves_of t (y ∷ R1)) (moves_of t M))
        (is_or (moves_of t (y ∷ R1)) (moves_of t M)) (logged_or hy.2)
        (λ k. catch t R1 (earlier_tail y R1 R end) (λ e here th. all e (grow e here) th) k)
      where
        hy : IsStep m inputs threads R1 y
        hy = (earlier_history m inputs threads (y ∷ R1) R end hR).0

        grow : (e : Entry) → IsIn e (log_of R1) → IsIn e (log_of (y ∷ R1))
        grow e here = earlier_log R1 (y ∷ R1) e (inr (earlier_refl R1)) here

        quiet_on : y.thread ≡ t → is_logged hy.2 ≡ false → Caught t R1 → moves_of t M ≤ moves_of t R1
            → Caught t (y ∷ R1)
        quiet_on e off (inl k) n = absurd (omega arith)
        quiet_on e off (inr (to, hto, q, s)) n =
            let s2 : SameSeat y.thread R1 to = subst (λ (u : ℕ). SameSeat u R1 to) (sym e) s in
            inr (
              y ∷ to,
              (step_again R1 to y hy off s2, hto),
              inr (e, subst (λ (a : Act X). IsQuiet a) (sym hy.4) (effect_quiet y.thread y.after.taken R1 hy.2 off), q),
              seat_next t R1 to y y refl s,
            )

        logged_on : y.thread ≡ t → is_logged hy.2 ≡ true → Caught t R1 → moves_of t M ≤ moves_of t R1
            → Caught t (y ∷ R1)
        logged_on e on (inl k) n = absurd (omega arith)
        logged_on e on (inr (to, hto, q, s)) n =
            let c : entries t (log_of (y ∷ R1)) ≡ entries t (log_of R1) + 1 = quiet_count t y R1 hy on e in
            let d : entries t (log_of to) ≡ entries t (log_of M) =
            ap (λ (l : List Entry). entries t l) (quiet_same_log M t to q) in
            let s2 : entries t (log_of R1) ≡ entries t (log_of to) = s.entries in
            absurd (omega arith)

        go : ((y.thread ≢ t) × (moves_of t (y ∷ R1) ≡ moves_of t R1))
            ⊎ ((y.thread ≡ t) × (moves_of t (y ∷ R1) ≡ moves_of t R1 + 1))
            → (moves_of t (y ∷ R1) < moves_of t M) ⊎ (moves_of t M ≤ moves_of t (y ∷ R1))
            → (moves_of t (y ∷ R1) ≡ moves_of t M) ⊎ (moves_of t (y ∷ R1) ≢ moves_of t M)
            → (is_logged hy.2 ≡ true) ⊎ (is_logged hy.2 ≡ false)
            → (entries t (log_of R1) ≤ entries t (log_of M) → Caught t R1) → Caught t (y ∷ R1)
        go a (inl k) c d rest = inl k
        go a (inr k) (inl c) d rest = inr (M, hM, stays_quietly t M, seat_of t (y ∷ R1) M end (earlier_refl M) c all)
        go (inl a) (inr k) (inr c) d rest =
            let s : SameSeat t (y ∷ R1) R1 = seat_other m inputs threads t y R1 hy a.0 in
            old s (rest (let q : entries t (log_of (y ∷ R1)) ≡ entries t (log_of R1) = s.entries in omega arith))
          where
            old : SameSeat t (y ∷ R1) R1 → Caught t R1 → Caught t (y ∷ R1)
            old s (inl n) = inl (omega (arith, a.1))
            old s (inr (to, hto, q, r)) = inr (to, hto, q, seat_trans t (y ∷ R1) R1 to s r)
        go (inr a) (inr k) (inr c) (inl on) rest =
            logged_on a.0 on
            (rest (let q : entries t (log_of (y ∷ R1)) ≡ entries t (log_of R1) + 1 = quiet_count t y R1 hy on a.0 in
            omega arith)) (omega (arith, a.1, k, c))
        go (inr a) (inr k) (inr c) (inr off) rest =
            quiet_on a.0 off
            (rest (let q : entries t (log_of (y ∷ R1)) ≡ entries t (log_of R1) =
            rw hy.4 (ap (λ (l : List Entry). entries t l) (quiet_log y.thread y.after.taken R1 (log_of R1) hy.2 off)) in
            omega arith)) (omega (arith, a.1, k, c))

    -- What R sent out, and all of whose predecessors M keeps, M sent out too, or its thread goes on quietly to it.
    pub comes_again : (o : Emission) (n : ℕ) → SendsAfter R o n
        → ((e : Entry) → PrecedesOutput (log_of R) o.thread n e → IsIn e D)
        → SendsAfter M o n
        ⊎ ((mid : List (Step X)) × (y : Step X) × IsHistory m inputs threads (y ∷ mid) × GoesQuietly M o.thread mid
        × (y.thread ≡ o.thread) × (y.act ≡ Emitted o) × (entries o.thread (log_of mid) ≡ n))
    comes_again o n sends preds = go (catch o.thread R1 endR1 all low)
      where
        found : (y : Step X) × (earlier : List (Step X)) × IsEarlier (y ∷ earlier) R × (y.act ≡ Emitted o)
            × (entries o.thread (log_of earlier) ≡ n)
        found = sends_at R o n sends

        y : Step X
        y = found.0

        R1 : List (Step X)
        R1 = found.1

        endR1 : IsEarlier R1 R
        endR1 = earlier_tail y R1 R found.2

        h1 : IsHistory m inputs threads (y ∷ R1)
        h1 = earlier_history m inputs threads (y ∷ R1) R found.2 hR

        hy : IsStep m inputs threads R1 y
        hy = h1.0

        sent : (o.thread ≡ y.thread) × (o.number ≡ outputs y.thread (sent_of R1) + 1)
        sent = did_emission y.thread y.after.taken R1 hy.2 o (sym hy.4 ∙ found.3)

        off : is_logged hy.2 ≡ false
        off = emits_quiet y.thread y.after.taken R1 hy.2 o (sym hy.4 ∙ found.3)

        logR : IsLog (log_of R)
        logR = history_log m inputs threads R hR

        log1 : IsLog (log_of R1)
        log1 = history_log m inputs threads R1 h1.1

        all : AllIn D o.thread R1
        all e here th = preds e (pick (is_or e.number n))
          where
            w : (1 ≤ e.number) × (e.number ≤ entries e.thread (log_of R1))
            w = number_within (log_of R1) e log1 here

            wt : entries e.thread (log_of R1) ≡ entries o.thread (log_of R1)
            wt = ap (λ (u : ℕ). entries u (log_of R1)) th

            inlog : IsIn e (log_of R)
            inlog = earlier_log R1 R e endR1 here

            pick : (e.number ≡ n) ⊎ (e.number ≢ n) → PrecedesOutput (log_of R) o.thread n e
            pick (inl k) = (e, inlog, th, k, inl refl)
            pick (inr k) =
                let g =
                entry_there (log_of R1) o.thread n log1 (omega (arith, w, wt, found.4)) (omega (arith, found.4)) in
                let gin : IsIn g.0 (log_of R) = earlier_log R1 R g.0 endR1 g.1 in (
                  g.0,
                  gin,
                  g.2,
                  g.3,
                  inr (thread_by_number (log_of R) e g.0 logR inlog gin (th ∙ sym g.2)
                      (omega (arith, w, wt, found.4, g.3, k))),
                )

        low : entries o.thread (log_of R1) ≤ entries o.thread (log_of M)
        low = pick (is_or n 0)
          where
            pick : (n ≡ 0) ⊎ (n ≢ 0) → entries o.thread (log_of R1) ≤ entries o.thread (log_of M)
            pick (inl k) = omega (arith, found.4)
            pick (inr k) =
                let g = entry_there (log_of R1) o.thread n log1 (omega (arith, k)) (omega (arith, found.4)) in
                let w : (1 ≤ g.0.number) × (g.0.number ≤ entries g.0.thread (log_of M)) =
                number_within (log_of M) g.0 (history_log m inputs threads M hM) (inM g.0 (all g.0 g.1 g.2)) in
                let wt : entries g.0.thread (log_of M) ≡ entries o.thread (log_of M) =
                ap (λ (u : ℕ). entries u (log_of M)) g.2 in
                omega (arith, w, g.3, found.4)

        go : Caught o.thread R1
            → SendsAfter M o n
            ⊎ ((mid : List (Step X)) × (y : Step X) × IsHistory m inputs threads (y ∷ mid) × GoesQuietly M o.thread mid
            × (y.thread ≡ o.thread) × (y.act ≡ Emitted o) × (entries o.thread (log_of mid) ≡ n))
        go (inr (to, hto, q, s)) =
            let s2 : SameSeat y.thread R1 to = subst (λ (u : ℕ). SameSeat u R1 to) sent.0 s in
            inr (to, y, (step_again R1 to y hy off s2, hto), q, sym sent.0, found.3, sym s.entries ∙ found.4)
        go (inl k) =
            let f = find_move o.thread (moves_of o.thread R1) M k in
            let s : SameSeat o.thread R1 f.1 =
            seat_of o.thread R1 f.1 endR1 (earlier_tail f.0 f.1 M f.2) (sym f.4) all in
            let hx : IsStep m inputs threads f.1 f.0 = (earlier_history m inputs threads (f.0 ∷ f.1) M f.2 hM).0 in
            let one : y ≡ f.0 = same_step m inputs threads R1 f.1 y f.0 hy hx (sym sent.0 ∙ sym f.3)
            (subst (λ (u : ℕ). SameSeat u R1 f.1) sent.0 s)
            (λ e g lx ly a b. absurd (let both : Emitted o ≡ Did e lx = sym found.3 ∙ a in cc)) in
            inl (sends_from f.0 f.1 M o n f.2 (ap (λ (z : Step X). z.act) (sym one) ∙ found.3)
            (sym s.entries ∙ found.4))

  -- a history stays one where the threads have more inputs
  pub more_inputs : (more : ℕ → List Packet)
      → ((t k : ℕ) (p : Packet) → slice_get (inputs t) k ≡ Some p → slice_get (more t) k ≡ Some p) → (x : Step X)
      (steps : List (Step X)) → IsStep m inputs threads steps x → IsStep m more threads steps x
  more_inputs more grow x steps h =
      (h.0, h.1, h.2, held (thread_after steps x.thread).taken (thread_after steps x.thread).hand h.3, h.4)
    where
      take : (taken : ℕ) (answer : Option ℕ) (i j : Option Packet) → ((p : Packet) → i ≡ Some p → j ≡ Some p)
          → take_move m taken answer i ≡ Moves x.after h.2 → take_move m taken answer j ≡ Moves x.after h.2
      take taken (Some a) i j g e = e
      take taken None None j g e = absurd (cc)
      take taken None (Some p) j g e = rw (g p refl) e

      held : (taken : ℕ) (hand : Option Hand)
          → held_move m (inputs x.thread) (value_after m steps) taken h.1 hand ≡ Moves x.after h.2
          → held_move m (more x.thread) (value_after m steps) taken h.1 hand ≡ Moves x.after h.2
      held taken None e =
          take taken h.1 (slice_get (inputs x.thread) taken) (slice_get (more x.thread) taken) (grow x.thread taken) e
      held taken (Some hand) e = e

-- The same, by its name.
pub sends_next : {X : Type 0} (m : Meaning X) (inputs : ℕ → List Packet) (threads : ℕ) (run now : List (Step X))
    → IsHistory m inputs threads run → IsHistory m inputs threads now → (set : List Entry) → IsClosed (log_of run) set
    → ((e : Entry) → IsIn e set → IsIn e (log_of run)) → ((e : Entry) → IsIn e set → IsIn e (log_of now))
    → (o : Emission) (n : ℕ) → SendsAfter run o n
    → ((e : Entry) → PrecedesOutput (log_of run) o.thread n e → IsIn e set)
    → SendsAfter now o n ⊎ SendsNext m inputs threads now o n
sends_next {X} m inputs threads run now hr hn set closed in_run in_now o n sends preds =
    go (comes_again m inputs threads run now hr hn set closed in_run in_now o n sends preds)
  where
    go : SendsAfter now o n
        ⊎ ((mid : List (Step X)) × (y : Step X) × IsHistory m inputs threads (y ∷ mid) × GoesQuietly now o.thread mid
        × (y.thread ≡ o.thread) × (y.act ≡ Emitted o) × (entries o.thread (log_of mid) ≡ n))
        → SendsAfter now o n ⊎ SendsNext m inputs threads now o n
    go (inl k) = inl k
    go (inr (mid, y, hist, quiet, thread, act, after)) =
        inr (record { mid = mid; quiet = quiet; step = y; history = hist; thread = thread; act = act; after = after })
