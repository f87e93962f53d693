-- The ways on from where a master is, move by move.
use Rattle.std.proofs.Common.{◌≡◌, ℕ, zero, suc, ◌+◌, ◌≤◌, ◌<◌, List, [], ◌∷◌, ◌++◌, refl, sym, ap, ◌∙◌, subst, inl}
use Rattle.std.proofs.Common.{inr, ◌⊎◌, arith, Option}
use Rattle.std.specs.Option.{unwrap_or}
use Rattle.input_logger.specs.Inputs.{Fed, inputs_of}
use Rattle.entry_order.specs.Log.{Entry, entries, IsIn}
use Rattle.entry_order.proofs.Order.{entries_same, number_within}
use Rattle.plain_machine.specs.declared.plain_move.PlainMove.{PlainMove}
use Rattle.plain_machine.specs.Program.{Meaning}
use Rattle.plain_machine.specs.History.{Act, Took, Did, Emitted, Ended, Step, log_of, sent_of, outputs, IsHistory}
use Rattle.plain_machine.specs.Agree.{IsEarlier}
use Rattle.plain_machine.specs.Continue.{IsQuiet, GoesQuietly, IsLed}
use Rattle.plain_machine.proofs.Histories.{history_log, earlier_refl, earlier_trans, earlier_history, did_entry}
use Rattle.plain_machine.proofs.LoggedEffects.{entry_thread}
use Rattle.plain_machine.proofs.QuietMoves.{quiet_later, quiet_same_log}
use Rattle.master_core.specs.Mastered.{Mastered}
use Rattle.recovery_world.specs.World.{Sent}
use Rattle.recovery_world.specs.Files.{answer_of_entry}
use Rattle.recovery_world.specs.Finish.{greatest, GoesOn, AllGoOn}
use Rattle.run_end.specs.Playing.{IsMasterAfter, IsTold, MakesNext, LeadsTo, SendsUpTo, AreGreatest, SendsAll}

-- Wherever a way of the one kind begins where the master was, one of the other kind goes on from where it is, to the
-- same end.
abbrev pub IsOnWay : {V : Type 0} → (ℕ → List (Step V) → List (Step V) → Type 0)
    → (ℕ → List (Step V) → List (Step V) → Type 0) → Meaning V → Mastered V → List PlainMove → Mastered V
    → List PlainMove → Type 0
IsOnWay {V} Leads Rests m old moves new schedule =
    (threads : ℕ) (now steps : List (Step V)) → Leads threads now steps → IsMasterAfter m threads now old moves
    → (mid : List (Step V)) × Rests threads mid steps × IsMasterAfter m threads mid new schedule

-- Quiet moves

-- the first of some quiet moves, if there is one
pub first_quiet : {V : Type 0} (from : List (Step V)) (t : ℕ) (to : List (Step V)) → GoesQuietly from t to
    → (from ≡ to) ⊎ ((y : Step V) × (y.thread ≡ t) × IsQuiet y.act × GoesQuietly (y ∷ from) t to)
first_quiet from t [] q = inl q
first_quiet from t (x ∷ to) (inl q) = inl q
first_quiet {V} from t (x ∷ to) (inr q) = go (first_quiet from t to q.2)
  where
    go : (from ≡ to) ⊎ ((y : Step V) × (y.thread ≡ t) × IsQuiet y.act × GoesQuietly (y ∷ from) t to)
        → (from ≡ x ∷ to) ⊎ ((y : Step V) × (y.thread ≡ t) × IsQuiet y.act × GoesQuietly (y ∷ from) t (x ∷ to))
    go (inl same) = inr (x, q.0, q.1, inl (ap (λ (l : List (Step V)). x ∷ l) same))
    go (inr (y, th, k, rest)) = inr (y, th, k, inr (q.0, q.1, rest))

-- a quiet move is told nothing
quiet_told : {V : Type 0} (a : Act V) (answer : ℕ) → IsQuiet a → IsTold a answer
quiet_told (Took k) answer q = λ told e. absurd (cc)
quiet_told (Did e left) answer q = absurd q
quiet_told (Emitted o) answer q = λ told e. absurd (cc)
quiet_told (Ended k) answer q = λ told e. absurd (cc)

-- To an entry

-- the moves of the entry's thread that lead to it, and then the entry
abbrev pub LedOn : {V : Type 0} → Meaning V → Fed → Entry → ℕ → List (Step V) → List (Step V) → Type 0
LedOn m fed e threads now steps = IsHistory m (inputs_of fed) threads steps × IsLed now (e ∷ []) steps

-- the entry is still to be made, or was made
abbrev pub LeadsOrMade : {V : Type 0} → Meaning V → Fed → Entry → ℕ → List (Step V) → List (Step V) → Type 0
LeadsOrMade m fed e threads now steps = LedOn m fed e threads now steps ⊎ (steps ≡ now)

-- what is told for an entry is its recorded value
entry_told : {V : Type 0} (e : Entry) (left : Option V) → IsTold (Did e left) (unwrap_or (answer_of_entry e.what) 0)
entry_told e left = λ told k. sym (ap (λ (o : Option ℕ). unwrap_or o 0) k)

module _ {V : Type 0} (m : Meaning V) (fed : Fed) (threads : ℕ) (e : Entry) where
  -- the entry is the next one of its thread, which there is
  pub led_count : (now steps : List (Step V)) → LedOn m fed e threads now steps
      → (e.thread < threads) × (e.number ≡ entries e.thread (log_of now) + 1)
  led_count now [] l = absurd l.1
  led_count now (x ∷ to) l =
      let q : GoesQuietly now e.thread to = subst (λ (z : List (Step V)). GoesQuietly z e.thread to) l.1.3 l.1.2 in
      let d = did_entry x.thread x.after.taken to l.0.0.2 e l.1.0.0 (sym l.0.0.4 ∙ l.1.0.1) in (
        subst (λ (u : ℕ). u < threads) (sym d.0) l.0.0.0,
        d.1
            ∙ (ap (λ (u : ℕ). entries u (log_of to) + 1) (sym d.0)
            ∙ ap (λ (log : List Entry). entries e.thread log + 1) (quiet_same_log now e.thread to q)),
      )

  -- and is its last one then
  pub led_end : (now steps : List (Step V)) → LedOn m fed e threads now steps
      → entries e.thread (log_of steps) ≡ e.number
  led_end now [] l = absurd l.1
  led_end now (x ∷ to) l =
      let d = did_entry x.thread x.after.taken to l.0.0.2 e l.1.0.0 (sym l.0.0.4 ∙ l.1.0.1) in
      rw l.1.0.1 (entries_same e.thread e (log_of to) refl ∙ (ap (λ (u : ℕ). entries u (log_of to) + 1) d.0 ∙ sym d.1))

  -- one move on the way
  pub led_on : (now steps : List (Step V)) → LedOn m fed e threads now steps
      → (y : Step V)
      × MakesNext m fed e.thread (unwrap_or (answer_of_entry e.what) 0) threads now (y ∷ now)
      × LeadsOrMade m fed e threads (y ∷ now) steps
  led_on now [] l = absurd l.1
  led_on now (x ∷ to) l = go (first_quiet now e.thread to q)
    where
      q : GoesQuietly now e.thread to
      q = subst (λ (z : List (Step V)). GoesQuietly z e.thread to) l.1.3 l.1.2

      go : (now ≡ to) ⊎ ((y : Step V) × (y.thread ≡ e.thread) × IsQuiet y.act × GoesQuietly (y ∷ now) e.thread to)
          → (y : Step V)
          × MakesNext m fed e.thread (unwrap_or (answer_of_entry e.what) 0) threads now (y ∷ now)
          × LeadsOrMade m fed e threads (y ∷ now) (x ∷ to)
      go (inl same) = (
        x,
        (
          x,
          refl,
          subst (λ (z : List (Step V)). IsHistory m (inputs_of fed) threads (x ∷ z)) (sym same) l.0,
          sym (did_entry x.thread x.after.taken to l.0.0.2 e l.1.0.0 (sym l.0.0.4 ∙ l.1.0.1)).0,
          subst (λ (a : Act V). IsTold a (unwrap_or (answer_of_entry e.what) 0)) (sym l.1.0.1) (entry_told e l.1.0.0),
        ),
        inr (ap (λ (z : List (Step V)). x ∷ z) (sym same)),
      )
      go (inr (y, th, k, rest)) = (
        y,
        (
          y,
          refl,
          earlier_history m (inputs_of fed) threads (y ∷ now) to (quiet_later (y ∷ now) e.thread to rest) l.0.1,
          th,
          quiet_told y.act (unwrap_or (answer_of_entry e.what) 0) k,
        ),
        inl (l.0, (l.1.0, y ∷ now, rest, refl)),
      )

  -- A way to it begins so; there is its thread; and it is made at the end.
  pub led_start : (now steps : List (Step V)) → LeadsTo m fed e threads now steps
      → LeadsOrMade m fed e threads now steps
  led_start now steps (h, inl made) = inr made.1
  led_start now steps (h, inr led) = inl (h, led)

  pub led_low : (now steps : List (Step V)) → LeadsTo m fed e threads now steps → e.thread < threads
  led_low now steps (h, inl made) = entry_thread m (inputs_of fed) threads now e
      (subst (λ (l : List (Step V)). IsHistory m (inputs_of fed) threads l) made.1 h) made.0
  led_low now steps (h, inr led) = (led_count now steps (h, led)).0

  pub led_high : (now steps : List (Step V)) → LeadsTo m fed e threads now steps
      → e.number ≤ entries e.thread (log_of steps)
  led_high now steps (h, inl made) =
      (number_within (log_of steps) e (history_log m (inputs_of fed) threads steps h)
      (subst (λ (l : List (Step V)). IsIn e (log_of l)) (sym made.1) made.0)).1
  led_high now steps (h, inr led) = let k = led_end now steps (h, led) in omega (arith, k)

-- By entries in order

pub led_later : {V : Type 0} (past : List (Step V)) (more : List Entry) (steps : List (Step V)) → IsLed past more steps
    → IsEarlier past steps
led_later {V} past [] steps l = subst (λ (z : List (Step V)). IsEarlier past z) (sym l) (earlier_refl past)
led_later past (e ∷ more) [] l = absurd l
led_later past (e ∷ more) (x ∷ steps) l =
    inr (earlier_trans past l.1 steps (led_later past more l.1 l.3) (quiet_later l.1 e.thread steps l.2))

-- the first of the entries, and then the others
pub led_split : {V : Type 0} (past : List (Step V)) (more : List Entry) (e : Entry) (steps : List (Step V))
    → IsLed past (more ++ e ∷ []) steps → (mid : List (Step V)) × IsLed past (e ∷ []) mid × IsLed mid more steps
led_split past [] e steps l = (steps, l, refl)
led_split past (f ∷ more) e [] l = absurd l
led_split past (f ∷ more) e (x ∷ steps) l = let r = led_split past more e l.1 l.3 in (r.0, r.1, (l.0, l.1, l.2, r.2))

-- To an output

-- the thread goes on by one move while it sent out too few
pub sends_on : {V : Type 0} (m : Meaning V) (fed : Fed) (t many threads : ℕ) (now steps : List (Step V))
    → SendsUpTo m fed t many threads now steps → outputs t (sent_of now) < many
    → (y : Step V) × MakesNext m fed t 0 threads now (y ∷ now) × SendsUpTo m fed t many threads (y ∷ now) steps
sends_on {V} m fed t many threads now steps s low = go (first_quiet now t steps s.2.quiet)
  where
    go : (now ≡ steps) ⊎ ((y : Step V) × (y.thread ≡ t) × IsQuiet y.act × GoesQuietly (y ∷ now) t steps)
        → (y : Step V) × MakesNext m fed t 0 threads now (y ∷ now) × SendsUpTo m fed t many threads (y ∷ now) steps
    go (inl same) =
        let enough : many ≤ outputs t (sent_of now) =
        subst (λ (z : List (Step V)). many ≤ outputs t (sent_of z)) (sym same) s.2.enough in
        absurd (omega (arith, enough, low))
    go (inr (y, th, k, rest)) = (
      y,
      (
        y,
        refl,
        earlier_history m (inputs_of fed) threads (y ∷ now) steps (quiet_later (y ∷ now) t steps rest) s.1,
        th,
        quiet_told y.act 0 k,
      ),
      (
        s.0,
        s.1,
        record {
          quiet = rest;
          enough = s.2.enough;
          soonest = λ mid from to there.
              s.2.soonest mid (earlier_trans now (y ∷ now) mid (inr (earlier_refl now)) from) to there;
        },
      ),
    )

-- and is there once it sent out enough
pub sends_end : {V : Type 0} (m : Meaning V) (fed : Fed) (t many threads : ℕ) (now steps : List (Step V))
    → SendsUpTo m fed t many threads now steps → many ≤ outputs t (sent_of now) → now ≡ steps
sends_end m fed t many threads now steps s enough =
    s.2.soonest now (earlier_refl now) (quiet_later now t steps s.2.quiet) enough

-- Thread by thread

-- this many threads, from the i-th on, go on to their greatest released outputs
abbrev pub RestGoOn : {V : Type 0} → List Sent → ℕ → ℕ → List (Step V) → List (Step V) → Type 0
RestGoOn released zero i now steps = steps ≡ now
RestGoOn {V} released (suc left) i now steps =
    (mid : List (Step V)) × GoesOn i (greatest i released) now mid × RestGoOn released left (suc i) mid steps

rest_later : {V : Type 0} (released : List Sent) (left i : ℕ) (now steps : List (Step V))
    → RestGoOn released left i now steps → IsEarlier now steps
rest_later {V} released zero i now steps r = subst (λ (z : List (Step V)). IsEarlier now z) (sym r) (earlier_refl now)
rest_later released (suc left) i now steps r =
    earlier_trans now r.0 steps (quiet_later now i r.0 r.1.quiet) (rest_later released left (suc i) r.0 steps r.2)

-- and one more
rest_more : {V : Type 0} (released : List Sent) (left i : ℕ) (now mid steps : List (Step V))
    → RestGoOn released left i now mid → GoesOn (i + left) (greatest (i + left) released) mid steps
    → RestGoOn released (suc left) i now steps
rest_more {V} released zero i now mid steps r g =
    let n : i + 0 ≡ i = omega arith in
    let here = subst (λ (t : ℕ). GoesOn t (greatest t released) mid steps) n g in
    (steps, subst (λ (z : List (Step V)). GoesOn i (greatest i released) z steps) r here, refl)
rest_more {V} released (suc left) i now mid steps r g =
    let n : i + suc left ≡ suc i + left = omega arith in (
      r.0,
      r.1,
      rest_more released left (suc i) r.0 mid steps r.2
          (subst (λ (t : ℕ). GoesOn t (greatest t released) mid steps) n g),
    )

all_rest : {V : Type 0} (released : List Sent) (n : ℕ) (now steps : List (Step V)) → AllGoOn released n now steps
    → RestGoOn released n 0 now steps
all_rest released zero now steps a = a
all_rest {V} released (suc n) now steps a =
    let k : n ≡ 0 + n = omega arith in
    rest_more released n 0 now a.0 steps (all_rest released n now a.0 a.1)
    (subst (λ (t : ℕ). GoesOn t (greatest t released) a.0 steps) k a.2)

-- from this thread on
pub record SendsRest {V : Type 0} (m : Meaning V) (fed : Fed) (numbers : List ℕ) (i threads : ℕ)
    (now steps : List (Step V)) : Type 0 where
  pub as_fed : threads ≡ fed.threads
  pub history : IsHistory m (inputs_of fed) threads steps
  pub released : List Sent
  pub greatest_are : AreGreatest released threads numbers
  pub left : ℕ
  pub left_is : i + left ≡ threads
  pub rest : RestGoOn released left i now steps

pub sends_first : {V : Type 0} (m : Meaning V) (fed : Fed) (numbers : List ℕ) (threads : ℕ) (now steps : List (Step V))
    → SendsAll m fed numbers threads now steps → SendsRest m fed numbers 0 threads now steps
sends_first m fed numbers threads now steps s = record {
  as_fed = s.0;
  history = s.1;
  released = s.2;
  greatest_are = s.3;
  left = threads;
  left_is = omega arith;
  rest = all_rest s.2 threads now steps s.4;
}

-- the next thread, and then the others
pub sends_next : {V : Type 0} (m : Meaning V) (fed : Fed) (numbers : List ℕ) (i number threads : ℕ)
    (now steps : List (Step V)) → SendsRest m fed numbers i threads now steps → i < fed.threads
    → ((released : List Sent) → AreGreatest released threads numbers → number ≡ greatest i released)
    → (mid : List (Step V))
    × SendsUpTo m fed i number threads now mid
    × SendsRest m fed numbers (i + 1) threads mid steps
sends_next {V} m fed numbers i number threads now steps s low is = go s.left s.left_is s.rest
  where
    go : (left : ℕ) → i + left ≡ threads → RestGoOn s.released left i now steps
        → (mid : List (Step V))
        × SendsUpTo m fed i number threads now mid
        × SendsRest m fed numbers (i + 1) threads mid steps
    go zero n r = let a = s.as_fed in absurd (omega (arith, n, a, low))
    go (suc left) n r = (
      r.0,
      (
        let a = s.as_fed in omega (arith, a, low),
        earlier_history m (inputs_of fed) threads r.0 steps
            (rest_later s.released left (suc i) r.0 steps r.2) s.history,
        subst (λ (k : ℕ). GoesOn i k now r.0) (sym (is s.released s.greatest_are)) r.1,
      ),
      record {
        as_fed = s.as_fed;
        history = s.history;
        released = s.released;
        greatest_are = s.greatest_are;
        left = left;
        left_is = omega (arith, n);
        rest = let k : suc i ≡ i + 1 = omega arith in subst (λ (j : ℕ). RestGoOn s.released left j r.0 steps) k r.2;
      },
    )

-- and none is left
pub sends_over : {V : Type 0} (m : Meaning V) (fed : Fed) (numbers : List ℕ) (i threads : ℕ) (now steps : List (Step V))
    → SendsRest m fed numbers i threads now steps → fed.threads ≤ i → now ≡ steps
sends_over m fed numbers i threads now steps s high = go s.left s.left_is s.rest
  where
    go : (left : ℕ) → i + left ≡ threads → RestGoOn s.released left i now steps → now ≡ steps
    go zero n r = sym r
    go (suc left) n r = let a = s.as_fed in absurd (omega (arith, n, a, high))
