-- What a system has still to make again and to send out again.
use Rattle.std.proofs.Common.{◌≡◌, ℕ, zero, suc, ◌+◌, ◌*◌, ◌≤◌, ◌<◌, ◌⊎◌, List, [], ◌∷◌, ◌++◌, length, refl, sym, ap}
use Rattle.std.proofs.Common.{◌∙◌, subst, inl, inr, arith, Option, Some, None, true, false}
use Rattle.std.proofs.lemmas.List.{drop_all}
use Rattle.master_core.specs.declared.parts.Counts.{Counts}
use Rattle.master_core.specs.declared.parts.ThreadPart.{ThreadPart}
use Rattle.snapshot_steps.proofs.FromOutputReleases.{counted}
use Rattle.std.specs.Prelude.{◌^◌, ◌-◌, HoldsAt, min, is_some, IsSome, cond, drop, nat_eq, nat_lt}
use Rattle.std.proofs.lemmas.Bool.{cases_lt}
use Rattle.std.proofs.lemmas.Bool.Decides.{nat_tests}
use Rattle.entry_order.specs.Log.{Entry, entries, IsLog, IsIn, Keeps}
use Rattle.entry_order.specs.Stamps.{sum_below}
use Rattle.entry_order.proofs.KeptEntries.{in_either, in_left, in_right}
use Rattle.entry_order.proofs.Order.{entry_there, number_within, is_or}
use Rattle.entry_order.proofs.Weights.{sum_below_more}
use Rattle.access_log.specs.Held.{lane, entry_at}
use Rattle.access_log.specs.declared.entry.StampedEntry.{StampedEntry}
use Rattle.master_core.specs.Stepping.{plain_entry}
use Rattle.master_core.proofs.HeldEntries.{at_held}
use Rattle.plain_text.specs.declared.packet.Packet.{Packet}
use Rattle.plain_machine.specs.Program.{Meaning, IsLawful}
use Rattle.plain_machine.specs.Machine.{Effect}
use Rattle.plain_machine.specs.History.{Act, Took, Did, Emitted, Ended, Step, act_of, log_of, log_more, sent_of}
use Rattle.plain_machine.specs.History.{outputs}
use Rattle.plain_machine.specs.declared.emission.Emission.{Emission}
use Rattle.plain_machine.specs.History.{moves_of, sent_more, IsHistory}
use Rattle.plain_machine.specs.Agree.{SendsAfter}
use Rattle.plain_machine.proofs.Agreement.{histories_agree}
use Rattle.plain_machine.proofs.Bounds.{few_moves}
use Rattle.plain_machine.proofs.Histories.{did_emission, did_entry, moves_step, history_log}
use Rattle.plain_machine.proofs.LoggedEffects.{entry_thread}
use Rattle.plain_machine.proofs.Arrangements.{tail_log}
use Rattle.plain_machine.proofs.Hands.{taken_within}
use Rattle.recovery_world.specs.World.{Setting, Sent, World, inputs_fed}
use Rattle.recovery_world.specs.Events.{IsAmong, Parts as Parted}
use Rattle.recovery_world.specs.Files.{sent_names}
use Rattle.recovery_world.specs.Finish.{IsToCome}
use Rattle.recovery_laws.specs.Sound.{IsEachOnce, IsKept}
use Rattle.recovery_laws.proofs.Finishes.{sends_thread, sent_there}
use Rattle.recovery_laws.proofs.Settlings.{number_high}
use Rattle.recovery_laws.proofs.Worlds.{known_here}
use Rattle.handover_world.specs.Ready.{AreBehind, AreLeft}
use Rattle.system_parts.specs.Parts.{Parts}
use Rattle.system_parts.specs.SystemStanding.{StandsFor}
use Rattle.input_logger.specs.Inputs.{Fed, inputs_of, thread_of}
use Rattle.std.specs.Prelude.{◌==◌, take}
use Rattle.std.proofs.lemmas.List.Sums.{length-filter, count_by-le-length}

-- Counts of entries

-- of two lists each thread has the entries of both
pub entries_both : (t : ℕ) (xs ys : List Entry) → entries t (xs ++ ys) ≡ entries t xs + entries t ys
entries_both t [] ys = omega arith
entries_both t (x ∷ xs) ys = go (is_or x.thread t) (entries_both t xs ys)
  where
    go : (x.thread ≡ t) ⊎ (x.thread ≡ t → ⊥) → entries t (xs ++ ys) ≡ entries t xs + entries t ys
        → entries t (x ∷ (xs ++ ys)) ≡ entries t (x ∷ xs) + entries t ys
    go (inl same) rest = grind (arith, nat_tests)
    go (inr other) rest = grind (arith, nat_tests)

-- a thread has no more entries than moves
pub entries_within : {V : Type 0} (m : Meaning V) (inputs : ℕ → List Packet) (threads t : ℕ) (steps : List (Step V))
    → IsHistory m inputs threads steps → entries t (log_of steps) ≤ moves_of t steps
entries_within m inputs threads t [] h = omega arith
entries_within {V} m inputs threads t (x ∷ steps) h =
    go x.act refl (moves_step t x steps) (entries_within m inputs threads t steps h.1)
  where
    go : (a : Act V) → x.act ≡ a
        → ((x.thread ≡ t → ⊥) × (moves_of t (x ∷ steps) ≡ moves_of t steps))
        ⊎ ((x.thread ≡ t) × (moves_of t (x ∷ steps) ≡ moves_of t steps + 1))
        → entries t (log_of steps) ≤ moves_of t steps
        → entries t (log_more a (log_of steps)) ≤ moves_of t (x ∷ steps)
    go (Took k) is (inl n) low = let q = n.1 in omega (arith, q, low)
    go (Took k) is (inr n) low = let q = n.1 in omega (arith, q, low)
    go (Did e left) is (inl n) low =
        let own = (did_entry x.thread x.after.taken steps h.0.2 e left (sym h.0.4 ∙ is)).0 in
        let not : e.thread ≡ t → ⊥ = λ same. n.0 (sym own ∙ same) in
        let q = n.1 in
        let k : entries t (e ∷ log_of steps) ≡ entries t (log_of steps) = grind (arith, nat_tests) in
        omega (arith, q, low, k)
    go (Did e left) is (inr n) low =
        let own = (did_entry x.thread x.after.taken steps h.0.2 e left (sym h.0.4 ∙ is)).0 in
        let same : e.thread ≡ t = own ∙ n.0 in
        let q = n.1 in
        let k : entries t (e ∷ log_of steps) ≡ entries t (log_of steps) + 1 = grind (arith, nat_tests) in
        omega (arith, q, low, k)
    go (Emitted o) is (inl n) low = let q = n.1 in omega (arith, q, low)
    go (Emitted o) is (inr n) low = let q = n.1 in omega (arith, q, low)
    go (Ended k) is (inl n) low = let q = n.1 in omega (arith, q, low)
    go (Ended k) is (inr n) low = let q = n.1 in omega (arith, q, low)

-- each entry of a log stands once
pub once_in_log : (xs ys : List Entry) → IsLog (xs ++ ys) → IsEachOnce xs
once_in_log [] ys good = tt
once_in_log (x ∷ xs) ys good = (
  λ i.
      let k = number_within (xs ++ ys) x good.2 (in_left x xs ys i) in
      let n = good.0 in absurd (omega (arith, k, n)),
  once_in_log xs ys good.2,
)

sum_none : (n : ℕ) → sum_below n (λ t. entries t []) ≡ 0
sum_none zero = refl
sum_none (suc n) = let a : sum_below n (λ t. entries t []) ≡ 0 = sum_none n in omega arith

-- entries of the first threads are counted thread by thread
pub sum_of_entries : (n : ℕ) (xs : List Entry) → ((e : Entry) → IsIn e xs → e.thread < n)
    → sum_below n (λ t. entries t xs) ≡ length xs
sum_of_entries n [] low = sum_none n
sum_of_entries n (x ∷ xs) low =
    let old : sum_below n (λ t. entries t xs) ≡ length xs = sum_of_entries n xs (λ e i. low e (inr i)) in
    let own : entries x.thread (x ∷ xs) ≡ entries x.thread xs + 1 = grind (arith, nat_tests) in
    let one : sum_below n (λ t. entries t (x ∷ xs)) ≡ sum_below n (λ t. entries t xs) + 1 =
    sum_below_more n x.thread (λ t. entries t (x ∷ xs)) (λ t. entries t xs) (low x (inl refl)) own
    (λ u ne. grind (arith, nat_tests)) in
    omega (arith, old, one)

-- a sum of small terms
pub sum_bound : (n : ℕ) (f : ℕ → ℕ) → ((t : ℕ) → f t ≤ 2 ^ 56) → sum_below n f ≤ n * 2 ^ 56
sum_bound zero f low = omega arith
sum_bound (suc n) f low =
    let a : sum_below n f ≤ n * 2 ^ 56 = sum_bound n f low in
    let b = low n in omega (arith, a, b)

some_there : {X : Type 0} (o : Option X) → IsSome o → (x : X) × (o ≡ Some x)
some_there None some = absurd (cc)
some_there (Some x) some = (x, refl)

-- What is left

-- the number of the entry found last, or that of the last entry made
abbrev pub FoundTo : {P V : Type 0} → Parts P V → ℕ → ℕ → ℕ → Type 0
FoundTo y t made number = (number ≡ made) ⊎ IsSome (entry_at (lane y.guide t) number)

-- of the first threads what is left is counted
abbrev pub LeftTo : {P V : Type 0} → Meaning V → Parts P V → ℕ → ℕ → Type 0
LeftTo {P} {V} m y t left =
    (s : Setting V) (w : World V) → (st : StandsFor m s w y)
    → left ≡ min (sum_below t (λ u. entries u st.sound.firm.more)) (2 ^ 64 - 1)

module _ {P V : Type 0} (m : Meaning V) (fits : ℕ → V → Type 0) (lawful : IsLawful m fits) (s : Setting V) (w : World V)
    (y : Parts P V) (st : StandsFor m s w y) (few : length y.inputs.packets < 2 ^ 50) where
  abbrev pub more : List Entry
  more = st.sound.firm.more

  abbrev pub past : List Entry
  past = log_of w.past

  law : IsLawful s.meaning fits
  law = subst (λ (z : Meaning V). IsLawful z fits) (sym st.inputs.meaning) lawful

  few_in : (t : ℕ) → length (inputs_fed s w.fed t) < 2 ^ 50
  few_in t =
      let fed : Fed = record { threads = s.threads; tags = s.tags; packets = take w.fed s.packets } in
      let e = length-filter (λ packet. thread_of fed.tags packet fed.threads == t) fed.packets in
      let k = count_by-le-length (λ packet. thread_of fed.tags packet fed.threads == t) fed.packets in
      let same : length y.inputs.packets ≡ length fed.packets = ap (λ (f : Fed). length f.packets) st.inputs.inputs in
      omega (arith, e, k, same, few)

  -- a run on what was fed has few entries
  few_entries : (steps : List (Step V)) (t : ℕ) → IsHistory s.meaning (inputs_fed s w.fed) s.threads steps
      → entries t (log_of steps) < 2 ^ 56
  few_entries steps t h =
      let a = entries_within s.meaning (inputs_fed s w.fed) s.threads t steps h in
      let b = few_moves s.meaning fits law (inputs_fed s w.fed) s.threads steps h t in
      let c = taken_within s.meaning (inputs_fed s w.fed) s.threads steps h t in
      let d = few_in t in
      omega (arith, a, b, c, d)

  to_come_of : (e : Entry) → IsIn e more → IsToCome w e
  to_come_of e i = (st.sound.firm.to_come e).0 i

  -- an entry to come was made by the master that crashed
  made_there : (e : Entry) → IsIn e more → IsIn e (log_of st.sound.firm.origin)
  made_there e i = st.sound.firm.made e (st.sound.firm.follows e (to_come_of e i).0)

  few_number : (e : Entry) → IsIn e more → e.number < 2 ^ 56
  few_number e i =
      let made = made_there e i in
      let h = st.sound.firm.origin_is in
      let a = number_within (log_of st.sound.firm.origin) e
      (history_log s.meaning (inputs_fed s w.fed) s.threads st.sound.firm.origin h) made in
      let b = few_entries st.sound.firm.origin e.thread h in
      omega (arith, a, b)

  both : (t : ℕ) → entries t (more ++ past) ≡ entries t more + entries t past
  both t = entries_both t more past

  -- an entry of the line past those made is to come
  later : (e : Entry) → IsIn e (more ++ past) → entries e.thread past < e.number → IsIn e more
  later e i high = go (in_either e more past i)
    where
      go : IsIn e more ⊎ IsIn e past → IsIn e more
      go (inl k) = k
      go (inr k) =
          let n = number_within past e (tail_log more past st.sound.firm.log) k in absurd (omega (arith, n, high))

  pub few_more : (t : ℕ) → entries t more ≤ 2 ^ 56
  few_more t = go (cases_lt 0 (entries t more))
    where
      go : (0 < entries t more) ⊎ (entries t more ≤ 0) → entries t more ≤ 2 ^ 56
      go (inr none) = omega (arith, none)
      go (inl some) =
          let sum = both t in
          let g = entry_there (more ++ past) t (entries t (more ++ past)) st.sound.firm.log (omega (arith, sum, some))
          (omega arith) in
          let same : entries g.0.thread past ≡ entries t past = ap (λ (u : ℕ). entries u past) g.2 in
          let at = g.3 in
          let low = few_number g.0 (later g.0 g.1 (omega (arith, same, at, sum, some))) in
          omega (arith, low, at, sum)

  pub low_thread : (e : Entry) → IsIn e more → e.thread < s.threads
  low_thread e i = entry_thread s.meaning (inputs_fed s w.fed) s.threads st.sound.firm.origin e
      st.sound.firm.origin_is (made_there e i)

  -- an entry that the guide has past those made is of the line
  found_low : (t number made : ℕ) → made ≡ entries t past → made ≤ number → FoundTo y t made number
      → number ≤ entries t (more ++ past)
  found_low t number made counts up (inl same) = let sum = both t in omega (arith, same, counts, sum)
  found_low t number made counts up (inr some) = go (cases_lt made number)
    where
      there : (x : StampedEntry) × (entry_at (lane y.guide t) number ≡ Some x)
      there = some_there (entry_at (lane y.guide t) number) some

      is : entry_at (lane y.guide t) number ≡ Some there.0
      is = there.1

      of : (there.0.thread ≡ t) × (there.0.number ≡ number)
      of = let k = st.guide.holds.of_log t number there.0 is in (k.0, k.1)

      go : (made < number) ⊎ (number ≤ made) → number ≤ entries t (more ++ past)
      go (inr k) = let sum = both t in omega (arith, k, counts, sum)
      go (inl k) =
          let i =
          st.guide.only (plain_entry there.0) (at_held y.guide (plain_entry there.0) t number there.0 is refl) in
          let same : entries there.0.thread past ≡ entries t past = ap (λ (u : ℕ). entries u past) of.0 in
          let num = of.1 in
          let come = (st.sound.firm.to_come (plain_entry there.0)).1 (
            i,
            λ j.
                let n = number_within past (plain_entry there.0) (tail_log more past st.sound.firm.log) j in
                omega (arith, n, same, num, k, counts),
          ) in
          let all = number_within (more ++ past) (plain_entry there.0) st.sound.firm.log
          (in_left (plain_entry there.0) more past come) in
          let line : entries there.0.thread (more ++ past) ≡ entries t (more ++ past) =
          ap (λ (u : ℕ). entries u (more ++ past)) of.0 in
          omega (arith, all, line, num)

  -- where the guide does not have the next one, all of the thread were counted
  pub counted_left : (t number made : ℕ) → made ≡ entries t past → made ≤ number → FoundTo y t made number
      → (IsSome (entry_at (lane y.guide t) (number + 1)) → ⊥) → number ≡ entries t more + made
  counted_left t number made counts up found none = go (cases_lt number (entries t (more ++ past)))
    where
      go : (number < entries t (more ++ past)) ⊎ (entries t (more ++ past) ≤ number) → number ≡ entries t more + made
      go (inr high) =
          let low = found_low t number made counts up found in let sum = both t in omega (arith, high, low, sum, counts)
      go (inl low) =
          let g = entry_there (more ++ past) t (number + 1) st.sound.firm.log (omega arith) (omega (arith, low)) in
          let same : entries g.0.thread past ≡ entries t past = ap (λ (u : ℕ). entries u past) g.2 in
          let at = g.3 in
          let come = to_come_of g.0 (later g.0 g.1 (omega (arith, same, at, up, counts))) in
          let f = (st.guide.follows g.0 come.1).0 come.0 in
          absurd (none (ap is_some (subst (λ (n : ℕ). entry_at (lane y.guide t) n ≡ Some f.0) g.3
          (subst (λ (u : ℕ). entry_at (lane y.guide u) g.0.number ≡ Some f.0) g.2 f.1))))

  -- the guide never has so many
  pub never_full : (t number made : ℕ) → made ≡ entries t past → made ≤ number → FoundTo y t made number
      → number < 2 ^ 58
  never_full t number made counts up found =
      let low = found_low t number made counts up found in
      let a = few_more t in
      let b = few_entries w.past t st.sound.firm.legal in
      let sum = both t in
      omega (arith, low, a, b, sum)

  pub are_left : (many : ℕ) → s.threads ≤ 16
      → many ≡ min (sum_below s.threads (λ t. entries t more)) (2 ^ 64 - 1) → AreLeft w many
  are_left many threads is = record {
    more = more;
    to_come = st.sound.firm.to_come;
    once = once_in_log more past st.sound.firm.log;
    many_are =
        let sum = sum_of_entries s.threads more low_thread in
        let bound = sum_bound s.threads (λ t. entries t more) few_more in
        omega (arith, sum, bound, is, threads);
  }

-- From the parts of a system as its code has them

module _ {P V : Type 0} (mean : P → Meaning V) (fits : P → ℕ → V → Type 0) (view now : Parts P V) (same : view ≡ now)
    (lawful : IsLawful (mean view.program) (fits view.program))
    (few : length view.inputs.packets + length view.left < 2 ^ 50) where
  law_now : IsLawful (mean now.program) (fits now.program)
  law_now = subst (λ (q : Parts P V). IsLawful (mean q.program) (fits q.program)) same lawful

  few_now : length now.inputs.packets < 2 ^ 50
  few_now =
      let k : length now.inputs.packets + length now.left < 2 ^ 50 =
      subst (λ (q : Parts P V). length q.inputs.packets + length q.left < 2 ^ 50) same few in omega (arith, k)

  made_now : (s : Setting V) (w : World V) → StandsFor (mean now.program) s w now → (t : ℕ) (r : Counts)
      → t < now.inputs.threads → HoldsAt (λ (part : ThreadPart). r ≡ part.counts) view.master.threads t
      → r.entries ≡ entries t (log_of w.past)
  made_now s w st t r low at = (counted (mean now.program) s w now st t r low
      (subst (λ (q : Parts P V). HoldsAt (λ (part : ThreadPart). r ≡ part.counts) q.master.threads t) same at)).0

  pub left_is : (s : Setting V) (w : World V) (st : StandsFor (mean now.program) s w now) (t number : ℕ) (r : Counts)
      → t < now.inputs.threads → HoldsAt (λ (part : ThreadPart). r ≡ part.counts) view.master.threads t
      → r.entries ≤ number → FoundTo now t r.entries number → entry_at (lane view.guide t) (number + 1) ≡ None
      → number - r.entries ≡ entries t st.sound.firm.more
  left_is s w st t number r low at up found none =
      let made = made_now s w st t r low at in
      let gone : entry_at (lane now.guide t) (number + 1) ≡ None =
      subst (λ (q : Parts P V). entry_at (lane q.guide t) (number + 1) ≡ None) same none in
      let k = counted_left (mean now.program) (fits now.program) law_now s w now st few_now t number r.entries made up
      found (λ some. cc) in
      omega (arith, k)

  pub never_so_many : (s : Setting V) (w : World V) (st : StandsFor (mean now.program) s w now) (t number : ℕ)
      (r : Counts) → t < now.inputs.threads → HoldsAt (λ (part : ThreadPart). r ≡ part.counts) view.master.threads t
      → r.entries ≤ number → FoundTo now t r.entries number → number < 2 ^ 58
  never_so_many s w st t number r low at up found =
      never_full (mean now.program) (fits now.program) law_now s w now st few_now t number r.entries
      (made_now s w st t r low at) up found

  pub all_left : (t left : ℕ) → now.inputs.threads ≤ 16 → t ≡ now.inputs.threads
      → LeftTo (mean now.program) now t left → (s : Setting V) (w : World V) → StandsFor (mean now.program) s w now
      → AreLeft w left
  all_left t left threads end so s w st =
      let is : now.inputs.threads ≡ s.threads = ap (λ (f : Fed). f.threads) st.inputs.inputs in
      are_left (mean now.program) (fits now.program) law_now s w now st few_now left (omega (arith, threads, is))
      (so s w st
      ∙ ap (λ (n : ℕ). min (sum_below n (λ u. entries u st.sound.firm.more)) (2 ^ 64 - 1)) (end ∙ is))

pub left_more : {P V : Type 0} (m : Meaning V) (y : Parts P V) (t left here new : ℕ) → LeftTo m y t left
    → ((s : Setting V) (w : World V) (st : StandsFor m s w y) → here ≡ entries t st.sound.firm.more)
    → new ≡ min (left + here) (2 ^ 64 - 1) → LeftTo m y (t + 1) new
left_more m y t left here new so is new_is s w st =
    let k = so s w st in
    let n = is s w st in
    let q : sum_below (t + 1) (λ u. entries u st.sound.firm.more)
    ≡ sum_below t (λ u. entries u st.sound.firm.more) + entries t st.sound.firm.more =
    ap (λ n. sum_below n (λ u. entries u st.sound.firm.more)) (let r : t + 1 ≡ suc t = omega arith in r) in
    omega (arith, k, n, q, new_is)

-- Behind

-- how many of these outputs were not sent out
abbrev pub behind_in : (ℕ → ℕ) → List (ℕ × ℕ) → ℕ
behind_in counts [] = 0
behind_in counts (x ∷ names) = cond (nat_lt (counts x.0) x.1) (behind_in counts names + 1) (behind_in counts names)

-- those counted so far and those among the rest are all
abbrev pub BehindTo : {P V : Type 0} → Meaning V → Parts P V → ℕ → ℕ → Type 0
BehindTo {P} {V} m y i behind =
    (s : Setting V) (w : World V) → StandsFor m s w y
    → behind + behind_in (λ t. outputs t (sent_of w.past)) (drop i y.released)
    ≡ behind_in (λ t. outputs t (sent_of w.past)) y.released

-- a thread that is not there sends nothing out
pub none_sent : {V : Type 0} (m : Meaning V) (inputs : ℕ → List Packet) (threads t : ℕ) (steps : List (Step V))
    → IsHistory m inputs threads steps → threads ≤ t → outputs t (sent_of steps) ≡ 0
none_sent m inputs threads t [] h high = refl
none_sent {V} m inputs threads t (x ∷ steps) h high = go x.act refl (none_sent m inputs threads t steps h.1 high)
  where
    go : (a : Act V) → x.act ≡ a → outputs t (sent_of steps) ≡ 0 → outputs t (sent_more a (sent_of steps)) ≡ 0
    go (Took k) is rest = rest
    go (Did e left) is rest = rest
    go (Emitted o) is rest =
        let own = (did_emission x.thread x.after.taken steps h.0.2 o (sym h.0.4 ∙ is)).0 in
        let low = h.0.0 in
        let not : o.thread ≡ t → ⊥ = λ same. omega (arith, own, same, low, high) in
        let k : nat_eq o.thread t ≡ false = grind (arith, nat_tests) in
        rw k rest
    go (Ended k) is rest = rest

pub none_sent_there : {P V : Type 0} (m : Meaning V) (s : Setting V) (w : World V) (y : Parts P V) → StandsFor m s w y
    → (t : ℕ) → y.inputs.threads ≤ t → outputs t (sent_of w.past) ≡ 0
none_sent_there m s w y st t high =
    let same : y.inputs.threads ≡ s.threads = ap (λ (f : Fed). f.threads) st.inputs.inputs in
    none_sent s.meaning (inputs_fed s w.fed) s.threads t w.past st.sound.firm.legal (omega (arith, high, same))

pub seen_as : {P V : Type 0} (m : Meaning V) (s : Setting V) (w : World V) {y old : Parts P V} → y ≡ old
    → StandsFor m s w old → StandsFor m s w y
seen_as {P} {V} m s w is st = subst (λ (q : Parts P V). StandsFor m s w q) (sym is) st

module _ {P V : Type 0} (m : Meaning V) (s : Setting V) (w : World V) (y : Parts P V) (st : StandsFor m s w y)
    (left : AreLeft w 0) where
  counts : ℕ → ℕ
  counts t = outputs t (sent_of w.past)

  none_to_come : (e : Entry) → IsIn e st.sound.firm.more → ⊥
  none_to_come e i = go left.more left.many_are ((left.to_come e).1 ((st.sound.firm.to_come e).0 i))
    where
      go : (xs : List Entry) → length xs ≡ 0 → IsIn e xs → ⊥
      go [] none i = i
      go (x ∷ xs) none i = absurd (omega (arith, none))

  -- what was released is sent again, up to the count of its thread
  sent_again : (o : Sent) → IsAmong o w.released → o.emission.number ≤ outputs o.emission.thread (sent_of w.past)
      → SendsAfter w.past o.emission o.after
  sent_again o i many = subst (λ (q : Emission). SendsAfter w.past q o.after) (sym a.0)
      (subst (λ (n : ℕ). SendsAfter w.past p.0 n) (sym a.1) p.2)
    where
      k : IsKept s w (st.sound.firm.more ++ log_of w.past) o
      k = st.sound.firm.released o i

      low : (o.emission.thread < s.threads) × (1 ≤ o.emission.number)
      low = sends_thread s.meaning (inputs_fed s w.fed) s.threads k.run o.emission o.after k.history k.sends

      p : (p : Emission) × (n : ℕ) × SendsAfter w.past p n × (p.thread ≡ o.emission.thread)
          × (p.number ≡ o.emission.number)
      p = sent_there s.meaning (inputs_fed s w.fed) s.threads o.emission.thread o.emission.number w.past
          st.sound.firm.legal low.1 many

      kept_there : Keeps (log_of w.past) k.before
      kept_there e j =
          go (in_either e st.sound.firm.more (log_of w.past) (known_here s w st.sound.firm e (k.known e j)))
        where
          go : IsIn e st.sound.firm.more ⊎ IsIn e (log_of w.past) → IsIn e (log_of w.past)
          go (inl come) = absurd (none_to_come e come)
          go (inr here) = here

      a : (o.emission ≡ p.0) × (o.after ≡ p.1)
      a = (histories_agree s.meaning (inputs_fed s w.fed) s.threads k.run w.past k.before k.history
          st.sound.firm.legal k.closed_there k.of_run kept_there).1 o.emission p.0 o.after p.1 k.sends p.2 (sym p.3)
          (sym p.4) k.precedes

  late_parts : (xs : List Sent) → ((o : Sent) → IsAmong o xs → IsAmong o w.released)
      → (behind : List Sent) × (others : List Sent)
      × Parted (λ (o : Sent). SendsAfter w.past o.emission o.after → ⊥) xs behind others
      × (length behind ≡ behind_in (λ t. outputs t (sent_of w.past)) (sent_names xs))
  late_parts [] all = ([], [], (refl, refl), refl)
  late_parts (o ∷ xs) all = go (cases_lt (outputs o.emission.thread (sent_of w.past)) o.emission.number)
      (late_parts xs (λ p i. all p (inr i)))
    where
      go : (outputs o.emission.thread (sent_of w.past) < o.emission.number)
          ⊎ (o.emission.number ≤ outputs o.emission.thread (sent_of w.past))
          → ((behind : List Sent) × (others : List Sent)
          × Parted (λ (o : Sent). SendsAfter w.past o.emission o.after → ⊥) xs behind others
          × (length behind ≡ behind_in (λ t. outputs t (sent_of w.past)) (sent_names xs)))
          → (behind : List Sent) × (others : List Sent)
          × Parted (λ (o : Sent). SendsAfter w.past o.emission o.after → ⊥) (o ∷ xs) behind others
          × (length behind ≡ behind_in (λ t. outputs t (sent_of w.past)) (sent_names (o ∷ xs)))
      go (inl low) (behind, others, parts, many) =
          let t : nat_lt (outputs o.emission.thread (sent_of w.past)) o.emission.number ≡ true =
          grind (arith, nat_tests) in (
            o ∷ behind,
            others,
            inl (
              λ sends.
                  let k = number_high s.meaning (inputs_fed s w.fed) s.threads w.past o.emission o.after
                  st.sound.firm.legal sends in
                  absurd (omega (arith, k, low)),
              behind,
              refl,
              parts,
            ),
            rw t (omega (arith, many)),
          )
      go (inr high) (behind, others, parts, many) =
          let t : nat_lt (outputs o.emission.thread (sent_of w.past)) o.emission.number ≡ false =
          grind (arith, nat_tests) in (
            behind,
            o ∷ others,
            inr (λ late. late (sent_again o (all o (inl refl)) high), others, refl, parts),
            rw t many,
          )

  pub are_behind : (many : ℕ) → many ≡ behind_in (λ t. outputs t (sent_of w.past)) y.released → AreBehind w many
  are_behind many is =
      let p = late_parts w.released (λ o i. i) in
      record {
        behind = p.0;
        others = p.1;
        parts = p.2;
        many_are = p.3 ∙ (ap (λ (l : List (ℕ × ℕ)). behind_in (λ t. outputs t (sent_of w.past)) l)
            (sym st.released) ∙ sym is);
      }

pub all_behind : {P V : Type 0} (m : Meaning V) (y : Parts P V) (i many : ℕ) → length y.released ≤ i
    → BehindTo m y i many → (s : Setting V) (w : World V) → StandsFor m s w y → AreLeft w 0 → AreBehind w many
all_behind m y i many all so s w st left =
    let none : behind_in (λ t. outputs t (sent_of w.past)) (drop i y.released) ≡ 0 =
    ap (λ (l : List (ℕ × ℕ)). behind_in (λ t. outputs t (sent_of w.past)) l) (drop_all i y.released all) in
    let k = so s w st in
    are_behind m s w y st left many (omega (arith, k, none))
