-- A round of each loop.
use Rattle.std.proofs.Common.{◌≡◌, ℕ, suc, ◌+◌, ◌≤◌, ◌<◌, List, ◌∷◌, length, drop, sym, ap, ◌∙◌, subst, inl, inr, ◌⊎◌}
use Rattle.std.proofs.Common.{arith, add-one}
use Rattle.std.specs.Prelude.{slice_index_or, slice_index}
use Rattle.std.specs.Option.{unwrap_or}
use Rattle.std.proofs.Math.Seq.{drop-cons}
use Rattle.input_logger.specs.Inputs.{Fed}
use Rattle.entry_order.specs.Log.{Entry, entries}
use Rattle.plain_machine.specs.declared.plain_move.PlainMove.{PlainMove}
use Rattle.plain_machine.specs.Program.{Meaning}
use Rattle.plain_machine.specs.History.{Step, log_of, sent_of, outputs}
use Rattle.master_core.specs.declared.parts.ThreadPart.{ThreadPart}
use Rattle.master_core.specs.declared.parts.Counts.{Counts}
use Rattle.master_core.specs.Mastered.{Mastered}
use Rattle.recovery_world.specs.Files.{answer_of_entry}
use Rattle.run_end.specs.Playing.{IsMasterAfter, StandsBefore, PlaysOn, MakesNext}
use Rattle.run_end.specs.Playing.{LeadsTo, LeadsBy, SendsUpTo, SendsAll}
use Rattle.run_end.proofs.InputLemmas.{none_part}
use Rattle.run_end.proofs.Ways.{IsOnWay, LedOn, LeadsOrMade, led_count, led_on, led_start, led_low, led_high, sends_on}
use Rattle.run_end.proofs.Ways.{sends_end, SendsRest, sends_first, sends_next, sends_over}

-- the counts are those of the thread's part
abbrev pub IsCounted : {V : Type 0} → Mastered V → ℕ → Counts → Type 0
IsCounted p t counts = (d : ThreadPart) → counts ≡ (slice_index_or p.threads t d).counts

-- One kind of ways goes on by a move of a thread, with the rest of the way.
pub record GoesOneOn {V : Type 0} (m : Meaning V) (fed : Fed) (t answer threads : ℕ)
    (Rests : ℕ → List (Step V) → List (Step V) → Type 0) (mid steps : List (Step V)) : Type 0 where
  pub next : Step V
  pub makes : MakesNext m fed t answer threads mid (next ∷ mid)
  pub rests : Rests threads (next ∷ mid) steps

-- What leads to a move, from wherever the way is, is made by it.
module _ {V : Type 0} (m : Meaning V) (fed : Fed) (t answer : ℕ)
    (Leads Rests : ℕ → List (Step V) → List (Step V) → Type 0) (old p : Mastered V) (before moves : List PlainMove)
    (way : IsOnWay Leads Rests m old before p moves)
    (goes : (threads : ℕ) (now steps mid : List (Step V)) → Leads threads now steps → Rests threads mid steps
    → IsMasterAfter m threads mid p moves → GoesOneOn m fed t answer threads Rests mid steps) where
  -- there is such a move
  pub one_stands : StandsBefore Leads m old before → StandsBefore (MakesNext m fed t answer) m p moves
  one_stands some =
      let k = way some.0 some.1 some.2 some.3 some.4 in
      let g = goes some.0 some.1 some.2 k.0 some.3 k.1 k.2 in
      (some.0, k.0, g.next ∷ k.0, g.makes, k.2)

  -- and the way goes on from behind it
  pub one_on : (q : Mastered V) (schedule : List PlainMove) → PlaysOn (MakesNext m fed t answer) m p moves q schedule
      → IsOnWay Leads Rests m old before q schedule
  one_on q schedule plays = λ threads now steps leads at.
      let k = way threads now steps leads at in
      let g = goes threads now steps k.0 leads k.1 k.2 in
      (g.next ∷ k.0, g.rests, plays threads k.0 (g.next ∷ k.0) g.makes k.2)

-- To an entry, which may be made

pub to_starts : {V : Type 0} (m : Meaning V) (fed : Fed) (e : Entry) (p : Mastered V) (moves : List PlainMove)
    → IsOnWay (LeadsTo m fed e) (LeadsOrMade m fed e) m p moves p moves
to_starts m fed e p moves = λ threads now steps leads at. (now, led_start m fed threads e now steps leads, at)

-- there is its thread
pub to_low : {V : Type 0} (m : Meaning V) (fed : Fed) (e : Entry) (old p : Mastered V) (before moves : List PlainMove)
    → IsOnWay (LeadsTo m fed e) (LeadsOrMade m fed e) m old before p moves → StandsBefore (LeadsTo m fed e) m old before
    → e.thread < length p.threads
to_low m fed e old p before moves way some =
    let k = way some.0 some.1 some.2 some.3 some.4 in
    let low = led_low m fed some.0 e some.1 some.2 some.3 in
    let all = k.2.stands.threads_are in
    omega (arith, low, all)

-- its thread, number and answer are these
module _ {V : Type 0} (m : Meaning V) (fed : Fed) (e : Entry) (t number answer : ℕ) (th : t ≡ e.thread)
    (num : number ≡ e.number) (ans : answer ≡ unwrap_or (answer_of_entry e.what) 0) (p : Mastered V)
    (moves : List PlainMove) (counts : Counts) (counted : IsCounted p t counts) where
  count_is : (threads : ℕ) (mid : List (Step V)) → t < threads → IsMasterAfter m threads mid p moves
      → counts.entries ≡ entries e.thread (log_of mid)
  count_is threads mid low at =
      ap (λ (c : Counts). c.entries) (counted none_part)
      ∙ ((at.stands.thread t none_part low).logged ∙ ap (λ (u : ℕ). entries u (log_of mid)) th)

  pub to_goes : counts.entries < number → (threads : ℕ) (now steps mid : List (Step V))
      → LeadsTo m fed e threads now steps → LeadsOrMade m fed e threads mid steps → IsMasterAfter m threads mid p moves
      → GoesOneOn m fed t answer threads (LeadsOrMade m fed e) mid steps
  to_goes few threads now steps mid leads rest at = go rest
    where
      low : t < threads
      low = subst (λ (u : ℕ). u < threads) (sym th) (led_low m fed threads e now steps leads)

      go : LedOn m fed e threads mid steps ⊎ (steps ≡ mid)
          → GoesOneOn m fed t answer threads (LeadsOrMade m fed e) mid steps
      go (inl l) =
          let k = led_on m fed threads e mid steps l in
          record {
            next = k.0;
            makes = subst (λ (u : ℕ). MakesNext m fed u answer threads mid (k.0 ∷ mid)) (sym th)
                (subst (λ (a : ℕ). MakesNext m fed e.thread a threads mid (k.0 ∷ mid)) (sym ans) k.1);
            rests = k.2;
          }
      go (inr same) =
          let there = led_high m fed threads e now steps leads in
          let here = count_is threads mid low at in
          let one : entries e.thread (log_of steps) ≡ entries e.thread (log_of mid) =
          ap (λ (l : List (Step V)). entries e.thread (log_of l)) same in
          absurd (omega (arith, there, here, one, few, num))

  -- it is made once the thread has made this many
  pub to_over : number ≤ counts.entries → (old : Mastered V) (before : List PlainMove)
      → IsOnWay (LeadsTo m fed e) (LeadsOrMade m fed e) m old before p moves
      → PlaysOn (LeadsTo m fed e) m old before p moves
  to_over enough old before way =
      λ threads now steps leads at. go threads now steps leads (way threads now steps leads at)
    where
      go : (threads : ℕ) (now steps : List (Step V)) → LeadsTo m fed e threads now steps
          → (mid : List (Step V)) × LeadsOrMade m fed e threads mid steps × IsMasterAfter m threads mid p moves
          → IsMasterAfter m threads steps p moves
      go threads now steps leads (mid, inl l, at) =
          let k = led_count m fed threads e mid steps l in
          let low : t < threads = subst (λ (u : ℕ). u < threads) (sym th) k.0 in
          let here = count_is threads mid low at in
          let next = k.1 in
          absurd (omega (arith, next, here, enough, num))
      go threads now steps leads (mid, inr same, at) =
          subst (λ (l : List (Step V)). IsMasterAfter m threads l p moves) (sym same) at

-- To an output
module _ {V : Type 0} (m : Meaning V) (fed : Fed) (t many : ℕ) (p : Mastered V) (moves : List PlainMove)
    (counts : Counts) (counted : IsCounted p t counts) where
  sent_is : (threads : ℕ) (mid : List (Step V)) → t < threads → IsMasterAfter m threads mid p moves
      → counts.outputs ≡ outputs t (sent_of mid)
  sent_is threads mid low at =
      ap (λ (c : Counts). c.outputs) (counted none_part) ∙ (at.stands.thread t none_part low).outputs

  pub out_goes : counts.outputs < many → (threads : ℕ) (now steps mid : List (Step V))
      → SendsUpTo m fed t many threads now steps → SendsUpTo m fed t many threads mid steps
      → IsMasterAfter m threads mid p moves → GoesOneOn m fed t 0 threads (SendsUpTo m fed t many) mid steps
  out_goes few threads now steps mid leads rest at =
      let here = sent_is threads mid rest.0 at in
      let k = sends_on m fed t many threads mid steps rest (omega (arith, here, few)) in
      record { next = k.0; makes = k.1; rests = k.2 }

  pub out_over : many ≤ counts.outputs → (old : Mastered V) (before : List PlainMove)
      → IsOnWay (SendsUpTo m fed t many) (SendsUpTo m fed t many) m old before p moves
      → PlaysOn (SendsUpTo m fed t many) m old before p moves
  out_over enough old before way = λ threads now steps leads at.
      let k = way threads now steps leads at in
      let here = sent_is threads k.0 k.1.0 k.2 in
      subst (λ (l : List (Step V)). IsMasterAfter m threads l p moves)
      (sends_end m fed t many threads k.0 steps k.1 (omega (arith, here, enough))) k.2

-- Entry by entry
module _ {V : Type 0} (m : Meaning V) (fed : Fed) (order : List Entry) (i : ℕ) (e : Entry)
    (is : e ≡ slice_index_or order i e) (low : i < length order) (old p : Mastered V) (before moves : List PlainMove)
    (way : IsOnWay (LeadsBy m fed order) (LeadsBy m fed (drop i order)) m old before p moves) where
  split : drop i order ≡ e ∷ drop (i + 1) order
  split = rw (add-one, drop-cons order i e low) (ap (λ (f : Entry). f ∷ drop (suc i) order) (sym is))

  first : (threads : ℕ) (now steps mid : List (Step V)) → LeadsBy m fed (drop i order) threads mid steps → (next :
      List (Step V)) × LeadsTo m fed e threads mid next × LeadsBy m fed (drop (i + 1) order) threads next steps
  first threads now steps mid l = subst (λ (xs : List Entry). LeadsBy m fed xs threads mid steps) split l

  pub entry_stands : StandsBefore (LeadsBy m fed order) m old before → StandsBefore (LeadsTo m fed e) m p moves
  entry_stands some =
      let k = way some.0 some.1 some.2 some.3 some.4 in
      let f = first some.0 some.1 some.2 k.0 k.1 in
      (some.0, k.0, f.0, f.1, k.2)

  pub entry_on : (q : Mastered V) (schedule : List PlainMove) → PlaysOn (LeadsTo m fed e) m p moves q schedule
      → IsOnWay (LeadsBy m fed order) (LeadsBy m fed (drop (i + 1) order)) m old before q schedule
  entry_on q schedule plays = λ threads now steps leads at.
      let k = way threads now steps leads at in
      let f = first threads now steps k.0 k.1 in
      (f.0, f.2, plays threads k.0 f.0 f.1 k.2)

-- Thread by thread
pub threads_first : {V : Type 0} (m : Meaning V) (fed : Fed) (numbers : List ℕ) (p : Mastered V)
    (moves : List PlainMove) → IsOnWay (SendsAll m fed numbers) (SendsRest m fed numbers 0) m p moves p moves
threads_first m fed numbers p moves =
    λ threads now steps leads at. (now, sends_first m fed numbers threads now steps leads, at)

module _ {V : Type 0} (m : Meaning V) (fed : Fed) (numbers : List ℕ) (i : ℕ) (old p : Mastered V)
    (before moves : List PlainMove)
    (way : IsOnWay (SendsAll m fed numbers) (SendsRest m fed numbers i) m old before p moves) where
  module _ (low : i < fed.threads) (number : ℕ) (is : number ≡ slice_index numbers i) where
    next : (threads : ℕ) (mid steps : List (Step V)) → SendsRest m fed numbers i threads mid steps → (to :
        List (Step V)) × SendsUpTo m fed i number threads mid to × SendsRest m fed numbers (i + 1) threads to steps
    next threads mid steps r = sends_next m fed numbers i number threads mid steps r low
        (λ released are. is ∙ are i (let a = r.as_fed in omega (arith, a, low)))

    pub thread_stands : StandsBefore (SendsAll m fed numbers) m old before
        → StandsBefore (SendsUpTo m fed i number) m p moves
    thread_stands some =
        let k = way some.0 some.1 some.2 some.3 some.4 in
        let f = next some.0 k.0 some.2 k.1 in
        (some.0, k.0, f.0, f.1, k.2)

    pub thread_on : (q : Mastered V) (schedule : List PlainMove)
        → PlaysOn (SendsUpTo m fed i number) m p moves q schedule
        → IsOnWay (SendsAll m fed numbers) (SendsRest m fed numbers (i + 1)) m old before q schedule
    thread_on q schedule plays = λ threads now steps leads at.
        let k = way threads now steps leads at in
        let f = next threads k.0 steps k.1 in
        (f.0, f.2, plays threads k.0 f.0 f.1 k.2)

  pub threads_over : fed.threads ≤ i → PlaysOn (SendsAll m fed numbers) m old before p moves
  threads_over high = λ threads now steps leads at.
      let k = way threads now steps leads at in
      subst (λ (l : List (Step V)). IsMasterAfter m threads l p moves)
      (sends_over m fed numbers i threads k.0 steps k.1 high) k.2
