-- Rows that were filled from what was noted are those of the definition.
use Rattle.std.proofs.Common.{◌≡◌, ◌≢◌, inl, inr, ℕ, zero, suc, ◌+◌, ◌<◌, ◌≤◌, List, [], ◌∷◌, length, take, refl, sym}
use Rattle.std.proofs.Common.{ap}
use Rattle.std.proofs.Common.{◌∙◌, subst, arith, cond, Bool, true, false, Option, Some, None, add-one, ◌&&◌}
use Rattle.std.specs.Prelude.{nat_eq, slice_get, slice_index_or}
use Rattle.std.proofs.lemmas.Bool.Decides.{nat_tests}
use Rattle.std.proofs.lemmas.Option.{slice_get_within}
use Rattle.plain_text.specs.declared.packet.Packet.{Packet}
use Rattle.input_logger.specs.Inputs.{thread_of}
use Rattle.plain_machine.proofs.Hands.{all_taken}
use Rattle.plain_machine.specs.History.{Step, outputs, sent_of}
use Rattle.recovery_world.specs.World.{Setting, Sent as SentOutput, World, inputs_fed}
use Rattle.recovery_world.specs.Events.{HasNumber, IsAmong, IsOutputOf}
use Rattle.recovery_world.specs.Files.{sent_names}
use Rattle.recovery_laws.specs.Sound.{Sound}
use Rattle.recovery_laws.proofs.Settlings.{number_high}
use Rattle.recovery_core.specs.declared.lacking.Lacks.{Lacks}
use Rattle.recovery_core.specs.declared.lacking.Lacks.TheVariants as lacks
use Rattle.recovery_core.specs.Lacking.{OutputLacks}
use Rattle.noted_runs.specs.declared.trace.rows.Became.{Became}
use Rattle.noted_runs.specs.declared.trace.rows.Became.TheVariants.{Untaken, InHand, Sent, Ended}
use Rattle.noted_runs.specs.declared.trace.rows.Departure.{Departure}
use Rattle.noted_runs.specs.declared.trace.rows.Fate.TheVariants as fate
use Rattle.noted_runs.specs.declared.trace.rows.Row.{Row}
use Rattle.noted_runs.specs.declared.trace.running.Seen.{Seen}
use Rattle.noted_runs.specs.Became.{became}
use Rattle.noted_runs.specs.Fates.{IsFate, MayArrive, NotSent, Unreleased, Waits, by_place, place_behind, place_in}
use Rattle.noted_runs.specs.Filling.{AreFilled, IsFilled, became_noted, fate_at, fate_from, fate_of_lack, lacks_noted}
use Rattle.noted_runs.specs.Filling.{lacks_or_none, place_noted}
use Rattle.noted_runs.specs.Following.{HasBecome}
use Rattle.noted_runs.specs.TraceGoing.{HasSeen, ListsLacks}
use Rattle.noted_runs.specs.Rows.{AreRows, IsRow}
use Rattle.noted_runs.specs.Turns.{AreTurns, turn_of}

-- what was released has a place
placed : (b t j : ℕ) (o : SentOutput) (released : List SentOutput) → HasNumber t j o → IsAmong o released
    → place_behind b t j (sent_names released) ≢ 0
placed b t j o [] has among = absurd among
placed b t j o (x ∷ released) has (inl same) =
    let thread : nat_eq x.emission.thread t ≡ true =
    let q : x.emission.thread ≡ t = ap (λ (y : SentOutput). y.emission.thread) same ∙ has.0 in
    grind (arith, nat_tests, q) in
    let number : nat_eq x.emission.number j ≡ true =
    let q : x.emission.number ≡ j = ap (λ (y : SentOutput). y.emission.number) same ∙ has.1 in
    grind (arith, nat_tests, q) in
    λ e. go (ap (λ (y : Bool). y && nat_eq x.emission.number j) thread ∙ number) e
  where
    go : (nat_eq x.emission.thread t && nat_eq x.emission.number j) ≡ true
        → place_behind b t j (sent_names (x ∷ released)) ≡ 0 → ⊥
    go is e =
        let here : b + 1 ≡ 0 =
        sym (ap (λ (y : Bool). cond y (b + 1) (place_behind (b + 1) t j (sent_names released))) is) ∙ e in
        absurd (omega arith)
placed b t j o (x ∷ released) has (inr among) =
    λ e. go (nat_eq x.emission.thread t && nat_eq x.emission.number j) e (placed (b + 1) t j o released has among)
  where
    go : (y : Bool) → cond y (b + 1) (place_behind (b + 1) t j (sent_names released)) ≡ 0
        → (place_behind (b + 1) t j (sent_names released) ≡ 0 → ⊥) → ⊥
    go true e rest = absurd (omega arith)
    go false e rest = rest e

all_before : (l : List Lacks) (k : ℕ) → slice_get l k ≡ None → length l ≤ k
all_before [] k e = omega arith
all_before (y ∷ l) zero e = absurd (cc)
all_before (y ∷ l) (suc k) e = let r = all_before l k e in omega (arith, r)

module _ {V : Type 0} (s : Setting V) (w : World V) (sound : Sound s w) where
  -- what an output lacks that was not released
  unreleased : (t j : ℕ) → place_in w t j ≡ 0 → (x : Lacks) → OutputLacks w t j x
      → Unreleased w t j (fate_of_lack x)
  unreleased t j none (lacks.Entry u n) (o, e, of, not, first, thread, number) =
      subst (λ (z : ℕ). Unreleased w t j (fate.Waiting z n)) thread
      (subst (λ (z : ℕ). Unreleased w t j (fate.Waiting e.thread z)) number (Waits o e of first))
  unreleased t j none lacks.Arrival (o, of, not, may) = MayArrive o of may
  unreleased t j none lacks.NotSent (inl (o, has, among)) = absurd (placed 0 t j o w.released has among none)
  unreleased t j none lacks.NotSent (inr not) = NotSent not

  -- none was sent with this number
  none_sent : (t j : ℕ) → outputs t (sent_of w.past) + 1 ≤ j → (o : SentOutput) → IsOutputOf w t j o → ⊥
  none_sent t j high o (sends, (thread, number)) =
      let low = number_high s.meaning (inputs_fed s w.fed) s.threads w.past o.emission o.after sound.firm.legal sends in
      let same : outputs o.emission.thread (sent_of w.past) ≡ outputs t (sent_of w.past) =
      ap (λ (u : ℕ). outputs u (sent_of w.past)) thread in
      absurd (omega (arith, low, same, number, high))

  lacking : (t j : ℕ) (list : List Lacks) → ListsLacks w t list → place_in w t j ≡ 0
      → Unreleased w t j (fate_of_lack (lacks_or_none (slice_get list j)))
  lacking t j list h none = go (slice_get list j) refl
    where
      go : (o : Option Lacks) → slice_get list j ≡ o → Unreleased w t j (fate_of_lack (lacks_or_none o))
      go (Some x) e = unreleased t j none x (h.each j x e)
      go None e =
          let long = all_before list j e in
          let count = h.long in
          NotSent (none_sent t j (omega (arith, long, count)))

  at_place : (t j p : ℕ) (x : Lacks) → (p ≡ 0 → Unreleased w t j (fate_of_lack x)) → by_place w t j p (fate_at p x)
  at_place t j zero x h = h refl
  at_place t j (suc n) x h = refl

  module _ (register : Option ℕ) (steps : List (Step V)) (departures : List Departure) (seen : Seen)
      (sees : HasSeen s.threads w seen) (inputs : List (List Became))
      (begot : HasBecome register s.threads steps inputs) where
    fate_is : (t : ℕ) → t < s.threads → (b : Became)
        → IsFate w t b (fate_from seen.places.items seen.lacks.items t b)
    fate_is t low Untaken = refl
    fate_is t low InHand = refl
    fate_is t low (Sent j) =
        let place : place_noted seen.places.items t j ≡ place_in w t j = sees.places.each t j low in
        subst
        (λ (p : ℕ). by_place w t j p (fate_at (place_noted seen.places.items t j) (lacks_noted seen.lacks.items t j)))
        place
        (at_place t j (place_noted seen.places.items t j) (lacks_noted seen.lacks.items t j)
        (λ none. lacking t j (slice_index_or seen.lacks.items t []) (sees.lacks.each t low) (sym place ∙ none)))
    fate_is t low (Ended reason) = refl

    became_is : (t k n : ℕ) → t < s.threads → k ≡ n + 1 → became_noted inputs t k ≡ became register steps t k
    became_is t k n low e =
        ap (became_noted inputs t) (e ∙ add-one n)
        ∙ ((begot.each t low).each n ∙ ap (became register steps t) (sym e))

    module _ (turns : List (ℕ × ℕ)) (steered : AreTurns s.threads s.tags s.packets turns) (rows : List Row)
        (filled : AreFilled departures seen.places.items seen.lacks.items inputs (take w.fed turns) rows) where
      found_in : {A : Type 0} (n : ℕ) (xs : List A) (i : ℕ) (x : A) → slice_get (take n xs) i ≡ Some x
          → slice_get xs i ≡ Some x
      found_in zero xs i x e = absurd (let bad : None ≡ Some x = e in cc)
      found_in (suc n) [] i x e = e
      found_in (suc n) (y ∷ xs) zero x e = e
      found_in (suc n) (y ∷ xs) (suc i) x e = found_in n xs i x e

      packet_there : (i : ℕ) → i < length turns → (p : Packet) × (slice_get s.packets i ≡ Some p)
      packet_there i low = go (slice_get s.packets i) refl
        where
          go : (o : Option Packet) → slice_get s.packets i ≡ o → (p : Packet) × (slice_get s.packets i ≡ Some p)
          go (Some p) e = (p, e)
          go None e =
              let long = all_taken s.packets i e in let same = steered.long in absurd (omega (arith, long, same, low))

      row_is : (i : ℕ) (row : Row) (turn : ℕ × ℕ) → slice_get turns i ≡ Some turn
          → IsFilled departures seen.places.items seen.lacks.items inputs i turn row
          → IsRow register s w steps departures i row
      row_is i row turn at h = record {
        packet = h.packet;
        there = there.0;
        there_is = there.1;
        thread = h.thread ∙ thread;
        input = h.input ∙ (number
            ∙ ap (λ (t : ℕ). length (inputs_fed s i t) + 1) (sym (h.thread ∙ thread)));
        fate = subst (IsFate w row.thread (became register steps row.thread row.input)) (sym same)
            (fate_is row.thread low (became register steps row.thread row.input));
        left = h.left;
      }
        where
          there : (p : Packet) × (slice_get s.packets i ≡ Some p)
          there = packet_there i (slice_get_within turns i turn at)

          turn_is : turn ≡ turn_of s.threads s.tags s.packets i there.0
          turn_is = let both : Some turn ≡ Some (turn_of s.threads s.tags s.packets i there.0) =
              sym at ∙ steered.each i there.0 there.1 in cc

          thread : turn.0 ≡ thread_of s.tags there.0 s.threads
          thread = ap (λ (x : ℕ × ℕ). x.0) turn_is

          number : turn.1 ≡ length (inputs_fed s i (thread_of s.tags there.0 s.threads)) + 1
          number = ap (λ (x : ℕ × ℕ). x.1) turn_is

          low : row.thread < s.threads
          low = subst (λ (t : ℕ). t < s.threads) (sym h.thread) (steered.below i turn at)

          same : row.fate
              ≡ fate_from seen.places.items seen.lacks.items row.thread (became register steps row.thread row.input)
          same =
              h.fate
              ∙ (ap (λ (t : ℕ). fate_from seen.places.items seen.lacks.items t (became_noted inputs t turn.1))
              (sym h.thread)
              ∙ (ap (λ (k : ℕ). fate_from seen.places.items seen.lacks.items row.thread
              (became_noted inputs row.thread k)) (sym h.input)
              ∙ ap (fate_from seen.places.items seen.lacks.items row.thread)
              (became_is row.thread row.input (length (inputs_fed s i (thread_of s.tags there.0 s.threads))) low
              (h.input ∙ number))))

      taken_alike : {A B : Type 0} (n : ℕ) (xs : List A) (ys : List B) → length xs ≡ length ys
          → length (take n xs) ≡ length (take n ys)
      taken_alike zero xs ys e = refl
      taken_alike (suc n) [] [] e = refl
      taken_alike (suc n) [] (y ∷ ys) e = absurd (omega arith)
      taken_alike (suc n) (x ∷ xs) [] e = absurd (omega arith)
      taken_alike (suc n) (x ∷ xs) (y ∷ ys) e = ap suc (taken_alike n xs ys (omega arith))

      pub rows_are : AreRows register s w steps departures rows
      rows_are = record {
        count = filled.long ∙ taken_alike w.fed turns s.packets steered.long;
        each = λ i row e.
            let there = filled.each i row e in
            row_is i row there.0 (found_in w.fed turns i there.0 there.1) there.2;
      }
