-- What a call of a worker came to, by what the call of the round says.
use Rattle.std.proofs.Common.{◌≡◌, ℕ, zero, suc, ◌+◌, ◌-◌, ◌⊎◌, inl, inr, List, ◌∷◌, refl, sym, ap, ◌∙◌, subst}
use Rattle.std.proofs.Common.{Option, Some, None, arith, IsTrue}
use Rattle.std.specs.Prelude.{IsSome, slice_get}
use Rattle.rand_pcg.specs.Lcg.{Lcg}
use Rattle.plain_text.specs.declared.packet.Packet.{Packet}
use Rattle.entry_order.specs.declared.what.What.{What}
use Rattle.entry_order.specs.declared.what.What.TheVariants as what
use Rattle.input_logger.specs.Inputs.{Fed, inputs_of, input_at}
use Rattle.access_log.specs.Held.{Lane}
use Rattle.access_log.specs.declared.entry.StampedEntry.{StampedEntry}
use Rattle.plain_machine.specs.declared.local.Local.{Local}
use Rattle.plain_machine.specs.declared.local.Move.{Move}
use Rattle.plain_machine.specs.declared.local.Move.TheVariants as move
use Rattle.plain_machine.specs.Program.{Meaning}
use Rattle.box_program.specs.Hands.{has_hand}
use Rattle.master_core.specs.declared.parts.VarPart.{VarPart}
use Rattle.master_core.specs.declared.wants.Wants.{Wants}
use Rattle.master_core.specs.declared.wants.Wants.TheVariants as wants
use Rattle.master_core.specs.declared.step.Stepped.{Stepped}
use Rattle.master_core.specs.declared.step.Stepped.TheVariants as stepped
use Rattle.master_core.specs.declared.step.Trace.{Trace}
use Rattle.master_core.specs.declared.step.Trace.TheVariants as trace
use Rattle.master_core.specs.Effects.{TouchesParts, ReadsParts}
use Rattle.var_locks.specs.declared.view.Note.{Note}
use Rattle.var_locks.specs.declared.touching.Touched.{Touched}
use Rattle.var_locks.specs.declared.touching.Touched.TheVariants as touched
use Rattle.var_locks.specs.Notes.{IsOwnBy, IsOwnEntry, IsOnVariable, own_note, input_number, told_by}
use Rattle.var_locks.specs.Seats.{Seated, HasMade}
use Rattle.var_locks.specs.Plain.{Steps, IsOwnAnswer}
use Rattle.var_locks.specs.TouchedParts.{Touches, HasTouched, IsBlocked, missed_at}
use Rattle.var_locks.specs.Wanting.{seat_wants, seat_wants_in, seat_wants_by}
use Rattle.round_events.specs.Shown.{IsShown}
use Rattle.round_events.proofs.Blocked.{blocked_stuck}
use Rattle.live_workers.specs.Telling.{IsUnrecorded, IsWord, IsToldBy, IsTold, IsAtHand}
use Rattle.live_workers.specs.Moving.{ComesTo, HasInput, IsFedTo, IsHeld, OneMore, input_wanted, touch_shown}

some_same : {A : Type 0} (x y : A) → Some x ≡ Some y → x ≡ y
some_same x y e = cc

none_some : {A : Type 0} (x : A) → None ≡ Some x → ⊥
none_some x e = cc

no_hand : IsTrue (has_hand None) → ⊥
no_hand e = cc

-- A touch or a read

module _ {V : Type 0} (m : Meaning V) (guide : List Lane) (packets : List Packet) (may : ℕ → Type 0)
    (old : Seated V) (g : Lcg) (new : Seated V) where
  -- a seat as a move left it, whatever it saw
  abbrev seat_left : List (Note V) → List ℕ → Seated V
  seat_left notes seen = record {
    thread = old.thread;
    part = new.part;
    notes = notes;
    seen = seen;
    missing = old.missing;
    ended = old.ended;
    round = old.round;
  }

  as_seen : (notes : List (Note V)) (seen : List ℕ) → new ≡ seat_left notes seen → new ≡ seat_left notes new.seen
  as_seen notes seen is =
      is ∙ ap (λ (l : List ℕ). seat_left notes l) (sym (ap (λ (z : Seated V). z.seen) is))

  untold : (e : StampedEntry) (v : ℕ) (n : Note V) (x y : VarPart V) (place : Local)
      → IsOnVariable m old.thread v n x y place e → IsTold may guide old.thread (stepped.Did e) g g
  untold e v n x y place on = go on.does
    where
      go : ((m.next place ≡ move.Access v) × TouchesParts m old.thread v place n.before x e n.after y)
          ⊎ ((m.next place ≡ move.Read v) × ReadsParts m old.thread v place n.before x e n.after y)
          → IsTold may guide old.thread (stepped.Did e) g g
      go (inl (next, does)) =
          subst (λ (w : What). IsToldBy may guide old.thread e.number w g g)
          (sym (ap (λ (f : StampedEntry). f.what) does.logs.entry)) refl
      go (inr (next, does)) =
          subst (λ (w : What). IsToldBy may guide old.thread e.number w g g)
          (sym (ap (λ (f : StampedEntry). f.what) does.logs.entry)) refl

  did : (e : StampedEntry) → HasTouched m guide old e new
      → OneMore m guide packets may old g new g (stepped.Did e)
  did e t =
      let n : Note V = record {
        before = old.part;
        after = new.part;
        trace = trace.Did e;
        packet = None;
        found = Some t.found;
      } in
      record {
        note = n;
        seat = as_seen (n ∷ old.notes) _ t.seat;
        before = refl;
        done = inr (t.var, t.found, t.left, t.place, e, t.on);
        guided = t.guided;
        shown = refl;
        fed = λ p is. absurd (none_some p is);
        told = untold e t.var n t.found t.left t.place t.on;
      }

  held : (u k : ℕ) → IsBlocked m guide old u k new → IsHeld m guide old new
  held u k b = record {
    entry = missed_at u k b.var b.found.places;
    stuck = blocked_stuck m guide old new u k b;
    seat = b.seat ∙ ap (λ l. record old { missing = l }) (sym (ap (λ (z : Seated V). z.missing) b.seat));
  }

  pub touch_comes : (r : Touched) → Touches m guide old new r
      → ComesTo m guide packets may old g new g (touch_shown r)
  touch_comes (touched.Did e) is = did e is
  touch_comes (touched.Blocked u k) is = (held u k is, refl)
  touch_comes touched.NoMemory is = is

-- A move on no variable

-- the input of a thread with which its next move is made
input_is : (inputs : Fed) (t n : ℕ) → input_at inputs t (n + 1) ≡ slice_get (inputs_of inputs t) n
input_is inputs t n = let same : n + 1 ≡ suc n = omega arith in ap (input_at inputs t) same

taken_is : (inputs : Fed) (t n : ℕ) (p : Packet) → input_at inputs t n ≡ Some p
    → slice_get (inputs_of inputs t) (n - 1) ≡ Some p
taken_is inputs t zero p is = absurd (none_some p is)
taken_is inputs t (suc n) p is = let same : suc n - 1 ≡ n = omega arith in ap (slice_get (inputs_of inputs t)) same ∙ is

module _ {V : Type 0} (m : Meaning V) (guide : List Lane) (inputs : Fed) (may : ℕ → Type 0) (old : Seated V) (g : Lcg)
    (new : Seated V) (g_new : Lcg) (answer : ℕ) (input : Option Packet)
    (input_of : input ≡ input_at inputs old.thread (input_wanted (seat_wants m old) old.part.counts))
    (hand : IsAtHand may guide old.thread (seat_wants m old) answer g g_new) where
  abbrev packets : List Packet
  packets = inputs_of inputs old.thread

  wanted_with : (o : Option Local) → old.part.hand ≡ o
      → seat_wants m old ≡ seat_wants_in m old.part.counts old.seen o
  wanted_with o is = ap (λ (z : Option Local). seat_wants_in m old.part.counts old.seen z) is

  wanted_at : (place : Local) (next : Move) → old.part.hand ≡ Some place → m.next place ≡ next
      → seat_wants m old ≡ seat_wants_by old.part.counts old.seen next
  wanted_at place next is at =
      wanted_with (Some place) is ∙ ap (λ (z : Move). seat_wants_by old.part.counts old.seen z) at

  hand_by : (w : Wants) → seat_wants m old ≡ w → IsAtHand may guide old.thread w answer g g_new
  hand_by w is = subst (λ (z : Wants). IsAtHand may guide old.thread z answer g g_new) is hand

  input_by : (w : Wants) → seat_wants m old ≡ w
      → input ≡ input_at inputs old.thread (input_wanted w old.part.counts)
  input_by w is = input_of ∙ ap (λ (z : Wants). input_at inputs old.thread (input_wanted z old.part.counts)) is

  -- the input of a thread that has no packet in hand, and of one that has
  fed_none : old.part.hand ≡ None → input ≡ slice_get packets old.part.counts.taken
  fed_none none = input_by (wants.Take (old.part.counts.taken + 1)) (wanted_with None none)
      ∙ input_is inputs old.thread old.part.counts.taken

  asks_taken : (place : Local) (w : Wants) → seat_wants_by old.part.counts old.seen (m.next place) ≡ w
      → input_wanted w old.part.counts ≡ old.part.counts.taken
  asks_taken place w is = go (m.next place) is
    where
      go : (next : Move) → seat_wants_by old.part.counts old.seen next ≡ w
          → input_wanted w old.part.counts ≡ old.part.counts.taken
      go (move.Access v) is = sym (ap (λ (z : Wants). input_wanted z old.part.counts) is)
      go (move.Read v) is = sym (ap (λ (z : Wants). input_wanted z old.part.counts) is)
      go move.Clock is = sym (ap (λ (z : Wants). input_wanted z old.part.counts) is)
      go move.Draw is = sym (ap (λ (z : Wants). input_wanted z old.part.counts) is)
      go move.Emit is = sym (ap (λ (z : Wants). input_wanted z old.part.counts) is)
      go move.End is = sym (ap (λ (z : Wants). input_wanted z old.part.counts) is)

  fed_some : (place : Local) → old.part.hand ≡ Some place
      → input ≡ input_at inputs old.thread old.part.counts.taken
  fed_some place some =
      input_of
      ∙ ap (input_at inputs old.thread) (asks_taken place (seat_wants m old) (sym (wanted_with (Some place) some)))

  fed : (n : Note V) → n.before ≡ old.part → n.packet ≡ input → IsFedTo packets n
  fed n before packet p is = go old.part.hand refl
    where
      number : input_number n.before ≡ input_number old.part
      number = ap input_number before

      passed : input ≡ Some p
      passed = sym packet ∙ is

      go : (o : Option Local) → old.part.hand ≡ o → slice_get packets (input_number n.before) ≡ Some p
      go None none =
          ap (slice_get packets) (number ∙ number_none none) ∙ (sym (fed_none none) ∙ passed)
        where
          number_none : old.part.hand ≡ None → input_number old.part ≡ old.part.counts.taken
          number_none e = ap (λ (z : Option Local). input_number (record old.part { hand = z })) e
      go (Some place) some =
          ap (slice_get packets) (number ∙ number_some some)
          ∙ taken_is inputs old.thread old.part.counts.taken p (sym (fed_some place some) ∙ passed)
        where
          number_some : old.part.hand ≡ Some place → input_number old.part ≡ old.part.counts.taken - 1
          number_some e = ap (λ (z : Option Local). input_number (record old.part { hand = z })) e

  -- what was made, told and shown
  made : (r : Stepped) (tr : Trace) → HasMade m guide old tr input new
      → IsShown m old.thread (own_note old.part new.part tr input) r → IsTold may guide old.thread r g g_new
      → OneMore m guide packets may old g new g_new r
  made r tr h shown told = record {
    note = own_note old.part new.part tr input;
    seat = as_seen m guide packets may old g new (own_note old.part new.part tr input ∷ old.notes) old.seen h.seat;
    before = refl;
    done = inl h.own;
    guided = h.guided;
    shown = shown;
    fed = fed (own_note old.part new.part tr input) refl refl;
    told = told;
  }

  -- what a thread was told that asked
  told_entry : (e : StampedEntry) (w : What) → e.what ≡ w
      → IsOwnEntry m old.thread (own_note old.part new.part (trace.Did e) input) e w
      → IsOwnAnswer guide old.thread answer e → IsToldBy may guide old.thread e.number w g g_new
  told_entry e (what.Access v s) is own free = absurd own
  told_entry e (what.Read v s) is own free = absurd own
  told_entry e (what.Clock a) is (place, next, hears) free =
      let at = hand_by (wants.Clock (old.part.counts.entries + 1)) (wanted_at place move.Clock hears.hand next) in
      let number : e.number ≡ old.part.counts.entries + 1 = ap (λ (f : StampedEntry). f.number) hears.hears.entry in (
        λ none. subst may (some_same answer a (sym (subst (λ (z : What). told_by z ≡ Some answer) is (free none))))
            (at.0 (subst (λ (n : ℕ). IsUnrecorded guide old.thread n) number none)),
        at.1,
      )
  told_entry e (what.Draw a) is (place, next, hears) free = word at
    where
      number : e.number ≡ old.part.counts.entries + 1
      number = ap (λ (f : StampedEntry). f.number) hears.hears.entry

      at : IsWord guide old.thread e.number answer g g_new
      at = subst (λ (n : ℕ). IsWord guide old.thread n answer g g_new) (sym number)
          (hand_by (wants.Draw (old.part.counts.entries + 1)) (wanted_at place move.Draw hears.hand next))

      word : IsWord guide old.thread e.number answer g g_new → IsWord guide old.thread e.number a g g_new
      word (inl (none, is_word, next_is)) =
          inl (
            none,
            some_same a answer (subst (λ (z : What). told_by z ≡ Some answer) is (free none)) ∙ is_word,
            next_is,
          )
      word (inr (some, same)) = inr (some, same)

  by_own : (tr : Trace) → HasMade m guide old tr input new
      → IsOwnBy m old.thread (own_note old.part new.part tr input) tr
  by_own tr h = h.own

  pub plain_comes : (r : Stepped) → Steps m guide old answer input new r
      → ComesTo m guide packets may old g new g_new r
  plain_comes (stepped.Took k) h =
      let own = by_own (trace.Took k) h in
      made (stepped.Took k) (trace.Took k) h refl
      (hand_by (wants.Take (old.part.counts.taken + 1)) (wanted_with None own.1.hand))
  plain_comes (stepped.Did e) (h, free) =
      made (stepped.Did e) (trace.Did e) h refl (told_entry e e.what refl (by_own (trace.Did e) h) free)
  plain_comes (stepped.Emitted o) (h, sent) =
      let own = by_own (trace.Emitted o.number) h in
      made (stepped.Emitted o) (trace.Emitted o.number) h (refl, sent)
      (hand_by wants.Emit (wanted_at own.0 move.Emit own.1.hand own.1.next))
  plain_comes (stepped.Ended k) h =
      let own = by_own (trace.Ended k) h in
      made (stepped.Ended k) (trace.Ended k) h refl
      (hand_by wants.End (wanted_at own.0 move.End own.1.hand own.1.next))
  plain_comes stepped.Idle (same, none, no_input) = (
    same,
    hand_by (wants.Take (old.part.counts.taken + 1)) (wanted_with None none),
    (none, sym (fed_none none) ∙ no_input),
  )
  plain_comes (stepped.NotTurn u n) is = absurd is
  plain_comes stepped.NoMemory is = is

  -- a packet in hand is passed
  pub passed : HasInput packets old.part → IsTrue (has_hand old.part.hand) → IsSome input
  passed has = go old.part.hand refl
    where
      there : (place : Local) → old.part.hand ≡ Some place → (p : Packet) × (input ≡ Some p)
      there place some =
          let h = has place some in
          (h.1, fed_some place some ∙ ap (input_at inputs old.thread) h.2 ∙ input_is inputs old.thread h.0 ∙ h.3)

      go : (o : Option Local) → old.part.hand ≡ o → IsTrue (has_hand o) → IsSome input
      go None none is = absurd (no_hand is)
      go (Some place) some is = subst IsSome (sym (there place some).1) refl
