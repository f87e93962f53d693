-- Which entries are known, and which are still to arrive.
use Rattle.std.proofs.Common.{◌≡◌, ℕ, zero, suc, ◌+◌, ◌-◌, ◌≤◌, ◌<◌, ◌≢◌, List, [], ◌∷◌, ◌++◌, refl, sym, ap, ◌∙◌}
use Rattle.std.proofs.Common.{subst}
use Rattle.std.proofs.Common.{inl, inr, ◌⊎◌, arith}
use Rattle.plain_text.specs.declared.kind.Kind.{Kind}
use Rattle.plain_text.specs.declared.kind.Kind.TheVariants as kind
use Rattle.entry_order.specs.Log.{Entry, entries, IsIn}
use Rattle.entry_order.proofs.Order.{is_or, number_within}
use Rattle.plain_machine.specs.History.{Step, log_of}
use Rattle.plain_machine.proofs.Histories.{history_log}
use Rattle.plain_machine.proofs.LoggedEffects.{entry_thread}
use Rattle.recovery_world.specs.declared.event.Event.TheVariants as event
use Rattle.recovery_world.specs.declared.event.Outcome.{Outcome}
use Rattle.recovery_world.specs.World.{Setting, Sent, World, inputs_fed}
use Rattle.recovery_world.specs.Events.{IsKnown, IsEntryOf, On}
use Rattle.recovery_world.specs.Many.{Message, numbered, of_threads, all_messages}
use Rattle.recovery_laws.specs.Sound.{Sound}
use Rattle.recovery_laws.proofs.OneOutcome.{entry_one}
use Rattle.recovery_laws.proofs.Settlings.{Kept, log_keeps}
use Rattle.several_events.specs.Progressing.{count_in, of_rest, messages_from}
use Rattle.several_events.specs.Ahead.{IsToArrive, entry_message, AllArrive}

-- At first all entries are to arrive

in_left : (m : Message) (xs ys : List Message) → IsToArrive m xs → IsToArrive m (xs ++ ys)
in_left m [] ys h = absurd h
in_left m (x ∷ xs) ys (inl h) = inl h
in_left m (x ∷ xs) ys (inr h) = inr (in_left m xs ys h)

in_right : (m : Message) (xs ys : List Message) → IsToArrive m ys → IsToArrive m (xs ++ ys)
in_right m [] ys h = h
in_right m (x ∷ xs) ys h = inr (in_right m xs ys h)

abbrev message : Kind → ℕ → ℕ → Message
message k t n = record { kind = k; thread = t; number = n }

in_numbered : (k : Kind) (t n from many : ℕ) → from ≤ n → n < from + many
    → IsToArrive (message k t n) (numbered k t from many)
in_numbered k t n from zero low high = absurd (omega (arith, low, high))
in_numbered k t n from (suc many) low high =
    go (is_or from n) (λ less. in_numbered k t n (from + 1) many less (omega (arith, high)))
  where
    go : (from ≡ n) ⊎ (from ≢ n) → (from + 1 ≤ n → IsToArrive (message k t n) (numbered k t (from + 1) many))
        → (message k t from ≡ message k t n) ⊎ IsToArrive (message k t n) (numbered k t (from + 1) many)
    go (inl same) later = inl (ap (λ (i : ℕ). message k t i) same)
    go (inr other) later = inr (later (omega (arith, low, other)))

in_threads : (k : Kind) (count : ℕ → ℕ) (t n from many : ℕ) → from ≤ t → t < from + many → 1 ≤ n → n ≤ count t
    → IsToArrive (message k t n) (of_threads k count from many)
in_threads k count t n from zero first few low high = absurd (omega (arith, first, few))
in_threads k count t n from (suc many) first few low high =
    go (is_or from t) (λ less. in_threads k count t n (from + 1) many less (omega (arith, few)) low high)
  where
    go : (from ≡ t) ⊎ (from ≢ t) → (from + 1 ≤ t → IsToArrive (message k t n) (of_threads k count (from + 1) many))
        → IsToArrive (message k t n) (numbered k from 1 (count from) ++ of_threads k count (from + 1) many)
    go (inl same) later =
        in_left (message k t n) (numbered k from 1 (count from)) (of_threads k count (from + 1) many)
        (subst (λ (i : ℕ). IsToArrive (message k t n) (numbered k i 1 (count i))) (sym same)
        (in_numbered k t n 1 (count t) low (omega (arith, high))))
    go (inr other) later = in_right (message k t n) (numbered k from 1 (count from))
        (of_threads k count (from + 1) many) (later (omega (arith, first, other)))

entry_low : {V : Type 0} (s : Setting V) (w : World V) (e : Entry) → Sound s w → IsIn e (log_of w.past)
    → e.thread < s.threads
entry_low s w e h i = entry_thread s.meaning (inputs_fed s w.fed) s.threads w.past e h.firm.legal i

pub all_arrive : {V : Type 0} (s : Setting V) (w : World V) → Sound s w → AllArrive w (all_messages s w)
all_arrive {V} s w h e i =
    let n = number_within (log_of w.past) e
    (history_log s.meaning (inputs_fed s w.fed) s.threads w.past h.firm.legal) i in
    let low = entry_low s w e h i in
    inr (in_left (entry_message e) (of_threads kind.Log (count_in kind.Log w.past) 0 s.threads)
    (of_threads kind.Out (count_in kind.Out w.past) 0 s.threads)
    (in_threads kind.Log (count_in kind.Log w.past) e.thread e.number 0 s.threads (omega arith) (omega (arith, low)) n.0
    n.1))

-- The entry of the first message arrives

log_known : {V : Type 0} (s : Setting V) (w new : World V) (t n : ℕ) (to : Outcome) (freed : List Sent) → Sound s w
    → On s w (event.Log t n) to freed new → t < s.threads → (e : Entry) → IsEntryOf w t n e → IsKnown new e
log_known s w new t n to freed h (inl a) low e of = absurd (omega (arith, low, a.0))
log_known s w new t n to freed h (inr (l, inl a)) low e of = absurd (a.0 e of)
log_known {V} s w new t n to freed h (inr (l, inr (inl a))) low e of = subst (λ (z : World V). IsKnown z e) (sym a.5)
    (subst (λ (g : Entry). IsKnown w g) (entry_one s w h t n a.0 e a.1 of) a.2)
log_known {V} s w new t n to freed h (inr (l, inr (inr a))) low e of =
    subst (λ (z : World V). IsKnown z e) (sym a.4.new_is) (inl (inl (entry_one s w h t n a.0 e a.1 of)))

pub arrives_next : {V : Type 0} (s : Setting V) (w new : World V) (t n : ℕ) (to : Outcome) (freed : List Sent)
    (messages : List Message) → Sound s w → On s w (event.Log t n) to freed new
    → AllArrive w (message kind.Log t n ∷ messages) → AllArrive new messages
arrives_next {V} s w new t n to freed messages h on all e i = go (all e here)
  where
    k : Kept w new
    k = log_keeps s w new t n to freed on

    here : IsIn e (log_of w.past)
    here = subst (λ (p : List (Step V)). IsIn e (log_of p)) k.past i

    go : IsKnown w e ⊎ ((message kind.Log t n ≡ entry_message e) ⊎ IsToArrive (entry_message e) messages)
        → IsKnown new e ⊎ IsToArrive (entry_message e) messages
    go (inl known) = inl (k.known e known)
    go (inr (inr later)) = inr later
    go (inr (inl same)) =
        let thread : t ≡ e.thread = ap (λ (m : Message). m.thread) same in
        let number : n ≡ e.number = ap (λ (m : Message). m.number) same in
        let low = entry_low s w e h here in
        inl (log_known s w new t n to freed h on (omega (arith, thread, low)) e (here, sym thread, sym number))

-- Behind the last entry none is to arrive

numbered_out : (e : Entry) (t n many : ℕ) → IsToArrive (entry_message e) (numbered kind.Out t n many) → ⊥
numbered_out e t n zero h = h
numbered_out e t n (suc many) (inl same) =
    let k : kind.Out ≡ kind.Log = ap (λ (m : Message). m.kind) same in absurd (cc)
numbered_out e t n (suc many) (inr h) = numbered_out e t (n + 1) many h

either : (m : Message) (xs ys : List Message) → IsToArrive m (xs ++ ys) → IsToArrive m xs ⊎ IsToArrive m ys
either m [] ys h = inr h
either m (x ∷ xs) ys (inl h) = inl (inl h)
either m (x ∷ xs) ys (inr h) = go (either m xs ys h)
  where
    go : IsToArrive m xs ⊎ IsToArrive m ys → IsToArrive m (x ∷ xs) ⊎ IsToArrive m ys
    go (inl i) = inl (inr i)
    go (inr i) = inr i

threads_out : (e : Entry) (count : ℕ → ℕ) (t many : ℕ)
    → IsToArrive (entry_message e) (of_threads kind.Out count t many) → ⊥
threads_out e count t zero h = h
threads_out e count t (suc many) h =
    go (either (entry_message e) (numbered kind.Out t 1 (count t)) (of_threads kind.Out count (t + 1) many) h)
    (λ i. threads_out e count (t + 1) many i)
  where
    go : IsToArrive (entry_message e) (numbered kind.Out t 1 (count t))
        ⊎ IsToArrive (entry_message e) (of_threads kind.Out count (t + 1) many)
        → (IsToArrive (entry_message e) (of_threads kind.Out count (t + 1) many) → ⊥) → ⊥
    go (inl i) later = numbered_out e t 1 (count t) i
    go (inr i) later = later i

-- the first of some entries is an entry
abbrev AreEntries : List Message → Type 0
AreEntries [] = Unit {0}
AreEntries (m ∷ messages) = (m.kind ≡ kind.Log) × AreEntries messages

both_entries : (xs ys : List Message) → AreEntries xs → AreEntries ys → AreEntries (xs ++ ys)
both_entries [] ys a b = b
both_entries (x ∷ xs) ys a b = (a.0, both_entries xs ys a.1 b)

numbered_entries : (t n many : ℕ) → AreEntries (numbered kind.Log t n many)
numbered_entries t n zero = tt
numbered_entries t n (suc many) = (refl, numbered_entries t (n + 1) many)

threads_entries : (count : ℕ → ℕ) (t many : ℕ) → AreEntries (of_threads kind.Log count t many)
threads_entries count t zero = tt
threads_entries count t (suc many) = both_entries (numbered kind.Log t 1 (count t))
    (of_threads kind.Log count (t + 1) many) (numbered_entries t 1 (count t)) (threads_entries count (t + 1) many)

rest_entries : (count : ℕ → ℕ) (t arrived many : ℕ) → AreEntries (of_rest kind.Log count t arrived many)
rest_entries count t arrived zero = tt
rest_entries count t arrived (suc many) =
    both_entries (numbered kind.Log t (arrived + 1) (count t - arrived)) (of_threads kind.Log count (t + 1) many)
    (numbered_entries t (arrived + 1) (count t - arrived)) (threads_entries count (t + 1) many)

-- an output comes next, or none
pub data BeginsOut : List Message → Type 0 where
  NoneIs : BeginsOut []
  OutIs : (m : Message) (messages : List Message) → m.kind ≡ kind.Out → BeginsOut (m ∷ messages)

no_entries : (e : Entry) (logs outs : List Message) → AreEntries logs → BeginsOut (logs ++ outs)
    → (IsToArrive (entry_message e) outs → ⊥) → IsToArrive (entry_message e) (logs ++ outs) → ⊥
no_entries e [] outs all begins none h = none h
no_entries e (x ∷ logs) outs all (OutIs m messages is) none h =
    let k : x.kind ≡ kind.Log = all.0 in absurd (cc)

pub none_left : {V : Type 0} (s : Setting V) (w : World V) (t arrived : ℕ)
    → BeginsOut (messages_from s w kind.Log t arrived) → AllArrive w (messages_from s w kind.Log t arrived)
    → (e : Entry) → IsIn e (log_of w.past) → IsKnown w e
none_left {V} s w t arrived begins all e i = go (all e i)
  where
    go : IsKnown w e ⊎ IsToArrive (entry_message e) (messages_from s w kind.Log t arrived) → IsKnown w e
    go (inl known) = known
    go (inr later) =
        absurd (no_entries e (of_rest kind.Log (count_in kind.Log w.past) t arrived (s.threads - t))
        (of_threads kind.Out (count_in kind.Out w.past) 0 s.threads)
        (rest_entries (count_in kind.Log w.past) t arrived (s.threads - t)) begins
        (threads_out e (count_in kind.Out w.past) 0 s.threads) later)
