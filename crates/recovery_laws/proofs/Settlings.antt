-- A flow and a settling release all: behind the packets that came in all threads are idle, all that they logged is
-- held, and all that they sent out is released.
use Rattle.std.proofs.Common.{◌≡◌, ℕ, zero, suc, ◌+◌, ◌≤◌, ◌<◌, ◌≢◌, true, false, List, [], ◌∷◌, ◌++◌, length, refl}
use Rattle.std.proofs.Common.{sym, ap, ◌∙◌, subst, inl, inr, ◌⊎◌, arith, Option, Some, None}
use Rattle.std.specs.Prelude.{◌-◌, min, nat_eq, take, slice_get}
use Rattle.std.proofs.lemmas.Bool.Decides.{nat_tests}
use Rattle.plain_text.specs.declared.limit.Limit.{Limit}
use Rattle.plain_text.specs.declared.kind.Kind.{Kind}
use Rattle.plain_text.specs.declared.kind.Kind.TheVariants as kind
use Rattle.plain_text.specs.declared.packet.Packet.{Packet}
use Rattle.recovery_world.specs.FromInputLogger.{inputs_of}
use Rattle.entry_order.specs.Log.{Entry, entries, IsIn}
use Rattle.entry_order.specs.Closed.{IsMissing}
use Rattle.entry_order.proofs.Order.{is_or, number_within}
use Rattle.entry_order.proofs.KeptEntries.{in_either}
use Rattle.entry_order.proofs.Missing.{output_in}
use Rattle.plain_machine.specs.declared.emission.Emission.{Emission}
use Rattle.plain_machine.specs.declared.plain_move.PlainMove.{PlainMove}
use Rattle.plain_machine.specs.Program.{Meaning}
use Rattle.plain_machine.specs.History.{Emitted, Step, log_of, sent_of, outputs, thread_after, IsStep, IsHistory}
use Rattle.plain_machine.specs.Agree.{IsEarlier, SendsAfter}
use Rattle.plain_machine.proofs.Histories.{history_log, did_emission, earlier_history, earlier_outputs}
use Rattle.plain_machine.proofs.Agreement.{histories_agree, sends_at}
use Rattle.plain_machine.proofs.LoggedEffects.{entry_thread}
use Rattle.plain_machine.specs.Continue.{GoesQuietly, IsLed}
use Rattle.recovery_world.proofs.FromPlainMachine.{taken_within, all_taken}
use Rattle.recovery_world.proofs.FromPlainMachine.{quiet_later}
use Rattle.recovery_world.specs.declared.event.Event.{Event}
use Rattle.recovery_world.specs.declared.event.Event.TheVariants as event
use Rattle.recovery_world.specs.declared.event.Outcome.{Outcome}
use Rattle.recovery_world.specs.World.{Setting, Sent, World, inputs_fed, all_inputs, opening}
use Rattle.recovery_world.specs.Events.{IsKnown, IsEntryOf, IsAmong, HasNumber, IsOutputOf, Wakes, On}
use Rattle.recovery_world.specs.Limits.{OnWithin}
use Rattle.recovery_world.specs.Finish.{IsToCome, AllGoOn, IsFinish}
use Rattle.recovery_world.specs.Strategies.{Choice, Follows, Ends as NoneIs, Halts, Goes}
use Rattle.recovery_world.specs.Many.{Message, arrival, numbered, of_threads, Phase, Wakes as WakesFirst, Steps}
use Rattle.recovery_world.specs.Many.{Arrives, first_of, goes_on, begins, OnAny, Single, Several}
use Rattle.recovery_world.specs.Files.{reply_line, Performs, Rests as NoMore, Goes as Writes, Leaves}
use Rattle.recovery_laws.specs.Sound.{IsKept, Sound}
use Rattle.recovery_laws.specs.Ends.{Ends}
use Rattle.recovery_laws.specs.Settled.{IsSettled, HasFlowed}
use Rattle.recovery_laws.proofs.KeptWorlds.{within_sound, follows_sound, opening_sound, performs_sound}
use Rattle.recovery_laws.proofs.Rounds.{Rested, none_to_come, idle, comes_to_rest}
use Rattle.recovery_laws.proofs.Worlds.{known_here}
use Rattle.recovery_laws.proofs.Finishes.{sends_thread, finish_ends}
use Rattle.recovery_laws.proofs.Replays.{no_step}
use Rattle.recovery_laws.proofs.AcceptedRuns.{among_times}
use Rattle.recovery_laws.proofs.OneOutcome.{sent_eq, entry_one, output_one}

-- All that arrives

-- what arrivals keep
pub record Kept {V : Type 0} (w new : World V) : Type 0 where
  pub past : new.past ≡ w.past
  pub stored : new.stored ≡ w.stored
  pub followed : new.followed ≡ w.followed
  pub fed : new.fed ≡ w.fed
  pub up : new.up ≡ w.up
  pub known : (e : Entry) → IsKnown w e → IsKnown new e
  pub released : (o : Sent) → IsAmong o w.released → IsAmong o new.released

kept_same : {V : Type 0} (w new : World V) → new ≡ w → Kept w new
kept_same {V} w new same = subst (λ (z : World V). Kept w z) (sym same) (record {
  past = refl;
  stored = refl;
  followed = refl;
  fed = refl;
  up = refl;
  known = λ e k. k;
  released = λ o k. k;
})

kept_on : {V : Type 0} (w mid new : World V) → Kept w mid → Kept mid new → Kept w new
kept_on w mid new a b = record {
  past = b.past ∙ a.past;
  stored = b.stored ∙ a.stored;
  followed = b.followed ∙ a.followed;
  fed = b.fed ∙ a.fed;
  up = b.up ∙ a.up;
  known = λ e k. b.known e (a.known e k);
  released = λ o k. b.released o (a.released o k);
}

pub among_left : (o : Sent) (xs ys : List Sent) → IsAmong o xs → IsAmong o (xs ++ ys)
among_left o [] ys h = absurd h
among_left o (x ∷ xs) ys (inl h) = inl h
among_left o (x ∷ xs) ys (inr h) = inr (among_left o xs ys h)

pub among_right : (o : Sent) (xs ys : List Sent) → IsAmong o ys → IsAmong o (xs ++ ys)
among_right o [] ys h = h
among_right o (x ∷ xs) ys h = inr (among_right o xs ys h)

pub log_keeps : {V : Type 0} (s : Setting V) (w new : World V) (t n : ℕ) (to : Outcome) (freed : List Sent)
    → On s w (event.Log t n) to freed new → Kept w new
log_keeps s w new t n to freed (inl a) = kept_same w new a.3
log_keeps s w new t n to freed (inr (low, inl a)) = kept_same w new a.3
log_keeps s w new t n to freed (inr (low, inr (inl a))) = kept_same w new a.5
log_keeps {V} s w new t n to freed (inr (low, inr (inr a))) =
    subst (λ (z : World V). Kept w z) (sym a.4.new_is) (record {
      past = refl;
      stored = refl;
      followed = refl;
      fed = refl;
      up = refl;
      known = grow;
      released = λ o k. among_left o w.released freed k;
    })
  where
    grow : (e : Entry) → IsKnown w e → IsIn e (a.0 ∷ w.held) ⊎ IsIn e (log_of w.stored)
    grow e (inl k) = inl (inr k)
    grow e (inr k) = inr k

log_known : {V : Type 0} (s : Setting V) (w new : World V) (t n : ℕ) (to : Outcome) (freed : List Sent) → Sound s w
    → On s w (event.Log t n) to freed new → t < s.threads → (e : Entry) → IsEntryOf w t n e → IsKnown new e
log_known s w new t n to freed h (inl a) low e of = absurd (omega (arith, low, a.0))
log_known s w new t n to freed h (inr (l, inl a)) low e of = absurd (a.0 e of)
log_known {V} s w new t n to freed h (inr (l, inr (inl a))) low e of = subst (λ (z : World V). IsKnown z e) (sym a.5)
    (subst (λ (g : Entry). IsKnown w g) (entry_one s w h t n a.0 e a.1 of) a.2)
log_known {V} s w new t n to freed h (inr (l, inr (inr a))) low e of =
    subst (λ (z : World V). IsKnown z e) (sym a.4.new_is) (inl (inl (entry_one s w h t n a.0 e a.1 of)))

pub out_keeps : {V : Type 0} (s : Setting V) (w new : World V) (t j : ℕ) (to : Outcome) (freed : List Sent)
    → On s w (event.Out t j) to freed new → Kept w new
out_keeps s w new t j to freed (inl a) = kept_same w new a.3
out_keeps s w new t j to freed (inr (low, (inl a, f))) = kept_same w new a.2
out_keeps s w new t j to freed (inr (low, (inr (inl a), f))) = kept_same w new a.4
out_keeps {V} s w new t j to freed (inr (low, (inr (inr (inl a)), f))) =
    subst (λ (z : World V). Kept w z) (sym a.5) (record {
      past = refl;
      stored = refl;
      followed = refl;
      fed = refl;
      up = refl;
      known = λ e k. k;
      released = λ o k. among_left o w.released (a.0 ∷ []) k;
    })
out_keeps {V} s w new t j to freed (inr (low, (inr (inr (inr a)), f))) =
    subst (λ (z : World V). Kept w z) (sym a.6) (record {
      past = refl;
      stored = refl;
      followed = refl;
      fed = refl;
      up = refl;
      known = λ e k. k;
      released = λ o k. k;
    })

-- an output of the past, all of whose entries are known, is released when it arrives, where nothing followed is to come
out_released : {V : Type 0} (s : Setting V) (w new : World V) (t j : ℕ) (to : Outcome) (freed : List Sent) → Sound s w
    → ((e : Entry) → IsIn e (log_of w.past) → IsKnown w e) → ((f : Entry) → IsToCome w f → ⊥)
    → On s w (event.Out t j) to freed new → t < s.threads → (o : Sent) → IsOutputOf w t j o → IsAmong o new.released
out_released {V} s w new t j to freed h all none on low o of = go on
  where
    misses : (p : Sent) (e : Entry) → IsMissing (log_of w.past) (log_of w.stored) w.held p.emission.thread p.after e → ⊥
    misses p e m = pick (all e (output_in (log_of w.past) p.emission.thread p.after e m.precedes))
      where
        pick : IsKnown w e → ⊥
        pick (inl k) = m.not_held k
        pick (inr k) = m.not_stored k

    arrived : (p : Sent) → HasNumber t j p → IsAmong p w.released ⊎ IsAmong p w.waiting → IsAmong o w.released
    arrived p n (inr k) = absurd (h.waits p k (λ e m. misses p e m))
    arrived p n (inl i) = subst (λ (q : Sent). IsAmong q w.released) (sent_eq p o r.0 r.1) i
      where
        k : IsKept s w (h.firm.more ++ log_of w.past) p
        k = h.firm.released p i

        kept : (e : Entry) → IsIn e k.before → IsIn e (log_of w.past)
        kept e x = pick (in_either e h.firm.more (log_of w.past) (known_here s w h.firm e (k.known e x)))
          where
            pick : IsIn e h.firm.more ⊎ IsIn e (log_of w.past) → IsIn e (log_of w.past)
            pick (inl a) = absurd (none e ((h.firm.to_come e).0 a))
            pick (inr a) = a

        r : (p.emission ≡ o.emission) × (p.after ≡ o.after)
        r = (histories_agree s.meaning (inputs_fed s w.fed) s.threads k.run w.past k.before k.history h.firm.legal
            k.closed_there k.of_run kept).1 p.emission o.emission p.after o.after k.sends of.0 (n.0 ∙ sym of.1.0)
            (n.1 ∙ sym of.1.1) k.precedes

    go : On s w (event.Out t j) to freed new → IsAmong o new.released
    go (inl a) = absurd (omega (arith, low, a.0))
    go (inr (l, (inl a, f))) = absurd (a.0 o of)
    go (inr (l, (inr (inl a), f))) = subst (λ (z : World V). IsAmong o z.released) (sym a.4) (arrived a.2.0 a.2.1 a.2.2)
    go (inr (l, (inr (inr (inl a)), f))) = subst (λ (z : World V). IsAmong o z.released) (sym a.5)
        (among_right o w.released (a.0 ∷ []) (inl (output_one s w h t j a.0 o a.1 of)))
    go (inr (l, (inr (inr (inr a)), f))) = absurd (misses a.0 a.3 a.4.missing)

-- One after another

abbrev Has : Message → List Message → Type 0
Has m [] = ⊥
Has m (x ∷ xs) = (x ≡ m) ⊎ Has m xs

-- all are of a kind
abbrev Each : Kind → List Message → Type 0
Each k [] = Unit {0}
Each k (x ∷ xs) = (x.kind ≡ k) × Each k xs

each_both : (k : Kind) (xs ys : List Message) → Each k xs → Each k ys → Each k (xs ++ ys)
each_both k [] ys a b = b
each_both k (x ∷ xs) ys a b = (a.0, each_both k xs ys a.1 b)

each_numbered : (k : Kind) (t n many : ℕ) → Each k (numbered k t n many)
each_numbered k t n zero = tt
each_numbered k t n (suc many) = (refl, each_numbered k t (n + 1) many)

each_thread : (k : Kind) (count : ℕ → ℕ) (t many : ℕ) → Each k (of_threads k count t many)
each_thread k count t zero = tt
each_thread k count t (suc many) = each_both k (numbered k t 1 (count t)) (of_threads k count (t + 1) many)
    (each_numbered k t 1 (count t)) (each_thread k count (t + 1) many)

has_left : (m : Message) (xs ys : List Message) → Has m xs → Has m (xs ++ ys)
has_left m [] ys h = absurd h
has_left m (x ∷ xs) ys (inl h) = inl h
has_left m (x ∷ xs) ys (inr h) = inr (has_left m xs ys h)

has_right : (m : Message) (xs ys : List Message) → Has m ys → Has m (xs ++ ys)
has_right m [] ys h = h
has_right m (x ∷ xs) ys h = inr (has_right m xs ys h)

abbrev message : Kind → ℕ → ℕ → Message
message k t n = record { kind = k; thread = t; number = n }

has_number : (k : Kind) (t n from many : ℕ) → from ≤ n → n < from + many → Has (message k t n) (numbered k t from many)
has_number k t n from zero low high = absurd (omega (arith, low, high))
has_number k t n from (suc many) low high =
    go (is_or from n) (λ less. has_number k t n (from + 1) many less (omega (arith, high)))
  where
    go : (from ≡ n) ⊎ (from ≢ n) → (from + 1 ≤ n → Has (message k t n) (numbered k t (from + 1) many))
        → (message k t from ≡ message k t n) ⊎ Has (message k t n) (numbered k t (from + 1) many)
    go (inl same) later = inl (ap (λ (i : ℕ). message k t i) same)
    go (inr other) later = inr (later (omega (arith, low, other)))

has_thread : (k : Kind) (count : ℕ → ℕ) (t n from many : ℕ) → from ≤ t → t < from + many → 1 ≤ n → n ≤ count t
    → Has (message k t n) (of_threads k count from many)
has_thread k count t n from zero first few low high = absurd (omega (arith, first, few))
has_thread k count t n from (suc many) first few low high =
    go (is_or from t) (λ less. has_thread k count t n (from + 1) many less (omega (arith, few)) low high)
  where
    go : (from ≡ t) ⊎ (from ≢ t) → (from + 1 ≤ t → Has (message k t n) (of_threads k count (from + 1) many))
        → Has (message k t n) (numbered k from 1 (count from) ++ of_threads k count (from + 1) many)
    go (inl same) later = has_left (message k t n) (numbered k from 1 (count from)) (of_threads k count (from + 1) many)
        (subst (λ (i : ℕ). Has (message k t n) (numbered k i 1 (count i))) (sym same)
        (has_number k t n 1 (count t) low (omega (arith, high))))
    go (inr other) later = has_right (message k t n) (numbered k from 1 (count from))
        (of_threads k count (from + 1) many) (later (omega (arith, first, other)))

module _ {V : Type 0} (s : Setting V) where
  abbrev Arriving : List Message → World V → World V → Type 0
  Arriving messages w new = Follows s (goes_on s) (Arrives messages) w None new

  -- the first message arrives, and then the others
  record FirstOf (m : Message) (messages : List Message) (w new : World V) : Type 0 where
    mid : World V
    to : Outcome
    freed : List Sent
    on : OnWithin s w (arrival m) to freed mid
    rest : Arriving messages mid new

  first_arrives : (q : Phase) (w new : World V) (end : Option Limit) (m : Message) (messages : List Message)
      → Follows s (goes_on s) q w end new → end ≡ None → q ≡ Arrives (m ∷ messages) → FirstOf m messages w new
  first_arrives q w new end m messages (NoneIs p same none) is at =
      let j : goes_on s q w ≡ first_of (m ∷ messages) = ap (λ (x : Phase). goes_on s x w) at in absurd (cc)
  first_arrives q w new end m messages (Halts p same c limit some passes) is at = absurd (cc)
  first_arrives q w new end m messages (Goes {mid = mid} p same c to freed some on rest) is at =
      let j : goes_on s q w ≡ first_of (m ∷ messages) = ap (λ (x : Phase). goes_on s x w) at in
      let k : c ≡ record { event = arrival m; leads_to = λ to. Arrives messages } = let i = sym some ∙ j in cc in
      record {
        mid = mid;
        to = to;
        freed = freed;
        on = subst (λ (x : Choice Phase). OnWithin s w x.event to freed mid) k on;
        rest = subst (λ (e : Option Limit). Follows s (goes_on s) (Arrives messages) mid e new) is
            (subst (λ (x : Choice Phase). Follows s (goes_on s) (x.leads_to to) mid end new) k rest);
      }

  none_arrives : (q : Phase) (w new : World V) (end : Option Limit) → Follows s (goes_on s) q w end new → end ≡ None
      → q ≡ Arrives [] → new ≡ w
  none_arrives q w new end (NoneIs p same none) is at = refl
  none_arrives q w new end (Halts p same c limit some passes) is at = absurd (cc)
  none_arrives q w new end (Goes {mid = mid} p same c to freed some on rest) is at =
      let j : goes_on s q w ≡ None = ap (λ (x : Phase). goes_on s x w) at in absurd (cc)

  -- the first messages arrive, and then the others
  arrivals_part : (xs ys : List Message) (w new : World V) → Arriving (xs ++ ys) w new
      → (mid : World V) × Arriving xs w mid × Arriving ys mid new
  arrivals_part [] ys w new f = (w, NoneIs (Arrives []) w refl, f)
  arrivals_part (x ∷ xs) ys w new f =
      let one = first_arrives (Arrives (x ∷ (xs ++ ys))) w new None x (xs ++ ys) f refl refl in
      let more = arrivals_part xs ys one.mid new one.rest in (
        more.0,
        Goes (Arrives (x ∷ xs)) w (record { event = arrival x; leads_to = λ to. Arrives xs }) one.to one.freed refl
            one.on more.1,
        more.2,
      )

  -- all these entries arrive
  logs_do : (xs : List Message) (w new : World V) → Sound s w → Each kind.Log xs → Arriving xs w new
      → Kept w new
      × ((t n : ℕ) → Has (message kind.Log t n) xs → t < s.threads → (e : Entry) → IsEntryOf w t n e → IsKnown new e)
  logs_do [] w new h each f = (kept_same w new (none_arrives (Arrives []) w new None f refl refl), λ t n i. absurd i)
  logs_do (x ∷ xs) w new h each f =
      go (logs_do xs one.mid new (within_sound s w (arrival x) one.to one.freed one.mid h one.on) each.1 one.rest)
    where
      one : FirstOf x xs w new
      one = first_arrives (Arrives (x ∷ xs)) w new None x xs f refl refl

      on_log : On s w (event.Log x.thread x.number) one.to one.freed one.mid
      on_log =
          subst (λ (k : Kind). On s w (arrival (message k x.thread x.number)) one.to one.freed one.mid) each.0 one.on.0

      now : Kept w one.mid
      now = log_keeps s w one.mid x.thread x.number one.to one.freed on_log

      go : Kept one.mid new
          × ((t n : ℕ) → Has (message kind.Log t n) xs → t < s.threads → (e : Entry) → IsEntryOf one.mid t n e
          → IsKnown new e)
          → Kept w new
          × ((t n : ℕ) → (x ≡ message kind.Log t n) ⊎ Has (message kind.Log t n) xs → t < s.threads → (e : Entry)
          → IsEntryOf w t n e → IsKnown new e)
      go r = (kept_on w one.mid new now r.0, known)
        where
          known : (t n : ℕ) → (x ≡ message kind.Log t n) ⊎ Has (message kind.Log t n) xs → t < s.threads → (e : Entry)
              → IsEntryOf w t n e → IsKnown new e
          known t n (inr i) low e of =
              r.1 t n i low e (subst (λ (p : List (Step V)). IsIn e (log_of p)) (sym now.past) of.0, of.1, of.2)
          known t n (inl same) low e of = r.0.known e (log_known s w one.mid t n one.to one.freed h
              (subst (λ (m : Message). On s w (arrival m) one.to one.freed one.mid) same one.on.0) low e of)

  outs_do : (xs : List Message) (w new : World V) → Sound s w → ((e : Entry) → IsIn e (log_of w.past) → IsKnown w e)
      → ((f : Entry) → IsToCome w f → ⊥) → Each kind.Out xs → Arriving xs w new
      → Kept w new
      × ((t j : ℕ) → Has (message kind.Out t j) xs → t < s.threads → (o : Sent) → IsOutputOf w t j o
      → IsAmong o new.released)
  outs_do [] w new h all none each f =
      (kept_same w new (none_arrives (Arrives []) w new None f refl refl), λ t j i. absurd i)
  outs_do (x ∷ xs) w new h all none each f = go (outs_do xs one.mid new
      (within_sound s w (arrival x) one.to one.freed one.mid h one.on) all_mid none_mid each.1 one.rest)
    where
      one : FirstOf x xs w new
      one = first_arrives (Arrives (x ∷ xs)) w new None x xs f refl refl

      on_out : On s w (event.Out x.thread x.number) one.to one.freed one.mid
      on_out =
          subst (λ (k : Kind). On s w (arrival (message k x.thread x.number)) one.to one.freed one.mid) each.0 one.on.0

      now : Kept w one.mid
      now = out_keeps s w one.mid x.thread x.number one.to one.freed on_out

      all_mid : (e : Entry) → IsIn e (log_of one.mid.past) → IsKnown one.mid e
      all_mid e i = now.known e (all e (subst (λ (p : List (Step V)). IsIn e (log_of p)) now.past i))

      none_mid : (f : Entry) → IsToCome one.mid f → ⊥
      none_mid g come = none g (
        subst (λ (l : List Entry). IsIn g l) now.followed come.0,
        λ i. come.1 (subst (λ (p : List (Step V)). IsIn g (log_of p)) (sym now.past) i),
      )

      go : Kept one.mid new
          × ((t j : ℕ) → Has (message kind.Out t j) xs → t < s.threads → (o : Sent) → IsOutputOf one.mid t j o
          → IsAmong o new.released)
          → Kept w new
          × ((t j : ℕ) → (x ≡ message kind.Out t j) ⊎ Has (message kind.Out t j) xs → t < s.threads → (o : Sent)
          → IsOutputOf w t j o → IsAmong o new.released)
      go r = (kept_on w one.mid new now r.0, released)
        where
          released : (t j : ℕ) → (x ≡ message kind.Out t j) ⊎ Has (message kind.Out t j) xs → t < s.threads → (o : Sent)
              → IsOutputOf w t j o → IsAmong o new.released
          released t j (inr i) low o of =
              r.1 t j i low o (subst (λ (p : List (Step V)). SendsAfter p o.emission o.after) (sym now.past) of.0, of.1)
          released t j (inl same) low o of = r.0.released o (out_released s w one.mid t j one.to one.freed h all none
              (subst (λ (m : Message). On s w (arrival m) one.to one.freed one.mid) same one.on.0) low o of)

-- The end

-- the number of an output is at most the count of its thread
pub number_high : {V : Type 0} (m : Meaning V) (inputs : ℕ → List Packet) (threads : ℕ) (steps : List (Step V))
    (o : Emission) (n : ℕ) → IsHistory m inputs threads steps → SendsAfter steps o n
    → o.number ≤ outputs o.thread (sent_of steps)
number_high {V} m inputs threads steps o n h sends = go (sends_at steps o n sends)
  where
    go : (y : Step V) × (earlier : List (Step V)) × IsEarlier (y ∷ earlier) steps × (y.act ≡ Emitted o)
        × (entries o.thread (log_of earlier) ≡ n) → o.number ≤ outputs o.thread (sent_of steps)
    go (y, earlier, early, act, after) =
        let made = (earlier_history m inputs threads (y ∷ earlier) steps early h).0 in
        let d = did_emission y.thread y.after.taken earlier made.2 o (sym made.4 ∙ act) in
        let count : outputs o.thread (sent_of (y ∷ earlier)) ≡ outputs o.thread (sent_of earlier) + 1 =
        let q : nat_eq o.thread o.thread ≡ true = grind (arith, nat_tests) in rw act (rw q refl) in
        let u : outputs y.thread (sent_of earlier) ≡ outputs o.thread (sent_of earlier) =
        ap (λ (z : ℕ). outputs z (sent_of earlier)) (sym d.0) in
        let g = earlier_outputs o.thread (y ∷ earlier) steps early in
        omega (arith, count, u, d.1, g)

-- the first packets are all, where so many are fed
take_all : (n : ℕ) (xs : List Packet) → length xs ≤ n → take n xs ≡ xs
take_all zero [] low = refl
take_all zero (x ∷ xs) low = absurd (omega (arith, low))
take_all (suc n) [] low = refl
take_all (suc n) (x ∷ xs) low = ap (λ (l : List Packet). x ∷ l) (take_all n xs (omega (arith, low)))

-- a thread that has ended its packets and has no input does not go on
stands_still : {V : Type 0} (m : Meaning V) (inputs : ℕ → List Packet) (threads : ℕ) (from : List (Step V)) (t : ℕ)
    (to : List (Step V)) → IsHistory m inputs threads to → (thread_after from t).hand ≡ None
    → slice_get (inputs t) (thread_after from t).taken ≡ None → GoesQuietly from t to → to ≡ from
stands_still m inputs threads from t [] h hand input q = sym q
stands_still m inputs threads from t (x ∷ steps) h hand input (inl same) = sym same
stands_still {V} m inputs threads from t (x ∷ steps) h hand input (inr q) =
    let same : steps ≡ from = stands_still m inputs threads from t steps h.1 hand input q.2 in
    absurd (no_step m inputs threads from t x (subst (λ (l : List (Step V)). IsStep m inputs threads l x) same h.0) q.0
    hand input)

all_still : {V : Type 0} (m : Meaning V) (inputs : ℕ → List Packet) (threads : ℕ) (released : List Sent) (n : ℕ)
    (line steps : List (Step V)) → n ≤ threads → IsHistory m inputs threads steps
    → ((t : ℕ) → t < threads → (thread_after line t).hand ≡ None)
    → ((t : ℕ) → t < threads → slice_get (inputs t) (thread_after line t).taken ≡ None) → AllGoOn released n line steps
    → steps ≡ line
all_still m inputs threads released zero line steps low h hand input q = q
all_still {V} m inputs threads released (suc n) line steps low h hand input (mid, before, goes) =
    go (all_still m inputs threads released n line mid (omega (arith, low)) hm hand input before)
  where
    hm : IsHistory m inputs threads mid
    hm = earlier_history m inputs threads mid steps (quiet_later mid n steps goes.quiet) h

    go : mid ≡ line → steps ≡ line
    go same = stands_still m inputs threads line n steps h (hand n (omega (arith, low))) (input n (omega (arith, low)))
        (subst (λ (l : List (Step V)). GoesQuietly l n steps) same goes.quiet)

no_more : {V : Type 0} (past : List (Step V)) (more : List Entry) (line : List (Step V))
    → ((e : Entry) → IsIn e more → ⊥) → IsLed past more line → line ≡ past
no_more past [] line none led = led
no_more past (e ∷ more) line none led = absurd (none e (inl refl))

-- What a flow and a settling leave, where so many packets have come in.
module _ {V : Type 0} (s : Setting V) (total : ℕ) (new : World V) (r : Rested s total new) where
  ran_none : (f : Entry) → IsToCome r.ran f → ⊥
  ran_none f come = none_to_come s r.ran r.sound r.up r.stay f come

  parts : (mid : World V) × Arriving s (of_threads kind.Log (λ t. entries t (log_of r.ran.past)) 0 s.threads) r.ran mid
      × Arriving s (of_threads kind.Out (λ t. outputs t (sent_of r.ran.past)) 0 s.threads) mid new
  parts = arrivals_part s (of_threads kind.Log (λ t. entries t (log_of r.ran.past)) 0 s.threads)
      (of_threads kind.Out (λ t. outputs t (sent_of r.ran.past)) 0 s.threads) r.ran new r.arrive

  mid : World V
  mid = parts.0

  logged : Kept r.ran mid
      × ((t n : ℕ) → Has (message kind.Log t n) (of_threads kind.Log (λ t. entries t (log_of r.ran.past)) 0 s.threads)
      → t < s.threads → (e : Entry) → IsEntryOf r.ran t n e → IsKnown mid e)
  unfolding mid
  logged = logs_do s (of_threads kind.Log (λ t. entries t (log_of r.ran.past)) 0 s.threads) r.ran mid r.sound
      (each_thread kind.Log (λ t. entries t (log_of r.ran.past)) 0 s.threads) parts.1

  mid_sound : Sound s mid
  unfolding mid
  mid_sound = follows_sound s (goes_on s)
      (Arrives (of_threads kind.Log (λ t. entries t (log_of r.ran.past)) 0 s.threads)) r.ran mid None r.sound parts.1

  logged_all : (e : Entry) → IsIn e (log_of mid.past) → IsKnown mid e
  logged_all e i = logged.1 e.thread e.number
      (has_thread kind.Log (λ t. entries t (log_of r.ran.past)) e.thread e.number 0 s.threads (omega arith)
      (omega (arith, low)) n.0 n.1) low e (there, refl, refl)
    where
      there : IsIn e (log_of r.ran.past)
      there = subst (λ (p : List (Step V)). IsIn e (log_of p)) logged.0.past i

      low : e.thread < s.threads
      low = entry_thread s.meaning (inputs_fed s r.ran.fed) s.threads r.ran.past e r.sound.firm.legal there

      n : (1 ≤ e.number) × (e.number ≤ entries e.thread (log_of r.ran.past))
      n = number_within (log_of r.ran.past) e
          (history_log s.meaning (inputs_fed s r.ran.fed) s.threads r.ran.past r.sound.firm.legal) there

  mid_none : (f : Entry) → IsToCome mid f → ⊥
  mid_none f come = ran_none f (
    subst (λ (l : List Entry). IsIn f l) logged.0.followed come.0,
    λ i. come.1 (subst (λ (p : List (Step V)). IsIn f (log_of p)) (sym logged.0.past) i),
  )

  sent : Kept mid new
      × ((t j : ℕ) → Has (message kind.Out t j) (of_threads kind.Out (λ t. outputs t (sent_of r.ran.past)) 0 s.threads)
      → t < s.threads → (o : Sent) → IsOutputOf mid t j o → IsAmong o new.released)
  unfolding mid
  sent = outs_do s (of_threads kind.Out (λ t. outputs t (sent_of r.ran.past)) 0 s.threads) mid new mid_sound logged_all
      mid_none (each_thread kind.Out (λ t. outputs t (sent_of r.ran.past)) 0 s.threads) parts.2

  both : Kept r.ran new
  both = kept_on r.ran mid new logged.0 sent.0

  pub new_sound : Sound s new
  unfolding mid
  new_sound = follows_sound s (goes_on s)
      (Arrives (of_threads kind.Out (λ t. outputs t (sent_of r.ran.past)) 0 s.threads)) mid new None mid_sound parts.2

  -- each output of the past is released
  pub all_released : (o : Sent) → SendsAfter new.past o.emission o.after → IsAmong o new.released
  all_released o sends = sent.1 o.emission.thread o.emission.number
      (has_thread kind.Out (λ t. outputs t (sent_of r.ran.past)) o.emission.thread o.emission.number 0 s.threads
      (omega arith) (omega (arith, k.0)) k.1 high) k.0 o (at_mid, (refl, refl))
    where
      at_mid : SendsAfter mid.past o.emission o.after
      at_mid = subst (λ (p : List (Step V)). SendsAfter p o.emission o.after) sent.0.past sends

      at_ran : SendsAfter r.ran.past o.emission o.after
      at_ran = subst (λ (p : List (Step V)). SendsAfter p o.emission o.after) logged.0.past at_mid

      k : (o.emission.thread < s.threads) × (1 ≤ o.emission.number)
      k = sends_thread s.meaning (inputs_fed s r.ran.fed) s.threads r.ran.past o.emission o.after
          r.sound.firm.legal at_ran

      high : o.emission.number ≤ outputs o.emission.thread (sent_of r.ran.past)
      high = number_high s.meaning (inputs_fed s r.ran.fed) s.threads r.ran.past o.emission o.after
          r.sound.firm.legal at_ran

  pub none_waits : (o : Sent) → IsAmong o new.waiting → ⊥
  none_waits o i =
      let a = among_times o new.released (all_released o (new_sound.firm.sent o i)) in
      let b = among_times o new.waiting i in
      let c = new_sound.firm.once o.emission.thread o.emission.number in
      omega (arith, a, b, c)

  pub past_hand : (t : ℕ) → t < s.threads → (thread_after new.past t).hand ≡ None
  past_hand t low =
      ap (λ (p : List (Step V)). (thread_after p t).hand) both.past ∙ (idle s r.ran r.sound r.up r.stay t low).0

  pub past_input : (t : ℕ) → t < s.threads → slice_get (inputs_fed s new.fed t) (thread_after new.past t).taken ≡ None
  past_input t low =
      subst (λ (n : ℕ). slice_get (inputs_fed s n t) (thread_after new.past t).taken ≡ None) (sym both.fed)
      (subst (λ (p : List (Step V)). slice_get (inputs_fed s r.ran.fed t) (thread_after p t).taken ≡ None)
      (sym both.past) (idle s r.ran r.sound r.up r.stay t low).1)

  pub new_none : (f : Entry) → IsToCome new f → ⊥
  new_none f come = ran_none f (
    subst (λ (l : List Entry). IsIn f l) both.followed come.0,
    λ i. come.1 (subst (λ (p : List (Step V)). IsIn f (log_of p)) (sym both.past) i),
  )

  pub has_flowed : (w : World V) (n : ℕ) → total ≡ min (w.fed + n) (length s.packets) → HasFlowed s w n new
  has_flowed w n is = record {
    fed = both.fed ∙ (r.fed ∙ is);
    taken = λ t low.
        let a = all_taken (inputs_fed s new.fed t) (thread_after new.past t).taken (past_input t low) in
        let b = taken_within s.meaning (inputs_fed s new.fed) s.threads new.past new_sound.firm.legal t in
        omega (arith, a, b);
    ended = past_hand;
    released = all_released;
    none_waits = none_waits;
  }

-- A settling, where all have come in.
module _ {V : Type 0} (s : Setting V) (new : World V) (r : Rested s (length s.packets) new) where
  all_fed : length s.packets ≤ new.fed
  all_fed = let f : new.fed ≡ r.ran.fed = (both s (length s.packets) new r).fed in let e = r.fed in omega (arith, f, e)

  inputs_all : (t : ℕ) → inputs_fed s new.fed t ≡ all_inputs s t
  inputs_all t = ap (λ (l : List Packet). inputs_of (record { threads = s.threads; tags = s.tags; packets = l }) t)
      (take_all new.fed s.packets all_fed)

  all_input : (t : ℕ) → t < s.threads → slice_get (all_inputs s t) (thread_after new.past t).taken ≡ None
  all_input t low = subst (λ (l : List Packet). slice_get l (thread_after new.past t).taken ≡ None) (inputs_all t)
      (past_input s (length s.packets) new r t low)

  pub settled : (steps : List (Step V)) → IsFinish s new steps → IsSettled s new steps
  settled steps f = record {
    ended = λ t low. subst (λ (p : List (Step V)). (thread_after p t).hand ≡ None) (sym same)
        (past_hand s (length s.packets) new r t low);
    taken = λ t low.
        let none : slice_get (all_inputs s t) (thread_after steps t).taken ≡ None =
        subst (λ (p : List (Step V)). slice_get (all_inputs s t) (thread_after p t).taken ≡ None) (sym same)
        (all_input t low) in
        let a = all_taken (all_inputs s t) (thread_after steps t).taken none in
        let b = taken_within s.meaning (all_inputs s) s.threads steps f.history t in
        omega (arith, a, b);
    released = λ o sends. all_released s (length s.packets) new r o
        (subst (λ (p : List (Step V)). SendsAfter p o.emission o.after) same sends);
    only = ends.emits;
    once = ends.once;
    none_waits = none_waits s (length s.packets) new r;
  }
    where
      ends : Ends s new steps
      ends = finish_ends s new steps (new_sound s (length s.packets) new r) f

      up : f.up ≡ new
      up = go f.up_is
        where
          go : Wakes new f.up → f.up ≡ new
          go (inl a) = a.1
          go (inr a) =
              let p : new.up ≡ false = a.0 in
              let q : new.up ≡ true = (both s (length s.packets) new r).up ∙ r.up in absurd (cc)

      none : (e : Entry) → IsIn e f.line_is.more → ⊥
      none e i =
          new_none s (length s.packets) new r e (subst (λ (z : World V). IsToCome z e) up ((f.line_is.to_come e).0 i))

      line : f.line ≡ new.past
      line = no_more f.up.past f.line_is.more f.line none f.line_is.led ∙ ap (λ (z : World V). z.past) up

      same : steps ≡ new.past
      same = all_still s.meaning (all_inputs s) s.threads f.up.released s.threads new.past steps (omega arith) f.history
          (past_hand s (length s.packets) new r) all_input
          (subst (λ (l : List (Step V)). AllGoOn f.up.released s.threads l steps) line f.goes_on)

-- The last event of a script.
performs_last : {V : Type 0} (s : Setting V) (w new : World V) (events : List Event) (ev : Event) (lines : List ℕ)
    → Performs s w (events ++ ev ∷ []) lines new
    → (mid : World V) × (to : Outcome) × (freed : List Sent) × (before : List ℕ) × Performs s w events before mid
    × OnAny s mid ev to freed new
performs_last s w new [] ev lines (Writes {mid = mid} one to freed on (NoMore same)) = (w, to, freed, [], NoMore w, on)
performs_last s w new (x ∷ events) ev lines (Writes {mid = mid} one to freed on rest) =
    let r = performs_last s mid new events ev _ rest in
    (r.0, r.1, r.2, reply_line one to freed ++ r.3, Writes one to freed on r.4, r.5)

-- The first events of a settling: a master that was down recovers.
wakes_up : {X : Type 0} (s : Setting X) (w up : World X) (to : Outcome) (freed : List Sent)
    → On s w event.Recover to freed up → (up.up ≡ true) × (up.fed ≡ w.fed)
wakes_up {X} s w up to freed (inl a, f) = (ap (λ (z : World X). z.up) a.2 ∙ a.0, ap (λ (z : World X). z.fed) a.2)
wakes_up {X} s w up to freed (inr a, f) =
    (ap (λ (z : World X). z.up) a.1.new_is, ap (λ (z : World X). z.fed) a.1.new_is)

settling_rests : {V : Type 0} (s : Setting V) (q : Phase) (w new : World V) (end : Option Limit) → Sound s w
    → Follows s (goes_on s) q w end new → end ≡ None → q ≡ WakesFirst → Rested s (length s.packets) new
settling_rests s q w new end h (NoneIs p same none) is at =
    let j : goes_on s q w ≡ goes_on s WakesFirst w = ap (λ (x : Phase). goes_on s x w) at in absurd (cc)
settling_rests s q w new end h (Halts p same c limit some passes) is at = absurd (cc)
settling_rests {V} s q w new end h (Goes {mid = up} p same c to freed some on rest) is at =
    comes_to_rest s (length s.packets) up new (length s.packets - w.fed) (omega arith)
    (within_sound s w event.Recover to freed up h on_recover) woken.0
    (let f = woken.1 in let k = h.firm.fed in omega (arith, f, k))
    (subst (λ (e : Option Limit). Follows s (goes_on s) (Steps (length s.packets - w.fed) 0 false) up e new) is
    (subst (λ (x : Choice Phase). Follows s (goes_on s) (x.leads_to to) up end new) k rest))
  where
    k : c ≡ record { event = event.Recover; leads_to = λ to. Steps (length s.packets - w.fed) 0 false }
    k =
        let j : goes_on s q w ≡ goes_on s WakesFirst w = ap (λ (x : Phase). goes_on s x w) at in
        let i = sym some ∙ j in cc

    on_recover : OnWithin s w event.Recover to freed up
    on_recover = subst (λ (x : Choice Phase). OnWithin s w x.event to freed up) k on

    woken : (up.up ≡ true) × (up.fed ≡ w.fed)
    woken = wakes_up s w up to freed on_recover.0

any_settled : {V : Type 0} (s : Setting V) (w new : World V) (ev : Event) (to : Outcome) (freed : List Sent) → Sound s w
    → ev ≡ event.Settle → OnAny s w ev to freed new → Rested s (length s.packets) new
any_settled {V} s w new ev to freed h is (Single e o f n on) =
    absurd (subst (λ (x : Event). On s w x to freed new) is on.0)
any_settled s w new ev to freed h is (Several e q o n at f same) =
    let j : begins s w ev ≡ Some WakesFirst = ap (λ (x : Event). begins s w x) is in
    let k : q ≡ WakesFirst = cc in
    settling_rests s q w new None h f refl k

pub settling_settles : {V : Type 0} (s : Setting V) (w new : World V) (to : Outcome) (freed : List Sent)
    (steps : List (Step V)) → Sound s w → OnAny s w event.Settle to freed new → IsFinish s new steps
    → IsSettled s new steps
settling_settles s w new to freed steps h on f =
    settled s new (any_settled s w new event.Settle to freed h refl on) steps f

-- A flow while the master is up.
pub flow_flows : {V : Type 0} (s : Setting V) (w new : World V) (n : ℕ) (ev : Event) (to : Outcome) (freed : List Sent)
    → Sound s w → w.up ≡ true → ev ≡ event.Flow n → OnAny s w ev to freed new → HasFlowed s w n new
flow_flows {V} s w new n ev to freed h up is (Single e o f z on) =
    let a = (subst (λ (x : Event). On s w x to freed new) is on.0).0 in absurd (cc)
flow_flows {V} s w new n ev to freed h up is (Several e q o z at f same) =
    has_flowed s total new
    (comes_to_rest s total w new left most h up fed (subst (λ (x : Phase). Follows s (goes_on s) x w None new) k f)) w
    n total_is
  where
    left : ℕ
    left = min n (length s.packets - w.fed)

    total : ℕ
    total = min n (length s.packets - w.fed) + w.fed

    fed : min n (length s.packets - w.fed) + w.fed ≡ min n (length s.packets - w.fed) + w.fed
    fed = refl

    most : min n (length s.packets - w.fed) + w.fed ≤ length s.packets
    most = let k = h.firm.fed in omega (arith, k)

    total_is : min n (length s.packets - w.fed) + w.fed ≡ min (w.fed + n) (length s.packets)
    total_is = let k = h.firm.fed in omega (arith, k)

    k : q ≡ Steps (min n (length s.packets - w.fed)) 0 false
    k = let j : begins s w (event.Flow n) ≡ Some (Steps (min n (length s.packets - w.fed)) 0 false) = rw up refl in
        let i : begins s w ev ≡ begins s w (event.Flow n) = ap (λ (x : Event). begins s w x) is in cc

pub script_settled : {V : Type 0} (s : Setting V) (events : List Event) (report : List ℕ) (released : List Packet)
    (schedule : List PlainMove) → (l : Leaves s (events ++ event.Settle ∷ []) report released schedule)
    → IsSettled s l.world l.steps
script_settled {V} s events report released schedule l =
    let r = performs_last s (opening V) l.world events event.Settle l.lines l.performs in
    settling_settles s r.0 l.world r.1 r.2 l.steps (performs_sound s (opening V) r.0 events r.3 (opening_sound s) r.4)
    r.5 l.finish
