-- What is counted in each world that events lead to.
use Rattle.std.proofs.Common.{◌≡◌, ℕ, zero, suc, ◌+◌, ◌≤◌, ◌<◌, ◌≢◌, false, List, [], ◌∷◌, length, refl}
use Rattle.std.proofs.Common.{sym, ◌∙◌, subst, inl, inr, arith, Option, Some, None}
use Rattle.std.specs.Prelude.{nat_eq, slice_get}
use Rattle.std.proofs.lemmas.Bool.Decides.{nat_tests}
use Rattle.plain_text.specs.declared.limit.Limit.{Limit}
use Rattle.plain_text.specs.declared.kind.Kind.{Kind}
use Rattle.plain_text.specs.declared.kind.Kind.TheVariants as kind
use Rattle.plain_text.specs.declared.packet.Packet.{Packet}
use Rattle.entry_order.specs.Log.{entries}
use Rattle.plain_machine.specs.declared.local.Move.{Move}
use Rattle.plain_machine.specs.declared.local.Move.TheVariants.{Access, Read, Clock, Draw, Emit, End}
use Rattle.plain_machine.specs.Program.{Meaning}
use Rattle.plain_machine.specs.Machine.{Hand}
use Rattle.plain_machine.specs.History.{Act, Took, Did, Emitted, Ended, Step, log_more, log_of, sent_more, sent_of}
use Rattle.plain_machine.specs.History.{outputs, thread_after, IsHistory}
use Rattle.plain_machine.specs.Agree.{IsEarlier}
use Rattle.plain_machine.proofs.Histories.{did_entry, did_emission}
use Rattle.recovery_world.specs.declared.event.Event.{Event}
use Rattle.recovery_world.specs.declared.event.Event.TheVariants as event
use Rattle.recovery_world.specs.declared.event.Outcome.{Outcome}
use Rattle.recovery_world.specs.World.{Setting, Sent, Ended as EndedEpoch, World, opening, inputs_fed}
use Rattle.recovery_world.specs.Events.{bytes_sent, Tells, TellsHand, OnStep, OnLog, OnOut, OnLate, OnCut}
use Rattle.recovery_world.specs.Events.{ended_now, On}
use Rattle.recovery_world.specs.Strategies.{Strategy, Follows, Ends, Halts, Goes as GoesOn}
use Rattle.recovery_world.specs.Many.{goes_on, OnAny, Single, Several, Stops, SingleStops, SeveralStops}
use Rattle.recovery_world.specs.Files.{Performs, Rests as NoMore, Goes as Writes}
use Rattle.recovery_world.specs.Finish.{Reached, Opens, Goes}
use Rattle.recovery_laws.specs.Sound.{Sound}
use Rattle.recovery_laws.proofs.KeptWorlds.{opening_sound, within_sound, any_sound, reached_sound}
use Rattle.handover_world.specs.Faults.{bytes_of}
use Rattle.handover_world.specs.Counted.{IsCounted, HasNoOthers}

-- Histories

-- an earlier moment had sent out no more bytes, and made no more moves
pub earlier_bytes : {V : Type 0} (xs ys : List (Step V)) → IsEarlier xs ys → bytes_of xs ≤ bytes_of ys
earlier_bytes xs [] e = rw e (omega arith)
earlier_bytes xs (y ∷ ys) (inl e) = rw e (omega arith)
earlier_bytes xs (y ∷ ys) (inr e) = let k = earlier_bytes xs ys e in omega (arith, k)

earlier_length : {V : Type 0} (xs ys : List (Step V)) → IsEarlier xs ys → length xs ≤ length ys
earlier_length xs [] e = rw e (omega arith)
earlier_length xs (y ∷ ys) (inl e) = rw e (omega arith)
earlier_length xs (y ∷ ys) (inr e) = let k = earlier_length xs ys e in omega (arith, k)

-- a thread that there is none of has made and sent out nothing
none_made : {V : Type 0} (m : Meaning V) (inputs : ℕ → List Packet) (threads t : ℕ) (steps : List (Step V))
    → threads ≤ t → IsHistory m inputs threads steps
    → (entries t (log_of steps) ≡ 0) × (outputs t (sent_of steps) ≡ 0)
none_made m inputs threads t [] high h = (refl, refl)
none_made {V} m inputs threads t (x ∷ earlier) high h =
    go x.act refl (none_made m inputs threads t earlier high h.1)
  where
    go : (a : Act V) → x.act ≡ a → (entries t (log_of earlier) ≡ 0) × (outputs t (sent_of earlier) ≡ 0)
        → (entries t (log_more a (log_of earlier)) ≡ 0) × (outputs t (sent_more a (sent_of earlier)) ≡ 0)
    go (Took k) is before = before
    go (Did e left) is before =
        let low : x.thread < threads = h.0.0 in
        let d = did_entry x.thread x.after.taken earlier h.0.2 e left (sym h.0.4 ∙ is) in
        let other : e.thread ≢ t = omega (arith, low, d.0, high) in
        let no : nat_eq e.thread t ≡ false = grind (arith, nat_tests) in
        (rw no before.0, before.1)
    go (Emitted o) is before =
        let low : x.thread < threads = h.0.0 in
        let d = did_emission x.thread x.after.taken earlier h.0.2 o (sym h.0.4 ∙ is) in
        let other : o.thread ≢ t = omega (arith, low, d.0, high) in
        let no : nat_eq o.thread t ≡ false = grind (arith, nat_tests) in
        (before.0, rw no before.1)
    go (Ended k) is before = before

-- Each event

-- a fact of the words drawn, the moves, the past, the bytes, the ended epochs and the epoch
abbrev pub Tally : Type 0 → Type 1
Tally V = ℕ → ℕ → List (Step V) → ℕ → List EndedEpoch → ℕ → Type 0

abbrev pub Of : {V : Type 0} → Tally V → World V → Type 0
Of P w = P w.drawn w.moves w.past w.bytes w.ended w.epoch

-- a move of a thread keeps it, and a recovery does
pub record IsKept {V : Type 0} (s : Setting V) (P : Tally V) : Type 0 where
  pub move : (d c m b n : ℕ) (past : List (Step V)) (ended : List EndedEpoch) (x : Step V) → P d m past b ended n
      → c ≤ d + 1 → P c (m + 1) (x ∷ past) (b + bytes_sent x.act) ended n
  pub recover : (w : World V) → Sound s w → Of P w
      → P w.drawn w.moves w.stored w.bytes (ended_now w ∷ w.ended) (w.epoch + 1)

module _ {V : Type 0} (s : Setting V) (P : Tally V) (kept : IsKept s P) where
  by_new : (new made : World V) → new ≡ made → Of P made → Of P new
  by_new new made same k = subst (λ (z : World V). Of P z) (sym same) k

  module _ (w : World V) where
    -- a move is told at most one new word
    draws_one : (t : ℕ) (given answer : Option ℕ) (drawn : ℕ) (next : Move) → Tells s w t given answer drawn next
        → drawn ≤ w.drawn + 1
    draws_one t given answer drawn (Access v) (a, d) = omega (arith, d)
    draws_one t given answer drawn (Read v) (a, d) = omega (arith, d)
    draws_one t given answer drawn Clock (a, is, d, tells) = omega (arith, d)
    draws_one t given answer drawn Draw (a, is, inl (f, d)) = omega (arith, d)
    draws_one t given answer drawn Draw (a, is, inr (f, inl (g, d))) = omega (arith, d)
    draws_one t given answer drawn Draw (a, is, inr (f, inr (g, b, d))) = omega (arith, d)
    draws_one t given answer drawn Emit (a, d) = omega (arith, d)
    draws_one t given answer drawn End (a, d) = omega (arith, d)

    hand_draws : (t : ℕ) (given answer : Option ℕ) (drawn : ℕ) (hand : Option Hand)
        → TellsHand s w t given answer drawn hand → drawn ≤ w.drawn + 1
    hand_draws t given answer drawn None (a, d) = omega (arith, d)
    hand_draws t given answer drawn (Some h) k = draws_one t given answer drawn (s.meaning.next h.place) k

    module _ (sound : Sound s w) (k : Of P w) where
      step_kept : (t : ℕ) (given : Option ℕ) (to : Outcome) (new : World V) → OnStep s w t given to new → Of P new
      step_kept t given to new (inl a) = by_new new w a.2 k
      step_kept t given to new (inr (inl a)) = by_new new w a.3 k
      step_kept t given to new (inr (inr (inl a))) = by_new new w a.4 k
      step_kept t given to new (inr (inr (inr (inl a)))) = by_new new w a.3 k
      step_kept t given to new (inr (inr (inr (inr (few, up, made))))) =
          by_new new _ made.new_is (kept.move w.drawn made.drawn w.moves w.bytes w.epoch w.past w.ended made.step k
          (hand_draws t given made.answer made.drawn (thread_after w.past t).hand made.tells))

      log_kept : (t n : ℕ) (to : Outcome) (freed : List Sent) (new : World V) → OnLog w t n to freed new → Of P new
      log_kept t n to freed new (inl a) = by_new new w a.3 k
      log_kept t n to freed new (inr (inl a)) = by_new new w a.5 k
      log_kept t n to freed new (inr (inr a)) = by_new new _ a.4.new_is k

      out_kept : (t j : ℕ) (to : Outcome) (new : World V) → OnOut w t j to new → Of P new
      out_kept t j to new (inl a) = by_new new w a.2 k
      out_kept t j to new (inr (inl a)) = by_new new w a.4 k
      out_kept t j to new (inr (inr (inl a))) = by_new new _ a.5 k
      out_kept t j to new (inr (inr (inr a))) = by_new new _ a.6 k

      late_kept : (epoch : ℕ) (m : Kind) (t n : ℕ) (to : Outcome) (freed : List Sent) (new : World V)
          → OnLate w epoch m t n to freed new → Of P new
      late_kept epoch kind.Log t n to freed new (inl a) = log_kept t n to freed new a.1
      late_kept epoch kind.Out t n to freed new (inl a) = out_kept t n to new a.1.0
      late_kept epoch m t n to freed new (inr (inl a)) = by_new new w a.4 k
      late_kept epoch m t n to freed new (inr (inr a)) = by_new new w a.4 k

      cut_kept : (m : Kind) (t n len : ℕ) (to : Outcome) (freed : List Sent) (new : World V)
          → OnCut s w m t n len to freed new → Of P new
      cut_kept m t n len to freed new (inl a) = by_new new w a.3 k
      cut_kept m t n len to freed new (inr (inl a)) = by_new new w a.5 k
      cut_kept kind.Log t n len to freed new (inr (inr a)) = log_kept t n to freed new a.3
      cut_kept kind.Out t n len to freed new (inr (inr a)) = out_kept t n to new a.3.0

      on_kept : (ev : Event) (to : Outcome) (freed : List Sent) (new : World V) → On s w ev to freed new → Of P new
      on_kept (event.Feed n) to freed new a = by_new new _ a.2 k
      on_kept (event.Time n) to freed new a = by_new new _ a.2 k
      on_kept (event.Step t given) to freed new a = step_kept t given to new a.0
      on_kept (event.Log t n) to freed new (inl a) = by_new new w a.3 k
      on_kept (event.Log t n) to freed new (inr a) = log_kept t n to freed new a.1
      on_kept (event.Out t j) to freed new (inl a) = by_new new w a.3 k
      on_kept (event.Out t j) to freed new (inr a) = out_kept t j to new a.1.0
      on_kept (event.Late epoch m t n) to freed new (inl a) = by_new new w a.3 k
      on_kept (event.Late epoch m t n) to freed new (inr a) = late_kept epoch m t n to freed new a.1
      on_kept (event.Cut m t n len) to freed new (inl a) = by_new new w a.3 k
      on_kept (event.Cut m t n len) to freed new (inr a) = cut_kept m t n len to freed new a.1
      on_kept event.Snap to freed new (inl a, f) = by_new new w a.2 k
      on_kept event.Snap to freed new (inr a, f) = by_new new _ a.2 k
      on_kept event.Store to freed new (inl a) = by_new new w a.3 k
      on_kept event.Store to freed new (inr a) = by_new new _ a.3.new_is k
      on_kept event.Crash to freed new (inl a, f) = by_new new w a.2 k
      on_kept event.Crash to freed new (inr a, f) = by_new new _ a.2 k
      on_kept event.Recover to freed new (inl a, f) = by_new new w a.2 k
      on_kept event.Recover to freed new (inr a, f) = by_new new _ a.1.new_is (kept.recover w sound k)
      on_kept (event.Show v) to freed new a = by_new new w a.2 k
      on_kept event.Settle to freed new a = absurd a
      on_kept (event.Flow n) to freed new a = by_new new w a.3 k
      on_kept (event.Auto seed n) to freed new a = absurd a

  -- Several events

  follows_kept : {Q : Type 0} (next : Strategy Q V) (q : Q) (w new : World V) (end : Option Limit)
      → Sound s w → Of P w → Follows s next q w end new → Of P new
  follows_kept next q w new end h k (Ends p same none) = k
  follows_kept next q w new end h k (Halts p same c limit some passes) = k
  follows_kept next q w new end h k (GoesOn {mid = mid} p same c to freed some on rest) =
      follows_kept next (c.leads_to to) mid new end (within_sound s w c.event to freed mid h on)
      (on_kept w h k c.event to freed mid on.0) rest

  pub any_kept : (w : World V) (ev : Event) (to : Outcome) (freed : List Sent) (new : World V) → Sound s w → Of P w
      → OnAny s w ev to freed new → Of P new
  any_kept w ev to freed new h k (Single e o f n on) = on_kept w h k ev to freed new on.0
  any_kept w ev to freed new h k (Several e q o n at f is) = follows_kept (goes_on s) q w new None h k f

  pub stops_kept : (w : World V) (ev : Event) (limit : Limit) (new : World V) → Sound s w → Of P w
      → Stops s w ev limit new → Of P new
  stops_kept w ev limit new h k (SingleStops e l passes) = k
  stops_kept w ev limit new h k (SeveralStops e q l n at f) = follows_kept (goes_on s) q w new (Some limit) h k f

  pub performs_kept : (w new : World V) (events : List Event) (lines : List ℕ) → Sound s w → Of P w
      → Performs s w events lines new → Of P new
  performs_kept w new events lines h k (NoMore same) = k
  performs_kept w new events lines h k (Writes {mid = mid} {events = later} {lines = said} ev to freed on rest) =
      performs_kept mid new later said (any_sound s w h ev to freed mid on) (any_kept w ev to freed mid h k on) rest

  pub reached_kept : (w : World V) → Of P (opening V) → Reached s w → Of P w
  reached_kept w k Opens = k
  reached_kept w k (Goes {w = before} ev to freed r on) =
      on_kept before (reached_sound s before r) (reached_kept before k r) ev to freed w on

-- The counts

abbrev Counts : {V : Type 0} → Tally V
Counts drawn moves past bytes ended epoch =
    (drawn ≤ moves) × (length past ≤ moves) × (bytes_of past ≤ bytes) × (length ended + 1 ≡ epoch)

counts_kept : {V : Type 0} (s : Setting V) → IsKept s Counts
counts_kept s = record {
  move = λ d c m b n past ended x k one.
      let a = k.0 in
      let e = k.1 in
      let f = k.2 in
      (omega (arith, a, one), omega (arith, e), omega (arith, f), k.3);
  recover = λ w h k.
      let fewer = earlier_length w.stored w.past h.firm.stored in
      let less = earlier_bytes w.stored w.past h.firm.stored in
      let a = k.1 in
      let b = k.2 in
      let c = k.3 in
      (k.0, omega (arith, a, fewer), omega (arith, b, less), omega (arith, c));
}

to_counts : {V : Type 0} (w : World V) → IsCounted w → Of Counts w
to_counts w k = (k.draws, k.moves, k.bytes, k.epochs)

from_counts : {V : Type 0} (w : World V) → Of Counts w → IsCounted w
from_counts w k = record { draws = k.0; moves = k.1; bytes = k.2; epochs = k.3 }

opening_counts : (V : Type 0) → Of Counts (opening V)
opening_counts V = (omega arith, omega arith, omega arith, omega arith)

module _ {V : Type 0} (s : Setting V) where
  pub any_counted : (w : World V) (ev : Event) (to : Outcome) (freed : List Sent) (new : World V) → Sound s w
      → IsCounted w → OnAny s w ev to freed new → IsCounted new
  any_counted w ev to freed new h k on =
      from_counts new (any_kept s Counts (counts_kept s) w ev to freed new h (to_counts w k) on)

  pub stops_counted : (w : World V) (ev : Event) (limit : Limit) (new : World V) → Sound s w → IsCounted w
      → Stops s w ev limit new → IsCounted new
  stops_counted w ev limit new h k stops =
      from_counts new (stops_kept s Counts (counts_kept s) w ev limit new h (to_counts w k) stops)

  pub performs_counted : (w new : World V) (events : List Event) (lines : List ℕ) → Sound s w → IsCounted w
      → Performs s w events lines new → IsCounted new
  performs_counted w new events lines h k p =
      from_counts new (performs_kept s Counts (counts_kept s) w new events lines h (to_counts w k) p)

  pub performed_counted : (w : World V) (events : List Event) (lines : List ℕ)
      → Performs s (opening V) events lines w → IsCounted w
  performed_counted w events lines p =
      performs_counted (opening V) w events lines (opening_sound s) (from_counts (opening V) (opening_counts V)) p

  pub reached_counted : (w : World V) → Reached s w → IsCounted w
  reached_counted w r = from_counts w (reached_kept s Counts (counts_kept s) w (opening_counts V) r)

  -- Other threads

  abbrev Others : Tally V
  Others drawn moves past bytes ended epoch =
      (i t : ℕ) (x : EndedEpoch) → slice_get ended i ≡ Some x → s.threads ≤ t
      → (x.entries t ≡ 0) × (x.outputs t ≡ 0)

  -- the epoch that ended is one more
  ended_others : (w : World V) → Sound s w → HasNoOthers s w → (i t : ℕ) (x : EndedEpoch)
      → slice_get (ended_now w ∷ w.ended) i ≡ Some x → s.threads ≤ t → (x.entries t ≡ 0) × (x.outputs t ≡ 0)
  ended_others w h k zero t x is high =
      let some : ◌≡◌ {A = Option EndedEpoch} (Some (ended_now w)) (Some x) = is in
      let same : ended_now w ≡ x = cc in
      subst (λ (z : EndedEpoch). (z.entries t ≡ 0) × (z.outputs t ≡ 0)) same
      (none_made s.meaning (inputs_fed s w.fed) s.threads t w.past high h.firm.legal)
  ended_others w h k (suc i) t x is high = k i t x is high

  others_kept : IsKept s Others
  others_kept = record { move = λ d c m b n past ended x k one. k; recover = ended_others }

  opening_others : HasNoOthers s (opening V)
  opening_others i t x is high = let none : ◌≡◌ {A = Option EndedEpoch} None (Some x) = is in absurd (cc)

  pub any_others : (w : World V) (ev : Event) (to : Outcome) (freed : List Sent) (new : World V) → Sound s w
      → HasNoOthers s w → OnAny s w ev to freed new → HasNoOthers s new
  any_others w ev to freed new h k on = any_kept s Others others_kept w ev to freed new h k on

  pub stops_others : (w : World V) (ev : Event) (limit : Limit) (new : World V) → Sound s w → HasNoOthers s w
      → Stops s w ev limit new → HasNoOthers s new
  stops_others w ev limit new h k stops = stops_kept s Others others_kept w ev limit new h k stops

  pub performed_others : (w : World V) (events : List Event) (lines : List ℕ)
      → Performs s (opening V) events lines w → HasNoOthers s w
  performed_others w events lines p =
      performs_kept s Others others_kept (opening V) w events lines (opening_sound s) opening_others p

  pub reached_others : (w : World V) → Reached s w → HasNoOthers s w
  reached_others w r = reached_kept s Others others_kept w opening_others r
