-- Events are performed one by one, and it is noted how the outputs left.
use Rattle.std.proofs.Common.{◌≡◌, ℕ, ◌+◌, ◌-◌, ◌<◌, ◌≤◌, List, [], ◌∷◌, ◌++◌, length, take, drop, refl, sym, ap, ◌∙◌}
use Rattle.std.proofs.Common.{subst}
use Rattle.std.proofs.Common.{add-one, append_assoc, arith, get_or, replicate, suc, zero, Result, Err}
use Rattle.std.proofs.lemmas.List.{take_all}
use Rattle.plain_text.specs.declared.limit.Limit.{Limit}
use Rattle.plain_machine.specs.Program.{Meaning}
use Rattle.recovery_world.specs.declared.event.Event.{Event}
use Rattle.recovery_world.specs.declared.event.Outcome.{Outcome}
use Rattle.recovery_world.specs.World.{Setting, Sent, World as SystemWorld, opening}
use Rattle.recovery_world.specs.Many.{OnAny}
use Rattle.recovery_world.specs.Files.{Performs, Rests, Goes as GoesOn, reply_line, sent_names}
use Rattle.event_replies.specs.declared.reply.Reply.{Reply}
use Rattle.event_replies.specs.declared.reply.Stop.{Stop}
use Rattle.recovery_core.specs.Systems.{RepliesAny, SystemMoves, SystemStands, SystemStops, Systemed}
use Rattle.system_parts.specs.Performing.{IsStopped}
use Rattle.noted_runs.specs.declared.trace.rows.Departure.{Departure}
use Rattle.noted_runs.specs.Departures.{Departs, Goes, Opens}
use Rattle.noted_runs.specs.TraceGoing.{HasGone, IsHalted, IsSomewhere}

-- one event more is performed at the end
performs_more : {V : Type 0} (s : Setting V) (w mid new : SystemWorld V) (events : List Event) (lines : List ℕ)
    (ev : Event) (to : Outcome) (freed : List Sent) → Performs s w events lines mid → OnAny s mid ev to freed new
    → (more : List ℕ) × Performs s w (events ++ ev ∷ []) more new
performs_more s w mid new events lines ev to freed (Rests v) on =
    (reply_line ev to freed ++ [], GoesOn ev to freed on (Rests new))
performs_more s w mid new events lines ev to freed (GoesOn one first out there rest) on =
    let more = performs_more s _ mid new _ _ ev to freed rest on in
    (reply_line one first out ++ more.0, GoesOn one first out there more.1)

names_long : (sent : List Sent) → length (sent_names sent) ≡ length sent
names_long [] = refl
names_long (o ∷ sent) = ap suc (names_long sent)

-- before the first event
pub none_gone : {P V : Type 0} (m : Meaning V) (s : Setting V) (y : Systemed P V) → SystemStands m s (opening V) y
    → HasGone m s [] [] y
none_gone {P} {V} m s y stands = record {
  world = opening V;
  lines = [];
  performs = Rests (opening V);
  departs = Opens;
  stands = stands;
}

pub gone_next : {P V : Type 0} (m : Meaning V) (s : Setting V) (events : List Event) (departures : List Departure)
    (ev : Event) (reply : Reply) (old on new : Systemed P V) → HasGone m s events departures old
    → SystemMoves m (RepliesAny ev reply) old on → (number : ℕ) → length events + 1 ≡ number
    → (epoch : ℕ) → ((w : SystemWorld V) → SystemStands m s w on → epoch ≡ w.epoch)
    → (total : ℕ) → ((w : SystemWorld V) → SystemStands m s w on → total ≡ length (sent_names w.released))
    → (after : List Departure)
    → after
    ≡ departures ++ replicate (total - length departures) (record { event = number; epoch = epoch })
    → ((w : SystemWorld V) → SystemStands m s w on → SystemStands m s w new)
    → HasGone m s (events ++ ev ∷ []) after new
gone_next {P} {V} m s events departures ev reply old on new h moves number numbered epoch epochs total totals after
    after_is kept =
    let went = moves.2 s h.world h.stands in
    let more = performs_more s (opening V) h.world went.0 events h.lines ev reply.outcome went.1.0 h.performs
    went.1.1 in
    record {
      world = went.0;
      lines = more.0;
      performs = more.1;
      departs = subst (λ (l : List Departure). Departs s (events ++ ev ∷ []) l went.0)
          (sym (after_is
          ∙ (ap (λ (k : ℕ).
          departures ++ replicate (k - length departures) (record { event = number; epoch = epoch }))
          (totals went.0 went.2 ∙ names_long went.0.released)
          ∙ (ap (λ (k : ℕ). departures
          ++ replicate (length went.0.released - length departures) (record { event = k; epoch = epoch }))
          (sym numbered)
          ∙ ap (λ (k : ℕ). departures
          ++ replicate (length went.0.released - length departures)
          (record { event = length events + 1; epoch = k })) (epochs went.0 went.2)))))
          (Goes ev reply.outcome went.1.0 h.departs went.1.1);
      stands = kept went.0 went.2;
    }

pub halted_next : {P V : Type 0} (m : Meaning V) (s : Setting V) (events : List Event) (departures : List Departure)
    (ev : Event) (limit : Limit) (old new : Systemed P V) → HasGone m s events departures old
    → SystemStops m (IsStopped ev limit) old new → IsHalted s (events ++ ev ∷ []) limit
halted_next m s events departures ev limit old new h stops =
    let there = stops.1 s h.world h.stands in
    record {
      before = events;
      event = ev;
      after = [];
      events_are = refl;
      lines = h.lines;
      there = h.world;
      performs = h.performs;
      world = there.0;
      stops = there.1;
    }

pub halted_longer : {V : Type 0} (s : Setting V) (events rest all : List Event) (limit : Limit)
    → all ≡ events ++ rest → IsHalted s events limit → IsHalted s all limit
halted_longer s events rest all limit same h = record {
  before = h.before;
  event = h.event;
  after = h.after ++ rest;
  events_are = same ∙ (ap (λ l. l ++ rest) h.events_are ∙ append_assoc h.before (h.event ∷ h.after) rest);
  lines = h.lines;
  there = h.there;
  performs = h.performs;
  world = h.world;
  stops = h.stops;
}

-- the meaning of the same program
pub stands_same : {P V : Type 0} (m k : Meaning V) (s : Setting V) (w : SystemWorld V) (y : Systemed P V) → m ≡ k
    → SystemStands m s w y → SystemStands k s w y
stands_same {P} {V} m k s w y same h = subst (λ (x : Meaning V). SystemStands x s w y) same h

pub somewhere_next : {P V : Type 0} (threads : ℕ) (m : Meaning V) (ev : Event) (reply : Reply)
    (old on new : Systemed P V) → IsSomewhere threads m old → SystemMoves m (RepliesAny ev reply) old on
    → ((s : Setting V) (w : SystemWorld V) → SystemStands m s w on → SystemStands m s w new)
    → IsSomewhere threads m new
somewhere_next threads m ev reply old on new (s, w, stands, same) moves kept =
    let went = moves.2 s w stands in (s, went.0, kept s went.0 went.2, same)

pub somewhere_same : {P V : Type 0} (threads : ℕ) (m k : Meaning V) (y : Systemed P V) → m ≡ k
    → IsSomewhere threads m y → IsSomewhere threads k y
somewhere_same {P} {V} threads m k y same h = subst (λ (x : Meaning V). IsSomewhere threads x y) same h

-- the meaning of the same program, and the same events
pub gone_same : {P V : Type 0} (m k : Meaning V) (s : Setting V) (events other : List Event)
    (departures : List Departure) (y : Systemed P V) → m ≡ k → events ≡ other → HasGone m s events departures y
    → HasGone k s other departures y
gone_same {P} {V} m k s events other departures y same all h =
    subst (λ (l : List Event). HasGone k s l departures y) all
    (subst (λ (x : Meaning V). HasGone x s events departures y) same h)

take_here : (events : List Event) (i : ℕ) (x : Event) → i < length events → x ≡ get_or events i x
    → take (suc i) events ≡ take i events ++ x ∷ []
take_here [] i x low is = absurd (omega arith)
take_here (y ∷ events) zero x low is = ap (λ (z : Event). z ∷ []) (sym is)
take_here (y ∷ events) (suc i) x low is = ap (λ l. y ∷ l) (take_here events i x (omega arith) is)

-- it has come one event further
pub gone_on : {P V : Type 0} (m k : Meaning V) (s : Setting V) (events : List Event) (i : ℕ) (x : Event)
    (departures : List Departure) (y : Systemed P V) → m ≡ k → i < length events → x ≡ get_or events i x
    → HasGone m s (take i events ++ x ∷ []) departures y → HasGone k s (take (i + 1) events) departures y
gone_on {P} {V} m k s events i x departures y same low is h =
    rw add-one (gone_same m k s (take i events ++ x ∷ []) _ departures y same (sym (take_here events i x low is)) h)

pub gone_all : {P V : Type 0} (m : Meaning V) (s : Setting V) (events : List Event) (i : ℕ)
    (departures : List Departure) (y : Systemed P V) → length events ≤ i
    → HasGone m s (take i events) departures y → HasGone m s events departures y
gone_all {P} {V} m s events i departures y low h =
    subst (λ (l : List Event). HasGone m s l departures y) (take_all i events low) h

-- the first events, with one more, and those behind it
pub split_here : (events : List Event) (i : ℕ) (x : Event) → i < length events → x ≡ get_or events i x
    → events ≡ (take i events ++ x ∷ []) ++ drop (suc i) events
split_here [] i x low is = absurd (omega arith)
split_here (y ∷ events) zero x low is = ap (λ (z : Event). z ∷ events) (sym is)
split_here (y ∷ events) (suc i) x low is = ap (λ l. y ∷ l) (split_here events i x (omega arith) is)

-- an element is itself, whatever stands for one that is not there
pub same_item : (events : List Event) (i : ℕ) (d : Event) → i < length events
    → get_or events i d ≡ get_or events i (get_or events i d)
same_item events i d low = any_item events i d (get_or events i d) low
  where
    any_item : (l : List Event) (i : ℕ) (d e : Event) → i < length l → get_or l i d ≡ get_or l i e
    any_item [] i d e low = absurd (omega arith)
    any_item (y ∷ l) zero d e low = refl
    any_item (y ∷ l) (suc i) d e low = any_item l i d e (omega arith)

abbrev pub failed : {A : Type 0} → Stop → Result A Stop
failed e = Err e

-- a stop is the same whatever would have been answered
pub same_stop : {A B : Type 0} (r : Result A Stop) (x y : Stop) → r ≡ Err x → r ≡ Err y → failed {A = B} x ≡ failed y
same_stop r x y one two = let same : x ≡ y = cc in ap failed same
