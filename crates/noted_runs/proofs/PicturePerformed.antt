-- Events are performed one by one, and what each did is noted.
use Rattle.std.proofs.Common.{◌≡◌, ℕ, ◌+◌, ◌<◌, ◌≤◌, List, [], ◌∷◌, ◌++◌, length, take, drop, refl, sym, ap, ◌∙◌}
use Rattle.std.proofs.Common.{subst, add-one, append_assoc, arith, get_or, suc, zero, Result, Err}
use Rattle.std.proofs.lemmas.List.{take_all}
use Rattle.plain_text.specs.declared.limit.Limit.{Limit}
use Rattle.plain_machine.specs.Program.{Meaning}
use Rattle.recovery_world.specs.declared.event.Event.{Event}
use Rattle.recovery_world.specs.declared.event.Outcome.{Outcome}
use Rattle.recovery_world.specs.World.{Setting, Sent, World as SystemWorld, opening}
use Rattle.recovery_world.specs.Many.{OnAny}
use Rattle.recovery_world.specs.Files.{Performs, Rests, Goes as GoesOn, reply_line, sent_names}
use Rattle.event_replies.specs.declared.reply.Reply.{Reply}
use Rattle.event_replies.specs.declared.reply.Stop.{Stop}
use Rattle.recovery_core.specs.Systems.{RepliesAny, SystemMoves, SystemStands, SystemStops, Systemed}
use Rattle.system_parts.specs.Performing.{IsStopped}
use Rattle.run_drawing.specs.declared.note.Note.{Note}
use Rattle.run_drawing.specs.Noted.{Noted, Goes, Opens, note_of}
use Rattle.noted_runs.specs.Noting.{HasNoted, IsHalted}

-- one event more is performed at the end
pub performs_more : {V : Type 0} (s : Setting V) (w mid new : SystemWorld V) (events : List Event) (lines : List ℕ)
    (ev : Event) (to : Outcome) (freed : List Sent) → Performs s w events lines mid → OnAny s mid ev to freed new
    → (more : List ℕ) × Performs s w (events ++ ev ∷ []) more new
performs_more s w mid new events lines ev to freed (Rests v) on =
    (reply_line ev to freed ++ [], GoesOn ev to freed on (Rests new))
performs_more s w mid new events lines ev to freed (GoesOn one first out there rest) on =
    let more = performs_more s _ mid new _ _ ev to freed rest on in
    (reply_line one first out ++ more.0, GoesOn one first out there more.1)

-- events that are noted are performed
pub noted_performs : {V : Type 0} (s : Setting V) (events : List Event) (notes : List Note) (w : SystemWorld V)
    → Noted s events notes w → (lines : List ℕ) × Performs s (opening V) events lines w
noted_performs {V} s events notes w Opens = ([], Rests (opening V))
noted_performs {V} s events notes w (Goes ev to freed rest on) =
    let before = noted_performs s _ _ _ rest in
    performs_more s (opening V) _ w _ before.0 ev to freed before.1 on

-- before the first event
pub none_noted : {P V : Type 0} (m : Meaning V) (s : Setting V) (y : Systemed P V) → SystemStands m s (opening V) y
    → HasNoted m s [] [] y
none_noted {P} {V} m s y stands = record {
  world = opening V;
  noted = Opens;
  stands = stands;
}

pub noted_next : {P V : Type 0} (m : Meaning V) (s : Setting V) (events : List Event) (notes : List Note) (ev : Event)
    (reply : Reply) (old on new : Systemed P V) → HasNoted m s events notes old
    → SystemMoves m (RepliesAny ev reply) old on → (note : Note)
    → ((w : SystemWorld V) (freed : List Sent) → SystemStands m s w on → reply.released ≡ sent_names freed
    → note ≡ note_of ev reply.outcome freed w)
    → (after : List Note) → after ≡ notes ++ note ∷ []
    → ((w : SystemWorld V) → SystemStands m s w on → SystemStands m s w new)
    → HasNoted m s (events ++ ev ∷ []) after new
noted_next {P} {V} m s events notes ev reply old on new h moves note note_is after after_is kept =
    let went = moves.2 s h.world h.stands in
    record {
      world = went.0;
      noted = subst (λ (l : List Note). Noted s (events ++ ev ∷ []) l went.0)
          (sym (after_is ∙ ap (λ (n : Note). notes ++ n ∷ []) (note_is went.0 went.1.0 went.2 went.1.2)))
          (Goes ev reply.outcome went.1.0 h.noted went.1.1);
      stands = kept went.0 went.2;
    }

pub halted_next : {P V : Type 0} (m : Meaning V) (s : Setting V) (events : List Event) (notes : List Note)
    (ev : Event) (limit : Limit) (old new : Systemed P V) → HasNoted m s events notes old
    → SystemStops m (IsStopped ev limit) old new → IsHalted s (events ++ ev ∷ []) limit
halted_next m s events notes ev limit old new h stops =
    let there = stops.1 s h.world h.stands in
    let so_far = noted_performs s events notes h.world h.noted in
    record {
      before = events;
      event = ev;
      after = [];
      events_are = refl;
      lines = so_far.0;
      there = h.world;
      performs = so_far.1;
      world = there.0;
      stops = there.1;
    }

pub halted_longer : {V : Type 0} (s : Setting V) (events rest all : List Event) (limit : Limit)
    → all ≡ events ++ rest → IsHalted s events limit → IsHalted s all limit
halted_longer s events rest all limit same h = record {
  before = h.before;
  event = h.event;
  after = h.after ++ rest;
  events_are = same ∙ (ap (λ l. l ++ rest) h.events_are ∙ append_assoc h.before (h.event ∷ h.after) rest);
  lines = h.lines;
  there = h.there;
  performs = h.performs;
  world = h.world;
  stops = h.stops;
}

-- the meaning of the same program
pub stands_same : {P V : Type 0} (m k : Meaning V) (s : Setting V) (w : SystemWorld V) (y : Systemed P V) → m ≡ k
    → SystemStands m s w y → SystemStands k s w y
stands_same {P} {V} m k s w y same h = subst (λ (x : Meaning V). SystemStands x s w y) same h

-- the meaning of the same program, and the same events
pub noted_same : {P V : Type 0} (m k : Meaning V) (s : Setting V) (events other : List Event) (notes : List Note)
    (y : Systemed P V) → m ≡ k → events ≡ other → HasNoted m s events notes y → HasNoted k s other notes y
noted_same {P} {V} m k s events other notes y same all h =
    subst (λ (l : List Event). HasNoted k s l notes y) all
    (subst (λ (x : Meaning V). HasNoted x s events notes y) same h)

take_here : (events : List Event) (i : ℕ) (x : Event) → i < length events → x ≡ get_or events i x
    → take (suc i) events ≡ take i events ++ x ∷ []
take_here [] i x low is = absurd (omega arith)
take_here (y ∷ events) zero x low is = ap (λ (z : Event). z ∷ []) (sym is)
take_here (y ∷ events) (suc i) x low is = ap (λ l. y ∷ l) (take_here events i x (omega arith) is)

-- it has come one event further
pub noted_on : {P V : Type 0} (m k : Meaning V) (s : Setting V) (events : List Event) (i : ℕ) (x : Event)
    (notes : List Note) (y : Systemed P V) → m ≡ k → i < length events → x ≡ get_or events i x
    → HasNoted m s (take i events ++ x ∷ []) notes y → HasNoted k s (take (i + 1) events) notes y
noted_on {P} {V} m k s events i x notes y same low is h =
    rw add-one (noted_same m k s (take i events ++ x ∷ []) _ notes y same (sym (take_here events i x low is)) h)

pub noted_all : {P V : Type 0} (m : Meaning V) (s : Setting V) (events : List Event) (i : ℕ) (notes : List Note)
    (y : Systemed P V) → length events ≤ i → HasNoted m s (take i events) notes y → HasNoted m s events notes y
noted_all {P} {V} m s events i notes y low h =
    subst (λ (l : List Event). HasNoted m s l notes y) (take_all i events low) h

-- the first events, with one more, and those behind it
pub split_here : (events : List Event) (i : ℕ) (x : Event) → i < length events → x ≡ get_or events i x
    → events ≡ (take i events ++ x ∷ []) ++ drop (suc i) events
split_here [] i x low is = absurd (omega arith)
split_here (y ∷ events) zero x low is = ap (λ (z : Event). z ∷ events) (sym is)
split_here (y ∷ events) (suc i) x low is = ap (λ l. y ∷ l) (split_here events i x (omega arith) is)

-- an element is itself, whatever stands for one that is not there
pub same_item : (events : List Event) (i : ℕ) (d : Event) → i < length events
    → get_or events i d ≡ get_or events i (get_or events i d)
same_item events i d low = any_item events i d (get_or events i d) low
  where
    any_item : (l : List Event) (i : ℕ) (d e : Event) → i < length l → get_or l i d ≡ get_or l i e
    any_item [] i d e low = absurd (omega arith)
    any_item (y ∷ l) zero d e low = refl
    any_item (y ∷ l) (suc i) d e low = any_item l i d e (omega arith)

abbrev pub failed : {A : Type 0} → Stop → Result A Stop
failed e = Err e

-- a stop is the same whatever would have been answered
pub same_stop : {A B : Type 0} (r : Result A Stop) (x y : Stop) → r ≡ Err x → r ≡ Err y → failed {A = B} x ≡ failed y
same_stop r x y one two = let same : x ≡ y = cc in ap failed same
