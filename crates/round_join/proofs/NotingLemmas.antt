-- Moves noted one after another, in their turns.
use Rattle.std.proofs.Common.{◌≡◌, ℕ, ◌+◌, ◌<◌, true, List, [], ◌∷◌, ◌++◌, length, reverse, drop, append_assoc, refl}
use Rattle.std.proofs.Common.{sym, ap, ◌∙◌, subst}
use Rattle.std.specs.Prelude.{slice_index_or, slice_set}
use Rattle.std.proofs.lemmas.List.{append-nil, get_or_default, map-append}
use Rattle.plain_text.specs.declared.limit.Limit.{Limit}
use Rattle.plain_machine.specs.declared.plain_move.PlainMove.{PlainMove}
use Rattle.plain_machine.specs.Program.{Meaning}
use Rattle.plain_machine.specs.History.{Step}
use Rattle.recovery_world.specs.World.{Setting, World}
use Rattle.recovery_world.specs.declared.event.Event.{Event}
use Rattle.recovery_world.specs.declared.event.Event.TheVariants as event
use Rattle.recovery_world.specs.declared.event.Outcome.{Outcome}
use Rattle.recovery_world.specs.Limits.{Passes}
use Rattle.recovery_laws.specs.Making.{after_made}
use Rattle.system_parts.specs.Parts.{Parts}
use Rattle.system_parts.specs.Resting.{RestsFor}
use Rattle.thread_steps.specs.Stepping.{CanSend}
use Rattle.round_join.specs.declared.noting.Made.{Made}
use Rattle.round_join.specs.declared.noting.Noted.{Noted}
use Rattle.round_join.specs.Drawing.{AreDrawn}
use Rattle.round_join.specs.Noting.{CanSendAll, events_made, IsMadeAt, Pending}
use Rattle.round_join.specs.Racing.{event_noted, events_noted, PerformsNoted, NoneNoted, OneMore, StoppedAt}
use Rattle.round_join.specs.NotedMoves.{noted_as, NotesAll, NotesMade, StopsBefore}
use Rattle.round_join.proofs.NotedEvents.{events_more}
use Rattle.round_join.proofs.DrawingLemmas.{none_drawn, turn_around, turn_low, turn_some, turns_left}

-- the oldest of them, and the others after it
pub record Oldest {V : Type 0} (s : Setting V) (w : World V) (left : List Made) (m : Made)
    (new : World V) : Type 0 where
  pub step : Step V
  pub made : IsMadeAt s w m step
  pub more : Pending s (after_made w step) left new

pub oldest : {V : Type 0} (s : Setting V) (w : World V) (left : List Made) (m : Made) (new : World V)
    → Pending s w (left ++ m ∷ []) new → Oldest s w left m new
oldest {V} s w [] m new (mid, step, made, is, same) =
    record {
      step = step;
      made = subst (λ (z : World V). IsMadeAt s z m step) same made;
      more = is ∙ ap (λ (z : World V). after_made z step) same;
    }
oldest s w (x ∷ left) m new (mid, step, made, is, more) =
    let k = oldest s w left m mid more in
    record { step = k.step; made = k.made; more = (mid, step, made, is, k.more) }

pub events_oldest : (left : List Made) (m : Made)
    → events_made (left ++ m ∷ []) ≡ event.Step m.thread m.answer ∷ events_made left
events_oldest [] m = refl
events_oldest (x ∷ left) m = ap (λ (l : List Event). l ++ event.Step x.thread x.answer ∷ []) (events_oldest left m)

pub can_oldest : (epoch threads : ℕ) (left : List Made) (m : Made) → CanSendAll epoch threads (left ++ m ∷ [])
    → CanSend epoch threads m.stepped × CanSendAll epoch threads left
can_oldest epoch threads [] m can = (can.0, tt)
can_oldest epoch threads (x ∷ left) m can = let k = can_oldest epoch threads left m can.1 in (k.0, (can.0, k.1))

-- the moves that are drawn from these lists in these turns have frames
abbrev pub CanDraw : ℕ → ℕ → List (List Made) → List ℕ → Type 0
CanDraw epoch threads lists turns =
    (drawn : List Made) × AreDrawn lists turns drawn × CanSendAll epoch threads drawn

-- the oldest has, and so have the others
pub can_first : (epoch threads : ℕ) (lists : List (List Made)) (turns : List ℕ) (t : ℕ) (rest : List Made) (made : Made)
    → slice_index_or lists t [] ≡ rest ++ made ∷ [] → CanDraw epoch threads lists (turns ++ t ∷ [])
    → CanSend epoch threads made.stepped × CanDraw epoch threads (slice_set lists t rest) turns
can_first epoch threads lists turns t rest made is (drawn, draws, can) =
    let k = turn_around lists turns t drawn rest made is draws in
    let both = can_oldest epoch threads k.0 made
    (subst (λ (l : List Made). CanSendAll epoch threads l) k.1 can) in (both.0, (k.0, k.2, both.1))

-- The turn of a loop over the turns, of which the first i were taken.

pub turn_in : (epoch threads : ℕ) (lists : List (List Made)) (turns : List ℕ) (i : ℕ) → i < length turns
    → CanDraw epoch threads lists (reverse (drop i turns)) → slice_index_or turns i 0 < length lists
turn_in epoch threads lists turns i low can =
    turn_low lists (reverse (drop (i + 1) turns)) (slice_index_or turns i 0) can.0
    (subst (λ (l : List ℕ). AreDrawn lists l can.0) (turns_left turns i low) can.1)

-- what was taken from the list of this turn
pub none_taken : (epoch threads : ℕ) (lists : List (List Made)) (turns : List ℕ) (i : ℕ) (was : List Made)
    → i < length turns → CanDraw epoch threads lists (reverse (drop i turns))
    → was ≡ slice_index_or lists (slice_index_or turns i 0) was → was ≡ [] → ⊥
none_taken epoch threads lists turns i was low can is none =
    turn_some lists (reverse (drop (i + 1) turns)) (slice_index_or turns i 0) can.0
    (subst (λ (l : List ℕ). AreDrawn lists l can.0) (turns_left turns i low) can.1)
    (get_or_default lists (slice_index_or turns i 0) [] was (turn_in epoch threads lists turns i low can)
    ∙ sym is ∙ none)

pub one_taken : (epoch threads : ℕ) (lists : List (List Made)) (turns : List ℕ) (i : ℕ) (was rest : List Made)
    (made : Made) → i < length turns → CanDraw epoch threads lists (reverse (drop i turns))
    → was ≡ slice_index_or lists (slice_index_or turns i 0) was → was ≡ rest ++ made ∷ []
    → slice_index_or lists (slice_index_or turns i 0) [] ≡ rest ++ made ∷ []
one_taken epoch threads lists turns i was rest made low can is taken =
    get_or_default lists (slice_index_or turns i 0) [] was (turn_in epoch threads lists turns i low can)
    ∙ sym is ∙ taken

pub can_now : (epoch threads : ℕ) (lists : List (List Made)) (turns : List ℕ) (i : ℕ) (rest : List Made) (made : Made)
    → i < length turns → CanDraw epoch threads lists (reverse (drop i turns))
    → slice_index_or lists (slice_index_or turns i 0) [] ≡ rest ++ made ∷ []
    → CanSend epoch threads made.stepped
    × CanDraw epoch threads (slice_set lists (slice_index_or turns i 0) rest) (reverse (drop (i + 1) turns))
can_now epoch threads lists turns i rest made low can taken =
    can_first epoch threads lists (reverse (drop (i + 1) turns)) (slice_index_or turns i 0) rest made taken
    (subst (λ (l : List ℕ). CanDraw epoch threads lists l) (turns_left turns i low) can)

-- what was noted, where of all the moves those that these lists have in these turns are left
pub record Went {P V : Type 0} (m : Meaning V) (s : Setting V) (w : World V) (lists : List (List Made)) (turns : List ℕ)
    (all : List Made) (new : World V) (noted : List Noted) (now : Parts P V) : Type 0 where
  pub there : World V
  pub rests : RestsFor m s there now
  pub up : there.up ≡ true
  pub left : List Made
  pub draws : AreDrawn lists turns left
  pub pending : Pending s there left new
  pub performs : PerformsNoted s w noted there
  pub all_are : events_noted noted ++ events_made left ≡ events_made all

pub went_none : {P V : Type 0} (m : Meaning V) (s : Setting V) (w : World V) (lists : List (List Made)) (turns : List ℕ)
    (all : List Made) (new : World V) (now : Parts P V) → AreDrawn lists turns all → RestsFor m s w now → w.up ≡ true
    → Pending s w all new → Went m s w lists turns all new [] now
went_none m s w lists turns all new now draws rests up pending = record {
  there = w;
  rests = rests;
  up = up;
  left = all;
  draws = draws;
  pending = pending;
  performs = NoneNoted;
  all_are = refl;
}

module _ {P V : Type 0} (m : Meaning V) (s : Setting V) (w : World V) (lists : List (List Made)) (turns : List ℕ)
    (t : ℕ) (all rest : List Made) (made : Made) (new : World V) (noted : List Noted) (now : Parts P V)
    (taken : slice_index_or lists t [] ≡ rest ++ made ∷ [])
    (h : Went m s w lists (turns ++ t ∷ []) all new noted now) where
  around : (left : List Made) × (h.left ≡ left ++ made ∷ []) × AreDrawn (slice_set lists t rest) turns left
  around = turn_around lists turns t h.left rest made taken h.draws

  first : Oldest s h.there around.0 made new
  first = oldest s h.there around.0 made new (subst (λ (l : List Made). Pending s h.there l new) around.1 h.pending)

  one_more : (next : Parts P V) (to : Outcome) → NotesMade m made to now next
      → Went m s w (slice_set lists t rest) turns all new (noted ++ noted_as made to ∷ []) next
  one_more next to notes =
      let done = notes s h.there first.step h.rests h.up first.made.can first.made.shows in
      let n : Noted = noted_as made to in
      record {
        there = after_made h.there first.step;
        rests = done.2;
        up = h.up;
        left = around.0;
        draws = around.2;
        pending = first.more;
        performs = OneMore n h.performs done.1;
        all_are =
            ap (λ (l : List Event). l ++ events_made around.0) (events_more noted n)
            ∙ append_assoc (events_noted noted) (event_noted n ∷ []) (events_made around.0)
            ∙ ap (λ (l : List Event). events_noted noted ++ l)
            (sym (events_oldest around.0 made) ∙ ap events_made (sym around.1))
            ∙ h.all_are;
      }

  pub went_more : (next : Parts P V) (to : Outcome) (after : List Noted) → NotesMade m made to now next
      → after ≡ noted ++ noted_as made to ∷ [] → Went m s w (slice_set lists t rest) turns all new after next
  went_more next to after notes is =
      subst (λ (l : List Noted). Went m s w (slice_set lists t rest) turns all new l next) (sym is)
      (one_more next to notes)

  pub went_stops : (limit : Limit) (next : PlainMove) (after : List Noted) → StopsBefore m made limit next now
      → after ≡ noted → StoppedAt s w (events_made all) after limit next
  went_stops limit next after stops is =
      let here = stops.passes s h.there first.step h.rests h.up first.made.can first.made.shows in
      record {
        left = events_made around.0;
        all_are =
            ap (λ (l : List Noted). events_noted l ++ event.Step next.thread next.answer ∷ events_made around.0) is
            ∙ ap (λ (x : PlainMove). events_noted noted ++ event.Step x.thread x.answer ∷ events_made around.0)
            stops.is_next
            ∙ ap (λ (l : List Event). events_noted noted ++ l)
            (sym (events_oldest around.0 made) ∙ ap events_made (sym around.1))
            ∙ h.all_are;
        there = h.there;
        performs = subst (λ (l : List Noted). PerformsNoted s w l h.there) (sym is) h.performs;
        passes =
            subst (λ (x : PlainMove). Passes s h.there (event.Step x.thread x.answer) limit) (sym stops.is_next) here;
      }

pub went_all : {P V : Type 0} (m : Meaning V) (s : Setting V) (w : World V) (lists : List (List Made)) (all : List Made)
    (new : World V) (noted : List Noted) (now : Parts P V) → Went m s w lists [] all new noted now
    → NotesAll m s w all new noted now
went_all {P} {V} m s w lists all new noted now h =
    let none = none_drawn lists h.left h.draws in
    let same : new ≡ h.there = subst (λ (l : List Made). Pending s h.there l new) none h.pending in
    let events : events_noted noted ≡ events_made all =
    sym (append-nil (events_noted noted))
    ∙ ap (λ (l : List Made). events_noted noted ++ events_made l) (sym none) ∙ h.all_are in
    record {
      rests = subst (λ (z : World V). RestsFor m s z now) (sym same) h.rests;
      performs = subst (λ (z : World V). PerformsNoted s w noted z) (sym same) h.performs;
      events_are = events;
    }
