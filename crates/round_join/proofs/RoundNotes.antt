-- What the moves of a raced round come to, where all are noted, and where a limit stops them.
use Rattle.std.proofs.Common.{◌≡◌, ℕ, List, sym, ◌∙◌, subst}
use Rattle.plain_text.specs.declared.limit.Limit.{Limit}
use Rattle.plain_machine.specs.declared.plain_move.PlainMove.{PlainMove}
use Rattle.plain_machine.specs.Program.{Meaning}
use Rattle.master_core.specs.Mastered.{Mastered}
use Rattle.recovery_world.specs.World.{Setting, World}
use Rattle.recovery_world.specs.declared.event.Event.{Event}
use Rattle.system_parts.specs.Parts.{Parts}
use Rattle.var_locks.specs.Seats.{Seated}
use Rattle.round_events.specs.Blocked.{IsStuck}
use Rattle.round_join.specs.declared.noting.Made.{Made}
use Rattle.round_join.specs.declared.noting.Noted.{Noted}
use Rattle.round_join.specs.Racing.{CameTo, IsInOrder, Stopped, StoppedAt}
use Rattle.round_join.specs.Noting.{events_made}
use Rattle.round_join.specs.NotedMoves.{NotesAll}

pub round_came : {P V : Type 0} (m : Meaning V) (s : Setting V) (w : World V) (seats : List (Seated V)) (q : Mastered V)
    (moves : List (List Made)) (turns : List ℕ) (noted : List Noted) (old new : Parts P V) → s.meaning ≡ m
    → (i : IsInOrder s w seats q moves turns old) → NotesAll m s w i.drawn i.there noted new
    → CameTo m s w seats q moves old.guide noted new
round_came {P} {V} m s w seats q moves turns noted old new meaning i all = record {
  steps = i.steps;
  there = i.there;
  performs = all.performs;
  events_are = all.events_are ∙ i.events_are;
  after = i.after;
  woven = i.woven;
  each = i.each;
  rests = all.rests;
  stands = i.stands;
  stuck = λ x e among stuck.
      i.stuck x e among (subst (λ (k : Meaning V). IsStuck k old.guide x e) (sym meaning) stuck);
}

pub round_stopped : {P V : Type 0} (s : Setting V) (w : World V) (seats : List (Seated V)) (q : Mastered V)
    (moves : List (List Made)) (turns : List ℕ) (y : Parts P V) (noted : List Noted) (limit : Limit) (next : PlainMove)
    → (i : IsInOrder s w seats q moves turns y) → StoppedAt s w (events_made i.drawn) noted limit next
    → Stopped s w moves noted limit next
round_stopped s w seats q moves turns y noted limit next i stopped = record {
  steps = i.steps;
  woven = i.woven;
  each = i.each;
  at = subst (λ (l : List Event). StoppedAt s w l noted limit next) i.events_are stopped;
}
