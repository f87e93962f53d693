-- What a script leaves.
use Rattle.std.proofs.Common.{◌≡◌, ℕ, List, subst, ap, sym, ◌∙◌, Ok}
use Rattle.plain_text.specs.declared.packet.Packet.{Packet}
use Rattle.plain_machine.specs.declared.plain_move.PlainMove.{PlainMove}
use Rattle.plain_machine.specs.History.{emissions, play}
use Rattle.recovery_world.specs.declared.event.Event.{Event}
use Rattle.recovery_world.specs.World.{Setting, opening, all_inputs}
use Rattle.recovery_world.specs.Files.{Leaves}
use Rattle.recovery_world.specs.Matching.{IsMatched, IsAccepted}
use Rattle.recovery_laws.specs.Sound.{Sound}
use Rattle.recovery_laws.specs.Ends.{Ends}
use Rattle.recovery_laws.proofs.KeptWorlds.{opening_sound, performs_sound}
use Rattle.recovery_laws.proofs.Finishes.{finish_ends}
use Rattle.recovery_laws.proofs.AcceptedRuns.{moves_play, matched, sent_emissions}

pub leaves_sound : {V : Type 0} (s : Setting V) (events : List Event) (report : List ℕ) (released : List Packet)
    (schedule : List PlainMove) → (l : Leaves s events report released schedule) → Sound s l.world
leaves_sound {V} s events report released schedule l =
    performs_sound s (opening V) l.world events l.lines (opening_sound s) l.performs

pub leaves_ends : {V : Type 0} (s : Setting V) (events : List Event) (report : List ℕ) (released : List Packet)
    (schedule : List PlainMove) → (l : Leaves s events report released schedule)
    → (play s.meaning (all_inputs s) s.threads schedule ≡ Ok l.steps) × Ends s l.world l.steps
leaves_ends s events report released schedule l = (
  ap (λ (moves : List PlainMove). play s.meaning (all_inputs s) s.threads moves) l.schedule_is
      ∙ moves_play s.meaning (all_inputs s) s.threads l.steps l.finish.history,
  finish_ends s l.world l.steps (leaves_sound s events report released schedule l) l.finish,
)

pub leaves_accepted : {V : Type 0} (s : Setting V) (events : List Event) (report : List ℕ) (released : List Packet)
    (schedule : List PlainMove) → Leaves s events report released schedule → IsAccepted s released schedule
leaves_accepted s events report released schedule l =
    let r = leaves_ends s events report released schedule l in
    record {
      steps = l.steps;
      plays = r.0;
      matched = subst (λ (p : List Packet). IsMatched s.fractions p s.fractions (emissions l.steps)) (sym l.released_is)
          (matched s.fractions l.world.released (emissions l.steps) r.1.once
          (λ o i. sent_emissions l.steps o.emission o.after (r.1.emits o i)));
    }
