-- The threads of a master that stands for a world's past can make moves.
use Rattle.std.proofs.Common.{◌≡◌, ℕ, ◌+◌, ◌-◌, ◌≤◌, ◌<◌, List, [], ◌∷◌, length, refl, sym, ap, ◌∙◌, subst, cond, Bool}
use Rattle.std.proofs.Common.{true, false, nat_eq, Option, Some, None, arith}
use Rattle.std.specs.Prelude.{slice_get, slice_index_or}
use Rattle.plain_text.specs.declared.limit.TheConstants.{MOST_MOVES}
use Rattle.plain_text.specs.declared.packet.Packet.{Packet}
use Rattle.input_logger.specs.Inputs.{Fed, inputs_of}
use Rattle.box_program.specs.Hands.{local_in}
use Rattle.plain_machine.proofs.Hands.{hand_input}
use Rattle.plain_machine.specs.declared.local.Local.{Local}
use Rattle.plain_machine.specs.Program.{Meaning}
use Rattle.plain_machine.specs.Machine.{Hand}
use Rattle.plain_machine.specs.History.{Step, moves_of, thread_after, IsHistory}
use Rattle.master_core.specs.declared.parts.ThreadPart.{ThreadPart}
use Rattle.master_core.specs.Mastered.{Mastered}
use Rattle.master_core.specs.MasterStanding.{Stands}
use Rattle.recovery_world.specs.World.{Setting, World, inputs_fed}
use Rattle.system_parts.specs.Parts.{Parts}
use Rattle.system_parts.specs.Resting.{RestsFor}
use Rattle.live_workers.specs.Racing.{AreReadyFor}
use Rattle.live_workers.proofs.RoundSteps.{moves_within}

in_hand : (o : Option Hand) (place : Local) → local_in o ≡ Some place → (h : Hand) × (o ≡ Some h)
in_hand None place is = absurd (cc)
in_hand (Some h) place is = (h, refl)

pub are_ready : {P V : Type 0} (m : Meaning V) (s : Setting V) (w : World V) (y : Parts P V) (p : Mastered V) (most : ℕ)
    → RestsFor m s w y → Stands s.meaning s.threads w.past p → y.moves + most ≡ MOST_MOVES + 1
    → AreReadyFor most (inputs_of y.inputs) p
are_ready {P} {V} m s w y p most rests stands most_is t d low =
    let below : t < s.threads = (let k = stands.threads_are in omega (arith, low, k)) in
    let th = stands.thread t d below in
    let fed : (u : ℕ) → inputs_fed s w.fed u ≡ inputs_of y.inputs u =
    λ u. ap (λ (f : Fed). inputs_of f u) (sym rests.inputs.inputs) in
    record {
      input = λ place is.
          let h = in_hand (thread_after w.past t).hand place (sym th.hand ∙ is) in
          let last =
          hand_input s.meaning (inputs_fed s w.fed) s.threads w.past rests.sound.firm.legal t h.0 h.1 in (
            last.0,
            h.0.packet,
            th.taken ∙ last.1,
            subst (λ (l : List Packet). slice_get l last.0 ≡ Some h.0.packet) (fed t) last.2,
          );
      room =
          let made = th.made in
          let past = moves_within t w.past in
          let all = rests.moved.past in
          let counted = rests.moved.moves in
          omega (arith, made, past, all, counted, most_is);
    }
