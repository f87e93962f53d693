-- The turns of threads that have nothing to do: none of them changes anything.
use Rattle.std.proofs.Common.{◌≡◌, ℕ, ◌+◌, ◌<◌, ◌≤◌, ◌||◌, nat_lt, not, if◌then◌else◌, Bool, true, false, refl, sym, ap}
use Rattle.std.proofs.Common.{◌∙◌}
use Rattle.std.proofs.Common.{subst, inl, inr, arith, Option, Some, None, Ok}
use Rattle.std.specs.Prelude.{is_some, IsSome, List}
use Rattle.std.specs.Option.{option_map}
use Rattle.plain_text.specs.declared.packet.Packet.{Packet}
use Rattle.input_logger.specs.Inputs.{Fed, inputs_of}
use Rattle.access_log.specs.declared.entry.Output.{Output}
use Rattle.plain_machine.specs.Program.{Meaning}
use Rattle.plain_machine.specs.Machine.{Hand}
use Rattle.plain_machine.specs.History.{Step, thread_after, IsHistory}
use Rattle.box_program.specs.Hands.{input_for, IsInputAfter}
use Rattle.master_core.specs.MasterStanding.{Stands}
use Rattle.recovery_world.specs.declared.event.Event.TheVariants as event
use Rattle.recovery_world.specs.declared.event.Outcome.TheVariants as outcome
use Rattle.recovery_world.specs.World.{Setting, World, inputs_fed}
use Rattle.recovery_world.specs.Events.{WantsMore}
use Rattle.held_steps.proofs.FromRunEnd.{hand_is}
use Rattle.system_parts.specs.Parts.{Parts}
use Rattle.system_parts.specs.SystemStanding.{StandsFor}
use Rattle.system_parts.specs.Performing.{MovesOn, ComesTo, Releasing}
use Rattle.held_steps.proofs.FromThreadSteps.{low_now, input_now}
use Rattle.held_steps.proofs.HeldSteps.{steps_held}
use Rattle.several_events.specs.declared.progress.Progress.{Progress}
use Rattle.several_events.specs.declared.progress.Progress.TheVariants as progress
use Rattle.several_events.specs.Progressing.{after_turn, to_do}
use Rattle.several_events.specs.Ahead.{GoesAhead, GoesOnAs}
use Rattle.several_events.proofs.Ahead.{ahead_then, performs_held}
use Rattle.several_events.proofs.Choices.{next_step}

no_input : {A B : Type 0} (o : Option A) → o ≡ None → IsSome o → B
no_input None is some = absurd (cc)
no_input (Some a) is some = absurd (cc)

-- A thread without a packet in hand and without an input wants more, and its step changes nothing.
module _ {P V A : Type 0} (m : Meaning V) (y : Parts P V) (t : ℕ) (f : A → Packet) (o : Option A)
    (low : t < y.inputs.threads) (none : o ≡ None)
    (gives : (n : Meaning V) (threads : ℕ) (steps : List (Step V)) → IsHistory n (inputs_of y.inputs) threads steps
    → Stands n threads steps y.master → t < threads → IsInputAfter (inputs_of y.inputs) t steps (option_map f o)) where
  wants_more : (s : Setting V) (w : World V) → StandsFor m s w y → WantsMore s w t
  wants_more s w st = go (thread_after w.past t).hand refl
    where
      legal : IsHistory s.meaning (inputs_of y.inputs) s.threads w.past
      legal = subst (λ (k : Fed). IsHistory s.meaning (inputs_of k) s.threads w.past) (sym st.inputs.inputs)
          st.sound.firm.legal

      given : option_map f o
          ≡ input_for (inputs_fed s w.fed t) (thread_after w.past t).taken (thread_after w.past t).hand
      given = subst (λ (k : Fed). IsInputAfter (inputs_of k) t w.past (option_map f o)) st.inputs.inputs
          (gives s.meaning s.threads w.past legal st.master.stands (low_now m s w y t st low))

      go : (h : Option Hand) → (thread_after w.past t).hand ≡ h → WantsMore s w t
      go (Some h) at =
          let has =
          hand_is s.meaning s.threads w.past y.master t st.master.stands (low_now m s w y t st low) ∙ ap is_some at in
          no_input o none (input_now m s w y t f o st low gives has)
      go None at = (
        at,
        sym (given ∙ ap (λ (h : Option Hand). input_for (inputs_fed s w.fed t) (thread_after w.past t).taken h) at)
            ∙ ap (option_map f) none,
      )

  pub idle_stays : y.up ≡ true → MovesOn m (ComesTo (event.Step t None) outcome.Idle) y y
  idle_stays up = (
    refl,
    λ s w st. (
      w,
      (
        (inr (inr (inl (low_now m s w y t st low, sym st.master.up ∙ up, wants_more s w st, refl, refl))), refl),
        st.within,
      ),
      st,
    ),
  )

-- The same of the parts as they were.
pub idle_now : {P V A : Type 0} (meaning : P → Meaning V) (y old : Parts P V) → y ≡ old → (t : ℕ) (f : A → Packet)
    (o : Option A) → t < old.inputs.threads → o ≡ None
    → ((n : Meaning V) (threads : ℕ) (steps : List (Step V)) → IsHistory n (inputs_of y.inputs) threads steps
    → Stands n threads steps y.master → t < threads → IsInputAfter (inputs_of y.inputs) t steps (option_map f o))
    → y.up ≡ true → MovesOn (meaning old.program) (ComesTo (event.Step t None) outcome.Idle) old old
idle_now {P} {V} {A} meaning y old same t f o low none gives up =
    subst (λ (z : Parts P V). MovesOn (meaning z.program) (ComesTo (event.Step t None) outcome.Idle) z z) same
    (idle_stays (meaning y.program) y t f o (subst (λ (z : Parts P V). t < z.inputs.threads) (sym same) low) none gives
    up)

-- Turns that are passed over

pub goes_on_here : {P V : Type 0} (m : Meaning V) (y : Parts P V) (at : Progress) → GoesOnAs m y at at
goes_on_here m y at = λ from old list out a. a

pub goes_on_idle : {P V : Type 0} (m : Meaning V) (y : Parts P V) (at : Progress) (left t : ℕ) (moved : Bool)
    (onward : Progress) → t < y.inputs.threads → y.inputs.threads ≤ 16
    → onward ≡ after_turn y.inputs.threads left t moved outcome.Idle
    → MovesOn m (ComesTo (event.Step t None) outcome.Idle) y y → GoesOnAs m y at (progress.Steps left t moved)
    → GoesOnAs m y at onward
goes_on_idle m y at left t moved onward low few is idle before = λ from old list out a.
    ahead_then m m old y y from (progress.Steps left t moved) (progress.Steps left t moved) onward (event.Step t None)
    outcome.Idle list out out refl (next_step m y left t t moved refl low few) is (before from old list out a)
    (performs_held m y y (progress.Steps left t moved) (event.Step t None) t (Ok outcome.Idle) out out refl tt
    (steps_held m t out y y (Ok outcome.Idle) idle))

pub ahead_passes : {P V : Type 0} (meaning : P → Meaning V) (old new : Parts P V) (from behind onward : Progress)
    (list out : List Output) → MovesOn (meaning old.program) (Releasing list out (GoesAhead from behind)) old new
    → GoesOnAs (meaning new.program) new behind onward
    → MovesOn (meaning old.program) (Releasing list out (GoesAhead from onward)) old new
ahead_passes {P} {V} meaning old new from behind onward list out moved goes =
    subst (λ (m : Meaning V). GoesOnAs m new behind onward) (ap meaning moved.0) goes from old list out moved

-- Less is to be done behind one.

rest_less : (n left t packets moves : ℕ) (moved next : Bool) → t < n → n ≤ 16
    → to_do n packets moves
    (if next || not moved then progress.Steps left (t + 1) moved else progress.Steps left 0 false)
    < to_do n packets moves (progress.Steps left t moved)
rest_less n left t packets moves true true low few = omega (arith, low, few)
rest_less n left t packets moves false true low few = omega (arith, low, few)
rest_less n left t packets moves true false low few = omega (arith, low, few)
rest_less n left t packets moves false false low few = omega (arith, low, few)

pub idle_falls : (n left t packets moves : ℕ) (moved : Bool) (onward : Progress) → t < n → n ≤ 16
    → onward ≡ after_turn n left t moved outcome.Idle
    → to_do n packets moves onward < to_do n packets moves (progress.Steps left t moved)
idle_falls n left t packets moves moved onward low few is =
    subst (λ (p : Progress). to_do n packets moves p < to_do n packets moves (progress.Steps left t moved)) (sym is)
    (rest_less n left t packets moves moved (nat_lt (t + 1) n) low few)
