-- What events and rounds keep of a system.
use Rattle.std.proofs.Common.{◌≡◌, ℕ, zero, suc, ◌+◌, Bool, true, List, length, refl, sym, ap, ◌∙◌, subst, arith}
use Rattle.rand_pcg.specs.Lcg.{Lcg}
use Rattle.access_log.specs.Held.{Lane}
use Rattle.input_logger.specs.Inputs.{Fed}
use Rattle.plain_machine.specs.Program.{Meaning}
use Rattle.recovery_world.specs.World.{Setting, World, opening}
use Rattle.recovery_world.specs.Many.{Message}
use Rattle.plan_script.specs.Orders.{Orders}
use Rattle.round_join.specs.declared.noting.Noted.{Noted}
use Rattle.live_workers.specs.Draws.{generators_of}
use Rattle.live_workers.specs.Rounds.{Rounds}
use Rattle.system_parts.specs.SystemStanding.{StandsFor}
use Rattle.recovery_core.specs.Systems.{Systemed, SystemStands, SystemMoves}
use Rattle.test_rounds.specs.Standing.{HasThreads, KeepsThreads}

module _ {P V : Type 0} (meaning : P → Meaning V) where
  -- an event does
  pub event_keeps : (R : Setting V → World V → World V → Type 0) (old new : Systemed P V)
      → SystemMoves (meaning old.parts.program) R old new → KeepsThreads meaning old new
  event_keeps R old new moves threads (s, w, stands, is) =
      let k = moves.2 s w stands in
      (s, k.0, subst (λ (p : P). SystemStands (meaning p) s k.0 new) (sym moves.0) k.2, is)

  -- what is not changed does
  pub same_keeps : (old new : Systemed P V) → new.parts.program ≡ old.parts.program
      → ((s : Setting V) (w : World V) → SystemStands (meaning old.parts.program) s w old
      → SystemStands (meaning old.parts.program) s w new) → KeepsThreads meaning old new
  same_keeps old new program stands threads (s, w, st, is) =
      (s, w, subst (λ (p : P). SystemStands (meaning p) s w new) (sym program) (stands s w st), is)

  -- a master that says so is up
  pub is_up : (threads : ℕ) (y : Systemed P V) (b : Bool) → HasThreads meaning threads y
      → ((s : Setting V) (w : World V) → StandsFor (meaning y.parts.program) s w y.parts → b ≡ w.up) → b ≡ true
      → y.parts.up ≡ true
  is_up threads y b (s, w, stands, is) says is_true =
      stands.parts.master.up ∙ sym (says s w stands.parts) ∙ is_true

  -- the number of threads is that of the inputs
  pub threads_are : (threads : ℕ) (y : Systemed P V) → HasThreads meaning threads y
      → y.parts.inputs.threads ≡ threads
  threads_are threads y (s, w, stands, is) = ap (λ (i : Fed). i.threads) stands.parts.inputs.inputs ∙ is

  -- a round does
  pub round_keeps : (orders : Orders) (may : ℕ → Type 0) (guide : List Lane) (before : List Lcg) (noted : List Noted)
      (arriving : List Message) (after : List Lcg) (threads : ℕ) (old new : Systemed P V)
      → HasThreads meaning threads old → new.parts.program ≡ old.parts.program
      → ((s : Setting V) (w : World V) → SystemStands (meaning old.parts.program) s w old
      → Rounds (meaning old.parts.program) s w orders may guide before noted arriving after new)
      → HasThreads meaning threads new × (length after ≡ threads)
  round_keeps orders may guide before noted arriving after threads old new (s, w, stands, is) program rounds =
      let k = rounds s w stands in (
        (s, k.0, subst (λ (p : P). SystemStands (meaning p) s k.0 new) (sym program) k.2, is),
        k.1.count ∙ is,
      )

  -- a new system does
  pub opens : (s : Setting V) (y : Systemed P V) (p : P) (threads : ℕ) → y.parts.program ≡ p
      → SystemStands (meaning p) s (opening V) y → s.threads ≡ threads → HasThreads meaning threads y
  opens s y p threads program stands is =
      (s, opening V, subst (λ (q : P). SystemStands (meaning q) s (opening V) y) (sym program) stands, is)

-- the generators of so many threads
pub generators_count : (seed t n : ℕ) → length (generators_of seed t n) ≡ n
generators_count seed t zero = refl
generators_count seed t (suc n) = let k = generators_count seed (t + 1) n in omega (arith, k)
