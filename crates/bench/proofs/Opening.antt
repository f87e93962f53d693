-- A system that is opened, and then fed, has as many threads as its setting says.
use Rattle.std.proofs.Common.{◌≡◌, ℕ, zero, suc, ◌+◌, Bool, true, List, length, refl, sym, ap, subst, ◌∙◌, arith}
use Rattle.rand_pcg.specs.Lcg.{Lcg}
use Rattle.access_log.specs.Held.{Lane}
use Rattle.plain_machine.specs.Program.{Meaning}
use Rattle.recovery_world.specs.World.{Setting, World}
use Rattle.recovery_world.specs.Many.{Message}
use Rattle.plan_script.specs.Orders.{Orders}
use Rattle.round_join.specs.declared.noting.Noted.{Noted}
use Rattle.system_parts.specs.SystemStanding.{StandsFor}
use Rattle.recovery_core.specs.Systems.{Systemed, SystemStands, SystemMoves}
use Rattle.live_workers.specs.Draws.{generators_of}
use Rattle.live_workers.specs.Rounds.{Rounds}
use Rattle.bench.specs.Systems.{CanRace, StandsSomewhere}

pub threads_of : {P V : Type 0} (m : Meaning V) (s : Setting V) (w : World V) (y : Systemed P V)
    → SystemStands m s w y → y.parts.inputs.threads ≡ s.threads
threads_of m s w y stands = ap (λ i. i.threads) stands.parts.inputs.inputs

pub opened_somewhere : {P V : Type 0} (mean : P → Meaning V) (program : P) (s : Setting V) (w : World V)
    (y : Systemed P V) → y.parts.program ≡ program → SystemStands (mean program) s w y
    → StandsSomewhere (mean y.parts.program) y
opened_somewhere {P} {V} mean program s w y same stands =
    (s, w, subst (λ (p : P). SystemStands (mean p) s w y) (sym same) stands)

module _ {P V : Type 0} (meaning : P → Meaning V) where
  -- after an event
  pub moved_on : (R : Setting V → World V → World V → Type 0) (draws : List Lcg) (old new : Systemed P V)
      → SystemMoves (meaning old.parts.program) R old new → CanRace meaning old draws → CanRace meaning new draws
  moved_on R draws old new moves ((s, w, st), count) =
      let r = moves.2 s w st in (
        (s, r.0, subst (λ (p : P). SystemStands (meaning p) s r.0 new) (sym moves.0) r.2),
        count ∙ threads_of (meaning old.parts.program) s w old st
            ∙ sym (threads_of (meaning old.parts.program) s r.0 new r.2),
      )

  -- after a round
  pub raced_on : (orders : Orders) (may : ℕ → Type 0) (guide : List Lane) (before : List Lcg) (noted : List Noted)
      (arriving : List Message) (after : List Lcg) (old new : Systemed P V)
      → StandsSomewhere (meaning old.parts.program) old → new.parts.program ≡ old.parts.program
      → ((s : Setting V) (w : World V) → SystemStands (meaning old.parts.program) s w old
      → Rounds (meaning old.parts.program) s w orders may guide before noted arriving after new)
      → CanRace meaning new after
  raced_on orders may guide before noted arriving after old new (s, w, st) program rounds =
      let r = rounds s w st in (
        (s, r.0, subst (λ (p : P). SystemStands (meaning p) s r.0 new) (sym program) r.2),
        r.1.count ∙ sym (threads_of (meaning old.parts.program) s r.0 new r.2),
      )

  -- a master that says so is up
  pub is_up : (y : Systemed P V) (b : Bool) → StandsSomewhere (meaning y.parts.program) y
      → ((s : Setting V) (w : World V) → StandsFor (meaning y.parts.program) s w y.parts → b ≡ w.up) → b ≡ true
      → y.parts.up ≡ true
  is_up y b (s, w, st) says is_true = st.parts.master.up ∙ sym (says s w st.parts) ∙ is_true

-- there is a generator for each thread
pub generators_count : (seed t n : ℕ) → length (generators_of seed t n) ≡ n
generators_count seed t zero = refl
generators_count seed t (suc n) = let others = generators_count seed (t + 1) n in omega (arith, others)
