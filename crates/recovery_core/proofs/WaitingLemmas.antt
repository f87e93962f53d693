-- As many outputs wait in memory as in the world.
use Rattle.std.proofs.Common.{◌≡◌, ℕ, suc, List, [], ◌∷◌, length, refl, ap, ◌∙◌}
use Rattle.entry_order.specs.Log.{Entry}
use Rattle.access_log.specs.declared.entry.Output.{Output}
use Rattle.plain_machine.specs.Program.{Meaning}
use Rattle.plain_machine.specs.History.{log_of}
use Rattle.recovery_world.specs.World.{Setting, Sent, World}
use Rattle.system_parts.specs.Parts.{Parts}
use Rattle.system_parts.specs.SystemStanding.{AreOutputs, StandsFor}

as_many : (log : List Entry) (stamped : List Output) (sent : List Sent) → AreOutputs log stamped sent
    → length stamped ≡ length sent
as_many log [] [] are = refl
as_many log [] (o ∷ sent) are = absurd are
as_many log (x ∷ stamped) [] are = absurd are
as_many log (x ∷ stamped) (o ∷ sent) are = ap (λ (n : ℕ). suc n) (as_many log stamped sent are.2)

pub as_many_wait : {P V : Type 0} (m : Meaning V) (s : Setting V) (w : World V) (y : Parts P V) (many : ℕ)
    → StandsFor m s w y → many ≡ length y.logger.waiting → many ≡ length w.waiting
as_many_wait m s w y many st is = is ∙ as_many (log_of w.past) y.logger.waiting w.waiting st.logger.waiting
