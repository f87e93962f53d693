-- What was sent of an output of the past: there is one.
use Rattle.std.proofs.Common.{ℕ, ◌≤◌}
use Rattle.plain_machine.specs.Program.{Meaning}
use Rattle.plain_machine.specs.History.{log_of, sent_of, outputs}
use Rattle.plain_machine.specs.Agree.{SendsAfter}
use Rattle.recovery_world.specs.World.{Setting, Sent, World, inputs_fed}
use Rattle.recovery_world.specs.Events.{HasNumber}
use Rattle.system_parts.specs.Parts.{Parts}
use Rattle.system_parts.specs.SystemStanding.{IsSentOutput, StandsFor}
use Rattle.system_parts.proofs.OutputNumbers.{HasOutput, output_there}

pub there_sent : {P V : Type 0} (m : Meaning V) (s : Setting V) (w : World V) (y : Parts P V) → StandsFor m s w y
    → (t j : ℕ) → 1 ≤ j → j ≤ outputs t (sent_of w.past)
    → (o : Sent) × SendsAfter w.past o.emission o.after × HasNumber t j o
    × IsSentOutput (log_of w.past) y.logger.released y.sent o
there_sent m s w y st t j from_one few =
    go (output_there s.meaning (inputs_fed s w.fed) s.threads w.past t j st.sound.firm.legal from_one few)
  where
    go : HasOutput w.past t j
        → (o : Sent) × SendsAfter w.past o.emission o.after × HasNumber t j o
        × IsSentOutput (log_of w.past) y.logger.released y.sent o
    go (o, k, sends, a, b) =
        let here : Sent = record { emission = o; after = k } in (here, sends, (a, b), st.sent.output_sent here sends)
