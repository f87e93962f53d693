-- What a check of a schedule says and begins to write, told of the kind of the box.
use Rattle.std.proofs.Common.{◌≡◌, ◌⊎◌, List, subst, sym, inl, inr}
use Rattle.std.specs.Prelude.{Result}
use Rattle.plain_text.specs.declared.packet.Packet.{Packet}
use Rattle.plain_text.specs.declared.packet.Unit.{Unit as FractionUnit}
use Rattle.schedule_check.specs.declared.checking.Refutation.{Refutation}
use Rattle.schedule_commands.specs.declared.error.ScheduleError.{ScheduleError}
use Rattle.schedule_commands.specs.declared.run.ScheduleRun.{ScheduleRun}
use Rattle.schedule_commands.specs.Runs.{outcome_of}
use Rattle.schedule_commands.specs.Checking.{SaysCheck, IsFound}
use Rattle.box_conf.specs.declared.kind.BoxKind.{BoxKind}
use Rattle.box_conf.specs.Kinds.{meaning_of}

pub said_as : {A : Type 0} (k kind : BoxKind) (run : ScheduleRun) (unit : FractionUnit) (lent released : List Packet)
    (other : FractionUnit) (answer : Result A (ScheduleError Refutation)) → kind ≡ k → lent ≡ released
    → SaysCheck (outcome_of (meaning_of k).meaning run) unit lent other answer
    → SaysCheck (outcome_of (meaning_of kind).meaning run) unit released other answer
said_as k kind run unit lent released other answer is same said =
    subst (λ (x : BoxKind). SaysCheck (outcome_of (meaning_of x).meaning run) unit released other answer) (sym is)
    (subst (λ (ps : List Packet). SaysCheck (outcome_of (meaning_of k).meaning run) unit ps other answer) same said)

pub found_as : (Begun : List Packet → Type 0) (Nothing : Type 0) (k kind : BoxKind) (run : ScheduleRun)
    (unit : FractionUnit) (lent released : List Packet) (other : FractionUnit) → kind ≡ k → lent ≡ released
    → Nothing ⊎ (IsFound (outcome_of (meaning_of k).meaning run) unit lent other × Begun lent)
    → Nothing ⊎ (IsFound (outcome_of (meaning_of kind).meaning run) unit released other × Begun released)
found_as Begun Nothing k kind run unit lent released other is same begun =
    subst (λ (x : BoxKind). Nothing
    ⊎ (IsFound (outcome_of (meaning_of x).meaning run) unit released other × Begun released)) (sym is)
    (subst (λ (ps : List Packet). Nothing
    ⊎ (IsFound (outcome_of (meaning_of k).meaning run) unit ps other × Begun ps)) same begun)
