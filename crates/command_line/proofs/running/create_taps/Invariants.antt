use Rattle.std.proofs.Common.{◌≡◌, length}
use Rattle.release_taps.specs.Seats.{AllFresh}
use Rattle.world_told.specs.Sent.{name_of, sent_to}
use Rattle.command_line.specs.Running.{AreNamed}
use Rattle.command_line.proofs.running.create_taps.Given as goal

abbrev pub invariant-loop-pair : goal.invariant-loop-pair
invariant-loop-pair g l = record {
  count : length l.taps.items ≡ l.pair;
  named : AreNamed (λ t. name_of t.file t.world.calls) l.words l.taps.items;
  fresh : AllFresh (λ t. (t.faults ≡ 0) × (t.lacks ≡ 0)) (λ t. sent_to t.file t.world.calls) (λ t. t.faults)
      (λ t. t.lacks) l.taps.items;
}
