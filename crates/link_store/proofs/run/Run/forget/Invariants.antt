use Rattle.std.proofs.Common.{◌≡◌, ◌+◌, ◌≤◌, ◌^◌, length}
use Rattle.link_store.specs.Rows.{forms_of}
use Rattle.link_store.specs.declared.address.Address.{Address}
use Rattle.link_store.specs.Beside.{IsBeside}
use Rattle.link_store.specs.Kept.{AreTold}
use Rattle.link_store.specs.Links.{frame_at, IsUpTo}
use Rattle.link_store.specs.Runs.{in_turn}
use Rattle.link_store.proofs.run.Run.forget.Given as goal

abbrev pub invariant-loop-self : goal.invariant-loop-self
invariant-loop-self l = record {
  beside : IsBeside l.self-inside.first l.last;
  fits : l.self-inside.first.number + length (forms_of l.self-inside.frames) ≤ 2 ^ 64;
  told : AreTold l.self-inside.told (forms_of l.self-inside.frames);
  others : (a : Address) → (IsUpTo l.last a → ⊥)
      → frame_at (in_turn l.self-inside.first (forms_of l.self-inside.frames)) a
      ≡ frame_at (in_turn l.initial.self-inside.first (forms_of l.initial.self-inside.frames)) a;
}

abbrev pub decreases-loop-self : goal.decreases-loop-self
decreases-loop-self l = length (forms_of l.self-inside.frames)
