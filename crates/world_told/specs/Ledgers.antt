-- The ledger of a world that has a record of its calls.
use Rattle.std.specs.Prelude.{◌≡◌, ℕ, true, List}
use Rattle.world_io.specs.World.{Ledger}
use Rattle.world_told.specs.Events.{Event, WithCalls}
use Rattle.world_told.specs.Orderly.{opened_in, ended_in, created_in, are_orderly}

-- The record tells which files were opened, read to their end and created, and whether the calls are orderly. All else
-- is as the world below says.
abbrev pub told_ledger : {W : Type 0} → (W → Ledger) → WithCalls W → Ledger
told_ledger ledger t = record (ledger t.world) {
  opened = λ k. opened_in k t.calls;
  ended = λ k. ended_in k t.calls;
  created = λ k. created_in k t.calls;
  orderly = are_orderly t.calls;
}

-- what these calls opened, read to its end and created was so by this ledger too
pub record WereMade (calls : List Event) (ledger : Ledger) : Type 0 where
  pub opened : (file : ℕ) → opened_in file calls ≡ true → ledger.opened file ≡ true
  pub ended : (file : ℕ) → ended_in file calls ≡ true → ledger.ended file ≡ true
  pub created : (file : ℕ) → created_in file calls ≡ true → ledger.created file ≡ true
