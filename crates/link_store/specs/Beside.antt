-- Addresses in one queue.
use Rattle.std.specs.Prelude.{◌≡◌}
use Rattle.link_store.specs.declared.address.Address.{Address}

-- the two are of the same epoch, kind and thread
pub record IsBeside (a b : Address) : Type 0 where
  pub epoch : a.epoch ≡ b.epoch
  pub kind : a.kind ≡ b.kind
  pub thread : a.thread ≡ b.thread
