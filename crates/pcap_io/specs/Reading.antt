use Rattle.std.specs.Prelude.{ℕ, Bool}
use Rattle.plain_text.specs.declared.packet.Unit.{Unit as TimeUnit}
use Rattle.pcap_io.specs.declared.order.Order.{Order}

-- a reader: what the header told, the bytes used and the packets given, and whether it is over
pub record Reading : Type 0 where
  pub unit : TimeUnit
  pub order : Order
  pub offset : ℕ
  pub count : ℕ
  pub over : Bool
