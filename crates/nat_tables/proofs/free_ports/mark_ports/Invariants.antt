use Rattle.std.proofs.Common.{◌≡◌, ℕ, ◌^◌, ◌<◌, false, true, if◌then◌else◌, drop, length, slice_index_or}
use Rattle.nat_tables.specs.Ports.{has_port}
use Rattle.nat_tables.specs.Keys.{port_key}
use Rattle.nat_tables.proofs.free_ports.mark_ports.Given as goal

-- a port is marked, or stands in what is left, where it was marked or stands in the list
abbrev pub invariant-loop-key : goal.invariant-loop-key
invariant-loop-key l = record {
  long : length l.marks ≡ 2 ^ 16;
  each : (port : ℕ) → port < 2 ^ 16
      → (if has_port (port_key l.protocol port) (drop l.key-index l.list) then true
      else slice_index_or l.marks port false)
      ≡ (if has_port (port_key l.protocol port) l.list then true
      else slice_index_or l.initial.marks port false);
}
