-- The texts that show the pool and the tables to an operator.
use Rattle.std.specs.Prelude.{ℕ, List, [], ◌∷◌, ◌++◌, codes, decimal}
use Rattle.flow_text.specs.Texts.{protocol_text, endpoint_text}
use Rattle.nat_tables.specs.declared.entries.Endpoint.{Endpoint}
use Rattle.nat_tables.specs.declared.entries.PortKey.{PortKey}
use Rattle.nat_tables.specs.declared.slot.Slot.{Slot}
use Rattle.nat_tables.specs.Ports.{PoolPorts, free_count}
use Rattle.nat_tables.specs.Forwards.{Forwards}
use Rattle.nat_tables.specs.Reverses.{Reverses}

-- how many ports are free
abbrev pub pool_text : PoolPorts → List ℕ
pool_text pool = codes "tcp " ++ decimal (free_count 6 pool) ++ codes " udp " ++ decimal (free_count 17 pool)

abbrev pub mapping_text : Endpoint × Slot → List ℕ
mapping_text (key, slot) =
    protocol_text key.protocol ++ codes " " ++ endpoint_text key.address key.port ++ codes " " ++ decimal slot.port
    ++ codes " " ++ decimal slot.last

-- mappings that stand behind others
abbrev pub further_mappings : Forwards → List ℕ
further_mappings [] = []
further_mappings (e ∷ es) = codes "; " ++ mapping_text e ++ further_mappings es

-- the mappings in their order, or a dash where there is none
abbrev pub mappings_text : Forwards → List ℕ
mappings_text [] = codes "-"
mappings_text (e ∷ es) = mapping_text e ++ further_mappings es

abbrev pub bound_text : PortKey × Endpoint → List ℕ
bound_text (port, key) =
    protocol_text port.protocol ++ codes " " ++ decimal port.port ++ codes " " ++ endpoint_text key.address key.port

abbrev pub further_bound : Reverses → List ℕ
further_bound [] = []
further_bound (b ∷ bs) = codes "; " ++ bound_text b ++ further_bound bs

abbrev pub all_bound_text : Reverses → List ℕ
all_bound_text [] = codes "-"
all_bound_text (b ∷ bs) = bound_text b ++ further_bound bs
