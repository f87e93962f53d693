-- How many mappings a host has, in all runs (RFC 6888, REQ-4).
use Rattle.std.specs.Prelude.{◌≡◌, ℕ, ◌+◌, ◌%◌, ◌≤◌, max, if◌then◌else◌, List, [], ◌∷◌, Some, None}
use Rattle.plain_text.specs.declared.packet.Packet.{Packet}
use Rattle.entry_order.specs.Stamps.{sum_below}
use Rattle.plain_machine.specs.declared.local.Local.{Local}
use Rattle.plain_machine.specs.History.{Step, value_after, IsHistory}
use Rattle.nat_tables.specs.declared.entries.Endpoint.{Endpoint}
use Rattle.nat_tables.specs.Hosts.{is_of_host, count_of}
use Rattle.nat_box.specs.declared.settings.StaticPort.{StaticPort}
use Rattle.nat_box.specs.declared.value.NatValue.{NatValue}
use Rattle.nat_box.specs.Places.{place_numbered, noted}
use Rattle.nat_box.specs.Statics.{inside_of, kept}
use Rattle.nat_box.specs.Settings.{Settings, AreSettings}
use Rattle.nat_box.specs.Nat.{touched, followed, local_at, forward_table, nat_meaning}
use Rattle.nat_box.specs.Sentences.{mappings_in}

-- the mappings of a host and a protocol, over all forward tables
abbrev pub mappings_of : Settings → (ℕ → NatValue) → ℕ → ℕ → ℕ
mappings_of s value protocol address =
    sum_below s.shards (λ table. count_of protocol address (mappings_in (value (2 + table))))

-- its static ports
abbrev pub statics_of : ℕ → ℕ → List StaticPort → ℕ
statics_of protocol address [] = 0
statics_of protocol address (p ∷ ps) =
    if is_of_host protocol address (inside_of p) then 1 + statics_of protocol address ps
    else statics_of protocol address ps

-- After each move of each run no host has more mappings of a protocol than it may have, or than it has static ports.
abbrev pub HostsKeepWithin : Type 0
HostsKeepWithin =
    (s : Settings) (threads : ℕ) (inputs : ℕ → List Packet) (steps : List (Step NatValue)) (most protocol address : ℕ)
    → AreSettings s → IsHistory (nat_meaning s) inputs threads steps → s.limit ≡ Some most
    → mappings_of s (value_after (nat_meaning s) steps) protocol address
    ≤ max most (statics_of protocol address (kept s.statics))

-- Without a limit each touch is that of the table of moves alone, and a mapping's table is that of its whole endpoint.

abbrev pub TouchesWithoutLimit : Type 0
TouchesWithoutLimit =
    (s : Settings) (v : ℕ) (x : NatValue) (l : Local) → s.limit ≡ None
    → (nat_meaning s).touch v x l
    ≡ (let r = touched (place_numbered l.at) x (noted l) in (followed s (noted l) r.0, local_at r.1))

abbrev pub TablesWithoutLimit : Type 0
TablesWithoutLimit =
    (s : Settings) (key : Endpoint) → s.limit ≡ None
    → forward_table s key ≡ 2 + (key.protocol + key.address + key.port) % s.shards
