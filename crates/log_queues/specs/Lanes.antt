-- What a lane holds, and what its ends put and took.
use Rattle.std.specs.Prelude.{◌≡◌, ℕ, Bool, true, List, ◌++◌, length}
use mathlib.Core.Option.{some}
use lib.ListN.{get_elem?}
use Rattle.atomic_table.specs.Seated.{TableId}
use Rattle.log_queues.specs.declared.view.End.{End}

abbrev pub end : {T : Type 0} → Bool → Bool → List T → List T → End T
end a b put taken = record { puts = a; takes = b; put = put; taken = taken }

-- an end that may put knows all that was put, and is the one that may; the same of an end that may take
abbrev pub Fits : {T : Type 0} → ℕ → ℕ → List T → List T → ℕ → End T → Type 0
Fits putter taker put taken port v =
    (v.puts ≡ true → (port ≡ putter) × (v.put ≡ put)) × (v.takes ≡ true → (port ≡ taker) × (v.taken ≡ taken))

-- these items are the last of all that was put
abbrev pub AreLastOf : {T : Type 0} → List T → List T → Type 0
AreLastOf {T} items put = (taken : List T) × (put ≡ taken ++ items)

-- at one moment the lane held as many items as it has room for, the last of those put
abbrev pub WasFull : {T : Type 0} → ℕ → List T → Type 0
WasFull {T} room put = (items : List T) × (length items ≡ room) × AreLastOf items put

-- What was put is what was taken and then what the lane holds.
abbrev pub Relayed : {T : Type 0} → List T → List (End T) → Type 0
Relayed {T} items views = (putter : ℕ) × (taker : ℕ) × (put : List T) × (taken : List T) × (put ≡ taken ++ items)
    × ((port : ℕ) (v : End T) → get_elem? views port ≡ some v → Fits putter taker put taken port v)

-- what is seen of an end: its lane, and what it put, or took
pub record Ended (T : Type 0) : Type 0 where
  pub lane : TableId
  pub items : List T
