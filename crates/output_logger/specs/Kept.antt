-- How the waiting outputs are kept: by arrival, and in an index of the log entries that they wait for.
use Rattle.std.specs.Prelude.{◌≡◌, ◌≢◌, ℕ, ◌-◌, ◌^◌, ◌<◌, ◌⊎◌, ◌↔◌, true, cond, List, [], ◌∷◌, ◌++◌, Option, Some}
use Rattle.std.specs.Prelude.{length, slice_index}
use Rattle.std.specs.declared.cmp.Ordering.{Ordering}
use Rattle.std.specs.Ordering.{nat_cmp, ordering_then}
use Rattle.std.specs.List.{list_any}
use Rattle.std.specs.List.Sorted.{IsStrictlySortedBy}
use Rattle.std.specs.Map.{lookup, keys_of}
use Rattle.std.specs.BTreeMap.{is_at}
use Rattle.thread_clock.specs.Clock.{AtMost}
use Rattle.access_log.specs.declared.entry.Output.{Output}
use Rattle.access_log.specs.Held.{Lane, lane, IsFrontier}
use Rattle.dup_filter.specs.Numbers.{Numbers, numbers, WasMarked, IsAwaited, Marks}
use Rattle.output_logger.specs.Logger.{IsDue, IsCalled, ReleasesOnce}

-- the output with this arrival number
abbrev pub arrived : List (ℕ × Output) → ℕ → Option Output
arrived outputs a = lookup (is_at (nat_cmp a)) outputs

-- one of them is output n of thread t
abbrev pub IsWaiting : List (ℕ × Output) → ℕ → ℕ → Type 0
IsWaiting outputs t n = (a : ℕ) × (o : Output) × (arrived outputs a ≡ Some o) × IsCalled t n o

-- keys of the index in order: by thread, then by number, then by arrival
abbrev pub key_cmp : ℕ × ℕ × ℕ → ℕ × ℕ × ℕ → Ordering
key_cmp x y = ordering_then (ordering_then (nat_cmp x.0 y.0) (nat_cmp x.1 y.1)) (nat_cmp x.2 y.2)

-- the index has output a under entry n of thread u
abbrev pub IsIndexed : List (ℕ × ℕ × ℕ) → ℕ → ℕ → ℕ → Type 0
IsIndexed index u n a = list_any (is_at (key_cmp (u, n, a))) index ≡ true

-- An output that waits has this arrival number, and this number of the thread is in its stamp.
pub record NamesEntry (outputs : List (ℕ × Output)) (u n a : ℕ) : Type 0 where
  pub few : u < 16
  pub output : Output
  pub there : arrived outputs a ≡ Some output
  pub named : slice_index output.stamp u ≡ n

-- The index has nothing but waiting outputs, each under entries that its stamp names: at most one of each thread.
abbrev pub IndexesOnly : List (ℕ × ℕ × ℕ) → List (ℕ × Output) → Type 0
IndexesOnly index outputs = (u n a : ℕ) → IsIndexed index u n a → NamesEntry outputs u n a

-- the arrival number is in the list
abbrev pub IsReady : List ℕ → ℕ → Type 0
IsReady ready a = list_any (is_at (nat_cmp a)) ready ≡ true

-- an output with this arrival number is there, and its stamp has no component above these
abbrev pub IsDueBy : List (ℕ × Output) → List ℕ → ℕ → Type 0
IsDueBy outputs frontiers a = (o : Output) × (arrived outputs a ≡ Some o) × AtMost o.stamp frontiers

-- no two of the outputs have one thread and one number
abbrev pub HaveNames : List (ℕ × Output) → Type 0
HaveNames outputs =
    (a b : ℕ) (o p : Output) → arrived outputs a ≡ Some o → arrived outputs b ≡ Some p → o.thread ≡ p.thread
    → o.number ≡ p.number → a ≡ b

-- What is true of the parts of an output logger: room is kept for the numbers of just the waiting outputs.
pub record AreKept (count : ℕ) (held : List Lane) (released : List Numbers) (outputs : List (ℕ × Output))
    (index : List (ℕ × ℕ × ℕ)) : Type 0 where
  pub counted : count ≡ length held
  pub threads : length released ≡ length held
  pub sorted : IsStrictlySortedBy nat_cmp (keys_of outputs)
  pub small : (a : ℕ) (o : Output) → arrived outputs a ≡ Some o → a < 2 ^ 64 - 1
  pub indexed : (a : ℕ) (o : Output) (u f : ℕ) → arrived outputs a ≡ Some o → IsFrontier (lane held u) f
      → f < slice_index o.stamp u → IsIndexed index u (slice_index o.stamp u) a
  pub only : IndexesOnly index outputs
  pub awaited : (t n : ℕ) → IsAwaited released t n ↔ IsWaiting outputs t n
  pub apart : HaveNames outputs
  pub none_due : (a : ℕ) (o : Output) → arrived outputs a ≡ Some o → IsDue held o → ⊥

-- the outputs by arrival, with one more that arrived last
pub record Arrives (old new : List (ℕ × Output)) (a : ℕ) (o : Output) : Type 0 where
  pub last : (b : ℕ) (p : Output) → arrived old b ≡ Some p → b < a
  pub small : a < 2 ^ 64 - 1
  pub added : new ≡ old ++ (a, o) ∷ []
  pub found : (q : ℕ) → arrived new q ≡ cond (is_at (nat_cmp a) q) (Some o) (arrived old q)
  pub sorted : IsStrictlySortedBy nat_cmp (keys_of new)

-- some go, by their arrival numbers, and the others stay, each in order
abbrev pub PartsBy : (ℕ → Type 0) → List (ℕ × Output) → List Output → List (ℕ × Output) → Type 0
PartsBy Q [] go stay = (go ≡ []) × (stay ≡ [])
PartsBy Q (e ∷ outputs) go stay =
    (Q e.0 × (rest : List Output) × (go ≡ e.1 ∷ rest) × PartsBy Q outputs rest stay)
    ⊎ ((Q e.0 → ⊥) × (rest : List (ℕ × Output)) × (stay ≡ e ∷ rest) × PartsBy Q outputs go rest)

-- It is noted that this output is released.
pub record IsNoted (before after : List Numbers) (o : Output) : Type 0 where
  pub fresh : WasMarked before o.thread o.number → ⊥
  pub marks : Marks (numbers before o.thread) (numbers after o.thread) o.number
  pub others : (t : ℕ) → t ≢ o.thread → numbers after t ≡ numbers before t

-- These went, by their arrival numbers, and the others stay.
pub record Gone (old new : List (ℕ × Output)) (before after : List Numbers) (ready : List ℕ)
    (go : List Output) : Type 0 where
  pub parts : PartsBy (λ a. IsReady ready a) old go new
  pub stays : (a : ℕ) (o : Output) → arrived new a ≡ Some o → (arrived old a ≡ Some o) × (IsReady ready a → ⊥)
  pub kept : (a : ℕ) (o : Output) → arrived old a ≡ Some o → (IsReady ready a → ⊥) → arrived new a ≡ Some o
  pub sorted : IsStrictlySortedBy nat_cmp (keys_of new)
  pub once : ReleasesOnce before after go
  pub awaited : (t n : ℕ) → IsAwaited after t n ↔ IsWaiting new t n
  pub threads : length after ≡ length before
