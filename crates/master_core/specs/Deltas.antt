-- What changed in a master since an earlier moment of it, and what becomes of the earlier one by that.
use Rattle.std.specs.Prelude.{◌≡◌, ◌≢◌, ℕ, ◌<◌, ◌≤◌, ◌↔◌, List, [], ◌∷◌, length, cond, nat_eq, slice_index}
use Rattle.std.specs.Prelude.{slice_index_or, unwrap_or, Option, Some, None, IsSome}
use Rattle.entry_order.specs.Log.{places, IsLog}
use Rattle.plain_machine.specs.Program.{Meaning}
use Rattle.plain_machine.specs.History.{Step, log_of, value_after}
use Rattle.plain_machine.specs.Agree.{IsEarlier}
use Rattle.master_core.specs.declared.parts.VarPart.{VarPart}
use Rattle.master_core.specs.declared.parts.ThreadPart.{ThreadPart}
use Rattle.master_core.specs.Mastered.{Mastered}
use Rattle.master_core.specs.Stamped.{IsTouchStamp, IsReadersStamp}
use Rattle.master_core.specs.MasterStanding.{IsThread, Stands}

-- A delta has a part for each variable and each thread, as a master has. Of a variable that was not touched in between,
-- the value is left out.

abbrev pub changed_part : {V : Type 0} → VarPart V → VarPart V → VarPart (Option V)
changed_part base now = record {
  value = cond (nat_eq base.places now.places) None (Some now.value);
  places = now.places;
  stamp = now.stamp;
  readers = now.readers;
}

abbrev pub changed_parts : {V : Type 0} → List (VarPart V) → List (VarPart V) → List (VarPart (Option V))
changed_parts [] now = []
changed_parts (b ∷ base) [] = []
changed_parts (b ∷ base) (x ∷ now) = changed_part b x ∷ changed_parts base now

-- what changed from the first master to the second
abbrev pub delta_of : {V : Type 0} → Mastered V → Mastered V → Mastered (Option V)
delta_of base now = record { vars = changed_parts base.vars now.vars; threads = now.threads }

-- The master after a delta: where a value was left out, it keeps its own.

abbrev pub applied_part : {V : Type 0} → VarPart V → VarPart (Option V) → VarPart V
applied_part part change = record {
  value = unwrap_or change.value part.value;
  places = change.places;
  stamp = change.stamp;
  readers = change.readers;
}

abbrev pub applied_parts : {V : Type 0} → List (VarPart V) → List (VarPart (Option V)) → List (VarPart V)
applied_parts [] changes = []
applied_parts (x ∷ parts) [] = []
applied_parts (x ∷ parts) (c ∷ changes) = applied_part x c ∷ applied_parts parts changes

abbrev pub applied : {V : Type 0} → Mastered V → Mastered (Option V) → Mastered V
applied p d = record { vars = applied_parts p.vars d.vars; threads = d.threads }

-- it has exactly the variables whose places differ in the two masters
abbrev pub HasTouched : {V : Type 0} → Mastered V → Mastered V → Mastered (Option V) → Type 0
HasTouched {V} base now d =
    (v : ℕ) (x : VarPart (Option V)) (b y : VarPart V) → v < length now.vars
    → IsSome (slice_index_or d.vars v x).value
    ↔ ((slice_index_or base.vars v b).places ≢ (slice_index_or now.vars v y).places)

-- What a delta has of a variable, from one moment of a run to another: its value where it was touched between them, and
-- else none; how often it was touched until the other, with the stamps that it has then.
pub record LeadsVariable {V : Type 0} (m : Meaning V) (earlier later : List (Step V)) (v : ℕ)
    (part : VarPart (Option V)) : Type 0 where
  pub touched : places v (log_of earlier) ≢ places v (log_of later) → part.value ≡ Some (value_after m later v)
  pub kept : places v (log_of earlier) ≡ places v (log_of later) → part.value ≡ None
  pub places_are : part.places ≡ places v (log_of later)
  pub last : IsTouchStamp (log_of later) v (λ u. slice_index part.stamp u)
  pub looked : IsReadersStamp (log_of later) v (λ u. slice_index part.readers u)

-- The delta leads from an earlier moment of a run to a later one.
pub record Leads {V : Type 0} (m : Meaning V) (threads : ℕ) (earlier later : List (Step V))
    (d : Mastered (Option V)) : Type 0 where
  pub log : IsLog (log_of later)
  pub goes_on : IsEarlier earlier later
  pub vars_are : length d.vars ≡ m.vars
  pub var : (v : ℕ) (x : VarPart (Option V)) → v < m.vars → LeadsVariable m earlier later v (slice_index_or d.vars v x)
  pub threads_are : length d.threads ≡ threads
  pub thread : (t : ℕ) (x : ThreadPart) → t < threads → IsThread later t (slice_index_or d.threads t x)

-- A delta of two moments of a run leads from the one to the other.
abbrev pub LeadsOn : {V : Type 0} → Meaning V → Mastered V → Mastered V → Mastered (Option V) → Type 0
LeadsOn {V} m base now d =
    (threads : ℕ) (earlier later : List (Step V)) → Stands m threads earlier base → Stands m threads later now
    → IsEarlier earlier later → Leads m threads earlier later d

-- A master that stands for the one moment stands for the other after the delta.
abbrev pub StandsAfter : {V : Type 0} → Mastered V → Mastered (Option V) → Mastered V → Type 0
StandsAfter {V} p d new =
    (m : Meaning V) (threads : ℕ) (earlier later : List (Step V)) → Stands m threads earlier p
    → Leads m threads earlier later d → Stands m threads later new

-- Of each of these threads its number of entries, and 0 in the place of any other.
pub record HasCounts (threads : List ThreadPart) (counts : List ℕ) : Type 0 where
  pub each : (t : ℕ) (d : ThreadPart) → t < length threads
      → slice_index counts t ≡ (slice_index_or threads t d).counts.entries
  pub none : (t : ℕ) → length threads ≤ t → slice_index counts t ≡ 0
