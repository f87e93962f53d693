-- What the guide says at what a seat has in hand.
use Rattle.std.proofs.Common.{◌≡◌, ℕ, ◌+◌, ◌/◌, Bool, List, refl, subst, inl, inr, arith}
use Rattle.std.specs.Prelude.{◌↔◌, IfSome, IfNone}
use Rattle.access_log.specs.declared.entry.Turn.{Turn}
use Rattle.access_log.specs.declared.entry.Turn.TheVariants as turn
use Rattle.access_log.specs.Held.{Lane}
use Rattle.master_core.specs.declared.parts.VarPart.{VarPart}
use Rattle.replay_guide.specs.Turns.{WaitsFor, IsFollowed, IsFree}
use Rattle.var_locks.specs.Notes.{LetsPass}
use Rattle.var_locks.specs.TouchedParts.{entry_waited}

pub half : (x word : ℕ) → x + x ≡ word → word / 2 ≡ x
half x word is = omega (arith, is)

module _ {V : Type 0} (guide followed : List Lane) (same : guide ≡ followed) (t n v : ℕ) (read : Bool) (places : ℕ)
    (readers : List ℕ) (x : VarPart V) (places_are : places ≡ x.places) (readers_are : readers ≡ x.readers) where
  pub here : (u k : ℕ) → WaitsFor guide t n v read places readers u k
      → WaitsFor followed t n v read x.places x.readers u k
  here u k waits = subst (λ (l : List Lane). WaitsFor l t n v read x.places x.readers u k) same
      (subst (λ (i : ℕ). WaitsFor guide t n v read i x.readers u k) places_are
      (subst (λ (l : List ℕ). WaitsFor guide t n v read places l u k) readers_are waits))

  pub passes : LetsPass guide t n v read places readers → LetsPass followed t n v read x.places x.readers
  passes pass = subst (λ (l : List Lane). LetsPass l t n v read x.places x.readers) same
      (subst (λ (i : ℕ). LetsPass guide t n v read i x.readers) places_are
      (subst (λ (l : List ℕ). LetsPass guide t n v read places l) readers_are pass))

-- the entry for which a turn says to wait is the one for which the guide does
module _ (guide : List Lane) (t n v : ℕ) (read : Bool) (places : ℕ) (readers : List ℕ) where
  pub entry_waits : (r : Turn) → ((u k : ℕ) → (r ≡ turn.Wait u k) ↔ WaitsFor guide t n v read places readers u k)
      → IfSome (entry_waited r) (λ e. WaitsFor guide t n v read places readers e.0 e.1)
  entry_waits (turn.Wait u k) told = (told u k).0 refl
  entry_waits turn.Follow told = tt
  entry_waits turn.Free told = tt

  pub none_waits : (r : Turn) → (r ≡ turn.Follow) ↔ IsFollowed guide t n v read places readers
      → (r ≡ turn.Free) ↔ IsFree guide t n v read places readers
      → IfNone (entry_waited r) (LetsPass guide t n v read places readers)
  none_waits (turn.Wait u k) follow free = tt
  none_waits turn.Follow follow free = inl (follow.0 refl)
  none_waits turn.Free follow free = inr (free.0 refl)
