-- A move keeps the counts of its thread within their bounds.
use Rattle.std.proofs.Common.{◌≡◌, ℕ, zero, suc, ◌+◌, ◌*◌, ◌<◌, ◌≤◌, ◌^◌, ◌⊎◌, inl, inr, List, suc-mul, sym, ap, subst}
use Rattle.std.proofs.Common.{Some, None, arith}
use Rattle.entry_order.specs.declared.what.What.{What}
use Rattle.entry_order.specs.declared.what.What.TheVariants as what
use Rattle.entry_order.specs.Stamps.{sum_below}
use Rattle.access_log.specs.declared.entry.StampedEntry.{StampedEntry}
use Rattle.plain_machine.specs.declared.local.Local.{Local}
use Rattle.plain_machine.specs.declared.local.Move.TheVariants as move
use Rattle.plain_machine.specs.Program.{Meaning}
use Rattle.master_core.specs.declared.parts.VarPart.{VarPart}
use Rattle.master_core.specs.declared.parts.ThreadPart.{ThreadPart}
use Rattle.master_core.specs.declared.step.Trace.{Trace}
use Rattle.master_core.specs.declared.step.Trace.TheVariants as trace
use Rattle.master_core.specs.Mastered.{in_hand_count, moves_made}
use Rattle.master_core.specs.Effects.{after_take, after_entry, after_emit, after_end, TouchesParts, ReadsParts}
use Rattle.var_locks.specs.declared.view.Note.{Note}
use Rattle.var_locks.specs.Notes.{IsOwn, IsOwnBy, IsOwnEntry, IsOnVariable}
use Rattle.var_locks.specs.Seats.{IsCounted}

-- what a move keeps of its thread's part
pub record IsWithinBounds (before after : ThreadPart) : Type 0 where
  pub held : in_hand_count after.hand ≤ after.counts.taken
  pub made : moves_made after ≤ 2 ^ 56
  pub entries : before.counts.entries ≤ after.counts.entries

module _ (part : ThreadPart) (held : in_hand_count part.hand ≤ part.counts.taken)
    (room : moves_made part < 2 ^ 56) where
  took : (place : Local) → part.hand ≡ None → IsWithinBounds part (after_take part place)
  took place none =
      let k : in_hand_count part.hand ≡ 0 = ap in_hand_count none in
      record { held = omega arith; made = omega (arith, room, k, held); entries = omega arith }

  pub logged : (place next : Local) (stamp : List ℕ) → part.hand ≡ Some place
      → IsWithinBounds part (after_entry part next stamp)
  logged place next stamp some =
      let k : in_hand_count part.hand ≡ 1 = ap in_hand_count some in
      record { held = omega (arith, k, held); made = omega (arith, room, k, held); entries = omega arith }

  emitted : (place next : Local) → part.hand ≡ Some place → IsWithinBounds part (after_emit part next)
  emitted place next some =
      let k : in_hand_count part.hand ≡ 1 = ap in_hand_count some in
      record { held = omega (arith, k, held); made = omega (arith, room, k, held); entries = omega arith }

  ended : (place : Local) → part.hand ≡ Some place → IsWithinBounds part (after_end part)
  ended place some =
      let k : in_hand_count part.hand ≡ 1 = ap in_hand_count some in
      record { held = omega arith; made = omega (arith, room, k, held); entries = omega arith }

module _ {V : Type 0} (m : Meaning V) (t : ℕ) (n : Note V) (held : in_hand_count n.before.hand ≤ n.before.counts.taken)
    (room : moves_made n.before < 2 ^ 56) where
  entry_bounds : (e : StampedEntry) (w : What) → IsOwnEntry m t n e w → IsWithinBounds n.before n.after
  entry_bounds e (what.Access v s) is = absurd is
  entry_bounds e (what.Read v s) is = absurd is
  entry_bounds e (what.Clock a) (place, next, is) = subst (λ (x : ThreadPart). IsWithinBounds n.before x)
      (sym is.hears.thread) (logged n.before held room place (m.told a place) e.stamp is.hand)
  entry_bounds e (what.Draw a) (place, next, is) = subst (λ (x : ThreadPart). IsWithinBounds n.before x)
      (sym is.hears.thread) (logged n.before held room place (m.told a place) e.stamp is.hand)

  bounds_by : (tr : Trace) → IsOwnBy m t n tr → IsWithinBounds n.before n.after
  bounds_by (trace.Took k) (packet, is) = subst (λ (x : ThreadPart). IsWithinBounds n.before x) (sym is.thread)
      (took n.before held room (m.begin packet) is.hand)
  bounds_by (trace.Did e) is = entry_bounds e e.what is
  bounds_by (trace.Emitted k) (place, is) = subst (λ (x : ThreadPart). IsWithinBounds n.before x) (sym is.thread)
      (emitted n.before held room place (m.emitted place) is.hand)
  bounds_by (trace.Ended k) (place, is) =
      subst (λ (x : ThreadPart). IsWithinBounds n.before x) (sym is.thread) (ended n.before held room place is.hand)

  pub own_bounds : IsOwn m t n → IsWithinBounds n.before n.after
  own_bounds is = bounds_by n.trace is

  pub on_bounds :
      (v : ℕ) (x y : VarPart V) (place : Local) (e : StampedEntry) → IsOnVariable m t v n x y place e → IsWithinBounds
      n.before n.after × (n.after.counts.entries ≡ n.before.counts.entries + 1) × (y.places ≤ x.places + 1)
  on_bounds v x y place e is = go is.does
    where
      go : ((m.next place ≡ move.Access v) × TouchesParts m t v place n.before x e n.after y)
          ⊎ ((m.next place ≡ move.Read v) × ReadsParts m t v place n.before x e n.after y)
          → IsWithinBounds n.before n.after
          × (n.after.counts.entries ≡ n.before.counts.entries + 1)
          × (y.places ≤ x.places + 1)
      go (inl (next, does)) = (
        subst (λ (z : ThreadPart). IsWithinBounds n.before z) (sym does.logs.thread)
            (logged n.before held room place (m.touch v x.value place).1 e.stamp is.hand),
        ap (λ (z : ThreadPart). z.counts.entries) does.logs.thread,
        (let k : y.places ≡ x.places + 1 = ap (λ (z : VarPart V). z.places) does.variable in omega (arith, k)),
      )
      go (inr (next, does)) = (
        subst (λ (z : ThreadPart). IsWithinBounds n.before z) (sym does.logs.thread)
            (logged n.before held room place (m.look v x.value place) e.stamp is.hand),
        ap (λ (z : ThreadPart). z.counts.entries) does.logs.thread,
        (let k : y.places ≡ x.places = ap (λ (z : VarPart V). z.places) does.variable in omega (arith, k)),
      )

module _ {V : Type 0} (m : Meaning V) (t : ℕ) (n : Note V) (counted : IsCounted n.before)
    (room : moves_made n.before < 2 ^ 56) where
  pub own_counted : IsOwn m t n → IsCounted n.after
  own_counted is = let k = own_bounds m t n counted.held room is in record { held = k.held; made = k.made }

  pub on_counted : (v : ℕ) (x y : VarPart V) (place : Local) (e : StampedEntry) → IsOnVariable m t v n x y place e
      → IsCounted n.after
  on_counted v x y place e is =
      let k = (on_bounds m t n counted.held room v x y place e is).0 in record { held = k.held; made = k.made }

-- a sum of so many terms, none of which is above this one
pub sum_few : (n k : ℕ) (f : ℕ → ℕ) → ((u : ℕ) → u < n → f u ≤ k) → sum_below n f ≤ n * k
sum_few zero k f few = omega arith
sum_few (suc n) k f few =
    let q : sum_below n f ≤ n * k = sum_few n k f (λ u low. few u (omega arith)) in
    let one : f n ≤ k = few n (omega arith) in
    let total : ℕ = sum_below n f in
    let p : ℕ = n * k in
    let is : suc n * k ≡ n * k + k = suc-mul n k in
    subst (λ (z : ℕ). sum_below n f + f n ≤ z) (sym is) (omega (arith, q, one))
