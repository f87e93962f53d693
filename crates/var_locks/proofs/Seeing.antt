-- What a move lets its seat see of the variables.
use Rattle.std.proofs.Common.{◌≡◌, ℕ, ◌+◌, ◌≤◌, ◌⊎◌, inl, inr, List, refl, sym, ap, ◌∙◌, arith}
use Rattle.std.specs.Prelude.{slice_set}
use Rattle.entry_order.specs.declared.what.What.{What}
use Rattle.entry_order.specs.declared.what.What.TheVariants as what
use Rattle.access_log.specs.declared.entry.StampedEntry.{StampedEntry}
use Rattle.plain_machine.specs.declared.local.Local.{Local}
use Rattle.plain_machine.specs.declared.local.Move.TheVariants as move
use Rattle.plain_machine.specs.Program.{Meaning}
use Rattle.master_core.specs.declared.parts.VarPart.{VarPart}
use Rattle.master_core.specs.declared.step.Trace.{Trace}
use Rattle.master_core.specs.declared.step.Trace.TheVariants as trace
use Rattle.master_core.specs.Effects.{TouchesParts, ReadsParts}
use Rattle.var_locks.specs.declared.view.Note.{Note}
use Rattle.var_locks.specs.Notes.{IsOwn, IsOwnBy, IsOwnEntry, IsOnVariable}
use Rattle.var_locks.specs.Views.{seen_after, sees_what}

own_entry_unseen : {V : Type 0} (m : Meaning V) (t : ℕ) (n : Note V) (e : StampedEntry) (w : What) (seen : List ℕ)
    → IsOwnEntry m t n e w → sees_what seen w ≡ seen
own_entry_unseen m t n e (what.Access v s) seen is = absurd is
own_entry_unseen m t n e (what.Read v s) seen is = absurd is
own_entry_unseen m t n e (what.Clock a) seen is = refl
own_entry_unseen m t n e (what.Draw a) seen is = refl

own_by_unseen : {V : Type 0} (m : Meaning V) (t : ℕ) (n : Note V) (tr : Trace) (seen : List ℕ) → IsOwnBy m t n tr
    → seen_after seen tr ≡ seen
own_by_unseen m t n (trace.Took k) seen is = refl
own_by_unseen m t n (trace.Did e) seen is = own_entry_unseen m t n e e.what seen is
own_by_unseen m t n (trace.Emitted k) seen is = refl
own_by_unseen m t n (trace.Ended k) seen is = refl

-- a move on no variable lets it see nothing
pub own_unseen : {V : Type 0} (m : Meaning V) (t : ℕ) (n : Note V) (seen : List ℕ) → IsOwn m t n
    → seen_after seen n.trace ≡ seen
own_unseen m t n seen is = own_by_unseen m t n n.trace seen is

-- a move on a variable lets it see as many touches as it leaves, which are no fewer than it found
pub on_seen : {V : Type 0} (m : Meaning V) (t v : ℕ) (n : Note V) (x y : VarPart V) (place : Local) (e : StampedEntry)
    (seen : List ℕ) → IsOnVariable m t v n x y place e
    → (seen_after seen n.trace ≡ slice_set seen v y.places) × (x.places ≤ y.places)
on_seen {V} m t v n x y place e seen is = go is.does
  where
    go : ((m.next place ≡ move.Access v) × TouchesParts m t v place n.before x e n.after y)
        ⊎ ((m.next place ≡ move.Read v) × ReadsParts m t v place n.before x e n.after y)
        → (seen_after seen n.trace ≡ slice_set seen v y.places) × (x.places ≤ y.places)
    go (inl (next, does)) =
        let k : y.places ≡ x.places + 1 = ap (λ (z : VarPart V). z.places) does.variable in (
          ap (seen_after seen) is.trace
              ∙ (ap (λ (z : StampedEntry). sees_what seen z.what) does.logs.entry ∙ ap (slice_set seen v) (sym k)),
          omega (arith, k),
        )
    go (inr (next, does)) =
        let k : y.places ≡ x.places = ap (λ (z : VarPart V). z.places) does.variable in (
          ap (seen_after seen) is.trace
              ∙ (ap (λ (z : StampedEntry). sees_what seen z.what) does.logs.entry ∙ ap (slice_set seen v) (sym k)),
          omega (arith, k),
        )
