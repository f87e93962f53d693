-- A snapshot under way, kept as what changed since the stored one.
use Rattle.std.proofs.Common.{◌≡◌, ◌≢◌, ℕ, List, [], length, refl, sym, ◌∙◌, subst, inl, inr, ◌⊎◌, arith, cond, Option}
use Rattle.std.proofs.Common.{Some, None, unwrap_or}
use Rattle.std.specs.Prelude.{slice_index_or, nat_eq}
use Rattle.entry_order.proofs.Order.{is_or}
use Rattle.plain_machine.specs.Program.{Meaning}
use Rattle.plain_machine.proofs.Histories.{is_eq, not_eq}
use Rattle.master_core.specs.FromBoxProgram.{FitsProgram}
use Rattle.master_core.specs.declared.parts.VarPart.{VarPart}
use Rattle.master_core.specs.Mastered.{Mastered, value_of}
use Rattle.master_core.specs.Deltas.{changed_part, changed_parts, delta_of, applied_part, applied, Leads}
use Rattle.master_core.proofs.DeltaLemmas.{length-changed, at-changed, length-applied, at-applied, delta_leads}
use Rattle.master_core.proofs.DeltaLemmas.{stands_after}
use Rattle.snapshot_store.specs.Stored.{Snapshot, HasTaken}

pub of_some : {T : Type 0} (P : T → Type 0) (y : T) → P y → (x : T) → Some y ≡ Some x → P x
of_some P y h x e = let k : y ≡ x = cc in subst P k h

-- the delta has a part for each variable of the stored master
pub delta_length : {V : Type 0} (base now : Mastered V) (delta : Mastered (Option V)) → delta ≡ delta_of base now
    → length base.vars ≡ length now.vars → length delta.vars ≡ length base.vars
delta_length {V} base now delta is same = subst (λ (d : Mastered (Option V)). length d.vars ≡ length base.vars) (sym is)
    (length-changed base.vars now.vars same ∙ sym same)

-- the snapshot that is kept as this delta
abbrev pub snapshot_by : {V : Type 0} → Mastered V → Mastered (Option V) → ℕ → Snapshot V
snapshot_by base delta moves = record { master = applied base delta; moves = moves }

pub has_taken : {V : Type 0} (m : Meaning V) (stored : Snapshot V) (master : Mastered V) (moves : ℕ)
    (delta : Mastered (Option V)) → delta ≡ delta_of stored.master master
    → length master.vars ≡ m.vars → length stored.master.vars ≡ length master.vars
    → HasTaken m stored master moves (Some (snapshot_by stored.master delta moves))
has_taken {V} m stored master moves delta is count same = record {
  copy = snapshot_by stored.master delta moves;
  is = refl;
  stands = λ threads earlier now a b e.
      stands_after stored.master delta (delta_length stored.master master delta is same) m threads earlier now a
      (subst (λ (d : Mastered (Option V)). Leads m threads earlier now d) (sym is)
      (delta_leads m stored.master master count same threads earlier now a b e));
  threads_are = rw is refl;
  moves_are = refl;
}

one_fits : {V : Type 0} (fits : V → Type 0) (b x : VarPart V) → fits b.value → fits x.value
    → fits (applied_part b (changed_part b x)).value
one_fits {V} fits b x old new = go (is_or b.places x.places)
  where
    go : (b.places ≡ x.places) ⊎ (b.places ≢ x.places)
        → fits (unwrap_or (cond (nat_eq b.places x.places) None (Some x.value)) b.value)
    go (inl same) = rw (is_eq b.places x.places same) old
    go (inr apart) = rw (not_eq b.places x.places apart) new

pub taken_fits : {V : Type 0} (m : Meaning V) (fits : ℕ → V → Type 0) (base now : Mastered V)
    → FitsProgram m fits value_of base.vars → FitsProgram m fits value_of now.vars
    → FitsProgram m fits value_of (applied base (delta_of base now)).vars
taken_fits {V} m fits base now old new = record {
  count = length-applied base.vars changes same_changes ∙ old.count;
  fit = λ v y low.
      let c : VarPart (Option V) = record { value = None; places = 0; stamp = []; readers = [] } in
      subst (λ (x : VarPart V). fits v x.value)
      (sym (at-applied base.vars changes v y y c (omega (arith, old.count)) (omega (arith, old.count, same_changes))))
      (subst (λ (z : VarPart (Option V)). fits v (applied_part (slice_index_or base.vars v y) z).value)
      (sym (at-changed base.vars now.vars v c y y (omega (arith, old.count)) (omega (arith, new.count))))
      (one_fits (fits v) (slice_index_or base.vars v y) (slice_index_or now.vars v y) (old.fit v y low)
      (new.fit v y low)));
}
  where
    changes : List (VarPart (Option V))
    changes = changed_parts base.vars now.vars

    same_changes : length changes ≡ length base.vars
    same_changes = length-changed base.vars now.vars (old.count ∙ sym new.count) ∙ (new.count ∙ sym old.count)
