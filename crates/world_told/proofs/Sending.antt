-- What one call adds to what a file was sent.
use Rattle.std.proofs.Common.{◌≡◌, ℕ, ◌==◌, ◌||◌, Bool, true, false, List, [], ◌∷◌, ◌++◌, refl, sym, ap, ◌∙◌, subst}
use Rattle.std.proofs.Common.{inl, inr, IsTrue}
use Rattle.std.proofs.lemmas.Bool.{cases_Bool, eqb-false}
use Rattle.world_io.specs.World.{Ledger, KeepsLedgerWriting, is_writable}
use Rattle.world_told.specs.declared.record.Call.TheVariants.{Created, Wrote}
use Rattle.world_told.specs.Events.{Event}
use Rattle.world_told.specs.Sent.{name_of, sent_to}

same : (n : ℕ) → (n == n) ≡ true
same n = elim (cases_Bool (n == n)) [
  | inl is ↦ is
  | inr not ↦ absurd (eqb-false n n not refl)
]

pub sent_wrote : (file : ℕ) (bytes : List ℕ) (calls : List Event)
    → sent_to file ((Wrote file, bytes) ∷ calls) ≡ sent_to file calls ++ bytes
sent_wrote file bytes calls = let is = same file in rw is refl

pub sent_created : (file : ℕ) (name : List ℕ) (calls : List Event) → calls ≡ (Created file, name) ∷ []
    → sent_to file calls ≡ []
sent_created file name calls created = ap (sent_to file) created ∙ (let is = same file in rw is refl)

pub name_created : (file : ℕ) (name : List ℕ) (calls : List Event) → calls ≡ (Created file, name) ∷ []
    → name_of file calls ≡ name
name_created file name calls created = ap (name_of file) created ∙ (let is = same file in rw is refl)

pub still_writable : (old new : Ledger) (file : ℕ) → KeepsLedgerWriting old new → IsTrue (is_writable old file)
    → IsTrue (is_writable new file)
still_writable old new file keeps writable =
    subst (λ (created : ℕ → Bool). IsTrue (Rattle.std.specs.Prelude.nat_eq file 0 || created file)) (sym keeps.created)
    writable
