-- The outputs of a run are created.
use Rattle.std.proofs.Common.{◌≡◌, ℕ, List, [], ◌∷◌, refl, sym, ap, ◌∙◌, subst}
use Rattle.std.specs.Prelude.{IsTrue, ◌||◌, nat_eq, Bool, true, false}
use Rattle.world_io.specs.World.{Shown, Ledger, KeepsLedgerWriting, GivesCreated, is_writable}
use Rattle.output_files.specs.Writes.{Appends, HasWritten, HasBegun}

-- the same bytes are appended
pub same_append : (name bytes other : List ℕ) (a b : Shown) → bytes ≡ other → HasWritten (Appends name bytes ∷ []) a b
    → HasWritten (Appends name other ∷ []) a b
same_append name bytes other a b same h = subst (λ (l : List ℕ). HasWritten (Appends name l ∷ []) a b) same h

pub same_append_begun : (name bytes other : List ℕ) (a b : Shown) → bytes ≡ other
    → HasBegun (Appends name bytes ∷ []) a b → HasBegun (Appends name other ∷ []) a b
same_append_begun name bytes other a b same h = subst (λ (l : List ℕ). HasBegun (Appends name l ∷ []) a b) same h

-- both outputs may be written

made_writable : (ledger : Ledger) (file : ℕ) → ledger.created file ≡ true → IsTrue (is_writable ledger file)
made_writable ledger file made = go (nat_eq file 0) (ledger.created file) made
  where
    go : (a b : Bool) → b ≡ true → IsTrue (a || b)
    go true b e = refl
    go false b e = e

pub created_still : (b c : Ledger) (file : ℕ) → b.created file ≡ true → KeepsLedgerWriting b c → c.created file ≡ true
created_still b c file made keeps = ap (λ (f : ℕ → Bool). f file) keeps.created ∙ made

pub both_writable : (c d : Ledger) (first second : ℕ) → c.created first ≡ true → GivesCreated second c d
    → IsTrue (is_writable d first) × IsTrue (is_writable d second)
both_writable c d first second made gives = (
  made_writable d first
      (gives.others first (λ same. let no : true ≡ false = sym made ∙ ap c.created same ∙ gives.fresh.not_created in cc)
      ∙ made),
  made_writable d second gives.created,
)

-- what may be written may still be written after writing
pub writable_still : (b c : Ledger) (file : ℕ) → IsTrue (is_writable b file) → KeepsLedgerWriting b c
    → IsTrue (is_writable c file)
writable_still b c file may keeps = subst (λ (f : ℕ → Bool). IsTrue (nat_eq file 0 || f file)) (sym keeps.created) may
