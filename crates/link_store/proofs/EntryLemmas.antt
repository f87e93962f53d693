-- Where no frame was sent as its bytes, none is that of an entry.
use Rattle.std.proofs.Common.{◌≡◌, ℕ, Bool, false, List, Option, Some, None, refl, ◌∙◌}
use Rattle.link_store.specs.declared.address.Address.{Address}
use Rattle.link_store.specs.Links.{frame_at, Forgets, TurnsEpoch}
use Rattle.link_store.specs.Runs.{HaveNoEntry}

still_none : (P : Address → Type 0) (old new : List (Address × List ℕ)) (a : Address) → Forgets P old new
    → frame_at old a ≡ None → frame_at new a ≡ None
still_none P old new a f none = go (frame_at new a) refl
  where
    go : (o : Option (List ℕ)) → frame_at new a ≡ o → frame_at new a ≡ None
    go None is = is
    go (Some x) is = f.others a (λ p. let gone = f.forgotten a p in cc) ∙ none

pub still_no_entry : (P : Address → Type 0) (spelled : Bool) (old new : List (Address × List ℕ)) → Forgets P old new
    → HaveNoEntry spelled old → HaveNoEntry spelled new
still_no_entry P spelled old new f none off a log = still_none P old new a f (none off a log)

-- nor is one where outputs alone are left
pub no_entry_then : (epoch : ℕ) (old new : List (Address × List ℕ)) → TurnsEpoch epoch old new → HaveNoEntry false new
no_entry_then epoch old new turns off a log = turns.others a (λ is. let out = is.1 in cc)
