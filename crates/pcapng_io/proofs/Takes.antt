-- A block is taken in two parts, its head and what follows.
use Rattle.std.proofs.Common.{◌≡◌, ℕ, Bool, true, false, List, [], ◌++◌, refl, sym, ap, ◌∙◌, append_assoc}
use Rattle.std.specs.Prelude.{Result, Ok, Err}
use Rattle.pcapng_io.specs.declared.block.Block.{Block}
use Rattle.pcapng_io.specs.declared.place.Stop.{Stop}
use Rattle.pcapng_io.specs.Stops.{TakesBlock, held_type}

module _ {S : Type 0} (reads : S → List ℕ → S → Type 0) (reads_more : (a b c : S) (first more : List ℕ)
    → reads a first b → reads b more c → reads a (first ++ more) c) where
  pub takes_behind : (before first head : List ℕ) (answer : Result Block Stop) (a b c : S) → before ++ first ≡ head
      → reads a first b → TakesBlock reads head answer b c → TakesBlock reads before answer a c
  takes_behind before first head (Ok block) a b c is taken (more, second, parts) = (
    first ++ more,
    reads_more a b c first more taken second,
    sym (append_assoc before first more) ∙ ap (λ l. l ++ more) is ∙ parts,
  )
  takes_behind before first head (Err why) a b c is taken (more, second) =
      (first ++ more, reads_more a b c first more taken second)

-- nothing at all is there only where no type was read before
pub held_nothing : (typed : Bool) (taken : List ℕ) → held_type typed ++ taken ≡ [] → (typed ≡ false) × (taken ≡ [])
held_nothing true taken none = cc
held_nothing false taken none = (refl, none)
