-- A source that asks the source below it for large pieces, and holds what it has not given yet.
use Rattle.std.specs.Prelude.{◌≡◌, ◌<◌, ℕ, List, [], ◌++◌, length}
use Rattle.world_io.specs.declared.stream.Filled.{Filled}
use Rattle.world_io.specs.declared.stream.Filled.TheVariants.{Got, End, Failed}
use Rattle.std.proofs.Common.{sym, ◌∙◌, ap, append_assoc, append-nil}

-- These bytes were taken: what was held before, and what was fetched from the source below, are they and what is held.
pub record TakesThrough {S : Type 0} (reads : S → List ℕ → S → Type 0) (taken : List ℕ)
    (old new : S × List ℕ) : Type 0 where
  pub fetched : List ℕ
  pub below : reads old.0 fetched new.0
  pub held : old.1 ++ fetched ≡ taken ++ new.1

-- after a fill that got bytes, some are held
abbrev pub HoldsSome : Filled → List ℕ → Type 0
HoldsSome (Got n) held = 0 < length held
HoldsSome End held = held ≡ []
HoldsSome Failed held = held ≡ []

module _ {S : Type 0} (reads : S → List ℕ → S → Type 0) where
  pub TakesThrough-nothing : (reads_nothing : (s : S) → reads s [] s) (b : S × List ℕ) → TakesThrough reads [] b b
  TakesThrough-nothing reads_nothing b =
      record { fetched = []; below = reads_nothing b.0; held = append-nil b.1 }

  pub TakesThrough-more : (reads_more : (a b c : S) (first more : List ℕ) → reads a first b → reads b more c
      → reads a (first ++ more) c) (first more : List ℕ) (a b c : S × List ℕ) → TakesThrough reads first a b
      → TakesThrough reads more b c → TakesThrough reads (first ++ more) a c
  TakesThrough-more reads_more first more a b c r s = record {
    fetched = r.fetched ++ s.fetched;
    below = reads_more a.0 b.0 c.0 r.fetched s.fetched r.below s.below;
    held =
        sym (append_assoc a.1 r.fetched s.fetched) ∙ ap (λ l. l ++ s.fetched) r.held ∙ append_assoc first b.1 s.fetched
        ∙ ap (λ l. first ++ l) s.held ∙ sym (append_assoc first more c.1);
  }

  -- by what the source below had left, before and after
  pub TakesThrough-told : (left : S → List ℕ) (taken : List ℕ) (a b : S × List ℕ) (r : TakesThrough reads taken a b)
      → left a.0 ≡ r.fetched ++ left b.0 → a.1 ++ left a.0 ≡ taken ++ (b.1 ++ left b.0)
  TakesThrough-told left taken a b r below =
      ap (λ l. a.1 ++ l) below ∙ sym (append_assoc a.1 r.fetched (left b.0))
      ∙ ap (λ l. l ++ left b.0) r.held ∙ append_assoc taken b.1 (left b.0)
