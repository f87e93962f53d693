-- Lines go to the script, and what stands beside it stays.
use Rattle.std.proofs.Common.{◌≡◌, ℕ, List, [], ◌∷◌, ◌++◌, Option, Some, refl, sym, ap, ◌∙◌, subst, inl, inr}
use Rattle.std.proofs.Common.{append-nil}
use Rattle.std.proofs.Common.{None}
use Rattle.world_io.specs.World.{Shown}
use Rattle.output_files.specs.Writes.{report_file, Write, Creates, Appends, Reports, after_writes, HasBegun}
use Rattle.output_files.specs.Writes.{HasWritten, IsCut, IsPrefix, longer as more}
use Rattle.output_files.proofs.Effects.{Compared, compared, IsSame, Differs}
use Rattle.live_writes.specs.Outputs.{holding}
use Rattle.live_writes.specs.Script.{Beside, SpareName}

-- a name that writes spare has the bytes that it had
pub spared : (name : List ℕ) (writes : List Write) (had : Option (List ℕ)) → SpareName name writes
    → after_writes name writes had ≡ had
spared name [] had spare = refl
spared name (Creates other ∷ writes) had spare = go (spared name writes had spare.1) (compared other name)
  where
    go : after_writes name writes had ≡ had → Compared other name
        → after_writes name (Creates other ∷ writes) had ≡ had
    go rest (IsSame e same) = absurd (spare.0 same)
    go rest (Differs e apart) = rw e rest
spared name (Appends other bytes ∷ writes) had spare = go (spared name writes had spare.1) (compared other name)
  where
    go : after_writes name writes had ≡ had → Compared other name
        → after_writes name (Appends other bytes ∷ writes) had ≡ had
    go rest (IsSame e same) = absurd (spare.0 same)
    go rest (Differs e apart) = rw e rest
spared name (Reports bytes ∷ writes) had spare = spared name writes had spare

pub spare_first : (name : List ℕ) (first more : List Write) → SpareName name (first ++ more) → SpareName name first
spare_first name [] more spare = tt
spare_first name (Creates other ∷ first) more spare = (spare.0, spare_first name first more spare.1)
spare_first name (Appends other bytes ∷ first) more spare = (spare.0, spare_first name first more spare.1)
spare_first name (Reports bytes ∷ first) more spare = spare_first name first more spare

pub spare_both : (name : List ℕ) (first more : List Write) → SpareName name first → SpareName name more
    → SpareName name (first ++ more)
spare_both name [] more a b = b
spare_both name (Creates other ∷ first) more a b = (a.0, spare_both name first more a.1 b)
spare_both name (Appends other bytes ∷ first) more a b = (a.0, spare_both name first more a.1 b)
spare_both name (Reports bytes ∷ first) more a b = spare_both name first more a b

-- a cut of writes spares what they spare
pub spare_cut : (name : List ℕ) (done writes : List Write) → SpareName name writes → IsCut done writes
    → SpareName name done
spare_cut name [] writes spare cut = tt
spare_cut name (x ∷ done) [] spare cut = absurd cut
spare_cut name (Creates other ∷ done) (w ∷ writes) spare (inl (is, cut)) =
    let k : SpareName name (Creates other ∷ writes) =
    subst (λ (y : Write). SpareName name (y ∷ writes)) (sym is) spare in (k.0, spare_cut name done writes k.1 cut)
spare_cut name (Appends other bytes ∷ done) (w ∷ writes) spare (inl (is, cut)) =
    let k : SpareName name (Appends other bytes ∷ writes) =
    subst (λ (y : Write). SpareName name (y ∷ writes)) (sym is) spare in (k.0, spare_cut name done writes k.1 cut)
spare_cut name (Reports bytes ∷ done) (w ∷ writes) spare (inl (is, cut)) =
    let k : SpareName name (Reports bytes ∷ writes) =
    subst (λ (y : Write). SpareName name (y ∷ writes)) (sym is) spare in spare_cut name done writes k cut
spare_cut name (Creates other ∷ done) (w ∷ writes) spare (inr (part, none)) = absurd part
spare_cut name (Appends other part ∷ done) (Creates name2 ∷ writes) spare (inr (is, none)) = absurd is
spare_cut name (Appends other part ∷ done) (Appends name2 bytes ∷ writes) spare (inr ((is, prefix), none)) =
    subst (λ (ws : List Write). SpareName name (Appends other part ∷ ws)) (sym none)
    ((λ same. spare.0 (sym is ∙ same)), tt)
spare_cut name (Appends other part ∷ done) (Reports bytes ∷ writes) spare (inr (is, none)) = absurd is
spare_cut name (Reports part ∷ done) (Creates name2 ∷ writes) spare (inr (is, none)) = absurd is
spare_cut name (Reports part ∷ done) (Appends name2 bytes ∷ writes) spare (inr (is, none)) = absurd is
spare_cut name (Reports part ∷ done) (Reports bytes ∷ writes) spare (inr (is, none)) =
    subst (λ (ws : List Write). SpareName name (Reports part ∷ ws)) (sym none) tt

module _ (name written bytes : List ℕ) (old now new : Shown) where
  -- the script is longer, and nothing else was written
  module _ (done : List Write) (spare : SpareName name done) (h : HasWritten done (holding name written old) now)
      (w : HasWritten (Appends name bytes ∷ []) now new) where
    own : (other : List ℕ) → name ≡ other → now.names other ≡ Some written
    own other same = h.names other ∙ go (compared name other)
      where
        go : Compared name other → after_writes other done ((holding name written old).names other) ≡ Some written
        go (IsSame e is) =
            rw e (spared other done (Some written) (subst (λ (l : List ℕ). SpareName l done) same spare))
        go (Differs e apart) = absurd (apart same)

    names : (other : List ℕ)
        → new.names other ≡ after_writes other done ((holding name (written ++ bytes) old).names other)
    names other = w.names other ∙ go (compared name other)
      where
        go : Compared name other
            → after_writes other (Appends name bytes ∷ []) (now.names other)
            ≡ after_writes other done ((holding name (written ++ bytes) old).names other)
        go (IsSame e is) = rw (e, own other is)
            (sym (spared other done (Some (written ++ bytes)) (subst (λ (l : List ℕ). SpareName l done) is spare)))
        go (Differs e apart) =
            let before : now.names other ≡ after_writes other done (old.names other) =
            subst (λ (b : Option (List ℕ)). now.names other ≡ after_writes other done b) (rw e refl) (h.names other) in
            rw e before

    pub longer : HasWritten done (holding name (written ++ bytes) old) new
    longer = record {
      names = names;
      report = w.report ∙ append-nil (now.sent report_file) ∙ h.report;
    }

  pub written_beside : (writes : List Write) (lines : List ℕ) → SpareName name writes
      → Beside name written writes lines old now → HasWritten (Appends name bytes ∷ []) now new
      → Beside name (written ++ bytes) writes lines old new
  written_beside writes lines spare g w = record {
    done = g.done;
    late = g.late;
    writes_are = g.writes_are;
    only = g.only;
    lines_are = g.lines_are;
    written = longer g.done (spare_first name g.done g.late
        (subst (λ (ws : List Write). SpareName name ws) g.writes_are spare)) g.written w;
  }

  pub begun_longer : (writes : List Write) → SpareName name writes → HasBegun writes (holding name written old) now
      → HasWritten (Appends name bytes ∷ []) now new → HasBegun writes (holding name (written ++ bytes) old) new
  begun_longer writes spare g w = record {
    done = g.done;
    cut = g.cut;
    written = longer g.done (spare_cut name g.done writes spare g.cut) g.written w;
  }

no_more : (had : Option (List ℕ)) → more [] had ≡ had
no_more None = refl
no_more (Some had) = ap (λ (l : List ℕ). Some l) (append-nil had)

-- where nothing was written, no bytes were
nothing_appended : (name : List ℕ) (now new : Shown) → HasWritten [] now new → HasWritten (Appends name [] ∷ []) now new
nothing_appended name now new w = record {
  names = λ other. w.names other ∙ go other (compared name other);
  report = w.report;
}
  where
    go : (other : List ℕ) → Compared name other
        → now.names other ≡ after_writes other (Appends name [] ∷ []) (now.names other)
    go other (IsSame e same) = rw e (sym (no_more (now.names other)))
    go other (Differs e apart) = rw e refl

-- a first part of the lines was written
pub part_appended : (name bytes : List ℕ) (now new : Shown) → HasBegun (Appends name bytes ∷ []) now new
    → (part : List ℕ) × IsPrefix part bytes × HasWritten (Appends name part ∷ []) now new
part_appended name bytes now new begun = go begun.done begun.cut begun.written
  where
    go : (done : List Write) → IsCut done (Appends name bytes ∷ []) → HasWritten done now new
        → (part : List ℕ) × IsPrefix part bytes × HasWritten (Appends name part ∷ []) now new
    go [] cut w = ([], (bytes, refl), nothing_appended name now new w)
    go (x ∷ []) (inl (is, cut)) w = (
      bytes,
      ([], sym (append-nil bytes)),
      subst (λ (y : Write). HasWritten (y ∷ []) now new) is w,
    )
    go (x ∷ y ∷ done) (inl (is, cut)) w = absurd cut
    go (Creates other ∷ done) (inr (part, none)) w = absurd part
    go (Appends other part ∷ done) (inr ((is, prefix), none)) w = (
      part,
      prefix,
      subst (λ (n : List ℕ). HasWritten (Appends n part ∷ []) now new) is
          (subst (λ (ws : List Write). HasWritten (Appends other part ∷ ws) now new) none w),
    )
    go (Reports part ∷ done) (inr (part_is, none)) w = absurd part_is
