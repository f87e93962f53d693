-- What writes, one after another, do to a world.
use Rattle.std.proofs.Common.{◌≡◌, ℕ, List, [], ◌∷◌, ◌++◌, take, drop, refl, sym, ap, ◌∙◌, append-nil, append_assoc}
use Rattle.std.proofs.Common.{subst, Bool, true, false, inl, inr, ◌⊎◌, Option, Some, None, Result, Ok, Err, zero, suc}
use Rattle.std.proofs.Common.{length, nat_le, ◌≤◌, ◌+◌, ◌-◌, arith}
use Rattle.std.proofs.lemmas.Bool.Decides.{nat_tests}
use Rattle.std.proofs.Math.Seq.{take-append-add, take-nil}
use Rattle.std.specs.Str.{bytes_eq}
use Rattle.std.proofs.lemmas.List.{take-append-drop, take-append-le}
use Rattle.std.proofs.lemmas.Slice.Eq.{bytes_eq-Decides}
use Rattle.world_io.specs.World.{Shown, WritesFile, CreatesFile, CreatesNothing}
use Rattle.std.specs.Result.{IsErr}
use Rattle.output_files.specs.declared.error.OutputError.{OutputError}
use Rattle.output_files.specs.Written.{AppendsTo, Writes, WritesGathered}
use Rattle.output_files.specs.Writes.{report_file, Write, Creates, Appends, Reports, longer, after_write, after_writes}
use Rattle.output_files.specs.Writes.{reported_by, reported, HasWritten, IsPrefix, IsCut, HasBegun, IsOutput}
use Rattle.output_files.specs.Writes.{KeepsOutputs, AreOnlyReports, HasGathered}

-- Names

-- two names are one, or the test tells them apart
pub data Compared (x y : List ℕ) : Type 0 where
  IsSame : bytes_eq x y ≡ true → x ≡ y → Compared x y
  Differs : bytes_eq x y ≡ false → ¬ (x ≡ y) → Compared x y

pub compared : (x y : List ℕ) → Compared x y
compared x y = go (bytes_eq x y) refl
  where
    go : (b : Bool) → bytes_eq x y ≡ b → Compared x y
    go true e = IsSame e ((bytes_eq-Decides x y).0 e)
    go false e = Differs e (λ same. let other : bytes_eq x y ≡ true = (bytes_eq-Decides x y).1 same in cc)

-- Several writes

-- nothing was written where the names and the report stay
pub nothing_written : (a b : Shown) → ((name : List ℕ) → b.names name ≡ a.names name) → b.sent ≡ a.sent
    → HasWritten [] a b
nothing_written a b names sent = record {
  names = names;
  report = ap (λ (f : ℕ → List ℕ). f report_file) sent ∙ sym (append-nil (a.sent report_file));
}

pub unwritten : (a : Shown) → HasWritten [] a a
unwritten a = nothing_written a a (λ name. refl) refl

pub after_more : (name : List ℕ) (first more : List Write) (had : Option (List ℕ))
    → after_writes name (first ++ more) had ≡ after_writes name more (after_writes name first had)
after_more name [] more had = refl
after_more name (w ∷ first) more had = after_more name first more (after_write name w had)

pub reported_more : (first more : List Write) → reported (first ++ more) ≡ reported first ++ reported more
reported_more [] more = refl
reported_more (w ∷ first) more =
    ap (λ l. reported_by w ++ l) (reported_more first more)
    ∙ sym (append_assoc (reported_by w) (reported first) (reported more))

pub written_more : (first more : List Write) (a b c : Shown) → HasWritten first a b → HasWritten more b c
    → HasWritten (first ++ more) a c
written_more first more a b c one two = record {
  names = λ name.
      two.names name ∙ ap (after_writes name more) (one.names name) ∙ sym (after_more name first more (a.names name));
  report =
      two.report
      ∙ ap (λ l. l ++ reported more) one.report
      ∙ append_assoc (a.sent report_file) (reported first) (reported more)
      ∙ ap (λ l. a.sent report_file ++ l) (sym (reported_more first more));
}

-- Cuts

pub cut_all : (writes : List Write) → IsCut writes writes
cut_all [] = tt
cut_all (w ∷ writes) = inl (refl, cut_all writes)

-- a cut of what stands behind more
pub cut_behind : (first done more : List Write) → IsCut done more → IsCut (first ++ done) (first ++ more)
cut_behind [] done more cut = cut
cut_behind (w ∷ first) done more cut = inl (refl, cut_behind first done more cut)

-- a cut of what stands before more
pub cut_before : (done writes more : List Write) → IsCut done writes → IsCut done (writes ++ more)
cut_before [] writes more cut = tt
cut_before (x ∷ done) [] more cut = absurd cut
cut_before (x ∷ done) (w ∷ writes) more (inl same) = inl (same.0, cut_before done writes more same.1)
cut_before (x ∷ done) (w ∷ writes) more (inr part) = inr part

pub begun_all : (writes : List Write) (a b : Shown) → HasWritten writes a b → HasBegun writes a b
begun_all writes a b w = record { done = writes; cut = cut_all writes; written = w }

pub begun_none : (writes : List Write) (a : Shown) → HasBegun writes a a
begun_none writes a = record { done = []; cut = tt; written = unwritten a }

pub begun_behind : (first more : List Write) (a b c : Shown) → HasWritten first a b → HasBegun more b c
    → HasBegun (first ++ more) a c
begun_behind first more a b c one two = record {
  done = first ++ two.done;
  cut = cut_behind first two.done more two.cut;
  written = written_more first two.done a b c one two.written;
}

pub begun_before : (writes more : List Write) (a b : Shown) → HasBegun writes a b → HasBegun (writes ++ more) a b
begun_before writes more a b w =
    record { done = w.done; cut = cut_before w.done writes more w.cut; written = w.written }

pub prefix_take : (n : ℕ) (bytes : List ℕ) → IsPrefix (take n bytes) bytes
prefix_take n bytes = (drop n bytes, sym (take-append-drop n bytes))

-- One write

pub creates : (file : ℕ) (own : List ℕ) (a b : Shown) → ¬ (file ≡ report_file) → CreatesFile own file a b
    → HasWritten (Creates own ∷ []) a b
creates file own a b some c = record {
  names = λ name. go name (compared own name);
  report = c.other_sent report_file (λ e. some (sym e)) ∙ sym (append-nil (a.sent report_file));
}
  where
    go : (name : List ℕ) → Compared own name → b.names name ≡ after_write name (Creates own) (a.names name)
    go name (IsSame e same) = rw e (ap b.names (sym same) ∙ c.empty)
    go name (Differs e apart) = rw e (c.other_names name (λ same. apart (sym same)))

pub creates_nothing : (own : List ℕ) (a b : Shown) → CreatesNothing own a b → HasBegun (Creates own ∷ []) a b
creates_nothing own a b c = go c.own
  where
    kept : b.names own ≡ a.names own → (name : List ℕ) → Compared own name → b.names name ≡ a.names name
    kept same name (IsSame e one) = ap b.names (sym one) ∙ same ∙ ap a.names one
    kept same name (Differs e apart) = c.other_names name (λ one. apart (sym one))

    emptied : b.names own ≡ Some [] → (name : List ℕ) → Compared own name
        → b.names name ≡ after_write name (Creates own) (a.names name)
    emptied empty name (IsSame e one) = rw e (ap b.names (sym one) ∙ empty)
    emptied empty name (Differs e apart) = rw e (c.other_names name (λ one. apart (sym one)))

    report : b.sent report_file ≡ a.sent report_file ++ []
    report = ap (λ (f : ℕ → List ℕ). f report_file) c.sent ∙ sym (append-nil (a.sent report_file))

    go : (b.names own ≡ a.names own) ⊎ (b.names own ≡ Some []) → HasBegun (Creates own ∷ []) a b
    go (inl same) = record {
      done = [];
      cut = tt;
      written = record { names = λ name. kept same name (compared own name); report = report };
    }
    go (inr empty) =
        begun_all _ a b (record { names = λ name. emptied empty name (compared own name); report = report })

pub appends : (file : ℕ) (own bytes : List ℕ) (a b : Shown) → IsOutput file own a → WritesFile file bytes a b
    → HasWritten (Appends own bytes ∷ []) a b
appends file own bytes a b is w = record {
  names = λ name. go name (compared own name);
  report = w.other_sent report_file (λ e. is.not_report (sym e)) ∙ sym (append-nil (a.sent report_file));
}
  where
    ours : b.names own ≡ Some (is.bytes ++ bytes)
    ours = ap b.names (sym is.name_is) ∙ w.named is.bytes is.not_report (ap a.names is.name_is ∙ is.there)

    go : (name : List ℕ) → Compared own name → b.names name ≡ after_write name (Appends own bytes) (a.names name)
    go name (IsSame e same) = rw e (ap b.names (sym same) ∙ ours ∙ ap (longer bytes) (sym is.there ∙ ap a.names same))
    go name (Differs e apart) = rw e (w.other_names name (λ _ one. apart (sym (one ∙ is.name_is))))

pub appends_part : (file n : ℕ) (own bytes : List ℕ) (a b : Shown) → IsOutput file own a
    → WritesFile file (take n bytes) a b → HasBegun (Appends own bytes ∷ []) a b
appends_part file n own bytes a b is w = record {
  done = Appends own (take n bytes) ∷ [];
  cut = inr ((refl, prefix_take n bytes), refl);
  written = appends file own (take n bytes) a b is w;
}

pub reports : (bytes : List ℕ) (a b : Shown) → WritesFile report_file bytes a b → HasWritten (Reports bytes ∷ []) a b
reports bytes a b w = record {
  names = λ name. w.other_names name (λ no. absurd (no refl));
  report = w.sent ∙ ap (λ l. a.sent report_file ++ l) (sym (append-nil bytes));
}

pub reports_part : (n : ℕ) (bytes : List ℕ) (a b : Shown) → WritesFile report_file (take n bytes) a b
    → HasBegun (Reports bytes ∷ []) a b
reports_part n bytes a b w = record {
  done = Reports (take n bytes) ∷ [];
  cut = inr (prefix_take n bytes, refl);
  written = reports (take n bytes) a b w;
}

-- Outputs that were created

pub is_output : (file : ℕ) (name : List ℕ) (a b : Shown) → ¬ (file ≡ report_file) → CreatesFile name file a b
    → IsOutput file name b
is_output file name a b some c = record { not_report = some; name_is = c.name_of; bytes = []; there = c.empty }

pub stays_output : (file k : ℕ) (name other : List ℕ) (a b : Shown) → ¬ (k ≡ file) → ¬ (other ≡ name)
    → CreatesFile name file a b → IsOutput k other a → IsOutput k other b
stays_output file k name other a b apart unlike c is = record {
  not_report = is.not_report;
  name_is = c.other_name_of k apart ∙ is.name_is;
  bytes = is.bytes;
  there = c.other_names other unlike ∙ is.there;
}

is_zero : (n : ℕ) → (n ≡ 0) ⊎ ¬ (n ≡ 0)
is_zero zero = inl refl
is_zero (suc n) = inr (λ e. absurd (omega arith))

pub keeps_outputs : (file : ℕ) (bytes : List ℕ) (a b : Shown) → WritesFile file bytes a b → KeepsOutputs a b
keeps_outputs file bytes a b w k name is =
    let then = bytes_then (compared (a.name_of file) name) in
    record {
      not_report = is.not_report;
      name_is = ap (λ (f : ℕ → List ℕ). f k) w.name_of ∙ is.name_is;
      bytes = then.0;
      there = then.1;
    }
  where
    by_file : a.name_of file ≡ name → ((file ≡ 0) ⊎ ¬ (file ≡ 0)) → (had : List ℕ) × (b.names name ≡ Some had)
    by_file one (inl report) = (is.bytes, w.other_names name (λ some. absurd (some report)) ∙ is.there)
    by_file one (inr some) =
        (is.bytes ++ bytes, ap b.names (sym one) ∙ w.named is.bytes some (ap a.names one ∙ is.there))

    bytes_then : Compared (a.name_of file) name → (had : List ℕ) × (b.names name ≡ Some had)
    bytes_then (Differs e apart) = (is.bytes, w.other_names name (λ _ one. apart (sym one)) ∙ is.there)
    bytes_then (IsSame e one) = by_file one (is_zero file)

-- Gathered lines

n_or : (n k : ℕ) → (n ≤ k) ⊎ ((more : ℕ) × (n ≡ k + more))
n_or n k = go (nat_le n k) refl
  where
    go : (b : Bool) → nat_le n k ≡ b → (n ≤ k) ⊎ ((more : ℕ) × (n ≡ k + more))
    go true e = inl (grind (arith, nat_tests))
    go false e = inr (n - k, grind (arith, nat_tests))

onlys : (first more : List Write) → AreOnlyReports first → AreOnlyReports more → AreOnlyReports (first ++ more)
onlys [] more only all = all
onlys (Creates name ∷ first) more only all = absurd only
onlys (Appends name bytes ∷ first) more only all = (only.0, onlys first more only.1 all)
onlys (Reports bytes ∷ first) more only all = onlys first more only all

longer_nothing : (had : Option (List ℕ)) → longer [] had ≡ had
longer_nothing None = refl
longer_nothing (Some had) = ap (λ (l : List ℕ). Some l) (append-nil had)

-- no name has other bytes after writes that only the report sees
pub names_stay : (name : List ℕ) (late : List Write) (had : Option (List ℕ)) → AreOnlyReports late
    → after_writes name late had ≡ had
names_stay name [] had only = refl
names_stay name (Creates other ∷ late) had only = absurd only
names_stay name (Appends other bytes ∷ late) had only =
    names_stay name late (after_write name (Appends other bytes) had) only.1 ∙ go (compared other name)
  where
    go : Compared other name → after_write name (Appends other bytes) had ≡ had
    go (IsSame e same) = rw e (ap (λ l. longer l had) only.0 ∙ longer_nothing had)
    go (Differs e apart) = rw e refl
names_stay name (Reports bytes ∷ late) had only = names_stay name late had only

pub late_written : (late : List Write) (a b : Shown) → AreOnlyReports late → WritesFile report_file (reported late) a b
    → HasWritten late a b
late_written late a b only w = record {
  names = λ name. w.other_names name (λ no. absurd (no refl)) ∙ sym (names_stay name late (a.names name) only);
  report = w.sent;
}

-- a part of the lines is that of a cut
late_cut : (late : List Write) (n : ℕ) → AreOnlyReports late
    → (done : List Write) × IsCut done late × AreOnlyReports done × (take n (reported late) ≡ reported done)
late_cut [] n only = ([], tt, tt, take-nil n)
late_cut (Creates other ∷ late) n only = absurd only
late_cut (Appends other bytes ∷ late) n only =
    let rest = late_cut late n only.1 in
    (Appends other bytes ∷ rest.0, inl (refl, rest.1), (only.0, rest.2), rest.3)
late_cut (Reports bytes ∷ late) n only = go (λ k. late_cut late k only) (n_or n (length bytes))
  where
    go : ((k : ℕ)
        → (done : List Write) × IsCut done late × AreOnlyReports done × (take k (reported late) ≡ reported done))
        → ((n ≤ length bytes) ⊎ ((k : ℕ) × (n ≡ length bytes + k)))
        → (done : List Write) × IsCut done (Reports bytes ∷ late) × AreOnlyReports done
        × (take n (bytes ++ reported late) ≡ reported done)
    go behind (inl short) = (
      Reports (take n bytes) ∷ [],
      inr (prefix_take n bytes, refl),
      tt,
      take-append-le n bytes (reported late) short ∙ sym (append-nil (take n bytes)),
    )
    go behind (inr (k, e)) =
        let rest = behind k in (
          Reports bytes ∷ rest.0,
          inl (refl, rest.1),
          rest.2,
          ap (λ i. take i (bytes ++ reported late)) e
              ∙ take-append-add bytes (reported late) k
              ∙ ap (λ l. bytes ++ l) rest.3,
        )

pub lines_written : (writes : List Write) (lines : List ℕ) (a b c : Shown) → HasGathered writes lines a b
    → WritesFile report_file lines b c → HasWritten writes a c
lines_written writes lines a b c g w =
    subst (λ (ws : List Write). HasWritten ws a c) (sym g.writes_are) (written_more g.done g.late a b c g.written
    (late_written g.late b c g.only (subst (λ (l : List ℕ). WritesFile report_file l b c) g.lines_are w)))

pub lines_begun : (writes : List Write) (lines : List ℕ) (n : ℕ) (a b c : Shown) → HasGathered writes lines a b
    → WritesFile report_file (take n lines) b c → HasBegun writes a c
lines_begun writes lines n a b c g w =
    let cut = late_cut g.late n g.only in
    let bytes : take n lines ≡ reported cut.0 = ap (λ (l : List ℕ). take n l) g.lines_are ∙ cut.3 in
    let then : HasWritten cut.0 b c =
    late_written cut.0 b c cut.2 (subst (λ (l : List ℕ). WritesFile report_file l b c) bytes w) in
    let all : HasBegun (g.done ++ g.late) a c =
    begun_behind g.done g.late a b c g.written (record { done = cut.0; cut = cut.1; written = then }) in
    subst (λ (ws : List Write). HasBegun ws a c) (sym g.writes_are) all

-- a line that is gathered too; and an append of nothing behind gathered lines
pub line_gathered : (writes : List Write) (lines line : List ℕ) (a b : Shown) → HasGathered writes lines a b
    → HasGathered (writes ++ Reports line ∷ []) (lines ++ line) a b
line_gathered writes lines line a b g = late_more (Reports line) only (ap (λ l. l ++ line) g.lines_are
    ∙ ap (λ l. reported g.late ++ l) (sym (append-nil line))
    ∙ sym (reported_more g.late (Reports line ∷ [])))
  where
    only : AreOnlyReports (g.late ++ Reports line ∷ [])
    only = onlys g.late (Reports line ∷ []) g.only tt

    late_more : (w : Write) → AreOnlyReports (g.late ++ w ∷ []) → lines ++ line ≡ reported (g.late ++ w ∷ [])
        → HasGathered (writes ++ w ∷ []) (lines ++ line) a b
    late_more w only lines_are = record {
      done = g.done;
      late = g.late ++ w ∷ [];
      writes_are = ap (λ ws. ws ++ w ∷ []) g.writes_are ∙ append_assoc g.done g.late (w ∷ []);
      only = only;
      lines_are = lines_are;
      written = g.written;
    }

pub nothing_gathered : (writes : List Write) (lines name bytes : List ℕ) (a b : Shown) → bytes ≡ []
    → HasGathered writes lines a b → HasGathered (writes ++ Appends name bytes ∷ []) lines a b
nothing_gathered writes lines name bytes a b none g = record {
  done = g.done;
  late = g.late ++ Appends name bytes ∷ [];
  writes_are =
      ap (λ ws. ws ++ Appends name bytes ∷ []) g.writes_are ∙ append_assoc g.done g.late (Appends name bytes ∷ []);
  only = onlys g.late (Appends name bytes ∷ []) g.only (none, tt);
  lines_are = g.lines_are ∙ sym (append-nil (reported g.late)) ∙ sym (reported_more g.late (Appends name bytes ∷ []));
  written = g.written;
}

-- where no line is gathered, what is written stands
pub none_gathered : (writes : List Write) (a b : Shown) → HasWritten writes a b → HasGathered writes [] a b
none_gathered writes a b w =
    record { done = writes; late = []; writes_are = sym (append-nil writes); only = tt; lines_are = refl; written = w }

-- What calls answer

pub err_writes : {A : Type 0} (r : Result A OutputError) (writes : List Write) (a b : Shown) → IsErr r
    → HasBegun writes a b → Writes r writes a b
err_writes (Ok done) writes a b err w = absurd (cc)
err_writes (Err error) writes a b err w = w

pub err_gathers : {A : Type 0} (r : Result A OutputError) (writes : List Write) (lines : List ℕ) (a b : Shown) → IsErr r
    → HasBegun writes a b → WritesGathered r writes lines a b
err_gathers (Ok done) writes lines a b err w = absurd (cc)
err_gathers (Err error) writes lines a b err w = w

pub appends_to : {A : Type 0} (r : Result A OutputError) (file : ℕ) (own bytes : List ℕ) (a b : Shown)
    → IsOutput file own a → AppendsTo r file bytes a b → Writes r (Appends own bytes ∷ []) a b
appends_to (Ok done) file own bytes a b is w = appends file own bytes a b is w
appends_to (Err error) file own bytes a b is w = appends_part file w.0 own bytes a b is w.1

pub reports_to : {A : Type 0} (r : Result A OutputError) (bytes : List ℕ) (a b : Shown)
    → AppendsTo r report_file bytes a b → Writes r (Reports bytes ∷ []) a b
reports_to (Ok done) bytes a b w = reports bytes a b w
reports_to (Err error) bytes a b w = reports_part w.0 bytes a b w.1

pub keeps_all : {A E : Type 0} (r : Result A E) (file : ℕ) (bytes : List ℕ) (a b : Shown) → AppendsTo r file bytes a b
    → KeepsOutputs a b
keeps_all (Ok done) file bytes a b w = keeps_outputs file bytes a b w
keeps_all (Err error) file bytes a b w = keeps_outputs file (take w.0 bytes) a b w.1

pub keeps_both : (a b c : Shown) → KeepsOutputs a b → KeepsOutputs b c → KeepsOutputs a c
keeps_both a b c first second file name is = second file name (first file name is)

-- what was begun, where lines were gathered before
pub gathered_begun : (writes more : List Write) (lines : List ℕ) (a b : Shown) → HasGathered writes lines a b
    → HasBegun (writes ++ more) a b
gathered_begun writes more lines a b g =
    let all : HasBegun (g.done ++ g.late) a b = begun_before g.done g.late a b (begun_all g.done a b g.written) in
    begun_before writes more a b (subst (λ (ws : List Write). HasBegun ws a b) (sym g.writes_are) all)

pub gathered_writes : {A : Type 0} (r : Result A OutputError) (writes ws : List Write) (a b c : Shown)
    → HasWritten writes a b → Writes r ws b c → WritesGathered r (writes ++ ws) [] a c
gathered_writes (Ok done) writes ws a b c first w =
    none_gathered (writes ++ ws) a c (written_more writes ws a b c first w)
gathered_writes (Err error) writes ws a b c first w = begun_behind writes ws a b c first w

pub then_writes : {A : Type 0} (r : Result A OutputError) (writes ws : List Write) (a b c : Shown)
    → HasWritten writes a b → Writes r ws b c → Writes r (writes ++ ws) a c
then_writes (Ok done) writes ws a b c first w = written_more writes ws a b c first w
then_writes (Err error) writes ws a b c first w = begun_behind writes ws a b c first w

-- the same, for bytes that go by another name
pub lines_done : (writes : List Write) (lines bytes : List ℕ) (a b c : Shown) → bytes ≡ lines
    → HasGathered writes lines a b → WritesFile report_file bytes b c → HasWritten writes a c
lines_done writes lines bytes a b c same g w =
    lines_written writes lines a b c g (subst (λ (l : List ℕ). WritesFile report_file l b c) same w)

pub lines_cut : (writes : List Write) (lines bytes : List ℕ) (a b c : Shown) → bytes ≡ lines
    → HasGathered writes lines a b → ((n : ℕ) × WritesFile report_file (take n bytes) b c) → HasBegun writes a c
lines_cut writes lines bytes a b c same g w =
    lines_begun writes lines w.0 a b c g (subst (λ (l : List ℕ). WritesFile report_file (take w.0 l) b c) same w.1)

pub gathers_behind : {A : Type 0} (r : Result A OutputError) (writes ws : List Write) (lines : List ℕ) (a b c : Shown)
    → lines ≡ [] → HasWritten writes a b → Writes r ws b c → WritesGathered r (writes ++ ws) lines a c
gathers_behind r writes ws lines a b c none first w =
    subst (λ (l : List ℕ). WritesGathered r (writes ++ ws) l a c) (sym none) (gathered_writes r writes ws a b c first w)

pub no_bytes : (bytes : List ℕ) → length bytes ≡ 0 → bytes ≡ []
no_bytes [] e = refl
no_bytes (x ∷ bytes) e = absurd (omega arith)
