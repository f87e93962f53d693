-- That what the calls of a world in memory do is what a world promises.
use Rattle.std.proofs.Common.{◌≡◌, ◌≢◌, ℕ, zero, suc, ◌+◌, ◌-◌, ◌^◌, ◌≤◌, List, [], ◌++◌, Option, Some, Ok, Err, Result}
use Rattle.std.proofs.Common.{true, false, cond, eqb, length, take, arith, ap, ◌∙◌, sym, refl, subst}
use Rattle.std.specs.Prelude.{◌==◌, if◌then◌else◌}
use Rattle.std.proofs.lemmas.List.{take_all, length-set}
use Rattle.std.proofs.lemmas.Bool.Decides.{nat_tests}
use Rattle.world_io.specs.declared.memory_file.MemoryFile.{MemoryFile}
use Rattle.world_io.specs.declared.memory_file.MemoryFile.TheVariants.{Created}
use Rattle.world_io.specs.declared.stream.Filled.{Filled}
use Rattle.world_io.specs.declared.stream.Filled.TheVariants.{Got, End, Failed}
use Rattle.world_io.specs.declared.stream.Put.{Put}
use Rattle.world_io.specs.declared.stream.Put.TheVariants as put
use Rattle.world_io.specs.declared.world.OpenFault.{OpenFault}
use Rattle.world_io.specs.declared.world.OpenFault.TheVariants as fault
use Rattle.world_io.specs.Stream.{filled_bytes, EndsAtEnd, put_bytes}
use Rattle.world_io.specs.Files.{file_of, is_opened, is_ended, is_created, left_in, sent_to, name_in}
use Rattle.world_io.specs.Files.{TakesFromFile}
use Rattle.world_io.specs.Calls.{CallCount, next_fails, counted, after_call, NoneIsToFail}
use Rattle.world_io.specs.World.{Shown, WritesFile, KeepsLedgerWriting}
use Rattle.world_io.specs.OneFile.{WritesFile-nothing, KeepsLedgerWriting-same}
use Rattle.world_io.specs.Memory.{Memory, IsHealthy, Opens, Fills, Puts, after_read, after_read_fault}
use Rattle.world_io.specs.Memory.{after_write_fault, shown_of, ledger_of}
use Rattle.world_io.proofs.FilesLemmas.{TakesFromFile-nothing, seen_alike-set, file_of-set_same, file_of-set_other}

pub Fills-passed : (old : Memory) (file : ℕ) (r : Filled) (piece : List ℕ) (files : List MemoryFile)
    → next_fails old.reading ≡ false → r ≢ Failed → EndsAtEnd r (left_in (file_of old.files file))
    → TakesFromFile file (filled_bytes r piece) old.files files
    → Fills old file r piece (record (after_read old) { files = files })
Fills-passed old file (Got n) piece files passed fine end takes = (passed, end, takes, refl)
Fills-passed old file End piece files passed fine end takes =
    (passed, end, ap (λ l. record (after_read old) { files = l }) (TakesFromFile-nothing file old.files files takes))
Fills-passed old file Failed piece files passed fine end takes = absurd (fine refl)

suc-eqb : (k : ℕ) → eqb (suc k) 0 ≡ false
suc-eqb k = grind (arith, nat_tests)

le-counted : (n : ℕ) → n ≤ counted n
le-counted n = elim (eqb n (2 ^ 64 - 1)) as (λ b. n ≤ cond b n (n + 1)) [ true ↦ omega arith | false ↦ omega arith ]

-- after one more call fewer are still to come
NoneIsToFail-after : (calls : CallCount) → NoneIsToFail calls → NoneIsToFail (after_call calls)
NoneIsToFail-after calls none made later = none made (omega (arith, le-counted calls.made, later))

module _ (old new : Memory) where
  after_read-healthy : new ≡ after_read old → IsHealthy old → IsHealthy new
  after_read-healthy e well = subst IsHealthy (sym e) (NoneIsToFail-after old.reading well.0, well.1)

  after_read_fault-healthy : new ≡ after_read_fault old → IsHealthy old → IsHealthy new
  after_read_fault-healthy e well = subst IsHealthy (sym e) (NoneIsToFail-after old.reading well.0, well.1)

  pub Opens-healthy : (name : List ℕ) (r : Result ℕ OpenFault) → Opens old name r new → IsHealthy old → IsHealthy new
  Opens-healthy name (Ok file) h well = subst IsHealthy (sym h.2.2) (NoneIsToFail-after old.reading well.0, well.1)
  Opens-healthy name (Err fault.Failed) h well = after_read_fault-healthy h.1 well
  Opens-healthy name (Err fault.NoMemory) h well = after_read-healthy h.1 well

  puts_nothing : (file : ℕ) → shown_of new ≡ shown_of old → WritesFile file [] (shown_of old) (shown_of new)
  puts_nothing file e =
      let P : Shown → Type 0 = λ s. WritesFile file [] (shown_of old) s in
      subst P (sym e) (WritesFile-nothing file (shown_of old))

  pub Puts-told : (file : ℕ) (r : Put) (piece : List ℕ) → Puts old file r piece new
      → WritesFile file (put_bytes r piece) (shown_of old) (shown_of new)
  Puts-told zero (put.Took n) piece h =
      let P : Memory → Type 0 = λ m. WritesFile zero (take n piece) (shown_of old) (shown_of m) in
      let all : take n piece ≡ piece = take_all n piece (omega (arith, h.1)) in
      subst P (sym h.2) (record {
        sent = ap (λ l. old.report ++ l) (sym all);
        other_sent = elim [ zero ↦ λ other. absurd (other refl) | suc k ↦ λ other. rw (suc-eqb k) refl ];
        named = λ had some there. absurd (some refl);
        other_names = λ name other. refl;
        name_of = refl;
        left = refl;
      })
  Puts-told (suc file) (put.Took n) piece h =
      let number = suc file in
      let sends = h.2.sends in
      let appends = h.2.appends in
      let all : take n piece ≡ piece = take_all n piece (omega (arith, h.1)) in
      let own = ap (λ fs. file_of fs number) sends.after ∙ file_of-set_same old.files number _ _ sends.had in
      let report : new.report ≡ old.report = ap (λ m. m.report) h.2.after in
      record {
        sent = rw (suc-eqb file) (ap sent_to own
            ∙ ap (λ l. l ++ piece) (sym (ap sent_to sends.had))
            ∙ ap (λ l. sent_to (file_of old.files number) ++ l) (sym all));
        other_sent = λ k other.
            let same =
            ap (λ fs. sent_to (file_of fs k)) sends.after
            ∙ ap sent_to (file_of-set_other old.files number k _ _ sends.had other) in
            ap (λ l. if k == 0 then l else sent_to (file_of new.files k)) report
            ∙ ap (λ l. if k == 0 then old.report else l) same;
        named = λ had some there. appends.own had there ∙ ap (λ l. Some (had ++ l)) (sym all);
        other_names = λ name differ. appends.others name (differ (λ z. omega arith));
        name_of =
            ap (λ fs k. name_in (file_of fs k)) sends.after
            ∙ seen_alike-set name_in old.files number _ _ sends.had refl;
        left =
            ap (λ fs k. left_in (file_of fs k)) sends.after
            ∙ seen_alike-set left_in old.files number _ _ sends.had refl;
      }
  Puts-told zero put.Failed piece h = puts_nothing zero (ap shown_of h.1)
  Puts-told (suc file) put.Failed piece h = puts_nothing (suc file) (ap shown_of h.1)
  Puts-told zero put.NoMemory piece h = puts_nothing zero (ap shown_of h.1)
  Puts-told (suc file) put.NoMemory piece h = puts_nothing (suc file) (ap shown_of h.1)

  faulted : new ≡ after_write_fault old → KeepsLedgerWriting (ledger_of old) (ledger_of new)
  faulted e =
      let P : Memory → Type 0 = λ m. KeepsLedgerWriting (ledger_of old) (ledger_of m) in
      subst P (sym e) (record {
        opened = refl;
        ended = λ _ was. was;
        created = refl;
        given = refl;
        opened_names = refl;
        orderly = refl;
        read_faults = refl;
        write_faults = le-counted old.writing.faults;
      })

  pub Puts-ledger : (file : ℕ) (r : Put) (piece : List ℕ) → Puts old file r piece new
      → KeepsLedgerWriting (ledger_of old) (ledger_of new)
  Puts-ledger zero (put.Took n) piece h =
      let P : Memory → Type 0 = λ m. KeepsLedgerWriting (ledger_of old) (ledger_of m) in
      subst P (sym h.2) (KeepsLedgerWriting-same (ledger_of old))
  Puts-ledger (suc file) (put.Took n) piece h =
      let number = suc file in
      let sends = h.2.sends in
      let after = h.2.after in
      let opened = ap (λ fs k. is_opened (file_of fs k)) sends.after
      ∙ seen_alike-set is_opened old.files number _ _ sends.had refl in
      let ended = ap (λ fs k. is_ended (file_of fs k)) sends.after
      ∙ seen_alike-set is_ended old.files number _ _ sends.had refl in
      let created = ap (λ fs k. is_created (file_of fs k)) sends.after
      ∙ seen_alike-set is_created old.files number _ _ sends.had refl in
      record {
        opened = opened;
        ended = λ k was. ap (λ f. f k) ended ∙ was;
        created = created;
        given = ap length sends.after ∙ length-set old.files (number - 1) _;
        opened_names = ap (λ (m : Memory). m.opened_names) after;
        orderly = refl;
        read_faults = ap (λ (m : Memory). m.reading.faults) after;
        write_faults =
            let same : new.writing.faults ≡ old.writing.faults = ap (λ (m : Memory). m.writing.faults) after in
            omega (arith, same);
      }
  Puts-ledger zero put.Failed piece h = faulted h.1
  Puts-ledger (suc file) put.Failed piece h = faulted h.1
  Puts-ledger zero put.NoMemory piece h =
      let P : Memory → Type 0 = λ m. KeepsLedgerWriting (ledger_of old) (ledger_of m) in
      subst P (sym h.1) (KeepsLedgerWriting-same (ledger_of old))
  Puts-ledger (suc file) put.NoMemory piece h =
      let P : Memory → Type 0 = λ m. KeepsLedgerWriting (ledger_of old) (ledger_of m) in
      subst P (sym h.1) (KeepsLedgerWriting-same (ledger_of old))
