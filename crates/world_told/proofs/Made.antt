-- What each call does to the record of calls and to the ledger that goes with it.
use Rattle.std.proofs.Common.{◌≡◌, ℕ, ◌==◌, ◌&&◌, ◌||◌, Bool, true, false, List, [], ◌∷◌, refl, sym, ap, ◌∙◌}
use Rattle.std.proofs.Common.{inl, inr, IsTrue}
use Rattle.std.specs.Prelude.{not}
use Rattle.std.proofs.lemmas.Bool.{cases_Bool, or_left, or_right, and_from, eqb-true, eqb-false, eq-eqb}
use Rattle.std.proofs.lemmas.Bool.{not_from_false, false_from_ne_true}
use Rattle.world_io.specs.declared.stream.Filled.{Filled}
use Rattle.world_io.specs.declared.stream.Filled.TheVariants.{Got, End, Failed}
use Rattle.world_io.specs.declared.stream.Put.{Put}
use Rattle.world_io.specs.declared.stream.Put.TheVariants as put
use Rattle.world_io.specs.World.{Ledger, KeepsLedgerReading, KeepsLedgerWriting, GivesOpened, GivesCreated}
use Rattle.world_io.specs.World.{FilledNothing, is_writable}
use Rattle.world_told.specs.declared.record.Call.TheVariants.{Opened, Read, Ended, Created, Wrote}
use Rattle.world_told.specs.Events.{Event, after_fill, after_put}
use Rattle.world_told.specs.Ledgers.{told_ledger, WereMade}
use Rattle.world_told.specs.Orderly.{opened_in, ended_in, created_in, name_created, are_orderly}

pub contrary : {b : Bool} → b ≡ true → b ≡ false → ⊥
contrary is not = let no : true ≡ false = sym is ∙ not in cc

pub own : (k : ℕ) → (k == k) ≡ true
own k = eq-eqb k k refl

and_with : (a b : Bool) → a ≡ true → (a && b) ≡ b
and_with a b is = rw is refl

pub or_without : (a b : Bool) → a ≡ false → (a || b) ≡ b
or_without a b is = rw is refl

other : (k file : ℕ) → ¬ (k ≡ file) → (k == file) ≡ false
other k file differ = false_from_ne_true (k == file) (λ same. differ (eqb-true k file same))

-- What was new in a record is new, or was there before

module _ (new : ℕ → Bool) (had : ℕ → Bool) (file : ℕ) where
  -- a fact of each number that was there before, and of a new one
  pub with_one : new file ≡ true → ((k : ℕ) → ¬ (k ≡ file) → had k ≡ true → new k ≡ true) → (old : ℕ → Bool)
      → ((k : ℕ) → old k ≡ true → had k ≡ true) → (k : ℕ) → ((k == file) || old k) ≡ true → new k ≡ true
  with_one is others old were k e = elim (cases_Bool (k == file)) [
    | inl same ↦ ap new (eqb-true k file same) ∙ is
    | inr differs ↦
        others k (eqb-false k file differs) (were k (sym (or_without (k == file) (old k) differs) ∙ e))
  ]

module _ (calls : List Event) (old new : Ledger) (made : WereMade calls old) where
  pub made_reading : KeepsLedgerReading old new → WereMade calls new
  made_reading keeps = record {
    opened = λ k is. ap (λ f. f k) keeps.opened ∙ made.opened k is;
    ended = λ k is. keeps.ended k (made.ended k is);
    created = λ k is. ap (λ f. f k) keeps.created ∙ made.created k is;
  }

  pub made_writing : KeepsLedgerWriting old new → WereMade calls new
  made_writing keeps = record {
    opened = λ k is. ap (λ f. f k) keeps.opened ∙ made.opened k is;
    ended = λ k is. keeps.ended k (made.ended k is);
    created = λ k is. ap (λ f. f k) keeps.created ∙ made.created k is;
  }

  pub made_open : (name : List ℕ) (file : ℕ) → GivesOpened name file old new
      → WereMade ((Opened file, name) ∷ calls) new
  made_open name file gives = record {
    opened = with_one new.opened old.opened file gives.opened (λ k differ was. gives.others k differ ∙ was)
        (λ k. opened_in k calls) made.opened;
    ended = λ k is. gives.ended k (made.ended k is);
    created = λ k is. ap (λ f. f k) gives.created ∙ made.created k is;
  }

  pub made_create : (name : List ℕ) (file : ℕ) → GivesCreated file old new
      → WereMade ((Created file, name) ∷ calls) new
  made_create name file gives = record {
    opened = λ k is. ap (λ f. f k) gives.opened ∙ made.opened k is;
    ended = λ k is. gives.ended k (made.ended k is);
    created = with_one new.created old.created file gives.created (λ k differ was. gives.others k differ ∙ was)
        (λ k. created_in k calls) made.created;
  }

  pub made_fill : (file : ℕ) (filled : Filled) (piece : List ℕ) → KeepsLedgerReading old new
      → (filled ≡ End → new.ended file ≡ true) → WereMade (after_fill file filled piece calls) new
  made_fill file (Got n) piece keeps found =
      let m = made_reading keeps in record { opened = m.opened; ended = m.ended; created = m.created }
  made_fill file End piece keeps found =
      let m = made_reading keeps in
      record {
        opened = m.opened;
        ended = with_one new.ended new.ended file (found refl) (λ k differ was. was) (λ k. ended_in k calls) m.ended;
        created = m.created;
      }
  made_fill file Failed piece keeps found = made_reading keeps

  pub made_put : (file : ℕ) (put : Put) (piece : List ℕ) → KeepsLedgerWriting old new
      → WereMade (after_put file put piece calls) new
  made_put file (put.Took n) piece keeps =
      let m = made_writing keeps in record { opened = m.opened; ended = m.ended; created = m.created }
  made_put file put.Failed piece keeps = made_writing keeps
  made_put file put.NoMemory piece keeps = made_writing keeps

-- no name was created where no file was
none_named : (name : List ℕ) (calls : List Event) → ((k : ℕ) → created_in k calls ≡ false)
    → name_created name calls ≡ false
none_named name [] none = refl
none_named name ((Opened k, own) ∷ earlier) none = none_named name earlier none
none_named name ((Read k, own) ∷ earlier) none = none_named name earlier none
none_named name ((Ended k, own) ∷ earlier) none = none_named name earlier none
none_named name ((Created k, by) ∷ earlier) none =
    absurd (contrary (or_left (k == k) (created_in k earlier) (own k)) (none k))
none_named name ((Wrote k, own) ∷ earlier) none = none_named name earlier none

-- The ledger after each call

module _ {W : Type 0} (ledger : W → Ledger) (a b : W) (calls : List Event) (made : WereMade calls (ledger a)) where
  abbrev was : Ledger
  was = told_ledger ledger (record { world = a; calls = calls })

  abbrev is : List Event → Ledger
  is now = told_ledger ledger (record { world = b; calls = now })

  not_opened : (file : ℕ) → (ledger a).opened file ≡ false → opened_in file calls ≡ false
  not_opened file none = false_from_ne_true (opened_in file calls) (λ e. contrary (made.opened file e) none)

  not_created : (file : ℕ) → (ledger a).created file ≡ false → created_in file calls ≡ false
  not_created file none = false_from_ne_true (created_in file calls) (λ e. contrary (made.created file e) none)

  pub told_same_reading : KeepsLedgerReading (ledger a) (ledger b) → KeepsLedgerReading was (is calls)
  told_same_reading keeps = record {
    opened = refl;
    ended = λ k e. e;
    created = refl;
    given = keeps.given;
    opened_names = keeps.opened_names;
    orderly = refl;
    read_faults = keeps.read_faults;
    write_faults = keeps.write_faults;
  }

  pub told_same_writing : KeepsLedgerWriting (ledger a) (ledger b) → KeepsLedgerWriting was (is calls)
  told_same_writing keeps = record {
    opened = refl;
    ended = λ k e. e;
    created = refl;
    given = keeps.given;
    opened_names = keeps.opened_names;
    orderly = refl;
    read_faults = keeps.read_faults;
    write_faults = keeps.write_faults;
  }

  pub told_opens : (name : List ℕ) (file : ℕ) → GivesOpened name file (ledger a) (ledger b)
      → GivesOpened name file was (is ((Opened file, name) ∷ calls))
  told_opens name file gives = record {
    fresh = record {
      not_report = gives.fresh.not_report;
      not_opened = not_opened file gives.fresh.not_opened;
      not_created = not_created file gives.fresh.not_created;
    };
    opened = or_left (file == file) (opened_in file calls) (own file);
    others = λ k differ. or_without (k == file) (opened_in k calls) (other k file differ);
    ended = λ k e. e;
    created = refl;
    given = gives.given;
    opened_names = gives.opened_names;
    orderly = λ none. and_with _ (are_orderly calls)
        (and_from (not (name_created name calls)) (not (opened_in file calls))
        (not_from_false (name_created name calls) (none_named name calls none))
        (not_from_false (opened_in file calls) (not_opened file gives.fresh.not_opened)));
    read_faults = gives.read_faults;
    write_faults = gives.write_faults;
  }

  pub told_creates : (name : List ℕ) (file : ℕ) → GivesCreated file (ledger a) (ledger b)
      → GivesCreated file was (is ((Created file, name) ∷ calls))
  told_creates name file gives = record {
    fresh = record {
      not_report = gives.fresh.not_report;
      not_opened = not_opened file gives.fresh.not_opened;
      not_created = not_created file gives.fresh.not_created;
    };
    created = or_left (file == file) (created_in file calls) (own file);
    others = λ k differ. or_without (k == file) (created_in k calls) (other k file differ);
    opened = refl;
    ended = λ k e. e;
    given = gives.given;
    opened_names = gives.opened_names;
    orderly = refl;
    read_faults = gives.read_faults;
    write_faults = gives.write_faults;
  }

  pub told_fills : (file : ℕ) (filled : Filled) (piece : List ℕ) → opened_in file calls ≡ true
      → KeepsLedgerReading (ledger a) (ledger b) → ((ledger a).ended file ≡ true → FilledNothing filled)
      → KeepsLedgerReading was (is (after_fill file filled piece calls))
  told_fills file (Got n) piece opened keeps nothing = record {
    opened = refl;
    ended = λ k e. e;
    created = refl;
    given = keeps.given;
    opened_names = keeps.opened_names;
    orderly = and_with _ (are_orderly calls) (and_from (opened_in file calls) (not (ended_in file calls)) opened
        (not_from_false (ended_in file calls)
        (false_from_ne_true (ended_in file calls) (λ e. nothing (made.ended file e)))));
    read_faults = keeps.read_faults;
    write_faults = keeps.write_faults;
  }
  told_fills file End piece opened keeps nothing = record {
    opened = refl;
    ended = λ k e. or_right (k == file) (ended_in k calls) e;
    created = refl;
    given = keeps.given;
    opened_names = keeps.opened_names;
    orderly = and_with (opened_in file calls) (are_orderly calls) opened;
    read_faults = keeps.read_faults;
    write_faults = keeps.write_faults;
  }
  told_fills file Failed piece opened keeps nothing = told_same_reading keeps

  pub told_puts : (file : ℕ) (put : Put) (piece : List ℕ) → IsTrue (is_writable was file)
      → KeepsLedgerWriting (ledger a) (ledger b) → KeepsLedgerWriting was (is (after_put file put piece calls))
  told_puts file (put.Took n) piece writable keeps = record {
    opened = refl;
    ended = λ k e. e;
    created = refl;
    given = keeps.given;
    opened_names = keeps.opened_names;
    orderly = and_with _ (are_orderly calls) writable;
    read_faults = keeps.read_faults;
    write_faults = keeps.write_faults;
  }
  told_puts file put.Failed piece writable keeps = told_same_writing keeps
  told_puts file put.NoMemory piece writable keeps = told_same_writing keeps

-- an end that was found is in the record
pub end_noted : (file : ℕ) (filled : Filled) (piece : List ℕ) (calls : List Event) → filled ≡ End
    → ended_in file (after_fill file filled piece calls) ≡ true
end_noted file (Got n) piece calls ended = cc
end_noted file End piece calls ended = or_left (file == file) (ended_in file calls) (own file)
end_noted file Failed piece calls ended = cc
