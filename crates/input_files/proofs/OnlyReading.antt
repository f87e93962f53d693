-- What opens files of a list of names, and of more of them behind.
use Rattle.std.proofs.Common.{◌≡◌, ℕ, List, [], ◌++◌, refl, sym, ap, ◌∙◌, arith, append-nil, append_assoc}
use Rattle.std.proofs.Common.{length-append}
use Rattle.world_io.specs.World.{Ledger}
use Rattle.input_files.specs.Files.{OpensAll, OpensFirst, OnlyReads}

-- a list of names is a first part of itself with more behind it
pub OpensFirst-more : (names more : List (List ℕ)) (a b : Ledger) → OpensFirst names a b
    → OpensFirst (names ++ more) a b
OpensFirst-more names more a b o = record {
  first = o.first;
  rest = o.rest ++ more;
  names_are = ap (λ l. l ++ more) o.names_are ∙ append_assoc o.first o.rest more;
  opened = o.opened;
}

-- all the first names were opened, and then a first part of the others
pub OpensFirst-then : (names more : List (List ℕ)) (a b c : Ledger) → OpensAll names a b → OpensFirst more b c
    → OpensFirst (names ++ more) a c
OpensFirst-then names more a b c all o = record {
  first = names ++ o.first;
  rest = o.rest;
  names_are = ap (λ l. names ++ l) o.names_are ∙ sym (append_assoc names o.first o.rest);
  opened = o.opened ∙ ap (λ l. l ++ o.first) all ∙ append_assoc a.opened_names names o.first;
}

-- the same of the lists of all the names, with all of the others behind
pub opened_then : (names more a b c : List (List ℕ)) → b ≡ a ++ names → c ≡ b ++ more → c ≡ a ++ (names ++ more)
opened_then names more a b c first then = then ∙ ap (λ l. l ++ more) first ∙ append_assoc a names more

pub OpensFirst-none : (names : List (List ℕ)) (a b : Ledger) → b.opened_names ≡ a.opened_names → OpensFirst names a b
OpensFirst-none names a b same =
    record { first = []; rest = names; names_are = refl; opened = same ∙ sym (append-nil a.opened_names) }

pub OpensFirst-all : (names : List (List ℕ)) (a b : Ledger) → OpensAll names a b → OpensFirst names a b
OpensFirst-all names a b all =
    record { first = names; rest = []; names_are = sym (append-nil names); opened = all }

module _ {W : Type 0} (ledger : W → Ledger) (healthy : W → Type 0) where
  -- fewer files of the same names
  pub OnlyReads-more : (names more : List (List ℕ)) (a b : W) → OnlyReads ledger healthy names a b
      → OnlyReads ledger healthy (names ++ more) a b
  OnlyReads-more names more a b r = record {
    ledger = record {
      created = r.ledger.created;
      given = omega (arith, length-append names more, r.ledger.given);
      opened = OpensFirst-more names more (ledger a) (ledger b) r.ledger.opened;
      orderly = r.ledger.orderly;
      read_faults = r.ledger.read_faults;
      write_faults = r.ledger.write_faults;
    };
    stays_healthy = r.stays_healthy;
  }

  -- all the first names were opened, and then others were read
  pub OnlyReads-then : (names more : List (List ℕ)) (a b c : W) → OnlyReads ledger healthy names a b
      → OpensAll names (ledger a) (ledger b) → OnlyReads ledger healthy more b c
      → OnlyReads ledger healthy (names ++ more) a c
  OnlyReads-then names more a b c r all s = record {
    ledger = record {
      created = s.ledger.created ∙ r.ledger.created;
      given = omega (arith, length-append names more, r.ledger.given, s.ledger.given);
      opened = OpensFirst-then names more (ledger a) (ledger b) (ledger c) all s.ledger.opened;
      orderly = λ none.
          s.ledger.orderly (λ k. ap (λ f. f k) r.ledger.created ∙ none k)
          ∙ r.ledger.orderly none;
      read_faults = omega (arith, r.ledger.read_faults, s.ledger.read_faults);
      write_faults = s.ledger.write_faults ∙ r.ledger.write_faults;
    };
    stays_healthy = λ well. s.stays_healthy (r.stays_healthy well);
  }
