-- What a source or a sink over one file of a world does to that world, and that it does so by one call as by two.
use Rattle.std.specs.Prelude.{◌≡◌, ℕ, List, [], ◌++◌, Some, refl}
use Rattle.std.proofs.Common.{sym, ◌∙◌, ap, subst, arith, append_assoc, append-nil}
use Rattle.world_io.specs.World.{Start, Shown, Ledger, KeepsLedgerReading, KeepsLedgerWriting, ReadsFile, WritesFile}

-- These bytes were taken from one file of a world, by each beginning of which its answers are honest.
pub record ReadsOneFile {W : Type 0} (honest : Start → W → Type 0)
    (shows : Start → W → Shown) (ledger : W → Ledger) (file : ℕ) (taken : List ℕ) (old new : W) : Type 0 where
  pub ledger_kept : KeepsLedgerReading (ledger old) (ledger new)
  pub honest_read : (p : Start) → honest p new → honest p old × ReadsFile file taken (shows p old) (shows p new)

-- These bytes were appended to one file of a world, by each beginning of which its answers are honest.
pub record WritesOneFile {W : Type 0} (honest : Start → W → Type 0)
    (shows : Start → W → Shown) (ledger : W → Ledger) (file : ℕ) (bytes : List ℕ) (old new : W) : Type 0 where
  pub ledger_kept : KeepsLedgerWriting (ledger old) (ledger new)
  pub honest_written : (p : Start) → honest p new → honest p old × WritesFile file bytes (shows p old) (shows p new)

pub KeepsLedgerReading-same : (a : Ledger) → KeepsLedgerReading a a
KeepsLedgerReading-same a =
    record {
      opened = refl;
      ended = λ _ was. was;
      created = refl;
      given = refl;
      opened_names = refl;
      orderly = refl;
      read_faults = omega arith;
      write_faults = refl;
    }

pub KeepsLedgerReading-more : (a b c : Ledger) → KeepsLedgerReading a b → KeepsLedgerReading b c
    → KeepsLedgerReading a c
KeepsLedgerReading-more a b c r s = record {
  opened = s.opened ∙ r.opened;
  ended = λ k was. s.ended k (r.ended k was);
  created = s.created ∙ r.created;
  given = s.given ∙ r.given;
  opened_names = s.opened_names ∙ r.opened_names;
  orderly = s.orderly ∙ r.orderly;
  read_faults = omega (arith, r.read_faults, s.read_faults);
  write_faults = s.write_faults ∙ r.write_faults;
}

pub KeepsLedgerWriting-same : (a : Ledger) → KeepsLedgerWriting a a
KeepsLedgerWriting-same a =
    record {
      opened = refl;
      ended = λ _ was. was;
      created = refl;
      given = refl;
      opened_names = refl;
      orderly = refl;
      read_faults = refl;
      write_faults = omega arith;
    }

pub KeepsLedgerWriting-more : (a b c : Ledger) → KeepsLedgerWriting a b → KeepsLedgerWriting b c
    → KeepsLedgerWriting a c
KeepsLedgerWriting-more a b c r s = record {
  opened = s.opened ∙ r.opened;
  ended = λ k was. s.ended k (r.ended k was);
  created = s.created ∙ r.created;
  given = s.given ∙ r.given;
  opened_names = s.opened_names ∙ r.opened_names;
  orderly = s.orderly ∙ r.orderly;
  read_faults = s.read_faults ∙ r.read_faults;
  write_faults = omega (arith, r.write_faults, s.write_faults);
}

pub ReadsFile-nothing : (file : ℕ) (a : Shown) → ReadsFile file [] a a
ReadsFile-nothing file a =
    record { left = refl; other_left = λ _ _. refl; names = refl; sent = refl; name_of = refl }

pub ReadsFile-more : (file : ℕ) (first more : List ℕ) (a b c : Shown) → ReadsFile file first a b
    → ReadsFile file more b c → ReadsFile file (first ++ more) a c
ReadsFile-more file first more a b c r s = record {
  left = r.left ∙ ap (λ rest. first ++ rest) s.left ∙ sym (append_assoc first more (c.left file));
  other_left = λ k other. s.other_left k other ∙ r.other_left k other;
  names = s.names ∙ r.names;
  sent = s.sent ∙ r.sent;
  name_of = s.name_of ∙ r.name_of;
}

pub WritesFile-nothing : (file : ℕ) (a : Shown) → WritesFile file [] a a
WritesFile-nothing file a = record {
  sent = sym (append-nil (a.sent file));
  other_sent = λ _ _. refl;
  named = λ had _ there. there ∙ ap Some (sym (append-nil had));
  other_names = λ _ _. refl;
  name_of = refl;
  left = refl;
}

pub WritesFile-more : (file : ℕ) (first more : List ℕ) (a b c : Shown) → WritesFile file first a b
    → WritesFile file more b c → WritesFile file (first ++ more) a c
WritesFile-more file first more a b c r s =
    let same : b.name_of file ≡ a.name_of file = ap (λ f. f file) r.name_of in
    record {
      sent = s.sent ∙ ap (λ l. l ++ more) r.sent ∙ append_assoc (a.sent file) first more;
      other_sent = λ k other. s.other_sent k other ∙ r.other_sent k other;
      named = λ had some there.
          ap c.names (sym same)
          ∙ s.named (had ++ first) some (ap b.names same ∙ r.named had some there)
          ∙ ap Some (append_assoc had first more);
      other_names = λ name other. s.other_names name (λ some e. other some (e ∙ same)) ∙ r.other_names name other;
      name_of = s.name_of ∙ r.name_of;
      left = s.left ∙ r.left;
    }

module _ {W : Type 0} (honest : Start → W → Type 0) (shows : Start → W → Shown)
    (ledger : W → Ledger) where
  abbrev pub Reads : ℕ → List ℕ → W → W → Type 0
  Reads = ReadsOneFile honest shows ledger

  abbrev pub Writes : ℕ → List ℕ → W → W → Type 0
  Writes = WritesOneFile honest shows ledger

  pub ReadsOneFile-nothing : (file : ℕ) (a : W) → Reads file [] a a
  ReadsOneFile-nothing file a = record {
    ledger_kept = KeepsLedgerReading-same (ledger a);
    honest_read = λ p h. (h, ReadsFile-nothing file (shows p a));
  }

  -- the same file, as a later state of the source names it
  pub ReadsOneFile-more : (file next : ℕ) (first more : List ℕ) (a b c : W) → next ≡ file → Reads file first a b
      → Reads next more b c → Reads file (first ++ more) a c
  ReadsOneFile-more file next first more a b c same r s =
      let P : ℕ → Type 0 = λ k. Reads k more b c in
      let t = subst P same s in record {
        ledger_kept = KeepsLedgerReading-more (ledger a) (ledger b) (ledger c) r.ledger_kept t.ledger_kept;
        honest_read = λ p h.
            let later = t.honest_read p h in
            let earlier = r.honest_read p later.0 in
            (earlier.0, ReadsFile-more file first more (shows p a) (shows p b) (shows p c) earlier.1 later.1);
      }

  pub WritesOneFile-nothing : (file : ℕ) (a : W) → Writes file [] a a
  WritesOneFile-nothing file a = record {
    ledger_kept = KeepsLedgerWriting-same (ledger a);
    honest_written = λ p h. (h, WritesFile-nothing file (shows p a));
  }

  pub WritesOneFile-more : (file next : ℕ) (first more : List ℕ) (a b c : W) → next ≡ file → Writes file first a b
      → Writes next more b c → Writes file (first ++ more) a c
  WritesOneFile-more file next first more a b c same r s =
      let P : ℕ → Type 0 = λ k. Writes k more b c in
      let t = subst P same s in record {
        ledger_kept = KeepsLedgerWriting-more (ledger a) (ledger b) (ledger c) r.ledger_kept t.ledger_kept;
        honest_written = λ p h.
            let later = t.honest_written p h in
            let earlier = r.honest_written p later.0 in
            (earlier.0, WritesFile-more file first more (shows p a) (shows p b) (shows p c) earlier.1 later.1);
      }
