-- A world in memory, as plain data, and what each of its calls does.
use Rattle.std.specs.Prelude.{◌≡◌, ◌⊎◌, ℕ, zero, suc, ◌+◌, ◌==◌, true, false, List, [], ◌∷◌, ◌++◌, Some, None, Result}
use Rattle.std.specs.Prelude.{Ok, Err, length, if◌then◌else◌}
use Rattle.world_io.specs.declared.names.NamedBytes.{NamedBytes}
use Rattle.world_io.specs.declared.memory_file.MemoryFile.{MemoryFile}
use Rattle.world_io.specs.declared.memory_file.MemoryFile.TheVariants.{Opened, Created}
use Rattle.world_io.specs.declared.stream.Filled.{Filled}
use Rattle.world_io.specs.declared.stream.Filled.TheVariants as filled
use Rattle.world_io.specs.declared.stream.Put.{Put}
use Rattle.world_io.specs.declared.stream.Put.TheVariants as put
use Rattle.world_io.specs.declared.world.OpenFault.{OpenFault}
use Rattle.world_io.specs.declared.world.OpenFault.TheVariants.{Failed, NoMemory}
use Rattle.world_io.specs.Stream.{filled_bytes, EndsAtEnd}
use Rattle.world_io.specs.Names.{bytes_under, SetsName, AppendsToName}
use Rattle.world_io.specs.Files.{file_of, is_opened, is_ended, is_created, left_in, sent_to, name_in}
use Rattle.world_io.specs.Files.{TakesFromFile, SendsToFile}
use Rattle.world_io.specs.Calls.{CallCount, next_fails, after_call, after_fault, NoneIsToFail}
use Rattle.world_io.specs.World.{Shown, Ledger}

-- the names with their bytes, the files in the order of their numbers, the names of the opened ones in the order of
-- opening, the report, and the calls of reading and of writing
pub record Memory : Type 0 where
  pub names : List NamedBytes
  pub files : List MemoryFile
  pub opened_names : List (List ℕ)
  pub report : List ℕ
  pub reading : CallCount
  pub writing : CallCount

abbrev pub no_calls : CallCount
no_calls = record { made = 0; failing = []; faults = 0 }

abbrev pub empty_memory : Memory
empty_memory = record { names = []; files = []; opened_names = []; report = []; reading = no_calls; writing = no_calls }

-- no call that is still to come was told to fail
abbrev pub IsHealthy : Memory → Type 0
IsHealthy m = NoneIsToFail m.reading × NoneIsToFail m.writing

abbrev pub shown_of : Memory → Shown
shown_of m = record {
  names = bytes_under m.names;
  left = λ k. left_in (file_of m.files k);
  sent = λ k. if k == 0 then m.report else sent_to (file_of m.files k);
  name_of = λ k. name_in (file_of m.files k);
}

abbrev pub ledger_of : Memory → Ledger
ledger_of m = record {
  opened = λ k. is_opened (file_of m.files k);
  ended = λ k. is_ended (file_of m.files k);
  created = λ k. is_created (file_of m.files k);
  given = length m.files;
  opened_names = m.opened_names;
  orderly = true;
  read_faults = m.reading.faults;
  write_faults = m.writing.faults;
}

abbrev pub after_read : Memory → Memory
after_read m = record m { reading = after_call m.reading }

abbrev pub after_read_fault : Memory → Memory
after_read_fault m = record m { reading = after_fault m.reading }

abbrev pub after_write : Memory → Memory
after_write m = record m { writing = after_call m.writing }

abbrev pub after_write_fault : Memory → Memory
after_write_fault m = record m { writing = after_fault m.writing }

-- an opening fails exactly where it was told to, or where the name is not there
abbrev pub Opens : Memory → List ℕ → Result ℕ OpenFault → Memory → Type 0
Opens old name (Ok file) new =
    (next_fails old.reading ≡ false) × (file ≡ length old.files + 1) × ((bytes : List ℕ)
    × (bytes_under old.names name ≡ Some bytes)
    × (new ≡ record (after_read old) {
      files = old.files ++ Opened bytes ∷ [];
      opened_names = old.opened_names ++ name ∷ [];
    }))
Opens old name (Err Failed) new =
    ((next_fails old.reading ≡ true) ⊎ (bytes_under old.names name ≡ None)) × (new ≡ after_read_fault old)
Opens old name (Err NoMemory) new = (next_fails old.reading ≡ false) × (new ≡ after_read old)

-- a fill fails exactly where it was told to
abbrev pub Fills : Memory → ℕ → Filled → List ℕ → Memory → Type 0
Fills old file filled.Failed piece new = (next_fails old.reading ≡ true) × (new ≡ after_read_fault old)
Fills old file (filled.Got n) piece new =
    (next_fails old.reading ≡ false)
    × EndsAtEnd (filled.Got n) (left_in (file_of old.files file))
    × TakesFromFile file (filled_bytes (filled.Got n) piece) old.files new.files
    × (new ≡ record (after_read old) { files = new.files })
Fills old file filled.End piece new =
    (next_fails old.reading ≡ false) × EndsAtEnd filled.End (left_in (file_of old.files file)) × (new ≡ after_read old)

-- a creation fails exactly where it was told to
abbrev pub Creates : Memory → List ℕ → Result ℕ OpenFault → Memory → Type 0
Creates old name (Ok file) new =
    (next_fails old.writing ≡ false) × (file ≡ length old.files + 1) × SetsName name [] old.names new.names
    × (new ≡ record (after_write old) {
      names = new.names;
      files = old.files ++ Created (record { name = name; sent = [] }) ∷ [];
    })
Creates old name (Err Failed) new = (next_fails old.writing ≡ true) × (new ≡ after_write_fault old)
Creates old name (Err NoMemory) new = (next_fails old.writing ≡ false) × (new ≡ after_write old)

-- the bytes go to a created file, and to the bytes of the name that it has
pub record Sends (file : ℕ) (bytes : List ℕ) (old new : Memory) : Type 0 where
  pub sends : SendsToFile file bytes old.files new.files
  pub appends : AppendsToName (name_in (file_of old.files file)) bytes old.names new.names
  pub after : new ≡ record old { names = new.names; files = new.files }

-- a put fails exactly where it was told to, and else takes all of the piece
abbrev pub Puts : Memory → ℕ → Put → List ℕ → Memory → Type 0
Puts old zero (put.Took n) piece new =
    (next_fails old.writing ≡ false)
    × (n ≡ length piece)
    × (new ≡ record (after_write old) { report = old.report ++ piece })
Puts old (suc file) (put.Took n) piece new =
    (next_fails old.writing ≡ false) × (n ≡ length piece) × Sends (suc file) piece (after_write old) new
Puts old file put.Failed piece new = (next_fails old.writing ≡ true) × (new ≡ after_write_fault old)
Puts old file put.NoMemory piece new = (next_fails old.writing ≡ false) × (new ≡ after_write old)
