-- What the reader of box files does with each line. The law `a_text_is_one_box_file_or_has_a_fault` says that it comes
-- to what the relation of box files says.
use Rattle.std.specs.Prelude.{ℕ, ◌+◌, List, [], ◌∷◌, length, codes, nat_lt, if◌then◌else◌, Option, Some, None, Result}
use Rattle.std.specs.Prelude.{Ok, Err}
use Rattle.std.specs.Str.{bytes_eq}
use Rattle.std.specs.Str.Lines.{lines}
use Rattle.plain_text.specs.declared.fault.LineCause.{LineCause}
use Rattle.plain_text.specs.declared.fault.LineCause.TheVariants.{UnknownWord, MissingWord, Twice, MissingLine}
use Rattle.plain_text.specs.declared.fault.LineFault.{LineFault}
use Rattle.plain_text.specs.Fields.{fields_of}
use Rattle.plain_text.specs.Lines.{words_of, counted_lines}
use Rattle.sha2.specs.Sha256.{sha256}
use Rattle.box_conf.specs.Names.{named_in, fault_of_names}
use Rattle.box_conf.specs.declared.kind.BoxConf.{BoxConf}
use Rattle.box_conf.specs.declared.kind.KindWord.{KindWord}
use Rattle.box_conf.specs.declared.names.Named.{Named}
use Rattle.box_conf.specs.declared.settings.Settings.{Settings}
use Rattle.box_conf.specs.declared.table.BoxLine.{BoxLine}
use Rattle.box_conf.specs.Settings.{has_stood, values_set, line_read, set_values}
use Rattle.box_conf.specs.Kinds.{kind_named, line_named, missing_line, conf_from}

abbrev pub and_end : Option KindWord → Result (List ℕ) LineCause → Result KindWord LineCause
and_end None end = Err UnknownWord
and_end (Some k) (Ok numbers) = Ok k
and_end (Some k) (Err cause) = Err cause

-- the words after `box`
abbrev pub box_line : List (List ℕ) → Result KindWord LineCause
box_line [] = Err MissingWord
box_line (word ∷ words) = and_end (kind_named word) (fields_of [] words)

-- the first line names the kind
abbrev pub first_line : List (List ℕ) → Result KindWord LineCause
first_line [] = Err UnknownWord
first_line (word ∷ words) = if bytes_eq word (codes "box") then box_line words else Err UnknownWord

-- a second line that names a kind
abbrev pub second_box : Result KindWord LineCause → Result Settings LineCause
second_box (Ok k) = Err Twice
second_box (Err cause) = Err cause

-- a line that sets values, if it is one of the kind
abbrev pub set_by : KindWord → Settings → Option BoxLine → List (List ℕ) → Result Settings LineCause
set_by k s None words = Err UnknownWord
set_by k s (Some line) words = set_values s line (line_read line (has_stood s line) words)

-- the settings after a later line with these words
abbrev pub set_line : KindWord → Settings → List (List ℕ) → Result Settings LineCause
set_line k s [] = Err UnknownWord
set_line k s (word ∷ words) =
    if bytes_eq word (codes "box") then second_box (box_line words) else set_by k s (line_named k word) words

abbrev pub fault_at : ℕ → LineCause → LineFault
fault_at line cause = record { line = line; cause = cause }

abbrev pub and_lines : ℕ → Result Settings LineCause → (Settings → Result Settings LineFault)
    → Result Settings LineFault
and_lines number (Ok next) more = more next
and_lines number (Err cause) more = Err (fault_at number cause)

-- the settings after these lines, each with its number, or the first fault
abbrev pub set_lines : KindWord → Settings → List (ℕ × List ℕ) → Result Settings LineFault
set_lines k s [] = Ok s
set_lines k s (line ∷ lines) = and_lines line.0 (set_line k s (words_of line.1)) (λ next. set_lines k next lines)

abbrev pub no_settings : Settings
no_settings = record {
  threads = None;
  seed = None;
  shards = None;
  vlan = None;
  inside = None;
  outside = None;
  ports = None;
  closing = None;
  limit = None;
  icmp = None;
  static_port = None;
  virtual_end = None;
  backend = None;
  seal = None;
}

-- the box of these settings, if no line is missing, where the file has this digest and this count of lines
abbrev pub whole_box : List ℕ → ℕ → KindWord → Named → Settings → Option BoxLine → Result BoxConf LineFault
whole_box digest count k names s None = Ok (conf_from digest k (values_set s) names)
whole_box digest count k names s (Some line) = Err (fault_at (count + 1) MissingLine)

abbrev pub conf_of : List ℕ → ℕ → KindWord → Named → Result Settings LineFault → Result BoxConf LineFault
conf_of digest count k names (Ok s) = whole_box digest count k names s (missing_line k s)
conf_of digest count k names (Err fault) = Err fault

abbrev pub and_kind : List ℕ → ℕ → ℕ → Named → Result KindWord LineCause → List (ℕ × List ℕ)
    → Result BoxConf LineFault
and_kind digest count line names (Ok k) lines = conf_of digest count k names (set_lines k no_settings lines)
and_kind digest count line names (Err cause) lines = Err (fault_at line cause)

-- the lines that count, of a file with this digest and this count of lines
abbrev pub box_of_lines : List ℕ → ℕ → List (ℕ × List ℕ) → Result BoxConf LineFault
box_of_lines digest count [] = Err (fault_at (count + 1) MissingLine)
box_of_lines digest count (line ∷ lines) =
    and_kind digest count line.0 (named_in (line ∷ lines)) (first_line (words_of line.1)) lines

-- the box that a file describes by the table of its kind, or the first fault by it
abbrev pub described_box : List ℕ → Result BoxConf LineFault
described_box text = box_of_lines (sha256 text) (length (lines text)) (counted_lines text)

abbrev pub earlier : LineFault → LineFault → LineFault
earlier of_table of_names = if nat_lt of_names.line of_table.line then of_names else of_table

abbrev pub or_names : Result BoxConf LineFault → Option LineFault → Result BoxConf LineFault
or_names (Ok conf) None = Ok conf
or_names (Ok conf) (Some fault) = Err fault
or_names (Err fault) None = Err fault
or_names (Err of_table) (Some of_names) = Err (earlier of_table of_names)

-- the box that a file describes, or its first fault
abbrev pub box_of : List ℕ → Result BoxConf LineFault
box_of text = or_names (described_box text) (fault_of_names (counted_lines text))
