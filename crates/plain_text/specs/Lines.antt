-- The lines, words and numbers of a text file: one rule for box files, scripts, plans and schedules.
--
-- A line ends at a line feed, which the last line may lack; a carriage return just before the line feed is dropped.
-- That is std's `lines`, here over any bytes. Words are separated by spaces and tabs. Lines are numbered from 1, and a
-- line without words, or whose first word begins with `#`, does not count.
use Rattle.std.specs.Prelude.{ℕ, zero, suc, ◌+◌, ◌*◌, ◌^◌, ◌||◌, ◌&&◌, ◌==◌, Bool, false, not, List, [], ◌∷◌, length}
use Rattle.std.specs.Prelude.{filter, slice_index, nat_lt, nat_le, if◌then◌else◌, Option, Some, None}
use Rattle.std.specs.List.{slice_split, enumerate_from, list_all}
use Rattle.std.specs.Str.Lines.{lines}
use Rattle.std.specs.Str.Parse.{digits_value}
use Rattle.std.specs.Char.{is_ascii_digit}

-- a space or a tab
abbrev pub is_blank : ℕ → Bool
is_blank b = b == 32 || b == 9

-- the words of a line: what stands between blanks, where that is not empty
abbrev pub words_of : List ℕ → List (List ℕ)
words_of line = filter (λ word. nat_lt 0 (length word)) (slice_split is_blank line)

-- whether a line with these words counts: there is a word, and the first does not begin with `#`
abbrev pub words_count : List (List ℕ) → Bool
words_count [] = false
words_count (word ∷ words) = not (slice_index word 0 == 35)

-- the lines that count, each with its number, where the first line has the number given
abbrev pub counted_from : ℕ → List ℕ → List (ℕ × List ℕ)
counted_from first text = filter (λ line. words_count (words_of line.1)) (enumerate_from first (lines text))

abbrev pub counted_lines : List ℕ → List (ℕ × List ℕ)
counted_lines text = counted_from 1 text

-- a number is 1 to 20 decimal digits with a value below 2^64; leading zeros are accepted
abbrev pub is_number : List ℕ → Bool
is_number word =
    nat_lt 0 (length word) && nat_le (length word) 20 && list_all is_ascii_digit word
    && nat_lt (digits_value 10 word) (2 ^ 64)

abbrev pub number_of : List ℕ → Option ℕ
number_of word = if is_number word then Some (digits_value 10 word) else None

-- An address is four octets, which are numbers of 0 to 255, joined by dots; the first octet is the highest of its 32
-- bits (RFC 1123, section 2.1).

abbrev pub is_dot : ℕ → Bool
is_dot b = b == 46

abbrev pub is_octet : List ℕ → Bool
is_octet word = is_number word && nat_lt (digits_value 10 word) 256

-- the number whose octets are those of a value and then these, if there are as many
abbrev pub with_octets : ℕ → ℕ → List (List ℕ) → Option ℕ
with_octets zero value [] = Some value
with_octets zero value (part ∷ parts) = None
with_octets (suc count) value [] = None
with_octets (suc count) value (part ∷ parts) =
    if is_octet part then with_octets count (value * 256 + digits_value 10 part) parts else None

abbrev pub address_of : List ℕ → Option ℕ
address_of word = with_octets 4 0 (slice_split is_dot word)
