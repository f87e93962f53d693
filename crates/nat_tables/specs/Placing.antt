-- Where the free ports of one parity stand in memory: a bit for each port, 64 bits in a word, 8 words in a group, 64
-- groups.
use Rattle.std.specs.Prelude.{◌≡◌, ℕ, zero, suc, ◌+◌, ◌/◌, ◌%◌, ◌<◌, Bool, ◌==◌, if◌then◌else◌, List, [], ◌∷◌, ◌++◌}
use Rattle.std.specs.Prelude.{length, take, get_or}
use Rattle.std.specs.List.{All, sum_by}
use Rattle.nat_tables.specs.Ports.{one_if}
use Rattle.nat_tables.specs.declared.port_group.Group.{Group}

-- the ports of parts that stand in a row from `first` on, where each part spans this count of numbers
abbrev pub in_row : {B : Type 0} → (ℕ → B → List ℕ) → ℕ → ℕ → List B → List ℕ
in_row ports span first [] = []
in_row ports span first (b ∷ bs) = ports first b ++ in_row ports span (first + span) bs

abbrev pub bit_ports : ℕ → Bool → List ℕ
bit_ports first bit = if bit then first ∷ [] else []

-- this number of the lowest bits of a word
abbrev pub bits_of : ℕ → ℕ → List Bool
bits_of zero word = []
bits_of (suc n) word = (word % 2 == 1) ∷ bits_of n (word / 2)

unfoldable pub word_bits : ℕ → List Bool
word_bits word = bits_of 64 word

-- the ports of a word: every other number from `first` on has a bit
abbrev pub word_ports : ℕ → ℕ → List ℕ
word_ports first word = in_row bit_ports 2 first (word_bits word)

abbrev pub words_ports : ℕ → List ℕ → List ℕ
words_ports first words = in_row word_ports 128 first words

abbrev pub group_ports : ℕ → Group → List ℕ
group_ports first group = words_ports first group.words

abbrev pub groups_ports : ℕ → List Group → List ℕ
groups_ports first groups = in_row group_ports 1024 first groups

-- how many ports are free

abbrev pub word_count : ℕ → ℕ
word_count word = sum_by one_if (word_bits word)

abbrev pub group_count : Group → ℕ
group_count group = group.count

-- A group has its words, and their count.
pub record IsCounted (group : Group) : Type 0 where
  pub words : length group.words ≡ 8
  pub count : group.count ≡ sum_by word_count group.words

-- all ports of a parity have their groups, and this number of them are free
pub record AreCounted (free : ℕ) (groups : List Group) : Type 0 where
  pub all : length groups ≡ 64
  pub each : All IsCounted groups
  pub total : free ≡ sum_by group_count groups

-- the item at an index of all parts is the one at `left` of the part `i`
pub record FallsIn {B : Type 0} (count : B → ℕ) (parts : List B) (at i left : ℕ) : Type 0 where
  pub inside : i < length parts
  pub before : at ≡ sum_by count (take i parts) + left
  pub within : (d : B) → left < count (get_or parts i d)
