-- Ports in the words of a group, and in the groups of a parity.
use Rattle.std.proofs.Common.{◌≡◌, ℕ, ◌+◌, ◌-◌, ◌*◌, ◌%◌, ◌/◌, ◌^◌, ◌<◌, ◌≤◌, List, [], length, get_or, set, sym, ap}
use Rattle.std.proofs.Common.{◌∙◌, arith}
use Rattle.std.specs.Prelude.{slice_index}
use Rattle.std.specs.List.{All, sum_by, remove}
use Rattle.std.proofs.lemmas.List.{nil_from_length}
use Rattle.std.proofs.lemmas.List.Sums.{sum_by-le}
use Rattle.nat_tables.specs.Ports.{with_port}
use Rattle.nat_tables.specs.declared.port_group.Group.{Group}
use Rattle.nat_tables.specs.Placing.{word_ports, word_count, words_ports, group_ports, group_count, groups_ports}
use Rattle.nat_tables.specs.Placing.{IsCounted, AreCounted, FallsIn}
use Rattle.nat_tables.proofs.PlaceLemmas.{AreBelow, AreFrom, row_length, row_from, row_below, row_index, row_removed}
use Rattle.nat_tables.proofs.PlaceLemmas.{row_with}
use Rattle.nat_tables.proofs.WordLemmas.{word_counted, word_low, word_high, word_few}

-- each word is right
abbrev Any : ℕ → Type 0
Any w = Unit {0}

pub words_index : (words : List ℕ) (first at i left : ℕ) → FallsIn word_count words at i left
    → slice_index (words_ports first words) at ≡ slice_index (word_ports (first + 128 * i) (slice_index words i)) left
words_index words first at i left is =
    row_index word_ports word_count 128 Any word_counted word_low word_high 0 first at i left (first + 128 * i) words
    (λ k d less. tt) is.inside is.before (is.within 0) (omega arith)

pub words_removed : (words : List ℕ) (v first at i left : ℕ) → FallsIn word_count words at i left
    → word_ports (first + 128 * i) v ≡ remove (word_ports (first + 128 * i) (slice_index words i)) left
    → words_ports first (set words i v) ≡ remove (words_ports first words) at
words_removed words v first at i left is new =
    row_removed word_ports word_count 128 Any word_counted word_low word_high 0 first at i left (first + 128 * i) v
    words (λ k d less. tt) is.inside is.before (is.within 0) (omega arith) new

pub words_with : (words : List ℕ) (p v first i : ℕ) → length words ≡ 8 → first ≤ p → p < first + 1024
    → i ≡ (p - first) / 128
    → word_ports (first + 128 * i) v ≡ with_port p (word_ports (first + 128 * i) (slice_index words i))
    → words_ports first (set words i v) ≡ with_port p (words_ports first words)
words_with words p v first i all low high is new =
    row_with word_ports word_count 128 Any word_counted word_low word_high 0 p first i (first + 128 * i) v words
    (λ k d less. tt) (omega arith) (omega arith) (omega arith) (omega arith) new

group_counted : (first : ℕ) (g : Group) → IsCounted g → length (group_ports first g) ≡ group_count g
group_counted first g is =
    row_length word_ports word_count 128 Any word_counted word_low word_high first g.words (λ k d less. tt)
    ∙ sym is.count

group_low : (first : ℕ) (g : Group) → AreFrom first (group_ports first g)
group_low first g = row_from word_ports word_count 128 Any word_counted word_low word_high first g.words

group_high : (first : ℕ) (g : Group) → IsCounted g → AreBelow (first + 1024) (group_ports first g)
group_high first g is =
    row_below word_ports word_count 128 Any word_counted word_low word_high first (first + 1024) g.words
    (λ k d less. tt) (let long = is.words in omega arith)

pub group_few : (g : Group) → IsCounted g → group_count g ≤ 512
group_few g is =
    let few : sum_by word_count g.words ≤ length g.words * 64 =
    sum_by-le word_count 64 g.words (λ k d less. word_few (get_or g.words k d)) in
    let long = is.words in
    let sum = is.count in omega arith

pub group_none : (g : Group) → IsCounted g → g.count ≡ 0 → (first : ℕ) → group_ports first g ≡ []
group_none g is none first = nil_from_length (group_ports first g) (group_counted first g is ∙ none)

pub groups_index : (groups : List Group) (old : Group) (first at i left : ℕ) → All IsCounted groups
    → FallsIn group_count groups at i left → old ≡ get_or groups i old
    → slice_index (groups_ports first groups) at ≡ slice_index (group_ports (first + 1024 * i) old) left
groups_index groups old first at i left each is there =
    row_index group_ports group_count 1024 IsCounted group_counted group_low group_high old first at i left
    (first + 1024 * i) groups each is.inside is.before (is.within old) (omega arith)
    ∙ ap (λ (g : Group). slice_index (group_ports (first + 1024 * i) g) left) (sym there)

pub groups_removed : (groups : List Group) (old new : Group) (first at i left : ℕ) → All IsCounted groups
    → FallsIn group_count groups at i left → old ≡ get_or groups i old
    → group_ports (first + 1024 * i) new ≡ remove (group_ports (first + 1024 * i) old) left
    → groups_ports first (set groups i new) ≡ remove (groups_ports first groups) at
groups_removed groups old new first at i left each is there others =
    row_removed group_ports group_count 1024 IsCounted group_counted group_low group_high old first at i left
    (first + 1024 * i) new groups each is.inside is.before (is.within old) (omega arith)
    (others ∙ ap (λ (g : Group). remove (group_ports (first + 1024 * i) g) left) there)

pub groups_with : (groups : List Group) (old new : Group) (p first i : ℕ) → All IsCounted groups → length groups ≡ 64
    → p < 2 ^ 16 → first ≡ p % 2 → i ≡ p / 1024 → old ≡ get_or groups i old
    → group_ports (first + 1024 * i) new ≡ with_port p (group_ports (first + 1024 * i) old)
    → groups_ports first (set groups i new) ≡ with_port p (groups_ports first groups)
groups_with groups old new p first i each all small parity is there ports =
    row_with group_ports group_count 1024 IsCounted group_counted group_low group_high old p first i (first + 1024 * i)
    new groups each (omega arith) (omega arith) (omega arith) (omega arith)
    (ports ∙ ap (λ (g : Group). with_port p (group_ports (first + 1024 * i) g)) there)

pub groups_length : (free first : ℕ) (groups : List Group) → AreCounted free groups
    → length (groups_ports first groups) ≡ free
groups_length free first groups is =
    row_length group_ports group_count 1024 IsCounted group_counted group_low group_high first groups is.each
    ∙ sym is.total

pub groups_few : (free : ℕ) (groups : List Group) → AreCounted free groups → free ≤ 2 ^ 15
groups_few free groups is =
    let few : sum_by group_count groups ≤ length groups * 512 =
    sum_by-le group_count 512 groups (λ k d less. group_few (get_or groups k d) (is.each k d less)) in
    let all = is.all in
    let total = is.total in omega arith
