-- Where the words of a round stand: 8 apart, each with a cache line of 64 bytes to itself, so that threads which use
-- different ones don't take a line from each other.
use Rattle.std.specs.Prelude.{ℕ, ◌+◌, ◌*◌, List, [], ◌∷◌}

-- the index of the word of variable v
abbrev pub var_word : ℕ → ℕ
var_word v = 8 * v

-- and of that of thread t, where there are so many variables
abbrev pub thread_word : ℕ → ℕ → ℕ
thread_word vars t = 8 * (vars + t)

-- how many words there are
abbrev pub word_count : ℕ → ℕ → ℕ
word_count vars threads = 8 * (vars + threads)

-- the words of one cache line: the first is used, and the others stay 0
abbrev pub line_of : ℕ → List ℕ
line_of n = n ∷ 0 ∷ 0 ∷ 0 ∷ 0 ∷ 0 ∷ 0 ∷ 0 ∷ []

-- words, each on a line of its own
abbrev pub spread : List ℕ → List ℕ
spread [] = []
spread (n ∷ others) = n ∷ 0 ∷ 0 ∷ 0 ∷ 0 ∷ 0 ∷ 0 ∷ 0 ∷ spread others
