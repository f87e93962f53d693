-- The words of a line, with the numbers that follow them.
use Rattle.std.specs.Prelude.{ℕ, List, ◌++◌, codes, decimal}
use Rattle.plain_text.specs.declared.kind.Kind.{Kind}
use Rattle.plain_text.specs.declared.kind.Kind.TheVariants as kind

-- words with a number after them, and with two
abbrev pub one : List ℕ → ℕ → List ℕ
one word a = word ++ decimal a

abbrev pub two : List ℕ → ℕ → List ℕ → ℕ → List ℕ
two word a other b = one word a ++ one other b

abbrev pub kind_word : Kind → List ℕ
kind_word kind.Log = codes "log "
kind_word kind.Out = codes "out "
