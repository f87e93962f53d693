use Rattle.std.proofs.Common.{◌≡◌, ◌++◌, drop}
use Rattle.std.specs.String.{string_bytes}
use Rattle.script_text.proofs.ReleasedWords.{names_words}
use Rattle.script_text.proofs.outcome.write_released.Given as goal

abbrev pub invariant-outputs : goal.invariant-outputs
invariant-outputs l =
    string_bytes l.text ++ names_words (drop l.thread-index l.released)
    ≡ string_bytes l.initial.text ++ names_words l.released
