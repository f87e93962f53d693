-- What a write of a piece of the report counts as.
use Rattle.std.specs.Prelude.{◌≡◌, ℕ}
use Rattle.std.specs.IoError.{error_kind}
use Rattle.std.specs.declared.io.Error.{Error}
use Rattle.std.specs.declared.io.ErrorKind.TheVariants.{BrokenPipe}
use Rattle.std.specs.Prelude.{Result, Ok, Err}

-- So many bytes of a piece of this length count as taken: they were written; or the pipe is closed, so that nobody
-- reads the report, and the piece counts as taken though nothing of it was written.
abbrev pub CountsTaken : Result ℕ Error → ℕ → ℕ → Type 0
CountsTaken (Ok count) length taken = taken ≡ count
CountsTaken (Err error) length taken = (error_kind error ≡ BrokenPipe) × (taken ≡ length)
