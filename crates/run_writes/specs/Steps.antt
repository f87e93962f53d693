-- How the released capture and the report keep step, wherever a call ends.
use Rattle.std.specs.Prelude.{◌≡◌, ℕ, ◌<◌, List, [], ◌∷◌, ◌++◌, Some, None, length}
use Rattle.plain_text.specs.declared.packet.Unit.{Unit as FractionUnit}
use Rattle.pcap_io.specs.Capture.{written}
use Rattle.output_files.specs.Writes.{Write, after_writes, reported, IsPrefix}
use Rattle.run_writes.specs.Replies.{Reply, released_in, lines_in}
use Rattle.run_writes.specs.Run.{OutputNames}

-- Of writes that were done, where these are the replies of the events, in order.
pub record KeepStep (names : OutputNames) (u : FractionUnit) (replies : List Reply) (done : List Write) : Type 0 where
  -- where the report has the whole line of an event, the capture has the records of all that was released up to and
  -- with it
  pub lines_follow : (first rest : List Reply) (r : Reply) → replies ≡ first ++ r ∷ rest
      → IsPrefix (lines_in first ++ r.line) (reported done)
      → (more : List ℕ)
      × (after_writes names.released done None ≡ Some (written u (released_in first ++ r.released) ++ more))
  -- the capture has a byte more than the records of the first events' outputs only where the report has all lines of
  -- these events
  pub records_follow : (first rest : List Reply) (bytes : List ℕ) → replies ≡ first ++ rest
      → after_writes names.released done None ≡ Some bytes → length (written u (released_in first)) < length bytes
      → IsPrefix (lines_in first) (reported done)

-- each event has a line
abbrev pub HaveLines : List Reply → Type 0
HaveLines [] = Unit {0}
HaveLines (r ∷ replies) = ¬ (r.line ≡ []) × HaveLines replies
