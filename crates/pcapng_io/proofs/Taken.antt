-- Whatever a reader answers, it took some bytes of its source.
use Rattle.std.proofs.Common.{ℕ, List, ◌++◌}
use Rattle.world_io.specs.Taking.{TakesSome}
use Rattle.pcap_io.specs.declared.next.Next.{Next}
use Rattle.pcap_io.specs.declared.next.Next.TheVariants as capture
use Rattle.pcap_io.specs.declared.order.Order.{Order}
use Rattle.pcap_io.specs.Reader.{Takes}
use Rattle.pcapng_io.specs.declared.any.AnyStarted.{AnyStarted}
use Rattle.pcapng_io.specs.declared.any.AnyStarted.TheVariants as started
use Rattle.pcapng_io.specs.declared.any.Format.{Format}
use Rattle.pcapng_io.specs.declared.any.Format.TheVariants as form
use Rattle.pcapng_io.specs.declared.next.AnyNext.{AnyNext}
use Rattle.pcapng_io.specs.declared.next.AnyNext.TheVariants as next
use Rattle.pcapng_io.specs.Any.{TakesStart, TakesAny}
use Rattle.pcapng_io.specs.Reader.{NgReading, TakesNg}

module _ {S : Type 0} (reads : S → List ℕ → S → Type 0) where
  pub some_at_start : (answer : AnyStarted) (old new : S) → TakesStart reads answer old new → TakesSome reads old new
  some_at_start (started.Reader (form.Capture r)) old new takes = (_, takes.0.2)
  some_at_start (started.Reader (form.Ng r)) old new takes = (_, takes.0)
  some_at_start (started.Refused f) old new takes = takes
  some_at_start started.ReadFault old new takes = takes
  some_at_start started.NoMemory old new takes = takes

  some_of_savefile : (o : Order) (answer : Next) (old new : S) → Takes reads o answer old new → TakesSome reads old new
  some_of_savefile o (capture.Packet p) old new takes = (_, takes)
  some_of_savefile o capture.End old new takes = (_, takes)
  some_of_savefile o (capture.Refused fault) old new takes = takes
  some_of_savefile o (capture.TooLarge limit) old new takes = takes
  some_of_savefile o capture.ReadFault old new takes = takes
  some_of_savefile o capture.NoMemory old new takes = takes
  some_of_savefile o capture.Over old new takes = (_, takes)

  some_of_ng : (answer : AnyNext) (old new : S) (from to : NgReading) → TakesNg reads answer old new from to
      → TakesSome reads old new
  some_of_ng (next.Packet p) old new from to takes = (takes.0.taken, takes.0.read)
  some_of_ng next.End old new from to takes = (takes.0.taken, takes.0.read)
  some_of_ng (next.Refused fault) old new from to takes = takes.0
  some_of_ng (next.TooLarge limit) old new from to takes = takes.0
  some_of_ng next.ReadFault old new from to takes = takes.0
  some_of_ng next.NoMemory old new from to takes = takes.0
  some_of_ng next.Over old new from to takes = (_, takes.0)

  pub some_of_any : (answer : AnyNext) (old new : S) (from to : Format) → TakesAny reads answer old new from to
      → TakesSome reads old new
  some_of_any answer old new (form.Capture r) to takes = some_of_savefile r.order takes.0 old new takes.2
  some_of_any answer old new (form.Ng r) to takes = some_of_ng answer old new r takes.0 takes.2

  -- some bytes more
  pub some_more : (reads_more : (a b c : S) (first more : List ℕ) → reads a first b → reads b more c
      → reads a (first ++ more) c) (answer : AnyNext) (a b c : S) (from to : Format) → TakesSome reads a b
      → TakesAny reads answer b c from to → TakesSome reads a c
  some_more reads_more answer a b c from to some takes =
      let more = some_of_any answer b c from to takes in
      (some.0 ++ more.0, reads_more a b c some.0 more.0 some.1 more.1)
