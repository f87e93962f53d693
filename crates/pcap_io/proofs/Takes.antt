-- A record is taken in two parts, its header and what follows.
use Rattle.std.proofs.Common.{ℕ, List, ◌++◌, sym, subst}
use Rattle.pcap_io.specs.declared.order.Order.{Order}
use Rattle.pcap_io.specs.declared.next.Next.{Next}
use Rattle.pcap_io.specs.declared.next.Next.TheVariants as next
use Rattle.pcap_io.specs.Reader.{Takes}
use Rattle.pcap_io.specs.Record.{TakesBody}
use Rattle.pcap_io.specs.Started.{TakesHeader}
use Rattle.pcap_io.specs.declared.started.Started.{Started}
use Rattle.pcap_io.specs.declared.started.Started.TheVariants as started
use Rattle.world_io.specs.Taking.{TakesSome}

module _ {S : Type 0} (reads : S → List ℕ → S → Type 0) (reads_more : (a b c : S) (first more : List ℕ)
    → reads a first b → reads b more c → reads a (first ++ more) c) where
  pub takes_whole : (o : Order) (head : List ℕ) (answer : Next) (a b c : S) → reads a head b
      → TakesBody reads o head answer b c → Takes reads o answer a c
  takes_whole o head (next.Packet p) a b c first (taken, second, parts) =
      let Taken : List ℕ → Type 0 = λ bytes. reads a bytes c in
      subst Taken (sym parts) (reads_more a b c head taken first second)
  takes_whole o head next.End a b c first rest = absurd rest
  takes_whole o head (next.Refused fault) a b c first (taken, second) =
      (head ++ taken, reads_more a b c head taken first second)
  takes_whole o head (next.TooLarge limit) a b c first (taken, second) =
      (head ++ taken, reads_more a b c head taken first second)
  takes_whole o head next.ReadFault a b c first (taken, second) =
      (head ++ taken, reads_more a b c head taken first second)
  takes_whole o head next.NoMemory a b c first (taken, second) =
      (head ++ taken, reads_more a b c head taken first second)
  takes_whole o head next.Over a b c first rest = absurd rest

-- Whatever is answered, some bytes were taken.
module _ {S : Type 0} (reads : S → List ℕ → S → Type 0) where
  pub header_takes : (answer : Started) (a b : S) → TakesHeader reads answer a b → TakesSome reads a b
  header_takes (started.Reader r) a b taken = (_, taken.2)
  header_takes (started.Refused fault) a b taken = taken
  header_takes started.ReadFault a b taken = taken
  header_takes started.NoMemory a b taken = taken

  pub body_takes : (o : Order) (head : List ℕ) (answer : Next) (a b : S) → TakesBody reads o head answer a b
      → TakesSome reads a b
  body_takes o head (next.Packet p) a b taken = (taken.0, taken.1)
  body_takes o head next.End a b taken = absurd taken
  body_takes o head (next.Refused fault) a b taken = taken
  body_takes o head (next.TooLarge limit) a b taken = taken
  body_takes o head next.ReadFault a b taken = taken
  body_takes o head next.NoMemory a b taken = taken
  body_takes o head next.Over a b taken = absurd taken

  pub record_takes : (o : Order) (answer : Next) (a b : S) → Takes reads o answer a b → TakesSome reads a b
  record_takes o (next.Packet p) a b taken = (_, taken)
  record_takes o next.End a b taken = (_, taken)
  record_takes o (next.Refused fault) a b taken = taken
  record_takes o (next.TooLarge limit) a b taken = taken
  record_takes o next.ReadFault a b taken = taken
  record_takes o next.NoMemory a b taken = taken
  record_takes o next.Over a b taken = (_, taken)
