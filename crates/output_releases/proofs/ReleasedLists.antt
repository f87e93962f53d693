-- Lists behind which outputs are put as they are released.
use Rattle.std.proofs.Common.{◌≡◌, List, [], ◌++◌, sym, ap, ◌∙◌, append_assoc, append-nil}
use Rattle.std.proofs.lemmas.List.{map-append}
use Rattle.plain_text.specs.declared.packet.Packet.{Packet}
use Rattle.access_log.specs.declared.entry.Output.{Output}
use Rattle.recovery_world.specs.World.{Sent, World}
use Rattle.recovery_world.specs.Files.{packets_of}
use Rattle.system_parts.specs.Performing.{Appends, ReleasesInto, packets_in}

-- nothing is put behind them
pub appends_none : (l : List Output) → Appends l l
appends_none l = ([], sym (append-nil l))

pub appends_same : (old new : List Output) → new ≡ old → Appends old new
appends_same old new is = ([], is ∙ sym (append-nil old))

-- what is put behind them, and then behind those
pub appends_then : (old mid new : List Output) → Appends old mid → Appends mid new → Appends old new
appends_then old mid new a b = (a.0 ++ b.0, b.1 ∙ ap (λ (l : List Output). l ++ b.0) a.1 ∙ append_assoc old a.0 b.0)

-- nothing was released
pub releases_none : {V : Type 0} (l : List Output) (w next : World V) → next.released ≡ w.released
    → ReleasesInto l l w next
releases_none l w next same =
    record { freed = []; released = same ∙ sym (append-nil w.released); packets = sym (append-nil (packets_in l)) }

-- these were released
pub releases_go : {V : Type 0} (old new go : List Output) (w next : World V) (freed : List Sent) → new ≡ old ++ go
    → packets_in go ≡ packets_of freed → next.released ≡ w.released ++ freed → ReleasesInto old new w next
releases_go old new go w next freed appends packets released = record {
  freed = freed;
  released = released;
  packets =
      ap packets_in appends ∙ map-append (λ (o : Output). o.packet) old go
      ∙ ap (λ (l : List Packet). packets_in old ++ l) packets;
}

-- what was released from one world to the next, and then
pub releases_then : {V : Type 0} (old mid new : List Output) (w here next : World V) → ReleasesInto old mid w here
    → ReleasesInto mid new here next → ReleasesInto old new w next
releases_then old mid new w here next a b = record {
  freed = a.freed ++ b.freed;
  released = b.released ∙ ap (λ (l : List Sent). l ++ b.freed) a.released ∙ append_assoc w.released a.freed b.freed;
  packets =
      b.packets
      ∙ ap (λ (l : List Packet). l ++ packets_of b.freed) a.packets
      ∙ append_assoc (packets_in old) (packets_of a.freed) (packets_of b.freed)
      ∙ ap (λ (l : List Packet). packets_in old ++ l)
      (sym (map-append (λ (o : Sent). o.emission.packet) a.freed b.freed));
}

-- what was released after a world from which nothing was
pub releases_after : {V : Type 0} (old new : List Output) (w here next : World V) → here.released ≡ w.released
    → ReleasesInto old new here next → ReleasesInto old new w next
releases_after old new w here next same a =
    record { freed = a.freed; released = a.released ∙ ap (λ (l : List Sent). l ++ a.freed) same; packets = a.packets }
