-- What is said of the file where watching a capture ended so.
use Rattle.std.proofs.Common.{ℕ, Bool, true, false, List, [], Option, Some, None, refl, inr}
use Rattle.std.specs.Prelude.{IfSome}
use Rattle.plain_text.specs.declared.packet.Packet.{Packet}
use Rattle.world_io.specs.World.{Shown, Start}
use Rattle.packet_taps.specs.declared.command.Watched.{Watched}
use Rattle.packet_taps.specs.declared.command.Watched.TheVariants as watched
use Rattle.packet_taps.specs.declared.printing.Printed.TheVariants as printed
use Rattle.packet_taps.specs.declared.place.Place.{Place}
use Rattle.packet_taps.specs.Places.{HasShown}
use Rattle.packet_taps.specs.Printing.{ended_with, JudgesPrinted, HasJudged}
use Rattle.packet_taps.specs.Watching.{JudgesWatched}
use Rattle.packet_taps.specs.Words.{WatchNames}

-- want of memory says nothing of the file
pub nothing_judged : (healthy : Type 0) (name : List ℕ) (shown : Shown) → HasJudged healthy name watched.NoMemory shown
nothing_judged healthy name shown = ([], record { told = inr refl; missing = λ ok e. cc })

pub judged_ended : (healthy : Type 0) (name : List ℕ) (shown : Shown) (packets : List Packet) (answer : Watched)
    (lost : Option Bool) → JudgesWatched healthy name packets answer shown
    → JudgesPrinted healthy name (ended_with answer lost) shown
judged_ended healthy name shown packets (watched.Done count) None judged = (packets, judged)
judged_ended healthy name shown packets (watched.Done count) (Some true) judged = nothing_judged healthy name shown
judged_ended healthy name shown packets (watched.Done count) (Some false) judged = (count, (packets, judged))
judged_ended healthy name shown packets watched.BadWords lost judged = (packets, judged)
judged_ended healthy name shown packets watched.ReadFault lost judged = (packets, judged)
judged_ended healthy name shown packets watched.NoMemory lost judged = (packets, judged)
judged_ended healthy name shown packets (watched.BadInput fault) lost judged = (packets, judged)
judged_ended healthy name shown packets (watched.TooLarge limit) lost judged = (packets, judged)

-- and so for the words that name it
pub judged_names : {T : Type 0} (saw missed : T → List Packet → Type 0) (faults lacks : T → ℕ) (healthy : Type 0)
    (honest : Start → Type 0) (shows : Start → Shown) (answer : Watched) (lost : Option Bool)
    (before after : List (Place T)) (names : Option WatchNames)
    → IfSome names (λ it. HasShown saw missed faults lacks
    (λ packets. (p : Start) → honest p → JudgesWatched healthy it.capture packets answer (shows p)) before after)
    → (p : Start) → honest p
    → IfSome names (λ it. JudgesPrinted healthy it.capture (ended_with answer lost) (shows p))
judged_names saw missed faults lacks healthy honest shows answer lost before after None shown p h = tt
judged_names saw missed faults lacks healthy honest shows answer lost before after (Some it) shown p h =
    judged_ended healthy it.capture (shows p) shown.packets answer lost (shown.told p h)

-- want of memory before anything was read
pub nothing_judged_names : (healthy : Type 0) (shown : Shown) (names : Option WatchNames)
    → IfSome names (λ it. JudgesPrinted healthy it.capture (printed.Watched watched.NoMemory) shown)
nothing_judged_names healthy shown None = tt
nothing_judged_names healthy shown (Some it) = nothing_judged healthy it.capture shown
