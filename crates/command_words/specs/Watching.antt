-- What the program comes to where it watches a capture.
use Rattle.std.specs.Prelude.{◌≡◌, ℕ, Bool, false, List, [], ◌∷◌, codes, IfSome}
use Rattle.std.specs.Str.{bytes_eq}
use Rattle.plain_text.specs.declared.packet.Packet.{Packet}
use Rattle.world_io.specs.World.{Shown, Start}
use Rattle.packet_taps.specs.declared.command.Watched.{Watched}
use Rattle.packet_taps.specs.declared.command.Watched.TheVariants as watched
use Rattle.packet_taps.specs.declared.printing.Printed.{Printed}
use Rattle.packet_taps.specs.declared.printing.Printed.TheVariants as printed
use Rattle.packet_taps.specs.Printing.{JudgesPrinted, PrintsWindow}
use Rattle.packet_taps.specs.Watching.{JudgesWatched}
use Rattle.packet_taps.specs.Words.{watch_names}
use Rattle.job_commands.specs.declared.status.Status.{Status}
use Rattle.job_commands.specs.declared.status.Status.TheVariants as status
use Rattle.job_commands.specs.Status.{of_capture_fault}

-- the first word is `watch`
abbrev pub begins_watch : List (List ℕ) → Bool
begins_watch [] = false
begins_watch (word ∷ more) = bytes_eq word (codes "watch")

-- the status that has the name of the answer
abbrev pub watch_status : Printed → Status
watch_status (printed.Watched (watched.Done count)) = status.Done
watch_status (printed.Watched watched.BadWords) = status.BadWords
watch_status (printed.Watched watched.ReadFault) = status.ReadFault
watch_status (printed.Watched watched.NoMemory) = status.NoMemory
watch_status (printed.Watched (watched.BadInput fault)) = status.BadInput (of_capture_fault fault)
watch_status (printed.Watched (watched.TooLarge limit)) = status.TooLarge limit
watch_status printed.WriteFault = status.WriteFault

-- the status is that of an answer, which says of the capture what watching it says
abbrev pub Watches : Type 0 → List (List ℕ) → Status → Shown → Type 0
Watches healthy words ended shown =
    (answer : Printed) × (ended ≡ watch_status answer)
    × IfSome (watch_names words) (λ names. JudgesPrinted healthy names.capture answer shown)

-- The status is that of an answer, and the lines of the window of the capture's packets were printed: all of them, or a
-- first part.
abbrev pub PrintsLines : {W V : Type 0} → (Start → W → Type 0) → (Start → W → Shown) → (W → Type 0)
    → (Start → V → Type 0) → (Start → V → Shown) → List (List ℕ) → Status → W → W → V → Type 0
PrintsLines honest shows healthy honest_out shows_out words ended old new out =
    (answer : Printed) × (ended ≡ watch_status answer)
    × IfSome (watch_names words) (λ names. PrintsWindow honest_out shows_out names answer
    (λ packets watched. (p : Start) → honest p new
    → JudgesWatched (healthy old) names.capture packets watched (shows p old)) out)
