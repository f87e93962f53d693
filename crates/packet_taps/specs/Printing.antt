-- What printing the lines of a capture answers.
use Rattle.std.specs.Prelude.{◌≡◌, ℕ, Bool, true, false, List, [], ◌∷◌, Option, Some, None}
use Rattle.plain_text.specs.declared.packet.Packet.{Packet}
use Rattle.world_io.specs.World.{Shown, Start}
use Rattle.packet_taps.specs.declared.place.Place.{Place}
use Rattle.packet_taps.specs.declared.place.Place.TheVariants.{Seated, Lost, Out}
use Rattle.packet_taps.specs.declared.printing.Only.{Only}
use Rattle.packet_taps.specs.Lines.{HasBegunToPrint, HasPrinted, lines_of}
use Rattle.packet_taps.specs.Windows.{window}
use Rattle.packet_taps.specs.Words.{WatchNames}
use Rattle.packet_taps.specs.declared.command.Watched.{Watched}
use Rattle.packet_taps.specs.declared.command.Watched.TheVariants as watched
use Rattle.packet_taps.specs.declared.printing.Printed.{Printed}
use Rattle.packet_taps.specs.declared.printing.Printed.TheVariants as printed
use Rattle.packet_taps.specs.Watching.{JudgesWatched}

-- the answer where all was read: the tap is there, or was lost for want of memory, or because it failed
abbrev pub done_with : ℕ → Option Bool → Printed
done_with count None = printed.Watched (watched.Done count)
done_with count (Some true) = printed.Watched watched.NoMemory
done_with count (Some false) = printed.WriteFault

abbrev pub ended_with : Watched → Option Bool → Printed
ended_with (watched.Done count) lost = done_with count lost
ended_with watched.BadWords lost = printed.Watched watched.BadWords
ended_with watched.ReadFault lost = printed.Watched watched.ReadFault
ended_with watched.NoMemory lost = printed.Watched watched.NoMemory
ended_with (watched.BadInput fault) lost = printed.Watched (watched.BadInput fault)
ended_with (watched.TooLarge limit) lost = printed.Watched (watched.TooLarge limit)

-- what watching says of the file of the name, whichever packets were shown
abbrev pub HasJudged : Type 0 → List ℕ → Watched → Shown → Type 0
HasJudged healthy name answer shown = (packets : List Packet) × JudgesWatched healthy name packets answer shown

-- What an answer says of the file of the name. Where a line could not be printed, the file is a capture.
abbrev pub JudgesPrinted : Type 0 → List ℕ → Printed → Shown → Type 0
JudgesPrinted healthy name (printed.Watched answer) shown = HasJudged healthy name answer shown
JudgesPrinted healthy name printed.WriteFault shown = (count : ℕ) × HasJudged healthy name (watched.Done count) shown

-- a tap was seated in the deck's one seat, and was not taken out
abbrev pub HasOne : {T : Type 0} → List (Place T) → Type 0
HasOne [] = ⊥
HasOne (Seated taken ∷ []) = Unit {0}
HasOne (Lost lost ∷ []) = Unit {0}
HasOne (Out ∷ []) = ⊥
HasOne (a ∷ b ∷ more) = ⊥

-- this is the tap of that seat, and whether it was lost for want of memory, or because it failed, or not at all
abbrev pub IsOnly : {T : Type 0} → List (Place T) → Only T → Type 0
IsOnly [] only = ⊥
IsOnly (Seated taken ∷ []) only = (only.lost ≡ None) × (only.tap ≡ taken.tap)
IsOnly (Lost lost ∷ []) only = (only.lost ≡ Some lost.memory) × (only.tap ≡ lost.object)
IsOnly (Out ∷ []) only = ⊥
IsOnly (a ∷ b ∷ more) only = ⊥

-- What was printed of a capture: some first packets of it were shown, of which this is said, and the lines of those in
-- the window stand on the report, all of them where the tap was not lost. What it came to is the answer.
pub record PrintsWindow {V : Type 0} (honest : Start → V → Type 0) (shows : Start → V → Shown) (names : WatchNames)
    (answer : Printed) (said : List Packet → Watched → Type 0) (out : V) : Type 0 where
  pub watched : Watched
  pub lost : Option Bool
  pub ended : answer ≡ ended_with watched lost
  pub packets : List Packet
  pub told : said packets watched
  pub whole : lost ≡ None → HasPrinted honest shows (lines_of (window names.skip names.quota packets)) out
  pub first : HasBegunToPrint honest shows (lines_of (window names.skip names.quota packets)) out
