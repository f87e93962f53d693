-- The report of a drill, a fact a line: what came in, what became of it, what the crashes cost, and whether they
-- changed anything.
use Rattle.std.specs.Prelude.{◌≡◌, ℕ, suc, ◌+◌, ◌-◌, ◌≤◌, Bool, true, false, ◌&&◌, nat_eq, ◌==◌, if◌then◌else◌, List}
use Rattle.std.specs.Prelude.{[], ◌∷◌, ◌++◌, Option, Some, None, length, take, slice_get, codes, map}
use Rattle.plain_text.specs.declared.packet.Packet.{Packet}
use Rattle.access_log.specs.declared.entry.Output.{Output}
use Rattle.plain_machine.specs.declared.emission.Emission.{Emission}
use Rattle.plain_machine.specs.History.{Step, sent_of}
use Rattle.recovery_world.specs.declared.event.Event.{Event}
use Rattle.recovery_world.specs.declared.event.Outcome.{Outcome}
use Rattle.recovery_world.specs.declared.event.Outcome.TheVariants as outcome
use Rattle.recovery_world.specs.World.{Setting, Sent, World, opening}
use Rattle.recovery_world.specs.Many.{OnAny}
use Rattle.plain_text.specs.NumberedWords.{one}

-- Entries that were made again

-- how many entries a new master is given to follow, where the event was a recovery
abbrev pub given_to_follow : Outcome → ℕ
given_to_follow (outcome.Recovered epoch keeps drops) = keeps
given_to_follow _ = 0

-- The events lead from the opening to this world, and new masters were given so many entries to follow on the way.
pub data Replays {V : Type 0} (s : Setting V) : List Event → ℕ → World V → Type 0 where
  Opens : Replays s [] 0 (opening V)
  Goes : {events : List Event} {n : ℕ} {w new : World V} (ev : Event) (to : Outcome) (freed : List Sent)
      → Replays s events n w → OnAny s w ev to freed new → Replays s (events ++ ev ∷ []) (n + given_to_follow to) new

-- Outputs that were not released

-- an output of this thread and number is among these
abbrev pub is_among : ℕ → ℕ → List Sent → Bool
is_among t j [] = false
is_among t j (o ∷ sent) = if nat_eq o.emission.thread t && nat_eq o.emission.number j then true else is_among t j sent

-- how many of the first were not released: those that wait, and those that are under way
abbrev pub count_waiting : List Emission → List Sent → ℕ
count_waiting [] released = 0
count_waiting (o ∷ sent) released =
    if is_among o.thread o.number released then count_waiting sent released else suc (count_waiting sent released)

-- Packets that were dropped

-- why a packet was dropped, by the digit of the reason: the colon stands for reason 10, behind the nine
abbrev pub reason_word : ℕ → List ℕ
reason_word digit =
    if digit == 49 then codes "short"
    else if digit == 50 then codes "not IPv4"
    else if digit == 51 then codes "bad header length"
    else if digit == 52 then codes "fragment"
    else if digit == 53 then codes "other protocol"
    else if digit == 54 then codes "bad total length"
    else if digit == 55 then codes "no mapping"
    else if digit == 56 then codes "no free port"
    else if digit == 57 then codes "stray"
    else if digit == 58 then codes "over limit"
    else digit ∷ []

-- the digit of a reason with one more byte, by that of the bytes before it
abbrev pub digit_with : ℕ → ℕ → ℕ
digit_with digit c = if digit == 49 && c == 48 then 58 else c

-- The lines of a table of drops, from its text, such as `7:1 10:2`: before the colon of a reason, which has this digit
-- so far, or behind it. A space stands between two reasons.
abbrev pub drop_words : Option ℕ → List ℕ → List ℕ
drop_words (Some digit) [] = []
drop_words (Some digit) (c ∷ text) =
    if c == 58 then codes "dropped " ++ (reason_word digit ++ 32 ∷ drop_words None text)
    else drop_words (Some (digit_with digit c)) text
drop_words None [] = codes "\n"
drop_words None (c ∷ text) = if c == 32 then 10 ∷ drop_words (Some 48) text else c ∷ drop_words None text

-- no line where the text is a dash: nothing was dropped
abbrev pub drop_lines : List ℕ → List ℕ
drop_lines [] = []
drop_lines (c ∷ text) = if c == 45 then [] else drop_words (Some 48) (c ∷ text)

-- of what `show` of the table comes to
abbrev pub shown_drops : Outcome → List ℕ
shown_drops (outcome.Shown text) = drop_lines text
shown_drops _ = []

-- none for a box without such a table
abbrev pub drops_of : Bool → Outcome → List ℕ
drops_of true shown = shown_drops shown
drops_of false shown = []

-- The first difference

-- the packets of outputs
abbrev pub packets_in : List Output → List Packet
packets_in outputs = map (λ (o : Output). o.packet) outputs

-- Counted from 1: the place of the first packet that the two lists don't have in common, where one may be longer. None
-- where they are one list.
abbrev pub IsFirstDifference : List Packet → List Packet → Option ℕ → Type 0
IsFirstDifference released other None = released ≡ other
IsFirstDifference released other (Some place) =
    (1 ≤ place) × (take (place - 1) released ≡ take (place - 1) other)
    × ¬ (slice_get released (place - 1) ≡ slice_get other (place - 1))

-- The lines

-- a word, a number and the end of the line
abbrev pub fact : List ℕ → ℕ → List ℕ
fact word n = one word n ++ codes "\n"

abbrev pub verdict : Option ℕ → List ℕ
verdict None = codes "same as without crashes\n"
verdict (Some place) = fact (codes "differs at ") place

-- what a report says
pub record Said : Type 0 where
  -- the packets that came in, and that were released
  pub fed : ℕ
  pub released : ℕ
  -- the lines of the drops
  pub drops : List ℕ
  -- the outputs that wait or are under way
  pub waiting : ℕ
  -- how often the master crashed, and how many entries new masters were given to follow
  pub crashes : ℕ
  pub replayed : ℕ
  -- the first difference from the run beside it
  pub differs : Option ℕ

-- what became of the packets
abbrev pub packet_lines : Said → List ℕ
packet_lines said =
    fact (codes "in ") said.fed ++ fact (codes "released ") said.released ++ said.drops
    ++ fact (codes "waiting ") said.waiting

-- what the crashes cost, and whether they changed anything
abbrev pub crash_lines : Said → List ℕ
crash_lines said =
    fact (codes "crashes ") said.crashes ++ fact (codes "replayed ") said.replayed ++ verdict said.differs

abbrev pub report_text : Said → List ℕ
report_text said = packet_lines said ++ crash_lines said

-- The events lead to this world, which ends in a run of these steps; new masters were given so many entries to follow;
-- these are the lines of the drops, and the first difference from the run beside it. The
-- recovery behind each crash begins an epoch.
abbrev pub drill_report : {V : Type 0} → World V → List (Step V) → ℕ → List ℕ → Option ℕ → List ℕ
drill_report w steps replayed drops differs = report_text (record {
  fed = w.fed;
  released = length w.released;
  drops = drops;
  waiting = count_waiting (sent_of steps) w.released;
  crashes = w.epoch - 1;
  replayed = replayed;
  differs = differs;
})
