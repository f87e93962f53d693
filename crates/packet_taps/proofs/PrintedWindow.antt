-- What stands on the report of the one tap of a deck.
use Rattle.std.proofs.Common.{◌≡◌, ◌≤◌, ◌<◌, ◌+◌, ℕ, zero, suc, Bool, true, false, List, [], ◌∷◌, ◌++◌, length, take}
use Rattle.std.proofs.Common.{Option}
use Rattle.std.proofs.Common.{Some, None, ◌⊎◌}
use Rattle.std.proofs.Common.{refl, sym, ap, ◌∙◌, subst, arith, append_assoc, append-nil, inl, inr, slice_get}
use Rattle.std.proofs.Math.Seq.{take-append-add}
use Rattle.std.specs.Prelude.{IfSome}
use Rattle.plain_text.specs.declared.packet.Packet.{Packet}
use Rattle.release_taps.specs.declared.tap.Shown as tap
use Rattle.release_taps.specs.declared.tap.Shown.TheVariants.{Took, Failed, NoMemory}
use Rattle.world_io.specs.Stream.{Rose}
use Rattle.world_io.specs.World.{Ledger, Shown, Start}
use Rattle.packet_taps.specs.declared.command.Watched.{Watched}
use Rattle.packet_taps.specs.declared.place.LostPacket.{LostPacket}
use Rattle.packet_taps.specs.declared.place.Place.{Place}
use Rattle.packet_taps.specs.declared.place.Place.TheVariants.{Seated, Lost, Out}
use Rattle.packet_taps.specs.declared.place.Taken.{Taken}
use Rattle.packet_taps.specs.declared.printing.Only.{Only}
use Rattle.packet_taps.specs.Lines.{Counts, HasBegunToPrint, HasPrinted, IsFirstPart, MissedLine, Printing, SawLines}
use Rattle.packet_taps.specs.Lines.{line_of}
use Rattle.packet_taps.specs.Lines.{lines_of}
use Rattle.packet_taps.specs.Places.{AreShown, HasShown, IsLost, IsShown, Stays}
use Rattle.packet_taps.specs.declared.command.Watched.TheVariants as watched
use Rattle.packet_taps.specs.declared.printing.Printed.{Printed}
use Rattle.packet_taps.specs.declared.printing.Printed.TheVariants as printed
use Rattle.packet_taps.specs.Printing.{ended_with, HasOne, IsOnly, PrintsWindow}
use Rattle.packet_taps.specs.Windows.{window}
use Rattle.packet_taps.specs.Words.{WatchNames}
use Rattle.packet_taps.proofs.Windows.{window-nil}

-- Bytes and their first parts

pub part-first : (k : ℕ) (bytes more : List ℕ) → IsFirstPart (bytes ++ more) (take k bytes)
part-first zero bytes more = (0, refl)
part-first (suc k) [] more = (0, refl)
part-first (suc k) (b ∷ bytes) more =
    let rest = part-first k bytes more in
    (suc rest.0, ap (λ l. b ∷ l) rest.1)

pub part-whole : (bytes : List ℕ) → IsFirstPart bytes bytes
part-whole [] = (0, refl)
part-whole (b ∷ bytes) = let rest = part-whole bytes in (suc rest.0, ap (λ l. b ∷ l) rest.1)

pub lines-append : (a b : List Packet) → lines_of (a ++ b) ≡ lines_of a ++ lines_of b
lines-append [] b = refl
lines-append (p ∷ a) b =
    ap (λ l. line_of p ++ l) (lines-append a b) ∙ sym (append_assoc (line_of p) (lines_of a) (lines_of b))

pub lines-one : (a : List Packet) (p : Packet) → lines_of (a ++ p ∷ []) ≡ lines_of a ++ line_of p
lines-one a p = lines-append a (p ∷ []) ∙ ap (λ l. lines_of a ++ l) (append-nil (line_of p))

-- the lines of the first packets are a first part of all lines
pub lines-first : (n k : ℕ) (packets : List Packet)
    → IsFirstPart (lines_of packets) (take k (lines_of (take n packets)))
lines-first zero k packets = let e : take k [] ≡ [] = nothing k in (0, e)
  where
    nothing : (k : ℕ) → take {A = ℕ} k [] ≡ []
    nothing zero = refl
    nothing (suc k) = refl
lines-first (suc n) k [] = (k, refl)
lines-first (suc n) k (p ∷ packets) = split k (line_of p) (λ j. lines-first n j packets)
  where
    split : (k : ℕ) (line : List ℕ)
        → ((j : ℕ) → IsFirstPart (lines_of packets) (take j (lines_of (take n packets))))
        → IsFirstPart (line ++ lines_of packets) (take k (line ++ lines_of (take n packets)))
    split k [] rest = rest k
    split zero (b ∷ line) rest = (0, refl)
    split (suc k) (b ∷ line) rest = let more = split k line rest in (suc more.0, ap (λ l. b ∷ l) more.1)

-- One line more

module _ {W : Type 0} (honest : Start → W → Type 0) (shows : Start → W → Shown) (packet : Packet) (old new : W)
    (earlier : (p : Start) → honest p new → honest p old) (before : List Packet)
    (printed : HasPrinted honest shows (lines_of before) old) where
  pub took-line : ((p : Start) → honest p new → (shows p new).sent 0 ≡ (shows p old).sent 0 ++ line_of packet)
      → HasPrinted honest shows (lines_of (before ++ packet ∷ [])) new
  took-line more p h =
      more p h ∙ ap (λ l. l ++ line_of packet) (printed p (earlier p h)) ∙ sym (lines-one before packet)

  pub misses-line : ((p : Start) → honest p new
      → (k : ℕ) × ((shows p new).sent 0 ≡ (shows p old).sent 0 ++ take k (line_of packet)))
      → HasBegunToPrint honest shows (lines_of (before ++ packet ∷ [])) new
  misses-line more p h =
      let part = more p h in (
        length (lines_of before) + part.0,
        part.1
            ∙ ap (λ l. l ++ take part.0 (line_of packet)) (printed p (earlier p h))
            ∙ sym (take-append-add (lines_of before) (line_of packet) part.0)
            ∙ ap (take (length (lines_of before) + part.0)) (sym (lines-one before packet)),
      )

-- The faults of a tap after one line

pub took-faults : {W : Type 0} (shown : tap.Shown) (old new : Printing W) → Counts shown old new → shown ≡ Took
    → old.faults ≡ 0 → new.faults ≡ 0
took-faults Took old new counts took none = counts.0 ∙ none
took-faults Failed old new counts took none = absurd (cc)
took-faults NoMemory old new counts took none = absurd (cc)

pub rose-some : (old new : ℕ) → Rose old new → 0 < new
rose-some old new rose = omega (arith, rose)

pub misses-faults : {W : Type 0} (shown : tap.Shown) (old new : Printing W) (before after : ℕ) → Counts shown old new
    → (shown ≡ Failed → Rose before after) → old.faults ≡ 0 → (new.faults ≡ 0) ⊎ (0 < after)
misses-faults Took old new before after counts cause none = inl (counts.0 ∙ none)
misses-faults Failed old new before after counts cause none = inr (rose-some before after (cause refl))
misses-faults NoMemory old new before after counts cause none = inl (counts.0 ∙ none)

-- The one place of a deck

pub only_last : {T : Type 0} (places before : List (Place T)) (last : Place T) → HasOne places
    → places ≡ before ++ last ∷ [] → places ≡ last ∷ []
only_last [] before last one is = absurd one
only_last (Out ∷ []) before last one is = absurd one
only_last (a ∷ b ∷ more) before last one is = absurd one
only_last (Seated taken ∷ []) [] last one is = is
only_last (Seated taken ∷ []) (c ∷ before) last one is =
    absurd (let long : ⊥ = tail_not (Seated taken) c before last is in long)
  where
    tail_not : {T : Type 0} (a c : Place T) (before : List (Place T)) (last : Place T)
        → a ∷ [] ≡ c ∷ before ++ last ∷ [] → ⊥
    tail_not a c [] last e = cc
    tail_not a c (d ∷ before) last e = cc
only_last (Lost lost ∷ []) [] last one is = is
only_last (Lost lost ∷ []) (c ∷ before) last one is =
    absurd (let long : ⊥ = tail_not (Lost lost) c before last is in long)
  where
    tail_not : {T : Type 0} (a c : Place T) (before : List (Place T)) (last : Place T)
        → a ∷ [] ≡ c ∷ before ++ last ∷ [] → ⊥
    tail_not a c [] last e = cc
    tail_not a c (d ∷ before) last e = cc

pub has_one_length : {T : Type 0} (places : List (Place T)) → HasOne places → 0 < length places
has_one_length [] one = absurd one
has_one_length (a ∷ more) one = omega arith

module _ {T : Type 0} (saw missed : T → List Packet → Type 0) (faults lacks : T → ℕ) (packets : List Packet)
    (old : Taken T) where
  one_shown : (place : Place T) → AreShown saw missed faults lacks packets (Seated old ∷ []) (place ∷ [])
      → IsShown saw missed faults lacks packets (Seated old) place
  one_shown place shown =
      let was = shown.each 0 place refl in
      let same : Seated old ≡ was.0 = some-same was.1 in
      subst (λ (w : Place T). IsShown saw missed faults lacks packets w place) (sym same) was.2
    where
      some-same : {X : Type 0} {x y : X} → Some x ≡ Some y → x ≡ y
      some-same {X} {x} same = cc

  pub has_one : (new : List (Place T)) → AreShown saw missed faults lacks packets (Seated old ∷ []) new → HasOne new
  has_one [] shown = absurd (let e = shown.count in omega (arith, e))
  has_one (Seated taken ∷ []) shown = tt
  has_one (Lost lost ∷ []) shown = tt
  has_one (Out ∷ []) shown = one_shown Out shown
  has_one (a ∷ b ∷ more) shown = absurd (let e = shown.count in omega (arith, e))

-- What the one tap, which was shown these packets, has printed.
module _ {V : Type 0} (honest : Start → V → Type 0) (shows : Start → V → Shown) (ledger : V → Ledger)
    (packets : List Packet) where
  abbrev saw : Printing V → List Packet → Type 0
  saw = λ t packets. SawLines honest shows packets t

  abbrev missed : Printing V → List Packet → Type 0
  missed = λ t packets. MissedLine honest shows ledger packets t

  -- all lines of the window where it is there, and else a first part of them; its world counted why it failed
  pub record Prints (skip quota : ℕ) (only : Only (Printing V)) : Type 0 where
    pub whole : only.lost ≡ None → HasPrinted honest shows (lines_of (window skip quota packets)) only.tap.world
    pub first : HasBegunToPrint honest shows (lines_of (window skip quota packets)) only.tap.world
    pub failed : only.lost ≡ Some false → 0 < (ledger only.tap.world).write_faults

  pub one_prints : (old : Taken (Printing V)) (new : List (Place (Printing V))) (only : Only (Printing V))
      → SawLines honest shows [] old.tap
      → AreShown saw missed (λ t. t.faults) (λ t. t.lacks) packets (Seated old ∷ []) new → IsOnly new only
      → Prints old.skip old.quota only
  one_prints old [] only fresh shown is = absurd is
  one_prints old (Seated taken ∷ []) only fresh shown is =
      let stays = one_shown saw missed (λ t. t.faults) (λ t. t.lacks) packets old (Seated taken) shown in
      let all =
      subst (λ (t : Printing V). HasPrinted honest shows (lines_of (window old.skip old.quota packets)) t.world)
      (sym is.1) (stays.saw_window [] fresh).1 in
      record {
        whole = λ there. all;
        first = λ p h. subst (IsFirstPart (lines_of (window old.skip old.quota packets))) (sym (all p h))
            (part-whole (lines_of (window old.skip old.quota packets)));
        failed = λ lost. let never : Some false ≡ None = sym lost ∙ is.0 in absurd (cc);
      }
  one_prints old (Lost lost ∷ []) only fresh shown is =
      let loses = one_shown saw missed (λ t. t.faults) (λ t. t.lacks) packets old (Lost lost) shown in
      let w = window old.skip old.quota packets in
      let missed_it = loses.missed_next [] fresh in
      let begun = subst (λ (t : Printing V). HasBegunToPrint honest shows (lines_of (take (suc loses.count) w)) t.world)
      (sym is.1) missed_it.1 in
      record {
        whole = λ there. let never : None ≡ Some lost.memory = sym there ∙ is.0 in absurd (cc);
        first = λ p h.
            let part = begun p h in
            subst (IsFirstPart (lines_of w)) (sym part.1) (lines-first (suc loses.count) part.0 w);
        failed = λ failed.
            let memory : lost.memory ≡ false = some-bool (sym is.0 ∙ failed) in
            subst (λ (t : Printing V). 0 < (ledger t.world).write_faults) (sym is.1)
            (counted missed_it.0 (rose-some old.tap.faults lost.object.faults (loses.failed memory)));
      }
    where
      some-bool : {x y : Bool} → Some x ≡ Some y → x ≡ y
      some-bool {x} {y} same = cc

      counted : (lost.object.faults ≡ 0) ⊎ (0 < (ledger lost.object.world).write_faults) → 0 < lost.object.faults
          → 0 < (ledger lost.object.world).write_faults
      counted (inl none) some = absurd (let never : ⊥ = omega (arith, none, some) in never)
      counted (inr more) some = more
  one_prints old (Out ∷ []) only fresh shown is = absurd is
  one_prints old (a ∷ b ∷ more) only fresh shown is = absurd is

-- What printing comes to

-- an answer that tells of a line that was not written, of a tap that failed
pub write_fault : (answered : Watched) (lost : Option Bool) → ended_with answered lost ≡ printed.WriteFault
    → lost ≡ Some false
write_fault (watched.Done count) None is = absurd (cc)
write_fault (watched.Done count) (Some true) is = absurd (cc)
write_fault (watched.Done count) (Some false) is = refl
write_fault watched.BadWords lost is = absurd (cc)
write_fault watched.ReadFault lost is = absurd (cc)
write_fault watched.NoMemory lost is = absurd (cc)
write_fault (watched.BadInput fault) lost is = absurd (cc)
write_fault (watched.TooLarge limit) lost is = absurd (cc)

module _ {V : Type 0} (honest : Start → V → Type 0) (shows : Start → V → Shown) (ledger : V → Ledger) where
  -- of a deck of one tap that was shown what was read
  pub window_prints : (names : WatchNames) (said : List Packet → Watched → Type 0)
      (answered : Watched) (answer : Printed) (only : Only (Printing V)) (old : Taken (Printing V))
      (new : List (Place (Printing V))) (out : V) → answer ≡ ended_with answered only.lost → out ≡ only.tap.world
      → old.skip ≡ names.skip → old.quota ≡ names.quota → SawLines honest shows [] old.tap
      → HasShown (λ t packets. SawLines honest shows packets t) (λ t packets. MissedLine honest shows ledger packets t)
      (λ t. t.faults) (λ t. t.lacks) (λ packets. said packets answered) (Seated old ∷ []) new
      → IsOnly new only → PrintsWindow honest shows names answer said out
  window_prints names said answered answer only old new out ended is skip quota fresh shown one =
      let prints = one_prints honest shows ledger shown.packets old new only fresh shown.shown one in
      let same : window old.skip old.quota shown.packets ≡ window names.skip names.quota shown.packets =
      ap (λ n. window n old.quota shown.packets) skip ∙ ap (λ n. window names.skip n shown.packets) quota in
      record {
        watched = answered;
        lost = only.lost;
        ended = ended;
        packets = shown.packets;
        told = shown.told;
        whole = λ there. subst (λ (w : V). HasPrinted honest shows
            (lines_of (window names.skip names.quota shown.packets)) w) (sym is)
            (subst (λ (l : List Packet). HasPrinted honest shows (lines_of l) only.tap.world) same
            (prints.whole there));
        first = subst (λ (w : V). HasBegunToPrint honest shows
            (lines_of (window names.skip names.quota shown.packets)) w) (sym is)
            (subst (λ (l : List Packet). HasBegunToPrint honest shows (lines_of l) only.tap.world) same prints.first);
      }

  -- where there was no memory for the tap
  pub nothing_prints : (names : Option WatchNames) (said : WatchNames → List Packet → Watched → Type 0) (out : V)
      → HasPrinted honest shows [] out → ((it : WatchNames) → said it [] watched.NoMemory)
      → IfSome names (λ it. PrintsWindow honest shows it (printed.Watched watched.NoMemory) (said it) out)
  nothing_prints None said out fresh told = tt
  nothing_prints (Some it) said out fresh told =
      let none : lines_of (window it.skip it.quota []) ≡ [] = ap lines_of (window-nil it.skip it.quota) in
      record {
        watched = watched.NoMemory;
        lost = None;
        ended = refl;
        packets = [];
        told = told it;
        whole = λ there. subst (λ (l : List ℕ). HasPrinted honest shows l out) (sym none) fresh;
        first = λ p h. (0, fresh p h);
      }

  -- these packets were shown to taps that print lines
  abbrev pub LinesShown : (List Packet → Type 0) → List (Place (Printing V)) → List (Place (Printing V)) → Type 0
  LinesShown said old new =
      HasShown (λ t packets. SawLines honest shows packets t) (λ t packets. MissedLine honest shows ledger packets t)
      (λ t. t.faults) (λ t. t.lacks) said old new

  -- of words that ask for a window, and a deck of one tap that has it
  module _ (asked : Option WatchNames) (it : WatchNames) (is : asked ≡ Some it)
      (said : WatchNames → List Packet → Watched → Type 0) (answered : Watched) (out : V)
      (before new : List (Place (Printing V)))
      (seated : before ≡ Seated (record {
        tap = record { world = out; faults = 0; lacks = 0 };
        skip = it.skip;
        quota = it.quota;
      }) ∷ [])
      (shown : IfSome asked (λ names. LinesShown (λ packets. said names packets answered) before new)) where
    abbrev one : Taken (Printing V)
    one = record { tap = record { world = out; faults = 0; lacks = 0 }; skip = it.skip; quota = it.quota }

    here : LinesShown (λ packets. said it packets answered) (Seated one ∷ []) new
    here = subst (λ (d : List (Place (Printing V))). LinesShown (λ packets. said it packets answered) d new) seated
        (subst (λ (o : Option WatchNames). IfSome o
        (λ names. LinesShown (λ packets. said names packets answered) before new)) is shown)

    pub has_one_line : HasOne new
    has_one_line = has_one _ _ _ _ here.packets one new here.shown

    pub prints_lines : (answer : Printed) (only : Only (Printing V)) (back : V)
        → answer ≡ ended_with answered only.lost → back ≡ only.tap.world → HasPrinted honest shows [] out
        → IsOnly new only → IfSome asked (λ names. PrintsWindow honest shows names answer (said names) back)
    prints_lines answer only back ended world fresh only_is =
        subst (λ (o : Option WatchNames). IfSome o (λ names. PrintsWindow honest shows names answer (said names) back))
        (sym is)
        (window_prints it (said it) answered answer only one new back ended world refl refl (refl, fresh) here only_is)

    pub fault_counted : (answer : Printed) (only : Only (Printing V)) (back : V)
        → answer ≡ ended_with answered only.lost → back ≡ only.tap.world → HasPrinted honest shows [] out
        → IsOnly new only → answer ≡ printed.WriteFault → 0 < (ledger back).write_faults
    fault_counted answer only back ended world fresh only_is fault =
        let prints = one_prints honest shows ledger here.packets one new only (refl, fresh) here.shown only_is in
        subst (λ (w : V). 0 < (ledger w).write_faults) (sym world)
        (prints.failed (write_fault answered only.lost (sym ended ∙ fault)))
