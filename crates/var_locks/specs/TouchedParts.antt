-- What a touch or a read does to what a seat has in hand.
use Rattle.std.specs.Prelude.{◌≡◌, ℕ, ◌+◌, ◌<◌, ◌≤◌, ◌^◌, Bool, true, false, List, [], ◌∷◌, ◌++◌, Option, Some, None}
use Rattle.std.specs.Prelude.{slice_index}
use base.Stored.{Gv}
use Rattle.std.specs.Coded.{Coded}
use Rattle.access_log.specs.Held.{Lane}
use Rattle.master_core.specs.declared.step.Trace.TheVariants as trace
use Rattle.atomic_table.specs.Table.{Me}
use Rattle.var_locks.specs.declared.view.MissedEntry.{MissedEntry}
use Rattle.var_locks.specs.declared.view.View.{View}
use Rattle.var_locks.specs.Notes.{IsOnVariable, LetsPass, IsGuided, mark_in}
use Rattle.var_locks.specs.declared.touching.Touched.{Touched}
use Rattle.var_locks.specs.declared.touching.Touched.TheVariants as touched
use Rattle.var_locks.specs.Views.{with_hand, empty_hand, missed_view, note_on, noted_view, sees_what}
use Rattle.var_locks.specs.Plays.{Finds}
use Rattle.var_locks.specs.Seats.{Seated, share_of}
use Rattle.var_locks.specs.Rounds.{MayMiss}
use Rattle.replay_guide.specs.Turns.{WaitsFor}
use Rattle.var_locks.specs.declared.touching.Access.{Access}
use Rattle.access_log.specs.declared.entry.StampedEntry.{StampedEntry}
use Rattle.access_log.specs.declared.entry.Turn.{Turn}
use Rattle.access_log.specs.declared.entry.Turn.TheVariants as turn
use Rattle.plain_machine.specs.declared.local.Local.{Local}
use Rattle.plain_machine.specs.declared.local.Move.{Move}
use Rattle.plain_machine.specs.declared.local.Move.TheVariants as move
use Rattle.plain_machine.specs.Program.{Meaning}
use Rattle.master_core.specs.declared.parts.VarPart.{VarPart}
use Rattle.master_core.specs.declared.parts.ThreadPart.{ThreadPart}
use Rattle.master_core.specs.Effects.{TouchesParts, ReadsParts}

-- a read of the variable, or a touch of it
abbrev pub wanted_move : ℕ → Bool → Move
wanted_move v true = move.Read v
wanted_move v false = move.Access v

abbrev pub WorksBy : {V : Type 0} → Meaning V → ℕ → ℕ → Bool → Local → ThreadPart → ThreadPart → StampedEntry
    → VarPart V → VarPart V → Type 0
WorksBy m t v true place before after e x y = ReadsParts m t v place before x e after y
WorksBy m t v false place before after e x y = TouchesParts m t v place before x e after y

-- the thread with this part wants this touch or read
pub record IsWanted {V : Type 0} (m : Meaning V) (part : ThreadPart) (a : Access) : Type 0 where
  pub few : a.thread < 16
  pub low : a.var < m.vars
  pub hand : part.hand ≡ Some a.place
  pub next : m.next a.place ≡ wanted_move a.var a.read

-- the seat has variable v in hand, with a value that the program knows
abbrev pub HasSlot : {V : Type 0} → (ℕ → V → Type 0) → ℕ → Me (VarPart V) (View V) → Type 0
HasSlot {V} fits v me = (x : VarPart V) × (me.1 ≡ (v, x) ∷ []) × (x.places ≤ 2 ^ 60) × fits v x.value

-- it has in hand what the touch or the read left of the variable
abbrev pub Works : {V : Type 0} → Meaning V → Access → ThreadPart → ThreadPart → StampedEntry → VarPart V
    → List (ℕ × VarPart V) → Type 0
Works {V} m a before after e x slots =
    (y : VarPart V) × (slots ≡ (a.var, y) ∷ []) × WorksBy m a.thread a.var a.read a.place before after e x y

-- the word that a touch brings home, or a read
abbrev pub next_word : ℕ → Bool → ℕ
next_word word true = word
next_word word false = word + 2

-- the entry for which a turn says to wait
abbrev pub entry_waited : Turn → Option (ℕ × ℕ)
entry_waited (turn.Wait u k) = Some (u, k)
entry_waited turn.Follow = None
entry_waited turn.Free = None

-- A seat that took a variable

-- its token has this thread, with this part, and nothing in hand
pub record HasThread {V : Type 0} (me : Me (VarPart V) (View V)) (thread : ℕ) (part : ThreadPart) : Type 0 where
  pub alone : me.0.shares ≡ share_of me.0 thread part false ∷ []
  pub empty : me.0.hand ≡ None
  pub slots : me.1 ≡ []

-- It has the variable in hand as it found it, with its thread.
pub record HasTaken {P V : Type 0} (fits : P → ℕ → V → Type 0) (c : Coded P) (program : Gv) (a : Access) (word : ℕ)
    (part : ThreadPart) (me : Me (VarPart V) (View V)) (x : VarPart V) : Type 0 where
  pub before : View V
  pub finds : Finds fits c program before a.var word x
  pub token : me ≡ (with_hand before a.var x, (a.var, x) ∷ [])
  pub alone : before.shares ≡ share_of before a.thread part false ∷ []

abbrev pub IsTaken : {P V : Type 0} → (P → ℕ → V → Type 0) → Coded P → Gv → Access → ℕ → ThreadPart
    → Me (VarPart V) (View V) → Type 0
IsTaken {P} {V} fits c program a word part me = (x : VarPart V) × HasTaken fits c program a word part me x

-- the guide lets it pass at what it found
abbrev pub MayGo : {V : Type 0} → List Lane → ℕ → ℕ → ℕ → Bool → VarPart V → Type 0
MayGo guide t n v read x = LetsPass guide t n v read x.places x.readers

-- it has taken the variable, and need not wait
abbrev pub MayWork : {P V : Type 0} → (P → ℕ → V → Type 0) → Coded P → Gv → List Lane → Access → ℕ → ThreadPart
    → Me (VarPart V) (View V) → Type 0
MayWork {P} {V} fits c program guide a word part me =
    (x : VarPart V)
    × HasTaken fits c program a word part me x
    × MayGo guide a.thread (part.counts.entries + 1) a.var a.read x

-- it has the entry's variable in hand as it found it, and the guide says to wait for the entry there
abbrev pub MustWait : {V : Type 0} → List Lane → ℕ → MissedEntry → Me (VarPart V) (View V) → Type 0
MustWait {V} guide word e me = (x : VarPart V) × (t : ℕ) × (n : ℕ) × (read : Bool) × MayMiss guide me.0 e x t n read
    × (me.1 ≡ (e.var, x) ∷ []) × (word ≡ x.places + x.places)

-- The guide says to wait for an entry at what it has in hand, and of the entry's thread, where it is one of the round,
-- this is known.
pub record MustTryAgain {V : Type 0} (known : View V → ℕ → Type 0) (guide : List Lane) (threads : ℕ) (a : Access)
    (part : ThreadPart) (me : Me (VarPart V) (View V)) (x : VarPart V) (u k : ℕ) : Type 0 where
  pub slots : me.1 ≡ (a.var, x) ∷ []
  pub waits : WaitsFor guide a.thread (part.counts.entries + 1) a.var a.read x.places x.readers u k
  pub going : u < threads → known me.0 u

abbrev pub MayStillCome : {V : Type 0} → (View V → ℕ → Type 0) → List Lane → ℕ → Access → ThreadPart
    → Me (VarPart V) (View V) → Type 0
MayStillCome {V} known guide threads a part me =
    (x : VarPart V) × (u : ℕ) × (k : ℕ) × MustTryAgain known guide threads a part me x u k

-- the entry (u, k), found missing at variable v, which was touched so often
abbrev pub missed_at : ℕ → ℕ → ℕ → ℕ → MissedEntry
missed_at u k v places = record { thread = u; number = k; var = v; places = places }

-- It touched or read what it had in hand, which is at home again, and noted the move.
pub record MadeOn {V : Type 0} (m : Meaning V) (guide : List Lane) (a : Access) (before after : ThreadPart)
    (old new : Me (VarPart V) (View V)) (e : StampedEntry) (x : VarPart V) : Type 0 where
  pub left : VarPart V
  pub place : Local
  pub on : IsOnVariable m a.thread a.var (note_on before after (trace.Did e) old.0) x left place e
  pub guided : IsGuided guide a.thread (note_on before after (trace.Did e) old.0)
  pub token : new ≡ (noted_view old.0 (note_on before after (trace.Did e) old.0), [])

abbrev pub MadeBy : {V : Type 0} → Meaning V → List Lane → Access → ThreadPart → ThreadPart → Me (VarPart V) (View V)
    → Me (VarPart V) (View V) → StampedEntry → Type 0
MadeBy {V} m guide a before after old new e =
    (x : VarPart V) × (old.1 ≡ (a.var, x) ∷ []) × MadeOn m guide a before after old new e x

-- What came of a touch or a read

-- nothing was made, and the seat has nothing in hand
pub record MadeNone {V : Type 0} (old new : Me (VarPart V) (View V)) (before after : ThreadPart) : Type 0 where
  pub token : new ≡ (empty_hand old.0, [])
  pub part : after ≡ before

-- and it found the entry missing for which the guide says to wait at what it had in hand
pub record MadeMissed {V : Type 0} (m : Meaning V) (guide : List Lane) (a : Access) (u k : ℕ)
    (old new : Me (VarPart V) (View V)) (before after : ThreadPart) : Type 0 where
  pub found : VarPart V
  pub slots : old.1 ≡ (a.var, found) ∷ []
  pub wanted : IsWanted m before a
  pub waits : WaitsFor guide a.thread (before.counts.entries + 1) a.var a.read found.places found.readers u k
  pub token : new ≡ (empty_hand (missed_view old.0 (missed_at u k a.var found.places)), [])
  pub part : after ≡ before

-- of a seat that had taken the variable
abbrev pub Comes : {V : Type 0} → Meaning V → List Lane → Access → ThreadPart → ThreadPart → Me (VarPart V) (View V)
    → Me (VarPart V) (View V) → Touched → Type 0
Comes m guide a before after old new (touched.Did e) = MadeBy m guide a before after old new e
Comes m guide a before after old new (touched.Blocked u k) = MadeMissed m guide a u k old new before after
Comes m guide a before after old new touched.NoMemory = MadeNone old new before after

-- of a seat that found no fewer touches of it than it had seen, and took it
abbrev pub ComesOf : {V : Type 0} → Meaning V → List Lane → Access → ThreadPart → ThreadPart → Me (VarPart V) (View V)
    → Me (VarPart V) (View V) → Touched → Type 0
ComesOf {V} m guide a before after old new r =
    (x : VarPart V)
    × (slice_index old.0.seen a.var ≤ x.places)
    × Comes m guide a before after (with_hand old.0 a.var x, (a.var, x) ∷ []) new r

-- What a touch or a read came to, of a seat

-- The seat touched variable v, or read it, and found x: it has one more note, and saw as many touches as the entry
-- says.
pub record HasTouched {V : Type 0} (m : Meaning V) (guide : List Lane) (old : Seated V) (e : StampedEntry)
    (new : Seated V) : Type 0 where
  pub var : ℕ
  pub found : VarPart V
  pub left : VarPart V
  pub place : Local
  pub on : IsOnVariable m old.thread var
      (record { before = old.part; after = new.part; trace = trace.Did e; packet = None; found = Some found }) found
      left place e
  pub guided : IsGuided guide old.thread
      (record { before = old.part; after = new.part; trace = trace.Did e; packet = None; found = Some found })
  -- its place is above all that the seat had seen
  pub above : slice_index old.seen var ≤ found.places
  pub seat : new ≡ record {
    thread = old.thread;
    part = new.part;
    notes =
        record { before = old.part; after = new.part; trace = trace.Did e; packet = None; found = Some found }
        ∷ old.notes;
    seen = sees_what old.seen e.what;
    missing = old.missing;
    ended = old.ended;
    round = old.round;
  }

-- The seat wanted a variable. At what it found of it the guide says to wait for entry (u, k), which is missing. It made
-- no move.
pub record IsBlocked {V : Type 0} (m : Meaning V) (guide : List Lane) (old : Seated V) (u k : ℕ)
    (new : Seated V) : Type 0 where
  pub var : ℕ
  pub read : Bool
  pub place : Local
  pub found : VarPart V
  pub inside : var < m.vars
  pub hand : old.part.hand ≡ Some place
  pub next : m.next place ≡ wanted_move var read
  pub waits : WaitsFor guide old.thread (old.part.counts.entries + 1) var read found.places found.readers u k
  -- touched no less often than the seat had seen
  pub above : slice_index old.seen var ≤ found.places
  pub seat : new ≡ record {
    thread = old.thread;
    part = old.part;
    notes = old.notes;
    seen = old.seen;
    missing = missed_at u k var found.places ∷ old.missing;
    ended = old.ended;
    round = old.round;
  }

abbrev pub Touches : {V : Type 0} → Meaning V → List Lane → Seated V → Seated V → Touched → Type 0
Touches m guide old new (touched.Did e) = HasTouched m guide old e new
Touches m guide old new (touched.Blocked u k) = IsBlocked m guide old u k new
Touches m guide old new touched.NoMemory = new ≡ old

-- what the seat saw after it
abbrev pub seen_by : List ℕ → Touched → List ℕ
seen_by seen (touched.Did e) = sees_what seen e.what
seen_by seen (touched.Blocked u k) = seen
seen_by seen touched.NoMemory = seen

-- the marks of what its thread did after it
abbrev pub marked_by : List (Option ℕ) → Touched → List (Option ℕ)
marked_by marks (touched.Did e) = marks ++ mark_in (trace.Did e) ∷ []
marked_by marks (touched.Blocked u k) = marks
marked_by marks touched.NoMemory = marks
