-- What a step of a round asks of its seat.
use base.Stored.{Gv}
use Rattle.std.specs.Prelude.{◌≡◌, ℕ, ◌+◌, ◌<◌, ◌≤◌, ◌^◌, Bool, false, List, [], ◌∷◌, length, Some, None}
use Rattle.std.specs.Coded.{Coded}
use Rattle.plain_machine.specs.declared.local.Local.{Local}
use Rattle.access_log.specs.declared.entry.StampedEntry.{StampedEntry}
use Rattle.access_log.specs.Held.{Lane}
use Rattle.plain_machine.specs.Program.{Meaning}
use Rattle.box_program.specs.Hands.{FitsProgram}
use Rattle.master_core.specs.declared.parts.VarPart.{VarPart}
use Rattle.master_core.specs.declared.parts.ThreadPart.{ThreadPart}
use Rattle.master_core.specs.Mastered.{Mastered, IsBounded, value_of, moves_made}
use Rattle.replay_guide.specs.Turns.{WaitsFor}
use Rattle.atomic_table.specs.Table.{Me}
use Rattle.atomic_table.specs.Seated.{TableId}
use Rattle.var_locks.specs.declared.view.Note.{Note}
use Rattle.var_locks.specs.declared.view.Share.{Share}
use Rattle.var_locks.specs.declared.view.MissedEntry.{MissedEntry}
use Rattle.var_locks.specs.declared.view.View.{View}
use Rattle.var_locks.specs.Codes.{master_code}
use Rattle.var_locks.specs.Words.{thread_word, word_count}
use Rattle.var_locks.specs.Notes.{IsOwn, IsOnVariable, IsGuided}
use Rattle.var_locks.specs.Told.{AreFirstWords, ArePlaces}

-- The round is of this program, and has this number of words: one for each variable, and one for each thread.
pub record IsRoundOf {P V : Type 0} (meaning : P → Meaning V) (c : Coded P) (d : Coded V) (program opening : Gv)
    (parts : List ThreadPart) (q : P) (words : ℕ) : Type 0 where
  pub is : c.code q ≡ program
  pub master : Mastered V
  pub opens : (master_code d).code master ≡ opening
  pub threads : master.threads ≡ parts
  pub words_are : words ≡ word_count (meaning q).vars (length parts)

-- The master of these parts opens the round.
pub record Opens {V : Type 0} (m : Meaning V) (fits : ℕ → V → Type 0) (d : Coded V) (opening : Gv)
    (threads : List ThreadPart) (places : List ℕ) (vars : List (VarPart V)) (words : List ℕ)
    (p : Mastered V) : Type 0 where
  pub code : (master_code d).code p ≡ opening
  pub vars_are : p.vars ≡ vars
  pub threads_are : p.threads ≡ threads
  pub bounded : IsBounded p.vars p.threads
  pub fit : FitsProgram m fits value_of p.vars
  pub first : AreFirstWords p words
  pub places_are : ArePlaces p places

-- The seat has one thread, which did not end the round, and this note is of its next move.
pub record IsNext {V : Type 0} (guide : List Lane) (w : View V) (x : Share V) (n : Note V) : Type 0 where
  pub alone : w.shares ≡ x ∷ []
  pub going : x.ended ≡ false
  pub before : n.before ≡ x.part
  pub guided : IsGuided guide x.thread n
  pub room : moves_made n.before < 2 ^ 56

-- The seat may note the move, on no variable.
pub record MayNote {V : Type 0} (m : Meaning V) (guide : List Lane) (w : View V) (x : Share V)
    (n : Note V) : Type 0 where
  pub next : IsNext guide w x n
  pub empty : w.hand ≡ None
  pub own : IsOwn m x.thread n

-- The seat may bring variable v home, as y: the note is of a touch or a read of it. The word becomes this one.
pub record MayBring {V : Type 0} (m : Meaning V) (fits : ℕ → V → Type 0) (guide : List Lane) (w : View V) (v word : ℕ)
    (y : VarPart V) (x : Share V) (n : Note V) (found : VarPart V) (place : Local) (e : StampedEntry) : Type 0 where
  pub next : IsNext guide w x n
  pub hand : w.hand ≡ Some (record { var = v; found = found })
  pub on : IsOnVariable m x.thread v n found y place e
  pub fit : fits v y.value
  pub word_is : word ≡ y.places + y.places

-- what it has in hand
abbrev pub HasInHand : {V : Type 0} → View V → ℕ → VarPart V → Type 0
HasInHand w v x = w.hand ≡ Some (record { var = v; found = x })

-- The seat has the entry's variable in hand, touched as often as it says, and the guide says to wait for the entry
-- there.
pub record MayMiss {V : Type 0} (guide : List Lane) (w : View V) (e : MissedEntry) (x : VarPart V) (t n : ℕ)
    (read : Bool) : Type 0 where
  pub hand : HasInHand w e.var x
  pub places_are : e.places ≡ x.places
  pub waits : WaitsFor guide t n e.var read x.places x.readers e.thread e.number

-- The seat has this one thread, and nothing in hand.
pub record IsIdle {V : Type 0} (w : View V) (x : Share V) : Type 0 where
  pub alone : w.shares ≡ x ∷ []
  pub empty : w.hand ≡ None

-- What a seat may do, by what it has

-- it may note this move, on no variable
abbrev pub CanNote : {V : Type 0} → Meaning V → List Lane → View V → Note V → Type 0
CanNote {V} m guide w n = (x : Share V) × MayNote m guide w x n

-- it may bring variable v home with this word, by this note
abbrev pub CanBring : {V : Type 0} → Meaning V → (ℕ → V → Type 0) → List Lane → Me (VarPart V) (View V) → ℕ → ℕ
    → Note V → Type 0
CanBring {V} m fits guide me v word n =
    (x : Share V) × (y : VarPart V) × (found : VarPart V) × (place : Local) × (e : StampedEntry) × (me.1 ≡ (v, y) ∷ [])
    × MayBring m fits guide me.0 v word y x n found place e

-- it may give variable v back with this word, as it found it
abbrev pub CanGive : {V : Type 0} → Me (VarPart V) (View V) → ℕ → ℕ → Type 0
CanGive {V} me v word = (x : VarPart V) × HasInHand me.0 v x × (me.1 ≡ (v, x) ∷ []) × (word ≡ x.places + x.places)

-- it may find the entry missing
abbrev pub CanMiss : {V : Type 0} → Meaning V → List Lane → View V → MissedEntry → Type 0
CanMiss {V} m guide w e = (x : VarPart V) × (t : ℕ) × (n : ℕ) × (read : Bool) × (e.var < m.vars)
    × MayMiss guide w e x t n read

-- it may take a variable
abbrev pub CanTake : {V : Type 0} → View V → Type 0
CanTake {V} w = (x : Share V) × IsIdle w x

-- it may end the round, by this word
abbrev pub CanEnd : {V : Type 0} → Meaning V → View V → ℕ → Type 0
CanEnd {V} m w word = (x : Share V) × IsIdle w x × (word ≡ thread_word m.vars x.thread)

-- it may part with its first thread
abbrev pub CanSplit : {V : Type 0} → View V → Type 0
CanSplit {V} w = (x : Share V) × (others : List (Share V)) × (w.shares ≡ x ∷ others) × (w.hand ≡ None)

-- What is seen of the variables of a round: the codes of its program and of its opening master, with the parts of the
-- threads in this master; the table of its words and slots; and how many variables and threads it has.
pub record Opened : Type 0 where
  pub program : Gv
  pub opening : Gv
  pub parts : List ThreadPart
  pub round : TableId
  pub vars : ℕ
  pub threads : ℕ

-- These are the variables of a round of this program.
pub record AreVarsOf {P V : Type 0} (meaning : P → Meaning V) (c : Coded P) (d : Coded V) (q : P)
    (x : Opened) : Type 0 where
  pub of : IsRoundOf meaning c d x.program x.opening x.parts q x.round.words
  pub slots_are : x.round.slots ≡ x.vars
  pub vars_are : x.vars ≡ (meaning q).vars
  pub threads_are : x.threads ≡ length x.parts
  pub some : 0 < x.threads
  pub few : x.threads ≤ 16
  pub small : x.round.words < 2 ^ 63
