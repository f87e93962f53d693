-- The rule of the locks. It is over every run of which the opening master is the end: masters do not know their past.
use base.Stored.{Gv}
use Rattle.std.specs.Prelude.{◌≡◌, ℕ, ◌+◌, ◌<◌, ◌≤◌, ◌^◌, Bool, true, false, cond, List, [], length, Option, Some, None}
use Rattle.std.specs.Prelude.{slice_index, slice_index_or}
use Rattle.std.specs.Coded.{Coded}
use mathlib.Core.Option as logic
use lib.ListN.{get_elem?}
use Rattle.plain_text.specs.declared.packet.Packet.{Packet}
use Rattle.entry_order.specs.declared.what.What.{What}
use Rattle.entry_order.specs.Stamps.{sum_below}
use Rattle.access_log.specs.Held.{Lane}
use Rattle.plain_machine.specs.Program.{Meaning}
use Rattle.plain_machine.specs.History.{Step}
use Rattle.master_core.specs.declared.parts.VarPart.{VarPart}
use Rattle.master_core.specs.declared.parts.ThreadPart.{ThreadPart}
use Rattle.master_core.specs.Mastered.{Mastered, in_hand_count, moves_made}
use Rattle.master_core.specs.MasterStanding.{Stands}
use Rattle.replay_guide.specs.Following.{Follows}
use Rattle.replay_guide.specs.Orders.{IsNamed}
use Rattle.atomic_table.specs.Table.{State}
use Rattle.round_order.specs.Receipts.{Receipts}
use Rattle.round_order.specs.Linked.{IsKnown}
use Rattle.round_order.specs.Home.{IsHome, IsSeat}
use Rattle.round_order.specs.Growth.{IsRound}
use Rattle.var_locks.specs.declared.view.Note.{Note}
use Rattle.var_locks.specs.declared.view.Share.{Share}
use Rattle.var_locks.specs.declared.view.Held.{Held}
use Rattle.var_locks.specs.declared.view.MissedEntry.{MissedEntry}
use Rattle.var_locks.specs.declared.view.View.{View}
use Rattle.var_locks.specs.Codes.{master_code}
use Rattle.var_locks.specs.Words.{var_word, thread_word, word_count}
use Rattle.var_locks.specs.Notes.{read_notes, AreFed, AreGuided}
use Rattle.var_locks.specs.Views.{HasShare, AreApart, IsMissed}

-- What is so at one moment of a round: of each thread its notes, its part, whether it ended, and the seat that has it;
-- of each variable what is at home, or was found there by the seat that has it; and the followed entries that are known
-- to be missing.
pub record Now (V : Type 0) : Type 0 where
  pub notes : ℕ → List (Note V)
  pub parts : ℕ → ThreadPart
  pub ended : ℕ → Bool
  pub owner : ℕ → ℕ
  pub vars : ℕ → VarPart V
  pub holder : ℕ → Option ℕ
  pub lost : List (ℕ × ℕ)

-- The words, the slots and the views

-- A free variable is at home, with twice its touches in the word. One that is taken is in the hand of one seat, which
-- has a thread.
abbrev pub IsPlaced : {V : Type 0} → State (VarPart V) (View V) → ℕ → Now V → ℕ → VarPart V → Option ℕ → Type 0
IsPlaced s threads d v x None =
    (slice_index s.words (var_word v) ≡ x.places + x.places) × (get_elem? s.homes v ≡ logic.some (logic.some x))
IsPlaced {V} s threads d v x (Some id) =
    (slice_index s.words (var_word v) ≡ x.places + x.places + 1)
    × ((w : View V) × (get_elem? s.views id ≡ logic.some w) × (w.hand ≡ Some (record { var = v; found = x })))
    × ((t : ℕ) × (t < threads) × (d.owner t ≡ id))

-- a share of this seat tells of its thread what is so
pub record IsShare {V : Type 0} (threads : ℕ) (d : Now V) (id : ℕ) (x : Share V) : Type 0 where
  pub mine : d.owner x.thread ≡ id
  pub low : x.thread < threads
  pub notes : x.notes ≡ d.notes x.thread
  pub part : x.part ≡ d.parts x.thread
  pub ended : x.ended ≡ d.ended x.thread

-- An entry that a seat found missing is known to be, and its variable was touched no less often than it says.
abbrev pub IsLost : {V : Type 0} → ℕ → Now V → MissedEntry → Type 0
IsLost vars d e = IsNamed e.thread e.number d.lost × (e.var < vars) × (e.places ≤ (d.vars e.var).places)

-- The view of a seat is right.
pub record IsView {V : Type 0} (vars threads : ℕ) (d : Now V) (id : ℕ) (w : View V) : Type 0 where
  pub apart : AreApart w.shares
  pub share : (x : Share V) → HasShare x w.shares → IsShare threads d id x
  pub hand : (h : Held V) → w.hand ≡ Some h → (h.var < vars) × (d.holder h.var ≡ Some id) × (h.found ≡ d.vars h.var)
  pub seen : (v : ℕ) → v < vars → slice_index w.seen v ≤ (d.vars v).places
  pub missing : (e : MissedEntry) → IsMissed e w.missing → IsLost vars d e

-- The table is as it is so: a word for each variable, with its value, and one for each thread, which is 1 where it
-- ended.
pub record IsTableOf {V : Type 0} (vars threads : ℕ) (d : Now V) (s : State (VarPart V) (View V)) : Type 0 where
  pub words : length s.words ≡ word_count vars threads
  pub homes : length s.homes ≡ vars
  pub ended : (t : ℕ) → t < threads → slice_index s.words (thread_word vars t) ≡ cond (d.ended t) 1 0
  pub placed : (v : ℕ) → v < vars → IsPlaced s threads d v (d.vars v) (d.holder v)
  pub view : (id : ℕ) (w : View V) → get_elem? s.views id ≡ logic.some w → IsView vars threads d id w

-- The runs

-- The receipts that the notes are after a past
abbrev pub receipts : {V : Type 0} → Meaning V → List (Step V) → Now V → Receipts V
receipts m past d t = read_notes m past t (d.notes t)

-- Of one run: the receipts are a round of it, which leads to what is at home and what each thread has; and it has no
-- entry that is known to be missing.
pub record IsStory {V : Type 0} (m : Meaning V) (guide : List Lane) (threads : ℕ) (d : Now V) (inputs : ℕ → List Packet)
    (past : List (Step V)) : Type 0 where
  pub round : IsRound m inputs threads past (receipts m past d)
  pub home : (v : ℕ) → v < m.vars → IsHome m past (receipts m past d) v (d.vars v)
  pub seat : (t : ℕ) → t < threads → IsSeat past (receipts m past d) t (d.parts t)
  pub lost : (u k : ℕ) (what : What) (stamp : ℕ → ℕ) → IsNamed u k d.lost → Follows guide u k what
      → IsKnown past (receipts m past d) (record { thread = u; number = k; what = what }) stamp → ⊥

-- What is so, is so by the moves of the threads: in each run that the opening master stands for and whose inputs were
-- passed.
pub record IsSound {V : Type 0} (m : Meaning V) (fits : ℕ → V → Type 0) (guide : List Lane) (p : Mastered V)
    (d : Now V) : Type 0 where
  pub few : length p.threads ≤ 16
  pub held : (t : ℕ) → t < length p.threads → in_hand_count (d.parts t).hand ≤ (d.parts t).counts.taken
  pub made : (t : ℕ) → t < length p.threads → moves_made (d.parts t) ≤ 2 ^ 56
  pub places : (v : ℕ) → v < m.vars → (d.vars v).places ≤ sum_below (length p.threads) (λ t. (d.parts t).counts.entries)
  pub fit : (v : ℕ) → v < m.vars → fits v (d.vars v).value
  pub guided : (t : ℕ) → t < length p.threads → AreGuided guide t (d.notes t)
  pub beyond : (t : ℕ) → length p.threads ≤ t → d.notes t ≡ []
  pub gone : (u k : ℕ) → IsNamed u k d.lost → (u < length p.threads) × (d.ended u ≡ true)
  pub story : (inputs : ℕ → List Packet) (past : List (Step V)) → Stands m (length p.threads) past p
      → ((t : ℕ) → t < length p.threads → AreFed (inputs t) (d.notes t))
      → IsStory m guide (length p.threads) d inputs past

-- The rule.
pub record IsTold {V : Type 0} (m : Meaning V) (fits : ℕ → V → Type 0) (guide : List Lane) (p : Mastered V)
    (s : State (VarPart V) (View V)) : Type 0 where
  pub now : Now V
  pub at : IsTableOf m.vars (length p.threads) now s
  pub sound : IsSound m fits guide p now

-- The rule of the round whose program and opening master have these codes.
abbrev pub IsToldOf : {P V : Type 0} → (P → Meaning V) → (P → ℕ → V → Type 0) → Coded P → Coded V → Gv → Gv → List Lane
    → State (VarPart V) (View V) → Type 0
IsToldOf {P} {V} meaning fits c d program opening guide s =
    (q : P) (p : Mastered V) → c.code q ≡ program → (master_code d).code p ≡ opening
    → IsTold (meaning q) (fits q) guide p s

-- At one moment

-- At one moment of the round the rule held, a seat had this view, and thread t had not ended.
pub record WasGoing {V : Type 0} (m : Meaning V) (fits : ℕ → V → Type 0) (guide : List Lane) (p : Mastered V)
    (w : View V) (t : ℕ) : Type 0 where
  pub now : Now V
  pub sound : IsSound m fits guide p now
  pub seat : ℕ
  pub view : IsView m.vars (length p.threads) now seat w
  pub going : now.ended t ≡ false

-- the same of the round whose program and opening master have these codes
abbrev pub WasGoingOf : {P V : Type 0} → (P → Meaning V) → (P → ℕ → V → Type 0) → Coded P → Coded V → Gv → Gv → List Lane
    → View V → ℕ → Type 0
WasGoingOf {P} {V} meaning fits c d program opening guide w t =
    (q : P) (p : Mastered V) → c.code q ≡ program → (master_code d).code p ≡ opening
    → WasGoing (meaning q) (fits q) guide p w t

-- At first

-- The words at first: twice the places of each variable, and 0 for each thread.
pub record AreFirstWords {V : Type 0} (p : Mastered V) (words : List ℕ) : Type 0 where
  pub count : length words ≡ word_count (length p.vars) (length p.threads)
  pub var : (v : ℕ) (d : VarPart V) → v < length p.vars
      → slice_index words (var_word v) ≡ (slice_index_or p.vars v d).places + (slice_index_or p.vars v d).places
  pub thread : (t : ℕ) → t < length p.threads → slice_index words (thread_word (length p.vars) t) ≡ 0

-- how often each variable was touched then
abbrev pub ArePlaces : {V : Type 0} → Mastered V → List ℕ → Type 0
ArePlaces {V} p places =
    (v : ℕ) (d : VarPart V) → v < length p.vars → slice_index places v ≡ (slice_index_or p.vars v d).places
