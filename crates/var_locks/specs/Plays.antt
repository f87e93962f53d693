-- What each kind of step tells.
use Rattle.std.specs.Prelude.{◌≡◌, ◌≢◌, ℕ, ◌+◌, ◌≤◌, ◌^◌, ◌∷◌, slice_index}
use Rattle.std.specs.Coded.{Coded}
use base.Stored.{Gv}
use Rattle.atomic_table.specs.Table.{Me, Step, rest}
use Rattle.master_core.specs.declared.parts.VarPart.{VarPart}
use Rattle.var_locks.specs.declared.view.Note.{Note}
use Rattle.var_locks.specs.declared.view.MissedEntry.{MissedEntry}
use Rattle.var_locks.specs.declared.view.View.{View}
use Rattle.var_locks.specs.Words.{var_word}
use Rattle.var_locks.specs.Views.{with_hand, empty_hand, noted_view, missed_view, ended_view}

-- What a seat finds of a variable: no fewer touches than it saw, twice their number in the word, and a value that the
-- program knows.
pub record Finds {P V : Type 0} (fits : P → ℕ → V → Type 0) (c : Coded P) (program : Gv) (w : View V) (v word : ℕ)
    (x : VarPart V) : Type 0 where
  pub word_is : x.places + x.places ≡ word
  pub few : x.places ≤ 2 ^ 60
  pub seen : slice_index w.seen v ≤ x.places
  pub fit : (q : P) → c.code q ≡ program → fits q v x.value

-- where the word was as it was seen, its variable is in hand
abbrev pub Takes : {P V : Type 0} → (P → ℕ → V → Type 0) → Coded P → Gv → Step (VarPart V) → Me (VarPart V) (View V) → ℕ
    → Me (VarPart V) (View V) → Type 0
Takes {P} {V} fits c program st me found now =
    (found ≡ st.first
    → (v : ℕ) × (x : VarPart V)
    × (st.word ≡ var_word v)
    × Finds fits c program me.0 v found x
    × (now ≡ (with_hand me.0 v x, (v, x) ∷ me.1)))
    × (found ≢ st.first → now ≡ me)

-- the note of this code is noted, and the slots stay
abbrev pub Notes : {V : Type 0} → Coded (Note V) → Gv → Step (VarPart V) → Me (VarPart V) (View V) → ℕ
    → Me (VarPart V) (View V) → Type 0
Notes {V} c note st me found now = (n : Note V) × (c.code n ≡ note) × (now ≡ (noted_view me.0 n, me.1))

-- it is noted, and the slot taken last is at home
abbrev pub Brings : {V : Type 0} → Coded (Note V) → Gv → Step (VarPart V) → Me (VarPart V) (View V) → ℕ
    → Me (VarPart V) (View V) → Type 0
Brings {V} c note st me found now = (n : Note V) × (c.code n ≡ note) × (now ≡ (noted_view me.0 n, rest me.1))

-- the slot taken last is at home
abbrev pub Gives : {V : Type 0} → Step (VarPart V) → Me (VarPart V) (View V) → ℕ → Me (VarPart V) (View V) → Type 0
Gives st me found now = now ≡ (empty_hand me.0, rest me.1)

-- where the word was 1, the entry is missing; elsewhere the view stays, and this is known of it and of the entry's thread
abbrev pub Misses : {V : Type 0} → (View V → ℕ → Type 0) → MissedEntry → Step (VarPart V) → Me (VarPart V) (View V) → ℕ
    → Me (VarPart V) (View V) → Type 0
Misses {V} known e st me found now =
    (found ≡ 1 → now ≡ (missed_view me.0 e, me.1)) × (found ≢ 1 → (now ≡ me) × known me.0 e.thread)

abbrev pub Ends : {V : Type 0} → Step (VarPart V) → Me (VarPart V) (View V) → ℕ → Me (VarPart V) (View V) → Type 0
Ends st me found now = now ≡ (ended_view me.0, me.1)
