-- What a box program means, as functions on plain data, and the laws of every program.
use Rattle.std.specs.Prelude.{◌≡◌, ℕ, ◌<◌, ◌≤◌, List, length}
use Rattle.plain_text.specs.declared.packet.Packet.{Packet}
use Rattle.plain_machine.specs.declared.local.Local.{Local}
use Rattle.plain_machine.specs.declared.local.Move.{Move}
use Rattle.plain_machine.specs.declared.local.Move.TheVariants.{Access, Read, Clock, Draw, Emit, End}

-- V is the kind of value that a shared variable has
pub record Meaning (V : Type 0) : Type 0 where
  -- how many shared variables there are
  pub vars : ℕ
  -- the first value of each variable
  pub fresh : ℕ → V
  -- the Local with which a packet begins
  pub begin : Packet → Local
  -- the next move
  pub next : Local → Move
  -- a touch of a variable gives its next value and the next Local
  pub touch : ℕ → V → Local → V × Local
  -- a read of a variable gives the next Local
  pub look : ℕ → V → Local → Local
  -- the Local after an answer
  pub told : ℕ → Local → Local
  -- the Local after the packet went out
  pub emitted : Local → Local
  -- the bytes that go out
  pub out : Packet → Local → List ℕ
  -- the text that shows a variable's value
  pub shown : ℕ → V → List ℕ
  -- how many moves are left before the end, at most
  pub rank : Local → ℕ

-- `fits v x` says that the variable v may have the value x.
pub record IsLawful {V : Type 0} (m : Meaning V) (fits : ℕ → V → Type 0) : Type 0 where
  pub some_vars : 1 ≤ m.vars
  pub few_vars : m.vars ≤ 256
  pub touches_var : (l : Local) (v : ℕ) → m.next l ≡ Access v → v < m.vars
  pub reads_var : (l : Local) (v : ℕ) → m.next l ≡ Read v → v < m.vars
  pub begins : (p : Packet) → m.rank (m.begin p) ≤ 62
  pub touch_falls : (v : ℕ) (x : V) (l : Local) → m.next l ≡ Access v → fits v x → m.rank (m.touch v x l).1 < m.rank l
  pub look_falls : (v : ℕ) (x : V) (l : Local) → m.next l ≡ Read v → fits v x → m.rank (m.look v x l) < m.rank l
  pub clock_falls : (a : ℕ) (l : Local) → m.next l ≡ Clock → m.rank (m.told a l) < m.rank l
  pub draw_falls : (a : ℕ) (l : Local) → m.next l ≡ Draw → m.rank (m.told a l) < m.rank l
  pub emit_falls : (l : Local) → m.next l ≡ Emit → m.rank (m.emitted l) < m.rank l
  pub ends : (l : Local) → m.rank l ≡ 0 → m.next l ≡ End
  pub fresh_fits : (v : ℕ) → v < m.vars → fits v (m.fresh v)
  pub touch_fits : (v : ℕ) (x : V) (l : Local) → m.next l ≡ Access v → fits v x → fits v (m.touch v x l).0
  pub as_long : (p : Packet) (l : Local) → m.next l ≡ Emit → length (m.out p l) ≡ length p.bytes
