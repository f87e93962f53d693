-- What the threads of a round are told that ask for the time or for a random word.
use Rattle.std.specs.Prelude.{◌≡◌, ◌⊎◌, ℕ, List, [], ◌∷◌, None}
use Rattle.rand_pcg.specs.Lcg.{Lcg}
use Rattle.rand_pcg.specs.Pcg.{pcg32}
use Rattle.entry_order.specs.declared.what.What.{What}
use Rattle.entry_order.specs.declared.what.What.TheVariants as what
use Rattle.access_log.specs.Held.{Lane, lane, entry_at}
use Rattle.master_core.specs.declared.step.Stepped.{Stepped}
use Rattle.master_core.specs.declared.step.Stepped.TheVariants as stepped
use Rattle.master_core.specs.declared.wants.Wants.{Wants}
use Rattle.master_core.specs.declared.wants.Wants.TheVariants as wants
use Rattle.replay_guide.specs.Following.{recorded}
use Rattle.round_join.specs.declared.noting.Made.{Made}

-- no answer is recorded of entry n of thread t
abbrev pub IsUnrecorded : List Lane → ℕ → ℕ → Type 0
IsUnrecorded guide t n = recorded (entry_at (lane guide t) n) ≡ None

-- Entry n of thread t is a word that is told: the next one of its generator, unless one is recorded.
abbrev pub IsWord : List Lane → ℕ → ℕ → ℕ → Lcg → Lcg → Type 0
IsWord guide t n a g new =
    (IsUnrecorded guide t n × (a ≡ (pcg32 g).0) × (new ≡ (pcg32 g).1)) ⊎ ((IsUnrecorded guide t n → ⊥) × (new ≡ g))

-- It is the time that is told: one that the clock may answer, unless one is recorded.
abbrev pub IsTime : (ℕ → Type 0) → List Lane → ℕ → ℕ → ℕ → Type 0
IsTime may guide t n a = IsUnrecorded guide t n → may a

-- what entry n of thread t was told, and how its generator went on
abbrev pub IsToldBy : (ℕ → Type 0) → List Lane → ℕ → ℕ → What → Lcg → Lcg → Type 0
IsToldBy may guide t n (what.Access v s) g new = new ≡ g
IsToldBy may guide t n (what.Read v s) g new = new ≡ g
IsToldBy may guide t n (what.Clock a) g new = IsTime may guide t n a × (new ≡ g)
IsToldBy may guide t n (what.Draw a) g new = IsWord guide t n a g new

-- what a move of thread t was told, by what its call answered
abbrev pub IsTold : (ℕ → Type 0) → List Lane → ℕ → Stepped → Lcg → Lcg → Type 0
IsTold may guide t (stepped.Took k) g new = new ≡ g
IsTold may guide t (stepped.Did e) g new = IsToldBy may guide t e.number e.what g new
IsTold may guide t (stepped.Emitted o) g new = new ≡ g
IsTold may guide t (stepped.Ended k) g new = new ≡ g
IsTold may guide t stepped.Idle g new = new ≡ g
IsTold may guide t (stepped.NotTurn u n) g new = new ≡ g
IsTold may guide t stepped.NoMemory g new = new ≡ g

-- what its moves were told, the newest first, while its generator went from g to new
abbrev pub AreTold : (ℕ → Type 0) → List Lane → ℕ → List Made → Lcg → Lcg → Type 0
AreTold may guide t [] g new = new ≡ g
AreTold may guide t (x ∷ moves) g new =
    (mid : Lcg) × AreTold may guide t moves g mid × IsTold may guide t x.stepped mid new

-- the answer that is at hand for what a thread wants next
abbrev pub IsAtHand : (ℕ → Type 0) → List Lane → ℕ → Wants → ℕ → Lcg → Lcg → Type 0
IsAtHand may guide t (wants.Take k) a g new = new ≡ g
IsAtHand may guide t (wants.Touch n v s) a g new = new ≡ g
IsAtHand may guide t (wants.Read n v s) a g new = new ≡ g
IsAtHand may guide t (wants.Clock n) a g new = IsTime may guide t n a × (new ≡ g)
IsAtHand may guide t (wants.Draw n) a g new = IsWord guide t n a g new
IsAtHand may guide t wants.Emit a g new = new ≡ g
IsAtHand may guide t wants.End a g new = new ≡ g
