-- How a system is brought to a whole stored state: what each step makes of the world.
use Rattle.std.specs.Prelude.{◌≡◌, ℕ, ◌+◌, ◌⊎◌, Bool, true, false, List, [], ◌∷◌, ◌++◌, None, Ok, Contains}
use Rattle.plain_machine.specs.declared.plain_move.PlainMove.{PlainMove}
use Rattle.plain_machine.specs.Program.{Meaning}
use Rattle.plain_machine.specs.History.{Step, plain_move, play}
use Rattle.plain_machine.specs.Agree.{SendsAfter}
use Rattle.recovery_world.specs.World.{Setting, Sent, World, opening, inputs_fed}
use Rattle.recovery_world.specs.Events.{IsAmong}
use Rattle.recovery_world.specs.Files.{sent_names}
use Rattle.recovery_laws.specs.Sound.{Sound}
use Rattle.handover.specs.declared.image.Image.{Image}
use Rattle.handover_world.specs.declared.fault.ResumeError.{ResumeError}
use Rattle.handover_world.specs.declared.fault.ResumeError.TheVariants.{Count, Move, Released, NoMemory}
use Rattle.handover_world.specs.Faults.{IsOutputIn, AreReleased, WrongReleased, HasNoFault}
use Rattle.handover_world.specs.Images.{IsAtRest, IsImageOf}
use Rattle.system_parts.specs.Parts.{Parts}
use Rattle.system_parts.specs.SystemStanding.{StandsFor}
use Rattle.system_images.specs.Judging.{PlaysWhole}

-- Nothing is on the way, nothing is held and nothing is followed: so much is fed in this epoch, made and stored, and
-- these outputs are released, which were sent out.
pub record IsBuilt {V : Type 0} (fed epoch : ℕ) (past stored : List (Step V)) (names : List (ℕ × ℕ))
    (w : World V) : Type 0 where
  pub fed_is : w.fed ≡ fed
  pub epoch_is : w.epoch ≡ epoch
  pub up : w.up ≡ true
  pub past_is : w.past ≡ past
  pub stored_is : w.stored ≡ stored
  pub copy : w.copy ≡ None
  pub held : w.held ≡ []
  pub followed : w.followed ≡ []
  pub waiting : w.waiting ≡ []
  pub released : sent_names w.released ≡ names
  pub sent : (o : Sent) → IsAmong o w.released → SendsAfter past o.emission o.after

-- masters crash and start anew before the first move
abbrev pub Turns : {V : Type 0} → ℕ → Setting V → World V → World V → Type 0
Turns many s w next =
    (fed epoch : ℕ) → IsBuilt fed epoch [] [] [] w → IsBuilt fed (epoch + many) [] [] [] next

-- a legal move is made; and a legal list of them, from the first
abbrev pub MakesOne : {V : Type 0} → PlainMove → Setting V → World V → World V → Type 0
MakesOne {V} plain s w next =
    (fed epoch : ℕ) (past more : List (Step V)) → IsBuilt fed epoch past [] [] w
    → plain_move s.meaning (inputs_fed s fed) s.threads past plain ≡ Ok more → IsBuilt fed epoch more [] [] next

abbrev pub MakesAll : {V : Type 0} → List PlainMove → Setting V → World V → World V → Type 0
MakesAll {V} moves s w next =
    (fed epoch : ℕ) (steps : List (Step V)) → IsBuilt fed epoch [] [] [] w
    → play s.meaning (inputs_fed s fed) s.threads moves ≡ Ok steps → IsBuilt fed epoch steps [] [] next

-- all that was made is stored
abbrev pub StoresAll : {V : Type 0} → Setting V → World V → World V → Type 0
StoresAll {V} s w next =
    (fed epoch : ℕ) (past : List (Step V)) → IsBuilt fed epoch past [] [] w → IsBuilt fed epoch past past [] next

-- an output is released; or it is not one of the past, or was released before
abbrev pub IsReleased : {V : Type 0} → ℕ × ℕ → Bool → ℕ → ℕ → List (Step V) → List (ℕ × ℕ) → World V → Type 0
IsReleased output true fed epoch past names next =
    IsBuilt fed epoch past past (names ++ output ∷ []) next × IsOutputIn past output × (Contains names output → ⊥)
IsReleased output false fed epoch past names next = (IsOutputIn past output → ⊥) ⊎ Contains names output

abbrev pub ReleasesOne : {V : Type 0} → ℕ → ℕ → Bool → Setting V → World V → World V → Type 0
ReleasesOne {V} t n good s w next =
    (fed epoch : ℕ) (past : List (Step V)) (names : List (ℕ × ℕ)) → IsBuilt fed epoch past past names w
    → IsReleased (t, n) good fed epoch past names next

abbrev pub ReleasesAll : {V : Type 0} → List (ℕ × ℕ) → Setting V → World V → World V → Type 0
ReleasesAll {V} outputs s w next =
    (fed epoch : ℕ) (past : List (Step V)) → IsBuilt fed epoch past past [] w
    → IsBuilt fed epoch past past outputs next × AreReleased past outputs

-- what an error says of outputs that were to be released
abbrev pub IsWrongBy : {V : Type 0} → List (ℕ × ℕ) → List (Step V) → ResumeError → Type 0
IsWrongBy outputs past (Count place) = ⊥
IsWrongBy outputs past (Move fault) = ⊥
IsWrongBy outputs past (Released place) = WrongReleased past outputs place
IsWrongBy outputs past NoMemory = Unit {0}

abbrev pub IsWrong : {V : Type 0} → List (ℕ × ℕ) → World V → ResumeError → Type 0
IsWrong {V} outputs w error =
    (fed epoch : ℕ) (past : List (Step V)) → IsBuilt fed epoch past past [] w → IsWrongBy outputs past error

-- the image is judged, but for its outputs, and its packets are fed
abbrev pub Prepares : {V : Type 0} → Image → Setting V → World V → World V → Type 0
Prepares {V} image s w next = w ≡ opening V → PlaysWhole s image × IsBuilt image.fed 1 [] [] [] next

-- the state is that of the image, but for what it counts
abbrev pub Builds : {V : Type 0} → Image → Setting V → World V → World V → Type 0
Builds image s w next =
    (played : PlaysWhole s image) → IsBuilt image.fed 1 [] [] [] w
    → IsBuilt image.fed image.epoch played.steps played.steps image.released next
    × AreReleased played.steps image.released

-- The parts go on from the image, which has no fault: they stand for every sound world at rest that it is of, and there
-- is one.
pub record Resumes {P V : Type 0} (m : Meaning V) (s : Setting V) (image : Image) (y : Parts P V) : Type 0 where
  pub no_fault : HasNoFault s image
  pub stands : (w : World V) → Sound s w → IsAtRest w → IsImageOf s w image → StandsFor m s w y
  pub some : (w : World V) × Sound s w × IsAtRest w × IsImageOf s w image
