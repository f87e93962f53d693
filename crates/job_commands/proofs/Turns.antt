-- Files that are judged one after another, each in its turn, decide one status.
use Rattle.std.proofs.Common.{◌≡◌, ℕ, List, refl, sym, ap, ◌∙◌, subst, ◌⊎◌, inl, inr, Result, Ok, Err}
use Rattle.world_io.specs.World.{Shown}
use Rattle.input_files.specs.declared.errors.InputError.{InputError}
use Rattle.input_files.specs.declared.errors.InputError.TheVariants as error
use Rattle.input_files.specs.Judging.{Judges as JudgesFile, IsDecided as FileDecides}
use Rattle.job_commands.specs.declared.status.Status.{Status}
use Rattle.job_commands.specs.Judging.{IsDecided}
use Rattle.job_commands.specs.Status.{of_box_error, of_capture_error, of_image_error, of_plan_error}
use Rattle.job_commands.specs.Status.{of_schedule_error}
use Rattle.job_commands.specs.Status.{of_released_error, of_script_error, of_second_box_error}
use Rattle.job_commands.specs.Turns.{InTurn}

-- the two answers to one file are the same
abbrev pub OneAnswer : {A F : Type 0} → Type 0 → (Result A (InputError F) → Type 0) → Type 0
OneAnswer {A} {F} healthy judged =
    (a b : Result A (InputError F)) → FileDecides healthy a → FileDecides healthy b → judged a → judged b → a ≡ b

-- a status that the files decide comes of an answer that its file decides
abbrev pub Decides : {F : Type 0} → Type 0 → (InputError F → Status) → Type 0
Decides {F} healthy status_of =
    (e : InputError F) → IsDecided healthy (status_of e) → FileDecides {A = ℕ} healthy (Err e)

module _ {A F : Type 0} (healthy : Type 0) (judged : Result A (InputError F) → Type 0)
    (status_of : InputError F → Status) (behind : A → Status → Type 0) (one : OneAnswer healthy judged) where
  for_value : (e : InputError F) → FileDecides {A = ℕ} healthy (Err e) → FileDecides {A = A} healthy (Err e)
  for_value (error.Fault fault) d = d
  for_value (error.TooLarge limit) d = d
  for_value error.ReadFault d = d
  for_value error.NoMemory d = d

  not_both : (v : A) (e : InputError F) → FileDecides {A = A} healthy (Err e) → judged (Ok v) → judged (Err e) → ⊥
  not_both v e d h k = let same : Ok v ≡ Err e = one (Ok v) (Err e) tt d h k in cc

  same_value : (v w : A) → judged (Ok v) → judged (Ok w) → v ≡ w
  same_value v w h k = let same : Ok v ≡ Ok w = one (Ok v) (Ok w) tt tt h k in cc

  pub one_in_turn : Decides healthy status_of
      → ((v : A) (s r : Status) → IsDecided healthy s → IsDecided healthy r → behind v s → behind v r → s ≡ r)
      → (s r : Status) → IsDecided healthy s → IsDecided healthy r → InTurn judged status_of behind s
      → InTurn judged status_of behind r → s ≡ r
  one_in_turn decides next s r d g (inl (e, h, q)) (inl (f, k, p)) =
      let same : Err e ≡ Err f = one (Err e) (Err f) (for_value e (decides e (subst (IsDecided healthy) q d)))
      (for_value f (decides f (subst (IsDecided healthy) p g))) h k in
      let e_is : e ≡ f = cc in
      q ∙ ap status_of e_is ∙ sym p
  one_in_turn decides next s r d g (inl (e, h, q)) (inr (w, k, y)) =
      absurd (not_both w e (for_value e (decides e (subst (IsDecided healthy) q d))) k h)
  one_in_turn decides next s r d g (inr (v, h, x)) (inl (f, k, p)) =
      absurd (not_both v f (for_value f (decides f (subst (IsDecided healthy) p g))) h k)
  one_in_turn decides next s r d g (inr (v, h, x)) (inr (w, k, y)) =
      next w s r d g (subst (λ (u : A). behind u s) (same_value v w h k) x) y

  -- in a healthy world, where the file is accepted, what stands behind it decides, unless memory ran out
  pub passes : healthy → (v : A) → judged (Ok v) → (s : Status) → InTurn judged status_of behind s
      → (s ≡ status_of error.NoMemory) ⊎ behind v s
  passes ok v h s (inl (error.Fault fault, k, q)) = absurd (not_both v (error.Fault fault) tt h k)
  passes ok v h s (inl (error.TooLarge limit, k, q)) = absurd (not_both v (error.TooLarge limit) tt h k)
  passes ok v h s (inl (error.ReadFault, k, q)) = absurd (not_both v error.ReadFault ok h k)
  passes ok v h s (inl (error.NoMemory, k, q)) = inl q
  passes ok v h s (inr (w, k, y)) = inr (subst (λ (u : A). behind u s) (same_value w v k h) y)

-- each error of a file is decided where its status is

pub box_decides : (healthy : Type 0) → Decides healthy of_box_error
box_decides healthy (error.Fault fault) d = tt
box_decides healthy (error.TooLarge limit) d = tt
box_decides healthy error.ReadFault d = d.1.0 refl
box_decides healthy error.NoMemory d = absurd (d.0 refl)

pub capture_decides : (healthy : Type 0) → Decides healthy of_capture_error
capture_decides healthy (error.Fault fault) d = tt
capture_decides healthy (error.TooLarge limit) d = tt
capture_decides healthy error.ReadFault d = d.1.0 refl
capture_decides healthy error.NoMemory d = absurd (d.0 refl)

pub second_box_decides : (healthy : Type 0) → Decides healthy of_second_box_error
second_box_decides healthy (error.Fault fault) d = tt
second_box_decides healthy (error.TooLarge limit) d = tt
second_box_decides healthy error.ReadFault d = d.1.0 refl
second_box_decides healthy error.NoMemory d = absurd (d.0 refl)

pub script_decides : (healthy : Type 0) → Decides healthy of_script_error
script_decides healthy (error.Fault fault) d = tt
script_decides healthy (error.TooLarge limit) d = tt
script_decides healthy error.ReadFault d = d.1.0 refl
script_decides healthy error.NoMemory d = absurd (d.0 refl)

pub plan_decides : (healthy : Type 0) → Decides healthy of_plan_error
plan_decides healthy (error.Fault fault) d = tt
plan_decides healthy (error.TooLarge limit) d = tt
plan_decides healthy error.ReadFault d = d.1.0 refl
plan_decides healthy error.NoMemory d = absurd (d.0 refl)

pub image_decides : (healthy : Type 0) → Decides healthy of_image_error
image_decides healthy (error.Fault fault) d = tt
image_decides healthy (error.TooLarge limit) d = tt
image_decides healthy error.ReadFault d = d.1.0 refl
image_decides healthy error.NoMemory d = absurd (d.0 refl)

pub schedule_decides : (healthy : Type 0) → Decides healthy of_schedule_error
schedule_decides healthy (error.Fault fault) d = tt
schedule_decides healthy (error.TooLarge limit) d = tt
schedule_decides healthy error.ReadFault d = d.1.0 refl
schedule_decides healthy error.NoMemory d = absurd (d.0 refl)

pub released_decides : (healthy : Type 0) → Decides healthy of_released_error
released_decides healthy (error.Fault fault) d = tt
released_decides healthy (error.TooLarge limit) d = tt
released_decides healthy error.ReadFault d = d.1.0 refl
released_decides healthy error.NoMemory d = absurd (d.0 refl)

-- What is said of a file in one moment is so in another, where the names are as they were.
pub judged_since : {A F : Type 0} (says : List ℕ → Result A (InputError F) → Type 0) (healthy later : Type 0)
    → (healthy → later) → (a b : Shown) → b.names ≡ a.names → (name : List ℕ) (r : Result A (InputError F))
    → JudgesFile says later name r b → JudgesFile says healthy name r a
judged_since says healthy later stays a b same name (Ok value) h = (h.0, ap (λ f. f name) (sym same) ∙ h.1, h.2)
judged_since says healthy later stays a b same name (Err (error.Fault fault)) h =
    (h.0, ap (λ f. f name) (sym same) ∙ h.1, h.2)
judged_since says healthy later stays a b same name (Err (error.TooLarge limit)) h =
    (h.0, ap (λ f. f name) (sym same) ∙ h.1, h.2)
judged_since says healthy later stays a b same name (Err error.ReadFault) h =
    λ ok. ap (λ f. f name) (sym same) ∙ h (stays ok)
judged_since says healthy later stays a b same name (Err error.NoMemory) h = tt
