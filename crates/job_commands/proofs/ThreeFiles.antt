-- Box, capture and a third file, judged in their turn: what is true of them, and that they decide one status.
use Rattle.std.proofs.Common.{◌≡◌, ℕ, List, refl, ◌∙◌, ◌⊎◌, inl, inr, Ok, Err}
use Rattle.plain_text.specs.declared.fault.LineFault.{LineFault}
use Rattle.pcapng_io.specs.declared.fault.AnyFault.{AnyFault}
use Rattle.box_conf.specs.declared.kind.BoxConf.{BoxConf}
use Rattle.world_io.specs.World.{Shown}
use Rattle.input_files.specs.declared.capture_file.Capture.{Capture}
use Rattle.input_files.specs.declared.errors.InputError.{InputError}
use Rattle.input_files.specs.declared.errors.InputError.TheVariants as error
use Rattle.input_files.specs.Answers.{SaysBox, SaysCapture}
use Rattle.input_files.specs.Judging.{JudgesBox, JudgesCapture, AcceptsBox, AcceptsCapture}
use Rattle.input_files.proofs.OneAnswer.{one_answer, one_box, one_capture}
use Rattle.job_commands.specs.declared.status.Status.{Status}
use Rattle.job_commands.specs.declared.status.Status.TheVariants as status
use Rattle.job_commands.specs.Judging.{IsDecided}
use Rattle.job_commands.specs.Status.{of_box_error, of_capture_error}
use Rattle.job_commands.specs.Turns.{InTurn, JudgesTwo, JudgesFiles, Third}
use Rattle.job_commands.proofs.Turns.{OneAnswer, Decides, one_in_turn, passes, box_decides, capture_decides}

module _ (healthy : Type 0) (box_file capture_file : List ℕ) (shown : Shown) where
  -- the first file that is not accepted decides
  module _ (behind : BoxConf → Capture → Status → Type 0) where
    pub box_refused : (e : InputError LineFault) → JudgesBox healthy box_file (Err e) shown
        → JudgesTwo healthy box_file capture_file behind (of_box_error e) shown
    box_refused e h = inl (e, h, refl)

    pub capture_refused : (conf : BoxConf) (e : InputError AnyFault) → AcceptsBox box_file conf shown
        → JudgesCapture healthy capture_file (Err e) shown
        → JudgesTwo healthy box_file capture_file behind (of_capture_error e) shown
    capture_refused conf e box h = inr (conf, box, inl (e, h, refl))

    -- one of the two is not
    pub two_refused : (s : Status) → JudgesTwo healthy box_file capture_file (λ conf capture other. ⊥) s shown
        → JudgesTwo healthy box_file capture_file behind s shown
    two_refused s (inl h) = inl h
    two_refused s (inr (conf, box, inl h)) = inr (conf, box, inl h)
    two_refused s (inr (conf, box, inr (capture, captured, h))) = absurd h

    -- both are accepted, and what stands behind decides
    pub two_accepted : (conf : BoxConf) (capture : Capture) (s : Status) → AcceptsBox box_file conf shown
        → AcceptsCapture capture_file capture shown → behind conf capture s
        → JudgesTwo healthy box_file capture_file behind s shown
    two_accepted conf capture s box captured h = inr (conf, box, inr (capture, captured, h))

    abbrev AfterBox : BoxConf → Status → Type 0
    AfterBox conf = InTurn (λ r. JudgesCapture healthy capture_file r shown) of_capture_error (behind conf)

    -- they decide one status
    pub two_one : ((conf : BoxConf) (capture : Capture) (s r : Status) → IsDecided healthy s → IsDecided healthy r
        → behind conf capture s → behind conf capture r → s ≡ r) → (s r : Status) → IsDecided healthy s
        → IsDecided healthy r → JudgesTwo healthy box_file capture_file behind s shown
        → JudgesTwo healthy box_file capture_file behind r shown → s ≡ r
    two_one next =
        one_in_turn healthy (λ r. JudgesBox healthy box_file r shown) of_box_error AfterBox
        (one_answer SaysBox one_box healthy box_file shown) (box_decides healthy)
        (λ conf. one_in_turn healthy (λ r. JudgesCapture healthy capture_file r shown) of_capture_error (behind conf)
        (one_answer SaysCapture one_capture healthy capture_file shown) (capture_decides healthy) (next conf))

    -- In a healthy world, where they are accepted, what stands behind decides, unless memory ran out.
    pub two_pass : healthy → (conf : BoxConf) (capture : Capture) → AcceptsBox box_file conf shown
        → AcceptsCapture capture_file capture shown → (s : Status)
        → JudgesTwo healthy box_file capture_file behind s shown → (s ≡ status.NoMemory) ⊎ behind conf capture s
    two_pass ok conf capture box captured s h = second (first h)
      where
        first : JudgesTwo healthy box_file capture_file behind s shown → (s ≡ status.NoMemory) ⊎ AfterBox conf s
        first = passes healthy (λ r. JudgesBox healthy box_file r shown) of_box_error AfterBox
            (one_answer SaysBox one_box healthy box_file shown) ok conf box s

        second : (s ≡ status.NoMemory) ⊎ AfterBox conf s → (s ≡ status.NoMemory) ⊎ behind conf capture s
        second (inl q) = inl q
        second (inr h) =
            passes healthy (λ r. JudgesCapture healthy capture_file r shown) of_capture_error (behind conf)
            (one_answer SaysCapture one_capture healthy capture_file shown) ok capture captured s h

module _ {A F : Type 0} (healthy : Type 0) (box_file capture_file : List ℕ) (shown : Shown) (third : Third A F)
    (behind : BoxConf → Capture → A → Status → Type 0) where
  abbrev Judged : Status → Type 0
  Judged s = JudgesFiles healthy box_file capture_file third behind s shown

  -- what is judged behind the capture
  abbrev BehindCapture : BoxConf → Capture → Status → Type 0
  BehindCapture conf capture = InTurn third.judged third.status_of (behind conf capture)

  pub first_refused : (s : Status)
      → JudgesTwo healthy box_file capture_file (λ conf capture other. ⊥) s shown → Judged s
  first_refused s h = two_refused healthy box_file capture_file shown BehindCapture s h

  pub third_refused : (conf : BoxConf) (capture : Capture) (e : InputError F) → AcceptsBox box_file conf shown
      → AcceptsCapture capture_file capture shown → third.judged (Err e) → Judged (third.status_of e)
  third_refused conf capture e box captured h = inr (conf, box, inr (capture, captured, inl (e, h, refl)))

  -- all are accepted, and what stands behind decides
  pub accepted : (conf : BoxConf) (capture : Capture) (value : A) (s : Status) → AcceptsBox box_file conf shown
      → AcceptsCapture capture_file capture shown → third.judged (Ok value) → behind conf capture value s → Judged s
  accepted conf capture value s box captured there h = inr (conf, box, inr (capture, captured, inr (value, there, h)))

  pub refused : (s : Status) → JudgesFiles healthy box_file capture_file third (λ conf capture value other. ⊥) s shown
      → Judged s
  refused s (inl h) = inl h
  refused s (inr (conf, box, inl h)) = inr (conf, box, inl h)
  refused s (inr (conf, box, inr (capture, captured, inl h))) = inr (conf, box, inr (capture, captured, inl h))
  refused s (inr (conf, box, inr (capture, captured, inr (value, there, h)))) = absurd h

  module _ (one : OneAnswer healthy third.judged) where
    -- they decide one status
    pub one_status : Decides healthy third.status_of
        → ((conf : BoxConf) (capture : Capture) (value : A) (s r : Status) → IsDecided healthy s → IsDecided healthy r
        → behind conf capture value s → behind conf capture value r → s ≡ r)
        → (s r : Status) → IsDecided healthy s → IsDecided healthy r → Judged s → Judged r → s ≡ r
    one_status decides next =
        two_one healthy box_file capture_file shown BehindCapture
        (λ conf capture. one_in_turn healthy third.judged third.status_of (behind conf capture) one decides
        (next conf capture))

    -- In a healthy world, where they are accepted, what stands behind decides, unless memory ran out.
    pub all_pass : healthy → (third.status_of error.NoMemory ≡ status.NoMemory) → (conf : BoxConf) (capture : Capture)
        (value : A) → AcceptsBox box_file conf shown → AcceptsCapture capture_file capture shown
        → third.judged (Ok value) → (s : Status) → Judged s → (s ≡ status.NoMemory) ⊎ behind conf capture value s
    all_pass ok memory conf capture value box captured there s h =
        last (two_pass healthy box_file capture_file shown BehindCapture ok conf capture box captured s h)
      where
        end : (s ≡ third.status_of error.NoMemory) ⊎ behind conf capture value s
            → (s ≡ status.NoMemory) ⊎ behind conf capture value s
        end (inl q) = inl (q ∙ memory)
        end (inr h) = inr h

        last : (s ≡ status.NoMemory) ⊎ BehindCapture conf capture s
            → (s ≡ status.NoMemory) ⊎ behind conf capture value s
        last (inl q) = inl q
        last (inr h) =
            end (passes healthy third.judged third.status_of (behind conf capture) one ok value there s h)
