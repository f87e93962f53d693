-- The files of a run that goes on from a handover, judged in their turn: what is true of them, and that they decide one
-- status.
use Rattle.std.proofs.Common.{◌≡◌, List, refl, sym, ap, ◌∙◌, ◌⊎◌, inl, inr, Err, None, Some}
use Rattle.box_conf.specs.declared.kind.BoxConf.{BoxConf}
use Rattle.world_io.specs.World.{Shown}
use Rattle.recovery_world.specs.declared.event.Event.{Event}
use Rattle.handover_seal.specs.declared.seal.SealFault.{SealFault}
use Rattle.handover_seal.specs.Seals.{unsealed}
use Rattle.handover_seal.proofs.Opened.{one_seal}
use Rattle.hand_faults.specs.declared.fault.HandFault.{HandFault}
use Rattle.hand_faults.proofs.OneFault.{none_refused, one_refused}
use Rattle.input_files.specs.declared.capture_file.Capture.{Capture}
use Rattle.input_files.specs.declared.image_file.ImageFile.{ImageFile}
use Rattle.input_files.specs.Answers.{SaysImage, SaysScript}
use Rattle.input_files.specs.Judging.{JudgesScript}
use Rattle.input_files.proofs.ImageVerdicts.{one_image}
use Rattle.input_files.proofs.OneAnswer.{one_answer, one_script}
use Rattle.job_commands.specs.declared.resume_inputs.ResumeSource.{ResumeSource}
use Rattle.job_commands.specs.declared.status.Status.{Status}
use Rattle.job_commands.specs.declared.status.Status.TheVariants as status
use Rattle.job_commands.specs.declared.status.InputFault.TheVariants as input
use Rattle.job_commands.specs.HandWords.{ResumeNames}
use Rattle.job_commands.specs.Judging.{IsDecided}
use Rattle.job_commands.specs.Resume.{AcceptsImageOf, AcceptsResumeInputs, AcceptsResumeSource, CannotGoOn, GoesOn}
use Rattle.job_commands.specs.Resume.{ImageInTurn, JudgesOneScript, JudgesResumeFiles, JudgesResumeInputs, image_third}
use Rattle.job_commands.specs.Resume.{HasSealFault, IsSealed, SealRefuses, resumed_setting, seal_cause, seal_of}
use Rattle.job_commands.specs.Status.{of_script_error}
use Rattle.job_commands.specs.Turns.{InTurn}
use Rattle.job_commands.proofs.ThreeFiles.{accepted, refused, one_status, all_pass}
use Rattle.job_commands.proofs.Turns.{image_decides, one_in_turn, passes, script_decides}

-- The image in its turn

module _ (source : ResumeSource) where
  not_both : IsSealed source → (fault : HandFault) → HasSealFault source fault → ⊥
  not_both sealed fault (why, e, is) =
      let none = (one_seal (seal_of source) source.image.text).1 sealed in
      let bad : None ≡ Some why = sym none ∙ e in
      cc

  one_why : (a b : HandFault) → HasSealFault source a → HasSealFault source b → a ≡ b
  one_why a b (why, e, is) (other, f, at) =
      let same : Some why ≡ Some other = sym e ∙ f in
      let cause : why ≡ other = cc in
      is ∙ ap (λ (w : SealFault). let x : HandFault = record { line = 1; cause = seal_cause w } in x) cause ∙ sym at

  one_cause : (a b : HandFault) → CannotGoOn source a → CannotGoOn source b → a ≡ b
  one_cause a b (inl x) (inl y) = one_why a b x y
  one_cause a b (inl x) (inr y) = absurd (not_both y.0 a x)
  one_cause a b (inr x) (inl y) = absurd (not_both x.0 b y)
  one_cause a b (inr (sealed, e, fault, at)) (inr (too, f, other, there)) =
      one_refused (resumed_setting source) (unsealed source.image.text) source.image.image e f a b fault other at there

  goes_or_not : (a : HandFault) → GoesOn source → CannotGoOn source a → ⊥
  goes_or_not a goes (inl x) = not_both goes.0 a x
  goes_or_not a goes (inr (sealed, e, fault, at)) =
      none_refused (resumed_setting source) (unsealed source.image.text) source.image.image e a goes.1 fault at

  module _ (healthy : Type 0) (behind : ResumeSource → Status → Type 0) where
    image_one : ((s r : Status) → IsDecided healthy s → IsDecided healthy r → behind source s → behind source r → s ≡ r)
        → (s r : Status) → IsDecided healthy s → IsDecided healthy r → ImageInTurn behind source s
        → ImageInTurn behind source r → s ≡ r
    image_one next s r d g (inl q) y = absurd (d.0 q)
    image_one next s r d g (inr x) (inl p) = absurd (g.0 p)
    image_one next s r d g (inr (inl (a, x, q))) (inr (inl (b, y, p))) =
        q ∙ ap (λ (f : HandFault). status.BadInput (input.Handover f)) (one_cause a b x y) ∙ sym p
    image_one next s r d g (inr (inl (a, x, q))) (inr (inr (goes, y))) = absurd (goes_or_not a goes x)
    image_one next s r d g (inr (inr (goes, x))) (inr (inl (b, y, p))) = absurd (goes_or_not b goes y)
    image_one next s r d g (inr (inr (goes, x))) (inr (inr (too, y))) = next s r d g x y

    image_pass : GoesOn source → (s : Status) → ImageInTurn behind source s
        → (s ≡ status.NoMemory) ⊎ behind source s
    image_pass goes s (inl q) = inl q
    image_pass goes s (inr (inl (a, x, q))) = absurd (goes_or_not a goes x)
    image_pass goes s (inr (inr (too, x))) = inr x

module _ (healthy : Type 0) (names : ResumeNames) (shown : Shown) where
  -- The files before the script
  module _ (behind : ResumeSource → Status → Type 0) where
    abbrev Behind : BoxConf → Capture → ImageFile → Status → Type 0
    Behind conf capture image = behind (record { conf = conf; capture = capture; image = image })

    -- all are accepted, and what stands behind decides
    pub source_accepted : (source : ResumeSource) (s : Status) → AcceptsResumeSource names source shown
        → behind source s → JudgesResumeFiles healthy names behind s shown
    source_accepted source s a h =
        accepted healthy names.box_file names.capture shown (image_third healthy names shown) Behind source.conf
        source.capture source.image s a.box_accepted a.capture_accepted a.handover_accepted h

    pub source_refused : (s : Status) → JudgesResumeFiles healthy names (λ source other. ⊥) s shown
        → JudgesResumeFiles healthy names behind s shown
    source_refused s h =
        refused healthy names.box_file names.capture shown (image_third healthy names shown) Behind s h

    -- they decide one status
    pub source_one : ((source : ResumeSource) (s r : Status) → IsDecided healthy s → IsDecided healthy r
        → behind source s → behind source r → s ≡ r) → (s r : Status) → IsDecided healthy s → IsDecided healthy r
        → JudgesResumeFiles healthy names behind s shown → JudgesResumeFiles healthy names behind r shown → s ≡ r
    source_one next =
        one_status healthy names.box_file names.capture shown (image_third healthy names shown) Behind
        (one_answer SaysImage one_image healthy names.handover shown) (image_decides healthy)
        (λ conf capture image. next (record { conf = conf; capture = capture; image = image }))

    -- In a healthy world, where they are accepted, what stands behind decides, unless memory ran out.
    pub source_pass : healthy → (source : ResumeSource) → AcceptsResumeSource names source shown → (s : Status)
        → JudgesResumeFiles healthy names behind s shown → (s ≡ status.NoMemory) ⊎ behind source s
    source_pass ok source a s h =
        all_pass healthy names.box_file names.capture shown (image_third healthy names shown) Behind
        (one_answer SaysImage one_image healthy names.handover shown) ok refl source.conf source.capture source.image
        a.box_accepted a.capture_accepted a.handover_accepted s h

  -- All files
  module _ (behind : ResumeSource → List Event → Status → Type 0) where
    abbrev BehindImage : ResumeSource → Status → Type 0
    BehindImage source = InTurn (λ r. JudgesScript healthy names.script r shown) of_script_error (behind source)

    abbrev Judged : Status → Type 0
    Judged s = JudgesResumeInputs healthy names behind s shown

    pub resume_source_refused : (s : Status) → JudgesResumeFiles healthy names SealRefuses s shown → Judged s
    resume_source_refused s (inl h) = inl h
    resume_source_refused s (inr (conf, box, inl h)) = inr (conf, box, inl h)
    resume_source_refused s (inr (conf, box, inr (capture, captured, inl h))) =
        inr (conf, box, inr (capture, captured, inl h))
    resume_source_refused s (inr (conf, box, inr (capture, captured, inr (image, there, inl q)))) =
        inr (conf, box, inr (capture, captured, inr (image, there, inl q)))
    resume_source_refused s (inr (conf, box, inr (capture, captured, inr (image, there, inr (fault, h, q))))) =
        inr (conf, box, inr (capture, captured, inr (image, there, inr (inl (fault, inl h, q)))))

    pub resume_image_refused : (source : ResumeSource) (fault : HandFault) → AcceptsResumeSource names source shown
        → CannotGoOn source fault → Judged (status.BadInput (input.Handover fault))
    resume_image_refused source fault a h =
        source_accepted (ImageInTurn BehindImage) source (status.BadInput (input.Handover fault)) a
        (inr (inl (fault, h, refl)))

    pub resume_no_memory : (source : ResumeSource) → AcceptsResumeSource names source shown → Judged status.NoMemory
    resume_no_memory source a = source_accepted (ImageInTurn BehindImage) source status.NoMemory a (inl refl)

    pub resume_script_refused : (source : ResumeSource) (s : Status) → AcceptsImageOf names source shown
        → JudgesOneScript healthy names.script (Err s) shown → Judged s
    resume_script_refused source s a (inl h) =
        source_accepted (ImageInTurn BehindImage) source s a.source_accepted (inr (inr (a.goes_on, inl h)))
    resume_script_refused source s a (inr (events, there, h)) = absurd h

    -- all are accepted, and what stands behind decides
    pub resume_accepted : (source : ResumeSource) (events : List Event) (s : Status)
        → AcceptsResumeInputs names source events shown → behind source events s → Judged s
    resume_accepted source events s a h =
        source_accepted (ImageInTurn BehindImage) source s a.image_accepted.source_accepted
        (inr (inr (a.image_accepted.goes_on, inr (events, a.script_accepted, h))))

    -- they decide one status
    pub resume_one : ((source : ResumeSource) (events : List Event) (s r : Status) → IsDecided healthy s
        → IsDecided healthy r → behind source events s → behind source events r → s ≡ r) → (s r : Status)
        → IsDecided healthy s → IsDecided healthy r → Judged s → Judged r → s ≡ r
    resume_one next =
        source_one (ImageInTurn BehindImage)
        (λ source. image_one source healthy BehindImage
        (one_in_turn healthy (λ r. JudgesScript healthy names.script r shown) of_script_error (behind source)
        (one_answer SaysScript one_script healthy names.script shown) (script_decides healthy) (next source)))

    -- In a healthy world, where they are accepted, what stands behind decides, unless memory ran out.
    pub resume_pass : healthy → (source : ResumeSource) (events : List Event)
        → AcceptsResumeInputs names source events shown → (s : Status) → Judged s
        → (s ≡ status.NoMemory) ⊎ behind source events s
    resume_pass ok source events a s h =
        by_source (source_pass (ImageInTurn BehindImage) ok source a.image_accepted.source_accepted s h)
      where
        by_image : (s ≡ status.NoMemory) ⊎ BehindImage source s → (s ≡ status.NoMemory) ⊎ behind source events s
        by_image (inl q) = inl q
        by_image (inr h) =
            passes healthy (λ r. JudgesScript healthy names.script r shown) of_script_error (behind source)
            (one_answer SaysScript one_script healthy names.script shown) ok events a.script_accepted s h

        by_source : (s ≡ status.NoMemory) ⊎ ImageInTurn BehindImage source s
            → (s ≡ status.NoMemory) ⊎ behind source events s
        by_source (inl q) = inl q
        by_source (inr h) = by_image (image_pass source healthy BehindImage a.image_accepted.goes_on s h)
