-- The files of a live run, judged in their turn: what is true of them, and that they decide one status.
use Rattle.std.proofs.Common.{◌≡◌, List, refl, sym, subst, ◌⊎◌, inl, inr, Err}
use Rattle.plain_text.specs.declared.fault.LineFault.{LineFault}
use Rattle.pcapng_io.specs.declared.fault.AnyFault.{AnyFault}
use Rattle.pcapng_io.specs.declared.fault.AnyFault.TheVariants as any
use Rattle.plan_script.specs.declared.plan.PlanLine.{PlanLine}
use Rattle.box_conf.specs.declared.kind.BoxConf.{BoxConf}
use Rattle.world_io.specs.World.{Shown}
use Rattle.input_files.specs.declared.capture_file.Capture.{Capture}
use Rattle.input_files.specs.declared.errors.InputError.{InputError}
use Rattle.input_files.specs.declared.errors.InputError.TheVariants as error
use Rattle.input_files.specs.Answers.{SaysPlan}
use Rattle.input_files.specs.Judging.{JudgesBox, JudgesCapture, JudgesPlan, AcceptsBox, AcceptsCapture}
use Rattle.input_files.proofs.OneAnswer.{one_answer, one_plan}
use Rattle.job_commands.specs.declared.live_inputs.LiveInputs.{LiveInputs}
use Rattle.job_commands.specs.declared.status.Status.{Status}
use Rattle.job_commands.specs.declared.status.Status.TheVariants as status
use Rattle.job_commands.specs.Judging.{IsDecided}
use Rattle.job_commands.specs.Live.{AcceptsLiveInputs, JudgesLiveFiles, SaysOfFiles, plan_third}
use Rattle.job_commands.specs.Status.{of_box_error, of_capture_error, of_plan_error}
use Rattle.job_commands.specs.Words.{LiveNames}
use Rattle.job_commands.proofs.ThreeFiles.{accepted, refused, one_status, all_pass}
use Rattle.job_commands.proofs.Turns.{plan_decides}

module _ (healthy : Type 0) (names : LiveNames) (shown : Shown) (behind : LiveInputs → Status → Type 0) where
  abbrev Behind : BoxConf → Capture → List PlanLine → Status → Type 0
  Behind conf capture plan = behind (record { conf = conf; capture = capture; plan = plan })

  -- all are accepted, and what stands behind decides
  pub live_accepted : (inputs : LiveInputs) (s : Status) → AcceptsLiveInputs names inputs shown → behind inputs s
      → JudgesLiveFiles healthy names behind s shown
  live_accepted inputs s a h =
      accepted healthy names.box_file names.capture shown (plan_third healthy names shown) Behind inputs.conf
      inputs.capture inputs.plan s a.box_accepted a.capture_accepted a.plan_accepted h

  pub live_refused : (s : Status) → JudgesLiveFiles healthy names (λ inputs other. ⊥) s shown
      → JudgesLiveFiles healthy names behind s shown
  live_refused s h = refused healthy names.box_file names.capture shown (plan_third healthy names shown) Behind s h

  -- they decide one status
  pub live_one : ((inputs : LiveInputs) (s r : Status) → IsDecided healthy s → IsDecided healthy r → behind inputs s
      → behind inputs r → s ≡ r) → (s r : Status) → IsDecided healthy s → IsDecided healthy r
      → JudgesLiveFiles healthy names behind s shown → JudgesLiveFiles healthy names behind r shown → s ≡ r
  live_one next =
      one_status healthy names.box_file names.capture shown (plan_third healthy names shown) Behind
      (one_answer SaysPlan one_plan healthy names.plan shown) (plan_decides healthy)
      (λ conf capture plan. next (record { conf = conf; capture = capture; plan = plan }))

  -- In a healthy world, where they are accepted, what stands behind decides, unless memory ran out.
  pub live_pass : healthy → (inputs : LiveInputs) → AcceptsLiveInputs names inputs shown → (s : Status)
      → JudgesLiveFiles healthy names behind s shown → (s ≡ status.NoMemory) ⊎ behind inputs s
  live_pass ok inputs a s h =
      all_pass healthy names.box_file names.capture shown (plan_third healthy names shown) Behind
      (one_answer SaysPlan one_plan healthy names.plan shown) ok refl inputs.conf inputs.capture inputs.plan
      a.box_accepted a.capture_accepted a.plan_accepted s h

-- What a refused file says

module _ (healthy : Type 0) (names : LiveNames) (shown : Shown) where
  abbrev Says : Status → Type 0
  Says s = SaysOfFiles healthy names s shown

  box_says : (e : InputError LineFault) → JudgesBox healthy names.box_file (Err e) shown → Says (of_box_error e)
  box_says (error.Fault fault) h = h
  box_says (error.TooLarge limit) h = inl h
  box_says error.ReadFault h = λ ok. inl (h ok)
  box_says error.NoMemory h = tt

  capture_says : (conf : BoxConf) (e : InputError AnyFault) → AcceptsBox names.box_file conf shown
      → JudgesCapture healthy names.capture (Err e) shown → Says (of_capture_error e)
  capture_says conf (error.Fault (any.Capture fault)) box h = (conf, box, h)
  capture_says conf (error.Fault (any.Ng fault)) box h = (conf, box, h)
  capture_says conf (error.TooLarge limit) box h = inr (inl (conf, box, h))
  capture_says conf error.ReadFault box h = λ ok. inr (inl (conf, box, h ok))
  capture_says conf error.NoMemory box h = tt

  plan_says : (conf : BoxConf) (capture : Capture) (e : InputError LineFault) → AcceptsBox names.box_file conf shown
      → AcceptsCapture names.capture capture shown → JudgesPlan healthy names.plan (Err e) shown
      → Says (of_plan_error e)
  plan_says conf capture (error.Fault fault) box accepted h = (conf, box, (capture, accepted, h))
  plan_says conf capture (error.TooLarge limit) box accepted h = inr (inr (conf, box, (capture, accepted, h)))
  plan_says conf capture error.ReadFault box accepted h = λ ok. inr (inr (conf, box, (capture, accepted, h ok)))
  plan_says conf capture error.NoMemory box accepted h = tt

  pub live_says : (s : Status) → JudgesLiveFiles healthy names (λ inputs other. ⊥) s shown → Says s
  live_says s (inl (e, h, q)) = subst Says (sym q) (box_says e h)
  live_says s (inr (conf, box, inl (e, h, q))) = subst Says (sym q) (capture_says conf e box h)
  live_says s (inr (conf, box, inr (capture, accepted, inl (e, h, q)))) =
      subst Says (sym q) (plan_says conf capture e box accepted h)
  live_says s (inr (conf, box, inr (capture, accepted, inr (plan, there, h)))) = absurd h
