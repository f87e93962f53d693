-- What a refused file of a run that goes on from a handover says.
use Rattle.std.proofs.Common.{refl, sym, subst, inl, inr, Err}
use Rattle.plain_text.specs.declared.fault.LineFault.{LineFault}
use Rattle.pcapng_io.specs.declared.fault.AnyFault.{AnyFault}
use Rattle.pcapng_io.specs.declared.fault.AnyFault.TheVariants as any
use Rattle.box_conf.specs.declared.kind.BoxConf.{BoxConf}
use Rattle.world_io.specs.World.{Shown}
use Rattle.input_files.specs.declared.capture_file.Capture.{Capture}
use Rattle.input_files.specs.declared.errors.InputError.{InputError}
use Rattle.input_files.specs.declared.errors.InputError.TheVariants as error
use Rattle.input_files.specs.Judging.{AcceptsBox, AcceptsCapture, JudgesBox, JudgesCapture, JudgesImage, JudgesScript}
use Rattle.job_commands.specs.declared.resume_inputs.ResumeSource.{ResumeSource}
use Rattle.job_commands.specs.declared.status.Status.{Status}
use Rattle.job_commands.specs.HandWords.{ResumeNames}
use Rattle.job_commands.specs.Resume.{AcceptsImageOf, AcceptsResumeSource, JudgesResumeInputs, SaysOfResumeFiles}
use Rattle.job_commands.specs.Status.{of_box_error, of_capture_error, of_image_error, of_script_error}

module _ (healthy : Type 0) (names : ResumeNames) (shown : Shown) where
  abbrev Says : Status → Type 0
  Says s = SaysOfResumeFiles healthy names s shown

  box_says : (e : InputError LineFault) → JudgesBox healthy names.box_file (Err e) shown → Says (of_box_error e)
  box_says (error.Fault fault) h = h
  box_says (error.TooLarge limit) h = inl (inl h)
  box_says error.ReadFault h = λ ok. inl (inl (h ok))
  box_says error.NoMemory h = tt

  capture_says : (conf : BoxConf) (e : InputError AnyFault) → AcceptsBox names.box_file conf shown
      → JudgesCapture healthy names.capture (Err e) shown → Says (of_capture_error e)
  capture_says conf (error.Fault (any.Capture fault)) box h = (conf, box, h)
  capture_says conf (error.Fault (any.Ng fault)) box h = (conf, box, h)
  capture_says conf (error.TooLarge limit) box h = inl (inr (inl (conf, box, h)))
  capture_says conf error.ReadFault box h = λ ok. inl (inr (inl (conf, box, h ok)))
  capture_says conf error.NoMemory box h = tt

  image_says : (conf : BoxConf) (capture : Capture) (e : InputError LineFault) → AcceptsBox names.box_file conf shown
      → AcceptsCapture names.capture capture shown → JudgesImage healthy names.handover (Err e) shown
      → Says (of_image_error e)
  image_says conf capture (error.Fault fault) box accepted h =
      inl (fault.cause, refl, (conf, box, (capture, accepted, h)))
  image_says conf capture (error.TooLarge limit) box accepted h =
      inl (inr (inr (conf, box, (capture, accepted, h))))
  image_says conf capture error.ReadFault box accepted h =
      λ ok. inl (inr (inr (conf, box, (capture, accepted, h ok))))
  image_says conf capture error.NoMemory box accepted h = tt

  script_says : (source : ResumeSource) (e : InputError LineFault) → AcceptsImageOf names source shown
      → JudgesScript healthy names.script (Err e) shown → Says (of_script_error e)
  script_says source (error.Fault fault) a h = (source, a, h)
  script_says source (error.TooLarge limit) a h = inr (source, a, h)
  script_says source error.ReadFault a h = λ ok. inr (source, a, h ok)
  script_says source error.NoMemory a h = tt

  pub resume_says : (s : Status) → JudgesResumeInputs healthy names (λ source events other. ⊥) s shown → Says s
  resume_says s (inl (e, h, q)) = subst Says (sym q) (box_says e h)
  resume_says s (inr (conf, box, inl (e, h, q))) = subst Says (sym q) (capture_says conf e box h)
  resume_says s (inr (conf, box, inr (capture, captured, inl (e, h, q)))) =
      subst Says (sym q) (image_says conf capture e box captured h)
  resume_says s (inr (conf, box, inr (capture, captured, inr (image, there, inl q)))) = subst Says (sym q) tt
  resume_says s (inr (conf, box, inr (capture, captured, inr (image, there, inr (inl (fault, cannot, q)))))) =
      let source : ResumeSource = record { conf = conf; capture = capture; image = image } in
      let a : AcceptsResumeSource names source shown =
      record { box_accepted = box; capture_accepted = captured; handover_accepted = there } in
      subst Says (sym q) (inr (source, a, cannot))
  resume_says s (inr (conf, box, inr (capture, captured, inr (image, there, inr (inr (goes, inl (e, h, q))))))) =
      let source : ResumeSource = record { conf = conf; capture = capture; image = image } in
      let a : AcceptsResumeSource names source shown =
      record { box_accepted = box; capture_accepted = captured; handover_accepted = there } in
      subst Says (sym q) (script_says source e (record { source_accepted = a; goes_on = goes }) h)
  resume_says s (inr (conf, box, inr (capture, captured, inr (image, there, inr (inr (goes, inr (events, on, h))))))) =
      absurd h
