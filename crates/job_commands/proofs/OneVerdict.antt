-- The input files and the run that they ask for decide the status.
use Rattle.std.proofs.Common.{◌≡◌, List, refl, sym, ap, ◌∙◌, subst, inl, inr, Result, Ok, Err}
use Rattle.plain_text.specs.declared.fault.LineFault.{LineFault}
use Rattle.plain_text.specs.declared.limit.Limit.{Limit}
use Rattle.pcapng_io.specs.declared.fault.AnyFault.{AnyFault}
use Rattle.pcapng_io.specs.declared.fault.AnyFault.TheVariants as any
use Rattle.box_conf.specs.declared.kind.BoxConf.{BoxConf}
use Rattle.recovery_world.specs.declared.event.Event.{Event}
use Rattle.world_io.specs.World.{Shown}
use Rattle.recovery_laws.proofs.Scripts.{leaves_or_stops, stops_leave_one}
use Rattle.input_files.specs.declared.errors.InputError.{InputError}
use Rattle.input_files.specs.declared.errors.InputError.TheVariants as error
use Rattle.input_files.specs.declared.capture_file.Capture.{Capture}
use Rattle.input_files.specs.Answers.{SaysBox, SaysCapture, SaysScript}
use Rattle.input_files.specs.Judging.{JudgesBox, JudgesCapture, JudgesScript, AcceptsBox, AcceptsCapture, AcceptsScript}
use Rattle.input_files.specs.Judging.{ScriptTooLarge, IsDecided as FileDecides}
use Rattle.input_files.proofs.OneAnswer.{one_answer, one_box, one_capture, one_script}
use Rattle.job_commands.specs.declared.inputs.Inputs.{Inputs}
use Rattle.job_commands.specs.declared.status.Status.{Status}
use Rattle.job_commands.specs.declared.status.Status.TheVariants as status
use Rattle.job_commands.specs.declared.status.InputFault.TheVariants as input
use Rattle.job_commands.specs.Judging.{Judges, IsDecided, AreAccepted}
use Rattle.job_commands.specs.Run.{AcceptsInputs, EndsRun, StopsRun, setting_for}
use Rattle.job_commands.specs.Status.{Completes, of_box_error, of_capture_error, of_script_error}
use Rattle.job_commands.specs.Turns.{FirstIsMissing, FirstIsTooLarge}
use Rattle.job_commands.specs.Words.{RunNames}

abbrev box_ok : BoxConf → Result BoxConf (InputError LineFault)
box_ok conf = Ok conf

abbrev box_err : InputError LineFault → Result BoxConf (InputError LineFault)
box_err e = Err e

abbrev capture_ok : Capture → Result Capture (InputError AnyFault)
capture_ok capture = Ok capture

abbrev capture_err : InputError AnyFault → Result Capture (InputError AnyFault)
capture_err e = Err e

abbrev script_ok : List Event → Result (List Event) (InputError LineFault)
script_ok events = Ok events

abbrev script_err : InputError LineFault → Result (List Event) (InputError LineFault)
script_err e = Err e

abbrev inputs_from : BoxConf → Capture → List Event → Inputs
inputs_from conf capture events = record { conf = conf; capture = capture; events = events }

same_inputs : (c d : BoxConf) (x y : Capture) (l m : List Event) → c ≡ d → x ≡ y → l ≡ m
    → inputs_from c x l ≡ inputs_from d y m
same_inputs c d x y l m first second third =
    ap (λ k. inputs_from k x l) first ∙ ap (λ k. inputs_from d k l) second ∙ ap (λ k. inputs_from d y k) third

module _ (healthy : Type 0) (names : RunNames) (shown : Shown) where
  -- what decides a status: the first file that is not accepted, or the run
  data Verdict (s : Status) : Type 0 where
    OfBox : (e : InputError LineFault) → FileDecides {A = BoxConf} healthy (Err e)
        → JudgesBox healthy names.box_file (Err e) shown → s ≡ of_box_error e → Verdict s
    OfCapture : (conf : BoxConf) → AcceptsBox names.box_file conf shown → (e : InputError AnyFault)
        → FileDecides {A = Capture} healthy (Err e) → JudgesCapture healthy names.capture (Err e) shown
        → s ≡ of_capture_error e → Verdict s
    OfScript : (conf : BoxConf) → AcceptsBox names.box_file conf shown → (capture : Capture)
        → AcceptsCapture names.capture capture shown → (e : InputError LineFault)
        → FileDecides {A = List Event} healthy (Err e) → JudgesScript healthy names.script (Err e) shown
        → s ≡ of_script_error e → Verdict s
    OfRun : (inputs : Inputs) → AcceptsInputs names inputs shown → EndsRun inputs → s ≡ status.Done → Verdict s
    OfLimit : (inputs : Inputs) → AcceptsInputs names inputs shown → (limit : Limit) → StopsRun inputs limit
        → s ≡ status.TooLarge limit → Verdict s

  missing : FirstIsMissing names.box_file names.capture names.script shown → healthy → Verdict status.ReadFault
  missing (inl box) ok = OfBox error.ReadFault ok (λ _. box) refl
  missing (inr (inl (conf, box, capture))) ok = OfCapture conf box error.ReadFault ok (λ _. capture) refl
  missing (inr (inr (conf, box, (capture, accepted, script)))) ok =
      OfScript conf box capture accepted error.ReadFault ok (λ _. script) refl

  too_large : (limit : Limit)
      → FirstIsTooLarge names.box_file names.capture (ScriptTooLarge names.script limit shown) limit shown
      → Verdict (status.TooLarge limit)
  too_large limit (inl box) = OfBox (error.TooLarge limit) tt box refl
  too_large limit (inr (inl (conf, box, capture))) = OfCapture conf box (error.TooLarge limit) tt capture refl
  too_large limit (inr (inr (conf, box, (capture, accepted, script)))) =
      OfScript conf box capture accepted (error.TooLarge limit) tt script refl

  verdict : (s : Status) → IsDecided healthy s → Judges healthy names s shown → Verdict s
  verdict status.Done decided (inputs, asked, ends) = OfRun inputs asked ends refl
  verdict (status.Refuted refutation) decided h = absurd h
  verdict status.BadWords decided h = absurd h
  verdict status.ReadFault decided h = let ok = decided.1.0 refl in missing (h ok) ok
  verdict status.WriteFault decided h = absurd (h.0 (decided.1.1 refl))
  verdict status.NoMemory decided h = absurd (decided.0 refl)
  verdict (status.BadInput (input.BoxFile fault)) decided h = OfBox (error.Fault fault) tt h refl
  verdict (status.BadInput (input.SecondBox fault)) decided h = absurd h
  verdict (status.BadInput (input.Capture fault)) decided (conf, box, h) =
      OfCapture conf box (error.Fault (any.Capture fault)) tt h refl
  verdict (status.BadInput (input.NgCapture fault)) decided (conf, box, h) =
      OfCapture conf box (error.Fault (any.Ng fault)) tt h refl
  verdict (status.BadInput (input.Script fault)) decided (conf, box, (capture, accepted, h)) =
      OfScript conf box capture accepted (error.Fault fault) tt h refl
  verdict (status.BadInput (input.Plan fault)) decided h = absurd h
  verdict (status.BadInput (input.Schedule fault)) decided h = absurd h
  verdict (status.BadInput (input.Moves fault)) decided h = absurd h
  verdict (status.BadInput (input.Released fault)) decided h = absurd h
  verdict (status.BadInput (input.NgReleased fault)) decided h = absurd h
  verdict (status.BadInput (input.Handover fault)) decided h = absurd h
  verdict (status.TooLarge limit) decided (inl h) = too_large limit h
  verdict (status.TooLarge limit) decided (inr (inputs, asked, stops)) = OfLimit inputs asked limit stops refl
  verdict (status.Unready unready) decided h = absurd h

  box_one : (a b : Result BoxConf (InputError LineFault)) → FileDecides healthy a → FileDecides healthy b
      → JudgesBox healthy names.box_file a shown → JudgesBox healthy names.box_file b shown → a ≡ b
  box_one a b = one_answer SaysBox one_box healthy names.box_file shown a b

  capture_one : (a b : Result Capture (InputError AnyFault)) → FileDecides healthy a → FileDecides healthy b
      → JudgesCapture healthy names.capture a shown → JudgesCapture healthy names.capture b shown → a ≡ b
  capture_one a b = one_answer SaysCapture one_capture healthy names.capture shown a b

  script_one : (a b : Result (List Event) (InputError LineFault)) → FileDecides healthy a → FileDecides healthy b
      → JudgesScript healthy names.script a shown → JudgesScript healthy names.script b shown → a ≡ b
  script_one a b = one_answer SaysScript one_script healthy names.script shown a b

  -- a file is not both accepted and refused
  box_not_both : (conf : BoxConf) (e : InputError LineFault) → AcceptsBox names.box_file conf shown
      → FileDecides {A = BoxConf} healthy (Err e) → JudgesBox healthy names.box_file (Err e) shown → ⊥
  box_not_both conf e box d h = let one : Ok conf ≡ Err e = box_one (Ok conf) (Err e) tt d box h in cc

  capture_not_both : (capture : Capture) (e : InputError AnyFault) → AcceptsCapture names.capture capture shown
      → FileDecides {A = Capture} healthy (Err e) → JudgesCapture healthy names.capture (Err e) shown → ⊥
  capture_not_both capture e accepted d h =
      let one : Ok capture ≡ Err e = capture_one (Ok capture) (Err e) tt d accepted h in cc

  script_not_both : (events : List Event) (e : InputError LineFault) → AcceptsScript names.script events shown
      → FileDecides {A = List Event} healthy (Err e) → JudgesScript healthy names.script (Err e) shown → ⊥
  script_not_both events e accepted d h =
      let one : Ok events ≡ Err e = script_one (Ok events) (Err e) tt d accepted h in cc

  pub inputs_one : (x y : Inputs) → AcceptsInputs names x shown → AcceptsInputs names y shown → x ≡ y
  inputs_one x y a b =
      let conf : box_ok x.conf ≡ box_ok y.conf = box_one (Ok x.conf) (Ok y.conf) tt tt a.box_accepted b.box_accepted in
      let capture : capture_ok x.capture ≡ capture_ok y.capture =
      capture_one (Ok x.capture) (Ok y.capture) tt tt a.capture_accepted b.capture_accepted in
      let events : script_ok x.events ≡ script_ok y.events =
      script_one (Ok x.events) (Ok y.events) tt tt a.script_accepted b.script_accepted in
      let conf_is : x.conf ≡ y.conf = cc in
      let capture_is : x.capture ≡ y.capture = cc in
      let events_are : x.events ≡ y.events = cc in
      same_inputs x.conf y.conf x.capture y.capture x.events y.events conf_is capture_is events_are

  -- what is true of inputs is true of the same inputs
  ends_too : (x y : Inputs) → AcceptsInputs names x shown → AcceptsInputs names y shown → EndsRun x → EndsRun y
  ends_too x y a b h = subst EndsRun (inputs_one x y a b) h

  stops_too : (x y : Inputs) (limit : Limit) → AcceptsInputs names x shown → AcceptsInputs names y shown
      → StopsRun x limit → StopsRun y limit
  stops_too x y limit a b h = subst (λ (i : Inputs). StopsRun i limit) (inputs_one x y a b) h

  pub not_both : (x : Inputs) (limit : Limit) → EndsRun x → StopsRun x limit → ⊥
  not_both x limit ends stops =
      leaves_or_stops (setting_for x) x.events ends.0 stops.0 ends.1 stops.1 ends.2 limit ends.3 stops.2

  one_limit : (x : Inputs) (limit other : Limit) → StopsRun x limit → StopsRun x other → limit ≡ other
  one_limit x limit other a b = (stops_leave_one (setting_for x) x.events a.0 b.0 a.1 b.1 limit other a.2 b.2).0

  -- two verdicts are of one status
  one_status : (s r : Status) → Verdict s → Verdict r → s ≡ r
  one_status s r (OfBox e d h q) (OfBox f g k p) =
      let same : box_err e ≡ box_err f = box_one (Err e) (Err f) d g h k in
      let e_is : e ≡ f = cc in
      q ∙ ap of_box_error e_is ∙ sym p
  one_status s r (OfBox e d h q) (OfCapture conf box f g k p) = absurd (box_not_both conf e box d h)
  one_status s r (OfBox e d h q) (OfScript conf box capture accepted f g k p) = absurd (box_not_both conf e box d h)
  one_status s r (OfBox e d h q) (OfRun y b ends p) = absurd (box_not_both y.conf e b.box_accepted d h)
  one_status s r (OfBox e d h q) (OfLimit y b limit stops p) = absurd (box_not_both y.conf e b.box_accepted d h)
  one_status s r (OfCapture conf box e d h q) (OfBox f g k p) = absurd (box_not_both conf f box g k)
  one_status s r (OfCapture conf box e d h q) (OfCapture other that f g k p) =
      let same : capture_err e ≡ capture_err f = capture_one (Err e) (Err f) d g h k in
      let e_is : e ≡ f = cc in
      q ∙ ap of_capture_error e_is ∙ sym p
  one_status s r (OfCapture conf box e d h q) (OfScript other that capture accepted f g k p) =
      absurd (capture_not_both capture e accepted d h)
  one_status s r (OfCapture conf box e d h q) (OfRun y b ends p) =
      absurd (capture_not_both y.capture e b.capture_accepted d h)
  one_status s r (OfCapture conf box e d h q) (OfLimit y b limit stops p) =
      absurd (capture_not_both y.capture e b.capture_accepted d h)
  one_status s r (OfScript conf box capture accepted e d h q) (OfBox f g k p) = absurd (box_not_both conf f box g k)
  one_status s r (OfScript conf box capture accepted e d h q) (OfCapture other that f g k p) =
      absurd (capture_not_both capture f accepted g k)
  one_status s r (OfScript conf box capture accepted e d h q) (OfScript other that packets allowed f g k p) =
      let same : script_err e ≡ script_err f = script_one (Err e) (Err f) d g h k in
      let e_is : e ≡ f = cc in
      q ∙ ap of_script_error e_is ∙ sym p
  one_status s r (OfScript conf box capture accepted e d h q) (OfRun y b ends p) =
      absurd (script_not_both y.events e b.script_accepted d h)
  one_status s r (OfScript conf box capture accepted e d h q) (OfLimit y b limit stops p) =
      absurd (script_not_both y.events e b.script_accepted d h)
  one_status s r (OfRun x a ends q) (OfBox f g k p) = absurd (box_not_both x.conf f a.box_accepted g k)
  one_status s r (OfRun x a ends q) (OfCapture conf box f g k p) =
      absurd (capture_not_both x.capture f a.capture_accepted g k)
  one_status s r (OfRun x a ends q) (OfScript conf box capture accepted f g k p) =
      absurd (script_not_both x.events f a.script_accepted g k)
  one_status s r (OfRun x a ends q) (OfRun y b other p) = q ∙ sym p
  one_status s r (OfRun x a ends q) (OfLimit y b limit stops p) =
      absurd (not_both y limit (ends_too x y a b ends) stops)
  one_status s r (OfLimit x a limit stops q) (OfBox f g k p) = absurd (box_not_both x.conf f a.box_accepted g k)
  one_status s r (OfLimit x a limit stops q) (OfCapture conf box f g k p) =
      absurd (capture_not_both x.capture f a.capture_accepted g k)
  one_status s r (OfLimit x a limit stops q) (OfScript conf box capture accepted f g k p) =
      absurd (script_not_both x.events f a.script_accepted g k)
  one_status s r (OfLimit x a limit stops q) (OfRun y b ends p) =
      absurd (not_both y limit ends (stops_too x y limit a b stops))
  one_status s r (OfLimit x a limit stops q) (OfLimit y b other there p) =
      q ∙ ap status.TooLarge (one_limit y limit other (stops_too x y limit a b stops) there) ∙ sym p

  pub one_verdict : (s r : Status) → IsDecided healthy s → IsDecided healthy r → Judges healthy names s shown
      → Judges healthy names r shown → s ≡ r
  one_verdict s r d g h k = one_status s r (verdict s d h) (verdict r g k)

  -- In a healthy world a run that is accepted and passes no limit is done, or memory ran out.
  pub run_completes : healthy → AreAccepted names shown → (s : Status) → Judges healthy names s shown → Completes s
  run_completes ok accepted status.NoMemory h = inr refl
  run_completes ok accepted status.Done h = inl refl
  run_completes ok accepted (status.Refuted refutation) h = absurd h
  run_completes ok accepted status.BadWords h = absurd h
  run_completes ok accepted (status.Unready unready) h = absurd h
  run_completes ok accepted status.WriteFault h = absurd (h.0 ok)
  run_completes ok (x, a, within) status.ReadFault h = absurd (accepts_no_other x a (missing (h ok) ok))
    where
      accepts_no_other : (x : Inputs) → AcceptsInputs names x shown → Verdict status.ReadFault → ⊥
      accepts_no_other x a (OfBox f g k p) = box_not_both x.conf f a.box_accepted g k
      accepts_no_other x a (OfCapture conf box f g k p) = capture_not_both x.capture f a.capture_accepted g k
      accepts_no_other x a (OfScript conf box capture accepted f g k p) =
          script_not_both x.events f a.script_accepted g k
      accepts_no_other x a (OfRun y b ends p) = cc
      accepts_no_other x a (OfLimit y b limit stops p) = cc
  run_completes ok (x, a, within) (status.BadInput fault) h = absurd (refused x a (verdict (status.BadInput fault)
      (λ e. let no : status.BadInput fault ≡ status.NoMemory = e in cc, (λ e. ok, λ e. ok)) h))
    where
      refused : (x : Inputs) → AcceptsInputs names x shown → Verdict (status.BadInput fault) → ⊥
      refused x a (OfBox f g k p) = box_not_both x.conf f a.box_accepted g k
      refused x a (OfCapture conf box f g k p) = capture_not_both x.capture f a.capture_accepted g k
      refused x a (OfScript conf box capture accepted f g k p) = script_not_both x.events f a.script_accepted g k
      refused x a (OfRun y b ends p) = cc
      refused x a (OfLimit y b limit stops p) = cc
  run_completes ok (x, a, within) (status.TooLarge limit) h = absurd (refused x a within (verdict
      (status.TooLarge limit) (λ e. let no : status.TooLarge limit ≡ status.NoMemory = e in cc, (λ e. ok, λ e. ok)) h))
    where
      refused : (x : Inputs) → AcceptsInputs names x shown → ((l : Limit) → StopsRun x l → ⊥)
          → Verdict (status.TooLarge limit) → ⊥
      refused x a within (OfBox f g k p) = box_not_both x.conf f a.box_accepted g k
      refused x a within (OfCapture conf box f g k p) = capture_not_both x.capture f a.capture_accepted g k
      refused x a within (OfScript conf box capture accepted f g k p) = script_not_both x.events f a.script_accepted g k
      refused x a within (OfRun y b ends p) = cc
      refused x a within (OfLimit y b other stops p) = within other (stops_too y x other b a stops)
