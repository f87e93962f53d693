-- What a refused file of a chain says.
use Rattle.std.proofs.Common.{◌≡◌, sym, subst, inl, inr, Err}
use Rattle.plain_text.specs.declared.fault.LineFault.{LineFault}
use Rattle.pcapng_io.specs.declared.fault.AnyFault.{AnyFault}
use Rattle.pcapng_io.specs.declared.fault.AnyFault.TheVariants as any
use Rattle.box_conf.specs.declared.kind.BoxConf.{BoxConf}
use Rattle.world_io.specs.World.{Shown}
use Rattle.input_files.specs.declared.errors.InputError.{InputError}
use Rattle.input_files.specs.declared.errors.InputError.TheVariants as error
use Rattle.input_files.specs.Judging.{AcceptsBox, JudgesBox, JudgesCapture, JudgesChain}
use Rattle.job_commands.specs.declared.chain_inputs.Boxes.{Boxes}
use Rattle.job_commands.specs.declared.chain_inputs.ChainSource.{ChainSource}
use Rattle.job_commands.specs.declared.status.Status.{Status}
use Rattle.job_commands.specs.Chain.{AcceptsBoxes, AcceptsSource, JudgesChainFiles, SaysOfChainFiles}
use Rattle.job_commands.specs.ChainWords.{ChainNames}
use Rattle.job_commands.specs.Status.{of_box_error, of_capture_error, of_script_error, of_second_box_error}

module _ (healthy : Type 0) (names : ChainNames) (shown : Shown) where
  abbrev Says : Status → Type 0
  Says s = SaysOfChainFiles healthy names s shown

  first_says : (e : InputError LineFault) → JudgesBox healthy names.first_box (Err e) shown → Says (of_box_error e)
  first_says (error.Fault fault) h = h
  first_says (error.TooLarge limit) h = inl h
  first_says error.ReadFault h = λ ok. inl (h ok)
  first_says error.NoMemory h = tt

  second_says : (conf : BoxConf) (e : InputError LineFault) → AcceptsBox names.first_box conf shown
      → JudgesBox healthy names.second_box (Err e) shown → Says (of_second_box_error e)
  second_says conf (error.Fault fault) box h = (conf, box, h)
  second_says conf (error.TooLarge limit) box h = inr (inl (conf, box, h))
  second_says conf error.ReadFault box h = λ ok. inr (inl (conf, box, h ok))
  second_says conf error.NoMemory box h = tt

  capture_says : (boxes : Boxes) (e : InputError AnyFault) → AcceptsBoxes names boxes shown
      → JudgesCapture healthy names.capture (Err e) shown → Says (of_capture_error e)
  capture_says boxes (error.Fault (any.Capture fault)) a h = (boxes, a, h)
  capture_says boxes (error.Fault (any.Ng fault)) a h = (boxes, a, h)
  capture_says boxes (error.TooLarge limit) a h = inr (inr (inl (boxes, a, h)))
  capture_says boxes error.ReadFault a h = λ ok. inr (inr (inl (boxes, a, h ok)))
  capture_says boxes error.NoMemory a h = tt

  script_says : (source : ChainSource) (e : InputError LineFault) → AcceptsSource names source shown
      → JudgesChain healthy names.script (Err e) shown → Says (of_script_error e)
  script_says source (error.Fault fault) a h = (source, a, h)
  script_says source (error.TooLarge limit) a h = inr (inr (inr (source, a, h)))
  script_says source error.ReadFault a h = λ ok. inr (inr (inr (source, a, h ok)))
  script_says source error.NoMemory a h = tt

  pub chain_says : (s : Status) → JudgesChainFiles healthy names (λ inputs other. ⊥) s shown → Says s
  chain_says s (inl (e, h, q)) = subst Says (sym q) (first_says e h)
  chain_says s (inr (first, one, inl (e, h, q))) = subst Says (sym q) (second_says first e one h)
  chain_says s (inr (first, one, inr (second, two, inl (e, h, q)))) =
      subst Says (sym q)
      (capture_says (record { first = first; second = second }) e
      (record { first_accepted = one; second_accepted = two }) h)
  chain_says s (inr (first, one, inr (second, two, inr (capture, three, inl (e, h, q))))) =
      let boxes : Boxes = record { first = first; second = second } in
      subst Says (sym q)
      (script_says (record { boxes = boxes; capture = capture }) e
      (record {
        boxes_accepted = record { first_accepted = one; second_accepted = two };
        capture_accepted = three;
      }) h)
  chain_says s (inr (first, one, inr (second, two, inr (capture, three, inr (events, four, h))))) = absurd h
