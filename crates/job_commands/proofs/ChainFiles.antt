-- The files of a chain, judged in their turn: what is true of them, and that they decide one status.
use Rattle.std.proofs.Common.{◌≡◌, List, refl, ◌⊎◌, inl, inr, Result, Err}
use Rattle.plain_text.specs.declared.fault.LineFault.{LineFault}
use Rattle.pcapng_io.specs.declared.fault.AnyFault.{AnyFault}
use Rattle.box_conf.specs.declared.kind.BoxConf.{BoxConf}
use Rattle.chain_world.specs.declared.chain_event.ChainEvent.{ChainEvent}
use Rattle.world_io.specs.World.{Shown}
use Rattle.input_files.specs.declared.capture_file.Capture.{Capture}
use Rattle.input_files.specs.declared.errors.InputError.{InputError}
use Rattle.input_files.specs.declared.errors.InputError.TheVariants as error
use Rattle.input_files.specs.Answers.{SaysBox, SaysCapture, SaysChain}
use Rattle.input_files.specs.Judging.{AcceptsBox, JudgesBox, JudgesCapture, JudgesChain}
use Rattle.input_files.proofs.OneAnswer.{one_answer, one_box, one_capture, one_chain}
use Rattle.job_commands.specs.declared.chain_inputs.Boxes.{Boxes}
use Rattle.job_commands.specs.declared.chain_inputs.ChainInputs.{ChainInputs}
use Rattle.job_commands.specs.declared.chain_inputs.ChainSource.{ChainSource}
use Rattle.job_commands.specs.declared.status.Status.{Status}
use Rattle.job_commands.specs.declared.status.Status.TheVariants as status
use Rattle.job_commands.specs.Chain.{AcceptsBoxes, AcceptsChainInputs, AcceptsSource, JudgesBoxes, JudgesChainFiles}
use Rattle.job_commands.specs.Chain.{JudgesSource}
use Rattle.job_commands.specs.ChainWords.{ChainNames}
use Rattle.job_commands.specs.Judging.{IsDecided}
use Rattle.job_commands.specs.Status.{of_box_error, of_capture_error, of_script_error, of_second_box_error}
use Rattle.job_commands.specs.Turns.{InTurn}
use Rattle.job_commands.proofs.Turns.{Decides, box_decides, capture_decides, one_in_turn, passes, script_decides}
use Rattle.job_commands.proofs.Turns.{second_box_decides}

module _ (healthy : Type 0) (names : ChainNames) (shown : Shown) where
  abbrev FirstBox : Result BoxConf (InputError LineFault) → Type 0
  FirstBox r = JudgesBox healthy names.first_box r shown

  abbrev SecondBox : Result BoxConf (InputError LineFault) → Type 0
  SecondBox r = JudgesBox healthy names.second_box r shown

  abbrev Captured : Result Capture (InputError AnyFault) → Type 0
  Captured r = JudgesCapture healthy names.capture r shown

  abbrev Scripted : Result (List ChainEvent) (InputError LineFault) → Type 0
  Scripted r = JudgesChain healthy names.script r shown

  -- Both boxes
  module _ (behind : Boxes → Status → Type 0) where
    abbrev BehindFirst : BoxConf → Status → Type 0
    BehindFirst first =
        InTurn SecondBox of_second_box_error (λ second. behind (record { first = first; second = second }))

    pub first_box_refused : (e : InputError LineFault) → FirstBox (Err e)
        → JudgesBoxes healthy names behind (of_box_error e) shown
    first_box_refused e h = inl (e, h, refl)

    pub second_box_refused : (first : BoxConf) (e : InputError LineFault) → AcceptsBox names.first_box first shown
        → SecondBox (Err e) → JudgesBoxes healthy names behind (of_second_box_error e) shown
    second_box_refused first e box h = inr (first, box, inl (e, h, refl))

    pub boxes_accepted : (boxes : Boxes) (s : Status) → AcceptsBoxes names boxes shown → behind boxes s
        → JudgesBoxes healthy names behind s shown
    boxes_accepted boxes s a h = inr (boxes.first, a.first_accepted, inr (boxes.second, a.second_accepted, h))

    pub boxes_refused : (s : Status) → JudgesBoxes healthy names (λ boxes other. ⊥) s shown
        → JudgesBoxes healthy names behind s shown
    boxes_refused s (inl h) = inl h
    boxes_refused s (inr (first, box, inl h)) = inr (first, box, inl h)
    boxes_refused s (inr (first, box, inr (second, other, h))) = absurd h

    pub boxes_one : ((boxes : Boxes) (s r : Status) → IsDecided healthy s → IsDecided healthy r → behind boxes s
        → behind boxes r → s ≡ r) → (s r : Status) → IsDecided healthy s → IsDecided healthy r
        → JudgesBoxes healthy names behind s shown → JudgesBoxes healthy names behind r shown → s ≡ r
    boxes_one next =
        one_in_turn healthy FirstBox of_box_error BehindFirst (one_answer SaysBox one_box healthy names.first_box shown)
        (box_decides healthy)
        (λ first. one_in_turn healthy SecondBox of_second_box_error
        (λ second. behind (record { first = first; second = second }))
        (one_answer SaysBox one_box healthy names.second_box shown) (second_box_decides healthy)
        (λ second. next (record { first = first; second = second })))

    pub boxes_pass : healthy → (boxes : Boxes) → AcceptsBoxes names boxes shown → (s : Status)
        → JudgesBoxes healthy names behind s shown → (s ≡ status.NoMemory) ⊎ behind boxes s
    boxes_pass ok boxes a s h = second (first h)
      where
        first : JudgesBoxes healthy names behind s shown → (s ≡ status.NoMemory) ⊎ BehindFirst boxes.first s
        first = passes healthy FirstBox of_box_error BehindFirst
            (one_answer SaysBox one_box healthy names.first_box shown) ok boxes.first a.first_accepted s

        second : (s ≡ status.NoMemory) ⊎ BehindFirst boxes.first s → (s ≡ status.NoMemory) ⊎ behind boxes s
        second (inl q) = inl q
        second (inr h) =
            passes healthy SecondBox of_second_box_error
            (λ other. behind (record { first = boxes.first; second = other }))
            (one_answer SaysBox one_box healthy names.second_box shown) ok boxes.second a.second_accepted s h

  -- Boxes and capture
  module _ (behind : ChainSource → Status → Type 0) where
    abbrev BehindBoxes : Boxes → Status → Type 0
    BehindBoxes boxes =
        InTurn Captured of_capture_error (λ capture. behind (record { boxes = boxes; capture = capture }))

    pub box_of_source_refused : (s : Status) → JudgesBoxes healthy names (λ boxes other. ⊥) s shown
        → JudgesSource healthy names behind s shown
    box_of_source_refused s h = boxes_refused BehindBoxes s h

    pub source_capture_refused : (boxes : Boxes) (e : InputError AnyFault) → AcceptsBoxes names boxes shown
        → Captured (Err e) → JudgesSource healthy names behind (of_capture_error e) shown
    source_capture_refused boxes e a h = boxes_accepted BehindBoxes boxes (of_capture_error e) a (inl (e, h, refl))

    pub source_accepted : (source : ChainSource) (s : Status) → AcceptsSource names source shown → behind source s
        → JudgesSource healthy names behind s shown
    source_accepted source s a h =
        boxes_accepted BehindBoxes source.boxes s a.boxes_accepted (inr (source.capture, a.capture_accepted, h))

    pub source_refused : (s : Status) → JudgesSource healthy names (λ source other. ⊥) s shown
        → JudgesSource healthy names behind s shown
    source_refused s (inl h) = inl h
    source_refused s (inr (first, box, inl h)) = inr (first, box, inl h)
    source_refused s (inr (first, box, inr (second, other, inl h))) = inr (first, box, inr (second, other, inl h))
    source_refused s (inr (first, box, inr (second, other, inr (capture, there, h)))) = absurd h

    pub source_one : ((source : ChainSource) (s r : Status) → IsDecided healthy s → IsDecided healthy r
        → behind source s → behind source r → s ≡ r) → (s r : Status) → IsDecided healthy s → IsDecided healthy r
        → JudgesSource healthy names behind s shown → JudgesSource healthy names behind r shown → s ≡ r
    source_one next =
        boxes_one BehindBoxes
        (λ boxes. one_in_turn healthy Captured of_capture_error
        (λ capture. behind (record { boxes = boxes; capture = capture }))
        (one_answer SaysCapture one_capture healthy names.capture shown) (capture_decides healthy)
        (λ capture. next (record { boxes = boxes; capture = capture })))

    pub source_pass : healthy → (source : ChainSource) → AcceptsSource names source shown → (s : Status)
        → JudgesSource healthy names behind s shown → (s ≡ status.NoMemory) ⊎ behind source s
    source_pass ok source a s h = last (boxes_pass BehindBoxes ok source.boxes a.boxes_accepted s h)
      where
        last : (s ≡ status.NoMemory) ⊎ BehindBoxes source.boxes s → (s ≡ status.NoMemory) ⊎ behind source s
        last (inl q) = inl q
        last (inr h) =
            passes healthy Captured of_capture_error
            (λ capture. behind (record { boxes = source.boxes; capture = capture }))
            (one_answer SaysCapture one_capture healthy names.capture shown) ok source.capture a.capture_accepted s h

  -- All files
  module _ (behind : ChainInputs → Status → Type 0) where
    abbrev BehindSource : ChainSource → Status → Type 0
    BehindSource source =
        InTurn Scripted of_script_error (λ events. behind (record { source = source; events = events }))

    pub source_of_chain_refused : (s : Status) → JudgesSource healthy names (λ source other. ⊥) s shown
        → JudgesChainFiles healthy names behind s shown
    source_of_chain_refused s h = source_refused BehindSource s h

    pub chain_script_refused : (source : ChainSource) (e : InputError LineFault) → AcceptsSource names source shown
        → Scripted (Err e) → JudgesChainFiles healthy names behind (of_script_error e) shown
    chain_script_refused source e a h = source_accepted BehindSource source (of_script_error e) a (inl (e, h, refl))

    -- all are accepted, and what stands behind decides
    pub chain_accepted : (inputs : ChainInputs) (s : Status) → AcceptsChainInputs names inputs shown → behind inputs s
        → JudgesChainFiles healthy names behind s shown
    chain_accepted inputs s a h =
        source_accepted BehindSource inputs.source s a.source_accepted (inr (inputs.events, a.script_accepted, h))

    pub chain_refused : (s : Status) → JudgesChainFiles healthy names (λ inputs other. ⊥) s shown
        → JudgesChainFiles healthy names behind s shown
    chain_refused s (inl h) = inl h
    chain_refused s (inr (first, box, inl h)) = inr (first, box, inl h)
    chain_refused s (inr (first, box, inr (second, other, inl h))) = inr (first, box, inr (second, other, inl h))
    chain_refused s (inr (first, box, inr (second, other, inr (capture, there, inl h)))) =
        inr (first, box, inr (second, other, inr (capture, there, inl h)))
    chain_refused s (inr (first, box, inr (second, other, inr (capture, there, inr (events, script, h))))) = absurd h

    -- they decide one status
    pub chain_one : ((inputs : ChainInputs) (s r : Status) → IsDecided healthy s → IsDecided healthy r
        → behind inputs s → behind inputs r → s ≡ r) → (s r : Status) → IsDecided healthy s → IsDecided healthy r
        → JudgesChainFiles healthy names behind s shown → JudgesChainFiles healthy names behind r shown → s ≡ r
    chain_one next =
        source_one BehindSource
        (λ source. one_in_turn healthy Scripted of_script_error
        (λ events. behind (record { source = source; events = events }))
        (one_answer SaysChain one_chain healthy names.script shown) (script_decides healthy)
        (λ events. next (record { source = source; events = events })))

    -- In a healthy world, where they are accepted, what stands behind decides, unless memory ran out.
    pub chain_pass : healthy → (inputs : ChainInputs) → AcceptsChainInputs names inputs shown → (s : Status)
        → JudgesChainFiles healthy names behind s shown → (s ≡ status.NoMemory) ⊎ behind inputs s
    chain_pass ok inputs a s h = last (source_pass BehindSource ok inputs.source a.source_accepted s h)
      where
        last : (s ≡ status.NoMemory) ⊎ BehindSource inputs.source s → (s ≡ status.NoMemory) ⊎ behind inputs s
        last (inl q) = inl q
        last (inr h) =
            passes healthy Scripted of_script_error
            (λ events. behind (record { source = inputs.source; events = events }))
            (one_answer SaysChain one_chain healthy names.script shown) ok inputs.events a.script_accepted s h
