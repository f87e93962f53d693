-- A file decides the answer to it.
use Rattle.std.proofs.Common.{◌≡◌, ℕ, ◌<◌, ◌≤◌, ◌⊎◌, inl, inr, List, length, refl, sym, ap, ◌∙◌, subst, arith, Result}
use Rattle.std.proofs.Common.{Ok, Err}
use Rattle.std.specs.Prelude.{Some, None}
use Rattle.plain_text.specs.declared.fault.LineCause.{LineCause}
use Rattle.plain_text.specs.declared.fault.LineFault.{LineFault}
use Rattle.plain_text.specs.declared.limit.Limit.{Limit}
use Rattle.plain_text.specs.declared.limit.Limit.TheVariants as limit
use Rattle.plain_text.specs.declared.limit.TheConstants.{MOST_EVENTS}
use Rattle.plain_text.specs.LineFiles.{LineForm, IsDecisive, IsFile, HasTooMany, count_of}
use Rattle.plain_text.proofs.WholeFiles as files
use Rattle.pcapng_io.specs.declared.capture.AnyCaptured.{AnyCaptured}
use Rattle.pcapng_io.specs.declared.capture.AnyCaptured.TheVariants as captured
use Rattle.pcapng_io.specs.declared.fault.AnyFault.{AnyFault}
use Rattle.pcapng_io.specs.Captured.{SaysAny, IsDecidedAny}
use Rattle.pcapng_io.proofs.Written.{one_any_answer}
use Rattle.box_conf.specs.declared.kind.BoxConf.{BoxConf}
use Rattle.box_conf.specs.BoxFile as box
use Rattle.box_conf.proofs.OneFile as box_file
use Rattle.recovery_world.specs.declared.event.Event.{Event}
use Rattle.script_text.specs.Scripts.{script_form}
use Rattle.script_text.proofs.OneLine.{events_are_decisive}
use Rattle.chain_text.specs.ChainScripts.{chain_form}
use Rattle.chain_text.proofs.OneEvent.{chain_is_decisive}
use Rattle.chain_world.specs.declared.chain_event.ChainEvent.{ChainEvent}
use Rattle.plan_script.specs.declared.plan.PlanLine.{PlanLine}
use Rattle.plan_text.specs.Plans.{plan_form}
use Rattle.plan_text.proofs.OneLine.{lines_are_decisive}
use Rattle.plain_machine.specs.declared.plain_move.PlainMove.{PlainMove}
use Rattle.plain_player.specs.Schedules.{schedule_form}
use Rattle.plain_player.proofs.OneMove.{moves_are_decisive}
use Rattle.world_io.specs.World.{Shown}
use Rattle.input_files.specs.declared.capture_file.Capture.{Capture}
use Rattle.input_files.specs.declared.errors.InputError.{InputError}
use Rattle.input_files.specs.declared.errors.InputError.TheVariants as error
use Rattle.input_files.specs.Answers.{SaysBox, SaysFile, SaysScript, SaysSchedule, SaysPlan, SaysCapture, BoxPasses}
use Rattle.input_files.specs.Answers.{LinesPass, SaysChain}
use Rattle.input_files.specs.Answers.{MayGoOn, SaysNoFault}
use Rattle.input_files.specs.Files.{IsMissing}
use Rattle.input_files.specs.Judging.{Judges, IsDecided}
use Rattle.input_files.specs.Texts.{judged_text}
use Rattle.input_files.proofs.JudgedTexts.{within}

-- an answer that the bytes of a file decide
abbrev pub OfBytes : {A F : Type 0} → Result A (InputError F) → Type 0
OfBytes (Ok value) = Unit {0}
OfBytes (Err (error.Fault fault)) = Unit {0}
OfBytes (Err (error.TooLarge passed)) = Unit {0}
OfBytes (Err error.ReadFault) = ⊥
OfBytes (Err error.NoMemory) = ⊥

-- Where bytes have one answer, a file has one.
module _ {A F : Type 0} (says : List ℕ → Result A (InputError F) → Type 0)
    (one_says : (bytes : List ℕ) (a b : Result A (InputError F)) → OfBytes a → OfBytes b → says bytes a
    → says bytes b → a ≡ b) (healthy : Type 0) (name : List ℕ) (shown : Shown) where
  -- the file is not there, or its bytes have this answer
  abbrev Reads : Result A (InputError F) → Type 0
  Reads r = ((r ≡ Err error.ReadFault) × IsMissing name shown)
      ⊎ ((bytes : List ℕ) × (shown.names name ≡ Some bytes) × OfBytes r × says bytes r)

  reads : (r : Result A (InputError F)) → IsDecided healthy r → Judges says healthy name r shown → Reads r
  reads (Ok value) d h = inr (h.0, h.1, tt, h.2)
  reads (Err (error.Fault fault)) d h = inr (h.0, h.1, tt, h.2)
  reads (Err (error.TooLarge passed)) d h = inr (h.0, h.1, tt, h.2)
  reads (Err error.ReadFault) d h = inl (refl, h d)
  reads (Err error.NoMemory) d h = absurd d

  same_bytes : (a b : List ℕ) → shown.names name ≡ Some a → shown.names name ≡ Some b → a ≡ b
  same_bytes a b x y =
      let some : Some a ≡ Some b = sym x ∙ y in
      cc

  not_there : (a : List ℕ) → IsMissing name shown → shown.names name ≡ Some a → ⊥
  not_there a x y = none (sym x ∙ y)
    where
      none : None ≡ Some a → ⊥
      none e = cc

  one_read : (r q : Result A (InputError F)) → Reads r → Reads q → r ≡ q
  one_read r q (inl a) (inl b) = a.0 ∙ sym b.0
  one_read r q (inl a) (inr b) = absurd (not_there b.0 a.1 b.1)
  one_read r q (inr a) (inl b) = absurd (not_there a.0 b.1 a.1)
  one_read r q (inr a) (inr b) =
      let same : a.0 ≡ b.0 = same_bytes a.0 b.0 a.1 b.1 in
      one_says b.0 r q a.2 b.2 (subst (λ (bytes : List ℕ). says bytes r) same a.3) b.3

  pub one_answer : (r q : Result A (InputError F)) → IsDecided healthy r → IsDecided healthy q
      → Judges says healthy name r shown → Judges says healthy name q shown → r ≡ q
  one_answer r q dr dq hr hq = one_read r q (reads r dr hr) (reads q dq hq)

pub same_fault : (f g : LineFault) → (f.line ≡ g.line) × (f.cause ≡ g.cause) → f ≡ g
same_fault f g same =
    let line : f.line ≡ g.line = same.0 in
    let cause : f.cause ≡ g.cause = same.1 in
    let first : f ≡ record { line = g.line; cause = f.cause } = ap (λ (n : ℕ). record f { line = n }) line in
    first ∙ ap (λ (c : LineCause). record g { cause = c }) cause

pub no_room : {P : Type 0} (n : ℕ) → n ≤ 67108864 → 67108864 < n → P
no_room n low high = absurd (omega arith)

-- Box files

box_limit : (bytes : List ℕ) (passed : Limit) → BoxPasses bytes passed
    → (passed ≡ limit.File) × (67108864 < length bytes) × MayGoOn (judged_text bytes)
box_limit bytes limit.File h = (refl, h.0, h.1)
box_limit bytes limit.Packets h = absurd h
box_limit bytes limit.Events h = absurd h
box_limit bytes limit.Moves h = absurd h
box_limit bytes limit.OutputBytes h = absurd h

box_both : (bytes : List ℕ) (conf : BoxConf) (fault : LineFault) → SaysBox bytes (Ok conf)
    → SaysBox bytes (Err (error.Fault fault)) → ⊥
box_both bytes conf fault a b =
    let First : List ℕ → Type 0 = λ text. box.FirstFault text fault.line fault.cause in
    box_file.box_or_fault bytes conf fault.line fault.cause a.1 (subst First (within bytes a.0) b.0)

pub one_box : (bytes : List ℕ) (a b : Result BoxConf (InputError LineFault)) → OfBytes a → OfBytes b → SaysBox bytes a
    → SaysBox bytes b → a ≡ b
one_box bytes (Ok a) (Ok b) d e x y = ap (λ (c : BoxConf). Ok c) (box_file.one_box bytes a b x.1 y.1)
one_box bytes (Ok a) (Err (error.Fault f)) d e x y = absurd (box_both bytes a f x y)
one_box bytes (Ok a) (Err (error.TooLarge l)) d e x y = no_room (length bytes) x.0 (box_limit bytes l y).1
one_box bytes (Ok a) (Err error.ReadFault) d e x y = absurd e
one_box bytes (Ok a) (Err error.NoMemory) d e x y = absurd e
one_box bytes (Err (error.Fault f)) (Ok b) d e x y = absurd (box_both bytes b f y x)
one_box bytes (Err (error.Fault f)) (Err (error.Fault g)) d e x y =
    ap (λ (h : LineFault). Err (error.Fault h))
    (same_fault f g (box_file.one_fault (judged_text bytes) f.line g.line f.cause g.cause x.0 y.0))
one_box bytes (Err (error.Fault f)) (Err (error.TooLarge l)) d e x y =
    let large = box_limit bytes l y in absurd (x.1 large.1 (large.2 f.line f.cause x.0))
one_box bytes (Err (error.Fault f)) (Err error.ReadFault) d e x y = absurd e
one_box bytes (Err (error.Fault f)) (Err error.NoMemory) d e x y = absurd e
one_box bytes (Err (error.TooLarge l)) (Ok b) d e x y = no_room (length bytes) y.0 (box_limit bytes l x).1
one_box bytes (Err (error.TooLarge l)) (Err (error.Fault f)) d e x y =
    let large = box_limit bytes l x in absurd (y.1 large.1 (large.2 f.line f.cause y.0))
one_box bytes (Err (error.TooLarge l)) (Err (error.TooLarge m)) d e x y =
    ap (λ (n : Limit). Err (error.TooLarge n)) ((box_limit bytes l x).0 ∙ sym (box_limit bytes m y).0)
one_box bytes (Err (error.TooLarge l)) (Err error.ReadFault) d e x y = absurd e
one_box bytes (Err (error.TooLarge l)) (Err error.NoMemory) d e x y = absurd e
one_box bytes (Err error.ReadFault) b d e x y = absurd d
one_box bytes (Err error.NoMemory) b d e x y = absurd d

-- Files of lines

module _ {A : Type 0} (form : LineForm A) (decisive : IsDecisive form) where
  -- the two ways to pass a limit
  abbrev Passes : List ℕ → Limit → Type 0
  Passes bytes passed =
      ((passed ≡ limit.Events) × HasTooMany form MOST_EVENTS (judged_text bytes))
      ⊎ ((passed ≡ limit.File) × (67108864 < length bytes) × SaysNoFault form (judged_text bytes))

  file_limit : (bytes : List ℕ) (passed : Limit) → LinesPass form bytes passed → Passes bytes passed
  file_limit bytes limit.File h = inr (refl, h.0, h.1)
  file_limit bytes limit.Packets h = absurd h
  file_limit bytes limit.Events h = inl (refl, h)
  file_limit bytes limit.Moves h = absurd h
  file_limit bytes limit.OutputBytes h = absurd h

  file_both : (bytes : List ℕ) (things : List A) (fault : LineFault) → SaysFile form bytes (Ok things)
      → SaysFile form bytes (Err (error.Fault fault)) → ⊥
  file_both bytes things fault a b =
      let Is : List ℕ → Type 0 = λ text. IsFile form text things in
      files.not_both form decisive (judged_text bytes) things fault.line fault.cause
      (subst Is (sym (within bytes a.0)) a.1) b.0

  file_fits : (bytes : List ℕ) (things : List A) (passed : Limit) → SaysFile form bytes (Ok things)
      → LinesPass form bytes passed → ⊥
  file_fits bytes things passed a b = by_limit (file_limit bytes passed b)
    where
      few : HasTooMany form MOST_EVENTS bytes → ⊥
      few many = over ((files.too_many form decisive MOST_EVENTS bytes things a.1).0 many) a.2
        where
          over : 4000000 < count_of form things → count_of form things ≤ 4000000 → ⊥
          over high low = omega arith

      by_limit : Passes bytes passed → ⊥
      by_limit (inl h) = few (subst (HasTooMany form MOST_EVENTS) (within bytes a.0) h.1)
      by_limit (inr h) = no_room (length bytes) a.0 h.1

  file_faulty : (bytes : List ℕ) (fault : LineFault) (passed : Limit) → SaysFile form bytes (Err (error.Fault fault))
      → LinesPass form bytes passed → ⊥
  file_faulty bytes fault passed a b = by_limit (file_limit bytes passed b)
    where
      by_limit : Passes bytes passed → ⊥
      by_limit (inl h) = a.1 h.1
      by_limit (inr h) = h.2.0 fault.line fault.cause a.0

  one_limit : (bytes : List ℕ) (l m : Limit) → LinesPass form bytes l → LinesPass form bytes m → l ≡ m
  one_limit bytes l m x y = by_limits (file_limit bytes l x) (file_limit bytes m y)
    where
      by_limits : Passes bytes l → Passes bytes m → l ≡ m
      by_limits (inl a) (inl b) = a.0 ∙ sym b.0
      by_limits (inl a) (inr b) = absurd (b.2.1 a.1)
      by_limits (inr a) (inl b) = absurd (a.2.1 b.1)
      by_limits (inr a) (inr b) = a.0 ∙ sym b.0

  pub one_file : (bytes : List ℕ) (a b : Result (List A) (InputError LineFault)) → OfBytes a → OfBytes b
      → SaysFile form bytes a → SaysFile form bytes b → a ≡ b
  one_file bytes (Ok a) (Ok b) d e x y = ap (λ (c : List A). Ok c) (files.one_file form decisive bytes a b x.1 y.1)
  one_file bytes (Ok a) (Err (error.Fault f)) d e x y = absurd (file_both bytes a f x y)
  one_file bytes (Ok a) (Err (error.TooLarge l)) d e x y = absurd (file_fits bytes a l x y)
  one_file bytes (Ok a) (Err error.ReadFault) d e x y = absurd e
  one_file bytes (Ok a) (Err error.NoMemory) d e x y = absurd e
  one_file bytes (Err (error.Fault f)) (Ok b) d e x y = absurd (file_both bytes b f y x)
  one_file bytes (Err (error.Fault f)) (Err (error.Fault g)) d e x y =
      ap (λ (h : LineFault). Err (error.Fault h))
      (same_fault f g (files.one_fault form decisive (judged_text bytes) f.line g.line f.cause g.cause x.0 y.0))
  one_file bytes (Err (error.Fault f)) (Err (error.TooLarge l)) d e x y = absurd (file_faulty bytes f l x y)
  one_file bytes (Err (error.Fault f)) (Err error.ReadFault) d e x y = absurd e
  one_file bytes (Err (error.Fault f)) (Err error.NoMemory) d e x y = absurd e
  one_file bytes (Err (error.TooLarge l)) (Ok b) d e x y = absurd (file_fits bytes b l y x)
  one_file bytes (Err (error.TooLarge l)) (Err (error.Fault f)) d e x y = absurd (file_faulty bytes f l y x)
  one_file bytes (Err (error.TooLarge l)) (Err (error.TooLarge m)) d e x y =
      ap (λ (n : Limit). Err (error.TooLarge n)) (one_limit bytes l m x y)
  one_file bytes (Err (error.TooLarge l)) (Err error.ReadFault) d e x y = absurd e
  one_file bytes (Err (error.TooLarge l)) (Err error.NoMemory) d e x y = absurd e
  one_file bytes (Err error.ReadFault) b d e x y = absurd d
  one_file bytes (Err error.NoMemory) b d e x y = absurd d

pub one_script : (bytes : List ℕ) (a b : Result (List Event) (InputError LineFault)) → OfBytes a → OfBytes b
    → SaysScript bytes a → SaysScript bytes b → a ≡ b
one_script = one_file script_form events_are_decisive

pub one_chain : (bytes : List ℕ) (a b : Result (List ChainEvent) (InputError LineFault)) → OfBytes a → OfBytes b
    → SaysChain bytes a → SaysChain bytes b → a ≡ b
one_chain = one_file chain_form chain_is_decisive

pub one_schedule : (bytes : List ℕ) (a b : Result (List PlainMove) (InputError LineFault)) → OfBytes a → OfBytes b
    → SaysSchedule bytes a → SaysSchedule bytes b → a ≡ b
one_schedule = one_file schedule_form moves_are_decisive

pub one_plan : (bytes : List ℕ) (a b : Result (List PlanLine) (InputError LineFault)) → OfBytes a → OfBytes b
    → SaysPlan bytes a → SaysPlan bytes b → a ≡ b
one_plan = one_file plan_form lines_are_decisive

-- Captures

abbrev capture_said : AnyCaptured → Result Capture (InputError AnyFault)
capture_said (captured.Capture unit packets) = Ok (record { unit = unit; packets = packets })
capture_said (captured.Refused fault) = Err (error.Fault fault)
capture_said (captured.TooLarge passed) = Err (error.TooLarge passed)
capture_said captured.ReadFault = Err error.ReadFault
capture_said captured.NoMemory = Err error.NoMemory

abbrev Answered : List ℕ → Result Capture (InputError AnyFault) → Type 0
Answered bytes r = (answer : AnyCaptured) × IsDecidedAny answer × SaysAny bytes answer × (r ≡ capture_said answer)

answered : (bytes : List ℕ) (r : Result Capture (InputError AnyFault)) → OfBytes r → SaysCapture bytes r
    → Answered bytes r
answered bytes (Ok capture) d h = (captured.Capture capture.unit capture.packets, tt, h.0, refl)
answered bytes (Err (error.Fault fault)) d h = (captured.Refused fault, tt, h, refl)
answered bytes (Err (error.TooLarge passed)) d h = (captured.TooLarge passed, tt, h, refl)
answered bytes (Err error.ReadFault) d h = absurd d
answered bytes (Err error.NoMemory) d h = absurd d

pub one_capture : (bytes : List ℕ) (a b : Result Capture (InputError AnyFault)) → OfBytes a → OfBytes b
    → SaysCapture bytes a → SaysCapture bytes b → a ≡ b
one_capture bytes a b d e x y =
    let r = answered bytes a d x in
    let q = answered bytes b e y in
    r.3 ∙ ap capture_said (one_any_answer bytes r.0 q.0 r.1 q.1 r.2 q.2) ∙ sym q.3
