-- What the readers of texts answer, of the front of a file, is so of the file.
use Rattle.std.proofs.Common.{◌≡◌, ℕ, ◌<◌, ◌≤◌, List, sym, ap, ◌∙◌, subst, arith, Result, Ok, Err}
use Rattle.std.specs.Prelude.{All as Each, IfOk}
use Rattle.plain_text.specs.declared.fault.LineCause.TheVariants.{MissingLine}
use Rattle.plain_text.specs.declared.fault.LineFault.{LineFault}
use Rattle.plain_text.specs.declared.limit.Limit.{Limit}
use Rattle.plain_text.specs.declared.limit.Limit.TheVariants as limit
use Rattle.plain_text.specs.declared.limit.TheConstants.{MOST_EVENTS}
use Rattle.plain_text.specs.LineFiles.{LineForm, IsDecisive, IsFile, count_of}
use Rattle.plain_text.proofs.WholeFiles as files
use Rattle.world_io.specs.declared.beginning.Front.TheVariants.{All, More}
use Rattle.world_io.specs.World.{Shown}
use Rattle.chain_text.specs.ChainScripts.{chain_form}
use Rattle.chain_text.proofs.OneEvent.{all_named}
use Rattle.chain_world.specs.Chain.{NamesSystem}
use Rattle.chain_world.specs.declared.chain_event.ChainEvent.{ChainEvent}
use Rattle.box_conf.specs.declared.kind.BoxConf.{BoxConf}
use Rattle.box_conf.specs.BoxFile.{IsBoxFile}
use Rattle.box_conf.specs.BoxFile as box
use Rattle.box_conf.proofs.OneFile.{box_or_fault, one_fault}
use Rattle.input_files.specs.declared.errors.InputError.{InputError}
use Rattle.input_files.specs.declared.errors.InputError.TheVariants as error
use Rattle.input_files.specs.Answers.{SaysBox, SaysFile, SaysLines}
use Rattle.input_files.specs.Judging.{IsToldOf, Judges}
use Rattle.input_files.specs.Texts.{IsFrontOf, judged_text, whole_lines}
use Rattle.input_files.proofs.JudgedTexts.{within, beyond}

-- a fact of what was read of a file is one of the text that is judged of it
pub all_judged : (P : List ℕ → Type 0) (front bytes : List ℕ) → P front → IsFrontOf (All front) bytes
    → P (judged_text bytes)
all_judged P front bytes p is = subst P (sym is.0 ∙ sym (within bytes is.1)) p

pub cut_judged : (P : List ℕ → Type 0) (front bytes : List ℕ) → P (whole_lines front) → IsFrontOf (More front) bytes
    → P (judged_text bytes)
cut_judged P front bytes p is = subst P (ap whole_lines is.0 ∙ sym (beyond bytes is.1)) p

-- Box files

pub box_accepted : (front bytes : List ℕ) (conf : BoxConf) → IsBoxFile front conf → IsFrontOf (All front) bytes
    → SaysBox bytes (Ok conf)
box_accepted front bytes conf is all =
    let Is : List ℕ → Type 0 = λ text. IsBoxFile text conf in
    (all.1, subst Is (sym all.0) is)

pub box_faulty : (front bytes : List ℕ) (fault : LineFault) → box.FirstFault front fault.line fault.cause
    → IsFrontOf (All front) bytes → SaysBox bytes (Err (error.Fault fault))
box_faulty front bytes fault is all = (
  all_judged (λ text. box.FirstFault text fault.line fault.cause) front bytes is all,
  λ large. absurd (omega (arith, large, all.1)),
)

pub cut_box_faulty : (front bytes : List ℕ) (fault : LineFault)
    → box.FirstFault (whole_lines front) fault.line fault.cause → ¬ (fault.cause ≡ MissingLine)
    → IsFrontOf (More front) bytes → SaysBox bytes (Err (error.Fault fault))
cut_box_faulty front bytes fault is other cut =
    (cut_judged (λ text. box.FirstFault text fault.line fault.cause) front bytes is cut, λ large. other)

pub cut_box_whole : (front bytes : List ℕ) (conf : BoxConf) → IsBoxFile (whole_lines front) conf
    → IsFrontOf (More front) bytes → SaysBox bytes (Err (error.TooLarge limit.File))
cut_box_whole front bytes conf is cut =
    let judged = cut_judged (λ text. IsBoxFile text conf) front bytes is cut in
    (cut.1, λ number cause first. absurd (box_or_fault (judged_text bytes) conf number cause judged first))

pub cut_box_missing : (front bytes : List ℕ) (line : ℕ) → box.FirstFault (whole_lines front) line MissingLine
    → IsFrontOf (More front) bytes → SaysBox bytes (Err (error.TooLarge limit.File))
cut_box_missing front bytes line is cut =
    let judged = cut_judged (λ text. box.FirstFault text line MissingLine) front bytes is cut in
    (cut.1, λ number cause first. (one_fault (judged_text bytes) number line cause MissingLine first judged).1)

-- Files of lines

module _ {A : Type 0} (form : LineForm A) where
  refused : (bytes : List ℕ) (e : InputError LineFault) → SaysLines form (judged_text bytes) (Err e)
      → SaysFile form bytes (Err e)
  refused bytes (error.Fault fault) says = says
  refused bytes (error.TooLarge passed) says =
      subst (λ (l : Limit). SaysFile form bytes (Err (error.TooLarge l))) (sym says.0) says.1
  refused bytes error.ReadFault says = absurd says
  refused bytes error.NoMemory says = tt

  -- all of the file was read
  pub whole_file : (front bytes : List ℕ) (r : Result (List A) (InputError LineFault)) → SaysLines form front r
      → IsFrontOf (All front) bytes → SaysFile form bytes r
  whole_file front bytes (Ok things) says all =
      let Is : List ℕ → Type 0 = λ text. IsFile form text things in
      (all.1, subst Is (sym all.0) says.0, says.1)
  whole_file front bytes (Err e) says all =
      refused bytes e (all_judged (λ text. SaysLines form text (Err e)) front bytes says all)

  -- the front of a larger file was read
  pub cut_file : IsDecisive form → (front bytes : List ℕ) (things : List A)
      → SaysLines form (whole_lines front) (Ok things)
      → IsFrontOf (More front) bytes → SaysFile form bytes (Err (error.TooLarge limit.File))
  cut_file decisive front bytes things says cut =
      let judged = cut_judged (λ text. SaysLines form text (Ok things)) front bytes says cut in (
        cut.1,
        (
          (λ number cause first. files.not_both form decisive (judged_text bytes) things number cause judged.0 first),
          λ many. passes (count_of form things) judged.1
              ((files.too_many form decisive MOST_EVENTS (judged_text bytes) things judged.0).0 many),
        ),
      )
    where
      passes : (n : ℕ) → n ≤ 4000000 → 4000000 < n → ⊥
      passes n low high = omega arith

  pub cut_file_refused : (front bytes : List ℕ) (e : InputError LineFault) → SaysLines form (whole_lines front) (Err e)
      → IsFrontOf (More front) bytes → SaysFile form bytes (Err e)
  cut_file_refused front bytes e says cut =
      refused bytes e (cut_judged (λ text. SaysLines form text (Err e)) front bytes says cut)

  -- what is said of the bytes of a file is said of the file of its name
  pub file_judged : (healthy : Type 0) (name : List ℕ) (shown : Shown) (r : Result (List A) (InputError LineFault))
      → IsToldOf name (λ bytes. SaysFile form bytes r) shown → Judges (SaysFile form) healthy name r shown
  file_judged healthy name shown (Ok things) told = told
  file_judged healthy name shown (Err (error.Fault fault)) told = told
  file_judged healthy name shown (Err (error.TooLarge passed)) told = told
  file_judged healthy name shown (Err error.ReadFault) told = absurd told.2
  file_judged healthy name shown (Err error.NoMemory) told = tt

  -- the things that lines say are those of some text
  abbrev pub OfText : Result (List A) (InputError LineFault) → Type 0
  OfText r = IfOk r (λ things. (text : List ℕ) × IsFile form text things)

  pub lines_of_text : (text : List ℕ) (r : Result (List A) (InputError LineFault)) → SaysLines form text r → OfText r
  lines_of_text text (Ok things) says = (text, says.0)
  lines_of_text text (Err e) says = tt

-- the events of the script of a chain are those of its systems
pub of_systems : (r : Result (List ChainEvent) (InputError LineFault)) → OfText chain_form r
    → IfOk r (Each NamesSystem)
of_systems (Ok events) is = all_named {E = InputError LineFault} (Ok events) is.0 is.1
of_systems (Err e) is = tt
