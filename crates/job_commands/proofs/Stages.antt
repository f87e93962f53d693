-- The stages of the statuses that reading the inputs gives.
use Rattle.std.proofs.Common.{◌≡◌, ℕ, List, Bool, true, false, refl, sym, inl, inr, subst, Some, None, Err}
use Rattle.std.specs.Prelude.{cond, ◌==◌, ◌-◌, length}
use Rattle.plain_text.specs.declared.fault.LineFault.{LineFault}
use Rattle.plain_text.specs.declared.limit.Limit.{Limit}
use Rattle.plain_text.specs.declared.limit.Limit.TheVariants as limit_of
use Rattle.plain_text.specs.declared.limit.TheConstants.{MOST_FILE_BYTES, MOST_PACKETS}
use Rattle.pcap_io.specs.declared.capture.Captured.{Captured}
use Rattle.pcap_io.specs.declared.capture.Captured.TheVariants as savefile
use Rattle.pcap_io.specs.Captured.{Says}
use Rattle.pcap_io.specs.Limits.{PassesLimit}
use Rattle.pcapng_io.specs.declared.capture.AnyCaptured.TheVariants as captured
use Rattle.pcapng_io.specs.declared.fault.AnyFault.{AnyFault}
use Rattle.pcapng_io.specs.Capture.{begins_ng}
use Rattle.pcapng_io.specs.Captured.{SaysAny, any_captured}
use Rattle.pcapng_io.specs.Limits.{PassesNgLimit, is_cut}
use Rattle.world_io.specs.World.{Shown}
use Rattle.input_files.specs.declared.errors.InputError.{InputError}
use Rattle.input_files.specs.declared.errors.InputError.TheVariants as error
use Rattle.chain_text.specs.ChainScripts.{chain_form}
use Rattle.input_files.specs.Answers.{LinesPass}
use Rattle.input_files.specs.Judging.{JudgesCapture, JudgesChain}
use Rattle.job_commands.specs.declared.status.Status.{Status}
use Rattle.job_commands.specs.declared.status.Status.TheVariants as status
use Rattle.job_commands.specs.Status.{AtInputs, ComesAt, EndsReading, stage_of_limit, of_capture_error}
use Rattle.job_commands.specs.Status.{of_released_error, of_script_error}

abbrev IsOfFile : Limit → Type 0
IsOfFile limit = stage_of_limit limit ≡ AtInputs

file_limit : (b : Bool) → IsOfFile (cond b limit_of.Packets limit_of.File)
file_limit true = refl
file_limit false = refl

savefile_limit : (bytes : List ℕ) (limit : Limit) → PassesLimit bytes limit → IsOfFile limit
savefile_limit bytes limit p = subst IsOfFile (sym p.passed) (file_limit (length p.before == MOST_PACKETS))

ng_limit : (a b : Bool) (limit : Limit) → cond a (Some limit_of.Packets) (cond b (Some limit_of.File) None) ≡ Some limit
    → IsOfFile limit
ng_limit true b limit e = let q : limit_of.Packets ≡ limit = cc in subst IsOfFile q refl
ng_limit false true limit e = let q : limit_of.File ≡ limit = cc in subst IsOfFile q refl
ng_limit false false limit e = absurd (cc)

passed_ng : (bytes : List ℕ) (limit : Limit) → PassesNgLimit bytes limit → IsOfFile limit
passed_ng bytes limit p = ng_limit _ (is_cut p.section.order (MOST_FILE_BYTES - length p.passed) p.rest) limit p.limited

told_limit : (bytes : List ℕ) (limit : Limit) (told : Captured) → captured.TooLarge limit ≡ any_captured told
    → Says bytes told → IsOfFile limit
told_limit bytes limit (savefile.Capture u packets) e h = absurd (cc)
told_limit bytes limit (savefile.Refused fault) e h = absurd (cc)
told_limit bytes limit (savefile.TooLarge other) e h =
    let q : other ≡ limit = cc in subst IsOfFile q (savefile_limit bytes other h)
told_limit bytes limit savefile.ReadFault e h = absurd (cc)
told_limit bytes limit savefile.NoMemory e h = absurd (cc)

capture_limit : (bytes : List ℕ) (limit : Limit) → SaysAny bytes (captured.TooLarge limit) → IsOfFile limit
capture_limit bytes limit h = go (begins_ng bytes) refl
  where
    go : (b : Bool) → begins_ng bytes ≡ b → IsOfFile limit
    go true e = passed_ng bytes limit (h.ng e)
    go false e = let s = h.savefile e in told_limit bytes limit s.0 s.1 s.2

-- each error of a capture comes at the stage of the inputs
pub capture_stage : (healthy : Type 0) (name : List ℕ) (shown : Shown) (e : InputError AnyFault)
    → JudgesCapture healthy name (Err e) shown → ComesAt AtInputs (of_capture_error e)
capture_stage healthy name shown (error.Fault fault) h = inl refl
capture_stage healthy name shown (error.TooLarge limit) h = inl (capture_limit h.0 limit h.2)
capture_stage healthy name shown error.ReadFault h = inl refl
capture_stage healthy name shown error.NoMemory h = inr refl

pub released_stage : (healthy : Type 0) (name : List ℕ) (shown : Shown) (e : InputError AnyFault)
    → JudgesCapture healthy name (Err e) shown → ComesAt AtInputs (of_released_error e)
released_stage healthy name shown (error.Fault fault) h = inl refl
released_stage healthy name shown (error.TooLarge limit) h = inl (capture_limit h.0 limit h.2)
released_stage healthy name shown error.ReadFault h = inl refl
released_stage healthy name shown error.NoMemory h = inr refl

chain_limit : (bytes : List ℕ) (limit : Limit) → LinesPass chain_form bytes limit → IsOfFile limit
chain_limit bytes limit_of.File h = refl
chain_limit bytes limit_of.Packets h = absurd h
chain_limit bytes limit_of.Events h = refl
chain_limit bytes limit_of.Moves h = absurd h
chain_limit bytes limit_of.OutputBytes h = absurd h

-- and each error of the script of a chain
pub chain_stage : (healthy : Type 0) (name : List ℕ) (shown : Shown) (e : InputError LineFault)
    → JudgesChain healthy name (Err e) shown → ComesAt AtInputs (of_script_error e)
chain_stage healthy name shown (error.Fault fault) h = inl refl
chain_stage healthy name shown (error.TooLarge limit) h = inl (chain_limit h.0 limit h.2)
chain_stage healthy name shown error.ReadFault h = inl refl
chain_stage healthy name shown error.NoMemory h = inr refl

-- None of them is of another stage.

pub quiet_words : (s : Status) → s ≡ status.BadWords → EndsReading s → ⊥
quiet_words s e h = subst EndsReading e h

pub quiet_writing : (s : Status) → s ≡ status.WriteFault → EndsReading s → ⊥
quiet_writing s e h = subst EndsReading e h

pub quiet_done : (s : Status) → s ≡ status.Done → EndsReading s → ⊥
quiet_done s e h = subst EndsReading e h
