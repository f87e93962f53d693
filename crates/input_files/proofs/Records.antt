-- What was read of a capture: its packets are ones that records can have, and what is said of its bytes is said of its
-- file.
use Rattle.std.proofs.Common.{◌≡◌, ℕ, zero, suc, List, [], ◌∷◌, refl, arith, Result, Ok, Err}
use Rattle.std.specs.Prelude.{All}
use Rattle.plain_text.specs.Packets.{IsShort}
use Rattle.plain_text.specs.declared.limit.Limit.{Limit}
use Rattle.plain_text.specs.declared.packet.Packet.{Packet}
use Rattle.pcap_io.specs.Capture.{AreRecorded}
use Rattle.pcapng_io.specs.declared.fault.AnyFault.{AnyFault}
use Rattle.world_io.specs.World.{Shown}
use Rattle.input_files.specs.declared.capture_file.Capture.{Capture}
use Rattle.input_files.specs.declared.errors.InputError.{InputError}
use Rattle.input_files.specs.declared.errors.InputError.TheVariants as error
use Rattle.input_files.specs.Answers.{SaysCapture}
use Rattle.input_files.specs.Judging.{IsToldOf, JudgesCapture}

pub are_short : (packets : List Packet) → AreRecorded packets → All IsShort packets
are_short [] r k d h = absurd (omega arith)
are_short (p ∷ ps) r zero d h = r.0.captured
are_short (p ∷ ps) r (suc k) d h = are_short ps r.1 k d (omega arith)

-- reading did not fail
abbrev IsRead : Result Capture (InputError AnyFault) → Type 0
IsRead r = ¬ (r ≡ Err error.ReadFault)

accepted : (capture : Capture) → IsRead (Ok capture)
accepted capture e = cc

refused : (fault : AnyFault) → IsRead (Err (error.Fault fault))
refused fault e = cc

too_large : (passed : Limit) → IsRead (Err (error.TooLarge passed))
too_large passed e = cc

-- what is said of the bytes of a capture is said of the file of its name, unless reading fails, as in a healthy world
-- it does not
pub capture_judged : (healthy : Type 0) (name : List ℕ) (shown : Shown) (r : Result Capture (InputError AnyFault))
    → (IsRead r → IsToldOf name (λ bytes. SaysCapture bytes r) shown) → (healthy → IsRead r)
    → JudgesCapture healthy name r shown
capture_judged healthy name shown (Ok capture) told never = told (accepted capture)
capture_judged healthy name shown (Err (error.Fault fault)) told never = told (refused fault)
capture_judged healthy name shown (Err (error.TooLarge passed)) told never = told (too_large passed)
capture_judged healthy name shown (Err error.ReadFault) told never = λ ok. absurd (never ok refl)
capture_judged healthy name shown (Err error.NoMemory) told never = tt
