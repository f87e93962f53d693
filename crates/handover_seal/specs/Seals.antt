-- Sealed texts of a handover: a line in front of the text names the box file and the packets that were fed, by their
-- digests (SHA-256), and who goes on from the text compares them with his own.
use Rattle.std.specs.Prelude.{◌≡◌, ℕ, ◌==◌, ◌++◌, List, [], ◌∷◌, codes, Bool, true, if◌then◌else◌, take, Option, Some}
use Rattle.std.specs.Prelude.{None}
use Rattle.std.specs.List.{starts_with}
use Rattle.hex.specs.Hex.{encode_lower}
use Rattle.plain_text.specs.declared.packet.Packet.{Packet}
use Rattle.plain_text.specs.declared.packet.Unit.{Unit as TimeUnit}
use Rattle.handover_seal.specs.declared.seal.Seal.{Seal}
use Rattle.handover_seal.specs.declared.seal.SealFault.{SealFault}
use Rattle.handover_seal.specs.declared.seal.SealFault.TheVariants.{OtherBox, OtherCapture}
use Rattle.handover_seal.specs.declared.seals.Seals.{Seals}
use Rattle.handover_seal.specs.Packets.{AreFirstDigests, packets_digest}

-- The line

-- a sealed text begins with this
abbrev pub heading : List ℕ
heading = codes "handover 2 "

-- the line as far as it names the box file
abbrev pub front_line : List ℕ → List ℕ
front_line box_file = heading ++ encode_lower box_file ++ codes " "

-- the whole line, with its line feed
abbrev pub seal_line : Seal → List ℕ
seal_line seal = front_line seal.box_file ++ encode_lower seal.packets ++ 10 ∷ []

abbrev pub sealed_text : Option Seal → List ℕ → List ℕ
sealed_text None text = text
sealed_text (Some seal) text = seal_line seal ++ text

-- Opening

abbrev pub is_sealed : List ℕ → Bool
is_sealed text = starts_with ◌==◌ text heading

-- a text from its first line feed on
abbrev pub after_line : List ℕ → List ℕ
after_line [] = []
after_line (byte ∷ rest) = if byte == 10 then byte ∷ rest else after_line rest

-- What stands after the line of a seal. The line feed stays: the first line is empty, so that the others keep their
-- numbers.
abbrev pub unsealed : List ℕ → List ℕ
unsealed text = if is_sealed text then after_line text else text

-- Comparing

-- the seal of a box whose file has this digest, after this many of the packets; none where the box is not sealed
abbrev pub seal_after : Option (List ℕ) → TimeUnit → List Packet → ℕ → Option Seal
seal_after None unit packets fed = None
seal_after (Some box_file) unit packets fed =
    Some (record { box_file = box_file; packets = packets_digest unit (take fed packets) })

-- why a text is not one of this seal
abbrev pub seal_fault : Option Seal → List ℕ → Option SealFault
seal_fault None text = if is_sealed text then Some OtherBox else None
seal_fault (Some seal) text =
    if starts_with ◌==◌ text (front_line seal.box_file)
    then if starts_with ◌==◌ text (seal_line seal) then None else Some OtherCapture
    else Some OtherBox

-- a text is one of this seal: it is not sealed where there is none, and else it begins with the line of the seal
abbrev pub IsOfSeal : Option Seal → List ℕ → Type 0
IsOfSeal None text = ¬ (is_sealed text ≡ true)
IsOfSeal (Some seal) text = (rest : List ℕ) × (text ≡ seal_line seal ++ rest)

-- the seals of a box whose file has this digest, after each count of the packets
abbrev pub AreSeals : Option (List ℕ) → TimeUnit → List Packet → Seals → Type 0
AreSeals None unit packets seals = seals.box_file ≡ None
AreSeals (Some box_file) unit packets seals =
    (seals.box_file ≡ Some box_file) × AreFirstDigests unit packets seals.packets
