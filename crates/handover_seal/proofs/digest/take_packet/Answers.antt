use Rattle.std.proofs.Common.{◌≡◌, ◌++◌, ◌∙◌, List, ℕ, append_assoc, ap, length, subst}
use Rattle.std.specs.Int.{to_be_bytes, w32, w64}
use Rattle.sha2.specs.Hashers.{Holds256}
use Rattle.handover_seal.proofs.Hashed.{five}
use Rattle.handover_seal.proofs.digest.take_packet.Goals as goal

pub returns : goal.returns
returns c = λ text h.
    let p = c.args.packet.now in
    let one = c.update.ensures text h in
    let two = c.update-2.ensures _ one in
    let three = c.update-3.ensures _ two in
    let four = c.update-4.ensures _ three in
    subst (Holds256 c.update-5.new.self)
    (five text (to_be_bytes w32 p.seconds) (to_be_bytes w32 p.fraction) (to_be_bytes w32 p.original)
    (to_be_bytes w64 (length p.bytes)) p.bytes) (rw (
      c.to_be_bytes.ensures,
      c.to_be_bytes-2.ensures,
      c.to_be_bytes-3.ensures,
      c.to_be_bytes-4.ensures,
      c.len.ensures,
      c.as_slice.ensures,
    ) at (c.update-5.ensures _ four))
