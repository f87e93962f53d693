use Rattle.std.proofs.Common.{◌≡◌, ◌&&◌, false, sym, ap, ◌∙◌, arith}
use Rattle.pcapng_io.specs.Limits.{shows_packet}
use Rattle.pcapng_io.proofs.Frames.{and_false, head_packets, head_file}
use Rattle.pcapng_io.proofs.place.Place.judge_head.Goals as goal
use Rattle.pcapng_io.proofs.place.Place.judge_head.Goals.{else-self-via-then-self+else-shows_packet}
use Rattle.pcapng_io.proofs.place.Place.judge_head.Goals.{else-self-via-else-self}

pub returns-then-shows_packet-clause-stops : goal.returns-then-shows_packet-clause-stops
returns-then-shows_packet-clause-stops c = λ more ends.
    head_packets c.args.self c.args.head.now more ends c.if-self.true
    (sym c.shows_packet.ensures ∙ c.if-shows_packet.true)

pub returns-then-head-self-clause-stops : goal.returns-then-head-self-clause-stops
returns-then-head-self-clause-stops c = λ more ends.
    let few : c.args.self.full && shows_packet c.args.self.order c.args.self.room c.args.head.now ≡ false = elim
    c.else-self.branch [
      | else-self-via-then-self+else-shows_packet w ↦
          and_false c.args.self.full _ (sym w.shows_packet.ensures ∙ w.if-shows_packet.false)
      | else-self-via-else-self w ↦
          ap (λ b. b && shows_packet c.args.self.order c.args.self.room c.args.head.now) w.if-self.false
    ] in
    head_file c.args.self c.args.head.now more ends few (omega arith) (omega arith)
