use Rattle.round_events.proofs.Blocked.{blocked_stuck, below, not_made, held_up}
use Rattle.round_events.proofs.laws.blocked_seats_are_held_up.Goals as goal

pub returns : goal.returns
returns g c =
    let m = g.P.Program.meaning c.args.program.now in
    let fits = g.P.Program.fits c.args.program.now in record {
      blocked = λ m guide old new u k b. blocked_stuck m guide old new u k b;
      ended = λ m guide x e stuck. record {
        read = stuck.read;
        place = stuck.place;
        readers = stuck.readers;
        hand = stuck.hand;
        next = stuck.next;
        waits = stuck.waits;
        missed = stuck.missed;
      };
      closed = λ guide p q round seats inputs moves past x e closed are c among stuck. (
        below m fits guide p q round seats inputs moves past x e closed are c among stuck,
        not_made m fits guide p q round seats inputs moves past x e closed are c among stuck,
        held_up m fits guide p q round seats inputs moves past x e closed are c among stuck,
      );
    }
