use Rattle.std.proofs.Common.{◌<◌, ◌^◌, refl, sym, ap, ◌∙◌, subst}
use Rattle.std.specs.Prelude.{option_copied}
use Rattle.master_core.specs.Mastered.{moves_made}
use Rattle.var_locks.specs.Notes.{IsOwn, IsGuided, own_note}
use Rattle.var_locks.specs.Seats.{Seated, share_of}
use Rattle.var_locks.proofs.Insides.{round_inside}
use Rattle.var_locks.proofs.vars.Vars.keep.Goals as goal

pub note_move-requires-clause-of : goal.note_move-requires-clause-of
note_move-requires-clause-of g c κs within = round_inside c.self.view_is c.requires.of

pub note_move-requires-clause-next : goal.note_move-requires-clause-next
note_move-requires-clause-next g c κs within =
    let i = c.seat.inside in
    let is = sym c.seat.view_is in (
      share_of i.token.me.0 i.thread i.part i.ended,
      record {
        next = record {
          alone = c.seat.invariant.alone;
          going = ap (λ (s : Seated g.row.P-Value.Denot). s.ended) c.seat.view_is ∙ c.requires.seat.going;
          before = refl;
          guided = subst (λ (s : Seated g.row.P-Value.Denot). IsGuided {V = g.row.P-Value.Denot} g.J.Round.guide
              s.thread (own_note s.part c.args.after c.args.trace (option_copied c.args.input))) is c.requires.guided;
          room = subst (λ (s : Seated g.row.P-Value.Denot). moves_made s.part < 2 ^ 56) is c.requires.seat.room;
        };
        empty = c.seat.invariant.empty;
        own = subst (λ (s : Seated g.row.P-Value.Denot). IsOwn (g.P.Program.meaning c.args.program.now) s.thread
            (own_note s.part c.args.after c.args.trace (option_copied c.args.input))) is c.requires.own;
      },
    )
