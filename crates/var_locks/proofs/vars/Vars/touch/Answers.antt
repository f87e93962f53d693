use Rattle.std.proofs.Common.{◌≡◌, ℕ, sym, ap, ◌∙◌, subst, Bool, false, List, Option}
use Rattle.atomic_table.specs.Seated.{TableId}
use Rattle.var_locks.specs.Seats.{Seated, IsKept, first_notes}
use Rattle.var_locks.specs.declared.touching.Access.{Access}
use Rattle.var_locks.specs.TouchedParts.{ComesOf, Touches}
use Rattle.var_locks.proofs.TouchedSeats.{comes_touches}
use Rattle.var_locks.proofs.vars.Vars.touch.Goals as goal

pub returns : goal.returns
returns g c =
    let m = g.P.Program.meaning c.args.program.now in
    let i = c.seat.inside in
    let now = c.touch_on-touched.new in
    let r = c.touch_on-touched.result in
    let going : i.ended ≡ false = ap (λ (s : Seated g.row.P-Value.Denot). s.ended) c.seat.view_is ∙ c.requires.going in
    let kept =
    subst (λ (l : List (Option ℕ)). IsKept i.token.me i.thread i.part i.seen.items l false)
    (sym c.reserve.ensures.items)
    (subst (λ (b : Bool). IsKept i.token.me i.thread i.part i.seen.items i.marks.items b) going c.seat.invariant) in
    let a : Access = record {
      thread = i.thread;
      var = c.in-Some.access.var;
      read = c.in-Some.access.read;
      place = c.unwrap-place.result;
    } in
    let k = subst (λ (z : Access). ComesOf m g.J.Round.guide z i.part now.part i.token.me now.token.me r)
    c.in-Some.ensures.access c.touch_on-touched.ensures.comes in
    let touches = comes_touches i.token.me a i.part i.seen.items c.reserve.new.self.items kept k.0 m g.J.Round.guide
    now.part now.token.me i.token.table_id k.1 r k.2 in
    record {
      touches = subst (λ (s : Seated g.row.P-Value.Denot). Touches m g.J.Round.guide s (record {
        thread = i.thread;
        part = now.part;
        notes = first_notes now.token.me.0.shares;
        seen = c.see.new.seen.items;
        missing = now.token.me.0.missing;
        ended = i.ended;
        round = now.token.table_id;
      }) c.touch_on-touched.result) c.seat.view_is (subst (λ (t : TableId). Touches m g.J.Round.guide (record {
        thread = i.thread;
        part = i.part;
        notes = first_notes i.token.me.0.shares;
        seen = i.seen.items;
        missing = i.token.me.0.missing;
        ended = i.ended;
        round = i.token.table_id;
      }) (record {
        thread = i.thread;
        part = now.part;
        notes = first_notes now.token.me.0.shares;
        seen = c.see.new.seen.items;
        missing = now.token.me.0.missing;
        ended = i.ended;
        round = t;
      }) c.touch_on-touched.result) (sym c.touch_on-touched.ensures.same.0)
          (subst (λ (b : Bool). Touches m g.J.Round.guide (record {
            thread = i.thread;
            part = i.part;
            notes = first_notes i.token.me.0.shares;
            seen = i.seen.items;
            missing = i.token.me.0.missing;
            ended = b;
            round = i.token.table_id;
          }) (record {
            thread = i.thread;
            part = now.part;
            notes = first_notes now.token.me.0.shares;
            seen = c.see.new.seen.items;
            missing = now.token.me.0.missing;
            ended = b;
            round = i.token.table_id;
          }) c.touch_on-touched.result) (sym going) (subst (λ (l : List ℕ). Touches m g.J.Round.guide (record {
            thread = i.thread;
            part = i.part;
            notes = first_notes i.token.me.0.shares;
            seen = i.seen.items;
            missing = i.token.me.0.missing;
            ended = false;
            round = i.token.table_id;
          }) (record {
            thread = i.thread;
            part = now.part;
            notes = first_notes now.token.me.0.shares;
            seen = l;
            missing = now.token.me.0.missing;
            ended = false;
            round = i.token.table_id;
          }) c.touch_on-touched.result) (sym c.see.ensures) touches)));
    }
