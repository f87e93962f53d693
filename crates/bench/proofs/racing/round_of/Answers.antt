use Rattle.std.proofs.Common.{ℕ, ◌<◌, true, List, length, slice_index_or, All, sym, ap, subst, ◌∙◌, arith}
use Rattle.std.proofs.lemmas.Result.{IfOk-weaker}
use Rattle.std.proofs.lemmas.List.{length-map}
use Rattle.var_locks.specs.Seats.{Seated}
use Rattle.var_locks.specs.Closing.{seat_part}
use Rattle.bench.specs.Racing.{IsGoing, Stays}
use Rattle.bench.proofs.Staying.{fresh_count, fresh_go, ended_are}
use Rattle.bench.proofs.racing.round_of.Goals as goal

pub run_all-requires-clause-seats : goal.run_all-requires-clause-seats
run_all-requires-clause-seats g c κs within =
    let vars = c.in_ok-vars.vars in
    let count = c.in_ok-vars.ensures.vars.threads_are in
    let parts = ap length c.in_ok-vars.ensures.threads in
    subst (λ (l : List (Seated g.row.P-Value.Denot)). All (IsGoing vars) l) (sym c.in_ok-vars.ensures.seats)
    (fresh_go vars g.J.Round.places 0 g.J.Round.threads (omega (arith, count, parts)))

pub close-requires-clause-count : goal.close-requires-clause-count
close-requires-clause-count g c κs within =
    c.in_ok-seats.ensures.count ∙ ap length c.in_ok-vars.ensures.seats
    ∙ fresh_count g.row.P-Value.Denot c.in_ok-vars.vars.round g.J.Round.places 0 g.J.Round.threads
    ∙ sym (ap length c.in_ok-vars.ensures.threads) ∙ sym c.in_ok-vars.ensures.vars.threads_are

pub close-requires-clause-seats : goal.close-requires-clause-seats
close-requires-clause-seats g c κs within =
    let round = c.in_ok-vars.vars.round in
    let ended = c.in_ok-seats.seats.items in
    ended_are round g.J.Round.places 0 g.J.Round.threads ended
    (c.in_ok-seats.ensures.count
    ∙ ap length c.in_ok-vars.ensures.seats
    ∙ fresh_count g.row.P-Value.Denot round g.J.Round.places 0 g.J.Round.threads)
    (subst (λ (l : List (Seated g.row.P-Value.Denot)).
    (i : ℕ) (d : Seated g.row.P-Value.Denot) → i < length l
    → Stays true (slice_index_or l i d) (slice_index_or ended i d)) c.in_ok-vars.ensures.seats
    c.in_ok-seats.ensures.each)

pub returns : goal.returns
returns g c =
    let round = c.in_ok-vars.vars.round in
    let count =
    c.in_ok-seats.ensures.count
    ∙ ap length c.in_ok-vars.ensures.seats
    ∙ fresh_count g.row.P-Value.Denot round g.J.Round.places 0 g.J.Round.threads in
    record {
      threads = IfOk-weaker c.close.result _ _
          (λ q closed.
          ap length closed.threads ∙ length-map c.in_ok-seats.seats.items seat_part ∙ count
          ∙ sym (ap length c.requires.threads))
          (c.close.ensures.closed c.args.master c.requires.master c.requires.threads);
    }
