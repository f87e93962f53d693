use Rattle.std.proofs.Common.{◌≡◌, ℕ, List, [], ◌∷◌, ◌++◌, map, reverse, sym, ap, ◌∙◌, subst, Option}
use Rattle.std.specs.Prelude.{option_to_list}
use mathlib.Core.List.{reverse-cons}
use Rattle.master_core.specs.declared.parts.VarPart.{VarPart}
use Rattle.master_core.specs.declared.parts.ThreadPart.{ThreadPart}
use Rattle.atomic_table.specs.Table.{Me}
use Rattle.var_locks.specs.declared.view.View.{View}
use Rattle.var_locks.specs.Seats.{Seated}
use Rattle.var_locks.specs.Closing.{AreSeats, HasSeats, seat_part, seat_marks}
use Rattle.var_locks.proofs.Gathering.{own_seat, own_marks, joined_seat, seats_stay, last_seat, append_again}
use Rattle.var_locks.proofs.vars.gather.Goals as goal

pub loop-seat-init : goal.loop-seat-init
loop-seat-init g c =
    let x = c.unwrap.result in
    let popped : c.args.seats.items ≡ c.pop.new.self.items ++ x ∷ [] =
    c.pop.ensures.items
    ∙ ap (λ (o : Option (Seated g.row.P-Value.Denot)). c.pop.new.self.items ++ option_to_list o) c.unwrap.ensures in
    let me : Me (VarPart g.row.P-Value.Denot) (View g.row.P-Value.Denot) = c.take_apart-token.result.0.me in
    let kept = c.take_apart-token.ensures.kept in
    let told = c.take_apart-token.ensures.told in (
      c.take_apart-token.ensures.round
          ∙ last_seat c.args.shared.now.table_id 0 c.pop.new.self.items x [] (subst
          (λ (l : List (Seated g.row.P-Value.Denot)). AreSeats c.args.shared.now.table_id 0 l) popped c.requires.seats),
      kept.empty,
      (
        x ∷ [],
        popped,
        c.in_ok-push.ensures.items
            ∙ (ap (λ (l : List ThreadPart). l ++ c.take_apart-token.result.1 ∷ []) c.in_ok-parts.ensures.items
            ∙ (ap (λ (p : ThreadPart). p ∷ []) c.take_apart-token.ensures.part ∙ sym (reverse-cons (seat_part x) []))),
        c.in_ok-push-2.ensures.items
            ∙ (ap (λ (l : List (List (Option ℕ))). l ++ c.from_vec.result ∷ []) c.in_ok-marks.ensures.items
            ∙ (ap (λ (p : List (Option ℕ)). p ∷ []) (c.from_vec.ensures
            ∙ own_marks x c.take_apart-token.result.0.me c.take_apart-token.result.2.items kept told.0 told.1)
            ∙ sym (reverse-cons (seat_marks x) []))),
        (own_seat x c.take_apart-token.result.0.me c.take_apart-token.result.2.items kept told.0 told.1, tt),
      ),
    )

pub join_in-requires-clause-other_table : goal.join_in-requires-clause-other_table
join_in-requires-clause-other_table g c κs within =
    let x = c.in-Some.seat in
    let done = c.loop-seat.invariant.2.0 in
    let all : c.args.seats.items ≡ c.pop-in-loop-seat.new.self.items ++ x ∷ done =
    c.loop-seat.invariant.2.1
    ∙ (ap (λ (l : List (Seated g.row.P-Value.Denot)). l ++ done) c.in-Some.ensures.items
    ∙ append_again c.pop-in-loop-seat.new.self.items x done) in
    c.take_apart-other.ensures.round
    ∙ last_seat c.args.shared.now.table_id 0 c.pop-in-loop-seat.new.self.items x done
    (subst (λ (l : List (Seated g.row.P-Value.Denot)). AreSeats c.args.shared.now.table_id 0 l) all c.requires.seats)

pub loop-seat-preserved : goal.loop-seat-preserved
loop-seat-preserved g c =
    let x = c.in-Some.seat in
    let done = c.loop-seat.invariant.2.0 in
    let kept = c.take_apart-other.ensures.kept in
    let told = c.take_apart-other.ensures.told in
    let w : View g.row.P-Value.Denot = c.loop-seat.token.me.0 in
    let joined = c.join_in.ensures.joined in
    let all : c.args.seats.items ≡ c.pop-in-loop-seat.new.self.items ++ x ∷ done =
    c.loop-seat.invariant.2.1
    ∙ (ap (λ (l : List (Seated g.row.P-Value.Denot)). l ++ done) c.in-Some.ensures.items
    ∙ append_again c.pop-in-loop-seat.new.self.items x done) in (
      c.join_in.ensures.same.0 ∙ c.loop-seat.invariant.0,
      ap (λ (me : Me (VarPart g.row.P-Value.Denot) (View g.row.P-Value.Denot)). me.0.hand) joined
          ∙ c.loop-seat.invariant.1,
      (
        x ∷ done,
        all,
        c.in_ok-push-3.ensures.items
            ∙ (ap (λ (l : List ThreadPart). l ++ c.take_apart-other.result.1 ∷ []) c.loop-seat.invariant.2.2
            ∙ (ap (λ (p : ThreadPart). reverse (map seat_part done) ++ p ∷ []) c.take_apart-other.ensures.part
            ∙ sym (reverse-cons (seat_part x) (map seat_part done)))),
        c.in_ok-push-4.ensures.items
            ∙ (ap (λ (l : List (List (Option ℕ))). l ++ c.from_vec-in-Some.result ∷ []) c.loop-seat.invariant.2.3
            ∙ (ap (λ (p : List (Option ℕ)). reverse (map seat_marks done) ++ p ∷ []) (c.from_vec-in-Some.ensures
            ∙ own_marks x c.take_apart-other.result.0.me c.take_apart-other.result.2.items kept told.0 told.1)
            ∙ sym (reverse-cons (seat_marks x) (map seat_marks done)))),
        subst (λ (me : Me (VarPart g.row.P-Value.Denot) (View g.row.P-Value.Denot)). HasSeats me.0 (x ∷ done))
            (sym joined) (
              joined_seat x c.take_apart-other.result.0.me c.take_apart-other.result.2.items kept told.0 told.1
                  c.loop-seat.token.me.0,
              seats_stay c.loop-seat.token.me.0 c.take_apart-other.result.0.me.0 done c.loop-seat.invariant.2.4,
            ),
      ),
    )
