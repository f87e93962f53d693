use Rattle.std.proofs.Common.{rules, ◌≡◌, refl, sym, ap, ◌∙◌, subst, ℕ, ◌+◌, List, ◌++◌, ◌∷◌, [], take, drop, arith}
use Rattle.std.specs.Prelude.{slice_index_or}
use Rattle.master_core.specs.declared.parts.VarPart.{VarPart}
use Rattle.master_core.specs.declared.parts.ThreadPart.{ThreadPart}
use Rattle.atomic_table.specs.Table.{Me}
use Rattle.atomic_table.specs.Seated.{TableId}
use Rattle.var_locks.specs.declared.view.View.{View}
use Rattle.var_locks.specs.Seats.{Seated, IsCounted}
use Rattle.var_locks.specs.Views.{fresh_shares, first_share, other_shares}
use Rattle.var_locks.specs.Openings.{rest_view, fresh_seat, fresh_seats}
use Rattle.var_locks.proofs.Beginning.{fresh_part}
use Rattle.var_locks.proofs.Freshness.{parts_from, seats_next}
use Rattle.var_locks.proofs.opening.seat_all.Goals as goal

pub split_off-own-requires-clause-first : goal.split_off-own-requires-clause-first
split_off-own-requires-clause-first g c κs within =
    let t : ℕ = c.loop-thread.thread in
    let inv = c.loop-thread.invariant in (
      record {
        thread = t;
        notes = [];
        part = slice_index_or c.args.parts.now t fresh_part;
        ended = Rattle.std.proofs.Common.false;
      },
      fresh_shares (t + 1) (drop (t + 1) c.args.parts.now),
      ap (λ (me : Me (VarPart g.row.P-Value.Denot) (View g.row.P-Value.Denot)). me.0.shares) inv.1
          ∙ ap (λ (l : List ThreadPart). fresh_shares {V = g.row.P-Value.Denot} t l)
          (parts_from c.args.parts.now t fresh_part c.loop-thread-test.true),
      ap (λ (me : Me (VarPart g.row.P-Value.Denot) (View g.row.P-Value.Denot)). me.0.hand) inv.1,
    )

pub fresh-requires-clause-view : goal.fresh-requires-clause-view
fresh-requires-clause-view g c κs within =
    let t : ℕ = c.loop-thread.thread in
    let inv = c.loop-thread.invariant in
    let part : ThreadPart = c.index-parts-thread.result in
    let is_parts : drop t c.args.parts.now ≡ part ∷ drop (t + 1) c.args.parts.now =
    parts_from c.args.parts.now t part c.loop-thread-test.true
    ∙ ap (λ (x : ThreadPart). x ∷ drop (t + 1) c.args.parts.now) (sym c.index-parts-thread.is) in
    ap (λ (me : Me (VarPart g.row.P-Value.Denot) (View g.row.P-Value.Denot)). me.0) c.split_off-own.ensures.first
    ∙ (ap (λ (me : Me (VarPart g.row.P-Value.Denot) (View g.row.P-Value.Denot)). first_share me.0) inv.1
    ∙ (ap (λ (l : List ThreadPart). first_share {V = g.row.P-Value.Denot} (rest_view t l c.args.places.now)) is_parts
    ∙ ap (λ (s : List ℕ). rest_view {V = g.row.P-Value.Denot} t (part ∷ []) s) (sym c.in_ok-seen.ensures.items)))

pub fresh-requires-clause-counted : goal.fresh-requires-clause-counted
fresh-requires-clause-counted g c κs within =
    let part : ThreadPart = c.index-parts-thread.result in
    subst (λ (x : ThreadPart). IsCounted x) (sym c.index-parts-thread.is)
    (c.requires.counted c.loop-thread.thread part c.loop-thread-test.true)

pub fresh-requires-clause-slots : goal.fresh-requires-clause-slots
fresh-requires-clause-slots g c κs within =
    ap (λ (me : Me (VarPart g.row.P-Value.Denot) (View g.row.P-Value.Denot)). me.1) c.split_off-own.ensures.first

pub loop-thread-preserved : goal.loop-thread-preserved
loop-thread-preserved g c =
    let t : ℕ = c.loop-thread.thread in
    let inv = c.loop-thread.invariant in
    let part : ThreadPart = c.index-parts-thread.result in
    let round : TableId = c.args.shared.now.table_id in
    let places : List ℕ = c.args.places.now in
    let is_parts : drop t c.args.parts.now ≡ part ∷ drop (t + 1) c.args.parts.now =
    parts_from c.args.parts.now t part c.loop-thread-test.true
    ∙ ap (λ (x : ThreadPart). x ∷ drop (t + 1) c.args.parts.now) (sym c.index-parts-thread.is) in
    let zero_more : t ≡ 0 + t = omega arith in
    let one : c.fresh.result ≡ fresh_seat round places (0 + t) (slice_index_or c.args.parts.now t part) =
    c.fresh.ensures
    ∙ (ap (λ (r : TableId). fresh_seat {V = g.row.P-Value.Denot} r c.in_ok-seen.seen.items t part)
    (c.split_off-own.ensures.round ∙ inv.0)
    ∙ (ap (λ (s : List ℕ). fresh_seat {V = g.row.P-Value.Denot} round s t part) c.in_ok-seen.ensures.items
    ∙ (ap (λ (k : ℕ). fresh_seat {V = g.row.P-Value.Denot} round places k part) zero_more
    ∙ ap (λ (x : ThreadPart). fresh_seat {V = g.row.P-Value.Denot} round places (0 + t) x)
    c.index-parts-thread.is))) in (
      c.split_off-own.ensures.same.0 ∙ inv.0,
      c.split_off-own.ensures.others
          ∙ (ap (λ (me : Me (VarPart g.row.P-Value.Denot) (View g.row.P-Value.Denot)).
          let r : Me (VarPart g.row.P-Value.Denot) (View g.row.P-Value.Denot) = (other_shares me.0, me.1) in r) inv.1
          ∙ ap (λ (l : List ThreadPart).
          let r : Me (VarPart g.row.P-Value.Denot) (View g.row.P-Value.Denot) =
          (other_shares (rest_view t l places), []) in
          r) is_parts),
      c.in_ok-push.ensures.items
          ∙ (ap (λ (l : List (Seated g.row.P-Value.Denot)). l ++ c.fresh.result ∷ []) inv.2
          ∙ (ap (λ (x : Seated g.row.P-Value.Denot). fresh_seats round places 0 (take t c.args.parts.now) ++ x ∷ []) one
          ∙ sym (seats_next round places 0 c.args.parts.now t part c.loop-thread-test.true))),
    )
