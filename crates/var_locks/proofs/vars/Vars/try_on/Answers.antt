use Rattle.std.proofs.Common.{◌≡◌, ℕ, ◌+◌, ◌/◌, refl, sym, ap, ◌∙◌, subst, []}
use Rattle.master_core.specs.declared.parts.VarPart.{VarPart}
use Rattle.atomic_table.specs.Table.{Me}
use Rattle.var_locks.specs.declared.view.View.{View}
use Rattle.var_locks.specs.Views.{empty_hand, missed_view}
use Rattle.var_locks.specs.TouchedParts.{HasTaken, missed_at}
use Rattle.var_locks.specs.Told.{WasGoingOf}
use Rattle.var_locks.proofs.Turning.{half, here, passes}
use Rattle.var_locks.proofs.vars.Vars.try_on.Goals as goal

pub readers_of-readers-requires-clause-slot : goal.readers_of-readers-requires-clause-slot
readers_of-readers-requires-clause-slot g c κs within = (
  c.requires.taken.0,
  ap (λ (me : Me (VarPart g.row.P-Value.Denot) (View g.row.P-Value.Denot)). me.1) c.requires.taken.1.token,
)

pub go_on-requires-clause-taken : goal.go_on-requires-clause-taken
go_on-requires-clause-taken g c κs within =
    let x = c.requires.taken.0 in
    let h = c.requires.taken.1 in
    let slots = ap (λ (me : Me (VarPart g.row.P-Value.Denot) (View g.row.P-Value.Denot)). me.1) h.token in (
      x,
      subst (λ (me : Me (VarPart g.row.P-Value.Denot) (View g.row.P-Value.Denot)).
          HasTaken g.P.Program.fits g.row.P.coded g.J.Round.program c.args.access c.args.word c.args.part.now me x)
          (sym c.readers_of-readers.ensures.stays) h,
      passes c.args.setting.now.guide.now g.J.Round.guide c.requires.guide c.args.access.thread
          (c.args.part.now.counts.entries + 1) c.args.access.var c.args.access.read (c.args.word / 2)
          c.readers_of-readers.result x (half x.places c.args.word h.finds.word_is)
          (c.readers_of-readers.ensures.readers x slots) c.in_default.ensures.goes,
    )

pub wait_on-requires-clause-waits : goal.wait_on-requires-clause-waits
wait_on-requires-clause-waits g c κs within =
    let x = c.requires.taken.0 in
    let h = c.requires.taken.1 in
    let same = c.readers_of-readers.ensures.stays ∙ h.token in
    let slots = ap (λ (me : Me (VarPart g.row.P-Value.Denot) (View g.row.P-Value.Denot)). me.1) h.token in (
      x,
      c.args.access.thread,
      c.args.part.now.counts.entries + 1,
      c.args.access.read,
      record {
        hand = ap (λ (me : Me (VarPart g.row.P-Value.Denot) (View g.row.P-Value.Denot)). me.0.hand) same;
        places_are = half x.places c.args.word h.finds.word_is;
        waits = here c.args.setting.now.guide.now g.J.Round.guide c.requires.guide c.args.access.thread
            (c.args.part.now.counts.entries + 1) c.args.access.var c.args.access.read (c.args.word / 2)
            c.readers_of-readers.result x (half x.places c.args.word h.finds.word_is)
            (c.readers_of-readers.ensures.readers x slots) c.in-Some.thread c.in-Some.number c.in-Some.ensures.waits;
      },
      ap (λ (me : Me (VarPart g.row.P-Value.Denot) (View g.row.P-Value.Denot)). me.1) same,
      sym h.finds.word_is,
    )

pub returns-then-wait_on-clause-comes : goal.returns-then-wait_on-clause-comes
returns-then-wait_on-clause-comes g c =
    let x = c.requires.taken.0 in
    let h = c.requires.taken.1 in
    let slots = ap (λ (me : Me (VarPart g.row.P-Value.Denot) (View g.row.P-Value.Denot)). me.1) h.token in
    let places : c.args.word / 2 ≡ x.places = half x.places c.args.word h.finds.word_is in record {
      found = x;
      slots = slots;
      wanted = c.requires.wanted;
      waits = here c.args.setting.now.guide.now g.J.Round.guide c.requires.guide c.args.access.thread
          (c.args.part.now.counts.entries + 1) c.args.access.var c.args.access.read (c.args.word / 2)
          c.readers_of-readers.result x places (c.readers_of-readers.ensures.readers x slots) c.in-Some.thread
          c.in-Some.number c.in-Some.ensures.waits;
      token =
          c.wait_on.ensures.missing c.if-wait_on.true
          ∙ (ap (λ (me : Me (VarPart g.row.P-Value.Denot) (View g.row.P-Value.Denot)).
          let r : Me (VarPart g.row.P-Value.Denot) (View g.row.P-Value.Denot) = (
            empty_hand (missed_view me.0
                (missed_at c.in-Some.thread c.in-Some.number c.args.access.var (c.args.word / 2))),
            [],
          ) in
          r) c.readers_of-readers.ensures.stays
          ∙ ap (λ (n : ℕ).
          let r : Me (VarPart g.row.P-Value.Denot) (View g.row.P-Value.Denot) = (
            empty_hand (missed_view c.args.token.now.me.0
                (missed_at c.in-Some.thread c.in-Some.number c.args.access.var n)),
            [],
          ) in
          r) places);
      part = refl;
    }

pub returns-clause-at_work : goal.returns-clause-at_work
returns-clause-at_work g c =
    let x = c.requires.taken.0 in
    let h = c.requires.taken.1 in
    let slots = ap (λ (me : Me (VarPart g.row.P-Value.Denot) (View g.row.P-Value.Denot)). me.1) h.token in
    let places : c.args.word / 2 ≡ x.places = half x.places c.args.word h.finds.word_is in (
      x,
      c.in-Some.thread,
      c.in-Some.number,
      record {
        slots = slots;
        waits = here c.args.setting.now.guide.now g.J.Round.guide c.requires.guide c.args.access.thread
            (c.args.part.now.counts.entries + 1) c.args.access.var c.args.access.read (c.args.word / 2)
            c.readers_of-readers.result x places (c.readers_of-readers.ensures.readers x slots) c.in-Some.thread
            c.in-Some.number c.in-Some.ensures.waits;
        going = λ low. subst (λ (me : Me (VarPart g.row.P-Value.Denot) (View g.row.P-Value.Denot)).
            WasGoingOf g.P.Program.meaning g.P.Program.fits g.row.P.coded g.row.P-Value.coded g.J.Round.program
            g.J.Round.opening g.J.Round.guide me.0 c.in-Some.thread) c.readers_of-readers.ensures.stays
            (c.wait_on.ensures.at_work c.if-wait_on.false low);
      },
    )
