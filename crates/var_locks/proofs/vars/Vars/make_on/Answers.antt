use Rattle.std.proofs.Common.{ℕ, sym, ap, ◌∙◌, subst, [], false, arith}
use Rattle.access_log.specs.declared.entry.StampedEntry.{StampedEntry}
use Rattle.master_core.specs.declared.parts.VarPart.{VarPart}
use Rattle.master_core.specs.declared.step.Trace.TheVariants as trace
use Rattle.atomic_table.specs.Table.{Me}
use Rattle.var_locks.specs.declared.view.View.{View}
use Rattle.var_locks.specs.Views.{note_on, noted_view}
use Rattle.var_locks.specs.Rounds.{MayBring}
use Rattle.var_locks.specs.Seats.{share_of}
use Rattle.var_locks.proofs.Insides.{round_inside}
use Rattle.var_locks.proofs.Bringing.{may_bring, made_on}
use Rattle.var_locks.proofs.vars.Vars.make_on.Goals as goal

pub work-worked-requires-clause-slot : goal.work-worked-requires-clause-slot
work-worked-requires-clause-slot g c κs within =
    let h = c.requires.taken.1 in (
      c.requires.taken.0,
      ap (λ (me : Me (VarPart g.row.P-Value.Denot) (View g.row.P-Value.Denot)). me.1) h.token,
      h.finds.few,
      h.finds.fit c.args.setting.now.program.now (round_inside c.self.view_is c.requires.of).is,
    )

pub word_after-home-requires : goal.word_after-home-requires
word_after-home-requires g c =
    let h = c.requires.taken.1 in let a = h.finds.word_is in let b = h.finds.few in omega (arith, a, b)

pub bring_home-requires-clause-next : goal.bring_home-requires-clause-next
bring_home-requires-clause-next g c κs within =
    let h = c.requires.taken.1 in
    let x = c.requires.taken.0 in
    let slots = ap (λ (me : Me (VarPart g.row.P-Value.Denot) (View g.row.P-Value.Denot)). me.1) h.token in
    let works = c.in-Ok.ensures.worked x slots in
    let view =
    c.work-worked.ensures.view
    ∙ ap (λ (me : Me (VarPart g.row.P-Value.Denot) (View g.row.P-Value.Denot)). me.0) h.token in (
      share_of h.before c.args.access.thread c.args.part.now false,
      works.0,
      x,
      c.args.access.place,
      c.in-Ok.entry,
      works.1,
      subst (λ (e : StampedEntry). MayBring (g.P.Program.meaning c.args.setting.now.program.now)
          (g.P.Program.fits c.args.setting.now.program.now) g.J.Round.guide c.work-worked.new.token.me.0
          c.args.access.var c.word_after-home.result works.0
          (share_of h.before c.args.access.thread c.args.part.now false)
          (note_on c.args.part.now c.work-worked.new.part (trace.Did e) c.work-worked.new.token.me.0) x
          c.args.access.place c.in-Ok.entry) (sym c.copied.ensures)
          (subst (λ (k : ℕ). MayBring (g.P.Program.meaning c.args.setting.now.program.now)
          (g.P.Program.fits c.args.setting.now.program.now) g.J.Round.guide c.work-worked.new.token.me.0
          c.args.access.var k works.0 (share_of h.before c.args.access.thread c.args.part.now false)
          (note_on c.args.part.now c.work-worked.new.part (trace.Did c.in-Ok.entry) c.work-worked.new.token.me.0) x
          c.args.access.place c.in-Ok.entry) (sym c.word_after-home.ensures)
          (may_bring (g.P.Program.meaning c.args.setting.now.program.now)
          (g.P.Program.fits c.args.setting.now.program.now) (g.met.P.Program.lawful c.args.setting.now.program.now)
          g.J.Round.guide c.args.access.thread c.args.access.var c.args.word c.args.part.now c.work-worked.new.part
          c.args.access.place x works.0 c.in-Ok.entry h.before c.requires.wanted.hand
          (h.finds.fit c.args.setting.now.program.now (round_inside c.self.view_is c.requires.of).is) h.finds.word_is
          c.args.access.read c.requires.wanted.next works.2 c.requires.taken.2 h.alone c.requires.room
          c.work-worked.new.token.me.0 view)),
    )

pub give_back-requires-clause-found : goal.give_back-requires-clause-found
give_back-requires-clause-found g c κs within =
    let h = c.requires.taken.1 in
    let same = c.in_default.ensures.left.1 ∙ h.token in (
      c.requires.taken.0,
      ap (λ (me : Me (VarPart g.row.P-Value.Denot) (View g.row.P-Value.Denot)). me.0.hand) same,
      ap (λ (me : Me (VarPart g.row.P-Value.Denot) (View g.row.P-Value.Denot)). me.1) same,
      sym h.finds.word_is,
    )

pub returns-clause-made : goal.returns-clause-made
returns-clause-made g c =
    let h = c.requires.taken.1 in
    let x = c.requires.taken.0 in
    let slots = ap (λ (me : Me (VarPart g.row.P-Value.Denot) (View g.row.P-Value.Denot)). me.1) h.token in
    let works = c.in-Ok.ensures.worked x slots in
    let view = ap (λ (me : Me (VarPart g.row.P-Value.Denot) (View g.row.P-Value.Denot)). me.0) h.token in
    let before = c.args.part.now in
    let after = c.work-worked.new.part in
    let made =
    made_on (g.P.Program.meaning c.args.setting.now.program.now) (g.P.Program.fits c.args.setting.now.program.now)
    (g.met.P.Program.lawful c.args.setting.now.program.now) g.J.Round.guide c.args.access.thread c.args.access.var
    c.args.word c.args.part.now c.work-worked.new.part c.args.access.place x works.0 c.in-Ok.entry h.before
    c.requires.wanted.hand (h.finds.fit c.args.setting.now.program.now (round_inside c.self.view_is c.requires.of).is)
    h.finds.word_is c.args.access.read c.requires.wanted.next works.2 c.requires.taken.2 c.args.token.now.me.0 view in (
      x,
      slots,
      record {
        left = works.0;
        place = c.args.access.place;
        on = made.0;
        guided = made.1;
        token =
            c.bring_home.ensures.brought
            ∙ (ap (λ (w : View g.row.P-Value.Denot).
            let r : Me (VarPart g.row.P-Value.Denot) (View g.row.P-Value.Denot) =
            (noted_view w (note_on c.args.part.now c.work-worked.new.part (trace.Did c.copied.result) w), []) in
            r) c.work-worked.ensures.view
            ∙ ap (λ (e : StampedEntry).
            let r : Me (VarPart g.row.P-Value.Denot) (View g.row.P-Value.Denot) = (
              noted_view c.args.token.now.me.0
                  (note_on c.args.part.now c.work-worked.new.part (trace.Did e) c.args.token.now.me.0),
              [],
            ) in
            r) c.copied.ensures);
      },
    )
