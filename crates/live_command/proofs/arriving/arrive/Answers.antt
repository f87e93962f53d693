use Rattle.std.proofs.Common.{◌≡◌, ◌<◌, ◌++◌, ◌∷◌, [], ap, sym, ◌∙◌, arith, rules, length, take, drop, Err, Ok, refl}
use Rattle.std.proofs.Common.{suc}
use Rattle.std.specs.Prelude.{⊤}
use Rattle.output_files.proofs.OnlyWriting.{OnlyWrites-same, OnlyWrites-trans}
use Rattle.plan_script.specs.Rounds.{arrival_events}
use Rattle.run_command.proofs.Going.{somewhere_same}
use Rattle.live_command.proofs.EventsGone.{still_open, over_append, over_longer, over_nothing, over_same}
use Rattle.live_command.proofs.EventsGone.{arrivals_all, arrivals_cut, arrivals_on, lived_same}
use Rattle.live_command.proofs.arriving.arrive.Goals as goal

pub tell-requires-clause-somewhere : goal.tell-requires-clause-somewhere
tell-requires-clause-somewhere g c κs within =
    somewhere_same _ _ c.loop-frame.system (ap g.P.Program.meaning (sym c.loop-frame.invariant.program))
    c.loop-frame.invariant.somewhere

pub loop-frame-init : goal.loop-frame-init
loop-frame-init g c = record {
  runs = c.requires.runs;
  program = refl;
  threads = refl;
  somewhere = c.requires.somewhere;
  few = c.requires.few;
  short = c.requires.short;
  only_writes = OnlyWrites-same _ _ _;
  before = λ p honest. honest;
  keeps = λ p honest file name is. is;
  told = λ p honest s names events w before apart is lived.
      over_nothing {A = ⊤} tt _ s names w events c.args.system.now c.args.lines.now c.args.script.now before _ lived;
}

pub loop-frame-preserved : goal.loop-frame-preserved
loop-frame-preserved g c =
    let inv = c.loop-frame.invariant in
    let i = c.loop-frame.frame-index in
    let frames = c.args.frames.now in
    let low : i < length frames = omega arith in
    let same = ap g.P.Program.meaning inv.program in
    record {
      runs = c.in_ok-tell.ensures.runs;
      program = c.in_ok-tell.ensures.program ∙ inv.program;
      threads = c.in_ok-tell.ensures.threads ∙ inv.threads;
      somewhere = somewhere_same _ _ c.tell.new.system same c.in_ok-tell.ensures.somewhere;
      few = c.in_ok-tell.ensures.few;
      short = c.in_ok-tell.ensures.short;
      only_writes = OnlyWrites-trans _ _ _ _ _ inv.only_writes c.in_ok-tell.ensures.only_writes;
      before = λ p honest. inv.before p (c.in_ok-tell.ensures.before p honest);
      keeps = λ p honest file name is.
          c.in_ok-tell.ensures.keeps p honest file name
          (inv.keeps p (c.in_ok-tell.ensures.before p honest) file name is);
      told = λ p honest s names events w before apart is lived.
          let earlier = c.in_ok-tell.ensures.before p honest in
          let so = inv.told p earlier s names events w before apart is lived in
          let first = arrival_events (take i frames) in
          over_same {A = ⊤} (Ok tt) _ _ s names w events _ _ c.tell.new.system c.tell.new.lines c.tell.new.script before
          _ refl
          (arrivals_on frames i c.frame-item.result c.arrival_of-event.result low c.frame-item.is
          c.arrival_of-event.ensures)
          (over_append {A = ⊤} s names w events first (c.arrival_of-event.result ∷ []) before (Ok tt) _ _ so.0
          c.tell.new.system c.tell.new.lines c.tell.new.script _ same so.1
          (c.in_ok-tell.ensures.told p honest s names (events ++ first) so.0 before apart
          (still_open names _ _ _ _ _ (inv.keeps p earlier) is)
          (lived_same _ _ s names _ _ so.0 c.loop-frame.system c.loop-frame.lines c.loop-frame.script before _
          (sym same) refl so.2)));
    }

pub returns-in_err-tell-clause-told : goal.returns-in_err-tell-clause-told
returns-in_err-tell-clause-told g c p honest s names events w before apart is lived =
    let inv = c.loop-frame.invariant in
    let i = c.loop-frame.frame-index in
    let frames = c.args.frames.now in
    let low : i < length frames = omega arith in
    let same = ap g.P.Program.meaning inv.program in
    let first = arrival_events (take i frames) in
    let m = g.P.Program.meaning c.args.system.now.parts.program in
    let n = g.P.Program.meaning c.loop-frame.system.parts.program in
    let earlier = c.in_err-tell.ensures.before p honest in
    let so = inv.told p earlier s names events w before apart is lived in
    let e : c.from_residual.result ≡ Err c.in_err-tell.field-0.0 = search rules in
    let fails = over_append {A = ⊤} s names w events first (c.arrival_of-event.result ∷ []) before
    (Err c.in_err-tell.field-0.0) m n so.0 c.tell.new.system c.tell.new.lines c.tell.new.script _ same so.1
    (c.in_err-tell.ensures.told p honest s names (events ++ first) so.0 before apart
    (still_open names _ _ _ _ _ (inv.keeps p earlier) is)
    (lived_same _ _ s names _ _ so.0 c.loop-frame.system c.loop-frame.lines c.loop-frame.script before _ (sym same)
    refl so.2)) in
    rw e (over_same {A = ⊤} (Err c.in_err-tell.field-0.0) m m s names w events _ _ c.tell.new.system c.tell.new.lines
    c.tell.new.script before _ refl
    (arrivals_cut frames i c.frame-item.result c.arrival_of-event.result low c.frame-item.is c.arrival_of-event.ensures)
    (over_longer ⊤ ⊤ s names w events (first ++ c.arrival_of-event.result ∷ [])
    (arrival_events (drop (suc i) frames)) before c.in_err-tell.field-0.0 m m c.tell.new.system c.tell.new.system
    c.tell.new.lines c.tell.new.lines c.tell.new.script c.tell.new.script _ fails))

pub returns-clause-told : goal.returns-clause-told
returns-clause-told g c p honest s names events w before apart is lived =
    over_same {A = ⊤} (Ok tt) _ _ s names w events _ _ c.loop-frame.system c.loop-frame.lines c.loop-frame.script before
    _ refl (arrivals_all c.args.frames.now c.loop-frame.frame-index (omega arith))
    (c.loop-frame.invariant.told p honest s names events w before apart is lived)
