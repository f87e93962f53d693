use Rattle.std.proofs.Common.{◌≤◌, ℕ, sym, subst}
use Rattle.plain_text.specs.declared.limit.TheConstants.{MOST_EVENTS as most_events}
use Rattle.plain_text.specs.declared.limit.TheConstants.{MOST_FILE_BYTES as most_bytes}
use Rattle.output_files.proofs.OnlyWriting.{OnlyWrites-trans}
use Rattle.live_writes.specs.Outputs.{holding}
use Rattle.live_command.proofs.RunsTold.{come_beside, ends}
use Rattle.live_command.proofs.running.close.Goals as goal

pub returns-in-Err-clause-told : goal.returns-in-Err-clause-told
returns-in-Err-clause-told g c p honest s names events w before apart is lived =
    c.in-Err.ensures.told p honest s names events events w c.args.lines.now before apart is.script lived.told

pub returns-clause-told : goal.returns-clause-told
returns-clause-told g c p honest s names events w before apart is lived =
    let earlier = c.close_run-ended.ensures.before p honest in
    let kept = c.in_default.ensures in
    let k = kept.told p earlier s names events events w c.args.lines.now before apart is.script lived.told in
    let few = subst (λ (n : ℕ). n ≤ most_events) (sym kept.count) c.requires.few in
    let short = subst (λ (n : ℕ). n ≤ most_bytes) (sym kept.size) c.requires.short in
    rw c.written.ensures (ends (g.P.Program.meaning c.args.system.parts.program) s names apart events w c.args.system
    before c.args.lines.now c.write_script.new.script _ k kept.none few short _ c.close_run-ended.result
    (c.close_run-ended.ensures.shows p honest s _ names.outputs events (holding names.script k.written before)
    (kept.keeps p earlier _ _ is.schedule)
    (come_beside (g.P.Program.meaning c.args.system.parts.program) s names apart events w c.args.system before
    c.args.lines.now c.write_script.new.script _ k kept.none lived.at)))

pub returns-clause-only_writes : goal.returns-clause-only_writes
returns-clause-only_writes g c =
    OnlyWrites-trans _ _ _ _ _ c.in_default.ensures.only_writes c.close_run-ended.ensures.only_writes

pub returns-clause-before : goal.returns-clause-before
returns-clause-before g c p honest = c.in_default.ensures.before p (c.close_run-ended.ensures.before p honest)
