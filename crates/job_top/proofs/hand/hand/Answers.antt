use Rattle.std.proofs.Common.{ap, inl, rules, subst, ◌∙◌, Err}
use Rattle.job_commands.specs.declared.status.Status.{Status}
use Rattle.job_commands.specs.HandWords.{hand_names_of}
use Rattle.job_commands.specs.Judging.{Judges}
use Rattle.job_commands.specs.Run.{setting_for}
use Rattle.job_commands.specs.Words.{run_of_hand}
use Rattle.job_commands.proofs.Failing.{failed_since}
use Rattle.job_commands.proofs.Usual.{accepted_answers, refused_answers}
use Rattle.job_top.specs.Hand.{hand_meaning, hand_outputs}
use Rattle.job_top.proofs.Hands.{first_too_large, hand_counts, hand_ends, hand_refused, hand_usual, handed_since}
use Rattle.job_top.proofs.Hands.{limit_since, order_handed, unready_since}
use Rattle.job_top.proofs.hand.hand.Goals as goal

-- its inputs are accepted

pub returns-in-Ok : goal.returns-in-Ok
returns-in-Ok g c =
    let names = hand_names_of c.args.names in
    let h = g.W.World.healthy c.args.world.now in
    let i = c.in-Ok.inputs in
    let reads = c.in-Ok.ensures in
    let does = c.hand_box.ensures in
    rw c.hand_outcome.ensures
    (accepted_answers (hand_meaning names) (hand_usual names) _ g.W.World.shows g.W.World.ledger g.W.World.healthy
    c.args.world.now _
    reads.only_reads 2 c.hand_box.new.world reads.opened does.writes_files _ (search rules)
    (hand_counts g.W.World.ledger g.W.World.healthy names c.args.world.now c.hand_box.new.world c.hand_box.result
    (does.writes_files.ledger.opened_names ∙ reads.opened)
    (λ fault. failed_since _ _ _ _ _ _ reads.only_reads (does.cause fault)))
    (λ p q.
    let q1 = does.before p q in
    let a = g.W.World.shows p c.args.world.now in
    let b = g.W.World.shows p c.read_inputs.new.world in
    let e = g.W.World.shows p c.hand_box.new.world in
    let keeps = reads.keeps p q1 in
    let seal = i.conf.seal in
    let s = setting_for i in
    let outputs = hand_outputs names in
    hand_ends h names i a e (reads.judged p q1) c.hand_box.result
    (λ ok fault. (does.cause fault).not_healthy (reads.only_reads.stays_healthy ok))
    (handed_since a b e keeps seal s outputs i.events c.hand_box.result (does.whole p q))
    (λ u is. unready_since a b e keeps seal s outputs i.events u (does.unready p q u is))
    (λ l is. limit_since a b e keeps i outputs l (does.limit p q l is))
    (order_handed a b e keeps seal s outputs i.events (does.in_order p q)))
    (λ p q. reads.before p (does.before p q)))

-- an input is refused

pub returns-in-Err : goal.returns-in-Err
returns-in-Err g c =
    let names = hand_names_of c.args.names in
    let h = g.W.World.healthy c.args.world.now in
    let is = c.in-Err.ensures in
    refused_answers (hand_meaning names) (hand_usual names) _ g.W.World.shows _ g.W.World.healthy _ _ is.only_reads
    c.in-Err.status
    is.quiet (λ e. is.cause (ap Err e))
    (λ p q. hand_refused h names c.in-Err.status (g.W.World.shows p c.args.world.now) is.quiet (is.stage p q)
    (is.judged p q)) is.stage
    (λ p q limit large at same.
    let a = g.W.World.shows p c.args.world.now in
    let judged = subst (λ (s : Status). Judges h (run_of_hand names) s a) large (is.judged p q) in
    inl (same, first_too_large h names limit a (inl at) judged)) is.keeps is.before
