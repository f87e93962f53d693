use Rattle.std.proofs.Common.{ap, rules, Err}
use Rattle.job_commands.specs.ChainWords.{chain_names_of}
use Rattle.job_commands.proofs.Usual.{refused_answers, run_answers, stops_early}
use Rattle.job_top.specs.Chain.{chain_meaning, chain_outputs, first_of, second_of}
use Rattle.job_top.proofs.Chains.{chain_ends, chain_refused, chain_usual, chained_since, limit_since, order_since}
use Rattle.job_top.proofs.chain.chain.Goals as goal

-- its inputs are accepted

pub returns-in-Ok : goal.returns-in-Ok
returns-in-Ok g c =
    let names = chain_names_of c.args.names in
    let h = g.W.World.healthy c.args.world.now in
    let i = c.in-Ok.inputs in
    let reads = c.in-Ok.ensures in
    let does = c.chain_boxes.ensures in
    rw c.run_outcome.ensures
    (run_answers (chain_meaning names) (chain_usual names) _ g.W.World.shows g.W.World.ledger g.W.World.healthy c.args.world.now _
    reads.only_reads 4 c.chain_boxes.new.world reads.opened does.writes_files c.chain_boxes.result (search rules) does.cause
    (λ p q.
    let q1 = does.before p q in
    let a = g.W.World.shows p c.args.world.now in
    let b = g.W.World.shows p c.read_chain_inputs.new.world in
    let e = g.W.World.shows p c.chain_boxes.new.world in
    let keeps = reads.keeps p q1 in
    let s = first_of i in
    let t = second_of i in
    let outputs = chain_outputs names in
    chain_ends h names i a e (reads.judged p q1) c.chain_boxes.result
    (λ ok fault. (does.cause fault).not_healthy (reads.only_reads.stays_healthy ok))
    (chained_since a b e keeps s t outputs i.events c.chain_boxes.result (does.whole p q)) (does.headline p q)
    (λ l is. limit_since a b e keeps s t outputs i.events l (does.limit p q l is))
    (order_since a b e keeps s t outputs i.events (does.in_order p q)))
    (λ p q. reads.before p (does.before p q)))

-- an input is refused

pub returns-in-Err : goal.returns-in-Err
returns-in-Err g c =
    let names = chain_names_of c.args.names in
    let h = g.W.World.healthy c.args.world.now in
    let is = c.in-Err.ensures in
    refused_answers (chain_meaning names) (chain_usual names) _ g.W.World.shows _ g.W.World.healthy _ _ is.only_reads
    c.in-Err.status
    is.quiet (λ e. is.cause (ap Err e))
    (λ p q. chain_refused h names c.in-Err.status (g.W.World.shows p c.args.world.now) (is.judged p q)) is.stage
    (λ p q limit large at same. stops_early limit _ _ _ at same) is.keeps is.before
