use Rattle.std.proofs.Common.{sym, ◌∙◌, refl, subst, All, Ok, Err}
use Rattle.output_files.proofs.Effects.{begun_none}
use Rattle.output_files.proofs.OnlyWriting.{OnlyWrites-files, WritesFiles-trans, WritesFiles-failed}
use Rattle.chain_world.specs.Chain.{NamesSystem}
use Rattle.chain_command.specs.declared.opening.ChainNumbers.{ChainNumbers}
use Rattle.chain_command.specs.Outputs.{first_setting, second_setting, names_of}
use Rattle.chain_command.proofs.Steps.{fault_written, no_limit}
use Rattle.chain_command.proofs.WholeChain.{begun_nothing, finished_whole, finished_promised, finished_begun, goes_same}
use Rattle.chain_command.proofs.WholeChain.{stopped_limit, stopped_begun}
use Rattle.chain_command.proofs.chaining.run_chain.Goals as goal

pub write_events-requires-clause-which : goal.write_events-requires-clause-which
write_events-requires-clause-which g c κs within =
    subst (All NamesSystem) (sym c.as_slice-events.ensures) c.requires.inputs.of_systems

pub write_events-requires-clause-somewhere : goal.write_events-requires-clause-somewhere
write_events-requires-clause-somewhere g c κs within =
    (_, _, _, c.in_ok-chain.ensures.at, c.requires.inputs.short)

pub returns-in_err-chain-clause-in_order : goal.returns-in_err-chain-clause-in_order
returns-in_err-chain-clause-in_order g c p h = begun_nothing _ _ _ _ _ _ (begun_none _ _)

pub returns-in-Ok-clause-writes_files : goal.returns-in-Ok-clause-writes_files
returns-in-Ok-clause-writes_files g c =
    WritesFiles-trans _ _ 4 0 _ _ _ c.in-Ok.ensures.writes_files
    (OnlyWrites-files _ _ 0 _ _ c.close_chain.ensures.only_writes)

pub returns-in-Ok-clause-cause : goal.returns-in-Ok-clause-cause
returns-in-Ok-clause-cause g c e =
    WritesFiles-failed _ _ 4 _ _ _ c.in-Ok.ensures.writes_files
    (c.close_chain.ensures.cause (fault_written c.close_chain.result (sym c.written.ensures ∙ e)))

pub returns-in-Ok-clause-whole : goal.returns-in-Ok-clause-whole
returns-in-Ok-clause-whole g c p h =
    let h0 = c.close_chain.ensures.before p h in
    let s = first_setting (g.P.Program.meaning c.args.first) c.args.run in
    let r = second_setting (g.Q.Program.meaning c.args.second) c.args.run in
    let come = goes_same {A = ChainNumbers} (Ok c.in-Ok.outputs) g.P.Program.meaning g.Q.Program.meaning s r
    (names_of c.args.files) _ c.args.run.events _ _ _ _
    c.as_slice-events.ensures (c.in-Ok.ensures.shows p h0 s r refl c.in_ok-chain.ensures.at) in
    rw c.written.ensures
    (finished_whole s r (names_of c.args.files) c.args.run.events c.requires.apart _ _ c.close_chain.result
    (c.close_chain.ensures.shows p h s r (names_of c.args.files) c.args.run.events _ (c.in-Ok.ensures.open p h0) come))

pub returns-in-Ok-clause-headline : goal.returns-in-Ok-clause-headline
returns-in-Ok-clause-headline g c p h =
    let h0 = c.close_chain.ensures.before p h in
    let s = first_setting (g.P.Program.meaning c.args.first) c.args.run in
    let r = second_setting (g.Q.Program.meaning c.args.second) c.args.run in
    let come = goes_same {A = ChainNumbers} (Ok c.in-Ok.outputs) g.P.Program.meaning g.Q.Program.meaning s r
    (names_of c.args.files) _ c.args.run.events _ _ _ _
    c.as_slice-events.ensures (c.in-Ok.ensures.shows p h0 s r refl c.in_ok-chain.ensures.at) in
    rw c.written.ensures
    (finished_promised s r (names_of c.args.files) c.args.run.events c.requires.apart _ _ c.close_chain.result
    (c.close_chain.ensures.shows p h s r (names_of c.args.files) c.args.run.events
    (g.W.World.shows p c.args.world.now) (c.in-Ok.ensures.open p h0) come))

pub returns-in-Ok-clause-limit : goal.returns-in-Ok-clause-limit
returns-in-Ok-clause-limit g c p h limit e =
    absurd (no_limit c.close_chain.result limit (sym c.written.ensures ∙ e))

pub returns-in-Ok-clause-in_order : goal.returns-in-Ok-clause-in_order
returns-in-Ok-clause-in_order g c p h =
    let h0 = c.close_chain.ensures.before p h in
    let s = first_setting (g.P.Program.meaning c.args.first) c.args.run in
    let r = second_setting (g.Q.Program.meaning c.args.second) c.args.run in
    let come = goes_same {A = ChainNumbers} (Ok c.in-Ok.outputs) g.P.Program.meaning g.Q.Program.meaning s r
    (names_of c.args.files) _ c.args.run.events _ _ _ _
    c.as_slice-events.ensures (c.in-Ok.ensures.shows p h0 s r refl c.in_ok-chain.ensures.at) in
    finished_begun s r (names_of c.args.files) c.args.run.events c.requires.apart _ _ c.close_chain.result
    (c.close_chain.ensures.shows p h s r (names_of c.args.files) c.args.run.events _ (c.in-Ok.ensures.open p h0) come)

pub returns-in-Ok-clause-before : goal.returns-in-Ok-clause-before
returns-in-Ok-clause-before g c p h = c.in-Ok.ensures.before p (c.close_chain.ensures.before p h)

pub returns-clause-limit : goal.returns-clause-limit
returns-clause-limit g c p h limit e =
    let s = first_setting (g.P.Program.meaning c.args.first) c.args.run in
    let r = second_setting (g.Q.Program.meaning c.args.second) c.args.run in
    stopped_limit s r (names_of c.args.files) c.args.run.events c.requires.apart _ _ g.P.Program.meaning
    g.Q.Program.meaning _ _ c.in-Err.error limit
    (goes_same {A = ChainNumbers} (Err c.in-Err.error) g.P.Program.meaning g.Q.Program.meaning s r
    (names_of c.args.files) _ c.args.run.events _ _ _ _
    c.as_slice-events.ensures (c.in-Err.ensures.shows p h s r refl c.in_ok-chain.ensures.at)) e

pub returns-clause-in_order : goal.returns-clause-in_order
returns-clause-in_order g c p h =
    let s = first_setting (g.P.Program.meaning c.args.first) c.args.run in
    let r = second_setting (g.Q.Program.meaning c.args.second) c.args.run in
    stopped_begun s r (names_of c.args.files) c.args.run.events c.requires.apart _ _ g.P.Program.meaning
    g.Q.Program.meaning _ _ c.in-Err.error
    (goes_same {A = ChainNumbers} (Err c.in-Err.error) g.P.Program.meaning g.Q.Program.meaning s r
    (names_of c.args.files) _ c.args.run.events _ _ _ _
    c.as_slice-events.ensures (c.in-Err.ensures.shows p h s r refl c.in_ok-chain.ensures.at))
