use Rattle.std.proofs.Common.{arith}
use Rattle.noted_runs.proofs.PlacesLemmas.{no_thread, noted_name}
use Rattle.noted_runs.proofs.trace.places.note_name.Goals as goal

pub returns-then-at-len : goal.returns-then-at-len
returns-then-at-len c threads names is h =
    no_thread threads names c.args.name c.args.lists.now.items h (omega (arith, c.len.ensures, c.if-at-len.true))

pub returns : goal.returns
returns c =
    noted_name c.note.result c.args.lists.now.items c.args.name c.args.place c.index_mut.result.now c.note.new.self
    (omega (arith, c.len.ensures, c.if-at-len.false)) c.index_mut.ensures.value c.note.ensures
