use Rattle.std.proofs.Common.{List, ap, ◌∙◌, refl}
use Rattle.world_io.specs.Memory.{Memory}
use Rattle.world_io.specs.declared.memory_file.MemoryFile.{MemoryFile}
use Rattle.world_io.specs.declared.names.NamedBytes.{NamedBytes}
use Rattle.world_io.proofs.FilesLemmas.{CutsFile-sent, SendsToFile-name, at_ok, at_err}
use Rattle.world_io.proofs.memory_world.MemoryWorld.send.Goals as goal

pub returns-then-is_err-clause-err : goal.returns-then-is_err-clause-err
returns-then-is_err-clause-err c =
    let w = c.self.inside in
    let names = at_err c.append.result c.if-is_err.ensures.value c.append.ensures.err in
    let files = CutsFile-sent c.args.file c.len-sent.result c.args.piece.now c.created.result.now w.files
    c.send.new.self c.cut.new.self c.created.ensures c.len-sent.ensures c.in_ok-send.ensures.ok c.cut.ensures in
    let with : List NamedBytes → List MemoryFile → Memory =
    λ n f. record {
      names = n;
      files = f;
      opened_names = w.opened_names.items;
      report = w.report;
      reading = w.reading;
      writing = w.writing;
    } in
    ap (λ n. with n c.cut.new.self) names ∙ ap (with w.names) files ∙ c.self.view_is

pub returns-clause-ok : goal.returns-clause-ok
returns-clause-ok c =
    let appended = at_ok c.append.result c.if-is_err.ensures.value c.append.ensures.ok in
    let name = SendsToFile-name c.args.file c.args.piece.now c.created-2.result.now c.self.inside.files c.send.new.self
    c.in_ok-send.ensures.ok c.created-2.ensures in
    rw (← c.self.view_is) (record {
      sends = c.in_ok-send.ensures.ok;
      appends = rw (c.as_str-name.ensures, name) at appended;
      after = refl;
    })
