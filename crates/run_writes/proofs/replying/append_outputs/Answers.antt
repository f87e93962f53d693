use Rattle.std.proofs.Common.{arith}
use Rattle.std.proofs.lemmas.List.Elements.{All-nil}
use Rattle.output_files.proofs.OnlyWriting.{OnlyWrites-same, OnlyWrites-trans}
use Rattle.output_files.proofs.PieceWise.{err_appends}
use Rattle.run_writes.specs.Run.{FitsRecord}
use Rattle.run_writes.proofs.OutputRecords.{short_one, fit_more}
use Rattle.run_writes.proofs.RecordPieces.{none_appended, none_begun, on_ok, one_gathered, stops_between, stops_within}
use Rattle.run_writes.proofs.RecordPieces.{all_gathered, all_fit}
use Rattle.run_writes.proofs.replying.append_outputs.Goals as goal

pub put_record-requires : goal.put_record-requires
put_record-requires g c = short_one c.args.outputs.now c.loop-output.output-index c.output-item.result
    c.requires.short (omega arith) c.output-item.is

pub returns-in_err-piece-clause-shows : goal.returns-in_err-piece-clause-shows
returns-in_err-piece-clause-shows g c p h = err_appends _ _ _ _ _ c.from_residual.ensures.0 (none_begun _ _ _)

pub loop-output-init : goal.loop-output-init
loop-output-init g c = record {
  fit = All-nil FitsRecord;
  only_writes = OnlyWrites-same _ _ _;
  shows = λ p h. none_appended _ _ _ c.in_ok-piece.ensures;
  before = λ p h. h;
}

pub loop-output-preserved : goal.loop-output-preserved
loop-output-preserved g c =
    let inv = c.loop-output.invariant in
    record {
      fit = fit_more c.args.outputs.now c.loop-output.output-index c.output-item.result (omega arith) c.output-item.is
          inv.fit c.in_ok-put_record.ensures.fits;
      only_writes = OnlyWrites-trans _ _ _ _ _ inv.only_writes c.in_ok-append_full.ensures.only_writes;
      shows = λ p h.
          let h0 = c.in_ok-append_full.ensures.before p h in
          c.in_ok-append_full.ensures.shows p h _ _
          (one_gathered _ c.args.outputs.now c.loop-output.output-index c.output-item.result _ _ _ _ (omega arith)
          c.output-item.is c.in_ok-put_record.ensures.ok (inv.shows p h0));
      before = λ p h. inv.before p (c.in_ok-append_full.ensures.before p h);
    }

pub returns-in_err-put_record-clause-shows : goal.returns-in_err-put_record-clause-shows
returns-in_err-put_record-clause-shows g c p h =
    stops_between _ _ c.args.outputs.now c.loop-output.output-index _ _ _ c.from_residual-in_err-put_record.ensures.0
    (c.loop-output.invariant.shows p h)

pub returns-in_err-append_full-clause-shows : goal.returns-in_err-append_full-clause-shows
returns-in_err-append_full-clause-shows g c p h =
    let h0 = c.in_err-append_full.ensures.before p h in
    stops_within _ _ c.args.outputs.now _ _ _ c.from_residual-in_err-append_full.ensures.0
    (c.in_err-append_full.ensures.shows p h _ _
    (one_gathered _ c.args.outputs.now c.loop-output.output-index c.output-item.result _ _ _ _ (omega arith)
    c.output-item.is c.in_ok-put_record.ensures.ok (c.loop-output.invariant.shows p h0)))

pub returns-clause-shows : goal.returns-clause-shows
returns-clause-shows g c p h =
    c.append_last.ensures.shows p h _ _
    (all_gathered _ c.args.outputs.now c.loop-output.output-index _ _ _ (omega arith)
    (c.loop-output.invariant.shows p (c.append_last.ensures.before p h)))

pub returns-clause-fit_records : goal.returns-clause-fit_records
returns-clause-fit_records g c =
    on_ok _ (all_fit c.args.outputs.now c.loop-output.output-index (omega arith) c.loop-output.invariant.fit)
