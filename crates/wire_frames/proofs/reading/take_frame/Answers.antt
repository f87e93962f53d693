use Rattle.std.proofs.Common.{ℕ, Err, sym, ap, subst}
use Rattle.std.proofs.lemmas.Result.{err_from_is_err_and}
use Rattle.wire_frames.specs.declared.frame.FrameError.TheVariants as error
use Rattle.wire_frames.specs.declared.layout.Layout.{Layout}
use Rattle.wire_frames.specs.Layout.{BeginsWith}
use Rattle.wire_frames.proofs.Whole.{earlier_cause, later_cause, found_begins, same_frame, gives}
use Rattle.wire_frames.proofs.reading.take_frame.Goals as goal

pub returns-in_err-layout-clause-fault : goal.returns-in_err-layout-clause-fault
returns-in_err-layout-clause-fault c =
    let exit = err_from_is_err_and c.from_residual.result c.from_residual.ensures.1 in
    rw (exit.1, exit.2) (earlier_cause c.args.bytes.now _ c.in_err-layout.ensures.fault)

pub returns-in_err-layout-clause-every : goal.returns-in_err-layout-clause-every
returns-in_err-layout-clause-every c f size begins =
    let exit = err_from_is_err_and c.from_residual.result c.from_residual.ensures.1 in
    rw (exit.1, exit.2) (gives c.args.bytes.now (Err (error.Fault c.in_err-layout.field-0.0)) tt
    (earlier_cause c.args.bytes.now _ c.in_err-layout.ensures.fault) f size begins)

pub returns-in_err-frame-clause-fault : goal.returns-in_err-frame-clause-fault
returns-in_err-frame-clause-fault c =
    let exit = err_from_is_err_and c.from_residual-in_err-frame.result c.from_residual-in_err-frame.ensures.1 in
    rw (exit.1, exit.2) (later_cause c.args.bytes.now _ c.in_ok-layout.ensures.passed.0 c.in_err-frame.ensures.fault)

pub returns-in_err-frame-clause-every : goal.returns-in_err-frame-clause-every
returns-in_err-frame-clause-every c f size begins =
    let exit = err_from_is_err_and c.from_residual-in_err-frame.result c.from_residual-in_err-frame.ensures.1 in
    rw (exit.1, exit.2) (gives c.args.bytes.now (Err _) tt
    (later_cause c.args.bytes.now _ c.in_ok-layout.ensures.passed.0 c.in_err-frame.ensures.fault) f size begins)

pub returns-clause-frame : goal.returns-clause-frame
returns-clause-frame c =
    let P : ℕ → Type 0 = λ n. BeginsWith c.args.bytes.now c.in_ok-frame.frame n in
    let size = ap (λ (l : Layout). l.length) c.in_ok-layout.ensures.passed.1 in
    subst P (sym size) (found_begins c.args.bytes.now c.in_ok-frame.frame c.in_ok-layout.ensures.bytes
    c.in_ok-layout.ensures.passed.0 c.in_ok-frame.ensures.passed c.in_ok-frame.ensures.value)

pub returns-clause-every : goal.returns-clause-every
returns-clause-every c f size begins =
    same_frame c.args.bytes.now c.in_ok-frame.frame f c.in_ok-layout.layout.length size (returns-clause-frame c) begins
