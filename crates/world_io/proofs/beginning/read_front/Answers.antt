use Rattle.std.proofs.Common.{◌≡◌, ◌≤◌, ◌++◌, [], length, take, drop, arith, append-nil, ap, ◌∙◌, sym, subst, List, ℕ}
use Rattle.std.proofs.Common.{refl}
use Rattle.std.proofs.lemmas.Grind.{common_steps}
use Rattle.plain_text.proofs.Octets.{AreBytes-append}
use Rattle.world_io.proofs.Fronts.{no_memory, parts_of_piece, whole_piece, left_of_piece, kept_length, is_front}
use Rattle.world_io.proofs.GoingOn.{GoesOn-trans}
use Rattle.world_io.proofs.beginning.read_front.Goals as goal

pub returns-in-End-clause-reads : goal.returns-in-End-clause-reads
returns-in-End-clause-reads g c =
    let both = g.met.S.Source.reads_more _ _ _ _ _ c.loop-bytes.invariant.reads c.in-End.ensures.reads in
    (rw append-nil at both, omega arith)

pub returns-in-Failed-clause-reads : goal.returns-in-Failed-clause-reads
returns-in-Failed-clause-reads g c = (
  c.loop-bytes.bytes ++ [],
  g.met.S.Source.reads_more _ _ _ _ _ c.loop-bytes.invariant.reads c.in-Failed.ensures.reads,
)

pub returns-in_err-keep-in-Got-clause-reads : goal.returns-in_err-keep-in-Got-clause-reads
returns-in_err-keep-in-Got-clause-reads g c =
    no_memory g.S.Source.reads c.from_residual.result c.args.limit _ _ c.from_residual.ensures.1
    (_, g.met.S.Source.reads_more _ _ _ _ _ c.loop-bytes.invariant.reads c.in-Got.ensures.reads)

pub returns-then-kept-count-clause-reads : goal.returns-then-kept-count-clause-reads
returns-then-kept-count-clause-reads g c =
    let inv = c.loop-bytes.invariant in
    let count = c.in-Got.count in
    let kept = c.min-kept.result in
    let piece = c.fill.new.piece in
    let tail = drop c.min-want.result c.loop-bytes.piece in
    let within : count ≤ length piece = omega (arith, c.in-Got.ensures.count.0, c.fill.auto.piece) in
    let less : kept ≤ count = omega (arith, c.min-kept.ensures) in
    let first = c.in_ok-keep-in-Got.ensures.ok in
    let next = drop kept (take count piece) in
    let both = g.met.S.Source.reads_more _ _ _ _ _ inv.reads c.in-Got.ensures.reads in
    let parts : c.keep.new.bytes ++ next ≡ c.loop-bytes.bytes ++ take count piece =
    ap (λ l. l ++ next) first ∙ parts_of_piece c.loop-bytes.bytes piece tail count kept less within in
    let Taken : List ℕ → Type 0 = λ l. g.S.Source.reads c.args.source.now l c.fill.new.self in
    let size = kept_length c.keep.new.bytes c.loop-bytes.bytes piece tail kept first (omega (arith, less, within)) in
    let more = left_of_piece piece count kept within in (
      next,
      subst Taken (sym parts) both,
      grind (arith, common_steps, size),
      grind (arith, common_steps, more),
    )

pub returns-in-End-clause-ends : goal.returns-in-End-clause-ends
returns-in-End-clause-ends g c p h =
    let reads = c.in-End.ensures.reads in
    let before = g.met.S.Source.reads_before p _ _ _ h reads in
    let first = g.met.S.Source.reads_shown p _ _ _ before c.loop-bytes.invariant.reads in
    let nothing = c.in-End.ensures.ends p h refl in (
      first ∙ ap (λ l. c.loop-bytes.bytes ++ l) nothing ∙ append-nil c.loop-bytes.bytes,
      sym (g.met.S.Source.reads_shown p _ _ _ h reads) ∙ nothing,
    )

pub returns-then-kept-count-clause-ends : goal.returns-then-kept-count-clause-ends
returns-then-kept-count-clause-ends g c = λ p h.
    let inv = c.loop-bytes.invariant in
    let count = c.in-Got.count in
    let kept = c.min-kept.result in
    let piece = c.fill.new.piece in
    let tail = drop c.min-want.result c.loop-bytes.piece in
    let within : count ≤ length piece = omega (arith, c.in-Got.ensures.count.0, c.fill.auto.piece) in
    let less : kept ≤ count = omega (arith, c.min-kept.ensures) in
    let first = c.in_ok-keep-in-Got.ensures.ok in
    let next = drop kept (take count piece) in
    let both =
    g.met.S.Source.reads_shown p _ _ _ h (g.met.S.Source.reads_more _ _ _ _ _ inv.reads c.in-Got.ensures.reads) in
    let parts : c.keep.new.bytes ++ next ≡ c.loop-bytes.bytes ++ take count piece =
    ap (λ l. l ++ next) first ∙ parts_of_piece c.loop-bytes.bytes piece tail count kept less within in
    let size = kept_length c.keep.new.bytes c.loop-bytes.bytes piece tail kept first (omega (arith, less, within)) in
    let more = left_of_piece piece count kept within in
    is_front c.keep.new.bytes next (g.S.Source.remains p c.fill.new.self) _ c.args.limit
    (both ∙ ap (λ l. l ++ g.S.Source.remains p c.fill.new.self) (sym parts)) (grind (arith, common_steps, size))
    (grind (arith, common_steps, more))

pub loop-bytes-preserved : goal.loop-bytes-preserved
loop-bytes-preserved g c =
    let inv = c.loop-bytes.invariant in
    let got = c.in-Got.ensures in
    let kept = c.in_ok-keep-in-Got.ensures in
    let piece = c.fill.new.piece in
    let tail = drop c.min-want.result c.loop-bytes.piece in
    let within : c.in-Got.count ≤ length piece = omega (arith, got.count.0, c.fill.auto.piece) in
    let all : c.min-kept.result ≡ c.in-Got.count = grind (arith, common_steps) in
    let now =
    whole_piece c.keep.new.bytes c.loop-bytes.bytes piece tail c.in-Got.count c.min-kept.result kept.ok all within in
    let size =
    kept_length c.keep.new.bytes c.loop-bytes.bytes piece tail c.min-kept.result kept.ok (omega (arith, all, within)) in
    record {
      reads = rw now (g.met.S.Source.reads_more _ _ _ _ _ inv.reads got.reads);
      bytes = rw kept.ok (AreBytes-append c.loop-bytes.bytes _ inv.bytes kept.octets);
      room = grind (arith, common_steps, size);
      goes_on = GoesOn-trans g.S.Source.faults g.S.Source.healthy _ _ _ inv.goes_on got.goes_on;
    }
