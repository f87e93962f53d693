use Rattle.std.proofs.Common.{◌≡◌, ◌++◌, ◌∷◌, [], ℕ, true, Option, Some, None, ap, sym, subst, ◌∙◌, arith}
use Rattle.std.specs.Prelude.{Ok, Err}
use Rattle.plain_text.specs.declared.packet.Packet.{Packet}
use Rattle.pcapng_io.specs.declared.next.AnyNext.{AnyNext}
use Rattle.pcapng_io.specs.Reader.{NgReading, MovesOn, AnswersNg, TakesNg, StopsBehind}
use Rattle.pcapng_io.specs.Stops.{held_type}
use Rattle.pcapng_io.proofs.Recorded.{moves_whole}
use Rattle.pcapng_io.proofs.Readings.{Moves-none, Moves-more, stops_behind, answers_stop, takes_stop}
use Rattle.world_io.proofs.GoingOn.{GoesOn-same, GoesOn-trans}
use Rattle.pcapng_io.proofs.reader.NgReader.next_packet.Goals as goal

pub blocks-2-init : goal.blocks-2-init
blocks-2-init g c = record {
  moved = Moves-none g.S.Source.reads g.met.S.Source.reads_nothing c.args.source.now c.args.self.now;
  running = ap (λ (r : NgReading). r.over) (sym c.self.view_is) ∙ c.if-self.false;
  goes_on = GoesOn-same g.S.Source.faults g.S.Source.healthy _;
}

pub returns-in-Ok-Some-clause-taken : goal.returns-in-Ok-Some-clause-taken
returns-in-Ok-Some-clause-taken g c =
    let inv = c.blocks-2.invariant in
    let Moved : Option Packet → Type 0 = λ packet. MovesOn g.S.Source.reads (Ok packet) c.blocks-2.source
    c.pass_block.new.source c.blocks-2.self c.pass_block.new.self in
    let moved : Moved (Some c.in-Ok-Some.packet) = subst Moved c.in-Ok-Some.field-0-is c.in-Ok-Some.ensures.moves in (
      Moves-more g.S.Source.reads g.met.S.Source.reads_more c.args.source.now c.blocks-2.source c.pass_block.new.source
          c.args.self.now c.blocks-2.self c.pass_block.new.self [] (c.in-Ok-Some.packet ∷ []) inv.moved moved.0,
      moved.1 ∙ inv.running,
    )

pub blocks-2-preserved : goal.blocks-2-preserved
blocks-2-preserved g c =
    let inv = c.blocks-2.invariant in
    let Moved : Option Packet → Type 0 = λ packet. MovesOn g.S.Source.reads (Ok packet) c.blocks-2.source
    c.pass_block.new.source c.blocks-2.self c.pass_block.new.self in
    let moved : Moved None = subst Moved c.in-Ok-None.field-0-is c.in-Ok-None.ensures.moves in
    record {
      moved = Moves-more g.S.Source.reads g.met.S.Source.reads_more c.args.source.now c.blocks-2.source
          c.pass_block.new.source c.args.self.now c.blocks-2.self c.pass_block.new.self [] [] inv.moved moved.0;
      running = moved.1 ∙ inv.running;
      goes_on = GoesOn-trans g.S.Source.faults g.S.Source.healthy _ _ _ inv.goes_on c.in-Ok-None.ensures.goes_on;
    }

pub returns-in-Err-clause-shows : goal.returns-in-Err-clause-shows
returns-in-Err-clause-shows g c = λ p h.
    let inv = c.blocks-2.invariant in
    let before = g.met.S.Source.reads_before p _ _ _ h c.in-Err.ensures.moves.0.1 in
    let r = c.args.self.now in
    let bytes = held_type r.typed ++ g.S.Source.remains p c.args.source.now in
    let same : _ ≡ c.blocks-2.self = c.self-in-blocks-2.view_is ∙ c.in-Err.ensures.moves.1 in
    let offset : c.self-in-blocks-2.inside.offset ≡ c.blocks-2.self.offset = ap (λ (s : NgReading). s.offset) same in
    let behind = stops_behind g.S.Source.reads c.args.source.now c.blocks-2.source r c.blocks-2.self inv.moved
    (g.S.Source.remains p c.args.source.now) (g.S.Source.remains p c.blocks-2.source) c.in-Err.why
    (g.met.S.Source.reads_shown p _ _ _ before inv.moved.read) (omega (arith, offset, c.self-in-blocks-2.invariant.0))
    (c.in-Err.ensures.shows p h) in
    let Behind : ℕ → Type 0 = λ n. StopsBehind r bytes n c.in-Err.why in
    let Said : AnyNext → Type 0 = λ answer. AnswersNg r bytes answer in
    subst Said (sym c.answer.ensures)
    (answers_stop r bytes c.self-in-blocks-2.inside.offset c.in-Err.why (subst Behind (sym offset) behind))

pub returns-in-Err-clause-taken : goal.returns-in-Err-clause-taken
returns-in-Err-clause-taken g c =
    let inv = c.blocks-2.invariant in
    let same : _ ≡ c.blocks-2.self = c.self-in-blocks-2.view_is ∙ c.in-Err.ensures.moves.1 in
    let Takes : AnyNext → Type 0 =
    λ answer. TakesNg g.S.Source.reads answer c.args.source.now c.pass_block.new.source c.args.self.now (record {
      order = c.self-in-blocks-2.inside.order;
      interfaces = c.self-in-blocks-2.inside.interfaces;
      typed = c.self-in-blocks-2.inside.typed;
      offset = c.self-in-blocks-2.inside.offset;
      count = c.self-in-blocks-2.inside.count;
      over = true;
    }) in
    subst Takes (sym c.answer.ensures)
    (takes_stop g.S.Source.reads g.met.S.Source.reads_more c.args.source.now c.blocks-2.source c.pass_block.new.source
    c.args.self.now c.blocks-2.self _ inv.moved (ap (λ (s : NgReading). record s { over = true }) same) c.in-Err.why
    c.self-in-blocks-2.inside.offset c.in-Err.ensures.moves.0 (λ e. c.in-Err.ensures.ended (ap Err e)))

pub returns-in-Ok-Some-clause-given : goal.returns-in-Ok-Some-clause-given
returns-in-Ok-Some-clause-given g c =
    let Moved : Option Packet → Type 0 = λ packet. MovesOn g.S.Source.reads (Ok packet) c.blocks-2.source
    c.pass_block.new.source c.blocks-2.self c.pass_block.new.self in
    let moved : Moved (Some c.in-Ok-Some.packet) = subst Moved c.in-Ok-Some.field-0-is c.in-Ok-Some.ensures.moves in
    moves_whole g.S.Source.reads c.blocks-2.source c.pass_block.new.source c.blocks-2.self c.pass_block.new.self
    c.in-Ok-Some.packet moved.0
