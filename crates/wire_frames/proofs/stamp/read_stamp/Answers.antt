use Rattle.std.proofs.Common.{◌≡◌, ◌+◌, ◌-◌, drop, length, arith, ◌∙◌}
use Rattle.std.proofs.lemmas.List.{length-set}
use Rattle.wire_frames.proofs.Stamps.{reads_one_more, named_one_more, still_unread, all_read, named_all, no_bits}
use Rattle.wire_frames.proofs.Stamps.{half_fits, odd_room, bits_set-step}
use Rattle.wire_frames.proofs.stamp.read_stamp.Goals as goal
use Rattle.wire_frames.proofs.stamp.read_stamp.Goals.{else-loop-thread-test, then-loop-thread-test+then-rest-eq0}

pub read_component-component-requires : goal.read_component-component-requires
read_component-component-requires c odd =
    odd_room (16 - c.loop-thread.thread) c.loop-thread.rest c.loop-thread.place (length c.args.bytes.now) (omega arith)
    odd c.loop-thread.invariant.room

pub loop-thread-preserved : goal.loop-thread-preserved
loop-thread-preserved c =
    let l = c.loop-thread in
    let bytes = c.args.bytes.now in
    let component = c.read_component-component in
    let step = bits_set-step (16 - l.thread) l.rest (omega arith) in
    let later : 16 - l.thread - 1 ≡ 16 - (l.thread + 1) = omega arith in
    record {
      all = length-set l.components l.thread component.result ∙ l.invariant.all;
      read = reads_one_more _ l.components bytes l.thread l.rest l.place component.result l.invariant.all (omega arith)
          l.invariant.read component.ensures;
      unread = still_unread l.components l.thread l.invariant.unread component.result;
      named = named_one_more l.has_zero c.has_named_zero-has_zero.result _ bytes l.thread l.rest l.place
          component.result (omega arith) component.ensures c.has_named_zero-has_zero.ensures l.invariant.named;
      fits = rw (← later) (half_fits (16 - l.thread) l.rest (omega arith) l.invariant.fits);
      room = rw (← later) (omega arith);
    }

pub returns-clause-stamp : goal.returns-clause-stamp
returns-clause-stamp c =
    let l = c.loop-thread in
    let none : l.rest ≡ 0 = elim c.loop-thread-test.branch [
      | else-loop-thread-test w ↦ no_bits (16 - l.thread) l.rest l.invariant.fits (omega arith)
      | then-loop-thread-test+then-rest-eq0 w ↦ omega arith
    ] in
    let read = rw none at l.invariant.read in
    c.new.ensures ∙ all_read l.components l.thread l.invariant.unread _ (drop l.place c.args.bytes.now) read

pub returns-clause-zero : goal.returns-clause-zero
returns-clause-zero c =
    let l = c.loop-thread in
    let none : l.rest ≡ 0 = elim c.loop-thread-test.branch [
      | else-loop-thread-test w ↦ no_bits (16 - l.thread) l.rest l.invariant.fits (omega arith)
      | then-loop-thread-test+then-rest-eq0 w ↦ omega arith
    ] in
    let named = rw none at l.invariant.named in
    named_all l.has_zero _ (16 - l.thread) (drop l.place c.args.bytes.now) named
