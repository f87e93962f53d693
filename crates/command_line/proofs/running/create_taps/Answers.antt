use Rattle.std.proofs.Common.{◌≡◌, ◌∙◌, ◌∷◌, ◌++◌, ◌+◌, ◌*◌, [], Bool, Some, ap, sym, subst, arith, length}
use Rattle.std.specs.Prelude.{if◌then◌else◌}
use Rattle.release_taps.specs.Seats.{AllFresh, IsFresh}
use Rattle.release_taps.proofs.Counting.{word_at}
use Rattle.world_told.specs.Sent.{name_of, sent_to}
use Rattle.command_line.specs.Running.{AreNamed}
use Rattle.command_line.proofs.Named.{length-push, named-push, push-each}
use Rattle.command_line.proofs.running.create_taps.Goals as goal

pub loop-pair-preserved : goal.loop-pair-preserved
loop-pair-preserved g c =
    let taps = c.loop-pair.taps.items in
    let tap = c.in-Ok.tap in
    let pair = c.loop-pair.pair in
    let here = c.loop-pair.invariant in
    let label = c.in-Ok.ensures.label in
    let within = c.loop-pair-test.true in
    let room = c.requires in
    let word = word_at c.args.words.now (2 * pair + 1) c.index-words-pair.result (omega (arith, within, room))
    c.index-words-pair.is in
    let pushed : c.push.new.self.items ≡ taps ++ tap ∷ [] =
    c.push.ensures.items ∙ ap (λ (ok : Bool). if ok then taps ++ tap ∷ [] else taps) c.if-is_err.ensures.negation in
    record {
      count = ap length pushed ∙ length-push taps tap pair here.count;
      named = subst (AreNamed (λ t. name_of t.file t.world.calls) c.args.words.now) (sym pushed)
          (named-push (λ t. name_of t.file t.world.calls) c.args.words.now taps tap pair here.count here.named
          (word ∙ ap Some (sym label)));
      fresh = subst (AllFresh (λ t. (t.faults ≡ 0) × (t.lacks ≡ 0)) (λ t. sent_to t.file t.world.calls)
          (λ t. t.faults) (λ t. t.lacks)) (sym pushed)
          (push-each (λ k t. IsFresh (λ t. (t.faults ≡ 0) × (t.lacks ≡ 0)) (λ t. sent_to t.file t.world.calls)
          (λ t. t.faults) (λ t. t.lacks) t) taps tap here.fresh c.in-Ok.ensures.fresh);
    }
