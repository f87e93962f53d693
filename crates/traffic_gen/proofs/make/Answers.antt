use Rattle.std.proofs.Common.{◌≡◌, ◌+◌, ◌*◌, sym, ap, ◌∙◌, arith, subst, length}
use Rattle.std.specs.List.{All}
use Rattle.plain_text.specs.declared.packet.Packet.{Packet}
use Rattle.random_words.specs.Words.{generator_after}
use Rattle.traffic_gen.specs.Generated.{fields_of}
use Rattle.traffic_gen.specs.Checksums.{HasRightChecksums}
use Rattle.traffic_gen.proofs.Packets.{generated-more, length-generated, generated_each}
use Rattle.traffic_gen.proofs.Frames.{length-frame, frame_verifies}
use Rattle.traffic_gen.proofs.make.Goals as goal

pub loop-index-init : goal.loop-index-init
loop-index-init c = record {
  words = c.generator-words.ensures.fresh;
  packets = c.new-packets.ensures;
}

pub loop-index-preserved : goal.loop-index-preserved
loop-index-preserved c =
    let i = c.loop-index.index in
    let seed = c.args.seed in
    let first = c.next_word-first.ensures in
    let second = c.next_word-second.ensures in
    let after = first.after seed (2 * i) c.loop-index.invariant.words in
    let two_more : 2 * i + 1 + 1 ≡ 2 * (i + 1) = omega arith in
    record {
      words = second.after seed (2 * i + 1) after ∙ ap (generator_after seed) two_more;
      packets =
          c.in_ok-push.ensures.ok
          ∙ generated-more seed i _ _ c.loop-index.packets c.in_ok-build_packet.field-0 c.loop-index.invariant.packets
          (first.word seed (2 * i) c.loop-index.invariant.words) (second.word seed (2 * i + 1) after)
          c.in_ok-build_packet.ensures;
    }

pub returns-clause-count : goal.returns-clause-count
returns-clause-count c =
    let all : c.loop-index.index ≡ c.args.n = omega arith in
    ap length c.loop-index.invariant.packets ∙ length-generated c.args.seed c.loop-index.index ∙ all

pub returns-clause-sixty_bytes : goal.returns-clause-sixty_bytes
returns-clause-sixty_bytes c =
    let P : Packet → Type 0 = λ packet. length packet.bytes ≡ 60 in
    subst (All P) (sym c.loop-index.invariant.packets)
    (generated_each P (λ i a b. length-frame (fields_of i a b)) c.args.seed c.loop-index.index)

pub returns-clause-right_checksums : goal.returns-clause-right_checksums
returns-clause-right_checksums c =
    let P : Packet → Type 0 = λ packet. HasRightChecksums packet.bytes in
    subst (All P) (sym c.loop-index.invariant.packets)
    (generated_each P (λ i a b. frame_verifies (fields_of i a b)) c.args.seed c.loop-index.index)
