use Rattle.std.proofs.Common.{◌≤◌, length, ◌∙◌, sym, arith}
use Rattle.std.proofs.lemmas.Option.{slice_get_read}
use Rattle.replay_guide.proofs.OrderLemmas.{weight_is_sum, weighs_more, weighs_lane}
use Rattle.replay_guide.proofs.lane.FollowedLane.weigh.Goals as goal

pub loop-i-preserved : goal.loop-i-preserved
loop-i-preserved c =
    let es = c.self.inside.entries.items in
    let i = c.loop-i.i in
    let e = c.index-entry.result.now in
    let len = c.len-i-end.ensures in
    let here = slice_get_read es _ i e c.self.inside.entries.ok.0 (omega arith) c.index-entry.ensures in
    let weight = weight_is_sum e c.weight.ensures.all ∙ sym c.weight.ensures.summed in
    weighs_more c.args.weighed.now.keys c.loop-i.weighed.keys c.insert.new.self.keys es i e c.weight.result here weight
    c.in_ok-insert.ensures.updates.0 c.loop-i.invariant

pub returns : goal.returns
returns c =
    let s = c.self.inside in
    let len = c.len-i-end.ensures in
    let ok = s.entries.ok.0 in
    let all : length s.entries.items ≤ c.loop-i.i = omega arith in
    rw (← c.self.view_is) (weighs_lane c.args.weighed.now.keys c.loop-i.weighed.keys s.covered s.entries.items
    c.loop-i.i all c.loop-i.invariant)
