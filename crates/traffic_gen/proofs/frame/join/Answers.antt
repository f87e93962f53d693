use Rattle.std.proofs.Common.{◌∙◌, refl, replicate}
use Rattle.traffic_gen.proofs.JoinedBytes.{put_mid_last}
use Rattle.traffic_gen.proofs.frame.join.Goals as goal

pub returns : goal.returns
returns c =
    put_mid_last 6 13 c.copy_from_slice.new.self c.copy_from_slice-2.new.self (replicate 13 (replicate 2 0))
    c.copy_from_slice.ensures.len refl
    ∙ cc (c.copy_from_slice.ensures.after, c.copy_from_slice-2.ensures.after)
