use Rattle.master_core.proofs.DeltaLemmas.{value_stays, touch_stamp_stays}
use Rattle.master_core.proofs.untouched.untouched_variables_stay.Goals as goal

pub returns : goal.returns
returns g c = record {
  value = λ m v earlier later e same. value_stays m v earlier later e same;
  stamp = λ m inputs threads v earlier later s r h e same is_s is_r.
      touch_stamp_stays m inputs threads v earlier later s r h e same is_s is_r;
}
