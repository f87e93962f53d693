-- Two logs that keep one set, closed in both, agree on it.
use Rattle.std.proofs.Common.{◌≡◌, ℕ, ◌<◌, List, sym, ◌∙◌, subst}
use Rattle.entry_order.specs.Log.{Entry, IsLog, IsIn, IsClosed, Keeps, PrecedesOrIs, PrecedesOutput}
use Rattle.entry_order.specs.Stamps.{IsWeight, sum_below}
use Rattle.entry_order.proofs.Order.{same_number}
use Rattle.entry_order.proofs.Weights.{count_unique, weight_is_sum}
use Rattle.entry_order.proofs.Joins.{stamp_there}
use Rattle.plain_machine.proofs.OneLine.{closed_or, closed_stamp}

pub closed_weight : (threads : ℕ) (a b set : List Entry) (e : Entry) (n : ℕ) → IsLog a → IsLog b
    → ((f : Entry) → IsIn f a → f.thread < threads) → ((f : Entry) → IsIn f b → f.thread < threads) → IsClosed a set
    → Keeps a set → IsClosed b set → Keeps b set → IsIn e set → IsWeight a e n → IsWeight b e n
closed_weight threads a b set e n la lb low_a low_b ca ka cb kb i w =
    let st = stamp_there a e la (ka e i) in
    let same : sum_below threads st.0 ≡ n = count_unique (λ f. PrecedesOrIs a f e) a (sum_below threads st.0) n
    (weight_is_sum a threads e st.0 la low_a st.1) w in
    subst (λ (k : ℕ). IsWeight b e k) same
    (weight_is_sum b threads e st.0 lb low_b (closed_stamp a b set e st.0 ca ka cb kb i st.1))

pub closed_output : (a b set : List Entry) (t n : ℕ) (last e : Entry) → IsLog a → IsClosed a set → Keeps a set
    → Keeps b set → IsIn last set → last.thread ≡ t → last.number ≡ n → PrecedesOutput a t n e → PrecedesOutput b t n e
closed_output a b set t n last e la ca ka kb i th k (g, here, gt, gn, q) =
    let one : g ≡ last = same_number a g last la here (ka last i) (gt ∙ sym th) (gn ∙ sym k) in
    (last, kb last i, th, k, closed_or a b set e last ca kb i (subst (λ (z : Entry). PrecedesOrIs a e z) one q))
