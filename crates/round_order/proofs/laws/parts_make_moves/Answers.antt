use Rattle.round_order.proofs.PartReceipts.{takes, emits, ends, hears_time, hears_word, touches, reads}
use Rattle.round_order.proofs.laws.parts_make_moves.Goals as goal

pub returns-clause-take : goal.returns-clause-take
returns-clause-take g c =
    λ m inputs threads past rs t part packet has none input. takes m inputs threads past rs t part has packet none input

pub returns-clause-emit : goal.returns-clause-emit
returns-clause-emit g c = λ m inputs threads past rs t part packet place has hand is.
    emits m inputs threads past rs t part has packet place hand is

pub returns-clause-end : goal.returns-clause-end
returns-clause-end g c = λ m inputs threads past rs t part packet place has hand is.
    ends m inputs threads past rs t part has packet place hand is

pub returns-clause-clock : goal.returns-clause-clock
returns-clause-clock g c = λ m inputs threads past rs t part packet place a stamp has hand is st.
    hears_time m inputs threads past rs t part has packet place hand a stamp is st

pub returns-clause-draw : goal.returns-clause-draw
returns-clause-draw g c = λ m inputs threads past rs t part packet place a stamp has hand is st.
    hears_word m inputs threads past rs t part has packet place hand a stamp is st

pub returns-clause-touch : goal.returns-clause-touch
returns-clause-touch g c = λ m inputs threads past rs t part packet place v x stamp has hand is st.
    touches m inputs threads past rs t part has packet place hand v x stamp is st

pub returns-clause-read : goal.returns-clause-read
returns-clause-read g c = λ m inputs threads past rs t part packet place v x stamp readers has hand is st joined.
    reads m inputs threads past rs t part has packet place hand v x stamp readers is st joined
