use Rattle.packet_taps.proofs.Windows.{window-append}
use Rattle.packet_taps.proofs.laws.window_goes_on.Goals as goal

pub returns : goal.returns
returns c = λ skip quota first rest. window-append skip quota first rest
