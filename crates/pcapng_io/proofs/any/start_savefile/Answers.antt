use Rattle.std.proofs.Common.{◌≡◌, List, ℕ, ◌++◌, None, subst}
use Rattle.pcap_io.specs.Started.{Starts, TakesHeader}
use Rattle.pcapng_io.proofs.Formats.{takes_header}
use Rattle.pcapng_io.proofs.any.start_savefile.Goals as goal

pub returns-clause-header : goal.returns-clause-header
returns-clause-header c =
    let Taken : List ℕ → Type 0 =
    λ head. TakesHeader (λ (a taken b : List ℕ). a ≡ taken ++ b) c.start.result head c.start.new.source in
    takes_header c.args.head.now c.start.new.source c.start.result c.requires
    (subst Taken c.of.ensures c.start.ensures.taken)

-- a slice shows its bytes whatever the beginning
pub returns-clause-told : goal.returns-clause-told
returns-clause-told c =
    let Says : List ℕ → Type 0 = λ head. Starts head c.start.result in
    subst Says c.of.ensures (c.start.ensures.shows (λ _. None) tt)
