use Rattle.std.proofs.Common.{◌≤◌, ◌∙◌, ◌++◌, List, ℕ, ap, subst, sym}
use Rattle.world_io.specs.Stream.{Rose}
use Rattle.packet_taps.specs.Watching.{SaysWatched}
use Rattle.packet_taps.proofs.showing.show_buffered.Goals as goal

pub returns-clause-reads : goal.returns-clause-reads
returns-clause-reads g c =
    let taken = c.show_capture-watched.ensures.reads in
    let start = ap (λ b. b.0.now) c.of-buffered.ensures in
    let name =
    ap (λ b. b.0.ghost_name) (sym c.of-buffered.ensures)
    ∙ sym taken.1.below.0
    ∙ ap (λ s. s.ghost_name) (sym c.into_inner-below.ensures) in
    let last = ap (λ s. s.now) (sym c.into_inner-below.ensures) ∙ sym (c.source-1.given.1 name) in
    let below = subst (λ s. g.S.Source.reads s taken.1.fetched c.show_capture-watched.new.source.0.now) start
    taken.1.below.1 in
    (taken.1.fetched, subst (λ s. g.S.Source.reads c.args.source.now taken.1.fetched s) last below)

pub returns-clause-goes_on : goal.returns-clause-goes_on
returns-clause-goes_on g c =
    let went = c.show_capture-watched.ensures.goes_on in
    let start = ap (λ b. b.0.now) c.of-buffered.ensures in
    let name =
    ap (λ b. b.0.ghost_name) (sym c.of-buffered.ensures)
    ∙ sym c.show_capture-watched.ensures.reads.1.below.0
    ∙ ap (λ s. s.ghost_name) (sym c.into_inner-below.ensures) in
    let last = ap (λ s. s.now) (sym c.into_inner-below.ensures) ∙ sym (c.source-1.given.1 name) in
    let later = subst (λ s. g.S.Source.faults s ≤ g.S.Source.faults c.show_capture-watched.new.source.0.now) start
    went.later in
    record {
      later = subst (λ s. g.S.Source.faults c.args.source.now ≤ g.S.Source.faults s) last later;
      stays_healthy =
          λ healthy. subst g.S.Source.healthy last (went.stays_healthy (subst g.S.Source.healthy (sym start) healthy));
    }

pub returns-clause-cause : goal.returns-clause-cause
returns-clause-cause g c = λ fault.
    let failed = c.show_capture-watched.ensures.cause fault in
    let start = ap (λ b. b.0.now) c.of-buffered.ensures in
    let name =
    ap (λ b. b.0.ghost_name) (sym c.of-buffered.ensures)
    ∙ sym c.show_capture-watched.ensures.reads.1.below.0
    ∙ ap (λ s. s.ghost_name) (sym c.into_inner-below.ensures) in
    let last = ap (λ s. s.now) (sym c.into_inner-below.ensures) ∙ sym (c.source-1.given.1 name) in
    let rose = subst (λ s. Rose (g.S.Source.faults s) (g.S.Source.faults c.show_capture-watched.new.source.0.now))
    start failed.rose in
    record {
      rose = subst (λ s. Rose (g.S.Source.faults c.args.source.now) (g.S.Source.faults s)) last rose;
      not_healthy = λ healthy. failed.not_healthy (subst g.S.Source.healthy (sym start) healthy);
    }

pub returns-clause-shown : goal.returns-clause-shown
returns-clause-shown g c =
    let shown = c.show_capture-watched.ensures.shown in
    record {
      packets = shown.packets;
      shown = shown.shown;
      told = λ p h.
          let start = ap (λ b. b.1 ++ g.S.Source.remains p b.0.now) c.of-buffered.ensures in
          let name =
          ap (λ b. b.0.ghost_name) (sym c.of-buffered.ensures)
          ∙ sym c.show_capture-watched.ensures.reads.1.below.0
          ∙ ap (λ s. s.ghost_name) (sym c.into_inner-below.ensures) in
          let last = ap (λ s. s.now) (sym c.into_inner-below.ensures) ∙ sym (c.source-1.given.1 name) in
          let here = subst (λ s. g.S.Source.honest p s) (sym last) h in
          subst (λ (left : List ℕ). SaysWatched left shown.packets c.show_capture-watched.result) start
          (shown.told p here);
    }
