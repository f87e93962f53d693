use Rattle.std.proofs.Common.{◌∙◌, [], List, ℕ, Err, ap, subst, sym, refl, inl, inr}
use Rattle.packet_taps.specs.Watching.{SaysWatched}
use Rattle.packet_taps.proofs.Placing.{are_shown-nothing}
use Rattle.packet_taps.proofs.command.watch_file.Goals as goal

pub returns-in-Err-Failed-clause-shown : goal.returns-in-Err-Failed-clause-shown
returns-in-Err-Failed-clause-shown g c = record {
  packets = [];
  shown = are_shown-nothing _ _ _ _ c.args.deck.now;
  told = λ p h. record {
    told = inr refl;
    missing = λ healthy failed. c.in-Err-Failed.ensures.missing healthy p h (ap Err c.in-Err-Failed.field-0-is);
  };
}

pub returns-in-Err-NoMemory-clause-shown : goal.returns-in-Err-NoMemory-clause-shown
returns-in-Err-NoMemory-clause-shown g c = record {
  packets = [];
  shown = are_shown-nothing _ _ _ _ c.args.deck.now;
  told = λ p h. record { told = inr refl; missing = λ healthy failed. cc };
}

pub returns-in_default-clause-shown : goal.returns-in_default-clause-shown
returns-in_default-clause-shown g c = record {
  packets = [];
  shown = are_shown-nothing _ _ _ _ c.args.deck.now;
  told = λ p h. record { told = inr refl; missing = λ healthy failed. cc };
}

pub returns-clause-shown : goal.returns-clause-shown
returns-clause-shown g c =
    let shown = c.show_buffered.ensures.shown in
    record {
      packets = shown.packets;
      shown = shown.shown;
      told = λ p h.
          let taken = c.show_buffered.ensures.reads in
          let last = c.world-1.given.1 (sym c.of-source.ensures.same_reference ∙ sym taken.1.0) in
          let here = subst (λ w. g.W.World.honest p w) last h in
          let read = (taken.1.1.1.honest_read p here).0 in
          let opened = c.in-Ok.ensures.shows p (subst (λ w. g.W.World.honest p w) c.of-source.ensures.world read) in
          let left = ap (λ w. (g.W.World.shows p w).left c.of-source.result.file) c.of-source.ensures.world
          ∙ ap (λ (file : ℕ). (g.W.World.shows p c.open_file.new.self).left file) c.of-source.ensures.file in
          let says =
          subst (λ (bytes : List ℕ). SaysWatched bytes shown.packets c.show_buffered.result) left (shown.told p here) in
          record {
            told = inl ((g.W.World.shows p c.open_file.new.self).left c.in-Ok.file, opened.left, says);
            missing = λ healthy failed.
                let kept =
                subst (λ w. g.W.World.healthy w) (sym c.of-source.ensures.world)
                (c.in-Ok.ensures.stays_healthy healthy) in
                absurd ((c.show_buffered.ensures.cause failed).not_healthy kept);
          };
    }
