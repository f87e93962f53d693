use Rattle.std.proofs.Common.{sym, ◌∙◌, refl}
use Rattle.noted_runs.proofs.Drawn.{fault_written, kept_shown, stopped_drawn, whole_drawn}
use Rattle.noted_runs.proofs.picture.picturing.write_drawn.Goals as goal

pub returns-in-Ok-clause-cause : goal.returns-in-Ok-clause-cause
returns-in-Ok-clause-cause g c e =
    c.write_texts.ensures.cause (fault_written c.write_texts.result (sym c.written.ensures ∙ e))

pub returns-in-Ok-clause-shows : goal.returns-in-Ok-clause-shows
returns-in-Ok-clause-shows g c p h =
    whole_drawn _ _ _ c.write_texts.result _ _ _ c.in-Ok.is c.written.ensures (c.write_texts.ensures.shows p h)

pub returns-in-Err-clause-shows : goal.returns-in-Err-clause-shows
returns-in-Err-clause-shows g c p h = stopped_drawn _ _ _ _ _ _ c.in-Err.is refl (kept_shown _ _ refl)
