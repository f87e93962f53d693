use Rattle.live_command.proofs.WritingSteps.{script_kept}
use Rattle.live_command.proofs.writing.write_script.Goals as goal

pub returns-clause-told : goal.returns-clause-told
returns-clause-told g c p honest s names events scripted w lines before apart is h =
    script_kept s names apart events scripted w lines _ before _ h _ _ _ c.write.ensures.none c.write.ensures.count
    c.write.ensures.size (c.write.ensures.shows p honest names.script is)
