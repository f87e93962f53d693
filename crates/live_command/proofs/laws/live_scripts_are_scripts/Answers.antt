use Rattle.live_command.proofs.ScriptsTold.{live_script}
use Rattle.live_command.proofs.laws.live_scripts_are_scripts.Goals as goal

pub returns : goal.returns
returns g c = record {
  scripts = λ s w new orders before after lines events script.
      live_script s _ w new orders before after lines events script;
}
