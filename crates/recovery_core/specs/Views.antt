-- What a system shows.
use Rattle.recovery_core.specs.declared.system.System.TheInside.{Inside}
use Rattle.recovery_core.specs.Systems.{Systemed}

abbrev pub system_in : {P V : Type 0} → Inside P V → Systemed P V
system_in y = record { parts = y.core; stopped = y.stopped; handed = y.handed; fresh = y.fresh }
