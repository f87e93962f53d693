-- Which error of an input a fault of reading becomes.
use Rattle.world_io.specs.declared.beginning.FrontError.{FrontError}
use Rattle.world_io.specs.declared.beginning.FrontError.TheVariants as front
use Rattle.input_files.specs.declared.errors.InputError.{InputError}
use Rattle.input_files.specs.declared.errors.InputError.TheVariants as input

abbrev pub input_error_of : {F : Type 0} → FrontError → InputError F
input_error_of front.Failed = input.ReadFault
input_error_of front.NoMemory = input.NoMemory
