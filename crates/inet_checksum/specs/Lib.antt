pub mod OnesComplement
