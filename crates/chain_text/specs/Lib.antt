pub mod ChainScripts
