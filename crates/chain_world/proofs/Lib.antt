pub mod ChainLemmas
pub mod OneChain
