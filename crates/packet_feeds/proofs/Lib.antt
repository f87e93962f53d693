pub mod AppendLemmas
pub mod FeedLemmas
