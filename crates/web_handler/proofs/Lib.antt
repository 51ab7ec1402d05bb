pub mod HandlerLemmas
mod FedLemmas
pub mod Streams
