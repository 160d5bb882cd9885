pub mod ParseLemmas
pub mod SendLemmas
pub mod SentRequests
pub mod Arriving
