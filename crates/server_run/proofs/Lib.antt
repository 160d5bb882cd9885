pub mod WordLemmas
pub mod KeptLemmas
pub mod ObservationLemmas
pub mod ServerLinesLemmas
pub mod OpeningLemmas
pub mod RunLemmas
