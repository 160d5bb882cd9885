pub mod Texts
pub mod HeadLemmas
pub mod LineLemmas
pub mod EndLemmas
pub mod AloneLemmas
pub mod BodyLemmas
pub mod SettledLemmas
pub mod SentHeads
