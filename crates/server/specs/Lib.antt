pub use Rattle.job_facts.specs.Store
pub use Rattle.reply_store.specs.Runs
pub use Rattle.http_requests.specs.Meant
pub mod Replies
pub mod Answers
pub mod Exchanges
pub mod Serving
pub mod Memory
