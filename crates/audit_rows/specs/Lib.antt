pub mod Audit
pub mod Clients
pub mod RuleNames
pub mod Rules
