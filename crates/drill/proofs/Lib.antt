mod ScriptLemmas
mod ReplyLemmas
mod LineLemmas
mod Served
mod Runs
