mod Ending
mod Keeping
mod Subcommands
