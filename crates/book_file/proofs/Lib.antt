mod Fresh
mod Handing
mod Judging
