mod Changes
mod Giving
mod Hearing
mod Setting
