mod Common
mod Counts
mod Eaches
mod Moves
mod Sends
mod Serves
mod Signing
mod ToldDesks
