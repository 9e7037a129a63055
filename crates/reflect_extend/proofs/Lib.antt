mod Exclusive
mod Giving
mod Putting
mod Staying
