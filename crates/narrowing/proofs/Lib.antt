mod Turns
mod Ways
