mod Opened
mod Found
