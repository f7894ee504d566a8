mod Alone
mod Calls
mod Others
mod Own
