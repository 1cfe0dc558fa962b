mod Braces
mod Converted
mod Ends
mod Once
mod Own
mod Places
