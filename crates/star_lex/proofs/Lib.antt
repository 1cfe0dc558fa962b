mod Order
mod Parts
mod Places
mod Scanned
mod Signs
