mod Boxes
mod Looses
mod InSlots
mod Opened
mod Sent
