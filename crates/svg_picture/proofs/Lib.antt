mod Drawing
mod Joining
mod Pieces
mod Rules
mod Searching
