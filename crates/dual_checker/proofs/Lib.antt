mod AnchorSums
mod BySide
mod CornerMarks
mod Deciding
mod Derivings
mod Filtered
mod Fitting
pub mod GoodBounds
mod Halving
mod Judging
mod Ledgers
mod LiveLists
mod Loops
mod MarkedLines
mod Minimality
pub mod Networks
mod OwnPrices
mod PointLists
mod Rims
mod Slacks
mod TightRows
mod Tightness
mod Triangulations
