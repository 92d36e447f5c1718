-- The laws of text put: numbers in decimal, Decimal and Lanes; pieces one after another, Puts and FirstOfEight; the end of a line, Lengths and
-- LineEnds; and that the promises leave one outcome, Unique.
pub mod Decimal
pub mod Lanes
pub mod Puts
pub mod FirstOfEight
pub mod Lengths
pub mod LineEnds
pub mod Unique
