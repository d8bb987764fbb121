pub mod OpenLine
pub mod BidLine
pub mod LineCall
pub mod LineSheet
