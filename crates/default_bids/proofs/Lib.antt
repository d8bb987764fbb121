pub mod SpanLaws
pub mod BidLaws
pub mod MakeUpBounds
pub mod FigureLaws
