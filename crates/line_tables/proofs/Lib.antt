pub mod OneLine
pub mod PlaceValues
pub mod ReadBack
pub mod ValuesRead
