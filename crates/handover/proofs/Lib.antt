pub mod OneLine
pub mod PlaceValues
pub mod ReadBack
pub mod StagedTexts
pub mod ValuesRead
pub mod WholeImages
pub mod WrittenImages
