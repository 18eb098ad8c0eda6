pub mod PlaceNames
