pub mod Values
pub mod ValuePlaces
pub mod GoodColumn
