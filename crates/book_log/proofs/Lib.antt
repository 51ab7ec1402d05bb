pub mod LastPlaces
pub mod TableCounts
pub mod Indexes
pub mod EarlierPlaces
pub mod KeyIndexes
pub mod RowSteps
pub mod LastCheckins
