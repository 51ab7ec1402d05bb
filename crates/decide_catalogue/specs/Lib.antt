pub mod GoesBy
