pub mod House
pub mod KeptAnswers
pub mod ShopView
pub mod CallsLeave
