pub mod ShopLemmas
