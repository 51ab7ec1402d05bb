pub mod OpenShop
pub mod CallsLeave
