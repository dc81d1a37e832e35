pub mod Views
pub mod Keys
pub mod Orders
pub mod private
