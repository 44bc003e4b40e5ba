pub mod Decide
pub mod Laws
pub mod Complete
pub mod Leader
pub mod Says
