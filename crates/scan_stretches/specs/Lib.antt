pub mod Told
pub mod Going
pub mod Pages
