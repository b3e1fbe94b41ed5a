pub mod NotRead
