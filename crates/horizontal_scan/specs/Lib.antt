pub mod GoodPage
