pub mod Resolution
