pub mod Wells
