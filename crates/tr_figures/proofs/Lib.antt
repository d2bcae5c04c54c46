pub mod Celled
pub mod Marked
pub mod Printed
pub mod Pushed
