pub mod Pictured
pub mod Printed
pub mod Pushed
pub mod Rowed
pub mod Trees
pub mod Wholes
