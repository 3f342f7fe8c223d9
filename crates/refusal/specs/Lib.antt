pub mod Faults
pub mod Printed
pub mod Refusing
pub mod Table
