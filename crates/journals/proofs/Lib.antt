pub mod Placing
pub mod Stepping
pub mod UnderWay
pub mod Lent
pub mod Allowing
pub mod Few
