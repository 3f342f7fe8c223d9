pub mod UnderWay
pub mod Standing
