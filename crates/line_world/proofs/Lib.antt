pub mod EitherMode
pub mod Next
pub mod Standing
