pub mod Inverse
pub mod Single
pub mod Items
pub mod Standing
pub mod Laid
pub mod Tokening
