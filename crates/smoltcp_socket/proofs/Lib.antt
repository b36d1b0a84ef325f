-- What the proofs of `downcast_mut` share.
pub mod LentVariant
pub mod LentKind
pub mod FoundKinds
