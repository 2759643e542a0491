-- Abstract values and states (docs/VERIFIER.md, Abstract values to Rules at a slot).
pub mod Kinds
pub mod Groups
pub mod States
pub mod Seen
pub mod SeenStates
pub mod Pointers
pub mod Places
pub mod Reading
pub mod Rules
pub mod After
pub mod Passing
pub mod Order
pub mod Laws
pub mod Moving
pub mod Changing
pub mod Guards
