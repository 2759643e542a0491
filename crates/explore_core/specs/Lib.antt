-- The exploration as a list of events: jobs, the state, its events, and what holds after every list of them.
pub mod Jobs
pub mod Agreement
pub mod Cache
pub mod Lists
pub mod Counted
pub mod State
pub mod Sound
pub mod May
