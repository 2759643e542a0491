-- Records of a program of the user's, in place of checkers.
pub mod Ends
pub mod Records
pub mod Linked
pub mod Contradictions
pub mod Leaves
pub mod Found
pub mod Laws
pub mod Once
pub mod Rounds
