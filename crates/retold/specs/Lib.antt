-- What is told of a report that is given in place of programs.
pub mod Told
pub mod Retold
