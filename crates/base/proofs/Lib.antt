-- Lemmas on lists that the layers above share.
pub mod Lists
