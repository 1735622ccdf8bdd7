pub mod NothingLoose
