pub mod Asking
pub mod SameAsStepping
