pub mod Left
pub mod UntilEnd
