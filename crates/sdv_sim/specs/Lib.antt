pub mod SimOf
pub mod Made
