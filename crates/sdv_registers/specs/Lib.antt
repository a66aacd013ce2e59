pub mod Field
pub mod Status
pub mod Ocr
pub mod Csd
pub mod SdCid
pub mod EmmcCid
pub mod Scr
pub mod ExtCsd
