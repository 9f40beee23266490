pub mod Places
pub mod OneByte
pub mod Decoding
pub mod Encoding
pub mod ReadsBack
pub mod Promised
