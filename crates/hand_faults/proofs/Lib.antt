pub mod OneFault
pub mod Places
pub mod SomeFault
pub mod TextLines
