pub mod FromRunEnd
